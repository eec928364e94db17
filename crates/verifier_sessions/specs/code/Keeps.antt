-- That a table keeps what it needs to go on. Only the crate's own proofs read this.
use Rattle.std.specs.Prelude.{ℕ, ◌≡◌, ◌≤◌, length}
use Rattle.std.specs.BTreeMap.{get_by_text}
use Rattle.verifier_sessions.specs.declared.table.Table.{Table}
use Rattle.verifier_sessions.specs.History.{Text, History, told, latest, kept}
use Rattle.verifier_sessions.specs.code.Records.{record_of, drawn, held, kept_record, kept_moment}
use Rattle.verifier_sessions.specs.code.Queue.{kept_count, FitsQueue}

-- A table keeps what a history says of each id and each nonce. Its queue has at most 1,024 openings, as many
-- that are kept as the history has, and its maps hold nothing that is not of one of them.
pub record Keeps (t : Table) (h : History) : Type 0 where
  pub latest_is : t.latest ≡ latest h
  pub sessions_are : (id : Text) → kept_record t.latest (held t.sessions id)
      ≡ kept_record t.latest (record_of h id)
  pub nonces_are : (nonce : Text) → kept_moment t.latest (get_by_text t.nonces nonce)
      ≡ kept_moment t.latest (drawn h nonce)
  pub counts_are : (now : ℕ) → t.latest ≤ now → kept_count now t.openings.items
      ≡ length (kept now (told h))
  pub few : length t.openings.items ≤ 1024
  pub fits : FitsQueue t.latest t.sessions t.nonces t.openings.items
