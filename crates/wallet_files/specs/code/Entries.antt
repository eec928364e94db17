-- What the code has read of a wallet file.
use Rattle.std.specs.Prelude.{ℕ, List, string_bytes}
use denote.Ref.{Bor}
use Rattle.claim_tree.specs.declared.facts.Format.{Format}
use Rattle.wallet_files.specs.declared.wallet.Entry as code
use Rattle.wallet_files.specs.Wallet.{Entry, entry}

abbrev pub meant : code.Entry → Entry
meant e = entry e.format (string_bytes e.file)

abbrev pub meant_parts : Format × Bor (List ℕ) → Entry
meant_parts p = entry p.0 p.1.now
