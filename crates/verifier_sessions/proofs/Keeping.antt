-- A table keeps what a history says, before and after an event.
use Rattle.std.proofs.Common.{◌≡◌, ℕ, refl, ap, sym, ◌∙◌, ◌≤◌, max, Bool, true, false, List, ◌∷◌, Option}
use Rattle.std.proofs.Common.{Some, None, option_map, is_none, if◌then◌else◌, arith, bytes_eq, ◌+◌, []}
use Rattle.std.proofs.Common.{length}
use Rattle.std.proofs.Common.{subst, string_cmp, true≢false, is_some}
use Rattle.std.specs.BTreeMap.{get_by_text, btree_map_len, IsOrdered}
use Rattle.verifier_sessions.specs.declared.table.Table.{Table}
use Rattle.verifier_sessions.specs.History.{Text, History, Told, Event, Open, Post, Look, latest, counted}
use Rattle.verifier_sessions.specs.History.{rule_of, told, kept, is_kept}
use Rattle.verifier_sessions.specs.Stands.{events_of, last_opening, answers, since_opening, refusals}
use Rattle.verifier_sessions.specs.Stands.{is_accepted, stand_among, nonce_among}
use Rattle.verifier_sessions.specs.Table.{StandsFor}
use Rattle.verifier_sessions.specs.code.Keeps.{Keeps}
use Rattle.verifier_sessions.specs.code.Queue.{is_full, kept_count, id_text, nonce_text}
use Rattle.verifier_sessions.specs.code.Queue.{moment_at, FitsQueue, Adds}
use Rattle.verifier_sessions.specs.code.Records.{Record, record_among, record_of, drawn, held, record_in}
use Rattle.verifier_sessions.specs.code.Records.{kept_record, kept_moment, record_stand, record_nonce}
use Rattle.verifier_sessions.specs.code.Records.{posted, fresh}
use Rattle.verifier_sessions.proofs.Posted.{stand_capped, opened-posted}
use Rattle.verifier_sessions.proofs.Queue.{fits-same}
use Rattle.verifier_sessions.proofs.Rules.{has_room}
use Rattle.verifier_sessions.proofs.Sizes.{no_more}
use Rattle.verifier_sessions.proofs.Later.{
  records_later,
  moments_later,
  records_posted,
  record_stand-kept,
  record_nonce-kept,
}
use Rattle.verifier_sessions.proofs.Steps.{
  record_of-look,
  record_of-post,
  record_of-refused,
  record_of-open,
  drawn-refused,
  drawn-open,
  kept-refused,
  kept-open,
}

-- The stand and the nonce of an id are those of its record.
pub record_stand-among : (now : ℕ) (ts : List Told) (o : Option Told) → record_stand now (record_among ts o)
    ≡ stand_among now ts o
record_stand-among now ts None = refl
record_stand-among now ts (Some t) =
    stand_capped now t.moment (refusals (answers t.moment (since_opening ts)))
    (is_accepted (answers t.moment (since_opening ts)))

record_nonce-among : (now : ℕ) (ts : List Told) (o : Option Told) → record_nonce now (record_among ts o)
    ≡ nonce_among now o
record_nonce-among now ts None = refl
record_nonce-among now ts (Some t) = refl

-- A table that keeps what a history says stands for it.
pub stands_for : (t : Table) (h : History) → Keeps t h → StandsFor t h
stands_for t h k = record {
  latest_is = k.latest_is;
  stands_are = λ moment id.
      sym (record_stand-kept t.latest (max moment t.latest) (held t.sessions id) (omega arith))
      ∙ (ap (record_stand (max moment t.latest)) (k.sessions_are id)
      ∙ (record_stand-kept t.latest (max moment t.latest) (record_of h id) (omega arith)
      ∙ (ap (λ l. record_stand (max moment l) (record_of h id)) k.latest_is
      ∙ record_stand-among (counted moment h) (events_of id h) (last_opening (events_of id h)))));
  nonces_are = λ moment id.
      sym (record_nonce-kept t.latest (max moment t.latest) (held t.sessions id) (omega arith))
      ∙ (ap (record_nonce (max moment t.latest)) (k.sessions_are id)
      ∙ (record_nonce-kept t.latest (max moment t.latest) (record_of h id) (omega arith)
      ∙ (ap (λ l. record_nonce (max moment l) (record_of h id)) k.latest_is
      ∙ record_nonce-among (counted moment h) (events_of id h) (last_opening (events_of id h)))));
  few_sessions =
      let most : btree_map_len t.sessions ≤ length t.openings.items =
      no_more id_text t.openings.items t.sessions (moment_at t.sessions) (λ s. s.opened)
      (λ q s e. ap (λ o. option_map (λ r. r.opened) (option_map record_in o)) e)
      k.fits.sessions_ordered k.fits.ids_are in
      omega (arith, k.few);
  few_nonces =
      let most : btree_map_len t.nonces ≤ length t.openings.items =
      no_more nonce_text t.openings.items t.nonces (get_by_text t.nonces) (λ m. m) (λ q m e. e)
      k.fits.nonces_ordered k.fits.nonces_are in
      omega (arith, k.few);
  keeps = k;
}

-- What is the same where it is kept at the latest moment is so at a later one.
kept_later : (t : Table) (h : History) (now : ℕ) → Keeps t h → t.latest ≤ now → (id : Text)
    → kept_record now (held t.sessions id) ≡ kept_record now (record_of h id)
kept_later t h now k le id = records_later t.latest now (held t.sessions id) (record_of h id) le
    (k.sessions_are id)

drawn_later : (t : Table) (h : History) (now : ℕ) → Keeps t h → t.latest ≤ now → (q : Text)
    → kept_moment now (get_by_text t.nonces q) ≡ kept_moment now (drawn h q)
drawn_later t h now k le q = moments_later t.latest now (get_by_text t.nonces q) (drawn h q) le
    (k.nonces_are q)

-- The latest moment after an event.
latest_after : (t : Table) (h : History) (m : ℕ) → Keeps t h → max m t.latest ≡ max m (latest h)
latest_after t h m k = ap (max m) k.latest_is

-- After an event that opens nothing and leaves the queue, and every session and nonce where it is kept.
keeps-queue : (t n : Table) (h : History) (m : ℕ) (e : Event) → Keeps t h → n.latest ≡ max m t.latest
    → ((id : Text) → kept_record n.latest (held n.sessions id)
    ≡ kept_record n.latest (record_of ((m, e) ∷ h) id))
    → ((q : Text) → kept_moment n.latest (get_by_text n.nonces q)
    ≡ kept_moment n.latest (drawn ((m, e) ∷ h) q))
    → ((now : ℕ) → kept now (told ((m, e) ∷ h)) ≡ kept now (told h))
    → n.openings ≡ t.openings → FitsQueue n.latest n.sessions n.nonces t.openings.items
    → Keeps n ((m, e) ∷ h)
keeps-queue t n h m e k l s d same o f = record {
  latest_is = l ∙ latest_after t h m k;
  sessions_are = s;
  nonces_are = d;
  counts_are = λ now le. ap (λ q. kept_count now q.items) o
      ∙ (k.counts_are now (let g : n.latest ≡ max m t.latest = l in omega arith)
      ∙ sym (ap length (same now)));
  few = subst (λ q. length q.items ≤ 1024) (sym o) k.few;
  fits = subst (λ q. FitsQueue n.latest n.sessions n.nonces q.items) (sym o) f;
}

-- After an event that leaves every session and nonce.
keeps-same : (t n : Table) (h : History) (m : ℕ) (e : Event) → Keeps t h → n.latest ≡ max m t.latest
    → n.sessions ≡ t.sessions → n.nonces ≡ t.nonces → n.openings ≡ t.openings
    → ((id : Text) → record_of ((m, e) ∷ h) id ≡ record_of h id)
    → ((q : Text) → drawn ((m, e) ∷ h) q ≡ drawn h q)
    → ((now : ℕ) → kept now (told ((m, e) ∷ h)) ≡ kept now (told h)) → Keeps n ((m, e) ∷ h)
keeps-same t n h m e k l s d o r w same =
    let le : t.latest ≤ n.latest = let g : n.latest ≡ max m t.latest = l in omega arith in
    keeps-queue t n h m e k l
    (λ id. ap (λ x. kept_record n.latest (held x id)) s
    ∙ (kept_later t h n.latest k le id ∙ ap (kept_record n.latest) (sym (r id))))
    (λ q. ap (λ x. kept_moment n.latest (get_by_text x q)) d
    ∙ (drawn_later t h n.latest k le q ∙ ap (kept_moment n.latest) (sym (w q))))
    same o
    (fits-same t.latest n.latest t.openings.items t.sessions n.sessions t.nonces n.nonces le
    (λ q. ap (λ x. moment_at x q) s) (λ q. ap (λ x. get_by_text x q) d)
    (λ f. subst (IsOrdered string_cmp) (sym s) f) (λ f. subst (IsOrdered string_cmp) (sym d) f) k.fits)

pub keeps-look : (t n : Table) (h : History) (m : ℕ) (id : Text) → Keeps t h
    → n ≡ record t { latest = max m t.latest } → Keeps n ((m, Look id) ∷ h)
keeps-look t n h m id k is =
    keeps-same t n h m (Look id) k (ap (λ x. x.latest) is) (ap (λ x. x.sessions) is) (ap (λ x. x.nonces) is)
    (ap (λ x. x.openings) is) (record_of-look h m id) (λ q. refl) (λ now. refl)

pub keeps-refused : (t n : Table) (h : History) (m : ℕ) (i w : Text) → Keeps t h
    → n ≡ record t { latest = max m t.latest } → is_none (rule_of h m i w) ≡ false
    → Keeps n ((m, Open i w) ∷ h)
keeps-refused t n h m i w k is r =
    keeps-same t n h m (Open i w) k (ap (λ x. x.latest) is) (ap (λ x. x.sessions) is) (ap (λ x. x.nonces) is)
    (ap (λ x. x.openings) is) (λ q. record_of-refused h m i w q r) (λ q. drawn-refused h m i w q r)
    (λ now. kept-refused h m i w now r)

-- After a post.
pub keeps-post : (t n : Table) (h : History) (m : ℕ) (i : Text) (a : Bool) → Keeps t h → n.latest
    ≡ max m t.latest → n.nonces ≡ t.nonces → n.openings ≡ t.openings
    → (IsOrdered string_cmp t.sessions → IsOrdered string_cmp n.sessions)
    → ((q : Text) → held n.sessions q
    ≡ (if bytes_eq i q then option_map (posted (max m t.latest) a) (held t.sessions q) else held
    t.sessions q))
    → Keeps n ((m, Post i a) ∷ h)
keeps-post t n h m i a k l d o ordered s = keeps-queue t n h m (Post i a) k l
    (λ q. rw (s q, record_of-post h m i a q, l, ← latest_after t h m k) (either q (bytes_eq i q)))
    (λ q. rw l (ap (λ x. kept_moment (max m t.latest) (get_by_text x q)) d
    ∙ drawn_later t h (max m t.latest) k (omega arith) q))
    (λ now. refl) o
    (fits-same t.latest n.latest t.openings.items t.sessions n.sessions t.nonces n.nonces
    (let g : n.latest ≡ max m t.latest = l in omega arith)
    (λ q. ap (option_map (λ r. r.opened)) (s q) ∙ moments q (bytes_eq i q) (held t.sessions q))
    (λ q. ap (λ x. get_by_text x q) d) ordered (λ f. subst (IsOrdered string_cmp) (sym d) f) k.fits) where
      either : (q : Text) (b : Bool)
          → kept_record (max m t.latest) (if b then option_map (posted (max m t.latest) a)
          (held t.sessions q) else held t.sessions q)
          ≡ kept_record (max m t.latest) (if b then option_map (posted (max m t.latest) a) (record_of h q)
          else record_of h q)
      either q true = records_posted (max m t.latest) a (held t.sessions q) (record_of h q)
          (kept_later t h (max m t.latest) k (omega arith) q)
      either q false = kept_later t h (max m t.latest) k (omega arith) q

      moments : (q : Text) (b : Bool) (r : Option Record)
          → option_map (λ r. r.opened) (if b then option_map (posted (max m t.latest) a) r else r)
          ≡ option_map (λ r. r.opened) r
      moments q true None = refl
      moments q true (Some r) = ap Some (opened-posted (max m t.latest) a r)
      moments q false r = refl

-- After an opening that began a session.
pub keeps-open : (t n : Table) (h : History) (m : ℕ) (i w : Text) → Keeps t h → n.latest ≡ max m t.latest
    → is_none (rule_of h m i w) ≡ true
    → ((q : Text) → kept_record (max m t.latest) (held n.sessions q)
    ≡ kept_record (max m t.latest) (if bytes_eq i q then Some (fresh w (max m t.latest)) else held
    t.sessions q))
    → ((q : Text) → kept_moment (max m t.latest) (get_by_text n.nonces q)
    ≡ kept_moment (max m t.latest) (if bytes_eq w q then Some (max m t.latest) else get_by_text t.nonces q))
    → Adds (max m t.latest) t.openings.items n.openings.items
    → (is_full (max m t.latest) t.openings.items ≡ false → t.latest ≤ max m t.latest
    → FitsQueue t.latest t.sessions t.nonces t.openings.items
    → FitsQueue (max m t.latest) n.sessions n.nonces n.openings.items)
    → Keeps n ((m, Open i w) ∷ h)
keeps-open t n h m i w k l r s d o f = record {
  latest_is = l ∙ latest_after t h m k;
  sessions_are = λ q. rw l (s q ∙ (session q (bytes_eq i q)
      ∙ ap (kept_record (max m t.latest)) (sym (now_is q ∙ refl))));
  nonces_are = λ q. rw l (d q ∙ (drawing q (bytes_eq w q)
      ∙ ap (kept_moment (max m t.latest)) (sym (drawn_is q))));
  counts_are = λ now le. (o room k.few).1 now (rw l at le)
      ∙ (ap (λ x. (if is_kept now (max m t.latest) then 1 else 0) + x)
      (k.counts_are now (let g : max m t.latest ≤ now = rw l at le in omega arith))
      ∙ (ap (λ x. (if is_kept now x then 1 else 0) + length (kept now (told h))) (latest_after t h m k)
      ∙ sym (kept-open h m i w now r)));
  few = (o room k.few).0;
  fits = rw l (f room (omega arith) k.fits);
} where
  room : is_full (max m t.latest) t.openings.items ≡ false
  room = has_room t h m i w k r

  now_is : (q : Text) → record_of ((m, Open i w) ∷ h) q
      ≡ (if bytes_eq i q then Some (fresh w (max m t.latest)) else record_of h q)
  now_is q = record_of-open h m i w q r
      ∙ ap (λ x. if bytes_eq i q then Some (fresh w x) else record_of h q) (sym (latest_after t h m k))

  drawn_is : (q : Text) → drawn ((m, Open i w) ∷ h) q
      ≡ (if bytes_eq w q then Some (max m t.latest) else drawn h q)
  drawn_is q = drawn-open h m i w q r
      ∙ ap (λ x. if bytes_eq w q then Some x else drawn h q) (sym (latest_after t h m k))

  session : (q : Text) (b : Bool)
      → kept_record (max m t.latest) (if b then Some (fresh w (max m t.latest)) else held t.sessions q)
      ≡ kept_record (max m t.latest) (if b then Some (fresh w (max m t.latest)) else record_of h q)
  session q true = refl
  session q false = kept_later t h (max m t.latest) k (omega arith) q

  drawing : (q : Text) (b : Bool)
      → kept_moment (max m t.latest) (if b then Some (max m t.latest) else get_by_text t.nonces q)
      ≡ kept_moment (max m t.latest) (if b then Some (max m t.latest) else drawn h q)
  drawing q true = refl
  drawing q false = drawn_later t h (max m t.latest) k (omega arith) q

-- After want of memory, where nothing changed.
pub keeps-unchanged : (t n : Table) (h : History) → Keeps t h → n.latest ≡ t.latest
    → ((id : Text) → held n.sessions id ≡ held t.sessions id)
    → ((q : Text) → get_by_text n.nonces q ≡ get_by_text t.nonces q)
    → n.openings.items ≡ t.openings.items
    → (IsOrdered string_cmp t.sessions → IsOrdered string_cmp n.sessions)
    → (IsOrdered string_cmp t.nonces → IsOrdered string_cmp n.nonces) → Keeps n h
keeps-unchanged t n h k l s d o so dr = record {
  latest_is = l ∙ k.latest_is;
  sessions_are = λ id. rw l (ap (kept_record t.latest) (s id) ∙ k.sessions_are id);
  nonces_are = λ q. rw l (ap (kept_moment t.latest) (d q) ∙ k.nonces_are q);
  counts_are = λ now le. ap (kept_count now) o ∙ k.counts_are now (rw l at le);
  few = rw o k.few;
  fits = rw (l, o) (fits-same t.latest t.latest t.openings.items t.sessions n.sessions t.nonces n.nonces
      (omega arith) (λ q. ap (option_map (λ r. r.opened)) (s q)) d so dr k.fits);
}

-- A new table.
pub keeps-new : (t : Table) → t.latest ≡ 0 → t.sessions.entries ≡ [] → t.nonces.entries ≡ []
    → t.openings.items ≡ [] → IsOrdered string_cmp t.sessions → IsOrdered string_cmp t.nonces → Keeps t []
keeps-new t l s d o so dr = record {
  latest_is = l;
  sessions_are = λ id. rw s refl;
  nonces_are = λ q. rw d refl;
  counts_are = λ now le. rw o refl;
  few = rw o (omega arith);
  fits = record {
    ids_are = λ q m e. absurd (true≢false (sym (ap is_some (rw s at e))));
    nonces_are = λ q m e. absurd (true≢false (sym (ap is_some (rw d at e))));
    ascend = rw o tt;
    sessions_ordered = so;
    nonces_ordered = dr;
  };
}
