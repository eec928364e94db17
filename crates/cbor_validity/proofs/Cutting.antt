-- Bytes cut into items.
use Rattle.std.proofs.Common.{◌≡◌, ℕ, zero, suc, ◌-◌, ◌<◌, ◌≤◌, true, ◌⊎◌, inl, inr, List, [], ◌∷◌, ◌++◌}
use Rattle.std.proofs.Common.{length, take, drop, Result, Ok, Err, refl, sym, ap, subst, ◌∙◌, arith, IsTrue}
use Rattle.std.specs.List.{concat, AllByRecursion}
use Rattle.std.proofs.lemmas.List.{take_at, drop_at, length-append, append-nil, nil_from_length}
use Rattle.cbor_validity.specs.declared.head.Fault.{Fault}
use Rattle.cbor_validity.specs.declared.head.TheConstants.{MAX_DEPTH}
use Rattle.cbor_validity.specs.declared.head.Head.{Head}
use Rattle.cbor_validity.specs.declared.head.Head.TheVariants as head
use Rattle.std.proofs.lemmas.Bool.{false≢true}
use Rattle.cbor_validity.specs.Head.{head_at}
use Rattle.cbor_validity.specs.Item.{is_nest, item_at}
use Rattle.cbor_validity.specs.Grammar.{IsContent, IsItem}
use Rattle.cbor_validity.specs.Parts.{ends, is_item, before, cut, items_in}
use Rattle.cbor_validity.proofs.Fronts.{ok_is, head_front}
use Rattle.cbor_validity.proofs.Deeper.{deeper}
use Rattle.cbor_validity.proofs.Reading.{Taken, Reads, item_reads}

pub either : {A : Type 0} (r : Result A Fault) → ((x : A) × (r ≡ Ok x)) ⊎ ((f : Fault) × (r ≡ Err f))
either (Ok x) = inl (x, refl)
either (Err f) = inr (f, refl)

pub cut_nil : (read : List ℕ → Result (List ℕ) Fault) (turns : ℕ) → cut read turns [] ≡ []
unfolding cut
cut_nil read zero = refl
cut_nil read (suc turns) = refl

cut_ok : (read : List ℕ → Result (List ℕ) Fault) (turns b : ℕ) (bytes rest : List ℕ)
    → read (b ∷ bytes) ≡ Ok rest
    → cut read (suc turns) (b ∷ bytes) ≡ before rest (b ∷ bytes) ∷ cut read turns rest
unfolding cut
cut_ok read turns b bytes rest e = rw e refl

cut_err : (read : List ℕ → Result (List ℕ) Fault) (turns b : ℕ) (bytes : List ℕ) (f : Fault)
    → read (b ∷ bytes) ≡ Err f → cut read (suc turns) (b ∷ bytes) ≡ []
unfolding cut
cut_err read turns b bytes f e = rw e refl

module _ (read : List ℕ → Result (List ℕ) Fault) (Part : List ℕ → Type 0) (reads : Reads read Part) where
  part_length : (part : List ℕ) → Part part → 0 < length part
  part_length part h = let b = reads.begins part h in omega (arith, ap length b.is)

  pub is_shorter : (bytes rest : List ℕ) → read bytes ≡ Ok rest → length rest < length bytes
  is_shorter bytes rest e =
      let t = reads.takes bytes rest e in
      omega (arith, part_length t.part t.is_part, ap length t.whole, length-append t.part rest)

  before_is : (bytes rest : List ℕ) (t : Taken Part bytes rest) → before rest bytes ≡ t.part
  before_is bytes rest t =
      let len : length bytes - length rest ≡ length t.part =
      omega (arith, ap length t.whole, length-append t.part rest) in
      ap (λ (x : List ℕ). take (length bytes - length rest) x) t.whole
      ∙ take_at t.part rest (length bytes - length rest) (sym len)

  pub is_part_before : (bytes rest : List ℕ) → read bytes ≡ Ok rest → Part (before rest bytes)
  is_part_before bytes rest e = let t =
      reads.takes bytes rest e in subst Part (sym (before_is bytes rest t)) t.is_part

  pub rest_is : (bytes rest : List ℕ) → read bytes ≡ Ok rest → drop (length bytes - length rest) bytes ≡ rest
  rest_is bytes rest e =
      let t = reads.takes bytes rest e in
      let len : length bytes - length rest ≡ length t.part =
      omega (arith, ap length t.whole, length-append t.part rest) in
      ap (λ (x : List ℕ). drop (length bytes - length rest) x) t.whole
      ∙ drop_at t.part rest (length bytes - length rest) (sym len)

  -- turns that suffice give the same
  pub cut_turns : (j k : ℕ) (bytes : List ℕ) → length bytes ≤ j → length bytes ≤ k
      → cut read j bytes ≡ cut read k bytes
  cut_turns j k [] p q = cut_nil read j ∙ sym (cut_nil read k)
  cut_turns zero k (b ∷ bytes) p q = absurd (omega arith)
  cut_turns (suc j) zero (b ∷ bytes) p q = absurd (omega arith)
  cut_turns (suc j) (suc k) (b ∷ bytes) p q =
      elim (either (read (b ∷ bytes))) [
        | inl r ↦
            let less : length r.0 < length (b ∷ bytes) = is_shorter (b ∷ bytes) r.0 r.1 in
            cut_ok read j b bytes r.0 r.1 ∙ ap (λ (x : List (List ℕ)). before r.0 (b ∷ bytes) ∷ x)
            (cut_turns j k r.0 (omega arith) (omega arith)) ∙ sym (cut_ok read k b bytes r.0 r.1)
        | inr r ↦ cut_err read j b bytes r.0 r.1 ∙ sym (cut_err read k b bytes r.0 r.1)
      ]

  pub cut_first : (bytes rest : List ℕ) → read bytes ≡ Ok rest
      → cut read (length bytes) bytes ≡ before rest bytes ∷ cut read (length rest) rest
  cut_first [] rest e = absurd (let less = is_shorter [] rest e in omega arith)
  cut_first (b ∷ bytes) rest e =
      let less : length rest < length (b ∷ bytes) = is_shorter (b ∷ bytes) rest e in
      cut_ok read (length bytes) b bytes rest e ∙ ap (λ (x : List (List ℕ)). before rest (b ∷ bytes) ∷ x)
      (cut_turns (length bytes) (length rest) rest (omega arith) (omega arith))

  pub cut_none : (bytes : List ℕ) (f : Fault) → read bytes ≡ Err f → cut read (length bytes) bytes ≡ []
  cut_none [] f e = cut_nil read 0
  cut_none (b ∷ bytes) f e = cut_err read (length bytes) b bytes f e

  -- parts one after another are cut into these parts
  pub cut_parts : (parts : List (List ℕ)) → AllByRecursion Part parts
      → cut read (length (concat parts)) (concat parts) ≡ parts
  cut_parts [] all = cut_nil read 0
  cut_parts (p ∷ ps) all =
      let e = reads.again p (concat ps) all.0 in
      let part_is : before (concat ps) (p ++ concat ps) ≡ p =
      take_at p (concat ps) _ (omega (arith, length-append p (concat ps))) in
      cut_first (p ++ concat ps) (concat ps) e
      ∙ ap (λ (x : List ℕ). x ∷ cut read (length (concat ps)) (concat ps)) part_is
      ∙ ap (λ (x : List (List ℕ)). p ∷ x) (cut_parts ps all.1)

-- ---- items

pub items_nil : (bytes : List ℕ) → length bytes ≡ 0 → items_in bytes ≡ []
unfolding items_in
items_nil bytes e = let nothing : bytes ≡ [] =
    nil_from_length bytes e in rw nothing (cut_nil (item_at MAX_DEPTH) 0)

pub items_none : (bytes : List ℕ) (f : Fault) → item_at MAX_DEPTH bytes ≡ Err f → items_in bytes ≡ []
unfolding items_in
items_none bytes f e = cut_none (item_at MAX_DEPTH) (IsItem MAX_DEPTH) (item_reads MAX_DEPTH) bytes f e

pub items_first : (bytes rest front back : List ℕ) → item_at MAX_DEPTH bytes ≡ Ok rest
    → front ≡ take (length bytes - length rest) bytes → back ≡ drop (length bytes - length rest) bytes
    → items_in bytes ≡ front ∷ items_in back
unfolding items_in
items_first bytes rest front back e f b =
    let back_is : back ≡ rest =
    b ∙ rest_is (item_at MAX_DEPTH) (IsItem MAX_DEPTH) (item_reads MAX_DEPTH) bytes rest e in
    cut_first (item_at MAX_DEPTH) (IsItem MAX_DEPTH) (item_reads MAX_DEPTH) bytes rest e
    ∙ rw (f, back_is) refl

pub item_shorter : (bytes rest : List ℕ) → item_at MAX_DEPTH bytes ≡ Ok rest → length rest < length bytes
item_shorter = is_shorter (item_at MAX_DEPTH) (IsItem MAX_DEPTH) (item_reads MAX_DEPTH)

-- the test and the grammar say the same
pub item_from_grammar : (bytes : List ℕ) → IsItem MAX_DEPTH bytes → IsTrue (is_item bytes)
unfolding is_item
item_from_grammar bytes i =
    let e : item_at MAX_DEPTH bytes ≡ Ok [] = ap (item_at MAX_DEPTH) (sym (append-nil bytes))
    ∙ (item_reads MAX_DEPTH).again bytes [] i in
    rw e refl

ends_ok : (r : Result (List ℕ) Fault) → ends r ≡ true → r ≡ Ok []
ends_ok (Ok []) e = refl
ends_ok (Ok (b ∷ bytes)) e = absurd cc
ends_ok (Err f) e = absurd cc

pub grammar_from_item : (bytes : List ℕ) → IsTrue (is_item bytes) → IsItem MAX_DEPTH bytes
unfolding is_item
grammar_from_item bytes e =
    let t = (item_reads MAX_DEPTH).takes bytes [] (ends_ok (item_at MAX_DEPTH bytes) e) in
    subst (IsItem MAX_DEPTH) (sym (t.whole ∙ append-nil t.part)) t.is_part

pub front_is_item : (bytes rest front : List ℕ) → item_at MAX_DEPTH bytes ≡ Ok rest
    → front ≡ take (length bytes - length rest) bytes → IsTrue (is_item front)
front_is_item bytes rest front e f =
    item_from_grammar front
    (subst (IsItem MAX_DEPTH) (sym f)
    (is_part_before (item_at MAX_DEPTH) (IsItem MAX_DEPTH) (item_reads MAX_DEPTH) bytes rest e))

pub first_shorter : (depth : ℕ) (bytes rest : List ℕ) → item_at depth bytes ≡ Ok rest
    → length rest < length bytes
first_shorter depth = is_shorter (item_at depth) (IsItem depth) (item_reads depth)

pub first_is_item : (depth : ℕ) (bytes rest front : List ℕ) → depth ≤ MAX_DEPTH
    → item_at depth bytes ≡ Ok rest → front ≡ take (length bytes - length rest) bytes → IsTrue (is_item front)
first_is_item depth bytes rest front le e f =
    item_from_grammar front
    (deeper depth MAX_DEPTH front le
    (subst (IsItem depth) (sym f)
    (is_part_before (item_at depth) (IsItem depth) (item_reads depth) bytes rest e)))

head_is : (h : Head) (front back : List ℕ) → head_at front ≡ Ok (h, [])
    → head_at (front ++ back) ≡ Ok (h, back)
head_is h front back e =
    let f = head_front front h [] e in
    let grouped : front ++ back ≡ f.first ∷ (f.others ++ back) =
    ap (λ (x : List ℕ). x ++ back) (f.parts ∙ ap (λ (x : List ℕ). f.first ∷ x) (append-nil f.others)) in
    ap head_at grouped ∙ f.again back

-- what a tag is on is an item
tagged_is_item : (limit n : ℕ) (bytes back : List ℕ) → IsItem limit bytes
    → head_at bytes ≡ Ok (head.Tag n, back) → IsItem limit back
tagged_is_item zero n bytes back i e =
    let same : (i.0, i.2) ≡ (head.Tag n, back) =
    ok_is _ _ (sym (head_is i.0 i.1 i.2 i.4) ∙ ap head_at (sym i.6) ∙ e) in
    let nest : is_nest i.0 ≡ true = ap (λ (p : Head × List ℕ). is_nest p.0) same in
    absurd (false≢true (sym i.3 ∙ nest))
tagged_is_item (suc depth) n bytes back i e =
    let same : (i.0, i.2) ≡ (head.Tag n, back) =
    ok_is _ _ (sym (head_is i.0 i.1 i.2 i.4) ∙ ap head_at (sym i.6) ∙ e) in
    let inside : IsItem depth back =
    subst (λ (p : Head × List ℕ). IsContent (IsItem depth) p.0 p.1) same i.5 in
    deeper depth (suc depth) back (omega arith) inside

pub tagged : (n : ℕ) (bytes back : List ℕ) → IsTrue (is_item bytes) → head_at bytes ≡ Ok (head.Tag n, back)
    → IsTrue (is_item back)
tagged n bytes back i e =
    item_from_grammar back (tagged_is_item MAX_DEPTH n bytes back (grammar_from_item bytes i) e)
