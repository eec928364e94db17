use Rattle.std.proofs.Common.{◌≡◌, refl, ap, ◌∙◌, map}
use Rattle.std.specs.Ordering.{eq_by_cmp}
use Rattle.std.proofs.lemmas.Map.Text.{is_eq-slice_cmp}
use Rattle.cbor_validity.specs.declared.key.Key.{Key}
use Rattle.cbor_validity.specs.declared.key.Key.TheVariants.{Whole, Text, Bytes, Other}
use Rattle.cbor_validity.specs.contracts.key.KeyOrd.TheImpl.{cmp-value}
use Rattle.cbor_validity.specs.contracts.key.KeyOrd.TheImpl.Laws.{total-law}
use Rattle.cbor_validity.specs.Keys.{same_key, neighbours_differ}
use Rattle.cbor_validity.specs.code.KeySeen.{meaning_of}
use Rattle.cbor_validity.proofs.Keys.{neighbours_decide}
use Rattle.cbor_validity.proofs.key.are_different.Goals as goal

-- the order of keys ties those that are the same
same : (a b : Key) → eq_by_cmp cmp-value.it a b ≡ same_key (meaning_of a) (meaning_of b)
same (Whole y) (Whole z) = refl
same (Text s) (Text t) = is_eq-slice_cmp s.now t.now
same (Bytes s) (Bytes t) = is_eq-slice_cmp s.now t.now
same (Other s) (Other t) = is_eq-slice_cmp s.now t.now
same (Whole y) (Text t) = refl
same (Whole y) (Bytes t) = refl
same (Whole y) (Other t) = refl
same (Text s) (Whole z) = refl
same (Text s) (Bytes t) = refl
same (Text s) (Other t) = refl
same (Bytes s) (Whole z) = refl
same (Bytes s) (Text t) = refl
same (Bytes s) (Other t) = refl
same (Other s) (Whole z) = refl
same (Other s) (Text t) = refl
same (Other s) (Bytes t) = refl

pub returns : goal.returns
returns c =
    c.neighbours_differ.ensures
    ∙ ap (λ ks. neighbours_differ (map meaning_of ks)) c.deref.ensures.value
    ∙ neighbours_decide _ total-law meaning_of same c.args.keys.items c.sort_unstable.new.self.items
    c.sort_unstable.ensures.permutation c.sort_unstable.ensures.sorted
