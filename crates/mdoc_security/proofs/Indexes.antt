-- Indexes by name and by number, into which entries are put.
use Rattle.std.proofs.Common.{◌≡◌, ℕ, ◌==◌, Bool, true, false, cond, Option, Some, None, option_map, nat_cmp}
use Rattle.std.proofs.Common.{refl, sym, ap, ◌∙◌, arith, Bor, BTreeMap}
use Rattle.std.specs.Option.{option_or, option_map_or}
use Rattle.std.specs.BTreeMap as tree
use Rattle.std.specs.Ordering.{is_eq}
use Rattle.std.specs.Cmp.Lexicographic.{slice_cmp}
use Rattle.std.specs.Str.{bytes_eq}
use Rattle.std.proofs.lemmas.Bool.Decides.{nat_tests}
use Rattle.std.proofs.lemmas.Map.Text.{is_eq-slice_cmp}
use Rattle.cbor_core.specs.declared.item.Item.{Item}
use Rattle.cbor_core.specs.Seen.{span_of}
use Rattle.cbor_core.specs.Views.{Span, bytes_of, utf8_text_of}
use Rattle.mdoc_items.specs.MapFields.{Utf8, is_named, natural_of}
use Rattle.mdoc_security.specs.ValueDigests.{is_numbered}
use Rattle.mdoc_security.specs.code.Indexes.{seek, look}

-- one entry, with the others after it
pub one_before : {X : Type 0} (rest here o : Option X)
    → option_or rest (option_or here o) ≡ option_or (option_or rest here) o
one_before None here o = refl
one_before (Some x) here o = refl

-- what an update gives, seen through f
seen : {X Y : Type 0} (f : X → Y) (b : Bool) (v : X) (o : Option X)
    → option_map f (cond b (Some v) o) ≡ option_or (cond b (Some (f v)) None) (option_map f o)
seen f true v o = refl
seen f false v o = refl

-- ---- by name

abbrev pub namespace_of : Span → Span → Utf8 → Option Span
namespace_of key namespace x = cond (is_named x key) (Some namespace) None

pub put_named : (name : Bor Utf8) (namespace : Item) (m n : BTreeMap (Bor Utf8) Item) (key : Span)
    → tree.UpdatesBy (λ x y. slice_cmp nat_cmp x.now y.now) (λ k. slice_cmp nat_cmp name.now k.now) m n
    (Some namespace) → utf8_text_of key ≡ Some name.now
    → (x : Utf8) → seek x n ≡ option_or (namespace_of key (span_of namespace) x) (seek x m)
put_named name namespace m n key updates named x =
    let q : Bor Utf8 = record { ref_ptr = (0, 0); now = x } in
    ap (option_map span_of) (updates.0 q)
    ∙ seen span_of (is_eq (slice_cmp nat_cmp name.now x)) namespace
    (tree.get (λ (x y : Bor Utf8). slice_cmp nat_cmp x.now y.now) m q)
    ∙ ap (λ b. option_or (cond b (Some (span_of namespace)) None) (seek x m)) (is_eq-slice_cmp name.now x)
    ∙ ap (λ k. option_or
    (cond (option_map_or (λ text. bytes_eq text x) k false) (Some (span_of namespace)) None) (seek x m))
    (sym named)

-- ---- by number

abbrev pub digest_of : Span → Span → ℕ → Option Utf8
digest_of key value x = cond (is_numbered x key) (bytes_of value) None

is_eq_number : (x y : ℕ) → is_eq (nat_cmp x y) ≡ (x == y)
is_eq_number x y = grind (arith, nat_tests)

pub put_numbered : (number : ℕ) (digest : Bor Utf8) (m n : BTreeMap ℕ (Bor Utf8)) (key value : Span)
    → tree.UpdatesBy nat_cmp (nat_cmp number) m n (Some digest) → natural_of key ≡ Some number
    → bytes_of value ≡ Some digest.now
    → (x : ℕ) → look x n ≡ option_or (digest_of key value x) (look x m)
put_numbered number digest m n key value updates numbered is x =
    ap (option_map (λ d. d.now)) (updates.0 x)
    ∙ seen (λ (d : Bor Utf8). d.now) (is_eq (nat_cmp number x)) digest (tree.get nat_cmp m x)
    ∙ ap (λ b. option_or (cond b (Some digest.now) None) (look x m)) (is_eq_number number x)
    ∙ ap (λ k. option_or (cond (option_map_or (λ n. n == x) k false) (Some digest.now) None) (look x m))
    (sym numbered)
    ∙ ap (λ d. option_or (cond (is_numbered x key) d None) (look x m)) (sym is)
