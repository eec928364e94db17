-- Items whose head is one byte, which holds their argument.
use Rattle.std.proofs.Common.{◌≡◌, ℕ, zero, suc, ◌/◌, ◌%◌, ◌<◌, ◌≤◌, true, false, ltb, eqb, List, ◌∷◌}
use Rattle.std.proofs.Common.{Ok, refl, ap, ◌∙◌, arith}
use Rattle.std.proofs.lemmas.Bool.{lt-ltb, ne_eqb}
use Rattle.cbor_validity.specs.declared.head.Head.{Head}
use Rattle.cbor_validity.specs.declared.head.Head.TheVariants as head
use Rattle.cbor_validity.specs.Head.{◌>>=◌, argument_at, head_of, head_at}
use Rattle.cbor_validity.specs.Item.{behind, string_at, item_at}

small_head : (first : ℕ) (rest : List ℕ) → first % 32 < 24
    → head_at (first ∷ rest) ≡ (head_of (first / 32) (first % 32) (first % 32) >>= λ h. Ok (h, rest))
unfolding head_at argument_at
small_head first rest lt =
    let closed : eqb (first % 32) 31 ≡ false = ne_eqb (first % 32) 31 (λ e. absurd (omega arith)) in
    let small : ltb (first % 32) 24 ≡ true = lt-ltb (first % 32) 24 lt in
    rw (closed, small) refl

said_head : (first : ℕ) (rest : List ℕ) (h : Head) → first % 32 < 24
    → head_of (first / 32) (first % 32) (first % 32) ≡ Ok h → head_at (first ∷ rest) ≡ Ok (h, rest)
said_head first rest h lt e = small_head first rest lt ∙ rw e refl

said_head-at : (first m : ℕ) (rest : List ℕ) (h : Head) → first / 32 ≡ m → first % 32 < 24
    → head_of m (first % 32) (first % 32) ≡ Ok h → head_at (first ∷ rest) ≡ Ok (h, rest)
said_head-at first m rest h is lt e =
    said_head first rest h lt (ap (λ (major : ℕ). head_of major (first % 32) (first % 32)) is ∙ e)

flat : (depth n : ℕ) (bytes rest : List ℕ) → head_at bytes ≡ Ok (head.Unsigned n, rest)
    → item_at depth bytes ≡ Ok rest
unfolding item_at behind
flat zero n bytes rest e = rw e refl
flat (suc depth) n bytes rest e = rw e refl

negative : (depth n : ℕ) (bytes rest : List ℕ) → head_at bytes ≡ Ok (head.Negative n, rest)
    → item_at depth bytes ≡ Ok rest
unfolding item_at behind
negative zero n bytes rest e = rw e refl
negative (suc depth) n bytes rest e = rw e refl

byte_string : (depth n : ℕ) (bytes rest : List ℕ) → head_at bytes ≡ Ok (head.Bytes n, rest)
    → item_at depth bytes ≡ string_at n rest
unfolding item_at behind
byte_string zero n bytes rest e = rw e refl
byte_string (suc depth) n bytes rest e = rw e refl

text : (depth n : ℕ) (bytes rest : List ℕ) → head_at bytes ≡ Ok (head.Text n, rest)
    → item_at depth bytes ≡ string_at n rest
unfolding item_at behind
text zero n bytes rest e = rw e refl
text (suc depth) n bytes rest e = rw e refl

whole_at : (m depth first : ℕ) (rest : List ℕ) → first / 32 ≡ m → first % 32 < 24 → m < 2
    → item_at depth (first ∷ rest) ≡ Ok rest
unfolding head_of
whole_at zero depth first rest is lt less =
    flat depth (first % 32) (first ∷ rest) rest
    (said_head-at first 0 rest (head.Unsigned (first % 32)) is lt refl)
whole_at (suc zero) depth first rest is lt less =
    negative depth (first % 32) (first ∷ rest) rest
    (said_head-at first 1 rest (head.Negative (first % 32)) is lt refl)
whole_at (suc (suc m)) depth first rest is lt less = absurd (omega arith)

string_is : (m depth first : ℕ) (rest : List ℕ) → first / 32 ≡ m → first % 32 < 24 → 2 ≤ m → m < 4
    → item_at depth (first ∷ rest) ≡ string_at (first % 32) rest
unfolding head_of
string_is zero depth first rest is lt least less = absurd (omega arith)
string_is (suc zero) depth first rest is lt least less = absurd (omega arith)
string_is (suc (suc zero)) depth first rest is lt least less =
    byte_string depth (first % 32) (first ∷ rest) rest
    (said_head-at first 2 rest (head.Bytes (first % 32)) is lt refl)
string_is (suc (suc (suc zero))) depth first rest is lt least less =
    text depth (first % 32) (first ∷ rest) rest
    (said_head-at first 3 rest (head.Text (first % 32)) is lt refl)
string_is (suc (suc (suc (suc m)))) depth first rest is lt least less = absurd (omega arith)

pub small_whole : (depth first : ℕ) (bytes rest : List ℕ) → bytes ≡ first ∷ rest → first % 32 < 24
    → first < 64 → item_at depth bytes ≡ Ok rest
small_whole depth first bytes rest is lt less =
    ap (item_at depth) is ∙ whole_at (first / 32) depth first rest refl lt (omega arith)

pub small_string : (depth first : ℕ) (bytes rest : List ℕ) → bytes ≡ first ∷ rest → first % 32 < 24
    → 64 ≤ first → first < 128 → item_at depth bytes ≡ string_at (first % 32) rest
small_string depth first bytes rest is lt least less =
    ap (item_at depth) is ∙ string_is (first / 32) depth first rest refl lt (omega arith) (omega arith)
