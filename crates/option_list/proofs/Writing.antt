-- A token, written one entry after the other.
use Rattle.std.proofs.Common.{◌≡◌, ℕ, List, [], ◌∷◌, ◌++◌, map, refl, ap, ◌∙◌, append_assoc}
use Rattle.std.specs.List.{join_with_byte}
use Rattle.option_list.specs.Token.{Entry, entry_text, entries_text}
use Rattle.option_list.specs.code.Writing.{added}

joined_onto : (x y : List ℕ) (ts : List (List ℕ))
    → join_with_byte 43 ((x ++ 43 ∷ y) ∷ ts) ≡ x ++ 43 ∷ join_with_byte 43 (y ∷ ts)
joined_onto x y [] = refl
joined_onto x y (t ∷ ts) = append_assoc x (43 ∷ y) (43 ∷ join_with_byte 43 (t ∷ ts))

-- a text with a byte, and entries after it
added_after : (b : ℕ) (bs : List ℕ) (es : List Entry)
    → added (b ∷ bs) es ≡ join_with_byte 43 ((b ∷ bs) ∷ map entry_text es)
added_after b bs [] = refl
added_after b bs (e ∷ es) =
    let next : ((b ∷ bs) ++ 43 ∷ []) ++ entry_text e ≡ b ∷ (bs ++ 43 ∷ entry_text e) =
    append_assoc (b ∷ bs) (43 ∷ []) (entry_text e) in
    ap (λ t. added t es) next ∙ added_after b (bs ++ 43 ∷ entry_text e) es
    ∙ joined_onto (b ∷ bs) (entry_text e) (map entry_text es)

begun : (text : List ℕ) (i : List ℕ) (rest : List ℕ) (es : List Entry) → text ≡ i ++ 58 ∷ rest
    → added text es ≡ join_with_byte 43 (text ∷ map entry_text es)
begun [] [] rest es h = absurd (cc h)
begun [] (j ∷ i) rest es h = absurd (cc h)
begun (b ∷ bs) i rest es h = added_after b bs es

pub added_all : (es : List Entry) → added [] es ≡ entries_text es
added_all [] = refl
added_all (e ∷ es) = begun (entry_text e) e.id _ es refl
