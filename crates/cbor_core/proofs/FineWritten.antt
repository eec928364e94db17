-- What is written from valid items is valid, one level deeper (RFC 8949, sections 4.2.1 and 5.3.1).
use Rattle.std.proofs.Common.{◌≡◌, ℕ, suc, ◌<◌, ◌≤◌, ◌^◌, ◌&&◌, Bool, true, false, List, [], ◌∷◌, ◌++◌}
use Rattle.std.proofs.Common.{length, Some, refl, sym, ap, ◌∙◌, pos, negsuc, arith, inl, inr}
use Rattle.std.specs.Prelude.{ℤ}
use Rattle.std.specs.List.{concat, AllByRecursion, list_all}
use Rattle.std.specs.Str.{is_utf8}
use Rattle.std.proofs.lemmas.Bool.{and_from}
use Rattle.std.proofs.lemmas.List.{append-nil}
use Rattle.cbor_validity.specs.declared.head.TheConstants.{MAX_DEPTH}
use Rattle.cbor_validity.specs.declared.head.Head.TheVariants as head
use Rattle.cbor_validity.specs.Head.{argument_at, head_of, head_at}
use Rattle.cbor_validity.specs.Grammar.{IsItem}
use Rattle.cbor_validity.specs.Keys.{keys_differ, keys_in}
use Rattle.cbor_core.specs.Laws.{IsWhole}
use Rattle.cbor_core.specs.Views.{items_in, pair_up, inside_of}
use Rattle.cbor_core.specs.Rules.{each_below, is_fine_item}
use Rattle.cbor_writer.specs.Writing.{head_bytes, whole_bytes, text_bytes, byte_string_bytes, truth_bytes}
use Rattle.cbor_writer.specs.Writing.{null_bytes, pairs_bytes}
use Rattle.cbor_validity.proofs.Deeper.{deeper, all_weaker}
use Rattle.cbor_validity.proofs.Inside.{text_fine, list_fine, flat_fine, map_fine}
use Rattle.cbor_core.proofs.Fine.{IsFine, items_are, all_inside}
use Rattle.cbor_core.proofs.Written.{head_again, head_alone, unsigned_of, negative_of, text_head_of}
use Rattle.cbor_core.proofs.Written.{byte_string_head_of, list_head_of, map_head_of, tag_head_of, in_turn}
use Rattle.cbor_core.proofs.Written.{in_turn_concat, in_turn_pairs, reads_whole, reads_bytes, reads_text}
use Rattle.cbor_core.proofs.Written.{reads_truth, reads_null, reads_tag, reads_list, reads_map}

-- ---- what is put together

below_all : (depth : ℕ) (xs : List (List ℕ)) → AllByRecursion (IsFine depth) xs
    → list_all (each_below is_fine_item (suc depth)) xs ≡ true
below_all depth xs all = all_inside depth xs all

pub fine_text_written : (depth : ℕ) (text : List ℕ) → length text < 2 ^ 64 → is_utf8 text ≡ true
    → IsFine depth (text_bytes text)
fine_text_written depth text lt u =
    let n = length text in
    let h = head_again 3 n text (head.Text n) lt (text_head_of n) in
    record {
      item = deeper 0 depth (text_bytes text) (omega arith) (reads_text text lt).0;
      inside = text_fine depth n (text_bytes text) (text_bytes text) text (head.Text n) refl h refl ∙ u;
    }

weak_items : (depth : ℕ) (xs : List (List ℕ)) → AllByRecursion (IsFine depth) xs
    → AllByRecursion (IsItem depth) xs
weak_items depth xs all = all_weaker (IsFine depth) (IsItem depth) (λ b f. f.item) xs all

pub fine_list_written : (depth : ℕ) (items : List (List ℕ)) → depth < MAX_DEPTH → length items < 2 ^ 64
    → AllByRecursion (IsFine depth) items → IsFine (suc depth) (head_bytes 4 (length items) ++ concat items)
unfolding inside_of
fine_list_written depth items le lt all =
    let n = length items in
    let bytes = head_bytes 4 n ++ concat items in
    let h = head_again 4 n (concat items) (head.List (Some n)) lt (list_head_of n) in
    let parts : items_in (inside_of bytes) ≡ items = ap items_in (rw h refl)
    ∙ items_are depth (omega arith) items (weak_items depth items all) in
    record {
      item = (reads_list depth items le lt (weak_items depth items all)).0;
      inside = list_fine (suc depth) bytes bytes (concat items) (head.List (Some n)) refl h
          (inl (Some n, refl)) ∙ ap (list_all (each_below is_fine_item (suc depth))) parts
          ∙ below_all depth items all;
    }

abbrev pub AreFinePairs : ℕ → List (List ℕ × List ℕ) → Type 0
AreFinePairs depth pairs = AllByRecursion (λ p. IsFine depth p.0 × IsFine depth p.1) pairs

in_turn_fine : (depth : ℕ) (pairs : List (List ℕ × List ℕ)) → AreFinePairs depth pairs
    → AllByRecursion (IsFine depth) (in_turn pairs)
in_turn_fine depth [] all = tt
in_turn_fine depth (p ∷ ps) all = (all.0.0, (all.0.1, in_turn_fine depth ps all.1))

pub pair_items : (depth : ℕ) (pairs : List (List ℕ × List ℕ)) → AreFinePairs depth pairs
    → AllByRecursion (λ p. IsItem depth p.0 × IsItem depth p.1) pairs
pair_items depth [] all = tt
pair_items depth (p ∷ ps) all = (((all.0.0).item, (all.0.1).item), pair_items depth ps all.1)

pub fine_map_written : (depth : ℕ) (pairs : List (List ℕ × List ℕ)) → depth < MAX_DEPTH
    → length pairs < 2 ^ 64 → AreFinePairs depth pairs → keys_differ (keys_in pairs) ≡ true
    → IsFine (suc depth) (head_bytes 5 (length pairs) ++ pairs_bytes pairs)
unfolding inside_of
fine_map_written depth pairs le lt all keys =
    let n = length pairs in
    let bytes = head_bytes 5 n ++ pairs_bytes pairs in
    let h = head_again 5 n (pairs_bytes pairs) (head.Map (Some n)) lt (map_head_of n) in
    let turns = in_turn_fine depth pairs all in
    let parts : items_in (inside_of bytes) ≡ in_turn pairs = ap items_in (rw h (in_turn_concat pairs))
    ∙ items_are depth (omega arith) (in_turn pairs) (weak_items depth (in_turn pairs) turns) in
    record {
      item = (reads_map depth pairs le lt (pair_items depth pairs all)).0;
      inside = map_fine (suc depth) bytes bytes (pairs_bytes pairs) (Some n) (head.Map (Some n)) refl h refl
          ∙ ap (λ (xs : List (List ℕ)). list_all (each_below is_fine_item (suc depth)) xs && keys_differ
          (keys_in (pair_up xs))) parts
          ∙ and_from (list_all (each_below is_fine_item (suc depth)) (in_turn pairs))
          (keys_differ (keys_in (pair_up (in_turn pairs)))) (below_all depth (in_turn pairs) turns)
          (ap (λ (ps : List (List ℕ × List ℕ)). keys_differ (keys_in ps)) (in_turn_pairs pairs) ∙ keys);
    }

-- ---- leaves and tags

pub fine_whole_written : (depth : ℕ) (z : ℤ) → IsWhole z → IsFine depth (whole_bytes z)
fine_whole_written depth (pos n) lt = record {
  item = deeper 0 depth (head_bytes 0 n) (omega arith) (reads_whole (pos n) lt).0;
  inside = flat_fine depth (head_bytes 0 n) (head_bytes 0 n) [] (head.Unsigned n) refl
      (head_alone 0 n (head.Unsigned n) lt (unsigned_of n)) (inl (n, refl));
}
fine_whole_written depth (negsuc n) lt = record {
  item = deeper 0 depth (head_bytes 1 n) (omega arith) (reads_whole (negsuc n) lt).0;
  inside = flat_fine depth (head_bytes 1 n) (head_bytes 1 n) [] (head.Negative n) refl
      (head_alone 1 n (head.Negative n) lt (negative_of n)) (inr (inl (n, refl)));
}

pub fine_truth_written : (depth : ℕ) (b : Bool) → IsFine depth (truth_bytes b)
unfolding head_at argument_at head_of
fine_truth_written depth true = record {
  item = deeper 0 depth (truth_bytes true) (omega arith) (reads_truth true).0;
  inside = flat_fine depth (truth_bytes true) (truth_bytes true) [] (head.Simple 21) refl refl
      (inr (inr (inr (inl (21, refl)))));
}
fine_truth_written depth false = record {
  item = deeper 0 depth (truth_bytes false) (omega arith) (reads_truth false).0;
  inside = flat_fine depth (truth_bytes false) (truth_bytes false) [] (head.Simple 20) refl refl
      (inr (inr (inr (inl (20, refl)))));
}

pub fine_null_written : (depth : ℕ) → IsFine depth null_bytes
unfolding head_at argument_at head_of
fine_null_written depth = record {
  item = deeper 0 depth null_bytes (omega arith) reads_null.0;
  inside = flat_fine depth null_bytes null_bytes [] (head.Simple 22) refl refl
      (inr (inr (inr (inl (22, refl)))));
}

pub fine_bytes_written : (depth : ℕ) (content : List ℕ) → length content < 2 ^ 64
    → IsFine depth (byte_string_bytes content)
fine_bytes_written depth content lt =
    let n = length content in
    let h = head_again 2 n content (head.Bytes n) lt (byte_string_head_of n) in
    record {
      item = deeper 0 depth (byte_string_bytes content) (omega arith) (reads_bytes content lt).0;
      inside = flat_fine depth (byte_string_bytes content) (byte_string_bytes content) content
          (head.Bytes n) refl h (inr (inr (inl (n, refl))));
    }

pub fine_tag_written : (depth : ℕ) → depth ≤ MAX_DEPTH → (n : ℕ) (inner : List ℕ) → n < 2 ^ 64
    → IsFine depth inner → IsFine (suc depth) (head_bytes 6 n ++ inner)
unfolding inside_of
fine_tag_written depth le n inner lt f =
    let bytes = head_bytes 6 n ++ inner in
    let h = head_again 6 n inner (head.Tag n) lt (tag_head_of n) in
    let parts : items_in (inside_of bytes) ≡ inner ∷ [] = ap items_in (rw h (sym (append-nil inner)))
    ∙ items_are depth le (inner ∷ []) (f.item, tt) in
    record {
      item = (reads_tag depth n inner lt f.item).0;
      inside = list_fine (suc depth) bytes bytes inner (head.Tag n) refl h (inr (n, refl))
          ∙ ap (list_all (each_below is_fine_item (suc depth))) parts ∙ below_all depth (inner ∷ []) (f, tt);
    }
