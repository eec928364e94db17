-- What is read is in the grammar, and what is in the grammar is read again, whatever follows.
use Rattle.std.proofs.Common.{◌≡◌, ◌≢◌, ℕ, zero, suc, ◌<◌, ◌≤◌, false, cond, ltb, eqb, inl, inr, List, []}
use Rattle.std.proofs.Common.{◌∷◌, ◌++◌, length, take, drop, Some, None, Result, Ok, Err, refl, sym, ap}
use Rattle.std.proofs.Common.{subst, ◌∙◌, append_assoc, arith}
use Rattle.std.specs.List.{concat, AllByRecursion}
use Rattle.std.proofs.lemmas.Bool.{ltb-false, le-ltb, eqb-true, ne_eqb}
use Rattle.std.proofs.lemmas.List.{drop_at, take-append-drop, length-append, length-take-le, append-nil}
use Rattle.cbor_validity.specs.declared.head.Fault.{Fault}
use Rattle.cbor_validity.specs.declared.head.Fault.TheVariants.{Short, Reserved, Deep}
use Rattle.cbor_validity.specs.declared.head.Head.{Head}
use Rattle.cbor_validity.specs.declared.head.Head.TheVariants as head
use Rattle.cbor_validity.specs.Head.{◌>>=◌, head_at, open_head_of}
use Rattle.cbor_validity.specs.Item.{string_at, pair_at, times, up_to_break, is_nest, behind, too_deep}
use Rattle.cbor_validity.specs.Item.{item_at}
use Rattle.cbor_validity.specs.Grammar.{IsPair, AreParts, AreOpenParts, IsContent, IsHeaded, IsItem}
use Rattle.cbor_validity.proofs.Fronts.{chosen, bind_ok, done, ok_is, not_ok, head_front}

-- the front of bytes is in the language
pub record Taken (Part : List ℕ → Type 0) (bytes rest : List ℕ) : Type 0 where
  pub part : List ℕ
  pub is_part : Part part
  pub whole : bytes ≡ part ++ rest

-- there is a first byte, and it is no break
pub record Begins (bytes : List ℕ) : Type 0 where
  pub first : ℕ
  pub others : List ℕ
  pub is : bytes ≡ first ∷ others
  pub no_break : first ≢ 255

-- The reader reads what is in the language, and nothing else.
pub record Reads (read : List ℕ → Result (List ℕ) Fault) (Part : List ℕ → Type 0) : Type 0 where
  pub takes : (bytes rest : List ℕ) → read bytes ≡ Ok rest → Taken Part bytes rest
  pub again : (part more : List ℕ) → Part part → read (part ++ more) ≡ Ok more
  pub begins : (part : List ℕ) → Part part → Begins part

pub too_deep_reads : Reads too_deep (λ _. ⊥)
too_deep_reads = record {
  takes = λ bytes rest e. absurd (not_ok Deep rest e);
  again = λ part more h. absurd h;
  begins = λ part h. absurd h;
}

module _ (read : List ℕ → Result (List ℕ) Fault) (Part : List ℕ → Type 0) (reads : Reads read Part) where
  pub pair_reads : Reads (pair_at read) (IsPair Part)
  pair_reads = record {
    takes = λ bytes rest e.
        let s = bind_ok (read bytes) read rest e in
        let key = reads.takes bytes s.0 s.1 in
        let value = reads.takes s.0 rest s.2 in
        record {
          part = key.part ++ value.part;
          is_part = (key.part, value.part, key.is_part, value.is_part, refl);
          whole = key.whole ∙ ap (λ (x : List ℕ). key.part ++ x) value.whole
              ∙ sym (append_assoc key.part value.part rest);
        };
    again = λ part more h.
        let grouped : part ++ more ≡ h.0 ++ (h.1 ++ more) = ap (λ (x : List ℕ). x ++ more) h.4
        ∙ append_assoc h.0 h.1 more in
        ap (pair_at read) grouped ∙ rw (reads.again h.0 (h.1 ++ more) h.2) (reads.again h.1 more h.3);
    begins = λ part h.
        let b = reads.begins h.0 h.2 in
        record {
          first = b.first;
          others = b.others ++ h.1;
          is = h.4
              ∙ ap (λ (x : List ℕ). x ++ h.1) b.is;
          no_break = b.no_break;
        };
  }

  pub times_takes : (n : ℕ) (bytes rest : List ℕ) → times read n bytes ≡ Ok rest
      → Taken (AreParts Part n) bytes rest
  unfolding times
  times_takes zero bytes rest e =
      record { part = []; is_part = ([], tt, refl, refl); whole = ok_is bytes rest e }
  times_takes (suc n) bytes rest e =
      let s = bind_ok (read bytes) (times read n) rest e in
      let first = reads.takes bytes s.0 s.1 in
      let others = times_takes n s.0 rest s.2 in
      record {
        part = first.part ++ others.part;
        is_part = (
          first.part ∷ others.is_part.0,
          (first.is_part, others.is_part.1),
          ap suc others.is_part.2,
          ap (λ (x : List ℕ). first.part ++ x) others.is_part.3,
        );
        whole = first.whole ∙ ap (λ (x : List ℕ). first.part ++ x) others.whole
            ∙ sym (append_assoc first.part others.part rest);
      }

  pub times_again : (parts : List (List ℕ)) (more : List ℕ) → AllByRecursion Part parts
      → times read (length parts) (concat parts ++ more) ≡ Ok more
  unfolding times
  times_again [] more all = refl
  times_again (p ∷ ps) more all =
      let grouped : concat (p ∷ ps) ++ more ≡ p ++ (concat ps ++ more) = append_assoc p (concat ps) more in
      ap (times read (suc (length ps))) grouped
      ∙ rw (reads.again p (concat ps ++ more) all.0) (times_again ps more all.1)

  pub break_takes : (turns : ℕ) (bytes rest : List ℕ) → up_to_break read turns bytes ≡ Ok rest
      → Taken (AreOpenParts Part) bytes rest
  unfolding up_to_break
  break_takes zero [] rest e = absurd (not_ok Short rest e)
  break_takes zero (b ∷ bytes) rest e = absurd (not_ok Short rest e)
  break_takes (suc turns) [] rest e = absurd (not_ok Short rest e)
  break_takes (suc turns) (b ∷ bytes) rest e =
      elim (chosen (eqb b 255) (Ok bytes) (read (b ∷ bytes) >>= up_to_break read turns) (Ok rest) e) [
        | inl c ↦
            let b-is : b ≡ 255 = eqb-true b 255 c.0 in
            record {
              part = 255 ∷ [];
              is_part = ([], tt, refl);
              whole = ap (λ (x : ℕ). x ∷ bytes) b-is
                  ∙ ap (λ (x : List ℕ). 255 ∷ x) (ok_is bytes rest c.1);
            }
        | inr c ↦
            let s = bind_ok (read (b ∷ bytes)) (up_to_break read turns) rest c.1 in
            let first = reads.takes (b ∷ bytes) s.0 s.1 in
            let others = break_takes turns s.0 rest s.2 in
            record {
              part = first.part ++ others.part;
              is_part = (
                first.part ∷ others.is_part.0,
                (first.is_part, others.is_part.1),
                ap (λ (x : List ℕ). first.part ++ x) others.is_part.2
                    ∙ sym (append_assoc first.part (concat others.is_part.0) (255 ∷ [])),
              );
              whole = first.whole ∙ ap (λ (x : List ℕ). first.part ++ x) others.whole
                  ∙ sym (append_assoc first.part others.part rest);
            }
      ]

  break_next : (turns : ℕ) (part more : List ℕ) → Part part
      → up_to_break read (suc turns) (part ++ more) ≡ up_to_break read turns more
  unfolding up_to_break
  break_next turns part more h =
      let b = reads.begins part h in
      let test : eqb b.first 255 ≡ false = ne_eqb b.first 255 b.no_break in
      let is : part ++ more ≡ b.first ∷ (b.others ++ more) = ap (λ (x : List ℕ). x ++ more) b.is in
      let next : read (b.first ∷ (b.others ++ more)) ≡ Ok more = ap read (sym is) ∙ reads.again part more h in
      ap (up_to_break read (suc turns)) is ∙ rw (test, next) refl

  part_length : (part : List ℕ) → Part part → 0 < length part
  part_length part h = let b = reads.begins part h in omega (arith, ap length b.is)

  pub break_again : (parts : List (List ℕ)) (more : List ℕ) (turns : ℕ) → AllByRecursion Part parts
      → length (concat parts) < turns → up_to_break read turns (concat parts ++ (255 ∷ more)) ≡ Ok more
  unfolding up_to_break
  break_again [] more zero all lt = absurd (omega arith)
  break_again [] more (suc turns) all lt = refl
  break_again (p ∷ ps) more zero all lt = absurd (omega arith)
  break_again (p ∷ ps) more (suc turns) all lt =
      let grouped : concat (p ∷ ps) ++ (255 ∷ more) ≡ p ++ (concat ps ++ (255 ∷ more)) =
      append_assoc p (concat ps) (255 ∷ more) in
      let some : 0 < length p = part_length p all.0 in
      let fewer : length (concat ps) < turns = omega (arith, length-append p (concat ps)) in
      ap (up_to_break read (suc turns)) grouped ∙ break_next turns p (concat ps ++ (255 ∷ more)) all.0
      ∙ break_again ps more turns all.1 fewer

pub string_takes : (n : ℕ) (bytes rest : List ℕ) → string_at n bytes ≡ Ok rest
    → Taken (λ x. length x ≡ n) bytes rest
unfolding string_at
string_takes n bytes rest e =
    elim (chosen (ltb (length bytes) n) (Err Short) (Ok (drop n bytes)) (Ok rest) e) [
      | inl c ↦ absurd (not_ok Short rest c.1)
      | inr c ↦
          let long : n ≤ length bytes = ltb-false _ _ c.0 in
          record {
            part = take n bytes;
            is_part = length-take-le n bytes long;
            whole = sym
                (take-append-drop n bytes)
                ∙ ap (λ (x : List ℕ). take n bytes ++ x) (ok_is (drop n bytes) rest c.1);
          }
    ]

string_again : (n : ℕ) (back more : List ℕ) → length back ≡ n → string_at n (back ++ more) ≡ Ok more
unfolding string_at
string_again n back more len =
    let enough : ltb (length (back ++ more)) n ≡ false =
    le-ltb _ _ (omega (arith, length-append back more)) in
    rw (enough, drop_at back more n len) refl

nothing_taken : (bytes rest : List ℕ) → done bytes ≡ done rest → Taken (λ x. x ≡ []) bytes rest
nothing_taken bytes rest e = record { part = []; is_part = refl; whole = ok_is bytes rest e }

module _ (read : List ℕ → Result (List ℕ) Fault) (Part : List ℕ → Type 0) (reads : Reads read Part) where
  content_takes : (h : Head) (bytes rest : List ℕ) → behind read h bytes ≡ Ok rest
      → Taken (IsContent Part h) bytes rest
  unfolding behind
  content_takes (head.Unsigned n) bytes rest e = nothing_taken bytes rest e
  content_takes (head.Negative n) bytes rest e = nothing_taken bytes rest e
  content_takes (head.Bytes n) bytes rest e = string_takes n bytes rest e
  content_takes (head.Text n) bytes rest e = string_takes n bytes rest e
  content_takes (head.List (Some n)) bytes rest e = times_takes read Part reads n bytes rest e
  content_takes (head.List None) bytes rest e = break_takes read Part reads (length bytes) bytes rest e
  content_takes (head.Map (Some n)) bytes rest e =
      times_takes (pair_at read) (IsPair Part) (pair_reads read Part reads) n bytes rest e
  content_takes (head.Map None) bytes rest e =
      break_takes (pair_at read) (IsPair Part) (pair_reads read Part reads) (length bytes) bytes rest e
  content_takes (head.Tag n) bytes rest e = reads.takes bytes rest e
  content_takes (head.Simple n) bytes rest e = nothing_taken bytes rest e
  content_takes head.Float bytes rest e = nothing_taken bytes rest e
  content_takes head.Break bytes rest e = absurd (not_ok Reserved rest e)

  content_again : (h : Head) (back more : List ℕ) → IsContent Part h back
      → behind read h (back ++ more) ≡ Ok more
  unfolding behind
  content_again (head.Unsigned n) back more c = rw c refl
  content_again (head.Negative n) back more c = rw c refl
  content_again (head.Bytes n) back more c = string_again n back more c
  content_again (head.Text n) back more c = string_again n back more c
  content_again (head.List (Some n)) back more c = rw (c.3, ← c.2) (times_again read Part reads c.0 more c.1)
  content_again (head.List None) back more c =
      let grouped : back ++ more ≡ concat c.0 ++ (255 ∷ more) = ap (λ (x : List ℕ). x ++ more) c.2
      ∙ append_assoc (concat c.0) (255 ∷ []) more in
      ap (λ (x : List ℕ). up_to_break read (length x) x) grouped
      ∙ break_again read Part reads c.0 more (length (concat c.0 ++ (255 ∷ more))) c.1
      (omega (arith, length-append (concat c.0) (255 ∷ more)))
  content_again (head.Map (Some n)) back more c =
      rw (c.3, ← c.2) (times_again (pair_at read) (IsPair Part) (pair_reads read Part reads) c.0 more c.1)
  content_again (head.Map None) back more c =
      let grouped : back ++ more ≡ concat c.0 ++ (255 ∷ more) = ap (λ (x : List ℕ). x ++ more) c.2
      ∙ append_assoc (concat c.0) (255 ∷ []) more in
      ap (λ (x : List ℕ). up_to_break (pair_at read) (length x) x) grouped
      ∙ break_again (pair_at read) (IsPair Part) (pair_reads read Part reads) c.0 more
      (length (concat c.0 ++ (255 ∷ more))) c.1 (omega (arith, length-append (concat c.0) (255 ∷ more)))
  content_again (head.Tag n) back more c = reads.again back more c
  content_again (head.Simple n) back more c = rw c refl
  content_again head.Float back more c = rw c refl
  content_again head.Break back more c = absurd c

-- a break is the head 255
break_head : (more : List ℕ) → head_at (255 ∷ more) ≡ Ok (head.Break, more)
unfolding head_at open_head_of
break_head more = refl

empty_head : (h : Head) → head_at [] ≡ Ok (h, []) → ⊥
unfolding head_at
empty_head h e = not_ok Short (h, []) e

-- what begins with a head that has content begins, and with no break
headed_begins : (Part : List ℕ → Type 0) (Allowed : Head → Type 0) (bytes : List ℕ)
    → IsHeaded Part Allowed bytes → Begins bytes
headed_begins Part Allowed bytes i =
    let h = i.0 in
    let front = i.1 in
    let back = i.2 in
    let f = head_front front h [] i.4 in
    record {
      first = f.first;
      others = (f.others ++ []) ++ back;
      is = i.6 ∙ ap (λ (x : List ℕ). x ++ back) f.parts;
      no_break = λ e.
          let broken : head_at (255 ∷ (f.others ++ [])) ≡ Ok (h, []) =
          subst (λ (b : ℕ). head_at (b ∷ (f.others ++ [])) ≡ Ok (h, [])) e (f.again []) in
          let same : (head.Break, f.others ++ []) ≡ (h, []) =
          ok_is _ _ (sym (break_head (f.others ++ [])) ∙ broken) in
          let is_break : head.Break ≡ h = ap (λ (p : Head × List ℕ). p.0) same in
          subst (λ (x : Head). IsContent Part x back) (sym is_break) i.5;
    }

pub item_reads : (depth : ℕ) → Reads (item_at depth) (IsItem depth)
unfolding item_at
item_reads zero = record {
  takes = λ bytes rest e.
      let s = bind_ok (head_at bytes)
      (λ (x : Head × List ℕ). cond (is_nest x.0) (Err Deep) (behind too_deep x.0 x.1)) rest e in
      elim (chosen (is_nest s.0.0) (Err Deep) (behind too_deep s.0.0 s.0.1) (Ok rest) s.2) [
        | inl c ↦ absurd (not_ok Deep rest c.1)
        | inr c ↦
            let f = head_front bytes s.0.0 s.0.1 s.1 in
            let t = content_takes too_deep (λ _. ⊥) too_deep_reads s.0.0 s.0.1 rest c.1 in
            let front : List ℕ = f.first ∷ f.others in
            let is_head : head_at front ≡ Ok (s.0.0, []) =
            ap (λ (x : List ℕ). head_at (f.first ∷ x)) (sym (append-nil f.others)) ∙ f.again [] in
            record {
              part = front ++ t.part;
              is_part = (s.0.0, front, t.part, c.0, is_head, t.is_part, refl);
              whole = f.parts ∙ ap (λ (x : List ℕ). front ++ x) t.whole
                  ∙ sym (append_assoc front t.part rest);
            }
      ];
  again = λ part more i.
      let f = head_front i.1 i.0 [] i.4 in
      let grouped : part ++ more ≡ f.first ∷ (f.others ++ (i.2 ++ more)) = ap (λ (x : List ℕ). x ++ more) i.6
      ∙ append_assoc i.1 i.2 more
      ∙ ap (λ (x : List ℕ). x ++ (i.2 ++ more))
      (f.parts ∙ ap (λ (x : List ℕ). f.first ∷ x) (append-nil f.others)) in
      ap (item_at zero) grouped
      ∙ rw (f.again (i.2 ++ more), i.3) (content_again too_deep (λ _. ⊥) too_deep_reads i.0 i.2 more i.5);
  begins = λ part i. headed_begins (λ _. ⊥) (λ h. is_nest h ≡ false) part i;
}
item_reads (suc depth) = record {
  takes = λ bytes rest e.
      let s = bind_ok (head_at bytes) (λ (x : Head × List ℕ). behind (item_at depth) x.0 x.1) rest e in
      let f = head_front bytes s.0.0 s.0.1 s.1 in
      let t = content_takes (item_at depth) (IsItem depth) (item_reads depth) s.0.0 s.0.1 rest s.2 in
      let front : List ℕ = f.first ∷ f.others in
      let is_head : head_at front ≡ Ok (s.0.0, []) =
      ap (λ (x : List ℕ). head_at (f.first ∷ x)) (sym (append-nil f.others)) ∙ f.again [] in
      record {
        part = front ++ t.part;
        is_part = (s.0.0, front, t.part, tt, is_head, t.is_part, refl);
        whole = f.parts ∙ ap (λ (x : List ℕ). front ++ x) t.whole ∙ sym (append_assoc front t.part rest);
      };
  again = λ part more i.
      let f = head_front i.1 i.0 [] i.4 in
      let grouped : part ++ more ≡ f.first ∷ (f.others ++ (i.2 ++ more)) = ap (λ (x : List ℕ). x ++ more) i.6
      ∙ append_assoc i.1 i.2 more
      ∙ ap (λ (x : List ℕ). x ++ (i.2 ++ more))
      (f.parts ∙ ap (λ (x : List ℕ). f.first ∷ x) (append-nil f.others)) in
      ap (item_at (suc depth)) grouped
      ∙ rw (f.again (i.2 ++ more))
      (content_again (item_at depth) (IsItem depth) (item_reads depth) i.0 i.2 more i.5);
  begins = λ part i. headed_begins (IsItem depth) (λ _. Unit {0}) part i;
}
