-- A head is read the same, whatever stands behind it.
use Rattle.std.proofs.Common.{◌≡◌, ℕ, ◌/◌, ◌%◌, ◌≤◌, Bool, true, false, cond, ltb, eqb, ◌⊎◌, inl, inr, List}
use Rattle.std.proofs.Common.{[], ◌∷◌, ◌++◌, length, take, drop, Result, Ok, Err, refl, sym, ap, ◌∙◌, arith}
use Rattle.std.specs.Int.{Width, w8, w16, w32, w64, byte_len, from_be_bytes}
use Rattle.std.proofs.lemmas.Bool.{ltb-false, le-ltb}
use Rattle.std.proofs.lemmas.List.{take_at, drop_at, take-append-drop, length-append, length-take-le}
use Rattle.cbor_validity.specs.declared.head.Fault.{Fault}
use Rattle.cbor_validity.specs.declared.head.Fault.TheVariants.{Short, Reserved}
use Rattle.cbor_validity.specs.declared.head.Head.{Head}
use Rattle.cbor_validity.specs.Head.{◌>>=◌, number_at, argument_at, head_of, open_head_of, head_at}

-- which way a test went
pub chosen : {A : Type 0} (b : Bool) (x y z : A) → cond b x y ≡ z
    → ((b ≡ true) × (x ≡ z)) ⊎ ((b ≡ false) × (y ≡ z))
chosen true x y z e = inl (refl, e)
chosen false x y z e = inr (refl, e)

-- the value of a step that did not fail
pub bind_ok : {A B : Type 0} (r : Result A Fault) (f : A → Result B Fault) (y : B) → (r >>= f) ≡ Ok y
    → (x : A) × (r ≡ Ok x) × (f x ≡ Ok y)
bind_ok (Ok x) f y e = (x, refl, e)
bind_ok (Err d) f y e = absurd cc

abbrev pub done : {A : Type 0} → A → Result A Fault
done x = Ok x

abbrev pub failed : {A : Type 0} → Fault → Result A Fault
failed f = Err f

pub ok_is : {A : Type 0} (x y : A) → done x ≡ done y → x ≡ y
ok_is x y e = cc

pub not_ok : {A : Type 0} (f : Fault) (y : A) → failed f ≡ done y → ⊥
not_ok f y e = cc

-- What a reader took from the front, which it takes again whatever follows.
pub record Front {A : Type 0} (read : List ℕ → Result (A × List ℕ) Fault) (bytes : List ℕ) (x : A)
    (rest : List ℕ) : Type 0 where
  pub front : List ℕ
  pub parts : bytes ≡ front ++ rest
  pub again : (more : List ℕ) → read (front ++ more) ≡ Ok (x, more)

number_front : (w : Width) (bytes : List ℕ) (n : ℕ) (rest : List ℕ) → number_at w bytes ≡ Ok (n, rest)
    → Front (number_at w) bytes n rest
number_front w bytes n rest e =
    elim (chosen (ltb (length bytes) (byte_len w)) (Err Short)
    (Ok (from_be_bytes w (take (byte_len w) bytes), drop (byte_len w) bytes)) (Ok (n, rest)) e) [
      | inl c ↦ absurd (not_ok Short (n, rest) c.1)
      | inr c ↦
          let long : byte_len w ≤ length bytes = ltb-false _ _ c.0 in
          let same : (from_be_bytes w (take (byte_len w) bytes), drop (byte_len w) bytes) ≡ (n, rest) =
          ok_is _ _ c.1 in
          let n-is : from_be_bytes w (take (byte_len w) bytes) ≡ n = ap (λ (p : ℕ × List ℕ). p.0) same in
          let rest-is : drop (byte_len w) bytes ≡ rest = ap (λ (p : ℕ × List ℕ). p.1) same in
          let len : length (take (byte_len w) bytes) ≡ byte_len w = length-take-le (byte_len w) bytes long in
          record {
            front = take (byte_len w) bytes;
            parts = rw (← rest-is) (sym (take-append-drop (byte_len w) bytes));
            again = λ more.
                let enough : ltb (length (take (byte_len w) bytes ++ more)) (byte_len w) ≡ false =
                le-ltb _ _ (omega (arith, length-append (take (byte_len w) bytes) more)) in
                rw (
                  enough,
                  take_at (take (byte_len w) bytes) more (byte_len w) len,
                  drop_at (take (byte_len w) bytes) more (byte_len w) len,
                  n-is,
                ) refl;
          }
    ]

-- readers that agree take the same
same_front : {A : Type 0} (read other : List ℕ → Result (A × List ℕ) Fault) (bytes : List ℕ) (x : A)
    (rest : List ℕ) → ((b : List ℕ) → other b ≡ read b) → Front read bytes x rest → Front other bytes x rest
same_front read other bytes x rest same f =
    record { front = f.front; parts = f.parts; again = λ more. same (f.front ++ more) ∙ f.again more }

pub argument_front : (info : ℕ) (bytes : List ℕ) (n : ℕ) (rest : List ℕ)
    → argument_at info bytes ≡ Ok (n, rest) → Front (argument_at info) bytes n rest
unfolding argument_at
argument_front info bytes n rest e =
    elim (chosen (ltb info 24) _ _ _ e) [
      | inl a ↦
          let same : (info, bytes) ≡ (n, rest) = ok_is _ _ a.1 in
          let n-is : info ≡ n = ap (λ (p : ℕ × List ℕ). p.0) same in
          record {
            front = [];
            parts = ap
                (λ (p : ℕ × List ℕ). p.1) same;
            again = λ more. rw (a.0, n-is) refl;
          }
      | inr a ↦ elim (chosen (eqb info 24) _ _ _ a.1) [
        | inl b ↦ same_front (number_at w8) (argument_at info) bytes n rest (λ x. rw (a.0, b.0) refl)
            (number_front w8 bytes n rest b.1)
        | inr b ↦ elim (chosen (eqb info 25) _ _ _ b.1) [
          | inl c ↦ same_front (number_at w16) (argument_at info) bytes n rest (λ x. rw (a.0, b.0, c.0) refl)
              (number_front w16 bytes n rest c.1)
          | inr c ↦ elim (chosen (eqb info 26) _ _ _ c.1) [
            | inl d ↦ same_front (number_at w32) (argument_at info) bytes n rest
                (λ x. rw (a.0, b.0, c.0, d.0) refl) (number_front w32 bytes n rest d.1)
            | inr d ↦ elim (chosen (eqb info 27) _ _ _ d.1) [
              | inl f ↦ same_front (number_at w64) (argument_at info) bytes n rest
                  (λ x. rw (a.0, b.0, c.0, d.0, f.0) refl) (number_front w64 bytes n rest f.1)
              | inr f ↦ absurd (not_ok Reserved (n, rest) f.1)
            ]
          ]
        ]
      ]
    ]

-- the head, which begins with a byte
pub record HeadFront (bytes : List ℕ) (h : Head) (rest : List ℕ) : Type 0 where
  pub first : ℕ
  pub others : List ℕ
  pub parts : bytes ≡ first ∷ (others ++ rest)
  pub again : (more : List ℕ) → head_at (first ∷ (others ++ more)) ≡ Ok (h, more)

pub head_front : (bytes : List ℕ) (h : Head) (rest : List ℕ) → head_at bytes ≡ Ok (h, rest)
    → HeadFront bytes h rest
unfolding head_at
head_front [] h rest e = absurd cc
head_front (b ∷ bytes) h rest e =
    elim (chosen (eqb (b % 32) 31) _ _ _ e) [
      | inl a ↦
          let s = bind_ok (open_head_of (b / 32)) (λ (x : Head). Ok (x, bytes)) (h, rest) a.1 in
          let same : (s.0, bytes) ≡ (h, rest) = ok_is (s.0, bytes) (h, rest) s.2 in
          let h-is : s.0 ≡ h = ap (λ (p : Head × List ℕ). p.0) same in
          record {
            first = b;
            others = [];
            parts = ap
                (λ (p : Head × List ℕ). b ∷ p.1) same;
            again = λ more. rw (a.0, s.1, h-is) refl;
          }
      | inr a ↦
          let s = bind_ok (argument_at (b % 32) bytes)
          (λ (x : ℕ × List ℕ). head_of (b / 32) (b % 32) x.0 >>= λ (y : Head). Ok (y, x.1))
          (h, rest) a.1 in
          let t = bind_ok (head_of (b / 32) (b % 32) s.0.0) (λ (y : Head). Ok (y, s.0.1)) (h, rest) s.2 in
          let same : (t.0, s.0.1) ≡ (h, rest) = ok_is (t.0, s.0.1) (h, rest) t.2 in
          let h-is : t.0 ≡ h = ap (λ (p : Head × List ℕ). p.0) same in
          let rest-is : s.0.1 ≡ rest = ap (λ (p : Head × List ℕ). p.1) same in
          let f = argument_front (b % 32) bytes s.0.0 s.0.1 s.1 in
          record {
            first = b;
            others = f.front;
            parts = ap (λ (x : List ℕ). b ∷ x) (f.parts ∙ ap (λ (x : List ℕ). f.front ++ x) rest-is);
            again = λ more. rw (a.0, f.again more, t.1, h-is) refl;
          }
    ]
