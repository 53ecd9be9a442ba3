-- Texts put one behind the other, and the digits of a number put from the last to the first.
use Rattle.std.proofs.Common.{◌≡◌, ℕ, zero, suc, ◌+◌, ◌-◌, ◌/◌, ◌%◌, ◌^◌, ◌<◌, ◌≤◌, List, [], ◌∷◌, ◌++◌, Option, None, map, length, get_or, take, drop, set, sym, refl, ap, ◌∙◌, subst, append_assoc, pow-suc, div-one, arith}
use native.Mathlib.Nat.{div-div-eq-div-mul, sub_self, sub-zero}
use borrow.Rule.Slice.PartMut.{put_mid}
use Rattle.std.proofs.lemmas.List.{append-nil, take-append-drop, take_more, take_at, take_rest, flat_map_more, drop_at, drop_all, drop-drop, set_at, length-append, length-drop, length-take-le}
use Rattle.std.specs.List.{flat_map}
use Rattle.std.specs.Iterator.{Drains, HoldsAlong}
use Rattle.std.proofs.lemmas.Iterator.{YieldsList}
use Rattle.std.proofs.lemmas.Iterator.Consumers.{YieldsList-so_far, YieldsList-end}
use Rattle.frames.specs.Digits.{digit, numeral}
use Rattle.frames.proofs.Numerals.{length_numeral}
use Rattle.listings.specs.declared.fields.Field.{Field}
use Rattle.listings.specs.Texts.{field_text, fields_text, line_text}
use Rattle.listings.specs.Writing.{Put}

-- The digits from place k on are put, and `rest` is what is left of the number.
pub record PutDown (width n : ℕ) (before out : List ℕ) (k rest : ℕ) : Type 0 where
  pub left : rest ≡ n / 16 ^ (width - k)
  pub bytes : out ≡ take k before ++ (numeral (width - k) n ++ drop width before)

module _ (width n : ℕ) (before : List ℕ) (room : width ≤ length before) where
  pub down_none : PutDown width n before before width n
  down_none = record {
    left = sym (ap (λ (w : ℕ). n / 16 ^ w) (sub_self width) ∙ div-one n);
    bytes = sym (ap (λ (w : ℕ). take width before ++ (numeral w n ++ drop width before)) (sub_self width) ∙ take-append-drop width before);
  }

  pub down_more : (out : List ℕ) (k rest d : ℕ) → PutDown width n before out k rest → 0 < k → k ≤ width → d ≡ digit (rest % 16) → PutDown width n before (set out (k - 1) d) (k - 1) (rest / 16)
  down_more out k rest d h some few is =
      let j = k - 1 in
      let w = width - k in
      let x = get_or before j 0 in
      let ds = numeral w n ++ drop width before in
      let e : width - j ≡ suc w = omega arith in
      let ends : k ≡ j + 1 = omega arith in
      let same : d ≡ digit (n / 16 ^ w % 16) = is ∙ ap (λ (m : ℕ). digit (m % 16)) h.left in
      let front : out ≡ take j before ++ (x ∷ ds) =
      h.bytes ∙ ap (λ (m : ℕ). take m before ++ ds) ends ∙ ap (λ (ys : List ℕ). ys ++ ds) (take_more before j 0 (omega arith)) ∙ append_assoc (take j before) (x ∷ []) ds in
      record {
        left = ap (λ (m : ℕ). m / 16) h.left ∙ div-div-eq-div-mul n (16 ^ w) 16 ∙ ap (λ (m : ℕ). n / m) (sym (pow-suc 16 w)) ∙ ap (λ (m : ℕ). n / 16 ^ m) (sym e);
        bytes =
            ap (λ (ys : List ℕ). set ys j d) front ∙ set_at (take j before) x ds d j (length-take-le j before (omega arith))
            ∙ ap (λ (b : ℕ). take j before ++ (b ∷ ds)) same
            ∙ ap (λ (m : ℕ). take j before ++ (numeral m n ++ drop width before)) (sym e);
      }

  pub down_all : (out : List ℕ) (rest : ℕ) → PutDown width n before out 0 rest → Put (numeral width n) before out width
  down_all out rest h = record {
    told = sym (length_numeral width n);
    room = omega (arith, length_numeral width n);
    bytes = h.bytes ∙ ap (λ (w : ℕ). numeral w n ++ drop width before) (sub-zero width);
  }

-- Nothing is put yet.
pub put_none : (before : List ℕ) → Put [] before before 0
put_none before = record { told = refl; room = omega arith; bytes = refl }

-- One text more, put into the rest of the buffer from where the last one ended.
pub put_more : (a b before out piece : List ℕ) (at n : ℕ) → Put a before out at → Put b (take (length out - at) (drop at out)) piece n → Put (a ++ b) before (put_mid at (length out - at) out piece) (at + n)
put_more a b before out piece at n f g =
    let same : drop at out ≡ drop at before = ap (drop at) f.bytes ∙ drop_at a (drop at before) at (sym f.told) in
    let rest : take (length out - at) (drop at out) ≡ drop at before = take_rest out at ∙ same in
    let front : take at out ≡ a = ap (take at) f.bytes ∙ take_at a (drop at before) at (sym f.told) in
    let none : drop (length out - at) (drop at out) ≡ [] = drop_all (length out - at) (drop at out) (omega (arith, length-drop at out)) in
    let is : piece ≡ b ++ drop (at + n) before = g.bytes ∙ ap (λ (ys : List ℕ). b ++ drop n ys) rest ∙ ap (λ (ys : List ℕ). b ++ ys) (drop-drop n at before) in
    record {
      told = omega (arith, f.told, g.told, length-append a b);
      room = omega (arith, f.told, f.room, g.room, ap length rest, length-drop at before, length-append a b);
      bytes =
          ap (λ (ys : List ℕ). ys ++ (piece ++ drop (length out - at) (drop at out))) front
          ∙ ap (λ (ys : List ℕ). a ++ (piece ++ ys)) none
          ∙ ap (λ (ys : List ℕ). a ++ ys) (append-nil piece ∙ is)
          ∙ sym (append_assoc a b (drop (at + n) before));
    }

-- A text that fits behind another fits into the rest of the buffer.
pub rest_room : (a before out : List ℕ) (at n : ℕ) → Put a before out at → at + n ≤ length before → n ≤ length (take (length out - at) (drop at out))
rest_room a before out at n f h =
    let l = ap length f.bytes ∙ length-append a (drop at before) in
    omega (arith, ap length (take_rest out at), length-drop at out, length-drop at before, f.told)

-- Items that an iterator gives, put one behind the other: f is the text of an item, which is g of what v reads of it.
module _ {A : Type 0} (f : A → List ℕ) where
  pub joined_next : (xs : List A) (x : A) → flat_map f (xs ++ x ∷ []) ≡ flat_map f xs ++ f x
  joined_next xs x = sym (flat_map_more f [] xs x)

  module _ {S B : Type 0} {steps : S → Option A → S → Type 0} (v : A → B) (g : B → List ℕ) (is : (x : A) → f x ≡ g (v x)) {s : S} {all : List B} (e : YieldsList steps v s all) where
    read : (xs : List A) → flat_map f xs ≡ flat_map g (map v xs)
    read [] = refl
    read (x ∷ xs) = ap (λ (t : List ℕ). t ++ flat_map f xs) (is x) ∙ ap (λ (t : List ℕ). g (v x) ++ t) (read xs)

    front_short : (i : ℕ) (ys : List B) → length (flat_map g (take i ys)) ≤ length (flat_map g ys)
    front_short zero ys = omega arith
    front_short (suc i) [] = omega arith
    front_short (suc i) (y ∷ ys) = omega (arith, length-append (g y) (flat_map g (take i ys)), length-append (g y) (flat_map g ys), front_short i ys)

    -- at each point the text has room where the whole has
    pub items_room : (n : ℕ) → length (flat_map g all) ≤ n → HoldsAlong steps s (λ xs. length (flat_map f xs) ≤ n)
    items_room n room xs t y =
        omega (arith, ap length (read xs ∙ ap (flat_map g) (YieldsList-so_far e xs t y)), front_short (length xs) all)

    -- at the end it is the whole
    pub items_text : (xs : List A) → Drains steps s xs → flat_map f xs ≡ flat_map g all
    items_text xs d = read xs ∙ ap (flat_map g) (YieldsList-end e xs d.1.0 d.1.1 None d.0 refl d.1.2).0

    pub items_put : (before after : List ℕ) (n : ℕ) → (xs : List A) × Drains steps s xs × Put (flat_map f xs) before after n → Put (flat_map g all) before after n
    items_put before after n h = subst (λ (t : List ℕ). Put t before after n) (items_text h.0 h.1) h.2

-- The same of a line of fields.
module _ {S : Type 0} {steps : S → Option Field → S → Type 0} {s : S} {all : List Field} (e : YieldsList steps (λ f. f) s all) where
  pub line_room : (n : ℕ) → length (line_text all) ≤ n → HoldsAlong steps s (λ xs. length (line_text xs) ≤ n)
  line_room n room xs t y =
      let short = items_room field_text (λ f. f) field_text (λ f. refl) e (length (fields_text all)) (omega arith) xs t y in
      omega (arith, short, length-append (fields_text xs) (10 ∷ []), length-append (fields_text all) (10 ∷ []))

  pub line_put : (before after : List ℕ) (n : ℕ) → (xs : List Field) × Drains steps s xs × Put (line_text xs) before after n → Put (line_text all) before after n
  line_put before after n h =
      subst (λ (t : List ℕ). Put (t ++ 10 ∷ []) before after n) (items_text field_text (λ f. f) field_text (λ f. refl) e h.0 h.1) h.2
