-- Lines within their limits are good, and lines tell their numbers.
use Rattle.std.proofs.Common.{◌≡◌, ℕ, ◌^◌, ◌<◌, ◌≤◌, List, ◌++◌, Some, None, Option, sym, refl, ap, ◌∙◌, ap₂, arith}
use Rattle.std.proofs.lemmas.Bool.Decides.{nat_tests}
use Rattle.refusals.specs.declared.Refusal.{Refusal}
use Rattle.frames.specs.Digits.{numeral, value}
use Rattle.frames.specs.Frames.{digits_after, Shaped}
use Rattle.frames.specs.BadLines.{field, BadLine}
use Rattle.frames.specs.BadLinesAmong.{BadLineAmong}
use Rattle.frames.proofs.Numerals.{numeral_digits}
use Rattle.frames.proofs.Splits.{same_split}
use Rattle.frames.proofs.Apart.{digits_append, value_small_numeral, GoodLine}
use Rattle.frames.proofs.OneFault.{good_line_not_bad}
use Rattle.frames.proofs.OneFaultAmong.{good_line_not_bad_among}
use Rattle.sheets.specs.declared.feeder.Feeder.{Feeder}
use Rattle.sheets.specs.Limits.{most_panel, most_feeders}
use Rattle.sheets.specs.Feeders.{FeederWithin}
use Rattle.sheets.specs.SheetLines.{head_body, head_line, bank_body, bank_line, feeder_body, feeder_line, count_line, HeadWithin, head_fault, bank_fault, feeder_fault, count_fault, head_column, bank_column, feeder_column, count_column, due_behind, column_behind, NextRead}
use Rattle.sheets.proofs.FeederFields.{feeder_of}
use Rattle.sheets.proofs.FeederReads.{feeder_due, count_due}

-- Lines that are the same have the same number in a field.
pub one_field : (place w m n : ℕ) (x y : List ℕ) → m < 16 ^ w → n < 16 ^ w → field place w x ≡ value (numeral w m) → field place w y ≡ value (numeral w n) → x ≡ y → m ≡ n
one_field place w m n x y a b p q e = value_small_numeral w m a ∙ sym p ∙ ap (field place w) e ∙ q ∙ sym (value_small_numeral w n b)

pub one_head : (b c s t : ℕ) (x y : List ℕ) → HeadWithin b s → HeadWithin c t → head_line b s ++ x ≡ head_line c t ++ y → (b ≡ c) × (s ≡ t) × (x ≡ y)
one_head b c s t x y h k same =
    let p = same_split (head_line b s) (head_line c t) x y refl same in (
      one_field 2 2 b c (head_line b s) (head_line c t) (omega (arith, h.few)) (omega (arith, k.few)) refl refl p.0,
      one_field 4 4 s t (head_line b s) (head_line c t) (omega (arith, h.settles)) (omega (arith, k.settles)) refl refl p.0,
      p.1,
    )

pub one_panel : (i p q : ℕ) → p ≤ most_panel → q ≤ most_panel → bank_line i p ≡ bank_line i q → p ≡ q
one_panel i p q h k e = one_field 4 2 p q (bank_line i p) (bank_line i q) (omega arith) (omega arith) refl refl e

pub one_feeder : (banks : ℕ) (f g : Feeder) → banks ≤ 256 → FeederWithin banks f → FeederWithin banks g → feeder_line f ≡ feeder_line g → f ≡ g
one_feeder banks f g l h k e =
    ap₂ (λ (a b : ℕ). feeder_of a b f.reading f.swap)
    (one_field 2 4 f.number g.number (feeder_line f) (feeder_line g) (omega (arith, h.numbered)) (omega (arith, k.numbered)) refl refl e)
    (one_field 6 2 f.bank g.bank (feeder_line f) (feeder_line g) (omega (arith, h.on_bank)) (omega (arith, k.on_bank)) refl refl e)
    ∙ ap₂ (λ (a b : ℕ). feeder_of g.number g.bank a b)
    (one_field 8 4 f.reading g.reading (feeder_line f) (feeder_line g) (omega (arith, h.few_reading)) (omega (arith, k.few_reading)) refl refl e)
    (one_field 12 4 f.swap g.swap (feeder_line f) (feeder_line g) (omega (arith, h.short_swap)) (omega (arith, k.short_swap)) refl refl e)

-- Numbers within their limits are at no fault.
head_no_fault : (b s : ℕ) → HeadWithin b s → head_fault b s ≡ 0
head_no_fault b s h = let p = h.enough in let q = h.few in let t = h.settles in grind (arith, nat_tests)

bank_no_fault : (i p : ℕ) → p ≤ most_panel → bank_fault i i p ≡ 0
bank_no_fault i p h = grind (arith, nat_tests)

feeder_no_fault : (banks : ℕ) (f : Feeder) → FeederWithin banks f → feeder_fault banks f.number f.bank f.reading f.swap ≡ 0
feeder_no_fault banks f h =
    let a = h.numbered in let b = h.on_bank in let p = h.some_reading in let q = h.few_reading in let s = h.long_swap in let t = h.short_swap in
    grind (arith, nat_tests)

count_no_fault : (n : ℕ) → count_fault n n ≡ 0
count_no_fault n = grind (arith, nat_tests)

-- The head line, and the line of bank i.
head_shaped : (b s : ℕ) → Shaped 1 (head_body b s)
unfolding digits_after
head_shaped b s = record { known = omega arith; fits = refl }

pub head_not_bad : (bytes : List ℕ) (b s : ℕ) (after : List ℕ) (line : ℕ) (r : Refusal) → HeadWithin b s → bytes ≡ head_line b s ++ after → BadLine 1 head_column bytes line r → ⊥
head_not_bad bytes b s after line r h e =
    good_line_not_bad 1 head_column bytes (head_body b s) after
    (record {
      text = e;
      digits = digits_append (numeral 2 b) (numeral 4 s) (numeral_digits 2 b) (numeral_digits 4 s);
      shaped = head_shaped b s;
      within = ap₂ head_fault (sym (value_small_numeral 2 b (omega (arith, h.few)))) (sym (value_small_numeral 4 s (omega (arith, h.settles)))) ∙ head_no_fault b s h;
    })
    line r

bank_shaped : (i p : ℕ) → Shaped 2 (bank_body i p)
unfolding digits_after
bank_shaped i p = record { known = omega arith; fits = refl }

pub bank_line_not_bad : (bytes : List ℕ) (i p : ℕ) (after : List ℕ) (line : ℕ) (r : Refusal) → i < 256 → p ≤ most_panel → bytes ≡ bank_line i p ++ after → BadLine 2 (bank_column i) bytes line r → ⊥
bank_line_not_bad bytes i p after line r l h e =
    good_line_not_bad 2 (bank_column i) bytes (bank_body i p) after
    (record {
      text = e;
      digits = digits_append (numeral 2 i) (numeral 2 p) (numeral_digits 2 i) (numeral_digits 2 p);
      shaped = bank_shaped i p;
      within = ap₂ (bank_fault i) (sym (value_small_numeral 2 i l)) (sym (value_small_numeral 2 p (omega arith))) ∙ bank_no_fault i p h;
    })
    line r

-- A feeder's line, and the line that counts n feeders.
feeder_shaped : (f : Feeder) → Shaped 3 (feeder_body f)
unfolding digits_after
feeder_shaped f = record { known = omega arith; fits = refl }

feeder_line_good : (banks : ℕ) (bytes : List ℕ) (f : Feeder) (after : List ℕ) → banks ≤ 256 → FeederWithin banks f → bytes ≡ feeder_line f ++ after → GoodLine 3 (feeder_column banks) bytes (feeder_body f) after
feeder_line_good banks bytes f after l h e = record {
  text = e;
  digits =
      digits_append (numeral 4 f.number) (numeral 2 f.bank ++ (numeral 4 f.reading ++ numeral 4 f.swap)) (numeral_digits 4 f.number)
      (digits_append (numeral 2 f.bank) (numeral 4 f.reading ++ numeral 4 f.swap) (numeral_digits 2 f.bank)
      (digits_append (numeral 4 f.reading) (numeral 4 f.swap) (numeral_digits 4 f.reading) (numeral_digits 4 f.swap)));
  shaped = feeder_shaped f;
  within =
      ap₂ (λ (a b : ℕ). feeder_fault banks a b (value (numeral 4 f.reading)) (value (numeral 4 f.swap))) (sym (value_small_numeral 4 f.number (omega (arith, h.numbered)))) (sym (value_small_numeral 2 f.bank (omega (arith, h.on_bank))))
      ∙ ap₂ (feeder_fault banks f.number f.bank) (sym (value_small_numeral 4 f.reading (omega (arith, h.few_reading)))) (sym (value_small_numeral 4 f.swap (omega (arith, h.short_swap))))
      ∙ feeder_no_fault banks f h;
}

count_shaped : (n : ℕ) → Shaped 4 (numeral 4 n)
unfolding digits_after
count_shaped n = record { known = omega arith; fits = refl }

count_line_good : (bytes : List ℕ) (n : ℕ) (after : List ℕ) → n ≤ most_feeders → bytes ≡ count_line n ++ after → GoodLine 4 (count_column n) bytes (numeral 4 n) after
count_line_good bytes n after l e = record {
  text = e;
  digits = numeral_digits 4 n;
  shaped = count_shaped n;
  within = ap (count_fault n) (sym (value_small_numeral 4 n (omega arith))) ∙ count_no_fault n;
}

-- A line that may stand behind n feeders is not bad, and it is one line only.
module _ (banks n : ℕ) (few : banks ≤ 256) (room : n ≤ most_feeders) (bytes : List ℕ) where
  pub next_not_bad : (o : Option Feeder) (after : List ℕ) (line : ℕ) (r : Refusal) → NextRead banks n bytes o after → BadLineAmong (due_behind n) (column_behind banks n) bytes line r → ⊥
  next_not_bad (Some f) after line r h =
      good_line_not_bad_among 3 (feeder_column banks) bytes (feeder_body f) after (feeder_line_good banks bytes f after few h.1 h.2) (due_behind n) (column_behind banks n) (feeder_due n h.0) refl line r
  next_not_bad None after line r h =
      good_line_not_bad_among 4 (count_column n) bytes (numeral 4 n) after (count_line_good bytes n after room h.1) (due_behind n) (column_behind banks n) (count_due n h.0) refl line r

  pub feeder_or_count : (f : Feeder) (a b : List ℕ) → NextRead banks n bytes (Some f) a → NextRead banks n bytes None b → ⊥
  feeder_or_count f a b h k =
      let e : ◌≡◌ {A = ℕ} 3 4 = one_field 0 2 3 4 (feeder_line f ++ a) (count_line n ++ b) (omega arith) (omega arith) refl refl (sym h.2 ∙ k.1) in
      omega arith

  pub one_next : (f g : Feeder) (a b : List ℕ) → NextRead banks n bytes (Some f) a → NextRead banks n bytes (Some g) b → f ≡ g
  one_next f g a b h k =
      one_feeder banks f g few h.1 k.1 (same_split (feeder_line f) (feeder_line g) a b refl (sym h.2 ∙ k.2)).0

  pub one_after : (a b : List ℕ) → NextRead banks n bytes None a → NextRead banks n bytes None b → a ≡ b
  one_after a b h k = (same_split (count_line n) (count_line n) a b refl (sym h.1 ∙ k.1)).1
