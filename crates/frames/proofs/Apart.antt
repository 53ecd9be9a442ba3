-- How two readings of a line agree, and what is known of a good line.
use Rattle.std.proofs.Common.{◌≡◌, ℕ, ◌^◌, ◌<◌, List, [], ◌∷◌, ◌++◌, sym, refl, ◌∙◌, subst, append_assoc, mod-eq_of_lt}
use Rattle.frames.specs.Digits.{AllDigits, numeral, value, FirstNoDigit}
use Rattle.frames.specs.Lines.{ClosedLine}
use Rattle.frames.specs.Frames.{Shaped, NoFrame}
use Rattle.frames.specs.BadLines.{Framed}
use Rattle.frames.proofs.Numerals.{all_cons, all_head, all_tail, numeral_digits, digits_none_close, value_numeral}
use Rattle.frames.proofs.Splits.{one_line}
use Rattle.frames.proofs.Shapes.{known_small, one_kind}
use Rattle.frames.proofs.Readings.{digits_no_fault}

-- Digits behind digits, and the number in a numeral.
pub digits_append : (xs ys : List ℕ) → AllDigits xs → AllDigits ys → AllDigits (xs ++ ys)
digits_append [] ys s t = t
digits_append (x ∷ xs) ys s t = all_cons x (xs ++ ys) (all_head x xs s) (digits_append xs ys (all_tail x xs s) t)

pub value_small_numeral : (w n : ℕ) → n < 16 ^ w → n ≡ value (numeral w n)
value_small_numeral w n h = sym (value_numeral w n ∙ mod-eq_of_lt h)

-- Two readings of the first line are of the same text, and of the same frame.
pub no_digit_apart : (bytes t a u b : List ℕ) (p : ℕ) → ClosedLine bytes t a → ClosedLine bytes u b → FirstNoDigit t p → AllDigits u → ⊥
no_digit_apart bytes t a u b p c d f all = digits_no_fault t p (subst AllDigits (sym (one_line bytes t a u b c d).0) all) f

pub no_frame_apart : (bytes t a u b : List ℕ) (kind : ℕ) (body : List ℕ) → ClosedLine bytes t a → ClosedLine bytes u b → NoFrame t → Framed u kind body → ⊥
no_frame_apart bytes t a u b kind body c d n f = n.none kind body f.shaped ((one_line bytes t a u b c d).0 ∙ f.parts)

pub one_framed : (bytes t a u b : List ℕ) (k j : ℕ) (xs ys : List ℕ) → ClosedLine bytes t a → ClosedLine bytes u b → Framed t k xs → Framed u j ys → (k ≡ j) × (xs ≡ ys)
one_framed bytes t a u b k j xs ys c d f g =
    one_kind k j xs ys (known_small k xs f.shaped.known) (known_small j ys g.shaped.known) (sym f.parts ∙ (one_line bytes t a u b c d).0 ∙ g.parts)

-- A closed line of the kind that is due, with no field outside its limits.
pub record GoodLine (due : ℕ) (bad-column : List ℕ → ℕ) (bytes body after : List ℕ) : Type 0 where
  pub text : bytes ≡ numeral 2 due ++ (body ++ (10 ∷ after))
  pub digits : AllDigits body
  pub shaped : Shaped due body
  pub within : bad-column body ≡ 0

module _ (due : ℕ) (bad-column : List ℕ → ℕ) (bytes body after : List ℕ) (g : GoodLine due bad-column bytes body after) where
  pub good_digits : AllDigits (numeral 2 due ++ body)
  good_digits = digits_append (numeral 2 due) body (numeral_digits 2 due) g.digits

  pub good_closed : ClosedLine bytes (numeral 2 due ++ body) after
  good_closed = record {
    text = g.text ∙ sym (append_assoc (numeral 2 due) body (10 ∷ after));
    inside = digits_none_close (numeral 2 due ++ body) good_digits;
  }

  pub good_framed : Framed (numeral 2 due ++ body) due body
  good_framed = record { digits = good_digits; parts = refl; shaped = g.shaped }
