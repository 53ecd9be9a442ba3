-- Where several kinds of frame may stand: a good line is not bad, and what is wrong with a bad line is one thing only.
use Rattle.std.proofs.Common.{◌≡◌, ℕ, ◌+◌, Bool, true, List, ◌++◌, sym, ap, ◌∙◌, subst, ap₂, arith}
use Rattle.std.proofs.lemmas.Bool.{both_ways}
use Rattle.refusals.specs.declared.Refusal.{Refusal}
use Rattle.refusals.specs.Numbers.{no_digit, bad_field}
use Rattle.frames.specs.Digits.{AllDigits, numeral, FirstNoDigit}
use Rattle.frames.specs.Lines.{ClosedLine}
use Rattle.frames.specs.BadLines.{Framed}
use Rattle.frames.specs.BadLinesAmong.{BadLineAmong}
use Rattle.frames.specs.BadLinesAmong.BadLineAmong.{not_closed, not_digit, not_frame, other_kind, bad_value}
use Rattle.frames.proofs.Splits.{one_line, closed_closes}
use Rattle.frames.proofs.Readings.{one_no_digit}
use Rattle.frames.proofs.Apart.{no_digit_apart, no_frame_apart, one_framed, GoodLine, good_digits, good_closed, good_framed}

module _ (due : ℕ) (bad-column : List ℕ → ℕ) (bytes body after : List ℕ) (g : GoodLine due bad-column bytes body after) where
  all-digits : AllDigits (numeral 2 due ++ body)
  all-digits = good_digits due bad-column bytes body after g

  closed : ClosedLine bytes (numeral 2 due ++ body) after
  closed = good_closed due bad-column bytes body after g

  is-framed : Framed (numeral 2 due ++ body) due body
  is-framed = good_framed due bad-column bytes body after g

  pub good_line_not_bad_among : (dues : ℕ → Bool) (columns : ℕ → List ℕ → ℕ) → dues due ≡ true → columns due body ≡ bad-column body → (line : ℕ) (r : Refusal) → BadLineAmong dues columns bytes line r → ⊥
  good_line_not_bad_among dues columns is-due same line r (not_closed n e) = closed_closes bytes (numeral 2 due ++ body) after closed n
  good_line_not_bad_among dues columns is-due same line r (not_digit t a p c f e) = no_digit_apart bytes t a (numeral 2 due ++ body) after p c closed f all-digits
  good_line_not_bad_among dues columns is-due same line r (not_frame t a c n e) = no_frame_apart bytes t a (numeral 2 due ++ body) after due body c closed n is-framed
  good_line_not_bad_among dues columns is-due same line r (other_kind t a k b c f o e) =
      both_ways (dues due) (sym (ap dues (one_framed bytes t a (numeral 2 due ++ body) after k due b body c closed f is-framed).0) ∙ o) is-due
  good_line_not_bad_among dues columns is-due same line r (bad_value t a k b c f d s e) =
      let q = one_framed bytes t a (numeral 2 due ++ body) after k due b body c closed f is-framed in
      let p : columns k b ≡ columns due body = ap₂ columns q.0 q.1 in
      let z = g.within in
      omega arith

-- One refusal of a line at most.
module _ (due : ℕ → Bool) (bc : ℕ → List ℕ → ℕ) (bytes : List ℕ) (line : ℕ) (r s : Refusal) where
  pub one_bad_line_among : BadLineAmong due bc bytes line r → BadLineAmong due bc bytes line s → r ≡ s
  one_bad_line_among (not_closed n e) (not_closed m g) = e ∙ sym g
  one_bad_line_among (not_closed n e) (not_digit u b q d h g) = absurd (closed_closes bytes u b d n)
  one_bad_line_among (not_closed n e) (not_frame u b d h g) = absurd (closed_closes bytes u b d n)
  one_bad_line_among (not_closed n e) (other_kind u b j ys d h w g) = absurd (closed_closes bytes u b d n)
  one_bad_line_among (not_closed n e) (bad_value u b j ys d h w v g) = absurd (closed_closes bytes u b d n)
  one_bad_line_among (not_digit t a p c f e) (not_closed m g) = absurd (closed_closes bytes t a c m)
  one_bad_line_among (not_digit t a p c f e) (not_digit u b q d h g) =
      e ∙ ap (λ k. no_digit line (k + 1)) (one_no_digit t p q f (subst (λ (xs : List ℕ). FirstNoDigit xs q) (sym (one_line bytes t a u b c d).0) h)) ∙ sym g
  one_bad_line_among (not_digit t a p c f e) (not_frame u b d h g) = absurd (no_digit_apart bytes t a u b p c d f h.digits)
  one_bad_line_among (not_digit t a p c f e) (other_kind u b j ys d h w g) = absurd (no_digit_apart bytes t a u b p c d f h.digits)
  one_bad_line_among (not_digit t a p c f e) (bad_value u b j ys d h w v g) = absurd (no_digit_apart bytes t a u b p c d f h.digits)
  one_bad_line_among (not_frame t a c f e) (not_closed m g) = absurd (closed_closes bytes t a c m)
  one_bad_line_among (not_frame t a c f e) (not_digit u b q d h g) = absurd (no_digit_apart bytes u b t a q d c h f.digits)
  one_bad_line_among (not_frame t a c f e) (not_frame u b d h g) = e ∙ sym g
  one_bad_line_among (not_frame t a c f e) (other_kind u b j ys d h w g) = absurd (no_frame_apart bytes t a u b j ys c d f h)
  one_bad_line_among (not_frame t a c f e) (bad_value u b j ys d h w v g) = absurd (no_frame_apart bytes t a u b j ys c d f h)
  one_bad_line_among (other_kind t a k xs c f o e) (not_closed m g) = absurd (closed_closes bytes t a c m)
  one_bad_line_among (other_kind t a k xs c f o e) (not_digit u b q d h g) = absurd (no_digit_apart bytes u b t a q d c h f.digits)
  one_bad_line_among (other_kind t a k xs c f o e) (not_frame u b d h g) = absurd (no_frame_apart bytes u b t a k xs d c h f)
  one_bad_line_among (other_kind t a k xs c f o e) (other_kind u b j ys d h w g) = e ∙ sym g
  one_bad_line_among (other_kind t a k xs c f o e) (bad_value u b j ys d h w v g) = absurd (both_ways (due k) o (ap due (one_framed bytes t a u b k j xs ys c d f h).0 ∙ w))
  one_bad_line_among (bad_value t a k xs c f o l e) (not_closed m g) = absurd (closed_closes bytes t a c m)
  one_bad_line_among (bad_value t a k xs c f o l e) (not_digit u b q d h g) = absurd (no_digit_apart bytes u b t a q d c h f.digits)
  one_bad_line_among (bad_value t a k xs c f o l e) (not_frame u b d h g) = absurd (no_frame_apart bytes u b t a k xs d c h f)
  one_bad_line_among (bad_value t a k xs c f o l e) (other_kind u b j ys d h w g) = absurd (both_ways (due k) (ap due (one_framed bytes t a u b k j xs ys c d f h).0 ∙ w) o)
  one_bad_line_among (bad_value t a k xs c f o l e) (bad_value u b j ys d h w v g) = let q = one_framed bytes t a u b k j xs ys c d f h in e ∙ ap₂ (λ k zs. bad_field line (bc k zs)) q.0 q.1 ∙ sym g
