-- What the reading of a line says of it, where several kinds of frame may stand; and the same definition for one kind.
use Rattle.std.proofs.Common.{◌≡◌, ℕ, ◌<◌, ◌≤◌, Bool, true, false, eqb, List, ◌∷◌, length, length-append, sym, refl, ap, ◌∙◌, subst, arith}
use Rattle.std.proofs.lemmas.Bool.{eqb-true, eqb-false, eq-eqb, ne_eqb}
use Rattle.refusals.specs.declared.Refusal.{Refusal}
use Rattle.refusals.specs.Numbers.{no_digit, no_frame, out_of_place, bad_field, bad_end}
use Rattle.frames.specs.declared.frame.Frame.{Frame}
use Rattle.frames.specs.declared.frame.FrameFault.{FrameFault}
use Rattle.frames.specs.declared.frame.FrameFault.TheVariants.{Digit, Shape}
use Rattle.frames.specs.declared.faults.FileFault.{FileFault}
use Rattle.frames.specs.declared.faults.FileFault.TheVariants.{Frame as InFrame, TooLong, Unclosed, AfterEnd, Misplaced, Field, Unlawful}
use Rattle.frames.specs.Lines.{ClosedLine}
use Rattle.frames.specs.Frames.{kind_of, body_of, IsFrame, FrameRead, LineFails, NextFails}
use Rattle.frames.specs.Faults.{frame_told, file_told}
use Rattle.frames.specs.BadLines.{Framed, BadLine}
use Rattle.frames.specs.BadLines.BadLine.{not_closed as one_not_closed, not_digit as one_not_digit, not_frame as one_not_frame, other_kind as one_other_kind, bad_value as one_bad_value}
use Rattle.frames.specs.BadLinesAmong.{BadLineAmong}
use Rattle.frames.specs.BadLinesAmong.BadLineAmong.{not_closed, not_digit, not_frame, other_kind, bad_value}
use Rattle.frames.proofs.Numerals.{column_exact}

-- A closed line is shorter than the bytes that it begins.
pub line_short : (bytes line after : List ℕ) → ClosedLine bytes line after → length line < length bytes
line_short bytes line after h = let l = ap length h.text ∙ length-append line (10 ∷ after) in omega (arith, l)

-- A frame that was read, as the text of its line.
pub framed : (line : List ℕ) (f : Frame) → IsFrame line f → Framed line (kind_of f) (body_of f)
framed line f h = record { digits = h.digits; parts = h.text; shaped = h.shaped }

-- Where one kind is due, both definitions say the same.
module _ (due : ℕ) (bad-column : List ℕ → ℕ) (bytes : List ℕ) (line : ℕ) (r : Refusal) where
  pub among_from_one : BadLine due bad-column bytes line r → BadLineAmong (eqb due) (λ _. bad-column) bytes line r
  among_from_one (one_not_closed n e) = not_closed n e
  among_from_one (one_not_digit t a p c f e) = not_digit t a p c f e
  among_from_one (one_not_frame t a c n e) = not_frame t a c n e
  among_from_one (one_other_kind t a k b c f o e) = other_kind t a k b c f (ne_eqb due k (λ q. o (sym q))) e
  among_from_one (one_bad_value t a b c f s e) = bad_value t a due b c f (eq-eqb due due refl) s e

  pub one_from_among : BadLineAmong (eqb due) (λ _. bad-column) bytes line r → BadLine due bad-column bytes line r
  one_from_among (not_closed n e) = one_not_closed n e
  one_from_among (not_digit t a p c f e) = one_not_digit t a p c f e
  one_from_among (not_frame t a c n e) = one_not_frame t a c n e
  one_from_among (other_kind t a k b c f o e) = one_other_kind t a k b c f (λ q. eqb-false due k o (sym q)) e
  one_from_among (bad_value t a k b c f d s e) = one_bad_value t a b c (subst (λ (j : ℕ). Framed t j b) (sym (eqb-true due k d)) f) s e

-- A line that cannot be read is bad, and the fault tells how.
module _ (due : ℕ → Bool) (bad-column : ℕ → List ℕ → ℕ) where
  line_fails : (bytes : List ℕ) (line : ℕ) (e : FrameFault) → length bytes ≤ 65536 → LineFails bytes line e → BadLineAmong due bad-column bytes line (frame_told e)
  line_fails bytes line (Digit d) s h =
      let f = h.fails in
      let l = line_short bytes h.line h.after h.closed in
      let w = f.first.within in
      let p : f.place < 4294967295 = omega arith in
      not_digit h.line h.after f.place h.closed f.first
      (ap (λ n. no_digit n d.column) f.at_line ∙ ap (no_digit line) (f.at_column ∙ column_exact f.place p))
  line_fails bytes line (Shape l) s h = not_frame h.line h.after h.closed h.fails.1 (ap no_frame h.fails.0)

  pub next_fails_among : (bytes : List ℕ) (line : ℕ) (e : FileFault) → length bytes ≤ 65536 → NextFails bytes line e → BadLineAmong due bad-column bytes line (file_told e)
  next_fails_among bytes line (InFrame e) s h = line_fails bytes line e s h
  next_fails_among bytes line TooLong s h = absurd h
  next_fails_among bytes line (Unclosed l) s h = not_closed h.1 (ap bad_end h.0)
  next_fails_among bytes line (AfterEnd l) s h = absurd h
  next_fails_among bytes line (Misplaced l) s h = absurd h
  next_fails_among bytes line (Field l c) s h = absurd h
  next_fails_among bytes line (Unlawful l lap p) s h = absurd h

-- A frame of a kind that is not due.
pub other_frame_among : (due : ℕ → Bool) (bad-column : ℕ → List ℕ → ℕ) (bytes : List ℕ) (line : ℕ) (f : Frame) (after : List ℕ) → FrameRead bytes f after → due (kind_of f) ≡ false → BadLineAmong due bad-column bytes line (out_of_place line)
other_frame_among due bad-column bytes line f after h other = other_kind h.line after (kind_of f) (body_of f) h.closed (framed h.line f h.frame) other refl

-- A frame of a kind that is due, with a field outside its limits.
pub bad_frame_among : (due : ℕ → Bool) (bad-column : ℕ → List ℕ → ℕ) (bytes : List ℕ) (line : ℕ) (f : Frame) (after : List ℕ) (column : ℕ) → FrameRead bytes f after → due (kind_of f) ≡ true → column ≡ bad-column (kind_of f) (body_of f) → 0 < column → BadLineAmong due bad-column bytes line (bad_field line column)
bad_frame_among due bad-column bytes line f after column h is-due e some =
    bad_value h.line after (kind_of f) (body_of f) h.closed (framed h.line f h.frame) is-due (omega (arith, e)) (ap (bad_field line) e)
