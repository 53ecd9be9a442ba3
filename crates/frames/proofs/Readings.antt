-- What is read is determined by the bytes: one frame, or one fault, and not both.
use Rattle.std.proofs.Common.{◌≡◌, ℕ, List, ◌++◌, sym, ap, ◌∙◌, subst, ⊎_elim}
use Rattle.std.proofs.lemmas.Bool.{cases_order}
use Rattle.frames.specs.declared.digits.DigitFault.{DigitFault}
use Rattle.frames.specs.declared.frame.Frame.{Frame}
use Rattle.frames.specs.declared.frame.FrameFault.{FrameFault}
use Rattle.frames.specs.declared.frame.FrameFault.TheVariants.{Digit, Shape}
use Rattle.frames.specs.declared.faults.FileFault.{FileFault}
use Rattle.frames.specs.declared.faults.FileFault.TheVariants.{Frame as InFrame, TooLong, Unclosed, AfterEnd, Misplaced, Field, Unlawful}
use Rattle.frames.specs.Digits.{AllDigits, FirstNoDigit, numeral, column_of}
use Rattle.frames.specs.Lines.{ClosedLine}
use Rattle.frames.specs.Frames.{kind_of, body_of, Shaped, IsFrame, NoDigitIn, FrameFails, FrameRead, LineFails, NextFails}
use Rattle.frames.proofs.Splits.{one_line, closed_closes}
use Rattle.frames.proofs.Shapes.{good_line_cut}

-- The first byte that is no digit stands at one place.
pub one_no_digit : (bytes : List ℕ) (j k : ℕ) → FirstNoDigit bytes j → FirstNoDigit bytes k → j ≡ k
one_no_digit bytes j k a b = ⊎_elim (λ e. e) (λ o. ⊎_elim (λ l. absurd (a.there (b.before j l))) (λ l. absurd (b.there (a.before k l))) o) (cases_order j k)

-- A line of digits has no byte that is none.
pub digits_no_fault : (bytes : List ℕ) (k : ℕ) → AllDigits bytes → FirstNoDigit bytes k → ⊥
digits_no_fault bytes k t a = a.there (t k a.within)

abbrev fault_at : ℕ → ℕ → DigitFault
fault_at l c = record { line = l; column = c }

one_digit_fault : (bytes : List ℕ) (line : ℕ) (a b : DigitFault) → NoDigitIn bytes line a → NoDigitIn bytes line b → a ≡ b
one_digit_fault bytes line a b h i =
    let p = one_no_digit bytes h.place i.place h.first i.first in
    let l : a.line ≡ b.line = h.at_line ∙ sym i.at_line in
    let k : a.column ≡ b.column = h.at_column ∙ ap column_of p ∙ sym i.at_column in
    ap (λ n. fault_at n a.column) l ∙ ap (λ n. fault_at b.line n) k

-- One fault of a line at most.
pub one_frame_fault : (bytes : List ℕ) (line : ℕ) (a b : FrameFault) → FrameFails bytes line a → FrameFails bytes line b → a ≡ b
one_frame_fault bytes line (Digit d) (Digit e) h i = ap Digit (one_digit_fault bytes line d e h i)
one_frame_fault bytes line (Digit d) (Shape m) h i = absurd (digits_no_fault bytes h.place i.1.digits h.first)
one_frame_fault bytes line (Shape l) (Digit e) h i = absurd (digits_no_fault bytes i.place h.1.digits i.first)
one_frame_fault bytes line (Shape l) (Shape m) h i = ap Shape (h.0 ∙ sym i.0)

-- A frame has no fault.
pub frame_no_fault : (bytes : List ℕ) (f : Frame) (line : ℕ) (e : FrameFault) → IsFrame bytes f → FrameFails bytes line e → ⊥
frame_no_fault bytes f line e h i = good_line_cut bytes (kind_of f) (body_of f) h.digits h.shaped h.text line e i

-- What fails at a closed line is that line.
pub fails_line : (bytes line after : List ℕ) (n : ℕ) (e : FrameFault) → ClosedLine bytes line after → LineFails bytes n e → FrameFails line n e
fails_line bytes line after n e c h =
    subst (λ (xs : List ℕ). FrameFails xs n e) (one_line bytes h.line h.after line after h.closed c).0 h.fails

-- A closed line that is made as a frame is read.
pub good_line_read : (bytes line after : List ℕ) (k : ℕ) (b : List ℕ) → ClosedLine bytes line after → AllDigits line → Shaped k b → line ≡ numeral 2 k ++ b → (n : ℕ) (e : FileFault) → NextFails bytes n e → ⊥
good_line_read bytes line after k b c t s m n (InFrame e) h = good_line_cut line k b t s m n e (fails_line bytes line after n e c h)
good_line_read bytes line after k b c t s m n TooLong h = h
good_line_read bytes line after k b c t s m n (Unclosed l) h = closed_closes bytes line after c h.1
good_line_read bytes line after k b c t s m n (AfterEnd l) h = h
good_line_read bytes line after k b c t s m n (Misplaced l) h = h
good_line_read bytes line after k b c t s m n (Field l o) h = h
good_line_read bytes line after k b c t s m n (Unlawful l lap p) h = h

-- What is read does not fail.
pub read_no_fault : (bytes : List ℕ) (f : Frame) (after : List ℕ) (n : ℕ) (e : FileFault) → FrameRead bytes f after → NextFails bytes n e → ⊥
read_no_fault bytes f after n e r h =
    good_line_read bytes r.line after (kind_of f) (body_of f) r.closed r.frame.digits r.frame.shaped r.frame.text n e h

-- One fault of the next line at most.
pub one_next_fault : (bytes : List ℕ) (n : ℕ) (a b : FileFault) → NextFails bytes n a → NextFails bytes n b → a ≡ b
one_next_fault bytes n (InFrame d) (InFrame e) h i = ap InFrame (one_frame_fault h.line n d e h.fails (fails_line bytes h.line h.after n e h.closed i))
one_next_fault bytes n (InFrame d) (Unclosed l) h i = absurd (closed_closes bytes h.line h.after h.closed i.1)
one_next_fault bytes n (InFrame d) TooLong h i = absurd i
one_next_fault bytes n (InFrame d) (AfterEnd l) h i = absurd i
one_next_fault bytes n (InFrame d) (Misplaced l) h i = absurd i
one_next_fault bytes n (InFrame d) (Field l o) h i = absurd i
one_next_fault bytes n (InFrame d) (Unlawful l lap p) h i = absurd i
one_next_fault bytes n (Unclosed l) (InFrame e) h i = absurd (closed_closes bytes i.line i.after i.closed h.1)
one_next_fault bytes n (Unclosed l) (Unclosed m) h i = ap Unclosed (h.0 ∙ sym i.0)
one_next_fault bytes n (Unclosed l) TooLong h i = absurd i
one_next_fault bytes n (Unclosed l) (AfterEnd m) h i = absurd i
one_next_fault bytes n (Unclosed l) (Misplaced m) h i = absurd i
one_next_fault bytes n (Unclosed l) (Field m o) h i = absurd i
one_next_fault bytes n (Unclosed l) (Unlawful m lap p) h i = absurd i
one_next_fault bytes n TooLong b h i = absurd h
one_next_fault bytes n (AfterEnd l) b h i = absurd h
one_next_fault bytes n (Misplaced l) b h i = absurd h
one_next_fault bytes n (Field l o) b h i = absurd h
one_next_fault bytes n (Unlawful l lap p) b h i = absurd h
