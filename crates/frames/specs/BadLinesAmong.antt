-- What is wrong with a line, where a frame of one of several kinds is due. The tests apply in the order of the cases.
use Rattle.std.specs.Prelude.{◌≡◌, ℕ, ◌+◌, ◌<◌, Bool, true, false, List}
use Rattle.refusals.specs.declared.Refusal.{Refusal}
use Rattle.refusals.specs.Numbers.{no_digit, no_frame, out_of_place, bad_field, bad_end}
use Rattle.frames.specs.Digits.{FirstNoDigit}
use Rattle.frames.specs.Lines.{NoneCloses, ClosedLine}
use Rattle.frames.specs.Frames.{NoFrame}
use Rattle.frames.specs.BadLines.{Framed}

-- The refusal tells what is wrong with the line that begins these bytes. `due` tells which kinds of frame may stand here,
-- and `bad-column` tells of a frame of each kind the column of the first of its fields outside its limits, or 0.
pub data BadLineAmong (due : ℕ → Bool) (bad-column : ℕ → List ℕ → ℕ) (bytes : List ℕ) (line : ℕ) (r : Refusal) : Type 0 where
  -- the line is lacking, or not closed
  not_closed : NoneCloses bytes → r ≡ bad_end line → BadLineAmong due bad-column bytes line r
  -- the byte at place p is the first that is no digit
  not_digit : (text after : List ℕ) (p : ℕ) → ClosedLine bytes text after → FirstNoDigit text p → r ≡ no_digit line (p + 1) → BadLineAmong due bad-column bytes line r
  -- the line is no frame
  not_frame : (text after : List ℕ) → ClosedLine bytes text after → NoFrame text → r ≡ no_frame line → BadLineAmong due bad-column bytes line r
  -- it is a frame of another kind
  other_kind : (text after : List ℕ) (kind : ℕ) (body : List ℕ) → ClosedLine bytes text after → Framed text kind body → due kind ≡ false → r ≡ out_of_place line → BadLineAmong due bad-column bytes line r
  -- a field is outside its limits
  bad_value : (text after : List ℕ) (kind : ℕ) (body : List ℕ) → ClosedLine bytes text after → Framed text kind body → due kind ≡ true → 0 < bad-column kind body → r ≡ bad_field line (bad-column kind body) → BadLineAmong due bad-column bytes line r
