-- What is wrong with a line, where a frame of a given kind is due. The tests apply in the order of the cases.
use Rattle.std.specs.Prelude.{◌≡◌, ℕ, ◌+◌, ◌<◌, Bool, ◌||◌, List, ◌++◌, take, drop, ◌≢◌, nat_lt}
use Rattle.refusals.specs.declared.Refusal.{Refusal}
use Rattle.refusals.specs.Numbers.{no_digit, no_frame, out_of_place, bad_field, bad_end}
use Rattle.frames.specs.Digits.{AllDigits, numeral, value, FirstNoDigit}
use Rattle.frames.specs.Lines.{NoneCloses, ClosedLine}
use Rattle.frames.specs.Frames.{Shaped, NoFrame}

-- The number in a field: so many digits, from a place of the digits after the kind.
abbrev pub field : (place width : ℕ) → List ℕ → ℕ
field place width body = value (take width (drop place body))

-- A number is below the lowest or above the highest of its limits.
abbrev pub outside : (low high : ℕ) → ℕ → Bool
outside low high n = nat_lt n low || nat_lt high n

-- The text of a line is a frame of this kind, with these digits after the kind.
pub record Framed (text : List ℕ) (kind : ℕ) (body : List ℕ) : Type 0 where
  pub digits : AllDigits text
  pub parts : text ≡ numeral 2 kind ++ body
  pub shaped : Shaped kind body

-- The refusal tells what is wrong with the line that begins these bytes. `due` is the kind of frame that is due,
-- and `bad-column` tells the column of the first of its fields outside its limits, or 0.
pub data BadLine (due : ℕ) (bad-column : List ℕ → ℕ) (bytes : List ℕ) (line : ℕ) (r : Refusal) : Type 0 where
  -- the line is lacking, or not closed
  not_closed : NoneCloses bytes → r ≡ bad_end line → BadLine due bad-column bytes line r
  -- the byte at place p is the first that is no digit
  not_digit : (text after : List ℕ) (p : ℕ) → ClosedLine bytes text after → FirstNoDigit text p → r ≡ no_digit line (p + 1) → BadLine due bad-column bytes line r
  -- the line is no frame
  not_frame : (text after : List ℕ) → ClosedLine bytes text after → NoFrame text → r ≡ no_frame line → BadLine due bad-column bytes line r
  -- it is a frame of another kind
  other_kind : (text after : List ℕ) (kind : ℕ) (body : List ℕ) → ClosedLine bytes text after → Framed text kind body → (kind ≢ due) → r ≡ out_of_place line → BadLine due bad-column bytes line r
  -- a field is outside its limits
  bad_value : (text after : List ℕ) (body : List ℕ) → ClosedLine bytes text after → Framed text due body → 0 < bad-column body → r ≡ bad_field line (bad-column body) → BadLine due bad-column bytes line r
