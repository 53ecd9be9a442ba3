-- The fields of a line, and the numbers in them.
use Rattle.std.specs.Prelude.{◌≡◌, ℕ, ◌+◌, ◌<◌, Bool, true, cond, ◌&&◌, List, [], ◌∷◌, length, take, drop, nat_le, nat_lt}
use Rattle.frames.specs.declared.fields.Field.{Field}
use Rattle.frames.specs.declared.faults.FileFault.{FileFault}
use Rattle.frames.specs.declared.faults.FileFault.TheVariants.{Field as InField}
use Rattle.frames.specs.Digits.{digit_value}
use Rattle.frames.specs.BadLines.{field, outside}

-- Whether every byte is a digit.
abbrev pub all_digits : List ℕ → Bool
all_digits [] = true
all_digits (b ∷ bs) = nat_lt (digit_value b) 16 && all_digits bs

-- The number in a field of digits, 0 where they have no such field: it has at most 8 digits, and ends among them.
unfoldable pub number_in : (place width : ℕ) → List ℕ → ℕ
number_in place width digits =
    cond (nat_le width 8 && (nat_le (place + width) (length digits) && all_digits (take width (drop place digits)))) (field place width digits) 0

-- The numbers in the fields.
abbrev pub numbers_in : List Field → List ℕ → List ℕ
numbers_in [] digits = []
numbers_in (f ∷ fs) digits = number_in f.place f.width digits ∷ numbers_in fs digits

-- The column of the first field whose number is outside its limits, or 0. The digits after the kind begin at column 3.
abbrev pub bad_column : List Field → List ℕ → ℕ
bad_column [] digits = 0
bad_column (f ∷ fs) digits = cond (outside f.low f.high (number_in f.place f.width digits)) (3 + f.place) (bad_column fs digits)

-- The fault tells this column of the line, where a number outside its limits begins.
abbrev pub ToldColumn : (column line : ℕ) → FileFault → Type 0
ToldColumn column line e = (0 < column) × (e ≡ InField line column)
