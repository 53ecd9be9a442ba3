-- Digits: what each byte stands for, and how a number is written.
use Rattle.std.specs.Prelude.{◌≡◌, ℕ, zero, suc, ◌+◌, ◌-◌, ◌*◌, ◌/◌, ◌%◌, ◌^◌, ◌<◌, min, cond, ◌&&◌, List, [], ◌∷◌, length, nat_le, nat_lt, slice_index}

-- What a byte stands for: 0 to 9 by the bytes 48 to 57, 10 to 15 by the bytes 65 to 70, the capitals; 16 says that it is no digit.
unfoldable pub digit_value : ℕ → ℕ
digit_value b = cond (nat_le 48 b && nat_le b 57) (b - 48) (cond (nat_le 65 b && nat_le b 70) (b - 55) 16)

abbrev pub IsDigit : ℕ → Type 0
IsDigit b = digit_value b < 16

-- Each byte of the list is a digit.
abbrev pub AllDigits : List ℕ → Type 0
AllDigits xs = (k : ℕ) → k < length xs → IsDigit (slice_index xs k)

-- The byte that stands for a number below 16.
unfoldable pub digit : ℕ → ℕ
digit v = cond (nat_lt v 10) (48 + v) (55 + v)

-- The number in w digits, the most significant first.
abbrev pub numeral : ℕ → ℕ → List ℕ
numeral zero n = []
numeral (suc w) n = digit (n / 16 ^ w % 16) ∷ numeral w n

-- The number that digits write.
abbrev pub value : List ℕ → ℕ
value [] = 0
value (b ∷ bs) = digit_value b * 16 ^ length bs + value bs

-- The digits are those of the number, which is small enough for them.
pub record Writes (digits : List ℕ) (n : ℕ) : Type 0 where
  pub text : digits ≡ numeral (length digits) n
  pub small : n < 16 ^ length digits

-- The byte at place k, from 0, is the first that is no digit.
pub record FirstNoDigit (bytes : List ℕ) (k : ℕ) : Type 0 where
  pub within : k < length bytes
  pub before : (i : ℕ) → i < k → IsDigit (slice_index bytes i)
  pub there : IsDigit (slice_index bytes k) → ⊥

-- Columns count from 1. The last column that is told is 2 ^ 32 - 1: what stands behind it is told there.
abbrev pub column_of : ℕ → ℕ
column_of k = min (k + 1) 4294967295
