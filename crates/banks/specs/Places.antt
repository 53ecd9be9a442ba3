-- Tests and sums over the numbers below a bound, and lists with a place for each bank that a table can have.
use Rattle.std.specs.Prelude.{ℕ, zero, suc, ◌+◌, Bool, true, ◌&&◌, List, map, slice_index}
use Rattle.std.specs.List.{range_with_len}
use Rattle.sheets.specs.Limits.{most_banks}

-- the test p passes at every number below n
unfoldable pub every_below : ℕ → (ℕ → Bool) → Bool
every_below zero p = true
every_below (suc n) p = p n && every_below n p

-- the sum of f over the numbers below n
unfoldable pub sum_below : ℕ → (ℕ → ℕ) → ℕ
sum_below zero f = 0
sum_below (suc n) f = sum_below n f + f n

-- a list of ages, or of other numbers, as a function of the bank
abbrev pub age_at : List ℕ → ℕ → ℕ
age_at xs i = slice_index xs i

-- a function of the bank as a list with all places
unfoldable pub spread : (ℕ → ℕ) → List ℕ
spread f = map f (range_with_len 0 most_banks)
