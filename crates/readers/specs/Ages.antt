-- Ages of the banks, and what one dwell does to them. A bank's age is the ticks since its last dwell ended, or since the start.
-- Ages are given as a function of the bank; a reader's state holds them in a list.
use Rattle.std.specs.Prelude.{◌≡◌, ℕ, ◌+◌, ◌<◌, ◌≤◌, Bool, cond, ◌==◌, ◌≢◌, nat_le, nat_lt}
use Rattle.banks.specs.declared.table.BankTable.{BankTable}
use Rattle.sheets.specs.Limits.{most_banks}
use Rattle.banks.specs.Table.{dwell, gap}
use Rattle.banks.specs.Places.{every_below, sum_below}

module _ (t : BankTable) (f : ℕ → ℕ) where
  -- no age exceeds its gap; a place without a bank has gap 0, so its age is 0
  abbrev pub ages_proper : Bool
  ages_proper = every_below most_banks (λ i. nat_le (f i) (gap t i))

  -- none of the ages f is larger than g's
  abbrev pub ages_cover : (ℕ → ℕ) → Bool
  ages_cover g = every_below t.count (λ i. nat_le (f i) (g i))

  -- a dwell on bank j after n ticks of settling leaves no bank waiting longer than its gap: bank j waits until the dwell begins, the others until it ends
  abbrev pub in_time : ℕ → ℕ → Bool
  in_time j n = every_below t.count (λ i. nat_le (f i + (n + cond (i == j) 0 (dwell t j))) (gap t i))

  -- the age of bank i after that dwell
  abbrev pub aged : ℕ → ℕ → ℕ → ℕ
  aged j n i = cond (nat_lt i t.count) (cond (i == j) 0 (f i + n + dwell t j)) 0

  -- the sum of the ages
  abbrev pub age_sum : ℕ
  age_sum = sum_below t.count f

-- The same in plain statements.

-- No bank's age exceeds its gap, and places without a bank have age 0.
pub record AgesProper (t : BankTable) (f : ℕ → ℕ) : Type 0 where
  pub banks : (i : ℕ) → i < t.count → f i ≤ gap t i
  pub unused : (i : ℕ) → i < most_banks → t.count ≤ i → f i ≡ 0

-- None of the banks' ages f is larger than g's.
abbrev pub AgesCover : BankTable → (ℕ → ℕ) → (ℕ → ℕ) → Type 0
AgesCover t f g = (i : ℕ) → i < t.count → f i ≤ g i

-- A dwell on bank j after n ticks of settling is in time: bank j's wait until the dwell begins is within its gap, and every other bank's wait until it ends is within its own.
pub record InTime (t : BankTable) (f : ℕ → ℕ) (j n : ℕ) : Type 0 where
  pub own : f j + n ≤ gap t j
  pub others : (i : ℕ) → i < t.count → (i ≢ j) → f i + n + dwell t j ≤ gap t i

-- The ages g follow from f by that dwell: bank j has age 0, and the others are older by settling and dwell.
pub record Aged (t : BankTable) (f : ℕ → ℕ) (j n : ℕ) (g : ℕ → ℕ) : Type 0 where
  pub own : g j ≡ 0
  pub others : (i : ℕ) → i < t.count → (i ≢ j) → g i ≡ f i + n + dwell t j
  pub unused : (i : ℕ) → i < most_banks → t.count ≤ i → g i ≡ 0
