-- Feeders, and what a sheet may list.
use Rattle.std.specs.Prelude.{◌≡◌, ℕ, ◌-◌, ◌*◌, ◌<◌, ◌≤◌, List, ◌≢◌, slice_index, slice_index_or}
use Rattle.sheets.specs.declared.feeder.Feeder.{Feeder}
use Rattle.sheets.specs.Limits.{fewest_banks, most_banks, most_settle, most_panel, most_feeders, most_number, most_reading, most_swap, least_swap}

-- what a place without a feeder holds
abbrev pub no_feeder : Feeder
no_feeder = record { number = 0; bank = 0; reading = 0; swap = 0 }

-- the feeder at a place
abbrev pub feeder_at : List Feeder → ℕ → Feeder
feeder_at fs k = slice_index_or fs k no_feeder

-- the longest wait of its bank that a feeder bears: of its swap time, two reading times are kept back
abbrev pub allowance : Feeder → ℕ
allowance f = f.swap - 2 * f.reading

-- the numbers of a feeder are within their limits, where there are so many banks
pub record FeederWithin (banks : ℕ) (f : Feeder) : Type 0 where
  pub numbered : f.number ≤ most_number
  pub on_bank : f.bank < banks
  pub some_reading : 1 ≤ f.reading
  pub few_reading : f.reading ≤ most_reading
  pub long_swap : least_swap f.reading ≤ f.swap
  pub short_swap : f.swap ≤ most_swap

-- each of the first n feeders is within its limits
abbrev pub EachWithin : ℕ → List Feeder → ℕ → Type 0
EachWithin banks fs n = (k : ℕ) → k < n → FeederWithin banks (feeder_at fs k)

-- no two of the first n feeders have the same number
abbrev pub Apart : List Feeder → ℕ → Type 0
Apart fs n = (j k : ℕ) → j < k → k < n → (feeder_at fs j).number ≢ (feeder_at fs k).number

-- one of the first n feeders has this number
abbrev pub HasNumber : List Feeder → ℕ → ℕ → Type 0
HasNumber fs n number = (k : ℕ) × (k < n) × ((feeder_at fs k).number ≡ number)

-- one of the first n feeders is in this bank
abbrev pub HasBank : List Feeder → ℕ → ℕ → Type 0
HasBank fs n bank = (k : ℕ) × (k < n) × ((feeder_at fs k).bank ≡ bank)

-- none of the first n feeders is in this bank
abbrev pub NoneIn : List Feeder → ℕ → ℕ → Type 0
NoneIn fs n bank = (k : ℕ) → k < n → (feeder_at fs k).bank ≢ bank

-- no bank is without a feeder among the first n
abbrev pub AllServed : ℕ → List Feeder → ℕ → Type 0
AllServed banks fs n = (i : ℕ) → i < banks → NoneIn fs n i → ⊥

-- numbers that make a sheet
pub record SheetWithin (count settle : ℕ) (panels : List ℕ) (listed : ℕ) (feeders : List Feeder) : Type 0 where
  pub enough : fewest_banks ≤ count
  pub few : count ≤ most_banks
  pub settles : settle ≤ most_settle
  pub panelled : (i : ℕ) → i < count → slice_index panels i ≤ most_panel
  pub some : 1 ≤ listed
  pub room : listed ≤ most_feeders
  pub within : EachWithin count feeders listed
  pub apart : Apart feeders listed
  pub served : AllServed count feeders listed
