-- The limits of a bank table, and banks by their number.
use Rattle.std.specs.Prelude.{◌≡◌, ℕ, ◌<◌, ◌≤◌, List, slice_index_or}
use Rattle.sheets.specs.Limits.{fewest_banks, most_banks, most_panel, most_settle}
use Rattle.banks.specs.declared.table.Bank.{Bank}

-- the longest dwell, in ticks
abbrev pub most_dwell : ℕ
most_dwell = 1000

-- the longest gap, in ticks
abbrev pub most_gap : ℕ
most_gap = 65533

-- what a place without a bank holds
abbrev pub no_bank : Bank
no_bank = record { panel = 0; dwell = 0; gap = 0 }

-- the bank at a place
abbrev pub bank_at : List Bank → ℕ → Bank
bank_at bs i = slice_index_or bs i no_bank

-- a bank of the stock table
abbrev pub stock_bank : Bank
stock_bank = record { panel = 0; dwell = 1; gap = 1 }

-- a bank's panel, dwell and gap are within their limits
pub record BankWithin (b : Bank) : Type 0 where
  pub panel : b.panel ≤ most_panel
  pub dwell : (1 ≤ b.dwell) × (b.dwell ≤ most_dwell)
  pub gap : (1 ≤ b.gap) × (b.gap ≤ most_gap)

-- a place holds no bank
pub record Empty (b : Bank) : Type 0 where
  pub panel : b.panel ≡ 0
  pub dwell : b.dwell ≡ 0
  pub gap : b.gap ≡ 0

-- each of the first n places holds what it should: a bank within the limits below the count, and zeros from there on
pub record Places (count n : ℕ) (banks : List Bank) : Type 0 where
  pub bank : (i : ℕ) → i < n → i < count → BankWithin (bank_at banks i)
  pub unused : (i : ℕ) → i < n → count ≤ i → Empty (bank_at banks i)

-- numbers that make a table: all of them are within their limits, and places without a bank hold zeros
pub record WithinLimits (count settle : ℕ) (banks : List Bank) : Type 0 where
  pub enough : fewest_banks ≤ count
  pub few : count ≤ most_banks
  pub settles : settle ≤ most_settle
  pub bank : (i : ℕ) → i < count → BankWithin (bank_at banks i)
  pub unused : (i : ℕ) → count ≤ i → Empty (bank_at banks i)
