-- What a bank table says of each bank of a sheet.
use Rattle.std.specs.Prelude.{◌≡◌, ℕ, ◌<◌, slice_index}
use Rattle.sheets.specs.declared.sheet.Sheet.{Sheet}
use Rattle.sheets.specs.Needs.{LongestReading, LeastAllowance}
use Rattle.banks.specs.declared.table.Bank.{Bank}
use Rattle.banks.specs.declared.table.BankTable.{BankTable}
use Rattle.banks.specs.Limits.{bank_at}

-- The bank has the panel that the sheet lists for it, as dwell the longest reading time of its feeders, and as gap their least
-- allowance. Each of the two is set by a feeder of the bank, the one with this number.
pub record FromSheet (s : Sheet) (i : ℕ) (b : Bank) : Type 0 where
  pub panel : b.panel ≡ slice_index s.panels i
  pub dwell_feeder : ℕ
  pub dwell : LongestReading s.feeders s.listed i b.dwell dwell_feeder
  pub gap_feeder : ℕ
  pub gap : LeastAllowance s.feeders s.listed i b.gap gap_feeder

-- The table is the sheet's: it has the sheet's number of banks and settle time, and each bank has its panel and what its feeders need.
pub record TableOf (s : Sheet) (t : BankTable) : Type 0 where
  pub count : t.count ≡ s.count
  pub settle : t.settle ≡ s.settle
  pub banks : (i : ℕ) → i < s.count → FromSheet s i (bank_at t.banks i)
