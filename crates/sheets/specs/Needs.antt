-- What a bank needs, by the feeders in it.
use Rattle.std.specs.Prelude.{◌≡◌, ℕ, ◌<◌, ◌≤◌, cond, List, count_by, ◌≢◌, nat_eq, nat_lt, slice_index}
use Rattle.sheets.specs.declared.feeder.Feeder.{Feeder}
use Rattle.sheets.specs.declared.sheet.Sheet.{Sheet}
use Rattle.sheets.specs.declared.sheet.needs.BankNeeds.{BankNeeds}
use Rattle.sheets.specs.Feeders.{feeder_at, allowance}
use Rattle.sheets.specs.SheetText.{list_of}

-- Of the first n feeders, some in this bank has the value `best`, which is beaten by none in the bank,
-- and the first of the bank that has it has this number.
pub record SetBy (no-worse : ℕ → ℕ → Type 0) (value : Feeder → ℕ) (fs : List Feeder) (n bank best number : ℕ) : Type 0 where
  pub place : ℕ
  pub within : place < n
  pub there : (feeder_at fs place).bank ≡ bank
  pub has : value (feeder_at fs place) ≡ best
  pub named : (feeder_at fs place).number ≡ number
  pub first : (k : ℕ) → k < place → (feeder_at fs k).bank ≡ bank → value (feeder_at fs k) ≢ best
  pub each : (k : ℕ) → k < n → (feeder_at fs k).bank ≡ bank → no-worse best (value (feeder_at fs k))

-- no reading time in the bank is longer than the dwell, and the feeder with this number is the first that has it
abbrev pub LongestReading : List Feeder → (n bank dwell number : ℕ) → Type 0
LongestReading = SetBy (λ best v. v ≤ best) (λ f. f.reading)

-- no allowance in the bank is less than the gap, and the feeder with this number is the first that has it
abbrev pub LeastAllowance : List Feeder → (n bank gap number : ℕ) → Type 0
LeastAllowance = SetBy (λ best v. best ≤ v) allowance

-- What one more feeder of the bank makes of its needs: a longer reading takes over the dwell, and a smaller allowance the gap.
abbrev pub grown : BankNeeds → Feeder → BankNeeds
grown needs f = record {
  feeders = needs.feeders;
  panel = needs.panel;
  dwell = cond (nat_lt needs.dwell f.reading) f.reading needs.dwell;
  dwell_feeder = cond (nat_lt needs.dwell f.reading) f.number needs.dwell_feeder;
  gap = cond (nat_lt (allowance f) needs.gap) (allowance f) needs.gap;
  gap_feeder = cond (nat_lt (allowance f) needs.gap) f.number needs.gap_feeder;
}

-- The needs of a bank of a sheet.
pub record NeedsOf (s : Sheet) (bank : ℕ) (needs : BankNeeds) : Type 0 where
  pub known : bank < s.count
  pub size : needs.feeders ≡ count_by (λ f. nat_eq f.bank bank) (list_of s)
  pub panel : needs.panel ≡ slice_index s.panels bank
  pub longest : LongestReading s.feeders s.listed bank needs.dwell needs.dwell_feeder
  pub least : LeastAllowance s.feeders s.listed bank needs.gap needs.gap_feeder
