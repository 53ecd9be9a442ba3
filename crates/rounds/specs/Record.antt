-- What a round record holds, and when a list is refused.
use Rattle.std.specs.Prelude.{◌≡◌, ℕ, ◌<◌, ◌≤◌, List, length}
use Rattle.refusals.specs.declared.Refusal.{Refusal}
use Rattle.refusals.specs.Numbers.{no_move}
use Rattle.rig.specs.Orders.{LawfulForEver, again}
use Rattle.rig.specs.Checks.{ListFault}
use Rattle.banks.specs.declared.table.BankTable.{BankTable}
use Rattle.readers.specs.Panelled.{panelled}
use Rattle.readers.specs.Ticks.{Regular}
use Rattle.rounds.specs.declared.record.RoundRecord.{RoundRecord}
use Rattle.banks.specs.Stored.{most_dwells}

-- the banks of the lap, in their order
abbrev pub list_of : RoundRecord → List ℕ
list_of r = r.list.items

-- The record holds exactly this table and this list.
pub record Holds (r : RoundRecord) (t : BankTable) (xs : List ℕ) : Type 0 where
  pub table : r.table ≡ t
  pub list : list_of r ≡ xs

-- A table and a list make a record.
pub record MakesRecord (t : BankTable) (xs : List ℕ) : Type 0 where
  pub few : length xs ≤ most_dwells
  pub kept : LawfulForEver (panelled t) xs

-- The list has 1 to 4,096 dwells, and its endless repetition is regular in ticks: every dwell is on a bank of the table,
-- and no bank ever waits longer than its gap.
pub record KeepsGaps (t : BankTable) (xs : List ℕ) : Type 0 where
  pub some_dwell : 0 < length xs
  pub few : length xs ≤ most_dwells
  pub regular : Regular t (again xs)

-- The refusal tells why a table and a list make no record: the list is too long, and the position is the first that has no place;
-- or it is short enough, and the checker refuses it so on the panelled reader of the table.
pub data RecordFault (t : BankTable) (xs : List ℕ) (r : Refusal) : Type 0 where
  too_long : most_dwells < length xs → r ≡ no_move most_dwells → RecordFault t xs r
  no_round : length xs ≤ most_dwells → ListFault (panelled t) xs r → RecordFault t xs r
