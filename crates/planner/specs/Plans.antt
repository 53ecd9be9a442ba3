-- On which round a planner starts a reader.
use Rattle.std.specs.Prelude.{◌≡◌, ℕ, List, take, drop, Some, None, Ok, Err, Result}
use Rattle.sheets.specs.declared.sheet.Sheet.{Sheet}
use Rattle.banks.specs.declared.table.BankTable.{BankTable}
use Rattle.banks.specs.FromSheet.{TableOf}
use Rattle.rounds.specs.declared.record.RoundRecord.{RoundRecord}
use Rattle.rounds.specs.Record.{Holds, MakesRecord}
use Rattle.search.specs.declared.calls.Outcome.{Outcome}
use Rattle.search.specs.declared.calls.Short.{Short}

-- the round that was copied at the end of the calls, where it is n moves long
abbrev pub round_in : List ℕ → Outcome → ℕ → List ℕ
round_in room x n = take n (drop x.from room)

module _ (s : Sheet) (room : List ℕ) (outcome : Result Outcome Short) (handed runs : RoundRecord) where
  -- The reader runs the round that the calls ended with, if that makes a record with the bank table of the sheet,
  -- and otherwise the one that was handed in.
  pub data RunsOn : Type 0 where
    found : (t : BankTable) (x : Outcome) (n : ℕ) → TableOf s t → outcome ≡ Ok x → x.round ≡ Some n → Holds runs t (round_in room x n) → RunsOn
    unfit : (t : BankTable) (x : Outcome) (n : ℕ) → TableOf s t → outcome ≡ Ok x → x.round ≡ Some n → (MakesRecord t (round_in room x n) → ⊥) → runs ≡ handed → RunsOn
    no_round : (x : Outcome) → outcome ≡ Ok x → x.round ≡ None → runs ≡ handed → RunsOn
    not_run : (e : Short) → outcome ≡ Err e → runs ≡ handed → RunsOn
