-- A stored round: the lines of its bank table, and then the lines of its list.
use Rattle.std.specs.Prelude.{◌≡◌, ℕ, ◌+◌, ◌<◌, ◌≤◌, List, ◌++◌, length}
use Rattle.refusals.specs.declared.Refusal.{Refusal}
use Rattle.refusals.specs.Numbers.{bad_end, not_lawful_in_file}
use Rattle.frames.specs.declared.faults.FileFault.{FileFault}
use Rattle.frames.specs.declared.faults.FileFault.TheVariants.{Unlawful as InFile}
use Rattle.rig.specs.Orders.{LawfulForEver}
use Rattle.rig.specs.Checks.{FirstUnlawful}
use Rattle.banks.specs.declared.table.BankTable.{BankTable}
use Rattle.readers.specs.Panelled.{panelled}
use Rattle.frames.specs.Lines.{most_bytes}
use Rattle.banks.specs.Stored.{most_dwells, head_line, bank_lines, TableRead, TableFault}
use Rattle.rounds.specs.declared.record.RoundRecord.{RoundRecord}
use Rattle.rounds.specs.Record.{Holds, KeepsGaps}
use Rattle.rounds.specs.Parts.{part_lines, parts_of, PartsFault}

-- the text of a table and a list
abbrev pub round_text : BankTable → List ℕ → List ℕ
round_text t xs = head_line t.count t.settle (length xs) ++ (bank_lines t.banks t.count ++ part_lines xs (parts_of (length xs)))

-- its last line: behind the head and a line for each bank come the lines of the list
abbrev pub last_line : BankTable → ℕ → ℕ
last_line t dwells = (1 + t.count) + parts_of dwells

-- The bytes are the text of a table and a list that is short enough for a record and lawful for ever.
pub record IsStored (bytes : List ℕ) (t : BankTable) (xs : List ℕ) : Type 0 where
  pub few : length xs ≤ most_dwells
  pub kept : LawfulForEver (panelled t) xs
  pub text : bytes ≡ round_text t xs

-- The bytes are the text of some table and list, within the limits and lawful for ever.
pub record SomeStored (bytes : List ℕ) : Type 0 where
  pub table : BankTable
  pub list : List ℕ
  pub stored : IsStored bytes table list

-- The bytes are the text of some table and list that keeps every gap of the table, in ticks.
pub record SomeRegular (bytes : List ℕ) : Type 0 where
  pub table : BankTable
  pub list : List ℕ
  pub keeps : KeepsGaps table list
  pub text : bytes ≡ round_text table list

-- the fault that tells the lap and the position of a refusal at this line
abbrev pub in_file_at : ℕ → Refusal → FileFault
in_file_at line r = InFile line r.lap r.position

-- A list whose lines were read is lawful for ever, and nothing comes behind them.
pub record Ended (t : BankTable) (xs rest : List ℕ) : Type 0 where
  pub kept : LawfulForEver (panelled t) xs
  pub nothing : length rest ≡ 0

-- What is wrong where every line is good: the list is not lawful for ever, which is told at the last line with lap and position;
-- or it is, and something stands after the last line.
pub data EndFault (t : BankTable) (xs rest : List ℕ) (r : Refusal) : Type 0 where
  unlawful : (lap position : ℕ) → FirstUnlawful (panelled t) xs lap position → r ≡ not_lawful_in_file (last_line t (length xs)) lap position → EndFault t xs rest r
  after_end : LawfulForEver (panelled t) xs → 0 < length rest → r ≡ bad_end (last_line t (length xs) + 1) → EndFault t xs rest r

-- The lines of a table and of a list are good, whatever comes behind them.
pub record LinesRead (bytes : List ℕ) (t : BankTable) (xs rest : List ℕ) : Type 0 where
  pub size : length bytes ≤ most_bytes
  pub few : length xs ≤ most_dwells
  pub text : bytes ≡ round_text t xs ++ rest

-- The refusal tells the first fault of the bytes as a stored round.
pub data FirstFault (bytes : List ℕ) (r : Refusal) : Type 0 where
  -- the file is too long, or a line of the table is bad
  in_table : TableFault bytes r → FirstFault bytes r
  -- the lines of the table are good, and a line of the list is bad
  in_list : (t : BankTable) (dwells : ℕ) (rest : List ℕ) → TableRead bytes t dwells rest → PartsFault t.count dwells rest r → FirstFault bytes r
  -- every line is good, and the fault shows at their end
  at_end : (t : BankTable) (xs rest : List ℕ) → LinesRead bytes t xs rest → EndFault t xs rest r → FirstFault bytes r

-- No other round has this text: whatever table and list the bytes are the text of, the record holds them. And the bytes have no fault.
pub record OnlyRound (bytes : List ℕ) (r : RoundRecord) : Type 0 where
  pub one : (t : BankTable) (xs : List ℕ) → IsStored bytes t xs → Holds r t xs
  pub faultless : (s : Refusal) → FirstFault bytes s → ⊥

-- No other refusal tells the first fault of the bytes.
abbrev pub OnlyFault : List ℕ → Refusal → Type 0
OnlyFault bytes r = (s : Refusal) → FirstFault bytes s → s ≡ r
