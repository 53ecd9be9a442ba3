-- What the account of a lap tells. A lap is a list of banks, one dwell on each in turn, repeated without end.
use Rattle.std.specs.Prelude.{◌≡◌, ℕ, ◌+◌, ◌<◌, ◌≤◌, List, length, ◌≢◌, slice_index, slice_index_or}
use Rattle.rig.specs.Orders.{again}
use Rattle.rig.specs.Checks.{OnlyMoves}
use Rattle.banks.specs.declared.table.BankTable.{BankTable}
use Rattle.banks.specs.Stored.{most_dwells}
use Rattle.banks.specs.Table.{gap}
use Rattle.readers.specs.Ticks.{LongestWait}

-- The list is a lap for the table: 1 to 4,096 dwells, each on a bank of the table.
pub record Lap (t : BankTable) (xs : List ℕ) : Type 0 where
  pub only : OnlyMoves t.count xs
  pub most : length xs ≤ most_dwells

-- The bank stands somewhere in the list.
pub record Occurs (xs : List ℕ) (b : ℕ) : Type 0 where
  pub place : ℕ
  pub within : place < length xs
  pub here : slice_index_or xs place 0 ≡ b

-- The first place of the bank in the list.
pub record FirstPlace (xs : List ℕ) (b p : ℕ) : Type 0 where
  pub within : p < length xs
  pub here : slice_index_or xs p 0 ≡ b
  pub before : (k : ℕ) → k < p → slice_index xs k ≢ b

-- The slack of bank b: its gap is s ticks longer than the longest wait between its dwells as the lap is repeated without end.
pub record Slack (t : BankTable) (xs : List ℕ) (b s : ℕ) : Type 0 where
  pub lap : Lap t xs
  pub longest : ℕ
  pub waits : LongestWait t (again xs) b longest
  pub left : longest + s ≡ gap t b

-- Of the banks below n, bank b has the least slack, s ticks: none has a smaller one, and none with an equal one has a lower number.
pub record LeastSlack (t : BankTable) (xs : List ℕ) (n b s : ℕ) : Type 0 where
  pub bank : b < n
  pub slack : Slack t xs b s
  pub least : (i : ℕ) → i < n → (k : ℕ) → Slack t xs i k → s ≤ k
  pub lowest : (i : ℕ) → i < n → Slack t xs i s → b ≤ i
