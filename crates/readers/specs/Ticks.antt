-- Dwells in ticks: an order of dwells, one on a bank each, laid end to end from tick 0.
use Rattle.std.specs.Prelude.{◌≡◌, ℕ, zero, suc, ◌+◌, ◌*◌, ◌<◌, ◌≤◌, cond, List, length, ◌==◌, ◌≢◌}
use Rattle.rig.specs.Orders.{Order, again}
use Rattle.banks.specs.declared.table.BankTable.{BankTable}
use Rattle.banks.specs.Table.{dwell, gap, panel}

module _ (t : BankTable) (o : Order) where
  -- The settling ticks before dwell n: none before the first dwell of all, and none where the bank before lies on the same panel.
  abbrev pub settling_before : ℕ → ℕ
  settling_before zero = 0
  settling_before (suc n) = cond (panel t (o n) == panel t (o (suc n))) 0 t.settle

  -- The ticks that the first n dwells take, with their settling.
  unfoldable pub clock : ℕ → ℕ
  clock zero = 0
  clock (suc n) = clock n + settling_before n + dwell t (o n)

  -- The tick at which dwell n begins, once the reader has settled.
  abbrev pub begins : ℕ → ℕ
  begins n = clock n + settling_before n

  -- The tick at which dwell n ends: settling for the next one begins here.
  abbrev pub ends : ℕ → ℕ
  ends n = begins n + dwell t (o n)

-- Dwells p and q are on bank b, p before q, and no dwell between them is on b.
pub record NextDwell (o : Order) (b p q : ℕ) : Type 0 where
  pub later : p < q
  pub from : o p ≡ b
  pub to : o q ≡ b
  pub between : (k : ℕ) → p < k → k < q → o k ≢ b

-- Dwell q is the first one on bank b.
pub record FirstDwell (o : Order) (b q : ℕ) : Type 0 where
  pub here : o q ≡ b
  pub before : (k : ℕ) → k < q → o k ≢ b

-- From the end of dwell p to the beginning of dwell q there are w ticks.
abbrev pub Waits : BankTable → Order → ℕ → ℕ → ℕ → Type 0
Waits t o p q w = ends t o p + w ≡ begins t o q

-- The longest that bank b ever waits from one dwell on it to the next is w ticks: one wait is as long, and none is longer.
pub record LongestWait (t : BankTable) (o : Order) (b w : ℕ) : Type 0 where
  pub from : ℕ
  pub to : ℕ
  pub next : NextDwell o b from to
  pub waits : Waits t o from to w
  pub no_longer : (p q : ℕ) → NextDwell o b p q → begins t o q ≤ ends t o p + w

-- Bank b is served in time: its first dwell begins by its gap, and after each dwell on it comes a next one that begins at most its gap later.
pub record InTime (t : BankTable) (o : Order) (b : ℕ) : Type 0 where
  pub start : ℕ
  pub first : FirstDwell o b start
  pub soon : begins t o start ≤ gap t b
  pub next : (p : ℕ) → o p ≡ b → (q : ℕ) × NextDwell o b p q × (begins t o q ≤ ends t o p + gap t b)

-- The order is regular for the table: every dwell is on a bank of the table, and every bank is served in time.
pub record Regular (t : BankTable) (o : Order) : Type 0 where
  pub on_bank : (n : ℕ) → o n < t.count
  pub served : (b : ℕ) → b < t.count → InTime t o b

-- Each lap of the list but the first takes n ticks, from the end of the lap before to its own end. (The first lacks the settling before its first dwell.)
abbrev pub LapTicks : BankTable → List ℕ → ℕ → Type 0
LapTicks t xs n = (k : ℕ) → clock t (again xs) ((k + 2) * length xs) ≡ clock t (again xs) ((k + 1) * length xs) + n
