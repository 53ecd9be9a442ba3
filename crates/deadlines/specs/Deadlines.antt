-- Deadlines of the banks, states that no order can save, and the bank that is due first.
use Rattle.std.specs.Prelude.{◌≡◌, ℕ, zero, suc, ◌+◌, ◌-◌, ◌<◌, ◌≤◌, Bool, true, cond, not, ◌&&◌, ◌≢◌, nat_le, nat_lt}
use Rattle.banks.specs.declared.table.BankTable.{BankTable}
use Rattle.banks.specs.Table.{dwell, gap}
use Rattle.banks.specs.Places.{sum_below}
use Rattle.rig.specs.Sets.{some_below}

-- The deadline of bank i with these ages: the tick, from now, by which its next whole dwell has to end so that it waits no longer than its gap.
-- It is 0 where that tick has passed; in a proper state it has not, since no age exceeds its gap.
abbrev pub deadline : BankTable → (ℕ → ℕ) → ℕ → ℕ
deadline t ages i = gap t i + dwell t i - ages i

module _ (t : BankTable) (d : ℕ → ℕ) where
  -- The ticks of one dwell on each bank whose deadline is at most this tick.
  abbrev pub due_sum : ℕ → ℕ
  due_sum by = sum_below t.count (λ i. cond (nat_le (d i) by) (dwell t i) 0)

  -- Hopeless: for some bank the dwells that are due by its deadline, its own and ties among them, take longer than that.
  pub record Hopeless : Type 0 where
    pub bank : ℕ
    pub within : bank < t.count
    pub over : d bank < due_sum (d bank)

  -- the same as a test
  abbrev pub some_overrun : Bool
  some_overrun = some_below t.count (λ i. nat_lt (d i) (due_sum (d i)))

-- An order of n banks names the bank at each of n places; each bank has exactly one place.
pub record EachOnce (n : ℕ) (o : ℕ → ℕ) : Type 0 where
  pub bank : (k : ℕ) → k < n → o k < n
  pub once : (j k : ℕ) → j < k → k < n → o j ≢ o k

-- The tick at which the dwell at place k of an order ends: dwells are laid end to end from now, without settling.
abbrev pub dwell_end : BankTable → (ℕ → ℕ) → ℕ → ℕ
dwell_end t o k = sum_below (suc k) (λ j. dwell t (o j))

-- The order has a dwell on each bank of the table, and each ends by its bank's deadline.
pub record Meets (t : BankTable) (d o : ℕ → ℕ) : Type 0 where
  pub all : EachOnce t.count o
  pub by_deadline : (k : ℕ) → k < t.count → dwell_end t o k ≤ d (o k)

-- No order of all banks meets the deadlines.
abbrev pub NoneMeets : BankTable → (ℕ → ℕ) → Type 0
NoneMeets t d = (o : ℕ → ℕ) → Meets t d o → ⊥

-- Some order of all banks meets the deadlines.
pub record SomeMeets (t : BankTable) (d : ℕ → ℕ) : Type 0 where
  pub order : ℕ → ℕ
  pub meets : Meets t d order

-- Among the untried banks below n, bank b is due first: none has an earlier deadline, and none of the same deadline has a lower number.
pub record DueFirst (n : ℕ) (d : ℕ → ℕ) (untried : ℕ → Bool) (b : ℕ) : Type 0 where
  pub bank : b < n
  pub is_untried : untried b ≡ true
  pub earliest : (i : ℕ) → i < n → untried i ≡ true → d b ≤ d i
  pub lowest : (i : ℕ) → i < n → untried i ≡ true → d i ≡ d b → b ≤ i

-- No bank below n is untried.
abbrev pub NoneUntried : ℕ → (ℕ → Bool) → Type 0
NoneUntried n untried = (i : ℕ) → i < n → untried i ≢ true

-- The untried bank below n that is due first, 0 where none is untried: bank n comes before all lower ones where it is untried and no untried one of them is due as early.
unfoldable pub earliest_due : ℕ → (ℕ → ℕ) → (ℕ → Bool) → ℕ
earliest_due zero d untried = 0
earliest_due (suc n) d untried = cond (untried n && not (some_below n (λ i. untried i && nat_le (d i) (d n)))) n (earliest_due n d untried)
