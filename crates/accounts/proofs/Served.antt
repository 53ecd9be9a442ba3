-- A round in its list: every bank stands in it, and what is left of a gap is the slack.
use Rattle.std.proofs.Common.{◌≡◌, ℕ, ◌+◌, ◌-◌, ◌%◌, ◌<◌, ◌≤◌, true, List, length, get_or, is_some, Some, None, Option, refl, ap, subst, mod-lt, mod-eq_of_lt, arith, MatchOption}
use Rattle.std.specs.Option.{SomeIff}
use Rattle.rig.specs.Orders.{Order, again, LawfulForEver}
use Rattle.banks.specs.declared.table.BankTable.{BankTable}
use Rattle.banks.specs.Table.{gap}
use Rattle.readers.specs.Panelled.{panelled}
use Rattle.readers.specs.Ticks.{begins, LongestWait, InTime}
use Rattle.banks.specs.Stored.{most_dwells}
use Rattle.readers.specs.Clocks.{next_one}
use Rattle.readers.proofs.Served.{on_bank, has_first, in_time}
use Rattle.accounts.specs.Account.{Lap, Occurs, Slack}

module _ (t : BankTable) (xs : List ℕ) (good : LawfulForEver (panelled t) xs) where
  -- a round is a lap, unless it is too long
  pub round_lap : length xs ≤ most_dwells → Lap t xs
  round_lap short = record {
    only = record {
      some_move = good.some_move;
      each = λ k l. subst (λ (j : ℕ). j < t.count) (ap (λ (i : ℕ). get_or xs i 0) (mod-eq_of_lt l)) (on_bank t (again xs) good.endless k);
    };
    most = short;
  }

-- a bank of the repetition stands in the list
pub occurs : (xs : List ℕ) (b k : ℕ) → 0 < length xs → again xs k ≡ b → Occurs xs b
occurs xs b k pos e = record { place = k % length xs; within = mod-lt k pos; here = e }

-- every bank occurs in a round
pub round_occurs : (t : BankTable) (xs : List ℕ) (b : ℕ) → LawfulForEver (panelled t) xs → b < t.count → Occurs xs b
round_occurs t xs b good bank = let x = has_first t (again xs) good.endless b bank in occurs xs b x.at good.some_move x.here

-- in a round every bank of the table is served in time
pub round_in_time : (t : BankTable) (xs : List ℕ) (b : ℕ) → LawfulForEver (panelled t) xs → b < t.count → InTime t (again xs) b
round_in_time t xs b good bank = in_time t (again xs) good.endless b bank

-- there is one longest wait
pub longest_one : (t : BankTable) (o : Order) (b v w : ℕ) → LongestWait t o b v → LongestWait t o b w → v ≡ w
longest_one t o b v w x y =
    omega (arith, x.waits, y.waits, x.no_longer y.from y.to y.next, y.no_longer x.from x.to x.next)

-- the longest wait is within the gap where the bank is served in time
pub longest_in_time : (t : BankTable) (o : Order) (b w : ℕ) → LongestWait t o b w → InTime t o b → w ≤ gap t b
longest_in_time t o b w x y =
    let n = y.next x.from x.next.from in
    omega (arith, x.waits, n.2, ap (begins t o) (next_one o b x.from n.0 x.to n.1 x.next))

-- slack needs a wait
pub slack_occurs : (t : BankTable) (xs : List ℕ) (b s : ℕ) → Slack t xs b s → Occurs xs b
slack_occurs t xs b s x = occurs xs b x.waits.from x.lap.only.some_move x.waits.next.from

-- of a lap, what is told of its waits is told of it as a list
pub lap_waits : (t : BankTable) (xs : List ℕ) (b : ℕ) (r : Option ℕ) → Lap t xs → MatchOption r (Occurs xs b → ⊥) (λ w. LongestWait t (again xs) b w)
    → MatchOption r (Lap t xs → Occurs xs b → ⊥) (λ w. Lap t xs × LongestWait t (again xs) b w)
lap_waits t xs b None lap none = λ l. none
lap_waits t xs b (Some w) lap some = (lap, some)

-- what is left of the gap is the slack, if there is anything to take the wait from
pub slack_left : (t : BankTable) (xs : List ℕ) (b w : ℕ) (r : Option ℕ) → Lap t xs → LongestWait t (again xs) b w → SomeIff r (w ≤ gap t b) (gap t b - w) → MatchOption r ((s : ℕ) → Slack t xs b s → ⊥) (λ s. Slack t xs b s)
slack_left t xs b w None lap x none = λ s y. none (omega (arith, longest_one t (again xs) b w y.longest x y.waits, y.left))
slack_left t xs b w (Some s) lap x some = record { lap = lap; longest = w; waits = x; left = omega (arith, some.0, some.1) }

-- there is a slack where the wait is within the gap
pub slack_some : (v g : ℕ) (r : Option ℕ) → v ≤ g → SomeIff r (v ≤ g) (g - v) → is_some r ≡ true
slack_some v g None l none = absurd (none l)
slack_some v g (Some s) l some = refl

-- a bank has one slack
pub slack_one : (t : BankTable) (xs : List ℕ) (b r s : ℕ) → Slack t xs b r → Slack t xs b s → r ≡ s
slack_one t xs b r s x y =
    omega (arith, longest_one t (again xs) b x.longest y.longest x.waits y.waits, x.left, y.left)

-- a wait that is the longest, and the slack, make up the gap
pub slack_beyond : (t : BankTable) (xs : List ℕ) (b w s : ℕ) → LongestWait t (again xs) b w → Slack t xs b s → w + s ≡ gap t b
slack_beyond t xs b w s x y = omega (arith, longest_one t (again xs) b w y.longest x y.waits, y.left)
