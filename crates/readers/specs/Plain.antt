-- The plain reader as a rig: the state is the age of every bank, and nothing settles.
use Rattle.std.specs.Prelude.{◌≡◌, ℕ, ◌+◌, ◌*◌, ◌<◌, ◌≤◌, ◌≢◌}
use Rattle.rig.specs.Meaning.{Meaning}
use Rattle.rig.specs.Guides.{Guide, Guided, guided}
use Rattle.banks.specs.declared.table.BankTable.{BankTable}
use Rattle.deadlines.specs.Deadlines.{deadline, earliest_due, some_overrun}
use Rattle.readers.specs.declared.plain.PlainState.{PlainState}
use Rattle.sheets.specs.Limits.{most_banks}
use Rattle.banks.specs.Limits.{most_gap}
use Rattle.banks.specs.Table.{dwell, gap}
use Rattle.readers.specs.Ages.{Aged, AgesProper, age_sum, aged, ages_cover, ages_proper, in_time}
use Rattle.banks.specs.Places.{age_at, spread}

-- the age of bank i
abbrev pub plain_age : PlainState → ℕ → ℕ
plain_age s = age_at s.ages

-- at rest every age is 0
abbrev pub plain_rest : PlainState
plain_rest = record { ages = spread (λ i. 0) }

-- the plain reader of a table: move j, one whole dwell on bank j, is allowed when it is in time without settling
abbrev pub plain : BankTable → Meaning PlainState
plain t = record {
  moves = t.count;
  rest = plain_rest;
  proper = λ s. ages_proper t (plain_age s);
  covers = λ a b. ages_cover t (plain_age a) (plain_age b);
  allows = λ s j. in_time t (plain_age s) j 0;
  leads = λ s j. record { ages = spread (aged t (plain_age s) j 0) };
  staleness = λ s. age_sum t (plain_age s);
  ceiling = most_banks * most_gap + 1;
}

-- its guide: a state is hopeless when its deadlines are overrun, and the bank that is due first is picked
abbrev pub plain_guide : BankTable → Guide PlainState
plain_guide t = record {
  hopeless = λ s. some_overrun t (deadline t (plain_age s));
  picks = λ s untried. earliest_due t.count (deadline t (plain_age s)) untried;
}

-- the plain reader with its guide
abbrev pub guided_plain : BankTable → Guided PlainState
guided_plain t = guided (plain t) (plain_guide t)

-- Move j is lawful for the plain reader: the state is proper, j is a bank, and no other bank waits longer than its gap until the dwell on j ends.
pub record PlainLawful (t : BankTable) (s : PlainState) (j : ℕ) : Type 0 where
  pub proper : AgesProper t (plain_age s)
  pub bank : j < t.count
  pub others : (i : ℕ) → i < t.count → (i ≢ j) → plain_age s i + dwell t j ≤ gap t i

-- State r comes after move j in state s: where the move is lawful its ages follow by the dwell, without settling; where it is not, r is rest.
pub record PlainAfter (t : BankTable) (s : PlainState) (j : ℕ) (r : PlainState) : Type 0 where
  pub lawful : PlainLawful t s j → Aged t (plain_age s) j 0 (plain_age r)
  pub unlawful : (PlainLawful t s j → ⊥) → r ≡ plain_rest
