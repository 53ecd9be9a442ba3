-- The panelled reader as a rig: the state is the age of every bank and the last panel, which is none at rest.
use Rattle.std.specs.Prelude.{ℕ, ◌+◌, ◌*◌, Bool, true, false, cond, ◌&&◌, Some, None, Option, ◌==◌, nat_le}
use Rattle.rig.specs.Meaning.{Meaning}
use Rattle.rig.specs.Guides.{Guide, Guided, guided}
use Rattle.banks.specs.declared.table.BankTable.{BankTable}
use Rattle.deadlines.specs.Deadlines.{deadline, earliest_due, some_overrun}
use Rattle.readers.specs.declared.panelled.ReaderState.{ReaderState}
use Rattle.sheets.specs.Limits.{most_banks, most_panel}
use Rattle.banks.specs.Limits.{most_gap}
use Rattle.banks.specs.Table.{panel}
use Rattle.banks.specs.Places.{age_at, spread}
use Rattle.readers.specs.Ages.{age_sum, aged, ages_cover, ages_proper, in_time}

-- the age of bank i
abbrev pub age : ReaderState → ℕ → ℕ
age s = age_at s.ages

-- a last panel is none or within its limit
abbrev pub panel_proper : Option ℕ → Bool
panel_proper None = true
panel_proper (Some p) = nat_le p most_panel

-- no settling is needed towards this panel: the last one is the same, or there is none
abbrev pub settled : Option ℕ → ℕ → Bool
settled None p = true
settled (Some q) p = q == p

-- none covers every last panel, and a panel covers itself alone
abbrev pub panel_covers : Option ℕ → Option ℕ → Bool
panel_covers None q = true
panel_covers (Some p) None = false
panel_covers (Some p) (Some q) = p == q

-- one where there is a last panel
abbrev pub one_if_some : Option ℕ → ℕ
one_if_some None = 0
one_if_some (Some p) = 1

module _ (t : BankTable) where
  -- the settling ticks before a dwell on bank j
  abbrev pub settling : Option ℕ → ℕ → ℕ
  settling last j = cond (settled last (panel t j)) 0 t.settle

  -- a state is proper when its last panel and its ages are
  abbrev pub proper_state : ReaderState → Bool
  proper_state s = panel_proper s.last && ages_proper t (age s)

  -- one state covers another when its last panel and its ages cover the other's
  abbrev pub state_covers : ReaderState → ReaderState → Bool
  state_covers a b = panel_covers a.last b.last && ages_cover t (age a) (age b)

  -- move j, one whole dwell on bank j after its settling, is allowed when it is in time
  abbrev pub move_allowed : ReaderState → ℕ → Bool
  move_allowed s j = in_time t (age s) j (settling s.last j)

  -- after it the ages are those that follow, and the last panel is that of j
  abbrev pub state_after : ReaderState → ℕ → ReaderState
  state_after s j = record { ages = spread (aged t (age s) j (settling s.last j)); last = Some (panel t j) }

  -- the sum of the ages, and one more where there is a last panel
  abbrev pub state_staleness : ReaderState → ℕ
  state_staleness s = age_sum t (age s) + one_if_some s.last

-- at rest every age is 0 and there is no last panel
abbrev pub rest_state : ReaderState
rest_state = record { ages = spread (λ i. 0); last = None }

-- the panelled reader of a table
abbrev pub panelled : BankTable → Meaning ReaderState
panelled t = record {
  moves = t.count;
  rest = rest_state;
  proper = proper_state t;
  covers = state_covers t;
  allows = move_allowed t;
  leads = state_after t;
  staleness = state_staleness t;
  ceiling = most_banks * most_gap + 1;
}

-- its guide: a state is hopeless when its deadlines are overrun, settling left out, and the bank that is due first is picked
abbrev pub panelled_guide : BankTable → Guide ReaderState
panelled_guide t = record {
  hopeless = λ s. some_overrun t (deadline t (age s));
  picks = λ s untried. earliest_due t.count (deadline t (age s)) untried;
}

-- the panelled reader with its guide
abbrev pub guided_panelled : BankTable → Guided ReaderState
guided_panelled t = guided (panelled t) (panelled_guide t)
