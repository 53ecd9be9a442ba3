-- What the panelled reader's replies mean, in plain statements.
use Rattle.std.specs.Prelude.{◌≡◌, ℕ, ◌<◌, ◌≤◌, Bool, ◌⊎◌, Some, None, Decides, Option, ◌≢◌}
use Rattle.banks.specs.declared.table.BankTable.{BankTable}
use Rattle.readers.specs.declared.panelled.ReaderState.{ReaderState}
use Rattle.sheets.specs.Limits.{most_panel}
use Rattle.banks.specs.Table.{panel}
use Rattle.readers.specs.Ages.{Aged, AgesCover, AgesProper, InTime}
use Rattle.readers.specs.Panelled.{age, rest_state}

-- A state is proper when its ages are, and its last panel is none or a panel.
pub record Proper (t : BankTable) (s : ReaderState) : Type 0 where
  pub last_panel : (p : ℕ) → s.last ≡ Some p → p ≤ most_panel
  pub ages : AgesProper t (age s)

-- A state covers another when none of its ages is larger, and its last panel is the other's or none.
pub record Covers (t : BankTable) (a b : ReaderState) : Type 0 where
  pub last_panel : (a.last ≡ None) ⊎ (a.last ≡ b.last)
  pub ages : AgesCover t (age a) (age b)

-- n is the settling before a dwell on bank j after this last panel: the settle time where the panel changes, and 0 on the same panel or with no last panel.
pub record Settles (t : BankTable) (last : Option ℕ) (j n : ℕ) : Type 0 where
  pub at_first : last ≡ None → n ≡ 0
  pub on_same : last ≡ Some (panel t j) → n ≡ 0
  pub on_other : (p : ℕ) → last ≡ Some p → (p ≢ panel t j) → n ≡ t.settle

-- Move j with the settling n is lawful: the state is proper, j is a bank, and the dwell on it is in time.
pub record MoveLawful (t : BankTable) (s : ReaderState) (j n : ℕ) : Type 0 where
  pub proper : Proper t s
  pub bank : j < t.count
  pub dwell : InTime t (age s) j n

-- State r follows a lawful move j with the settling n: its ages follow by that dwell, and its last panel is that of j.
pub record Follows (t : BankTable) (s : ReaderState) (j n : ℕ) (r : ReaderState) : Type 0 where
  pub ages : Aged t (age s) j n (age r)
  pub last_panel : r.last ≡ Some (panel t j)

-- The answer r tells whether move j is lawful in state s.
pub record TellsLawful (t : BankTable) (s : ReaderState) (j : ℕ) (r : Bool) : Type 0 where
  pub ticks : ℕ
  pub settles : Settles t s.last j ticks
  pub decides : Decides r (MoveLawful t s j ticks)

-- State r comes after move j in state s: what follows where the move is lawful, and rest where it is not.
pub record TellsAfter (t : BankTable) (s : ReaderState) (j : ℕ) (r : ReaderState) : Type 0 where
  pub ticks : ℕ
  pub settles : Settles t s.last j ticks
  pub lawful : MoveLawful t s j ticks → Follows t s j ticks r
  pub unlawful : (MoveLawful t s j ticks → ⊥) → r ≡ rest_state
