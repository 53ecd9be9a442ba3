-- Rows of a table, and what a scan of the rows taken finds.
use Rattle.std.specs.Prelude.{◌≡◌, ℕ, ◌+◌, ◌<◌, min, Bool, true, false, ◌&&◌, List, Some, None, Option}
use Rattle.std.specs.List.{HoldsAt, AllWithin}
use Rattle.rig.specs.Meaning.{Meaning}
use Rattle.rig.specs.Sets.{in_set, most_moves, some_below}
use Rattle.search.specs.declared.row.Row.{Row}

-- a book uses so many rows of a table at most
abbrev pub most_rows : ℕ
most_rows = 65536

-- how many rows of a table of this length a book uses
abbrev pub usable : ℕ → ℕ
usable n = min n most_rows

-- The lowest number below `most_moves` in a set.
abbrev pub Lowest : (ℕ → Bool) → Option ℕ → Type 0
Lowest u None = some_below most_moves u ≡ false
Lowest u (Some j) = (j < most_moves) × (u j ≡ true) × ((k : ℕ) → k < j → u k ≡ false)

module _ {S : Type 0} where
  -- whether a move is yet untried in the state of a row
  abbrev pub untried_in : Row S → ℕ → Bool
  untried_in r j = in_set r.untried.held j

  -- A row taken is on the path while a move is untried in it; then its state is left as dead.
  abbrev pub on_path : Row S → Bool
  on_path r = some_below most_moves (untried_in r)

  -- The latest of the first n rows that passes a test.
  abbrev pub Latest : (Row S → Bool) → List (Row S) → ℕ → Option ℕ → Type 0
  Latest test rows n None = AllWithin (λ r. test r ≡ false) rows 0 n
  Latest test rows n (Some p) = (p < n) × HoldsAt (λ r. test r ≡ true) rows p × AllWithin (λ r. test r ≡ false) rows (p + 1) n

  -- Of the first n rows, one that is left as dead holds the state.
  abbrev pub DeadHolds : List (Row S) → ℕ → S → Type 0
  DeadHolds rows n s = (k : ℕ) × (k < n) × HoldsAt (λ r. (on_path r ≡ false) × (r.state ≡ s)) rows k

  -- whether a row is on the path, and the state covers its state
  abbrev pub covered_by : Meaning S → S → Row S → Bool
  covered_by m s r = on_path r && m.covers s r.state
