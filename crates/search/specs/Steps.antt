-- What one step of a search over the first n rows of a table is.
use Rattle.std.specs.Prelude.{◌≡◌, ℕ, ◌<◌, true, not, ◌&&◌, ◌⊎◌, List, length, Some, None, ◌==◌, nat_lt}
use Rattle.std.specs.List.{HoldsAt}
use Rattle.rig.specs.Meaning.{lawful, after}
use Rattle.rig.specs.Guides.{Guided}
use Rattle.search.specs.declared.row.Row.{Row}
use Rattle.search.specs.declared.step.Standing.{Standing}
use Rattle.search.specs.declared.step.Standing.TheVariants.{Open, NoRound, Full, Round}
use Rattle.search.specs.declared.step.Step.{Step}
use Rattle.search.specs.declared.step.Step.TheVariants.{Settle, Take, End}
use Rattle.search.specs.Rows.{DeadHolds, Latest, covered_by, on_path, untried_in, usable}

module _ {S : Type 0} (m : Guided S) (rows : List (Row S)) (n : ℕ) where
  -- The state covers none on the path, and no row that is left as dead holds it.
  pub record Unlike (s : S) : Type 0 where
    pub path : Latest (covered_by m.rig s) rows n None
    pub dead : DeadHolds rows n s → ⊥

  -- The state is dead: hopeless, or the same as one that is left as dead.
  abbrev pub Dead : S → Type 0
  Dead s = (m.guide.hopeless s ≡ true) ⊎ DeadHolds rows n s

  -- The move is untried in the row and lawful, and leads to the state.
  pub record Leads (r : Row S) (by : ℕ) (s : S) : Type 0 where
    pub was : untried_in r by ≡ true
    pub can : lawful m.rig r.state by ≡ true
    pub to : s ≡ after m.rig r.state by

  -- The state that is to be entered, and the move that leads to it: rest where no row is taken, or what follows
  -- a lawful move that is untried at the end of the path.
  pub data Next (by : ℕ) (s : S) : Type 0 where
    rest_first : n ≡ 0 → s ≡ m.rig.rest → Next by s
    from_end : (at : ℕ) → Latest on_path rows n (Some at) → HoldsAt (λ r. Leads r by s) rows at → Next by s

  -- Some state is to be entered, and it is neither dead nor covers one on the path.
  pub record Wanted : Type 0 where
    pub by : ℕ
    pub state : S
    pub next : Next by state
    pub unlike : Unlike state

  -- The row at the end of the path has one untried move less, which is unlawful or leads to a dead state.
  pub record Settles (at : ℕ) (row : Row S) : Type 0 where
    pub ends : Latest on_path rows n (Some at)
    pub move : ℕ
    pub same : HoldsAt (λ r. (row.state ≡ r.state) × (row.by ≡ r.by)) rows at
    pub was : HoldsAt (λ r. untried_in r move ≡ true) rows at
    pub less : HoldsAt (λ r. (k : ℕ) → untried_in row k ≡ (untried_in r k && not (k == move))) rows at
    pub lost : lawful m.rig row.state move ≡ true → Dead (after m.rig row.state move)

  -- The next free row is taken by the state that is to be entered, with every move untried.
  pub record Takes (left : ℕ) (row : Row S) : Type 0 where
    pub next : Next row.by row.state
    pub unlike : Unlike row.state
    pub free : n < usable (length rows)
    pub granted : 0 < left
    pub opens : on_path row ≡ true
    pub all : (k : ℕ) → untried_in row k ≡ nat_lt k m.rig.moves

  -- The grant ends: used up; or with no row free; or with rest hopeless or every row left as dead;
  -- or at a state that covers one on the path.
  abbrev pub Ends : ℕ → Standing → Type 0
  Ends left Open = (left ≡ 0) × Wanted
  Ends left Full = (n ≡ usable (length rows)) × Wanted
  Ends left NoRound = ((n ≡ 0) × (m.guide.hopeless m.rig.rest ≡ true)) ⊎ ((0 < n) × Latest on_path rows n None)
  Ends left (Round p last) = (s : S) × Next last s × Latest (covered_by m.rig s) rows n (Some p)

  abbrev pub Stepped : ℕ → Step S → Type 0
  Stepped left (Settle at row) = Settles at row
  Stepped left (Take row) = Takes left row
  Stepped left (End standing) = Ends left standing
