-- What a book is after a grant, whatever rig the grant brings.
use Rattle.std.specs.Prelude.{◌≡◌, ℕ, ◌+◌, ◌≤◌, List, map, length, take, drop, ◌≢◌}
use Rattle.rig.specs.declared.verdict.Verdict.{Verdict}
use Rattle.rig.specs.declared.verdict.Verdict.TheVariants as verdict
use Rattle.search.specs.declared.row.Row.{Row}
use Rattle.search.specs.declared.step.Standing.{Standing}
use Rattle.search.specs.declared.step.Standing.TheVariants.{Open, NoRound, Full, Round}
use Rattle.search.specs.Rows.{usable}

-- The verdict of a book.
abbrev pub verdict_of : Standing → Verdict
verdict_of Open = verdict.Open
verdict_of NoRound = verdict.NoRound
verdict_of Full = verdict.Full
verdict_of (Round from last) = verdict.Round

module _ {S : Type 0} where
  -- the state of a row and the move that led to it: what never changes in a row that is taken
  abbrev pub held_in : Row S → S × ℕ
  held_in r = (r.state, r.by)

  -- A grant of so many visits, of which some were made, took the book from its rows, its number of rows taken and its
  -- standing to others. It takes a row for each visit, leaves the states in the rows that were taken before, and leaves all later rows.
  -- It ends open only when it is used up, and comes to full only when no usable row is free. On a book that is not open it changes nothing.
  pub record Granted (visits made : ℕ) (rows : List (Row S)) (n : ℕ) (standing : Standing) (rows' : List (Row S)) (n' : ℕ) (standing' : Standing) : Type 0 where
    pub bounded : made ≤ visits
    pub counted : n' ≡ n + made
    pub held : take n (map held_in rows') ≡ take n (map held_in rows)
    pub later : drop n' rows' ≡ drop n' rows
    pub long : length rows' ≡ length rows
    pub used : standing' ≡ Open → made ≡ visits
    pub full : standing ≡ Open → standing' ≡ Full → n' ≡ usable (length rows)
    pub closed : (standing ≢ Open) → (rows' ≡ rows) × (standing' ≡ standing) × (made ≡ 0)
