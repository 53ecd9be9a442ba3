-- What a book keeps of one rig from wipe to wipe.
use Rattle.std.specs.Prelude.{◌≡◌, ℕ, ◌+◌, ◌<◌, true, false, ◌⊎◌, List, [], ◌∷◌, ◌++◌, map, length, take, All, Contains, filter, slice_index_or}
use Rattle.std.specs.List.{between}
use Rattle.rig.specs.Meaning.{Meaning, lawful, after}
use Rattle.rig.specs.Guides.{Guided}
use Rattle.rig.specs.Orders.{LawfulForEver}
use Rattle.search.specs.declared.row.Row.{Row}
use Rattle.search.specs.declared.step.Standing.{Standing}
use Rattle.search.specs.declared.step.Standing.TheVariants.{Open, NoRound, Full, Round}
use Rattle.search.specs.Rows.{on_path, untried_in, usable}
use Rattle.search.specs.Grants.{held_in}
use Rattle.search.specs.Promises.{Closed, Closing, Different, NoEndless, Reached}

module _ {S : Type 0} where
  -- the states that the first n rows hold
  abbrev pub states : List (Row S) → ℕ → List S
  states rows n = map (λ r. r.state) (take n rows)

  -- the moves that led to those of the rows that are on the path
  abbrev pub path_moves : List (Row S) → List ℕ
  path_moves rows = map (λ r. r.by) (filter on_path rows)

  -- The round that a book has found: it leaves the state of row p, goes along the path, and ends with one move more.
  abbrev pub round_moves : List (Row S) → ℕ → ℕ → ℕ → List ℕ
  round_moves rows n p last = path_moves (between (p + 1) n rows) ++ last ∷ []

module _ {S : Type 0} (m : Meaning S) where
  -- Each state follows the one before it by the lawful move that stands beside it.
  abbrev pub Linked : S → List (S × ℕ) → Type 0
  Linked s [] = Unit {0}
  Linked s (q ∷ qs) = (lawful m s q.1 ≡ true) × (q.0 ≡ after m s q.1) × Linked q.0 qs

  abbrev pub Walk : List (S × ℕ) → Type 0
  Walk [] = Unit {0}
  Walk (q ∷ qs) = Linked q.0 qs

  -- Some state is reached that no row holds.
  pub record Waiting (held : List S) : Type 0 where
    pub state : S
    pub reached : Reached m state
    pub new : Contains held state → ⊥

module _ {S : Type 0} (m : Guided S) where
  -- From the state no endless order is lawful, and it is hopeless or held.
  pub record Lost (held : List S) (s : S) : Type 0 where
    pub no_endless : NoEndless m.rig s
    pub known : (m.guide.hopeless s ≡ true) ⊎ Contains held s

  -- Each lawful move that is no longer untried in a row leads to such a state.
  abbrev pub Settled : List S → Row S → Type 0
  Settled held r = (j : ℕ) → untried_in r j ≡ false → lawful m.rig r.state j ≡ true → Lost held (after m.rig r.state j)

  -- The rows taken hold different states, each reached, rest first; what was tried in them is settled; and the rows on the path are a lawful walk.
  pub record Kept (rows : List (Row S)) : Type 0 where
    pub different : Different (map (λ r. r.state) rows)
    pub reached : All (Reached m.rig) (map (λ r. r.state) rows)
    pub begins : (d : S) → 0 < length rows → slice_index_or (map (λ r. r.state) rows) 0 d ≡ m.rig.rest
    pub settled : All (Settled (map (λ r. r.state) rows)) rows
    pub path : Walk m.rig (map held_in (filter on_path rows))

  -- What a standing says, where so many visits were granted.
  abbrev pub Says : ℕ → List (Row S) → ℕ → Standing → Type 0
  Says granted rows n Open = (n ≡ granted) × Waiting m.rig (states rows n)
  Says granted rows n Full = (n ≡ usable (length rows)) × Waiting m.rig (states rows n)
  Says granted rows n NoRound = NoEndless m.rig m.rig.rest × Closed m (states rows n)
  Says granted rows n (Round p last) = Closing m.rig (states rows n) (round_moves rows n p last) × LawfulForEver m.rig (round_moves rows n p last)

  -- What a book keeps, if the grants since it was made or wiped bring rigs of this meaning, and so many visits in all.
  pub record Sound (granted : ℕ) (rows : List (Row S)) (n : ℕ) (standing : Standing) : Type 0 where
    pub kept : Kept (take n rows)
    pub says : Says granted rows n standing
