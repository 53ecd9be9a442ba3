-- What a search promises of a rig, in terms of its meaning: of the states that the rows taken hold, and of the round.
use Rattle.std.specs.Prelude.{◌≡◌, ℕ, ◌<◌, ◌≤◌, true, ◌⊎◌, List, length, All, Contains, ◌≢◌, slice_index_or}
use Rattle.rig.specs.Meaning.{Meaning, lawful, after}
use Rattle.rig.specs.Guides.{Guided}
use Rattle.rig.specs.Orders.{Order, reached, LawfulTo, Endless}
use Rattle.rig.specs.Checks.{LapRan, list_order}

-- No two places of the list hold the same state.
abbrev pub Different : {S : Type 0} → List S → Type 0
Different {S} xs = (i k : ℕ) (d : S) → i < k → k < length xs → slice_index_or xs i d ≢ slice_index_or xs k d

module _ {S : Type 0} (m : Meaning S) where
  -- Some lawful order leads from rest to the state.
  pub record Reached (s : S) : Type 0 where
    pub order : Order
    pub moves : ℕ
    pub can : LawfulTo m m.rest order moves
    pub ends : s ≡ reached m m.rest order moves

  -- Lawful orders from rest reach at most so many states.
  pub record AtMost (most : ℕ) : Type 0 where
    pub states : List S
    pub few : length states ≤ most
    pub all : (s : S) → Reached s → Contains states s

  -- No endless order, repeating or not, is lawful from the state.
  abbrev pub NoEndless : S → Type 0
  NoEndless s = (o : Order) → Endless m s o → ⊥

  -- The round is lawful from a held state, each of its moves begins in a held state, and it ends in a state that covers the first.
  pub record Closing (held : List S) (round : List ℕ) : Type 0 where
    pub some_move : 0 < length round
    pub first : S
    pub last : S
    pub begins : Contains held first
    pub runs : LapRan m first round last
    pub along : (k : ℕ) → k < length round → Contains held (reached m first (list_order round) k)
    pub closes : m.covers last first ≡ true

-- Rest is hopeless or held, and each lawful move from a held state leads to a hopeless state or to one that a held state covers.
pub record Closed {S : Type 0} (m : Guided S) (held : List S) : Type 0 where
  pub rest_lost : (m.guide.hopeless m.rig.rest ≡ true) ⊎ Contains held m.rig.rest
  pub moves_lost : All (λ s. (j : ℕ) → lawful m.rig s j ≡ true → (m.guide.hopeless (after m.rig s j) ≡ true) ⊎ ((k : S) × Contains held k × (m.rig.covers k (after m.rig s j) ≡ true))) held
