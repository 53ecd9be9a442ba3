-- What guides a search over a rig: which states are hopeless and which move to try next, and the laws of it that every guided rig shows.
use Rattle.std.specs.Prelude.{◌≡◌, ℕ, ◌<◌, Bool, true, cond}
use Rattle.rig.specs.Meaning.{Meaning}
use Rattle.rig.specs.Orders.{Order, Endless}
use Rattle.rig.specs.Sets.{some_below}

-- A guide's replies, as functions of the state. `picks` is asked only where some move is untried.
pub record Guide (S : Type 0) : Type 0 where
  -- whether the rig tells that no endless lawful order begins in a state
  pub hopeless : S → Bool
  -- the rig's own pick from a set of untried moves
  pub picks : S → (ℕ → Bool) → ℕ

-- A rig with its guide.
pub record Guided (S : Type 0) : Type 0 where
  -- what the rig's replies are
  pub rig : Meaning S
  -- what its guide's replies are
  pub guide : Guide S

-- a rig with this guide
abbrev pub guided : {S : Type 0} → Meaning S → Guide S → Guided S
guided m g = record { rig = m; guide = g }

module _ {S : Type 0} (m : Guided S) where
  -- The move to try next in a state, of a set of untried ones: the rig's own pick, or 0 where no move is untried.
  abbrev pub choice : S → (ℕ → Bool) → ℕ
  choice s untried = cond (some_below m.rig.moves untried) (m.guide.picks s untried) 0

-- The laws of a guide, of proper states only.
pub record GuideLaws {S : Type 0} (m : Guided S) : Type 0 where
  -- from a hopeless state no endless lawful order begins
  pub hopeless_ends : (s : S) → m.rig.proper s ≡ true → m.guide.hopeless s ≡ true → (o : Order) → Endless m.rig s o → ⊥
  -- a choice from untried moves is one of them
  pub choice_untried : (s : S) (untried : ℕ → Bool) (j : ℕ) → m.rig.proper s ≡ true → j < m.rig.moves → untried j ≡ true → (choice m s untried < m.rig.moves) × (untried (choice m s untried) ≡ true)
