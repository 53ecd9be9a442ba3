-- Orders of moves, finite and endless, and rounds.
use Rattle.std.specs.Prelude.{◌≡◌, ℕ, zero, suc, ◌%◌, ◌<◌, true, List, length, slice_index}
use Rattle.rig.specs.Meaning.{Meaning, lawful, after}

-- An order names the move at each place, from 0.
abbrev pub Order : Type 0
Order = ℕ → ℕ

module _ {S : Type 0} (m : Meaning S) where
  -- The state that the first n moves of an order lead to from s; no moves lead to s itself.
  unfoldable pub reached : S → Order → ℕ → S
  reached s o zero = s
  reached s o (suc n) = after m (reached s o n) (o n)

  -- The first n moves of the order are lawful from s: each in the state then reached.
  abbrev pub LawfulTo : S → Order → ℕ → Type 0
  LawfulTo s o n = (k : ℕ) → k < n → lawful m (reached s o k) (o k) ≡ true

  -- The endless order is lawful from s.
  abbrev pub Endless : S → Order → Type 0
  Endless s o = (k : ℕ) → lawful m (reached s o k) (o k) ≡ true

-- The endless repetition of a list.
abbrev pub again : List ℕ → Order
again xs t = slice_index xs (t % length xs)

-- A round: a list of one or more moves whose endless repetition is lawful from rest.
pub record LawfulForEver {S : Type 0} (m : Meaning S) (xs : List ℕ) : Type 0 where
  pub some_move : 0 < length xs
  pub endless : Endless m m.rest (again xs)
