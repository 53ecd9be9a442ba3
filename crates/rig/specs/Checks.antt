-- What the checker of rounds replies.
use Rattle.std.specs.Prelude.{◌≡◌, ℕ, ◌+◌, ◌*◌, ◌<◌, ◌≤◌, Bool, true, false, ◌⊎◌, List, length, Ok, Err, Result, slice_index}
use Rattle.refusals.specs.declared.Refusal.{Refusal}
use Rattle.refusals.specs.Numbers.{no_move, not_lawful}
use Rattle.rig.specs.declared.check.Unfit.{Unfit}
use Rattle.rig.specs.declared.check.Unfit.TheVariants.{NoMove, Unlawful}
use Rattle.rig.specs.Meaning.{Meaning, lawful}
use Rattle.rig.specs.Orders.{Order, reached, LawfulTo, again, LawfulForEver}

-- the number and the values of each refusal of a list
abbrev pub told : Unfit → Refusal
told (NoMove p) = no_move p
told (Unlawful l p) = not_lawful l p

-- The first number of the list that is no move stands at p; or the list is empty, and p is 0.
abbrev pub FirstNoMove : ℕ → List ℕ → ℕ → Type 0
FirstNoMove n xs p = ((length xs ≡ 0) × (p ≡ 0)) ⊎ ((p < length xs) × (n ≤ slice_index xs p) × ((k : ℕ) → k < p → slice_index xs k < n))

-- The moves of a list, in their order.
abbrev pub list_order : List ℕ → Order
list_order xs k = slice_index xs k

-- The list has a move, and nothing but moves.
pub record OnlyMoves (n : ℕ) (xs : List ℕ) : Type 0 where
  pub some_move : 0 < length xs
  pub each : (k : ℕ) → k < length xs → slice_index xs k < n

module _ {S : Type 0} (m : Meaning S) where
  -- One lap of the list from a state runs to its end, in the state t.
  pub record LapRan (s : S) (xs : List ℕ) (t : S) : Type 0 where
    pub ran : LawfulTo m s (list_order xs) (length xs)
    pub ends : t ≡ reached m s (list_order xs) (length xs)

  -- One lap of the list from a state stops at this position, and not before.
  pub record LapStopped (s : S) (xs : List ℕ) (p : ℕ) : Type 0 where
    pub within : p < length xs
    pub ran : LawfulTo m s (list_order xs) p
    pub stops : lawful m (reached m s (list_order xs) p) (slice_index xs p) ≡ false

module _ {S : Type 0} (m : Meaning S) (xs : List ℕ) where
  -- The state after so many laps of the list from rest.
  abbrev pub lap_state : ℕ → S
  lap_state n = reached m m.rest (again xs) (n * length xs)

  -- The state after lap n covers the state before it. Laps count from 1: lap n + 1 leads from state n to state n + 1.
  abbrev pub closes : ℕ → Bool
  closes n = m.covers (lap_state (n + 1)) (lap_state n)

  -- Lap n is the first whose last state covers its first.
  pub record FirstClosing (n : ℕ) : Type 0 where
    pub from_one : 0 < n
    pub closing : (k : ℕ) → k + 1 ≡ n → closes k ≡ true
    pub earlier : (k : ℕ) → k + 1 < n → closes k ≡ false

  -- The first unlawful move of the endless repetition is at this position of this lap.
  pub record FirstUnlawful (lap position : ℕ) : Type 0 where
    pub only_moves : OnlyMoves m.moves xs
    pub from_one : 0 < lap
    pub within : position < length xs
    pub before : (k : ℕ) → k + 1 ≡ lap → LawfulTo m m.rest (again xs) (k * length xs + position)
    pub there : (k : ℕ) → k + 1 ≡ lap → lawful m (reached m m.rest (again xs) (k * length xs + position)) (slice_index xs position) ≡ false

  -- The refusal tells why the list is no round: it is empty, or a number is no move; or its repetition has an unlawful move.
  pub data ListFault (r : Refusal) : Type 0 where
    no_move_at : (p : ℕ) → FirstNoMove m.moves xs p → r ≡ no_move p → ListFault r
    unlawful_at : (lap p : ℕ) → FirstUnlawful lap p → r ≡ not_lawful lap p → ListFault r

  -- The reply of the checker: accepted with the first closing lap, and then the list is lawful for ever; or refused, with the reason told.
  abbrev pub Checked : Result ℕ Unfit → Type 0
  Checked (Ok lap) = LawfulForEver m xs × FirstClosing lap
  Checked (Err e) = ListFault (told e)
