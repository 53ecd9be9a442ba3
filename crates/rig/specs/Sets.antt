-- Sets of moves.
use Rattle.std.specs.Prelude.{ℕ, zero, suc, Bool, false, ◌||◌, List, slice_index_or}

-- moves are numbered from 0, below this
abbrev pub most_moves : ℕ
most_moves = 32

-- whether move k is in the set; a number that is no move is not
abbrev pub in_set : List Bool → ℕ → Bool
in_set xs k = slice_index_or xs k false

-- whether the set has some number below n
unfoldable pub some_below : ℕ → (ℕ → Bool) → Bool
some_below zero u = false
some_below (suc n) u = u n || some_below n u
