-- Lines: each is closed by a byte of its own, 10.
use Rattle.std.specs.Prelude.{◌≡◌, ℕ, zero, suc, ◌<◌, List, [], ◌∷◌, ◌++◌, length, ◌≢◌, slice_index}

-- the longest file that is read, in bytes
abbrev pub most_bytes : ℕ
most_bytes = 65536

-- No byte of the list closes a line.
abbrev pub NoneCloses : List ℕ → Type 0
NoneCloses xs = (k : ℕ) → k < length xs → slice_index xs k ≢ 10

-- The bytes begin with this line, closed, and go on with what is after it.
pub record ClosedLine (bytes line after : List ℕ) : Type 0 where
  pub text : bytes ≡ line ++ (10 ∷ after)
  pub inside : NoneCloses line

-- So many lines, one behind the other: those numbered from 0 to n - 1.
unfoldable pub lines_to : (ℕ → List ℕ) → ℕ → List ℕ
lines_to line zero = []
lines_to line (suc n) = lines_to line n ++ line n
