-- Lines of a script, and how many there are.
use Rattle.std.specs.Prelude.{ℕ, ◌+◌, Bool, true, false, cond, List, [], ◌∷◌, ◌==◌}

-- How many lines begin among the bytes; `begun` says that they go on with a line that has begun before them. A line ends behind a byte 10.
abbrev pub lines_begun : (begun : Bool) → List ℕ → ℕ
lines_begun begun [] = 0
lines_begun begun (b ∷ bs) = cond begun 0 1 + lines_begun (cond (b == 10) false true) bs

-- How many lines there are: closed ones, and one more where the last is not closed.
abbrev pub line_count : List ℕ → ℕ
line_count bytes = lines_begun false bytes
