-- Batches: cases one behind the other, each behind a head that tells the number of its bytes.
use Rattle.std.specs.Prelude.{◌≡◌, ℕ, ◌+◌, ◌-◌, ◌*◌, ◌^◌, min, Bool, List, take, drop, filter, ◌++◌}
use Rattle.std.specs.Char.{is_ascii_digit}
use Rattle.std.proofs.Common.{sym}
use Rattle.std.proofs.lemmas.List.{take-append-drop}
use Rattle.std.specs.List.{fold, before_first, after_first, position_or_len}

-- the number that decimal digits write, or the largest number where that is too large; bytes that are no digits are passed over
abbrev pub decimal : List ℕ → ℕ
decimal digits = fold (λ n b. min (n * 10 + (b - 48)) (2 ^ 64 - 1)) 0 (filter is_ascii_digit digits)

-- the first case of these bytes is cut off: its bytes stand behind the byte that ends its head, as many as the head tells, or all where there are
-- fewer; behind them one byte is passed over
pub record CutsCase (ends : ℕ → Bool) (size : List ℕ → ℕ) (rest bytes behind : List ℕ) : Type 0 where
  pub lies : bytes ≡ take (size (before_first ends rest)) (after_first ends rest)
  pub goes_on : behind ≡ drop (size (before_first ends rest) + 1) (after_first ends rest)

-- a case lies within the bytes that it is cut from
pub case_lies_within : (ends : ℕ → Bool) (size : List ℕ → ℕ) (rest bytes behind : List ℕ) → CutsCase ends size rest bytes behind
    → (front : List ℕ) × (back : List ℕ) × (rest ≡ front ++ (bytes ++ back))
case_lies_within ends size rest bytes behind cut =
    let text : ℕ = position_or_len ends rest + 1 in
    let after : List ℕ = drop text rest in
    let many : ℕ = size (before_first ends rest) in
    let whole : bytes ++ drop many after ≡ after = rw cut.lies (take-append-drop many after) in
    (take text rest, drop many after, rw whole (sym (take-append-drop text rest)))
