use Rattle.std.proofs.Common.{◌≡◌, ℕ, ◌^◌, ◌≤◌, length, take, ap, ◌∙◌, arith, zero-lt-suc}
use native.Mathlib.Nat.{pow-le-pow_right}
use Rattle.std.proofs.Math.Nat.{min_comm}
use Rattle.std.proofs.lemmas.List.{length-take, take_min}
use Rattle.frames.proofs.Numerals.{two_digits, writes_value}
use Rattle.frames.proofs.kind.first_two.Goals as goal

pub returns : goal.returns
returns c =
    let xs = c.args.digits.now in
    let e : take c.min.result xs ≡ take 2 xs = ap (λ (n : ℕ). take n xs) (c.min.ensures ∙ min_comm (length xs) 2) ∙ take_min 2 xs in
    let w = two_digits xs _ c.number.result c.requires e c.number.ensures.read in
    let s = w.small in
    let l : length (take 2 xs) ≤ 2 = omega (arith, length-take 2 xs) in
    let p : 16 ^ length (take 2 xs) ≤ 16 ^ 2 = pow-le-pow_right (zero-lt-suc 15) {i = length (take 2 xs)} {j = 2} l in
    record { value = writes_value _ c.number.result w; small = omega (arith, p) }
