use Rattle.std.proofs.Common.{◌≡◌, ℕ, suc, ◌+◌, ◌<◌, Bool, true, false, cond, not, List, [], ◌∷◌, length, drop, Option, MatchOption, ◌==◌, refl, ◌∙◌, ap, arith, rules, drop_of_length-le}
use Rattle.std.proofs.lemmas.Grind.{common_steps}
use Rattle.std.specs.List.{position, position_or_len}
use Rattle.std.specs.Io.BufRead.{drop_through}
use Rattle.scripts.specs.Lines.{line_count, lines_begun}
use Rattle.scripts.proofs.lines.Lines.cut_line.Goals as goal

-- one byte more, which is a byte 10 or not
through_more : (b : Bool) (p : ℕ) (xs after : List ℕ) → drop (suc p) xs ≡ after → drop (cond (not b) (1 + p) 0) xs ≡ cond b xs after
through_more true p xs after e = refl
through_more false p xs after e = let q : 1 + p ≡ suc p = omega arith in rw q e

-- what is behind the first byte 10
through : (xs : List ℕ) → drop (suc (position_or_len (λ b. b == 10) xs)) xs ≡ drop_through 10 xs
through [] = refl
through (x ∷ xs) = through_more (x == 10) (position_or_len (λ b. b == 10) xs) xs (drop_through 10 xs) (through xs)

-- the same by the place of that byte, or the length where there is none
behind : (xs : List ℕ) (o : Option ℕ) (n : ℕ) → o ≡ position (λ b. b == 10) xs → MatchOption o (n ≡ length xs) (λ k. n ≡ k + 1) → drop n xs ≡ drop_through 10 xs
behind xs o n p e = grind (arith, common_steps, through xs, drop_of_length-le)

-- a line that has begun ends behind the first byte 10
rest_begun : (xs : List ℕ) → lines_begun true xs ≡ line_count (drop_through 10 xs)
rest_begun [] = refl
rest_begun (x ∷ xs) = grind (arith, common_steps, rest_begun xs)

-- the lines behind a byte that is 10 or not
begun_after : (b : Bool) (xs : List ℕ) → lines_begun (cond b false true) xs ≡ line_count (cond b xs (drop_through 10 xs))
begun_after true xs = refl
begun_after false xs = rest_begun xs

-- there is one line less behind the first
one_line : (xs : List ℕ) → 0 < length xs → line_count xs ≡ 1 + line_count (drop_through 10 xs)
one_line [] h = absurd (omega arith)
one_line (x ∷ xs) h = ap (λ n. 1 + n) (begun_after (x == 10) xs)

pub returns-clause-behind : goal.returns-clause-behind
returns-clause-behind c =
    let e : MatchOption c.find_end-end.result (c.map_or.result ≡ length c.args.self.now.rest.now) (λ k. c.map_or.result ≡ k + 1) = search rules in
    c.split_at.ensures.back ∙ behind _ _ _ c.find_end-end.ensures.first e

pub returns-clause-counted : goal.returns-clause-counted
returns-clause-counted c =
    let h : c.split_at.result.1.now ≡ drop_through 10 c.args.self.now.rest.now = returns-clause-behind c in
    let n = one_line c.args.self.now.rest.now (search rules) in
    let small : c.args.self.now.number + length c.args.self.now.rest.now < 18446744073709551616 = c.args.self.now.counted in
    let some : 0 < length c.args.self.now.rest.now = search rules in
    rw h (omega (arith, n))
