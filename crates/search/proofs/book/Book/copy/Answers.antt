use Rattle.std.proofs.Common.{◌≡◌, ◌+◌, ◌≤◌, ◌++◌, length, drop, Ok, Err, sym, refl, ap, ◌∙◌, subst, arith, rules}
use Rattle.std.specs.List.{between}
use Rattle.std.proofs.lemmas.List.{length_push}
use Rattle.search.specs.declared.copy.Uncopied.TheVariants.{Short}
use Rattle.search.specs.Copies.{Copied}
use Rattle.search.specs.Kept.{path_moves, round_moves}
use Rattle.search.proofs.Rounds.{moves_count}
use Rattle.search.proofs.book.Book.copy.Goals as goal

pub slice_bounds-path-start : goal.slice_bounds-path-start
slice_bounds-path-start g c =
    let book = c.args.self.now in
    let begins : c.in-Round.from + 1 ≤ book.taken = omega (arith, book.begins c.in-Round.from c.in-Round.last c.in-Round.is) in
    let within : book.taken ≤ length book.rows.now = omega (arith, book.within) in
    search rules

pub returns-then-out-needed : goal.returns-then-out-needed
returns-then-out-needed g c =
    let book = c.args.self.now in
    let out = c.args.out.now in
    let k = c.path_length-needed.result + 1 in
    let path = between (c.in-Round.from + 1) book.taken book.rows.now in
    let is : k ≡ length (round_moves book.rows.now book.taken c.in-Round.from c.in-Round.last) = omega (arith, c.path_length-needed.ensures, moves_count path, length_push (path_moves path) c.in-Round.last) in
    subst (λ st. Copied book.rows.now book.taken st out (Err (Short k)) out) (sym c.in-Round.is) (omega (arith, c.if-out-needed.true), ap Short is, refl)

pub write_round-requires : goal.write_round-requires
write_round-requires g c =
    let book = c.args.self.now in
    let path = between (c.in-Round.from + 1) book.taken book.rows.now in
    omega (arith, c.path_length-needed.ensures, moves_count path, length_push (path_moves path) c.in-Round.last, c.if-out-needed.false)

pub returns : goal.returns
returns g c =
    let book = c.args.self.now in
    let out = c.args.out.now in
    let k = c.path_length-needed.result + 1 in
    let round = round_moves book.rows.now book.taken c.in-Round.from c.in-Round.last in
    let path = between (c.in-Round.from + 1) book.taken book.rows.now in
    let is : k ≡ length round = omega (arith, c.path_length-needed.ensures, moves_count path, length_push (path_moves path) c.in-Round.last) in
    subst (λ st. Copied book.rows.now book.taken st out (Ok k) c.write_round.new.out) (sym c.in-Round.is) (is, omega (arith, c.if-out-needed.false), c.write_round.ensures ∙ ap (λ n. round ++ drop n out) (sym is))
