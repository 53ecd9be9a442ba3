use Rattle.std.proofs.Common.{◌≤◌, ◌*◌, ◌+◌, ◌^◌, length, arith, rules}
use borrow.Author.Tests.{tests}
use Rattle.std.proofs.lemmas.Iterator.{YieldsList-from_slice}
use Rattle.std.proofs.lemmas.Iterator.Adapters.{at_most_from_yields_List, fits_from_length}
use Rattle.search.proofs.run.all_buffers.Goals as goal

pub returns-clause-few : goal.returns-clause-few
returns-clause-few g c =
    let run = c.sum.ensures.runs tt in
    let small : length c.args.calls.now ≤ 2 ^ 64 = omega (arith, c.iter.ensures.len, c.iter.ensures.bound) in
    let fits = fits_from_length _ _ (2 ^ 64) (2 ^ 64 * 18446744073709551615 + 1) (at_most_from_yields_List (YieldsList-from_slice c.args.calls.now cc) small) c.map.ensures.closure (omega arith) (λ x r f k. search (rules, tests)) run.0 run.0.seen run.1 in
    omega (arith, fits, run.3)
