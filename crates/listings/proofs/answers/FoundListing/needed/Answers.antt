use Rattle.std.proofs.Common.{arith}
use Rattle.listings.proofs.RoundLines.{length_round}
use Rattle.listings.proofs.answers.FoundListing.needed.Goals as goal

pub overflow_add-result : goal.overflow_add-result
overflow_add-result c =
    let r = c.args.self.now.round in
    omega (arith, c.needed.ensures, c.needed-2.ensures, length_round r.table r.list.now, r.few, r.table.few)
