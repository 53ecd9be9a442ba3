use Rattle.std.proofs.Common.{arith}
use Rattle.listings.proofs.RoundLines.{length_round}
use Rattle.listings.proofs.lines.StoredRoundListing.needed.Goals as goal

pub returns : goal.returns
returns c = omega (arith, c.count-banks.ensures, length_round c.args.self.now.table c.args.self.now.list.now)
