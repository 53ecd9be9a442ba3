use Rattle.std.proofs.Common.{rules}
use Rattle.worked_cases.proofs.Holding.{cases_hold}
use Rattle.worked_cases.proofs.worked_cases_hold.Goals as goal

pub returns : goal.returns
returns c = record { cases = cases_hold; answer = search rules }
