use Rattle.accounts.proofs.Served.{round_occurs}
use Rattle.accounts.proofs.lap.TableLap.longest_wait.Goals as goal

pub returns-in_err-first-clause-round : goal.returns-in_err-first-clause-round
returns-in_err-first-clause-round c =
    λ good bank. absurd (c.in_err-first.ensures (round_occurs c.args.self.now.table.now c.args.self.now.list.now c.args.bank good bank))
