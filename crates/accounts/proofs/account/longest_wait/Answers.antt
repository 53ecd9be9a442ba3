use Rattle.accounts.proofs.Served.{round_lap, lap_waits}
use Rattle.accounts.proofs.account.longest_wait.Goals as goal

pub returns-in_err-of-clause-round : goal.returns-in_err-of-clause-round
returns-in_err-of-clause-round c =
    λ short good bank. absurd (c.in_err-of.ensures (round_lap c.args.table.now c.args.list.now good short))

pub returns-clause-told : goal.returns-clause-told
returns-clause-told c =
    let lap = c.in_ok-of.field-0 in
    rw (← c.in_ok-of.ensures.0, ← c.in_ok-of.ensures.1)
    (lap_waits lap.table.now lap.list.now c.args.bank c.longest_wait.result lap.lap c.longest_wait.ensures.told)
