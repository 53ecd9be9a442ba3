use Rattle.accounts.proofs.Served.{round_lap, round_in_time}
use Rattle.accounts.proofs.account.slack.Goals as goal

pub returns-in_err-of-clause-round : goal.returns-in_err-of-clause-round
returns-in_err-of-clause-round c =
    λ short good bank. absurd (c.in_err-of.ensures (round_lap c.args.table.now c.args.list.now good short))

pub returns-clause-left : goal.returns-clause-left
returns-clause-left c = rw (← c.in_ok-of.ensures.0, ← c.in_ok-of.ensures.1) c.slack.ensures.left

pub returns-in_err-of-clause-served : goal.returns-in_err-of-clause-served
returns-in_err-of-clause-served c = round_in_time c.args.table.now c.args.list.now c.args.bank

pub returns-clause-served : goal.returns-clause-served
returns-clause-served c = round_in_time c.args.table.now c.args.list.now c.args.bank
