use Rattle.std.proofs.Common.{ℕ, ◌-◌, ◌≤◌, ap, subst}
use Rattle.std.specs.Option.{SomeIff}
use Rattle.rig.specs.Orders.{again}
use Rattle.banks.specs.declared.table.Bank.{Bank}
use Rattle.banks.specs.Table.{gap}
use Rattle.accounts.proofs.Served.{round_in_time, longest_in_time, slack_left, slack_some}
use Rattle.accounts.proofs.lap.TableLap.slack.Goals as goal

pub returns : goal.returns
returns c =
    let t = c.args.self.now.table.now in
    let xs = c.args.self.now.list.now in
    let b = c.args.bank in
    let w = c.in_ok-longest.longest in
    let long = c.in_ok-longest.ensures.told in
    let r = c.checked_sub.result in
    let sub = subst (λ (g : ℕ). SomeIff r (w ≤ g) (g - w)) {y = gap t b} (ap (λ (k : Bank). k.gap) c.at-gap.ensures) c.checked_sub.ensures in
    record {
      left = slack_left t xs b w r c.args.self.now.lap long sub;
      round = λ good bank. slack_some w (gap t b) r (longest_in_time t (again xs) b w long (round_in_time t xs b good bank)) sub;
    }
