use Rattle.std.proofs.Common.{ℕ, ◌+◌, max, sym, ap, ◌∙◌, arith}
use Rattle.rig.specs.Orders.{again}
use Rattle.banks.specs.declared.table.Bank.{Bank}
use Rattle.accounts.proofs.Watch.{watched_past, watched_on, list_none, list_all}
use Rattle.accounts.proofs.lap.TableLap.longest_from.Goals as goal
use Rattle.accounts.proofs.lap.TableLap.longest_from.Goals.{then-on-bank, else-on-bank}

pub loop-n-init : goal.loop-n-init
loop-n-init c = (list_none c.args.self.now.table.now c.args.self.now.list.now c.args.bank c.args.first c.requires, omega arith)

pub loop-n-preserved : goal.loop-n-preserved
loop-n-preserved c =
    let t = c.args.self.now.table.now in
    let o = again c.args.self.now.list.now in
    let l = c.loop-n in
    let settle = c.settling_before.ensures.value in
    let on = c.on.ensures in
    elim c.if-on-bank.branch [
      | then-on-bank w ↦ (
        watched_on t o c.args.bank c.args.first l.n l.since l.longest l.invariant.0 _ _ (sym on ∙ w.if-on-bank.true) w.since-is
            (w.longest-is ∙ w.max-longest.ensures ∙ ap (λ (s : ℕ). max l.longest (l.since + s)) settle),
        omega (arith, w.since-is, l.invariant.1),
      )
      | else-on-bank w ↦ (
        watched_past t o c.args.bank c.args.first l.n l.since l.longest l.invariant.0 _ _ (λ e. w.if-on-bank.false (on ∙ e))
            (omega (arith, w.since-is, settle, ap (λ (k : Bank). k.dwell) w.bank.ensures.value)) w.longest-is,
        omega (arith, w.since-is, l.invariant.1, c.settling_before.ensures.few, w.bank.ensures.few),
      )
    ]

pub returns : goal.returns
returns c =
    list_all c.args.self.now.table.now c.args.self.now.list.now c.args.bank c.args.first c.requires
    c.loop-n.n c.loop-n.since c.loop-n.longest (omega arith) c.loop-n.invariant.0
