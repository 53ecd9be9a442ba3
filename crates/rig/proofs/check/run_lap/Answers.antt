use Rattle.std.proofs.Common.{◌≡◌, true, sym, refl, ap, ◌∙◌, subst, not-suc-le-zero}
use Rattle.rig.specs.Meaning.{lawful, after}
use Rattle.rig.specs.Orders.{reached}
use Rattle.rig.specs.Checks.{list_order}
use Rattle.rig.proofs.Runs.{lawful_more, reached_more}
use Rattle.rig.proofs.check.run_lap.Goals as goal

pub loop-k-init : goal.loop-k-init
unfolding reached
loop-k-init g c = (λ k below. absurd (not-suc-le-zero below), refl)

pub loop-k-preserved : goal.loop-k-preserved
loop-k-preserved g c =
    let m = g.R.Rig.means c.args.rig.now in
    let o = list_order c.args.list.now in
    let k = c.loop-k.k in
    let here = subst (λ (s : g.row.R-State.Denot). lawful m s (o k) ≡ true) c.loop-k.invariant.1 (sym c.if-not-lawful.ensures) in (
      lawful_more m c.args.from o k c.loop-k.invariant.0 here,
      c.after-s.ensures ∙ ap (λ (s : g.row.R-State.Denot). after m s (o k)) c.loop-k.invariant.1 ∙ sym (reached_more m c.args.from o k),
    )
