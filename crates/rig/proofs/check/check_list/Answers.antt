use Rattle.std.proofs.Common.{◌≡◌, ℕ, sym, refl, subst, arith, rules}
use mir.Facts.{Fits-below}
use Rattle.std.proofs.lemmas.Bool.{false≢true}
use Rattle.std.proofs.lemmas.Result.{err_from_is_err_and}
use Rattle.rig.specs.declared.check.Unfit.TheVariants.{Unlawful}
use Rattle.rig.specs.Checks.{FirstNoMove, LapRan, LapStopped, OnlyMoves}
use Rattle.rig.specs.Checks.ListFault.{no_move_at, unlawful_at}
use Rattle.rig.proofs.Laps.{no_move_refutes, unlawful_refutes, going_start, going_stop, going_closes, going_ages, going_on}
use Rattle.rig.proofs.check.check_list.Goals as goal

pub returns-in-Some : goal.returns-in-Some
returns-in-Some g c =
    let m = g.R.Rig.means c.args.rig.now in
    let bad = subst (λ (n : ℕ). FirstNoMove n c.args.list.now c.in-Some.position) c.moves.ensures.value c.in-Some.ensures in
    record {
      reply = no_move_at c.in-Some.position bad refl;
      exact = (λ e. absurd (false≢true e), λ good. absurd (no_move_refutes m c.args.list.now c.in-Some.position bad good));
    }

pub loop-last-init : goal.loop-last-init
loop-last-init g c =
    let m = g.R.Rig.means c.args.rig.now in
    going_start m c.args.list.now c.rest-first.result c.rest-first.ensures
    (subst (λ (n : ℕ). OnlyMoves n c.args.list.now) c.moves.ensures.value c.in_default.ensures)

pub returns-in_err-last : goal.returns-in_err-last
returns-in_err-last g c =
    let m = g.R.Rig.means c.args.rig.now in
    let stopped : (p : ℕ) × LapStopped m c.loop-last.first c.args.list.now p × (c.in_err-last.field-0.0 ≡ Unlawful c.loop-last.lap p) = search rules in
    let bad = going_stop m c.args.list.now c.loop-last.lap c.loop-last.first stopped.0 c.loop-last.invariant stopped.1 in
    let p = err_from_is_err_and c.from_residual.result c.from_residual.ensures.1 in
    rw (p.1, p.2, stopped.2) (record {
      reply = unlawful_at c.loop-last.lap stopped.0 bad refl;
      exact = (λ e. absurd (false≢true e), λ good. absurd (unlawful_refutes m c.args.list.now c.loop-last.lap stopped.0 bad good));
    })

pub returns-then-covers : goal.returns-then-covers
returns-then-covers g c =
    let m = g.R.Rig.means c.args.rig.now in
    let ran : LapRan m c.loop-last.first c.args.list.now c.in_ok-last.last = search rules in
    let good = going_closes m c.args.list.now c.loop-last.lap c.loop-last.first c.in_ok-last.last c.loop-last.invariant ran (g.met.R.Rig.shown c.args.rig.now) (sym c.if-covers.ensures) in
    record { reply = good; exact = (λ e. good.0, λ h. refl) }

pub overflow_add-lap : goal.overflow_add-lap
overflow_add-lap g c =
    let m = g.R.Rig.means c.args.rig.now in
    let ran : LapRan m c.loop-last.first c.args.list.now c.in_ok-last.last = search rules in
    let laws = g.met.R.Rig.shown c.args.rig.now in
    let i = c.loop-last.invariant in
    let a = going_ages m c.args.list.now c.loop-last.lap c.loop-last.first c.in_ok-last.last i ran laws (sym c.if-covers.ensures) in
    let low = laws.ceiling_low in
    Fits-below {n = 4194304} tt (omega (arith, i.is, i.aged, a.0, a.1, low))

pub loop-last-smaller : goal.loop-last-smaller
loop-last-smaller g c =
    let m = g.R.Rig.means c.args.rig.now in
    let ran : LapRan m c.loop-last.first c.args.list.now c.in_ok-last.last = search rules in
    let laws = g.met.R.Rig.shown c.args.rig.now in
    let a = going_ages m c.args.list.now c.loop-last.lap c.loop-last.first c.in_ok-last.last c.loop-last.invariant ran laws (sym c.if-covers.ensures) in
    omega (arith, a.0, a.1)

pub loop-last-preserved : goal.loop-last-preserved
loop-last-preserved g c =
    let m = g.R.Rig.means c.args.rig.now in
    let ran : LapRan m c.loop-last.first c.args.list.now c.in_ok-last.last = search rules in
    going_on m c.args.list.now c.loop-last.lap c.loop-last.first c.in_ok-last.last c.loop-last.invariant ran (g.met.R.Rig.shown c.args.rig.now) (sym c.if-covers.ensures)
