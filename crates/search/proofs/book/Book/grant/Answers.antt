use Rattle.std.proofs.Common.{◌≡◌, ◌+◌, ◌-◌, sym, ◌∙◌, subst, arith}
use Rattle.search.specs.declared.step.Standing.TheVariants.{Open}
use Rattle.rig.specs.Guides.{guided}
use Rattle.search.specs.Grants.{Granted}
use Rattle.search.specs.Kept.{Sound}
use Rattle.search.proofs.Grants.{working_ends, working_settle, working_take}
use Rattle.search.proofs.Sound.{sound_ends, sound_settle, sound_take}
use Rattle.search.proofs.Work.{settle_work, take_work}
use Rattle.search.proofs.book.Book.grant.Goals as goal

pub loop-at-smaller-in-Settle : goal.loop-at-smaller-in-Settle
loop-at-smaller-in-Settle g c =
    settle_work (guided (g.R.Rig.means c.args.rig.now) (g.R.GuidedRig.guide c.args.rig.now)) c.loop-at.self.rows.now c.loop-at.self.taken c.in-Settle.at c.in-Settle.row
    c.put.new.self.rows.now c.put.new.self.taken c.put.ensures.rows c.put.ensures.taken (omega (arith, c.loop-at.self.within)) c.in-Settle.ensures

pub loop-at-preserved-in-Settle : goal.loop-at-preserved-in-Settle
loop-at-preserved-in-Settle g c = (
  c.put.ensures.standing ∙ c.loop-at.invariant.0,
  c.put.ensures.lends ∙ c.loop-at.invariant.1,
  working_settle (guided (g.R.Rig.means c.args.rig.now) (g.R.GuidedRig.guide c.args.rig.now)) c.args.visits c.loop-at.made c.args.self.now.rows.now c.args.self.now.taken c.loop-at.self.rows.now c.loop-at.self.taken c.loop-at.invariant.2 c.in-Settle.at c.in-Settle.row
      c.put.new.self.rows.now c.put.new.self.taken c.put.ensures.rows c.put.ensures.taken (omega (arith, c.loop-at.self.within)) c.in-Settle.ensures,
  λ kept. sound_settle (guided (g.R.Rig.means c.args.rig.now) (g.R.GuidedRig.guide c.args.rig.now)) (g.met.R.Rig.shown c.args.rig.now) (g.met.R.GuidedRig.guide_shown c.args.rig.now) c.loop-at.self.rows.now c.loop-at.self.taken (omega (arith, c.loop-at.self.within)) (c.loop-at.invariant.3 kept) c.in-Settle.at c.in-Settle.row c.in-Settle.ensures c.put.new.self.rows.now c.put.new.self.taken c.put.ensures.rows c.put.ensures.taken,
)

pub loop-at-smaller : goal.loop-at-smaller
loop-at-smaller g c =
    take_work (guided (g.R.Rig.means c.args.rig.now) (g.R.GuidedRig.guide c.args.rig.now)) c.loop-at.self.rows.now c.loop-at.self.taken (c.args.visits - c.loop-at.made) c.in-Take.row
    c.put-in-Take.new.self.rows.now c.put-in-Take.ensures.rows c.in-Take.ensures

pub loop-at-preserved : goal.loop-at-preserved
loop-at-preserved g c = (
  c.put-in-Take.ensures.standing ∙ c.loop-at.invariant.0,
  c.put-in-Take.ensures.lends ∙ c.loop-at.invariant.1,
  working_take (guided (g.R.Rig.means c.args.rig.now) (g.R.GuidedRig.guide c.args.rig.now)) c.args.visits c.loop-at.made c.args.self.now.rows.now c.args.self.now.taken c.loop-at.self.rows.now c.loop-at.self.taken c.loop-at.invariant.2 (c.args.visits - c.loop-at.made) c.in-Take.row
      c.put-in-Take.new.self.rows.now c.put-in-Take.ensures.rows (omega (arith, c.loop-at.invariant.2.bounded)) c.in-Take.ensures,
  λ kept. sound_take (guided (g.R.Rig.means c.args.rig.now) (g.R.GuidedRig.guide c.args.rig.now)) (g.met.R.Rig.shown c.args.rig.now) (g.met.R.GuidedRig.guide_shown c.args.rig.now) c.loop-at.self.rows.now c.loop-at.self.taken (omega (arith, c.loop-at.self.within)) (c.loop-at.invariant.3 kept) (c.args.visits - c.loop-at.made) c.in-Take.row c.in-Take.ensures c.put-in-Take.new.self.rows.now c.put-in-Take.ensures.rows,
)

pub returns-in-End : goal.returns-in-End
returns-in-End g c =
    let m = guided (g.R.Rig.means c.args.rig.now) (g.R.GuidedRig.guide c.args.rig.now) in
    let book = c.args.self.now in
    let w = c.loop-at.invariant.2 in
    let was : book.standing ≡ Open = c.in-Open.is in
    let left = c.args.visits - c.loop-at.made in
    let e : left + c.loop-at.made ≡ c.args.visits = omega (arith, w.bounded) in
    record {
      lends = c.loop-at.invariant.1;
      told = c.from-in-End.ensures;
      left = subst (λ st. Granted c.args.visits c.loop-at.made book.rows.now book.taken st c.loop-at.self.rows.now c.loop-at.self.taken c.in-End.standing) (sym was) (working_ends m c.args.visits c.loop-at.made book.rows.now book.taken c.loop-at.self.rows.now c.loop-at.self.taken w left c.in-End.standing e c.in-End.ensures);
      sound = λ granted h.
          let begun = subst (Sound m granted book.rows.now book.taken) was h in
          sound_ends m (g.met.R.Rig.shown c.args.rig.now) (g.met.R.GuidedRig.guide_shown c.args.rig.now) c.loop-at.self.rows.now c.loop-at.self.taken (omega (arith, c.loop-at.self.within)) (c.loop-at.invariant.3 begun.kept) (granted + c.args.visits) left c.in-End.standing
          (λ z. omega (arith, w.counted, e, z, begun.says.0)) c.in-End.ensures;
    }
