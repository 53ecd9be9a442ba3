use Rattle.std.proofs.Common.{◌<◌, Some, subst, inr, arith}
use Rattle.rig.specs.Sets.{in_set, most_moves}
use Rattle.rig.proofs.Members.{some_decides}
use Rattle.rig.specs.Guides.{guided}
use Rattle.search.specs.Rows.{covered_by}
use Rattle.search.proofs.Entries.{unlike}
use Rattle.search.proofs.Rows.{dead_from_taken, latest_from_taken}
use Rattle.search.proofs.step.Search.enter.Goals as goal

pub returns-in-Some : goal.returns-in-Some
returns-in-Some g c =
    let search = c.args.self.now in
    (c.args.state, c.requires.next, latest_from_taken search.rows.now search.taken (omega (arith, search.within)) (covered_by (g.R.Rig.means search.rig.now) c.args.state) (Some c.in-Some.from) c.in-Some.ensures)

pub returns-then-is_dead : goal.returns-then-is_dead
returns-then-is_dead g c =
    let search = c.args.self.now in
    inr ((dead_from_taken search.rows.now search.taken (omega (arith, search.within)) c.args.state c.is_dead.result c.is_dead.ensures).0 c.if-is_dead.true)

pub returns-then-self-usable : goal.returns-then-self-usable
returns-then-self-usable g c =
    let search = c.args.self.now in (
      omega (arith, search.within, c.usable.ensures, c.if-self-usable.true),
      record {
        by = c.args.by;
        state = c.args.state;
        next = c.requires.next;
        unlike = unlike (guided (g.R.Rig.means search.rig.now) (g.R.GuidedRig.guide search.rig.now)) search.rows.now search.taken search.within c.args.state c.is_dead.result c.in_default.ensures c.is_dead.ensures c.if-is_dead.false;
      },
    )

pub returns-then-self-eq0 : goal.returns-then-self-eq0
returns-then-self-eq0 g c =
    let search = c.args.self.now in (
      c.if-self-eq0.true,
      record {
        by = c.args.by;
        state = c.args.state;
        next = c.requires.next;
        unlike = unlike (guided (g.R.Rig.means search.rig.now) (g.R.GuidedRig.guide search.rig.now)) search.rows.now search.taken search.within c.args.state c.is_dead.result c.in_default.ensures c.is_dead.ensures c.if-is_dead.false;
      },
    )

pub returns : goal.returns
returns g c =
    let search = c.args.self.now in
    record {
      next = c.requires.next;
      unlike = unlike (guided (g.R.Rig.means search.rig.now) (g.R.GuidedRig.guide search.rig.now)) search.rows.now search.taken search.within c.args.state c.is_dead.result c.in_default.ensures c.is_dead.ensures c.if-is_dead.false;
      free = subst (λ k. search.taken < k) c.usable.ensures c.if-self-usable.false;
      granted = omega (arith, c.if-self-eq0.false);
      opens = (some_decides (in_set c.all_moves-untried.result.held) most_moves).1 (0, omega arith, c.all_moves-untried.ensures.some);
      all = c.all_moves-untried.ensures.all;
    }
