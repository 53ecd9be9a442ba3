use Rattle.std.proofs.Common.{◌≡◌, take}
use Rattle.search.specs.declared.step.Standing.TheVariants.{Open}
use Rattle.rig.specs.Guides.{guided}
use Rattle.search.specs.Kept.{Kept}
use Rattle.search.proofs.Grants.{Working}
use Rattle.search.proofs.Work.{work}
use Rattle.search.proofs.book.Book.grant.Given as goal

abbrev pub invariant-loop-at : goal.invariant-loop-at
invariant-loop-at g l =
    (l.self.standing ≡ Open)
    × (l.self.rows.ghost_name ≡ l.initial.self.rows.ghost_name)
    × Working l.visits l.made l.initial.self.rows.now l.initial.self.taken l.self.rows.now l.self.taken
    × (Kept (guided (g.R.Rig.means l.rig) (g.R.GuidedRig.guide l.rig)) (take l.initial.self.taken l.initial.self.rows.now) → Kept (guided (g.R.Rig.means l.rig) (g.R.GuidedRig.guide l.rig)) (take l.self.taken l.self.rows.now))

abbrev pub decreases-loop-at : goal.decreases-loop-at
decreases-loop-at g l = work l.self.rows.now l.self.taken
