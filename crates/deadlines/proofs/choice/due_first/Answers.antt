use Rattle.std.proofs.Common.{rules, refl, arith}
use Rattle.std.proofs.lemmas.Iterator.{YieldsList-from_range, YieldsList-from_slice, YieldsList-from_zip}
use Rattle.std.proofs.lemmas.Iterator.Consumers.{YieldsList-at, YieldsList-from_filter}
use Rattle.banks.specs.Places.{age_at}
use Rattle.rig.specs.Sets.{in_set}
use Rattle.deadlines.proofs.First.{picked}
use Rattle.deadlines.proofs.choice.due_first.Goals as goal

pub returns : goal.returns
returns c =
    picked (age_at c.args.deadlines) (in_set c.args.untried.now.held) _ (λ q. (q.0, q.1.now)) c.args.count c.args.deadlines
    (YieldsList-from_filter _ _
    (YieldsList-at c.filter.ensures.source
    (YieldsList-from_zip (YieldsList-at c.zip.ensures.first (YieldsList-from_range 0 c.args.count c.args.count refl (omega arith)))
    (YieldsList-at c.zip.ensures.second (YieldsList-from_slice c.args.deadlines c.iter.ensures.rest))))
    c.filter.ensures.closure (λ x b q k. search rules))
    (λ x k q h. search rules) (λ k h. search rules) (omega arith) _ (λ x i h. search rules) _ _ c.min_by_key.ensures.ran c.map.ensures.cases
