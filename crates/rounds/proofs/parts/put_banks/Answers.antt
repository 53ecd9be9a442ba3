use Rattle.std.proofs.Common.{◌∙◌, arith}
use Rattle.rounds.proofs.PartLines.{put_bad, put_more, put_end}
use Rattle.rounds.proofs.parts.put_banks.Goals as goal

pub returns-then-bank-from : goal.returns-then-bank-from
returns-then-bank-from c =
    let step = c.in-Some.ensures.steps in
    put_bad _ _ _ _ _ _ _ _ _ c.loop-k.invariant.1 step.0.1.0 (step.0.1.1 ∙ c.loop-k.invariant.0) c.number-bank.ensures.read _ _ step.1 (omega (arith, c.from.ensures))

pub loop-k-preserved : goal.loop-k-preserved
loop-k-preserved c =
    let step = c.in-Some.ensures.steps in (
      step.0.0 ∙ c.loop-k.invariant.0,
      rw c.push.ensures.items (put_more _ _ _ _ _ _ _ _ _ c.loop-k.invariant.1 step.0.1.0 (step.0.1.1 ∙ c.loop-k.invariant.0) c.number-bank.ensures.read _ step.2 (omega (arith, c.from.ensures))),
    )

pub returns : goal.returns
returns c =
    let step = c.in-None.ensures.steps in
    put_end _ _ _ _ _ _ c.loop-k.invariant.1 (omega (arith, step.0.1.0, c.loop-k.invariant.0)) c.requires.pairs
