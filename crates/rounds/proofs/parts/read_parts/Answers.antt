use Rattle.std.proofs.Common.{refl, ap, ◌∙◌, ◌-◌, min, arith}
use Rattle.std.proofs.lemmas.Result.{err_from_is_err_and}
use Rattle.rounds.specs.Parts.{part_size}
use Rattle.rounds.proofs.PartLines.{parts_none, parts_more, parts_fault}
use Rattle.rounds.proofs.parts.read_parts.Goals as goal

pub loop-init : goal.loop-init
loop-init c = rw c.new-list.ensures (parts_none c.args.banks c.args.dwells c.args.lines.now.rest.now c.args.lines.now refl c.requires.behind)

pub returns-in_err-read_part : goal.returns-in_err-read_part
returns-in_err-read_part c =
    let p = err_from_is_err_and c.from_residual.result c.from_residual.ensures.1 in
    let due = c.min-due.ensures ∙ ap (λ n. min part_size (c.args.dwells - n)) c.len.ensures.value in
    rw (p.1, p.2) (parts_fault _ _ _ _ _ _ c.loop.invariant (omega (arith, c.loop-test.true)) _ due _ c.in_err-read_part.ensures)

pub loop-preserved : goal.loop-preserved
loop-preserved c =
    let due = c.min-due.ensures ∙ ap (λ n. min part_size (c.args.dwells - n)) c.len.ensures.value in
    parts_more _ _ _ _ _ _ c.loop.invariant (omega (arith, c.loop-test.true)) _ due _ _ c.in_ok-read_part.ensures
