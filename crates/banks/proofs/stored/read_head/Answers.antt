use Rattle.std.proofs.Common.{refl, arith}
use Rattle.std.proofs.lemmas.Result.{err_from_is_err_and}
use Rattle.frames.specs.declared.frame.Frame.TheVariants.{RoundHead}
use Rattle.frames.proofs.BadLines.{next_fails, other_frame}
use Rattle.frames.proofs.FieldsRead.{read_as, told_bad, frame_of_numbers}
use Rattle.frames.proofs.Shapes.{not_kind}
use Rattle.banks.specs.Stored.{head_column}
use Rattle.banks.proofs.TableLines.{head_fields}
use Rattle.banks.proofs.stored.read_head.Goals as goal

pub returns-in_err-body : goal.returns-in_err-body
returns-in_err-body c =
    let p = err_from_is_err_and c.from_residual.result c.from_residual.ensures.1 in
    let l = c.args.lines.now in
    rw (p.1, p.2) (next_fails 17 head_column l.rest.now l.line _ (omega (arith, l.first, l.counted)) c.in_err-body.ensures.0)

pub returns-in_default : goal.returns-in_default
returns-in_default c =
    let l = c.args.lines.now in
    rw c.line-line.ensures (other_frame 17 head_column l.rest.now l.line c.in_ok-body.field-0 _ c.in_ok-body.ensures.0 (not_kind 17 c.in_ok-body.field-0 c.in_default.not-RoundHead))

pub returns-in_err-banks : goal.returns-in_err-banks
returns-in_err-banks c =
    let l = c.args.lines.now in
    let p = err_from_is_err_and c.from_residual-in_err-banks.result c.from_residual-in_err-banks.ensures.1 in
    rw (p.1, p.2, ← c.line-line.ensures) (told_bad l.rest.now (RoundHead c.in-RoundHead.body) _ (read_as c.in-RoundHead.is c.in_ok-body.ensures.0) head_fields refl c.line-line.result _ c.in_err-banks.ensures)

pub returns : goal.returns
returns c =
    let l = c.args.lines.now in
    (frame_of_numbers l.rest.now (RoundHead c.in-RoundHead.body) _ (read_as c.in-RoundHead.is c.in_ok-body.ensures.0) head_fields refl c.in_ok-banks.field-0 c.in_ok-banks.ensures.0, c.in_ok-body.ensures.1)
