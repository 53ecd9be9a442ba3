use Rattle.std.proofs.Common.{refl, arith}
use Rattle.std.proofs.lemmas.Result.{err_from_is_err_and}
use Rattle.frames.specs.declared.frame.Frame.TheVariants.{SheetBank}
use Rattle.frames.proofs.BadLines.{next_fails, other_frame}
use Rattle.frames.proofs.FieldsRead.{read_as, told_bad}
use Rattle.frames.proofs.Shapes.{not_kind}
use Rattle.sheets.specs.SheetLines.{bank_column}
use Rattle.sheets.proofs.SheetReads.{bank_fields, bank_read}
use Rattle.sheets.proofs.lines.read_bank.Goals as goal

pub returns-in_err-body : goal.returns-in_err-body
returns-in_err-body c =
    let p = err_from_is_err_and c.from_residual.result c.from_residual.ensures.1 in
    let l = c.args.lines.now in
    rw (p.1, p.2) (next_fails 2 (bank_column c.args.i) l.rest.now l.line _ (omega (arith, l.first, l.counted)) c.in_err-body.ensures.0)

pub returns-in_default : goal.returns-in_default
returns-in_default c =
    let l = c.args.lines.now in
    rw c.line-line.ensures (other_frame 2 (bank_column c.args.i) l.rest.now l.line c.in_ok-body.field-0 _ c.in_ok-body.ensures.0 (not_kind 2 c.in_ok-body.field-0 c.in_default.not-SheetBank))

pub returns-in_err-panel : goal.returns-in_err-panel
returns-in_err-panel c =
    let l = c.args.lines.now in
    let p = err_from_is_err_and c.from_residual-in_err-panel.result c.from_residual-in_err-panel.ensures.1 in
    rw (p.1, p.2, ← c.line-line.ensures) (told_bad l.rest.now (SheetBank c.in-SheetBank.body) _ (read_as c.in-SheetBank.is c.in_ok-body.ensures.0) (bank_fields c.args.i) refl c.line-line.result _ c.in_err-panel.ensures)

pub returns : goal.returns
returns c =
    let l = c.args.lines.now in
    let r = bank_read c.args.i l.rest.now c.in-SheetBank.body _ c.in_ok-panel.field-0 (read_as c.in-SheetBank.is c.in_ok-body.ensures.0) c.in_ok-panel.ensures.0 c.in_ok-panel.ensures.1 in
    (r.0, r.1, c.in_ok-body.ensures.1)
