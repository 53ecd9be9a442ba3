use Rattle.std.proofs.lemmas.Result.{err_from_is_err_and}
use Rattle.sheets.proofs.FeederFields.{count_bad, count_text}
use Rattle.sheets.proofs.list.count_in.Goals as goal

pub returns-in_err-read_fields : goal.returns-in_err-read_fields
returns-in_err-read_fields c =
    let p = err_from_is_err_and c.from_residual.result c.from_residual.ensures.1 in
    rw (p.1, p.2) (count_bad c.args.body.now c.requires.digits c.requires.size c.args.n c.args.line _ c.in_err-read_fields.ensures)

pub returns : goal.returns
returns c = count_text c.args.body.now c.requires.digits c.requires.size c.args.n _ c.in_ok-read_fields.ensures.0 c.in_ok-read_fields.ensures.1
