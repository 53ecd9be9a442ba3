use Rattle.std.proofs.Common.{◌≤◌, arith}
use Rattle.std.proofs.lemmas.Result.{err_from_is_err_and}
use Rattle.sheets.proofs.FeederFields.{first_bad, last_bad, feeder_within, feeder_text}
use Rattle.sheets.proofs.list.feeder_in.Goals as goal

pub returns-in_err-number : goal.returns-in_err-number
returns-in_err-number c =
    let p = err_from_is_err_and c.from_residual.result c.from_residual.ensures.1 in
    let some : 1 ≤ c.args.head.banks = omega (arith, c.args.head.enough) in
    rw (p.1, p.2) (first_bad c.args.body.now c.requires.digits c.requires.size c.args.head.banks some c.args.line _ c.in_err-number.ensures)

pub returns-in_err-swap : goal.returns-in_err-swap
returns-in_err-swap c =
    let p = err_from_is_err_and c.from_residual-in_err-swap.result c.from_residual-in_err-swap.ensures.1 in
    let some : 1 ≤ c.args.head.banks = omega (arith, c.args.head.enough) in
    let n = c.in_ok-number.ensures in
    rw (p.1, p.2) (last_bad c.args.body.now c.requires.digits c.requires.size c.args.head.banks some _ n.0 n.1 c.args.line _ c.in_err-swap.ensures)

pub returns : goal.returns
returns c =
    let some : 1 ≤ c.args.head.banks = omega (arith, c.args.head.enough) in
    let n = c.in_ok-number.ensures in
    let m = c.in_ok-swap.ensures in (
      feeder_within c.args.body.now c.requires.digits c.requires.size c.args.head.banks some _ n.0 n.1 _ m.0 m.1 m.2,
      feeder_text c.args.body.now c.requires.digits c.requires.size c.args.head.banks some _ n.0 n.1 _ m.0 m.1 m.2,
    )
