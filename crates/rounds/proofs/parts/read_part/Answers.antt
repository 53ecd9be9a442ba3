use Rattle.std.proofs.Common.{length, refl, ◌≤◌, arith}
use Rattle.std.proofs.lemmas.Result.{err_from_is_err_and, MatchResult-weaker}
use Rattle.frames.proofs.BadLines.{next_fails, other_frame}
use Rattle.rounds.proofs.PartLines.{not_part, part_frame, count_told, part_told, due_digits, part_put}
use Rattle.rounds.specs.Parts.{part_column}
use Rattle.rounds.proofs.parts.read_part.Goals as goal

pub returns-in_err-body : goal.returns-in_err-body
returns-in_err-body c =
    let p = err_from_is_err_and c.from_residual.result c.from_residual.ensures.1 in
    let u = c.args.lines.now in
    let short : length u.rest.now ≤ 65536 = omega (arith, u.first, u.counted) in
    rw (p.1, p.2) (next_fails 19 (part_column c.args.banks c.args.due) u.rest.now u.line _ short c.in_err-body.ensures.0)

pub returns-in_default : goal.returns-in_default
returns-in_default c =
    let u = c.args.lines.now in
    rw c.line-line.ensures (other_frame 19 (part_column c.args.banks c.args.due) u.rest.now u.line _ _ c.in_ok-body.ensures.0 (not_part _ c.in_default.not-RoundPart))

pub returns-in_err-read_fields : goal.returns-in_err-read_fields
returns-in_err-read_fields c =
    let p = err_from_is_err_and c.from_residual-in_err-read_fields.result c.from_residual-in_err-read_fields.ensures.1 in
    let f = part_frame _ _ _ _ c.in-RoundPart.is c.in_ok-body.ensures.0 in
    rw (p.1, p.2) (count_told c.args.banks c.args.due _ _ _ f _ _ _ c.line-line.ensures c.in_err-read_fields.ensures)

pub slice_bounds-put_banks-count : goal.slice_bounds-put_banks-count
slice_bounds-put_banks-count c = let f = part_frame _ _ _ _ c.in-RoundPart.is c.in_ok-body.ensures.0 in omega (arith, f.size)

pub slice_bounds-put_banks-start : goal.slice_bounds-put_banks-start
slice_bounds-put_banks-start c = let f = part_frame _ _ _ _ c.in-RoundPart.is c.in_ok-body.ensures.0 in omega (arith, f.size)

pub put_banks-requires : goal.put_banks-requires
put_banks-requires c =
    let f = part_frame _ _ _ _ c.in-RoundPart.is c.in_ok-body.ensures.0 in
    let d = due_digits c.args.banks c.args.due _ _ _ f c.in_ok-read_fields.ensures.1 in
    record { digits = d.digits; pairs = omega (arith, d.long); room = omega (arith, d.long) }

pub returns : goal.returns
returns c =
    let f = part_frame _ _ _ _ c.in-RoundPart.is c.in_ok-body.ensures.0 in
    let d = due_digits c.args.banks c.args.due _ _ _ f c.in_ok-read_fields.ensures.1 in
    MatchResult-weaker c.put_banks.result c.put_banks.ensures
    (λ x p. part_put c.args.banks c.args.due _ _ _ f c.in_ok-read_fields.ensures.1 _ _ c.args.lines.now _ refl refl c.in_ok-body.ensures.1 p)
    (λ e told. part_told c.args.banks c.args.due _ _ _ f _ _ _ e c.line-line.ensures d.column told)
