use Rattle.std.proofs.Common.{◌≡◌, ℕ, List, Bor, sym, ◌∙◌, arith, rules}
use Rattle.std.proofs.lemmas.Result.{err_from_is_err_and}
use Rattle.std.proofs.lemmas.Bool.{ltb-true, ltb-false}
use Rattle.frames.specs.declared.frame.Frame.TheVariants.{Feeder, FeederCount}
use Rattle.frames.proofs.BadLines.{read_digits, read_length}
use Rattle.frames.proofs.BadLinesAmong.{next_fails_among, other_frame_among}
use Rattle.frames.proofs.FieldsRead.{read_as}
use Rattle.frames.proofs.Shapes.{not_kind}
use Rattle.sheets.specs.Limits.{most_feeders}
use Rattle.sheets.specs.SheetLines.{due_behind, column_behind}
use Rattle.sheets.proofs.FeederReads.{feeder_due, feeder_not_due, count_due, count_not_due, other_not_due, next_outside}
use Rattle.sheets.proofs.list.read_next.Goals as goal

pub returns-in_err-body : goal.returns-in_err-body
returns-in_err-body c =
    let p = err_from_is_err_and c.from_residual.result c.from_residual.ensures.1 in
    let l = c.args.lines.now in
    rw (p.1, p.2) (next_fails_among (due_behind c.args.list.now.count) (column_behind c.args.head.banks c.args.list.now.count) l.rest.now l.line _ (omega (arith, l.first, l.counted)) c.in_err-body.ensures.0)

pub feeder_in-requires-clause-digits : goal.feeder_in-requires-clause-digits
feeder_in-requires-clause-digits c = read_digits c.args.lines.now.rest.now (Feeder c.in-Feeder.body) _ (read_as c.in-Feeder.is c.in_ok-body.ensures.0)

pub feeder_in-requires-clause-size : goal.feeder_in-requires-clause-size
feeder_in-requires-clause-size c = read_length c.args.lines.now.rest.now (Feeder c.in-Feeder.body) _ (read_as c.in-Feeder.is c.in_ok-body.ensures.0)

pub returns-in_err-feeder_in-in-Feeder : goal.returns-in_err-feeder_in-in-Feeder
returns-in_err-feeder_in-in-Feeder c =
    let p = err_from_is_err_and c.from_residual-in_err-feeder_in-in-Feeder.result c.from_residual-in_err-feeder_in-in-Feeder.ensures.1 in
    rw (p.1, p.2, ← c.line-line.ensures)
    (next_outside c.args.head.banks c.args.list.now.count c.line-line.result c.args.lines.now.rest.now (Feeder c.in-Feeder.body) _ _ (read_as c.in-Feeder.is c.in_ok-body.ensures.0) (feeder_due c.args.list.now.count (ltb-true _ most_feeders (sym c.if-has_room.ensures))) c.in_err-feeder_in-in-Feeder.ensures)

pub count_in-requires-clause-digits : goal.count_in-requires-clause-digits
count_in-requires-clause-digits c = read_digits c.args.lines.now.rest.now (FeederCount c.in-FeederCount.body) _ (read_as c.in-FeederCount.is c.in_ok-body.ensures.0)

pub count_in-requires-clause-size : goal.count_in-requires-clause-size
count_in-requires-clause-size c = read_length c.args.lines.now.rest.now (FeederCount c.in-FeederCount.body) _ (read_as c.in-FeederCount.is c.in_ok-body.ensures.0)

pub returns-in_err-count_in-in-FeederCount : goal.returns-in_err-count_in-in-FeederCount
returns-in_err-count_in-in-FeederCount c =
    let p = err_from_is_err_and c.from_residual-in_err-count_in-in-FeederCount.result c.from_residual-in_err-count_in-in-FeederCount.ensures.1 in
    rw (p.1, p.2, ← c.line-line.ensures)
    (next_outside c.args.head.banks c.args.list.now.count c.line-line.result c.args.lines.now.rest.now (FeederCount c.in-FeederCount.body) _ _ (read_as c.in-FeederCount.is c.in_ok-body.ensures.0) (count_due c.args.list.now.count c.if-list-gt0.true) c.in_err-count_in-in-FeederCount.ensures)

pub returns-in_default : goal.returns-in_default
returns-in_default c =
    rw c.line-line.ensures (other_frame_among (due_behind c.args.list.now.count) (column_behind c.args.head.banks c.args.list.now.count) c.args.lines.now.rest.now c.args.lines.now.line (Feeder c.in-Feeder.body) _ (read_as c.in-Feeder.is c.in_ok-body.ensures.0) (feeder_not_due c.args.list.now.count (ltb-false _ most_feeders (sym c.has_room.ensures ∙ c.if-has_room.false))))

pub returns-in_default-2 : goal.returns-in_default-2
returns-in_default-2 c =
    rw c.line-line.ensures (other_frame_among (due_behind c.args.list.now.count) (column_behind c.args.head.banks c.args.list.now.count) c.args.lines.now.rest.now c.args.lines.now.line (FeederCount c.in-FeederCount.body) _ (read_as c.in-FeederCount.is c.in_ok-body.ensures.0) (count_not_due c.args.list.now.count (omega (arith, c.if-list-gt0.false))))

pub returns-in_default-3 : goal.returns-in_default-3
returns-in_default-3 c =
    let f = c.in_ok-body.field-0 in
    let no_feeder : (b : Bor (List ℕ)) → f ≡ Feeder b → ⊥ = search rules in
    let no_count : (b : Bor (List ℕ)) → f ≡ FeederCount b → ⊥ = search rules in
    rw c.line-line.ensures (other_frame_among (due_behind c.args.list.now.count) (column_behind c.args.head.banks c.args.list.now.count) c.args.lines.now.rest.now c.args.lines.now.line f _ c.in_ok-body.ensures.0 (other_not_due c.args.list.now.count _ (not_kind 3 f no_feeder) (not_kind 4 f no_count)))
