use Rattle.std.proofs.Common.{sym, refl, ◌∙◌}
use Rattle.frames.proofs.Shapes.{Cut, is_frame, no_frame, number_small}
use Rattle.frames.specs.Kinds.{number_of}
use Rattle.frames.proofs.frame.cut_frame.Goals as goal

pub returns-then-digits_after-body : goal.returns-then-digits_after-body
returns-then-digits_after-body c =
    let k = rw c.in_ok-kind.ensures.ok_part at c.split_kind.ensures in
    let cut : Cut c.args.bytes.now (number_of c.in_ok-kind.kind) c.in_ok-kind.body.now = record { digits = c.in_ok-check_digits.ensures; small = number_small c.in_ok-kind.kind; text = k.1 } in
    (refl, no_frame c.args.bytes.now (number_of c.in_ok-kind.kind) c.in_ok-kind.body.now cut (λ s. c.if-digits_after-body.true (c.digits_after.ensures ∙ sym s.fits)))

pub returns : goal.returns
returns c =
    let k = rw c.in_ok-kind.ensures.ok_part at c.split_kind.ensures in
    let cut : Cut c.args.bytes.now (number_of c.in_ok-kind.kind) c.in_ok-kind.body.now = record { digits = c.in_ok-check_digits.ensures; small = number_small c.in_ok-kind.kind; text = k.1 } in
    is_frame c.args.bytes.now (number_of c.in_ok-kind.kind) c.in_ok-kind.body.now c.framed.result cut c.framed.ensures.kind c.framed.ensures.body (sym c.if-digits_after-body.false ∙ c.digits_after.ensures)
