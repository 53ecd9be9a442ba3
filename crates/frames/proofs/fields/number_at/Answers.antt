use Rattle.std.proofs.Common.{◌≡◌, ◌+◌, ◌-◌, ◌≤◌, length, take, drop, ap, arith}
use Rattle.frames.proofs.BadLines.{field_read, field_refused}
use Rattle.frames.proofs.fields.number_at.Goals as goal

pub returns : goal.returns
returns c =
    let xs = c.args.digits.now in
    let place = c.args.place in
    let width = c.args.width in
    let e : take (place + width - place) (drop place xs) ≡ take width (drop place xs) = ap (λ n. take n (drop place xs)) (omega arith) in
    let fits : place + width ≤ length xs = omega arith in
    record {
      read = λ s l t. field_read place width xs _ c.number.result e s l t c.number.ensures.read;
      refused = λ none. c.number.ensures.refused (field_refused place width xs _ e fits none);
    }
