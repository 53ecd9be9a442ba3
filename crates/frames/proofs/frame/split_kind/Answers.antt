use Rattle.std.proofs.Common.{sym, arith, ap, ◌∙◌, ◌++◌, ℕ}
use Rattle.frames.specs.Digits.{numeral}
use Rattle.frames.proofs.Numerals.{digits_drop}
use Rattle.frames.proofs.Shapes.{cut_from, decoded, undecoded, no_frame}
use Rattle.frames.proofs.frame.split_kind.Goals as goal

pub returns-in_err-kind : goal.returns-in_err-kind
returns-in_err-kind c =
    let s = c.in_ok-two.ensures.cases in
    let cut = cut_from c.args.bytes.now c.in_ok-two.two.now c.number.result c.in_ok-two.body.now c.requires s.0 s.1 c.number.ensures.read s.2 in
    let none = undecoded c.number.result c.try_from.result c.try_from.ensures c.in_err-kind.ensures.value in
    rw c.from_residual-in_err-kind.ensures (no_frame c.args.bytes.now c.number.result c.in_ok-two.body.now cut (λ h. let k = h.known in let z = none c.in_ok-two.body.now in omega arith))

pub returns : goal.returns
returns c =
    let s = c.in_ok-two.ensures.cases in
    let cut = cut_from c.args.bytes.now c.in_ok-two.two.now c.number.result c.in_ok-two.body.now c.requires s.0 s.1 c.number.ensures.read s.2 in
    let k = decoded c.number.result c.try_from.result c.in_ok-kind.kind c.try_from.ensures c.in_ok-kind.ensures.value in
    (rw s.2 (digits_drop c.args.bytes.now 2 c.requires), cut.text ∙ ap (λ (n : ℕ). numeral 2 n ++ c.in_ok-two.body.now) (sym k))
