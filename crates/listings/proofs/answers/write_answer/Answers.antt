use Rattle.std.proofs.Common.{length, sym, ap, ◌∙◌, subst, arith}
use Rattle.listings.specs.Findings.{finding_copied}
use Rattle.listings.specs.Texts.{verdict_line}
use Rattle.listings.specs.Writing.{Wrote}
use Rattle.listings.proofs.Answered.{HasDwells, answer_read, found_text, plain_text}
use Rattle.listings.proofs.answers.write_answer.Goals as goal

pub returns-in-Round : goal.returns-in-Round
returns-in-Round c =
    let g = c.args.finding in
    let r = c.in-Round.round in
    let e = c.of-round.ensures in
    let w = c.write in
    let some = subst (λ f. HasDwells (finding_copied f)) (sym c.in-Round.is) (e.some, omega (arith, c.of-round.result.few, ap length e.list)) in
    let reply = subst (λ text. Wrote text c.args.out.now w.new.out w.result)
    (found_text g r c.verdict.result c.args.visits c.of-round.result.table c.of-round.result.list.now c.in-Round.is c.verdict.ensures e.table e.list) w.ensures in
    record { reply = reply; read = answer_read (finding_copied g) c.args.visits c.args.out.now w.new.out w.result some reply }

pub returns-in_default : goal.returns-in_default
returns-in_default c =
    let g = c.args.finding in
    let w = c.write-in_default in
    let plain = plain_text g c.args.visits c.in_default.not-Round in
    let reply = subst (λ text. Wrote text c.args.out.now w.new.out w.result)
    (ap (λ v. verdict_line v c.args.visits) c.verdict.ensures ∙ plain.0) w.ensures in
    record { reply = reply; read = answer_read (finding_copied g) c.args.visits c.args.out.now w.new.out w.result plain.1 reply }
