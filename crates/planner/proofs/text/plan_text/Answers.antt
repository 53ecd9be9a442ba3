use Rattle.std.proofs.Common.{take, drop, IfOk, sym, subst}
use Rattle.listings.specs.Answers.{StandsBehind, answer_text}
use Rattle.listings.specs.Texts.{refused_line}
use Rattle.listings.specs.Writing.{Wrote}
use Rattle.sheets.specs.SheetText.{FirstFault}
use Rattle.planner.specs.Answers.PlanWritten.{answered, refused}
use Rattle.planner.proofs.Written.{answer_length, refused_length, room_enough}
use Rattle.planner.proofs.text.plan_text.Goals as goal

pub returns-in-Ok : goal.returns-in-Ok
returns-in-Ok c =
    let a = c.answer_sheet-answer.result in
    let w = c.write_answer in
    let same = c.as_ref.ensures in
    let reply = subst (λ f. Wrote (answer_text f a.visits) c.args.out.now w.new.out w.result) same w.ensures.reply in
    record {
      written = answered c.in-Ok.sheet a.finding a.visits c.in-Ok.ensures.reply c.answer_sheet-answer.ensures reply
          (subst (λ f. IfOk w.result (λ n. StandsBehind f (drop 13 (take n w.new.out)))) same w.ensures.read);
      enough = room_enough (answer_text a.finding a.visits) c.args.out.now w.new.out w.result reply (answer_length a.finding a.visits);
    }

pub returns-in-Err : goal.returns-in-Err
returns-in-Err c =
    let r = c.told.result in
    let w = c.write_refusal in
    record {
      written = refused r (subst (FirstFault c.args.bytes.now) (sym c.told.ensures) c.in-Err.ensures.reply) w.ensures;
      enough = room_enough (refused_line r) c.args.out.now w.new.out w.result w.ensures (refused_length r);
    }
