use Rattle.std.proofs.Common.{length, ap, subst, arith}
use Rattle.listings.specs.Writing.{Wrote}
use Rattle.listings.proofs.Readings.{read_back, round_is}
use Rattle.listings.proofs.lines.write_round.Goals as goal

pub returns : goal.returns
returns c =
    let r = c.args.round.now in
    let e = c.of.ensures in
    let reply = subst (λ text. Wrote text c.args.out.now c.write.new.out c.write.result) (round_is r c.of.result.table c.of.result.list.now e.table e.list) c.write.ensures in
    record {
      reply = reply;
      read = read_back r c.args.out.now c.write.new.out c.write.result e.some (omega (arith, c.of.result.few, ap length e.list)) reply;
    }
