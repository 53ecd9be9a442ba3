use Rattle.std.proofs.Common.{Option, ap, ◌∙◌, subst, arith}
use Rattle.std.proofs.lemmas.Result.{err_from_is_err_and}
use Rattle.std.proofs.lemmas.Bool.Decides.{not_from_Decides}
use Rattle.refusals.specs.Numbers.{repeated_feeder}
use Rattle.sheets.specs.declared.feeder.Feeder.{Feeder}
use Rattle.sheets.specs.SheetLines.{NextRead}
use Rattle.sheets.specs.SheetLines.NextFault.{bad_line, repeated}
use Rattle.sheets.proofs.FeederReads.{no_feeders, one_feeder_more}
use Rattle.sheets.proofs.list.read_feeders.Goals as goal

pub loop-feeder-init : goal.loop-feeder-init
loop-feeder-init c =
    let none = c.new-list.ensures in
    record { read = rw none (no_feeders c.args.head.banks c.args.lines.now.rest.now _); line = omega (arith, none, c.requires) }

pub returns-in_err-feeder : goal.returns-in_err-feeder
returns-in_err-feeder c =
    let p = err_from_is_err_and c.from_residual.result c.from_residual.ensures.1 in
    let l = c.loop-feeder in
    rw (p.1, p.2) (record { n = l.list.count; fs = l.list.feeders; rest = l.lines.rest.now; good = l.invariant.read; bad = bad_line (rw (← l.invariant.line) c.in_err-feeder.ensures) })

pub returns-then-has_number : goal.returns-then-has_number
returns-then-has_number c =
    let l = c.loop-feeder in
    let h = c.has_number.ensures.0 c.if-has_number.true in
    let read = (subst (λ (o : Option Feeder). NextRead c.args.head.banks l.list.count l.lines.rest.now o c.read_next.new.lines.rest.now) c.in-Some.is c.in_ok-feeder.ensures.0) in
    record {
      n = l.list.count;
      fs = l.list.feeders;
      rest = l.lines.rest.now;
      good = l.invariant.read;
      bad = repeated c.in-Some.feeder _ h.0 read h.1 h.2 (ap repeated_feeder (c.line-line.ensures ∙ l.invariant.line));
    }

pub loop-feeder-preserved : goal.loop-feeder-preserved
loop-feeder-preserved c =
    let l = c.loop-feeder in
    let f = c.in-Some.feeder in
    let read = subst (λ (o : Option Feeder). NextRead c.args.head.banks l.list.count l.lines.rest.now o c.read_next.new.lines.rest.now) c.in-Some.is c.in_ok-feeder.ensures.0 in
    let p = c.push.ensures in
    record {
      read = rw (p.count, p.feeders) (one_feeder_more c.args.head.banks c.args.lines.now.rest.now l.list.feeders l.list.count l.lines.rest.now f _ l.invariant.read (omega (arith, read.0, l.list.places)) read.0 read.1
          (not_from_Decides c.has_number.result c.has_number.ensures c.if-has_number.false) read.2);
      line = c.in_ok-feeder.ensures.1 ∙ omega (arith, l.invariant.line, p.count);
    }
