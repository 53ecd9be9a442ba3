use Rattle.std.proofs.Common.{◌≡◌, ◌∙◌, ℕ, arith, length, subst}
use Rattle.std.proofs.lemmas.List.{length-take}
use Rattle.sheets.specs.SheetLines.{BanksRead}
use Rattle.sheets.proofs.SheetReads.{no_banks, banks_front, one_bank_more}
use Rattle.sheets.proofs.lines.read_banks.Goals as goal

pub loop-i-init : goal.loop-i-init
loop-i-init c = record { read = no_banks c.args.lines.now.rest.now _; line = c.requires }

pub loop-i-preserved : goal.loop-i-preserved
loop-i-preserved c =
    let e = c.in_ok-panel.ensures in
    let i = c.loop-i.invariant in
    record {
      read = one_bank_more c.args.lines.now.rest.now c.loop-i.panel-items c.loop-i.i c.loop-i.lines.rest.now c.in_ok-panel.field-0 _ i.read (omega (arith, c.loop-i-test.true, c.loop-i.auto.panel-items)) e.0 e.1;
      line = e.2 ∙ omega (arith, i.line);
    }

pub returns : goal.returns
returns c =
    let i = c.loop-i.invariant in
    let l : length c.loop-i.panel-items ≡ c.args.head.banks = omega (arith, c.loop-i.auto.panel-items, length-take {A = ℕ}, c.args.head.few) in
    let e : c.loop-i.i ≡ c.args.head.banks = omega (arith, c.loop-i-test.false, c.loop-i.auto.i-end, length-take {A = ℕ}, c.args.head.few) in
    (banks_front c.args.lines.now.rest.now c.loop-i.panel-items _ c.args.head.banks _ l (subst (λ (n : ℕ). BanksRead c.args.lines.now.rest.now c.loop-i.panel-items n c.loop-i.lines.rest.now) e i.read), omega (arith, i.line))
