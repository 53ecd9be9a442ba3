use Rattle.std.proofs.Common.{◌≡◌, ◌+◌}
use Rattle.sheets.specs.SheetLines.{BanksRead}
use Rattle.sheets.proofs.lines.read_banks.Given as goal

abbrev pub invariant-loop-i : goal.invariant-loop-i
invariant-loop-i l = record {
  read : BanksRead l.initial.lines.rest.now l.panel-items l.i l.lines.rest.now;
  line : l.lines.line ≡ 2 + l.i;
}
