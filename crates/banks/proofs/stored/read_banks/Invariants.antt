use Rattle.std.proofs.Common.{◌≡◌, ◌+◌}
use Rattle.banks.specs.Stored.{BanksRead}
use Rattle.banks.proofs.stored.read_banks.Given as goal

abbrev pub invariant-loop-i : goal.invariant-loop-i
invariant-loop-i l = record {
  read : BanksRead l.initial.lines.rest.now l.bank-items l.i l.lines.rest.now;
  line : l.lines.line ≡ 2 + l.i;
}
