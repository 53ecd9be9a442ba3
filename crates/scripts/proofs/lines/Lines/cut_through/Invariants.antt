use Rattle.std.proofs.Common.{◌≡◌, ◌+◌, ◌≤◌, length}
use Rattle.scripts.specs.Lines.{line_count}
use Rattle.scripts.proofs.lines.Lines.cut_through.Given as goal

abbrev pub invariant-loop-line : goal.invariant-loop-line
invariant-loop-line l = record {
  within : length l.self.rest.now ≤ length l.lines;
  counted : l.self.number + line_count l.self.rest.now ≡ l.initial.self.number + line_count l.initial.self.rest.now;
  bounded : l.self.number + length l.self.rest.now ≤ l.initial.self.number + length l.initial.self.rest.now;
  onward : l.initial.self.number ≤ l.self.number;
}

abbrev pub decreases-loop-line : goal.decreases-loop-line
decreases-loop-line l = length l.self.rest.now
