use Rattle.std.proofs.Common.{◌≡◌, ◌-◌}
use Rattle.sheets.specs.Limits.{most_feeders}
use Rattle.sheets.specs.SheetLines.{FeedersRead, line_behind}
use Rattle.sheets.proofs.list.read_feeders.Given as goal

abbrev pub invariant-loop-feeder : goal.invariant-loop-feeder
invariant-loop-feeder l = record {
  read : FeedersRead l.head.banks l.initial.lines.rest.now l.list.feeders l.list.count l.lines.rest.now;
  line : l.lines.line ≡ line_behind l.head.banks l.list.count;
}

abbrev pub decreases-loop-feeder : goal.decreases-loop-feeder
decreases-loop-feeder l = most_feeders - l.list.count
