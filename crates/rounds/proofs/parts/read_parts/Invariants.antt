use Rattle.rounds.proofs.PartLines.{PartsGoing}
use Rattle.rounds.proofs.parts.read_parts.Given as goal

abbrev pub invariant-loop : goal.invariant-loop
invariant-loop l = PartsGoing l.banks l.dwells l.initial.lines.rest.now l.list.items l.lines l.counter
