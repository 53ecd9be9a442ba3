use Rattle.std.proofs.Common.{◌≡◌}
use Rattle.std.specs.Slice.Iter.{chunks_exact_rest, chunks_exact_size}
use Rattle.std.specs.Iterator.Adapters.{enumerate_source, enumerate_count}
use Rattle.rounds.proofs.PartLines.{Putting}
use Rattle.rounds.proofs.parts.put_banks.Given as goal

abbrev pub invariant-loop-k : goal.invariant-loop-k
invariant-loop-k l =
    let source = enumerate_source l.k-iterator in
    (chunks_exact_size source ≡ 2) × Putting l.banks l.digits l.initial.list.items l.list.items (chunks_exact_rest source) (enumerate_count l.k-iterator)
