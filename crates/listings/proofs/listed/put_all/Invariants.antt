use Rattle.std.specs.List.{flat_map}
use Rattle.listings.specs.Writing.{Put}
use Rattle.listings.proofs.listed.put_all.Given as goal

abbrev pub invariant-loop-item : goal.invariant-loop-item
invariant-loop-item g l = record {
  can : (goal.iterator-loop-item g).can_next l.item-iterator;
  ends : (goal.iterator-loop-item g).is_finite l.item-iterator;
  put : Put (flat_map g.T.Listed.text l.yielded) l.initial.out l.out l.at;
}
