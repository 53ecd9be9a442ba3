use Rattle.listings.proofs.Puts.{PutDown}
use Rattle.listings.proofs.fields.FieldListed.put.Given as goal

abbrev pub invariant-loop-k : goal.invariant-loop-k
invariant-loop-k l = PutDown l.width l.number l.initial.out l.out l.k l.rest
