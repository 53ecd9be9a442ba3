-- The cases of a batch that are still to come.
use Rattle.std.specs.Prelude.{ℕ, List}
use Rattle.batches.specs.declared.Cases.{Cases}

-- the bytes that hold them
abbrev pub bytes_left : {H : Type 0} → Cases H → List ℕ
bytes_left cases = cases.rest.now
