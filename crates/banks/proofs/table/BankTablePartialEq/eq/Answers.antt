use Rattle.std.proofs.Common.{arith}
use Rattle.std.proofs.lemmas.Slice.Eq.{slice_eq-Decides}
use Rattle.banks.proofs.SameBank.{bank_decides}
use Rattle.banks.proofs.Identical.{table_decides}
use Rattle.banks.proofs.table.BankTablePartialEq.eq.Goals as goal

pub returns-clause-identical : goal.returns-clause-identical
returns-clause-identical c =
    table_decides c.args.self.now c.args.other.now c.eq.result (slice_eq-Decides bank_decides _ _ _ c.eq.ensures) (omega arith) (omega arith)
