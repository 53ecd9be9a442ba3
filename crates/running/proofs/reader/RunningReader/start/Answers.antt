use Rattle.std.proofs.Common.{◌+◌, ap, zero-add}
use Rattle.running.specs.Told.{reply_at}
use Rattle.running.proofs.SwapsRead.{no_swap_missed}
use Rattle.running.proofs.reader.RunningReader.start.Goals as goal

pub returns-clause-swaps : goal.returns-clause-swaps
returns-clause-swaps c =
    let r = c.args.round in
    no_swap_missed r (λ n. reply_at r (0 + n)) (λ n. ap (reply_at r) (zero-add n))
