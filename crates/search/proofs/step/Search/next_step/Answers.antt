use Rattle.std.proofs.Common.{None, inr, arith}
use Rattle.search.specs.Rows.{on_path}
use Rattle.search.proofs.Rows.{latest_from_taken}
use Rattle.search.proofs.step.Search.next_step.Goals as goal

pub returns-in-None : goal.returns-in-None
returns-in-None g c =
    let search = c.args.self.now in
    inr (omega (arith, c.if-self-eq0.false), latest_from_taken search.rows.now search.taken (omega (arith, search.within)) on_path None c.in-None.ensures)
