use Rattle.std.proofs.Common.{◌+◌, ◌*◌, ◌^◌, length, arith, rules}
use Rattle.std.proofs.lemmas.Iterator.{YieldsList-from_map, YieldsList-from_range}
use Rattle.std.proofs.lemmas.Iterator.Adapters.{at_most_from_yields_List, fits_from_length, total_from_yields_List}
use Rattle.std.proofs.lemmas.List.FromFn.{length-range_with_len}
use Rattle.rig.specs.Orders.{again}
use Rattle.accounts.proofs.Repeats.{adds, lap_ticks}
use Rattle.accounts.proofs.lap.TableLap.ticks.Goals as goal

pub sum-requires-clause-fits : goal.sum-requires-clause-fits
sum-requires-clause-fits c =
    let lap = c.args.self.now.lap in
    let len = length c.args.self.now.list.now in
    fits_from_length _ _ 4096 (2 ^ 32)
    (at_most_from_yields_List (YieldsList-from_range len (2 * len) len c.map.ensures.source (omega arith)) (rw length-range_with_len lap.most))
    c.map.ensures.closure (omega arith) (λ x r q k. search rules)

pub returns : goal.returns
returns c =
    let t = c.args.self.now.table.now in
    let xs = c.args.self.now.list.now in
    let len = length xs in
    lap_ticks t xs c.sum.result c.args.self.now.lap.only.some_move
    (total_from_yields_List (λ a x. a + x) 0 c.sum.result c.sum.ensures.ran
    (YieldsList-from_map _ (adds t (again xs)) (YieldsList-from_range len (2 * len) len c.map.ensures.source (omega arith)) c.map.ensures.closure (λ x r q k. search rules)))
