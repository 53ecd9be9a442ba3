use Rattle.std.proofs.Common.{take, rules, tests, ◌∙◌, arith}
use Rattle.std.proofs.lemmas.Iterator.{YieldsList-from_map, YieldsList-from_slice, YieldsList-from_take}
use Rattle.std.proofs.lemmas.Iterator.Consumers.{YieldsList-at, sum_by_from_yields_List, fits_by_from_yields_list}
use Rattle.readers.proofs.Chains.{sum_small}
use Rattle.readers.proofs.ages.age_sum.Goals as goal

pub sum-requires-clause-fits : goal.sum-requires-clause-fits
sum-requires-clause-fits c =
    let xs = c.args.ages.now in
    let n = c.args.table.now.count in
    let small = sum_small xs n (omega arith) (λ i. search rules) in
    fits_by_from_yields_list (λ x. x) (take n xs) _ _
    (YieldsList-from_map _ (λ x. x)
    (YieldsList-at c.map.ensures.source (YieldsList-from_take n (YieldsList-at c.take.ensures.source (YieldsList-from_slice xs c.iter.ensures.rest)) (c.take.ensures.count ∙ c.count-banks.ensures)))
    c.map.ensures.closure (λ x r q k. search (rules, tests)))
    (omega (arith, small.0, small.1))

pub returns : goal.returns
returns c =
    let xs = c.args.ages.now in
    let n = c.args.table.now.count in
    let small = sum_small xs n (omega arith) (λ i. search rules) in
    let whole =
    sum_by_from_yields_List (λ x. x) (take n xs) _ _ c.sum.ensures.ran
    (YieldsList-from_map _ (λ x. x)
    (YieldsList-at c.map.ensures.source (YieldsList-from_take n (YieldsList-at c.take.ensures.source (YieldsList-from_slice xs c.iter.ensures.rest)) (c.take.ensures.count ∙ c.count-banks.ensures)))
    c.map.ensures.closure (λ x r q k. search (rules, tests)))
    ∙ small.0 in
    record { sum = whole; small = omega (arith, whole, small.1) }
