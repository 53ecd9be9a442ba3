use Rattle.std.proofs.Common.{ℕ, leb, rules, tests, ◌∙◌, arith}
use Rattle.std.proofs.lemmas.Iterator.{YieldsList-from_slice, YieldsList-from_take, YieldsList-from_zip}
use Rattle.std.proofs.lemmas.Iterator.Consumers.{YieldsList-at}
use Rattle.std.proofs.lemmas.Iterator.Search.{all_from_yields_List}
use Rattle.readers.proofs.Chains.{list_all_zipped}
use Rattle.readers.proofs.ages.ages_cover.Goals as goal

pub returns : goal.returns
returns c =
    let xs = c.args.a.now in
    let ys = c.args.b.now in
    let n = c.args.table.now.count in
    let test = λ (q : ℕ × ℕ). leb q.0 q.1 in
    all_from_yields_List test c.all.new.self _ _ c.all.ensures.ran
    (YieldsList-from_take n
    (YieldsList-at c.take.ensures.source
    (YieldsList-from_zip (YieldsList-at c.zip.ensures.first (YieldsList-from_slice xs c.iter.ensures.rest)) (YieldsList-at c.zip.ensures.second (YieldsList-from_slice ys c.iter-2.ensures.rest))))
    (c.take.ensures.count ∙ c.count-compared.ensures))
    (λ x b q k. search (rules, tests))
    ∙ list_all_zipped test xs ys n (omega arith) (omega arith)
