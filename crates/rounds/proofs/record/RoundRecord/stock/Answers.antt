use Rattle.std.proofs.Common.{lit≤, ◌∙◌, ap, ◌++◌, ◌∷◌, []}
use Rattle.rounds.proofs.Stock.{stock_kept}
use Rattle.rounds.proofs.record.RoundRecord.stock.Goals as goal

pub invariant_of-result : goal.invariant_of-result
invariant_of-result c =
    let e = c.stock.ensures in
    let list = c.push-2.ensures.items ∙ ap (λ xs. xs ++ 1 ∷ []) (c.push.ensures.items ∙ ap (λ xs. xs ++ 0 ∷ []) c.new-list.ensures) in
    rw list (record { some = lit≤ tt; few = lit≤ tt; kept = (stock_kept c.stock.result e.count e.settle e.banks).endless })
