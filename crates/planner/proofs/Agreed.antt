-- What a search on a reader says in ticks.
use Rattle.std.proofs.Common.{◌≡◌, ℕ, List, sym, ◌∙◌}
use Rattle.rig.specs.Orders.{Order, LawfulForEver, again}
use Rattle.banks.specs.declared.table.BankTable.{BankTable}
use Rattle.readers.specs.Panelled.{panelled, rest_state}
use Rattle.readers.specs.Plain.{plain, plain_rest}
use Rattle.readers.specs.Ticks.{Regular}
use Rattle.readers.proofs.Served.{lawful_is_regular}
use Rattle.readers.proofs.Unsettled.{readers_agree}
use Rattle.search.specs.Promises.{NoEndless}

module _ (t : BankTable) where
  pub none_on_panelled : NoEndless (panelled t) rest_state → (o : Order) → Regular t o → ⊥
  none_on_panelled none o regular = none o ((lawful_is_regular t o).1 regular)

  module _ (unsettled : t.settle ≡ 0) where
    pub none_on_plain : NoEndless (plain t) plain_rest → (o : Order) → Regular t o → ⊥
    none_on_plain none o regular = none o (λ k. readers_agree t unsettled o k ∙ (lawful_is_regular t o).1 regular k)

    pub round_on_plain : (xs : List ℕ) → LawfulForEver (plain t) xs → LawfulForEver (panelled t) xs
    round_on_plain xs h = record { some_move = h.some_move; endless = λ k. sym (readers_agree t unsettled (again xs) k) ∙ h.endless k }
