-- From a search for a sheet to the answer, in ticks.
use Rattle.std.proofs.Common.{◌≡◌, ℕ, refl, ap, ◌∙◌, subst}
use Rattle.rig.specs.Orders.{LawfulForEver, Order}
use Rattle.sheets.specs.declared.sheet.Sheet.{Sheet}
use Rattle.banks.specs.declared.table.BankTable.{BankTable}
use Rattle.banks.specs.FromSheet.{TableOf}
use Rattle.banks.proofs.SheetBanks.{one_table_of}
use Rattle.readers.specs.Panelled.{guided_panelled, panelled}
use Rattle.readers.specs.Plain.{guided_plain, plain}
use Rattle.readers.specs.Ticks.{Regular}
use Rattle.readers.proofs.Served.{lawful_is_regular}
use Rattle.rounds.specs.declared.record.RoundRecord.{RoundRecord}
use Rattle.listings.specs.declared.finding.Finding.{Finding}
use Rattle.listings.specs.declared.finding.Finding.TheVariants.{NoRound, Round}
use Rattle.listings.specs.Findings.{verdict_of}
use Rattle.running.specs.Told.{order_of, reply_at}
use Rattle.running.proofs.SwapsRead.{no_swap_missed}
use Rattle.planner.specs.Answers.{Answers, AnswersOn, ServesSheet}
use Rattle.planner.proofs.Agreed.{none_on_panelled, none_on_plain, round_on_plain}

module _ (s : Sheet) (t : BankTable) (own : TableOf s t) where
  -- what is found on a reader of the sheet's table is so on the panelled reader of the sheet's table
  pub panelled_serves : ServesSheet s (panelled t)
  panelled_serves u its xs h = subst (λ w. LawfulForEver (panelled w) xs) (one_table_of s t u own its) h

  pub plain_serves : s.settle ≡ 0 → ServesSheet s (plain t)
  plain_serves unsettled u its xs h = panelled_serves u its xs (round_on_plain t (own.settle ∙ unsettled) xs h)

  module _ (f : Finding RoundRecord) (visits : ℕ) where
    answered : (s.settle ≡ 0 → AnswersOn s (guided_plain t) f visits) → ((s.settle ≡ 0 → ⊥) → AnswersOn s (guided_panelled t) f visits) → (f ≡ NoRound → (o : Order) → Regular t o → ⊥) → ((r : RoundRecord) → f ≡ Round r → TableOf s r.table) → Answers s f visits
    answered plainly settling none its =
        let same : (r : RoundRecord) → f ≡ Round r → r.table ≡ t = λ r is. one_table_of s r.table t (its r is) own in
        record {
          table = t;
          of_sheet = own;
          unsettled = plainly;
          settling = settling;
          none = none;
          for_sheet = same;
          regular = λ r is. subst (λ u. Regular u (order_of r)) (same r is) ((lawful_is_regular r.table (order_of r)).0 r.kept);
          swaps = λ r is. no_swap_missed r (reply_at r) (λ n. refl) s (its r is);
        }

    pub answered_plain : s.settle ≡ 0 → AnswersOn s (guided_plain t) f visits → Answers s f visits
    answered_plain unsettled h =
        answered (λ _. h) (λ settles. absurd (settles unsettled))
        (λ is. none_on_plain t (own.settle ∙ unsettled) (h.search.promised.none_is_true (h.search.verdict ∙ ap verdict_of is)))
        h.for_sheet

    pub answered_panelled : (s.settle ≡ 0 → ⊥) → AnswersOn s (guided_panelled t) f visits → Answers s f visits
    answered_panelled settles h =
        answered (λ unsettled. absurd (settles unsettled)) (λ _. h)
        (λ is. none_on_panelled t (h.search.promised.none_is_true (h.search.verdict ∙ ap verdict_of is)))
        h.for_sheet
