-- The bank with the least slack, as `min_by_key` picks it out of the banks in their order.
use Rattle.std.proofs.Common.{◌≡◌, ℕ, ◌+◌, ◌<◌, ◌≤◌, List, [], ◌∷◌, Some, sym, refl, ap, ap₂, ◌∙◌, subst, arith, below_more}
use Rattle.std.specs.Fn.{CalledAt}
use Rattle.std.specs.Iterator.{KeyTurn, Yields, PicksMinByKey}
use Rattle.std.specs.Iterator.Adapters.{map_steps}
use Rattle.std.specs.List.{FoldsTo}
use Rattle.std.specs.Ordering.{MatchOrdering, min_by_ordering, nat_cmp}
use Rattle.std.specs.declared.cmp.Ordering.{Ordering}
use Rattle.std.specs.declared.cmp.Ordering.TheVariants.{Less, Equal, Greater}
use Rattle.std.specs.declared.iter.Map.{Map}
use Rattle.std.specs.declared.ops.Range.{Range}
use Rattle.std.proofs.iter.Yields.{nat_range_steps}
use Rattle.std.proofs.lemmas.Cmp.{ranked}
use denote.Param.Members.{Mut, Called}
use denote.Ref.{Bor}
use Rattle.banks.specs.declared.table.BankTable.{BankTable}
use Rattle.accounts.specs.declared.report.BankSlack.{BankSlack}
use Rattle.accounts.specs.Account.{LeastSlack, Slack}
use Rattle.accounts.proofs.Served.{slack_one}

module _ (t : BankTable) (xs : List ℕ) where
  -- the first bank alone
  least_first : (s : ℕ) → Slack t xs 0 s → LeastSlack t xs 1 0 s
  least_first s here = record {
    bank = omega arith;
    slack = here;
    least = below_more (λ i. (k : ℕ) → Slack t xs i k → s ≤ k) 0 (λ i m k y. omega arith) (λ k y. omega (arith, slack_one t xs 0 s k here y));
    lowest = λ i m y. omega arith;
  }

  module _ (n b s v : ℕ) (x : LeastSlack t xs n b s) (here : Slack t xs n v) where
    least_here : v < s → LeastSlack t xs (n + 1) n v
    least_here l = record {
      bank = omega arith;
      slack = here;
      least = below_more (λ i. (k : ℕ) → Slack t xs i k → v ≤ k) n (λ i m k y. omega (arith, x.least i m k y)) (λ k y. omega (arith, slack_one t xs n v k here y));
      lowest = below_more (λ i. Slack t xs i v → n ≤ i) n (λ i m y. omega (arith, x.least i m v y)) (λ y. omega arith);
    }

    least_before : s ≤ v → LeastSlack t xs (n + 1) b s
    least_before l = record {
      bank = omega (arith, x.bank);
      slack = x.slack;
      least = below_more (λ i. (k : ℕ) → Slack t xs i k → s ≤ k) n x.least (λ k y. omega (arith, slack_one t xs n v k here y));
      lowest = below_more (λ i. Slack t xs i s → b ≤ i) n x.lowest (λ y. omega (arith, x.bank));
    }

  -- one bank more: the lesser of two, and the first where they are equal
  least_more : (n : ℕ) (a b : BankSlack) (o : Ordering) → MatchOrdering o (a.slack < b.slack) (a.slack ≡ b.slack) (b.slack < a.slack)
      → LeastSlack t xs n a.bank a.slack → n ≡ b.bank → Slack t xs n b.slack
      → LeastSlack t xs (n + 1) (min_by_ordering o a b).bank (min_by_ordering o a b).slack
  least_more n a b Less l x e here = least_before n a.bank a.slack b.slack x here (omega arith)
  least_more n a b Equal l x e here = least_before n a.bank a.slack b.slack x here (omega arith)
  least_more n a b Greater l x e here = subst (λ (i : ℕ). LeastSlack t xs (n + 1) i b.slack) e (least_here n a.bank a.slack b.slack x here l)

  lesser_slack : (o : Ordering) (a b : BankSlack) → min_by_ordering o a.slack b.slack ≡ (min_by_ordering o a b).slack
  lesser_slack Less a b = refl
  lesser_slack Equal a b = refl
  lesser_slack Greater a b = refl

  -- `make` gives a bank with its slack, and `key` reads the slack
  module _ {F G : Type 0} (make : Mut F (ℕ × Unit {0}) BankSlack) (f : F) (key : Mut G (Bor BankSlack × Unit {0}) ℕ) (h : G)
      (made : (i : ℕ) (b : BankSlack) (q : F) → Called make f (i, tt) b q → (q ≡ f) × (i ≡ b.bank) × Slack t xs i b.slack)
      (keyed : (b : BankSlack) (k : ℕ) (q : G) → CalledAt key h b k q → (q ≡ h) × (k ≡ b.slack)) where
    -- the banks that were looked at are those below the range's start
    record Best (n : ℕ) (s : Map (Range ℕ) F) (p : (G × ℕ) × BankSlack) : Type 0 where
      same : s.f ≡ f
      end : s.iter.end ≡ n
      within : s.iter.start ≤ n
      callee : p.0.0 ≡ h
      least_key : p.0.1 ≡ p.1.slack
      least : LeastSlack t xs s.iter.start p.1.bank p.1.slack

    best_more : (n : ℕ) (s j : Map (Range ℕ) F) (p q : (G × ℕ) × BankSlack) (b : BankSlack) → Best n s p
        → map_steps nat_range_steps make s (Some b) j → KeyTurn min_by_ordering min_by_ordering key nat_cmp p b q → Best n j q
    best_more n s j p q b x step turn =
        let i = step.0 in
        let moved = step.1 in
        let o = turn.1 in
        let new = made i b j.f (subst (λ (v : F). Called make v (i, tt) b j.f) x.same step.2) in
        let read = keyed b turn.0 q.0.0 (subst (λ (v : G). CalledAt key v b turn.0 q.0.0) x.callee turn.2) in
        let at : i ≡ s.iter.start = moved.1.1 in
        let order = ranked p.1.slack b.slack o (sym turn.3 ∙ ap₂ nat_cmp x.least_key read.1) in
        let more = least_more s.iter.start p.1 b o order x.least (sym at ∙ new.1) (subst (λ (k : ℕ). Slack t xs k b.slack) at new.2) in
        record {
          same = new.0;
          end = moved.0 ∙ x.end;
          within = omega (arith, moved.1.0, moved.1.2, x.end);
          callee = read.0;
          least_key = turn.4 ∙ ap₂ (min_by_ordering o) x.least_key read.1 ∙ lesser_slack o p.1 b ∙ ap (λ (v : BankSlack). v.slack) (sym turn.5);
          least = subst (λ (k : ℕ). LeastSlack t xs k q.1.bank q.1.slack) (sym moved.1.2)
              (subst (λ (v : BankSlack). LeastSlack t xs (s.iter.start + 1) v.bank v.slack) (sym turn.5) more);
        }

    best_all : (n : ℕ) (bs : List BankSlack) (s e : Map (Range ℕ) F) (p q : (G × ℕ) × BankSlack) → Best n s p
        → Yields (map_steps nat_range_steps make) s bs e → FoldsTo (KeyTurn min_by_ordering min_by_ordering key nat_cmp) p bs q → Best n e q
    best_all n [] s e p q x y z = subst (λ (m : Map (Range ℕ) F). Best n m q) y (subst (Best n s) z x)
    best_all n (b ∷ bs) s e p q x (j, step, more) (i, turn, rest) = best_all n bs j e i q (best_more n s j p i b x step turn) more rest

    pub least_picked : (n : ℕ) (s : Map (Range ℕ) F) (b : BankSlack) → s.f ≡ f → s.iter.start ≡ 0 → s.iter.end ≡ n
        → PicksMinByKey (map_steps nat_range_steps make) key nat_cmp s h (Some b) → LeastSlack t xs n b.bank b.slack
    least_picked n s b same from to picks =
        let x = picks.0 in
        let run = picks.5.1 in
        let j = run.1.0 in
        let step = run.1.1 in
        let moved = step.1 in
        let new = made step.0 x j.f (subst (λ (v : F). Called make v (step.0, tt) x j.f) same step.2) in
        let read = keyed x picks.2 picks.3 picks.6 in
        let at : step.0 ≡ 0 = moved.1.1 ∙ from in
        let next : 1 ≡ j.iter.start = omega (arith, moved.1.2, from) in
        let first : LeastSlack t xs 1 x.bank x.slack =
        subst (λ (i : ℕ). LeastSlack t xs 1 i x.slack) (sym at ∙ new.1) (least_first x.slack (subst (λ (i : ℕ). Slack t xs i x.slack) at new.2)) in
        let start : Best n j ((picks.3, picks.2), x) = record {
          same = new.0;
          end = moved.0 ∙ to;
          within = omega (arith, moved.1.0, moved.1.2, to);
          callee = read.0;
          least_key = read.1;
          least = subst (λ (i : ℕ). LeastSlack t xs i x.bank x.slack) next first;
        } in
        let best = best_all n picks.1 j run.0 ((picks.3, picks.2), x) (picks.4, b) start run.1.2 picks.7 in
        let all : run.0.iter.start ≡ n = omega (arith, best.within, best.end, run.2.0.1.0) in
        subst (λ (i : ℕ). LeastSlack t xs i b.bank b.slack) all best.least
