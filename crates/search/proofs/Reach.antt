-- Reached states, and states from which nothing endless begins.
use Rattle.std.proofs.Common.{◌≡◌, ℕ, zero, suc, ◌+◌, ◌*◌, ◌<◌, ◌≤◌, true, cond, eqb, List, length, sym, refl, ap, ◌∙◌, subst, ap₂, not-suc-le-zero, mul-le-mul, zero-mul, add-one, arith}
use Rattle.std.proofs.lemmas.Bool.{eq-eqb, ne_eqb}
use Rattle.rig.specs.Meaning.{Meaning, Laws, lawful, after}
use Rattle.rig.specs.Orders.{Order, reached, LawfulTo, again, LawfulForEver}
use Rattle.rig.specs.Checks.{LapRan, lap_state, list_order}
use Rattle.rig.proofs.Runs.{Fresher, fresher_lawful, fresher_onward, fresher_reached, lawful_more, reached_agree, reached_more, reached_proper, rest_fresher}
use Rattle.rig.proofs.Laps.{lap_lawful, lap_zero, laps_more, next_lap}
use Rattle.search.specs.Promises.{NoEndless, Reached}

module _ {S : Type 0} (m : Meaning S) where
  pub reached_rest : Reached m m.rest
  unfolding reached
  reached_rest = record { order = λ _. 0; moves = 0; can = λ k h. absurd (not-suc-le-zero h); ends = refl }

  -- one lawful move more
  pub reached_on : (s : S) (j : ℕ) → Reached m s → lawful m s j ≡ true → Reached m (after m s j)
  reached_on s j r can =
      let n = r.moves in
      let o : Order = λ k. cond (eqb k n) j (r.order k) in
      let below : (k : ℕ) → k < n → o k ≡ r.order k = λ k h. ap (λ b. cond b j (r.order k)) (ne_eqb k n (λ e. omega arith)) in
      let here : o n ≡ j = ap (λ b. cond b j (r.order n)) (eq-eqb n n refl) in
      let to : (k : ℕ) → k ≤ n → reached m m.rest o k ≡ reached m m.rest r.order k = λ k h. reached_agree m m.rest o r.order k (λ i l. below i (omega arith)) in
      let at : reached m m.rest o n ≡ s = to n (omega arith) ∙ sym r.ends in
      let first : LawfulTo m m.rest o n = λ k h. ap₂ (lawful m) (to k (omega arith)) (below k h) ∙ r.can k h in
      record {
        order = o;
        moves = n + 1;
        can = lawful_more m m.rest o n first (ap₂ (lawful m) at here ∙ can);
        ends = sym (reached_more m m.rest o n ∙ ap₂ (after m) at here);
      }

  pub reached_is_proper : Laws m → (s : S) → Reached m s → m.proper s ≡ true
  reached_is_proper laws s r = subst (λ t. m.proper t ≡ true) (sym r.ends) (reached_proper m laws m.rest r.order r.moves laws.rest_proper r.can)

  -- after the first move
  pub reached_front : (s : S) (o : Order) (n : ℕ) → reached m s o (suc n) ≡ reached m (after m s (o 0)) (λ k. o (suc k)) n
  unfolding reached
  reached_front s o zero = refl
  reached_front s o (suc n) = ap (λ t. after m t (o (suc n))) (reached_front s o n)

  -- where every lawful move leads to a state from which nothing endless begins
  pub no_endless_on : (s : S) → ((j : ℕ) → lawful m s j ≡ true → NoEndless m (after m s j)) → NoEndless m s
  unfolding reached
  no_endless_on s h o e = h (o 0) (e 0) (λ k. o (suc k)) (λ k. subst (λ t. lawful m t (o (suc k)) ≡ true) (reached_front s o k) (e (suc k)))

  -- the laps of a round that closes, from rest
  module _ (laws : Laws m) (xs : List ℕ) (s t : S) (proper : m.proper s ≡ true) (runs : LapRan m s xs t) (closes : m.covers t s ≡ true) where
    laps : (n : ℕ) → LawfulTo m m.rest (again xs) (n * length xs) × Fresher m laws (lap_state m xs n) s
    laps zero = (
      λ k h. absurd (not-suc-le-zero (subst (λ i. k < i) (zero-mul (length xs)) h)),
      subst (λ x. Fresher m laws x s) (sym (lap_zero m xs)) (rest_fresher m laws s proper),
    )
    laps (suc n) =
        let before = laps n in
        let lap = fresher_lawful m laws (lap_state m xs n) s (list_order xs) (length xs) before.1 runs.ran in
        let end = fresher_reached m laws (lap_state m xs n) s (list_order xs) (length xs) before.1 runs.ran in
        let at-t : Fresher m laws (lap_state m xs (n + 1)) t = subst (λ x. Fresher m laws x t) (sym (next_lap m xs n)) (subst (λ y. Fresher m laws (reached m (lap_state m xs n) (list_order xs) (length xs)) y) (sym runs.ends) end) in
        let back : Fresher m laws t s = record { first = at-t.second; second = proper; covered = closes } in
        subst (λ k. LawfulTo m m.rest (again xs) (k * length xs) × Fresher m laws (lap_state m xs k) s) (add-one n) (
          subst (LawfulTo m m.rest (again xs)) (laps_more m xs n) (lap_lawful m xs n (length xs) (omega arith) before.0 lap),
          fresher_onward m laws (lap_state m xs (n + 1)) t s at-t back,
        )

    pub closing_for_ever : 0 < length xs → LawfulForEver m xs
    closing_for_ever some = record {
      some_move = some;
      endless = λ k.
          let far : suc k * 1 ≤ suc k * length xs = let same : suc k ≤ suc k = omega arith in mul-le-mul same some in
          (laps (suc k)).0 k (omega (arith, far));
    }
