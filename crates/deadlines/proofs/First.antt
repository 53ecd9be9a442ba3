-- The bank that is due first, as a chain over the banks' numbers and deadlines finds it.
use Rattle.std.proofs.Common.{◌≡◌, ℕ, zero, suc, ◌+◌, ◌<◌, ◌≤◌, Bool, true, false, cond, ltb, List, [], ◌∷◌, length, map, Option, Some, None, Ordering, MatchOption, sym, refl, ap, ◌∙◌, subst, add-one, add-zero, arith}
use Rattle.std.specs.Option.{IsSomeAnd}
use Rattle.std.specs.Ordering.{nat_cmp, min_by_ordering}
use Rattle.std.specs.declared.cmp.Ordering.TheVariants.{Less, Equal, Greater}
use Rattle.std.specs.Fn.{CalledAt}
use Rattle.std.specs.Iterator.{Drains, KeyTurn, PicksMinByKey}
use Rattle.std.specs.List.{FoldsTo, filter, range_with_len, zip}
use Rattle.std.proofs.lemmas.Bool.{both_ways, cond-true, cond-false, le-ltb, lt-ltb, ltb-true, ltb-false}
use Rattle.std.proofs.lemmas.Cmp.{ranked}
use Rattle.std.proofs.lemmas.Iterator.{YieldsList, items_from_drains}
use denote.Ref.{Bor}
use denote.Param.Members.{Mut}
use Rattle.banks.specs.Places.{age_at}
use Rattle.deadlines.specs.Deadlines.{DueFirst, NoneUntried}
use Rattle.deadlines.proofs.Chosen.{first_new, first_old, none_new}

-- of numbers with their deadlines, the first with the least deadline
abbrev best : ℕ × ℕ → List (ℕ × ℕ) → ℕ × ℕ
best p [] = p
best p (q ∷ qs) = best (cond (ltb q.1 p.1) q p) qs

-- what `min_by_key` picks where the key is the deadline
module _ {A F : Type 0} (g : Mut F (Bor A × Unit {0}) ℕ) (f : F) (w : A → ℕ × ℕ) (answers : (x : A) (k : ℕ) (q : F) → CalledAt g f x k q → (q ≡ f) × (k ≡ (w x).1)) where
  turn_best : (o : Ordering) (k l m : ℕ) (x z y : A) → o ≡ nat_cmp k l → k ≡ (w x).1 → l ≡ (w z).1 → m ≡ min_by_ordering o k l → y ≡ min_by_ordering o x z → (m ≡ (w y).1) × (w y ≡ cond (ltb (w z).1 (w x).1) (w z) (w x))
  turn_best Less k l m x z y o kx lz mm yy =
      let less : k < l = ranked k l Less o in
      (mm ∙ kx ∙ ap (λ v. (w v).1) (sym yy), ap w yy ∙ sym (cond-false (ltb (w z).1 (w x).1) (w z) (w x) (le-ltb (w z).1 (w x).1 (omega arith))))
  turn_best Equal k l m x z y o kx lz mm yy =
      let same : k ≡ l = ranked k l Equal o in
      (mm ∙ kx ∙ ap (λ v. (w v).1) (sym yy), ap w yy ∙ sym (cond-false (ltb (w z).1 (w x).1) (w z) (w x) (le-ltb (w z).1 (w x).1 (omega arith))))
  turn_best Greater k l m x z y o kx lz mm yy =
      let more : l < k = ranked k l Greater o in
      (mm ∙ lz ∙ ap (λ v. (w v).1) (sym yy), ap w yy ∙ sym (cond-true (ltb (w z).1 (w x).1) (w z) (w x) (lt-ltb (w z).1 (w x).1 (omega arith))))

  turns_best : (p : (F × ℕ) × A) (xs : List A) (e : (F × ℕ) × A) → p.0.0 ≡ f → p.0.1 ≡ (w p.1).1
      → FoldsTo (KeyTurn min_by_ordering min_by_ordering g nat_cmp) p xs e → w e.1 ≡ best (w p.1) (map w xs)
  turns_best p [] e pf pk h = ap (λ v. w v.1) (sym h)
  turns_best p (z ∷ xs) e pf pk h =
      let j = h.0 in
      let turn = h.1 in
      let called = answers z turn.0 j.0.0 (subst (λ (q : F). CalledAt g q z turn.0 j.0.0) pf turn.2) in
      let step = turn_best turn.1 p.0.1 turn.0 j.0.1 p.1 z j.1 (sym turn.3) pk called.1 turn.4 turn.5 in
      turns_best j xs e called.0 step.0 h.2 ∙ ap (λ v. best v (map w xs)) step.1

module _ (d : ℕ → ℕ) (u : ℕ → Bool) where
  module _ (a : ℕ) where
    module _ (l : ℕ) (due : l ≡ d a) where
      -- the better of the best so far and bank a
      better : (t : Bool) (p : ℕ × ℕ) → ltb l p.1 ≡ t → u a ≡ true → p.1 ≡ d p.0 → DueFirst a d u p.0
          → ((cond t (a, l) p).1 ≡ d (cond t (a, l) p).0) × DueFirst (suc a) d u (cond t (a, l) p).0
      better true p e x pd f = (due, first_new d u a x (λ i h y. omega (arith, ltb-true l p.1 e, f.earliest i h y)))
      better false p e x pd f = (pd, first_old d u a p.0 (λ y. omega (arith, ltb-false l p.1 e)) f)

      module _ (rest : List (ℕ × ℕ)) (m : ℕ) (go : (q : ℕ × ℕ) → q.1 ≡ d q.0 → DueFirst (suc a) d u q.0 → DueFirst m d u (best q rest).0) where
        best_more : (v : Bool) (p : ℕ × ℕ) → u a ≡ v → p.1 ≡ d p.0 → DueFirst a d u p.0 → DueFirst m d u (best p (cond v ((a, l) ∷ rest) rest)).0
        best_more true p x pd f =
            let step = better (ltb l p.1) p refl x pd f in
            go (cond (ltb l p.1) (a, l) p) step.0 step.1
        best_more false p x pd f = go p pd (first_old d u a p.0 (λ y. absurd (both_ways (u a) x y)) f)

  -- the untried banks among the n from a on, with their deadlines
  abbrev pub untried_due : ℕ → ℕ → List ℕ → List (ℕ × ℕ)
  untried_due a n ds = filter (λ q. u q.0) (zip (range_with_len a n) ds)

  best_first : (n a : ℕ) (ds : List ℕ) (p : ℕ × ℕ) → ((k : ℕ) → k < n → age_at ds k ≡ d (a + k)) → n ≤ length ds → p.1 ≡ d p.0 → DueFirst a d u p.0
      → DueFirst (a + n) d u (best p (untried_due a n ds)).0
  best_first zero a ds p at long pd f = subst (λ (m : ℕ). DueFirst m d u p.0) (sym (add-zero a)) f
  best_first (suc n) a [] p at long pd f = absurd (omega arith)
  best_first (suc n) a (l ∷ ds) p at long pd f =
      best_more a l (at 0 (omega arith) ∙ ap d (add-zero a)) (untried_due (a + 1) n ds) (a + suc n)
      (λ q qd h.
      let e : a + 1 + n ≡ a + suc n = omega arith in
      subst (λ (m : ℕ). DueFirst m d u (best q (untried_due (a + 1) n ds)).0) e
      (best_first n (a + 1) ds q (λ k s. at (suc k) (omega arith) ∙ ap d (let same : a + suc k ≡ a + 1 + k = omega arith in same)) (omega arith) qd (subst (λ (m : ℕ). DueFirst m d u q.0) (sym (add-one a)) h)))
      (u a) p refl pd f

  -- the first of them is due first below m, and where there are none no bank below m is untried
  abbrev Found : ℕ → List (ℕ × ℕ) → Type 0
  Found m [] = NoneUntried m u
  Found m (q ∷ qs) = DueFirst m d u (best q qs).0

  found_more : (v : Bool) (q : ℕ × ℕ) (rest : List (ℕ × ℕ)) (m : ℕ) → (v ≡ true → DueFirst m d u (best q rest).0) → (v ≡ false → Found m rest) → Found m (cond v (q ∷ rest) rest)
  found_more true q rest m here later = here refl
  found_more false q rest m here later = later refl

  pub found : (n a : ℕ) (ds : List ℕ) → ((k : ℕ) → k < n → age_at ds k ≡ d (a + k)) → n ≤ length ds → NoneUntried a u → Found (a + n) (untried_due a n ds)
  found zero a ds at long none = subst (λ (m : ℕ). NoneUntried m u) (sym (add-zero a)) none
  found (suc n) a [] at long none = absurd (omega arith)
  found (suc n) a (l ∷ ds) at long none =
      let e : a + 1 + n ≡ a + suc n = omega arith in
      let due : l ≡ d a = at 0 (omega arith) ∙ ap d (add-zero a) in
      let later : (k : ℕ) → k < n → age_at ds k ≡ d (a + 1 + k) = λ k s. at (suc k) (omega arith) ∙ ap d (let same : a + suc k ≡ a + 1 + k = omega arith in same) in
      found_more (u a) (a, l) (untried_due (a + 1) n ds) (a + suc n)
      (λ x. subst (λ (m : ℕ). DueFirst m d u (best (a, l) (untried_due (a + 1) n ds)).0) e (best_first n (a + 1) ds (a, l) later (omega arith) due (subst (λ (m : ℕ). DueFirst m d u a) (sym (add-one a)) (first_new d u a x (λ i h y. absurd (none i h y))))))
      (λ x. subst (λ (m : ℕ). Found m (untried_due (a + 1) n ds)) e (found n (a + 1) ds later (omega arith) (subst (λ (m : ℕ). NoneUntried m u) (sym (add-one a)) (none_new d u a x none))))

  -- so what `min_by_key` picks of the chain is due first
  module _ {S A F : Type 0} {steps : S → Option A → S → Type 0} (g : Mut F (Bor A × Unit {0}) ℕ) {f : F} {s : S} (w : A → ℕ × ℕ) (n : ℕ) (ds : List ℕ)
      (gives : YieldsList steps w s (untried_due 0 n ds)) (answers : (x : A) (k : ℕ) (q : F) → CalledAt g f x k q → (q ≡ f) × (k ≡ (w x).1))
      (at : (k : ℕ) → k < n → age_at ds k ≡ d k) (long : n ≤ length ds) (P : A → ℕ → Type 0) (number : (x : A) (i : ℕ) → P x i → i ≡ (w x).0) where
    found_whole : Found n (untried_due 0 n ds)
    found_whole =
        let e : 0 + n ≡ n = omega arith in
        subst (λ (m : ℕ). Found m (untried_due 0 n ds)) e
        (found n 0 ds (λ k h. at k h ∙ ap d (let same : k ≡ 0 + k = omega arith in same)) long (λ i h x. absurd (omega arith)))

    listed : (xs : List A) → Drains steps s xs → Found n (map w xs)
    listed xs h = subst (Found n) (sym (items_from_drains xs (h.1.0, h.1.1, λ _. (h.0, h.1.2)) gives)) found_whole

    pub picked : (r : Option A) (o : Option ℕ) → PicksMinByKey steps g nat_cmp s f r → MatchOption r (o ≡ None) (λ x. IsSomeAnd o (P x))
        → MatchOption o (NoneUntried n u) (DueFirst n d u)
    picked None None h e = listed [] h
    picked None (Some i) h e = absurd (cc e)
    picked (Some y) None h e = absurd e
    picked (Some y) (Some i) h e =
        let x = h.0 in
        let xs = h.1 in
        let same : w y ≡ best (w x) (map w xs) = turns_best g f w answers ((h.3, h.2), x) xs (h.4, y) (answers x h.2 h.3 h.6).0 (answers x h.2 h.3 h.6).1 h.7 in
        subst (DueFirst n d u) (ap (λ v. v.0) (sym same) ∙ sym (number y i e)) (listed (x ∷ xs) h.5)
