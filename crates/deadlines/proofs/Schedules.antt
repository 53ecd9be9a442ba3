-- An order that meets all deadlines exists exactly when for no bank the dwells due by its deadline take longer than that.
-- Deadlines d and dwells w are functions of the bank, below n.
use Rattle.std.proofs.Common.{◌≡◌, ℕ, zero, suc, ◌<◌, ◌≤◌, Bool, true, false, cond, eqb, ltb, leb, ◌⊎◌, Decides, sym, refl, ap, ◌∙◌, subst, inl, inr, ⊎_elim, arith}
use Rattle.std.proofs.lemmas.Bool.{cases_Bool, cases_lt, cond-true, cond-false, eq-eqb, ne_eqb, le-leb, lt-leb, ltb-true, lt-ltb, both_ways}
use Rattle.std.proofs.lemmas.Bool.Decides.{Decides-like}
use Rattle.banks.specs.declared.table.BankTable.{BankTable}
use Rattle.banks.specs.Places.{sum_below}
use Rattle.banks.specs.Table.{dwell}
use Rattle.banks.proofs.Below.{sum_le}
use Rattle.rig.proofs.Members.{some_decides}
use Rattle.deadlines.specs.Deadlines.{due_sum, some_overrun, Hopeless, EachOnce, NoneMeets, SomeMeets}
use Rattle.banks.proofs.Below.{sum_none}
use Rattle.deadlines.proofs.Subsets.{sum_agree, sum_next, sum_ones, sum_of, without, without_parts, without_from, sum_without, sum_none_of, counts_none}

-- an order of as many places as a set has members, all of them members, leaves out none of the sum
module _ (n : ℕ) (o g : ℕ → ℕ) where
  pub sum_placed : (m : ℕ) (s : ℕ → Bool) → ((k : ℕ) → k < m → o k < n) → ((j k : ℕ) → j < k → k < m → o j ≡ o k → ⊥) → ((k : ℕ) → k < m → s (o k) ≡ true) → sum_of n s (λ _. 1) ≤ m → sum_of n s g ≤ sum_below m (λ k. g (o k))
  sum_placed zero s bank once member few =
      omega (arith, sum_none_of n s g (counts_none n s (omega arith)))
  sum_placed (suc m) s bank once member few =
      let last : o m < n = bank m (omega arith) in
      let own : s (o m) ≡ true = member m (omega arith) in
      let rest =
      sum_placed m (without s (o m)) (λ k h. bank k (omega arith)) (λ j k l h. once j k l (omega arith))
      (λ k h. without_from s (o m) (o k) (member k (omega arith)) (once k m h (omega arith)))
      (omega (arith, sum_without s (o m) (λ _. 1) n last own)) in
      omega (arith, rest, sum_without s (o m) g n last own, sum_next (λ k. g (o k)) m)

module _ (n : ℕ) (d w : ℕ → ℕ) where
  -- the dwells due by a tick
  abbrev due : ℕ → ℕ → ℕ
  due by i = cond (leb (d i) by) (w i) 0

  due_le : (by i : ℕ) → due by i ≤ w i
  due_le by i = ⊎_elim (λ x. omega (arith, cond-true (leb (d i) by) (w i) 0 x)) (λ x. omega (arith, cond-false (leb (d i) by) (w i) 0 x)) (cases_Bool (leb (d i) by))

  -- if an order meets the deadlines, the dwells in it that are due by a tick take no longer
  due_within : (o : ℕ → ℕ) (by m : ℕ) → ((k : ℕ) → k < m → sum_below (suc k) (λ j. w (o j)) ≤ d (o k)) → sum_below m (λ k. due by (o k)) ≤ by
  due_within o by zero meets = omega (arith, sum_none (λ k. due by (o k)))
  due_within o by (suc m) meets =
      ⊎_elim
      (λ late.
      omega (arith, due_within o by m (λ k h. meets k (omega arith)), sum_next (λ k. due by (o k)) m, cond-false (leb (d (o m)) by) (w (o m)) 0 (lt-leb (d (o m)) by late)))
      (λ soon. omega (arith, sum_le (λ k. due by (o k)) (λ k. w (o k)) (suc m) (λ k _. due_le by (o k)), meets m (omega arith)))
      (cases_lt by (d (o m)))

  pub over_never : (i : ℕ) → d i < sum_below n (due (d i)) → (o : ℕ → ℕ) → EachOnce n o → ((k : ℕ) → k < n → sum_below (suc k) (λ j. w (o j)) ≤ d (o k)) → ⊥
  over_never i over o each meets =
      omega (
        arith,
        over,
        sum_placed n o (due (d i)) n (λ _. true) each.bank each.once (λ k _. refl) (omega (arith, sum_ones n)),
        due_within o (d i) n meets,
      )

  -- the member of a set with the greatest deadline
  record Latest (s : ℕ → Bool) (m : ℕ) : Type 0 where
    pub bank : ℕ
    pub below : bank < m
    pub member : s bank ≡ true
    pub latest : (i : ℕ) → i < m → s i ≡ true → d i ≤ d bank

  module _ (s : ℕ → Bool) where
    latest_more : (m : ℕ) → s m ≡ true → (Latest s m ⊎ ((i : ℕ) → i < m → s i ≡ true → ⊥)) → Latest s (suc m)
    latest_more m here (inl old) =
        ⊎_elim
        (λ l. record {
          bank = m;
          below = omega arith;
          member = here;
          latest = λ i h x. ⊎_elim (λ k. omega (arith, old.latest i k x)) (λ k. let e : i ≡ m = omega arith in omega (arith, ap d e)) (cases_lt i m);
        })
        (λ l. record {
          bank = old.bank;
          below = omega (arith, old.below);
          member = old.member;
          latest = λ i h x. ⊎_elim (λ k. old.latest i k x) (λ k. let e : i ≡ m = omega arith in omega (arith, ap d e)) (cases_lt i m);
        })
        (cases_lt (d old.bank) (d m))
    latest_more m here (inr none) = record {
      bank = m;
      below = omega arith;
      member = here;
      latest = λ i h x. ⊎_elim (λ k. absurd (none i k x)) (λ k. let e : i ≡ m = omega arith in omega (arith, ap d e)) (cases_lt i m);
    }

    latest_past : (m : ℕ) → s m ≡ false → (Latest s m ⊎ ((i : ℕ) → i < m → s i ≡ true → ⊥)) → Latest s (suc m) ⊎ ((i : ℕ) → i < suc m → s i ≡ true → ⊥)
    latest_past m out (inl old) = inl (record {
      bank = old.bank;
      below = omega (arith, old.below);
      member = old.member;
      latest = λ i h x. ⊎_elim (λ k. old.latest i k x) (λ k. let e : i ≡ m = omega arith in absurd (both_ways (s m) out (subst (λ (j : ℕ). s j ≡ true) e x))) (cases_lt i m);
    })
    latest_past m out (inr none) = inr (λ i h x. ⊎_elim (λ k. none i k x) (λ k. let e : i ≡ m = omega arith in both_ways (s m) out (subst (λ (j : ℕ). s j ≡ true) e x)) (cases_lt i m))

    find_latest : (m : ℕ) → Latest s m ⊎ ((i : ℕ) → i < m → s i ≡ true → ⊥)
    find_latest zero = inr (λ i h x. omega arith)
    find_latest (suc m) = ⊎_elim (λ here. inl (latest_more m here (find_latest m))) (λ out. latest_past m out (find_latest m)) (cases_Bool (s m))

  -- an order of the m members of a set that meets their deadlines
  pub record Placed (m : ℕ) (s : ℕ → Bool) : Type 0 where
    pub order : ℕ → ℕ
    pub bank : (k : ℕ) → k < m → order k < n
    pub member : (k : ℕ) → k < m → s (order k) ≡ true
    pub once : (j k : ℕ) → j < k → k < m → order j ≡ order k → ⊥
    pub in_time : (k : ℕ) → k < m → sum_below (suc k) (λ j. w (order j)) ≤ d (order k)
    pub whole : sum_below m (λ j. w (order j)) ≡ sum_of n s w

  -- the member with the greatest deadline goes last, the others before it
  module _ (s : ℕ → Bool) (m b : ℕ) (below : b < n) (own : s b ≡ true) (p : Placed m (without s b)) (fits : sum_of n s w ≤ d b) where
    abbrev longer : ℕ → ℕ
    longer k = cond (eqb k m) b (p.order k)

    at_last : longer m ≡ b
    at_last = cond-true (eqb m m) b (p.order m) (eq-eqb m m refl)

    at_before : (k : ℕ) → k < m → longer k ≡ p.order k
    at_before k h = cond-false (eqb k m) b (p.order k) (ne_eqb k m (λ e. omega arith))

    ends_before : (k : ℕ) → k ≤ m → sum_below k (λ j. w (longer j)) ≡ sum_below k (λ j. w (p.order j))
    ends_before k h = sum_agree (λ j. w (longer j)) (λ j. w (p.order j)) k (λ j l. ap w (at_before j (omega arith)))

    ends_last : sum_below (suc m) (λ j. w (longer j)) ≡ sum_of n s w
    ends_last = omega (arith, sum_next (λ j. w (longer j)) m, ends_before m (omega arith), p.whole, ap w at_last, sum_without s b w n below own)

    -- what holds before the last place and at it
    each_place : (P : ℕ → Type 0) → P m → ((k : ℕ) → k < m → P k) → (k : ℕ) → k < suc m → P k
    each_place P last before k h = ⊎_elim (before k) (λ l. let e : m ≡ k = omega arith in subst P e last) (cases_lt k m)

    before_member : (k : ℕ) → k < m → (s (p.order k) ≡ true) × (p.order k ≡ b → ⊥)
    before_member k h = without_parts s b (p.order k) (p.member k h)

    placed_last : Placed (suc m) s
    placed_last = record {
      order = longer;
      bank = each_place (λ k. longer k < n) (omega (arith, at_last)) (λ k h. omega (arith, at_before k h, p.bank k h));
      member = each_place (λ k. s (longer k) ≡ true) (ap s at_last ∙ own) (λ k h. ap s (at_before k h) ∙ (before_member k h).0);
      once = λ j k l h. each_place (λ i. j < i → longer j ≡ longer i → ⊥)
          (λ x e. (before_member j x).1 (sym (at_before j x) ∙ e ∙ at_last))
          (λ i y x e. p.once j i x y (sym (at_before j (omega arith)) ∙ e ∙ at_before i y))
          k h l;
      in_time = each_place (λ k. sum_below (suc k) (λ j. w (longer j)) ≤ d (longer k)) (omega (arith, ends_last, ap d at_last))
          (λ k h. omega (arith, ends_before (suc k) (omega arith), p.in_time k h, ap d (at_before k h)));
      whole = ends_last;
    }

  module _ (fit : (i : ℕ) → i < n → sum_below n (due (d i)) ≤ d i) where
    -- all of a set is due by its greatest deadline
    set_fits : (s : ℕ → Bool) (l : Latest s n) → sum_of n s w ≤ d l.bank
    set_fits s l =
        let each : (i : ℕ) → i < n → cond (s i) (w i) 0 ≤ due (d l.bank) i =
        λ i h. ⊎_elim
        (λ x. omega (arith, cond-true (s i) (w i) 0 x, cond-true (leb (d i) (d l.bank)) (w i) 0 (le-leb (d i) (d l.bank) (l.latest i h x))))
        (λ x. omega (arith, cond-false (s i) (w i) 0 x))
        (cases_Bool (s i)) in
        omega (arith, sum_le (λ i. cond (s i) (w i) 0) (due (d l.bank)) n each, fit l.bank l.below)

    place : (m : ℕ) (s : ℕ → Bool) → sum_of n s (λ _. 1) ≡ m → Placed m s
    place zero s e = record {
      order = λ _. 0;
      bank = λ k h. absurd (omega arith);
      member = λ k h. absurd (omega arith);
      once = λ j k l h. absurd (omega arith);
      in_time = λ k h. absurd (omega arith);
      whole = sum_none (λ _. w 0) ∙ sym (sum_none_of n s w (counts_none n s e));
    }
    place (suc m) s e =
        ⊎_elim
        (λ l.
        let fewer : sum_of n (without s l.bank) (λ _. 1) ≡ m = omega (arith, e, sum_without s l.bank (λ _. 1) n l.below l.member) in
        placed_last s m l.bank l.below l.member (place m (without s l.bank) fewer) (set_fits s l))
        (λ none. absurd (omega (arith, e, sum_none_of n s (λ _. 1) none)))
        (find_latest s n)

    pub place_all : Placed n (λ _. true)
    place_all = place n (λ _. true) (sum_ones n)

module _ (t : BankTable) (d : ℕ → ℕ) where
  pub overrun_decides : Decides (some_overrun t d) (Hopeless t d)
  overrun_decides =
      let test : ℕ → Bool = λ i. ltb (d i) (due_sum t d (d i)) in
      Decides-like (some_overrun t d)
      (λ h. record { bank = h.0; within = h.1; over = ltb-true (d h.0) (due_sum t d (d h.0)) h.2 })
      (λ h. (h.bank, h.within, lt-ltb (d h.bank) (due_sum t d (d h.bank)) h.over))
      (some_decides test t.count)

  pub hopeless_never : Hopeless t d → NoneMeets t d
  hopeless_never h o m = over_never t.count d (dwell t) h.bank h.over o m.all m.by_deadline

  pub hopeful_meets : (Hopeless t d → ⊥) → SomeMeets t d
  hopeful_meets hope =
      let fit : (i : ℕ) → i < t.count → due_sum t d (d i) ≤ d i =
      λ i h. ⊎_elim (λ over. absurd (hope (record { bank = i; within = h; over = over }))) (λ x. x) (cases_lt (d i) (due_sum t d (d i))) in
      let p = place_all t.count d (dwell t) fit in
      record { order = p.order; meets = record { all = record { bank = p.bank; once = p.once }; by_deadline = p.in_time } }

  pub never_decides : (r : Bool) → Decides r (Hopeless t d) → Decides r (NoneMeets t d)
  never_decides r h = (
    λ e. hopeless_never (h.0 e),
    λ never. ⊎_elim (λ x. x) (λ x. let some = hopeful_meets (λ y. both_ways r x (h.1 y)) in absurd (never some.order some.meets)) (cases_Bool r),
  )
