-- The bank that is due first, as banks are looked at one by one.
use Rattle.std.proofs.Common.{◌≡◌, ℕ, zero, suc, ◌<◌, ◌≤◌, Bool, true, false, not, ◌&&◌, leb, Some, None, Option, unwrap_or, sym, refl, ◌∙◌, subst, ⊎_elim, arith, MatchOption}
use Rattle.std.proofs.lemmas.Bool.{and_from, and_parts, both_ways, cases_Bool, cases_lt, cond-true, cond-false, leb-true, le-leb, not-true, not_from_false}
use Rattle.rig.specs.Sets.{some_below}
use Rattle.rig.proofs.Members.{some_decides}
use Rattle.deadlines.specs.Deadlines.{DueFirst, NoneUntried, earliest_due}

-- what holds below n and at n
below_suc : (P : ℕ → Type 0) (n : ℕ) → ((i : ℕ) → i < n → P i) → P n → (i : ℕ) → i < suc n → P i
below_suc P n below here i h = ⊎_elim (below i) (λ l. let e : n ≡ i = omega arith in subst P e here) (cases_lt i n)

module _ (d : ℕ → ℕ) (u : ℕ → Bool) where
  module _ (n : ℕ) where
    -- bank n is due before all untried banks of lower number
    pub first_new : u n ≡ true → ((i : ℕ) → i < n → u i ≡ true → d n < d i) → DueFirst (suc n) d u n
    first_new x sooner = record {
      bank = omega arith;
      is_untried = x;
      earliest = below_suc (λ i. u i ≡ true → d n ≤ d i) n (λ i h y. omega (arith, sooner i h y)) (λ y. omega arith);
      lowest = below_suc (λ i. u i ≡ true → d i ≡ d n → n ≤ i) n (λ i h y e. omega (arith, sooner i h y)) (λ y e. omega arith);
    }

    -- what is due first below n stays so where bank n is due no earlier
    pub first_old : (b : ℕ) → (u n ≡ true → d b ≤ d n) → DueFirst n d u b → DueFirst (suc n) d u b
    first_old b late f = record {
      bank = omega (arith, f.bank);
      is_untried = f.is_untried;
      earliest = below_suc (λ i. u i ≡ true → d b ≤ d i) n f.earliest late;
      lowest = below_suc (λ i. u i ≡ true → d i ≡ d b → b ≤ i) n f.lowest (λ x e. omega (arith, f.bank));
    }

    pub none_new : u n ≡ false → NoneUntried n u → NoneUntried (suc n) u
    none_new x none = below_suc (λ i. u i ≡ true → ⊥) n none (both_ways (u n) x)

  -- some untried bank of lower number is due as early
  abbrev beaten : ℕ → Bool
  beaten n = some_below n (λ i. u i && leb (d i) (d n))

  abbrev ahead : ℕ → Bool
  ahead n = u n && not (beaten n)

  module _ (n : ℕ) where
    earliest_own : ahead n ≡ true → earliest_due (suc n) d u ≡ n
    unfolding earliest_due
    earliest_own a = cond-true (ahead n) n (earliest_due n d u) a

    earliest_old : ahead n ≡ false → earliest_due (suc n) d u ≡ earliest_due n d u
    unfolding earliest_due
    earliest_old a = cond-false (ahead n) n (earliest_due n d u) a

    ahead_earlier : ahead n ≡ true → (i : ℕ) → i < n → u i ≡ true → d n < d i
    ahead_earlier a i h x =
        ⊎_elim (λ l. l)
        (λ l. absurd (both_ways (beaten n) (not-true (beaten n) (and_parts (u n) (not (beaten n)) a).1)
        ((some_decides (λ k. u k && leb (d k) (d n)) n).1 (i, h, and_from (u i) (leb (d i) (d n)) x (le-leb (d i) (d n) l)))))
        (cases_lt (d n) (d i))

    -- otherwise, if it is untried, an untried bank of lower number is due as early
    not_ahead : ahead n ≡ false → u n ≡ true → (i : ℕ) × (i < n) × (u i ≡ true) × (d i ≤ d n)
    not_ahead a x =
        ⊎_elim
        (λ e.
        let some = (some_decides (λ k. u k && leb (d k) (d n)) n).0 e in
        let both = and_parts (u some.0) (leb (d some.0) (d n)) some.2 in
        (some.0, some.1, both.0, leb-true (d some.0) (d n) both.1))
        (λ e. absurd (both_ways (ahead n) a (and_from (u n) (not (beaten n)) x (not_from_false (beaten n) e))))
        (cases_Bool (beaten n))

    some_lower : ahead n ≡ false → (i : ℕ) → i < suc n → u i ≡ true → (k : ℕ) × (k < n) × (u k ≡ true)
    some_lower a =
        below_suc (λ i. u i ≡ true → (k : ℕ) × (k < n) × (u k ≡ true)) n (λ i h x. (i, h, x))
        (λ x. let low = not_ahead a x in (low.0, low.1, low.2))

  pub earliest_first : (n i : ℕ) → i < n → u i ≡ true → DueFirst n d u (earliest_due n d u)
  earliest_first zero i h x = absurd (omega arith)
  earliest_first (suc n) i h x =
      ⊎_elim
      (λ a. subst (DueFirst (suc n) d u) (sym (earliest_own n a)) (first_new n (and_parts (u n) (not (beaten n)) a).0 (ahead_earlier n a)))
      (λ a.
      let low = some_lower n a i h x in
      let first = earliest_first n low.0 low.1 low.2 in
      subst (DueFirst (suc n) d u) (sym (earliest_old n a))
      (first_old n (earliest_due n d u) (λ y. let early = not_ahead n a y in omega (arith, first.earliest early.0 early.1 early.2, early.3)) first))
      (cases_Bool (ahead n))

  pub earliest_none : (n : ℕ) → NoneUntried n u → earliest_due n d u ≡ 0
  unfolding earliest_due
  earliest_none zero none = refl
  earliest_none (suc n) none =
      ⊎_elim
      (λ a. absurd (none n (omega arith) (and_parts (u n) (not (beaten n)) a).0))
      (λ a. earliest_old n a ∙ earliest_none n (λ i h. none i (omega arith)))
      (cases_Bool (ahead n))

module _ (n : ℕ) (d : ℕ → ℕ) (u : ℕ → Bool) where
  -- only one bank is due first
  first_one : (a b : ℕ) → DueFirst n d u a → DueFirst n d u b → a ≡ b
  first_one a b f g =
      let p = f.earliest b g.bank g.is_untried in
      let q = g.earliest a f.bank f.is_untried in
      omega (arith, f.lowest b g.bank g.is_untried (omega arith), g.lowest a f.bank f.is_untried (omega arith))

  pub chosen_value : (o : Option ℕ) (r : ℕ) → r ≡ unwrap_or o 0 → MatchOption o (NoneUntried n u) (DueFirst n d u) → r ≡ earliest_due n d u
  chosen_value None r e h = e ∙ sym (earliest_none d u n h)
  chosen_value (Some b) r e h = e ∙ first_one b (earliest_due n d u) h (earliest_first d u n b h.bank h.is_untried)

  pub chosen_some : (o : Option ℕ) (r : ℕ) → r ≡ unwrap_or o 0 → MatchOption o (NoneUntried n u) (DueFirst n d u) → (i : ℕ) → i < n → u i ≡ true → DueFirst n d u r
  chosen_some None r e h i k x = absurd (h i k x)
  chosen_some (Some b) r e h i k x = subst (DueFirst n d u) (sym e) h

  pub chosen_none : (o : Option ℕ) (r : ℕ) → r ≡ unwrap_or o 0 → MatchOption o (NoneUntried n u) (DueFirst n d u) → NoneUntried n u → r ≡ 0
  chosen_none None r e h none = e
  chosen_none (Some b) r e h none = absurd (none b h.bank h.is_untried)
