-- The best value among the feeders of a bank, feeder by feeder.
use Rattle.std.proofs.Common.{◌≡◌, ℕ, zero, suc, ◌+◌, ◌<◌, ◌≤◌, Bool, true, false, cond, eqb, ltb, ◌⊎◌, List, [], ◌∷◌, length, get_or, take, count_by, fold, filter, add-one, sym, refl, ap, ◌∙◌, subst, inl, inr, ⊎_elim, not-suc-le-zero, arith, below_more}
use Rattle.std.proofs.lemmas.Bool.{cases_Bool, cond-true, cond-false, true≢false, ltb-true, ltb-false, lt-ltb, eqb-true, eqb-false}
use Rattle.std.proofs.lemmas.List.{length-take}
use Rattle.std.proofs.lemmas.List.Elements.{filter_more}
use Rattle.std.proofs.lemmas.List.Sums.{count_by-le-length, fold-append}
use Rattle.sheets.specs.declared.feeder.Feeder.{Feeder}
use Rattle.sheets.specs.declared.sheet.needs.BankNeeds.{BankNeeds}
use Rattle.sheets.specs.Limits.{most_swap}
use Rattle.sheets.specs.Feeders.{no_feeder, feeder_at, allowance, NoneIn}
use Rattle.sheets.specs.declared.sheet.Sheet.{Sheet}
use Rattle.sheets.specs.Needs.{SetBy, grown, NeedsOf}

-- An order of values: which is no worse than which, and a test whether one is better.
pub record Order (no-worse : ℕ → ℕ → Type 0) (better : ℕ → ℕ → Bool) : Type 0 where
  pub same : (a : ℕ) → no-worse a a
  pub through : (a b c : ℕ) → better a b ≡ true → no-worse b c → no-worse a c
  pub takes : (a b : ℕ) → better a b ≡ true → no-worse b a → ⊥
  pub keeps : (a b : ℕ) → better a b ≡ false → no-worse b a

-- The best among the first n feeders: none is in the bank, and it is where it started; or some feeder set it.
abbrev pub BestTo : (no-worse : ℕ → ℕ → Type 0) (value : Feeder → ℕ) (start : ℕ) (fs : List Feeder) (bank n best number : ℕ) → Type 0
BestTo no-worse value start fs bank n best number = (NoneIn fs n bank × (best ≡ start)) ⊎ SetBy no-worse value fs n bank best number

module _ (no-worse : ℕ → ℕ → Type 0) (better : ℕ → ℕ → Bool) (o : Order no-worse better) (value : Feeder → ℕ) (start : ℕ) (fs : List Feeder) (bank : ℕ) where
  abbrev To : (n best number : ℕ) → Type 0
  To = BestTo no-worse value start fs bank

  pub best_none : (number : ℕ) → To 0 start number
  best_none number = inl (λ k h. absurd (not-suc-le-zero h), refl)

  -- a feeder of another bank
  pub best_other : (n best number : ℕ) → ((feeder_at fs n).bank ≡ bank → ⊥) → To n best number → To (n + 1) best number
  best_other n best number other (inl h) = inl (below_more (λ k. (feeder_at fs k).bank ≡ bank → ⊥) n h.0 other, h.1)
  best_other n best number other (inr h) = inr (record {
    place = h.place;
    within = let w = h.within in omega arith;
    there = h.there;
    has = h.has;
    named = h.named;
    first = h.first;
    each = below_more (λ k. (feeder_at fs k).bank ≡ bank → no-worse best (value (feeder_at fs k))) n h.each (λ e. absurd (other e));
  })

  module _ (n best number : ℕ) (there : (feeder_at fs n).bank ≡ bank) where
    v : ℕ
    v = value (feeder_at fs n)

    -- a feeder that is better than all before it
    takes_over : better v best ≡ true → To n best number → SetBy no-worse value fs (n + 1) bank v (feeder_at fs n).number
    unfolding v
    takes_over wins before = record {
      place = n;
      within = omega arith;
      there = there;
      has = refl;
      named = refl;
      first = ⊎_elim (λ none k l e _. none.0 k l e) (λ h k l e q. o.takes v best wins (subst (no-worse best) q (h.each k l e))) before;
      each = below_more (λ k. (feeder_at fs k).bank ≡ bank → no-worse v (value (feeder_at fs k))) n
          (λ k l e. ⊎_elim (λ none. absurd (none.0 k l e)) (λ h. o.through v best (value (feeder_at fs k)) wins (h.each k l e)) before)
          (λ _. o.same v);
    }

    -- a feeder that is no better
    stays : better v best ≡ false → better v start ≡ true → To n best number → SetBy no-worse value fs (n + 1) bank best number
    unfolding v
    stays loses first (inl h) = absurd (true≢false (sym first ∙ ap (better v) (sym h.1) ∙ loses))
    stays loses first (inr h) = record {
      place = h.place;
      within = let w = h.within in omega arith;
      there = h.there;
      has = h.has;
      named = h.named;
      first = h.first;
      each = below_more (λ k. (feeder_at fs k).bank ≡ bank → no-worse best (value (feeder_at fs k))) n h.each (λ _. o.keeps v best loses);
    }

    pub best_more : (best' number' : ℕ) → better (value (feeder_at fs n)) start ≡ true → best' ≡ cond (better (value (feeder_at fs n)) best) (value (feeder_at fs n)) best → number' ≡ cond (better (value (feeder_at fs n)) best) (feeder_at fs n).number number → To n best number → To (n + 1) best' number'
    unfolding v
    best_more best' number' first p q before =
        inr (⊎_elim
        (λ wins. subst (λ (x : ℕ). SetBy no-worse value fs (n + 1) bank x number') (sym (p ∙ cond-true _ _ _ wins)) (subst (SetBy no-worse value fs (n + 1) bank v) (sym (q ∙ cond-true _ _ _ wins)) (takes_over wins before)))
        (λ loses. subst (λ (x : ℕ). SetBy no-worse value fs (n + 1) bank x number') (sym (p ∙ cond-false _ _ _ loses)) (subst (SetBy no-worse value fs (n + 1) bank best) (sym (q ∙ cond-false _ _ _ loses)) (stays loses first before)))
        (cases_Bool (better v best)))

  -- where the bank has a feeder, some feeder set the best
  pub best_set : (n best number : ℕ) → (NoneIn fs n bank → ⊥) → To n best number → SetBy no-worse value fs n bank best number
  best_set n best number some (inl h) = absurd (some h.0)
  best_set n best number some (inr h) = h

-- Longer readings are better, and smaller allowances.
pub longer : Order (λ best x. x ≤ best) (λ new old. ltb old new)
longer = record {
  same = λ a. omega arith;
  through = λ a b c h l. omega (arith, ltb-true b a h);
  takes = λ a b h l. omega (arith, ltb-true b a h);
  keeps = λ a b h. ltb-false b a h;
}

pub smaller : Order (λ best x. best ≤ x) (λ new old. ltb new old)
smaller = record {
  same = λ a. omega arith;
  through = λ a b c h l. omega (arith, ltb-true a b h);
  takes = λ a b h l. omega (arith, ltb-true a b h);
  keeps = λ a b h. ltb-false a b h;
}

-- The needs of a bank by the first n feeders, from those before any feeder.
abbrev pub in_bank : ℕ → Feeder → Bool
in_bank bank f = eqb f.bank bank

abbrev pub needs_by : List Feeder → (bank : ℕ) → BankNeeds → ℕ → BankNeeds
needs_by fs bank start n = fold grown start (filter (in_bank bank) (take n fs))

pub record NeedsTo (fs : List Feeder) (bank n : ℕ) (start needs : BankNeeds) : Type 0 where
  pub size : needs.feeders ≡ start.feeders
  pub panel : needs.panel ≡ start.panel
  pub longest : BestTo (λ best x. x ≤ best) (λ f. f.reading) 0 fs bank n needs.dwell needs.dwell_feeder
  pub least : BestTo (λ best x. best ≤ x) allowance most_swap fs bank n needs.gap needs.gap_feeder

-- where the first n feeders are counted, a bank has at most n of them
pub needs_few : (fs : List Feeder) (bank n : ℕ) (start needs : BankNeeds) → start.feeders ≡ count_by (in_bank bank) (take n fs) → NeedsTo fs bank n start needs → needs.feeders ≤ n
needs_few fs bank n start needs size h = omega (arith, h.size, size, count_by-le-length (in_bank bank) (take n fs), length-take n fs)

module _ (fs : List Feeder) (bank : ℕ) (start : BankNeeds) where
  -- a feeder of another bank
  needs_other : (n : ℕ) (needs : BankNeeds) → ((feeder_at fs n).bank ≡ bank → ⊥) → NeedsTo fs bank n start needs → NeedsTo fs bank (n + 1) start needs
  needs_other n needs other h = record {
    size = h.size;
    panel = h.panel;
    longest = best_other _ _ longer (λ f. f.reading) 0 fs bank n needs.dwell needs.dwell_feeder other h.longest;
    least = best_other _ _ smaller allowance most_swap fs bank n needs.gap needs.gap_feeder other h.least;
  }

  -- one more feeder of the bank
  needs_more : (n : ℕ) (needs : BankNeeds) → (feeder_at fs n).bank ≡ bank → 1 ≤ (feeder_at fs n).reading → allowance (feeder_at fs n) < most_swap → NeedsTo fs bank n start needs → NeedsTo fs bank (n + 1) start (grown needs (feeder_at fs n))
  needs_more n needs there some low h = record {
    size = h.size;
    panel = h.panel;
    longest = best_more _ _ longer (λ f. f.reading) 0 fs bank n needs.dwell needs.dwell_feeder there _ _ (lt-ltb 0 (feeder_at fs n).reading some) refl refl h.longest;
    least = best_more _ _ smaller allowance most_swap fs bank n needs.gap needs.gap_feeder there _ _ (lt-ltb (allowance (feeder_at fs n)) most_swap low) refl refl h.least;
  }

  -- the feeders one by one
  needs_at : (n : ℕ) → n < length fs → needs_by fs bank start (n + 1) ≡ fold grown (needs_by fs bank start n) (cond (in_bank bank (feeder_at fs n)) (feeder_at fs n ∷ []) [])
  needs_at n l = ap (fold grown start) (filter_more (in_bank bank) fs n no_feeder l) ∙ fold-append grown start (filter (in_bank bank) (take n fs)) _

  pub needs_of_all : start.dwell ≡ 0 → start.gap ≡ most_swap → (n : ℕ) → n ≤ length fs → ((k : ℕ) → k < n → 1 ≤ (feeder_at fs k).reading) → ((k : ℕ) → k < n → allowance (feeder_at fs k) < most_swap) → NeedsTo fs bank n start (needs_by fs bank start n)
  needs_of_all d g zero l some low = record {
    size = refl;
    panel = refl;
    longest = subst (λ (x : ℕ). BestTo (λ best x. x ≤ best) (λ f. f.reading) 0 fs bank 0 x start.dwell_feeder) (sym d) (best_none _ _ longer (λ f. f.reading) 0 fs bank start.dwell_feeder);
    least = subst (λ (x : ℕ). BestTo (λ best x. best ≤ x) allowance most_swap fs bank 0 x start.gap_feeder) (sym g) (best_none _ _ smaller allowance most_swap fs bank start.gap_feeder);
  }
  needs_of_all d g (suc n) l some low =
      let before = needs_of_all d g n (omega arith) (λ k h. some k (omega arith)) (λ k h. low k (omega arith)) in
      let needs = needs_by fs bank start n in
      let f = feeder_at fs n in
      let at = needs_at n (omega arith) in
      subst (λ (m : ℕ). NeedsTo fs bank m start (needs_by fs bank start m)) (add-one n)
      (⊎_elim
      (λ yes. subst (NeedsTo fs bank (n + 1) start) (sym (at ∙ ap (fold grown needs) (cond-true _ (f ∷ []) [] yes))) (needs_more n needs (eqb-true f.bank bank yes) (some n (omega arith)) (low n (omega arith)) before))
      (λ no. subst (NeedsTo fs bank (n + 1) start) (sym (at ∙ ap (fold grown needs) (cond-false _ (f ∷ []) [] no))) (needs_other n needs (eqb-false f.bank bank no) before))
      (cases_Bool (in_bank bank f)))

-- All feeders of a sheet.
pub needs_all : (s : Sheet) (bank : ℕ) (start : BankNeeds) → bank < s.count → start.feeders ≡ count_by (in_bank bank) (take s.listed s.feeders) → start.panel ≡ get_or s.panels bank 0 → start.dwell ≡ 0 → start.gap ≡ most_swap
    → NeedsOf s bank (needs_by s.feeders bank start s.listed)
needs_all s bank start known size panel d g =
    let needs = needs_by s.feeders bank start s.listed in
    let h = needs_of_all s.feeders bank start d g s.listed (omega (arith, s.room, s.places)) (λ k l. (s.readings k l).0) (λ k l. omega (arith, s.readings k l, s.swaps k l)) in
    record {
      known = known;
      size = h.size ∙ size;
      panel = h.panel ∙ panel;
      longest = best_set _ _ longer (λ f. f.reading) 0 s.feeders bank s.listed needs.dwell needs.dwell_feeder (s.served bank known) h.longest;
      least = best_set _ _ smaller allowance most_swap s.feeders bank s.listed needs.gap needs.gap_feeder (s.served bank known) h.least;
    }
