-- The plain reader's tests decide their plain statements; it shows the laws of rigs, and its guide those of guides.
use Rattle.std.specs.Prelude.{◌≡◌, ℕ, ◌<◌, true, ◌&&◌, Decides, nat_lt, refl}
use Rattle.std.proofs.Common.{subst, sym, ◌∙◌, ⊎_elim, arith, lit<}
use Rattle.std.proofs.lemmas.Bool.{both_ways, cases_Bool, cases_lt, cond-false, cond-true}
use Rattle.std.proofs.lemmas.Bool.Decides.{Decides-and, Decides-like, Decides-ltb}
use Rattle.rig.specs.Meaning.{Laws, after, lawful}
use Rattle.rig.specs.Guides.{GuideLaws}
use Rattle.banks.specs.declared.table.BankTable.{BankTable}
use Rattle.deadlines.specs.Deadlines.{deadline}
use Rattle.readers.specs.declared.plain.PlainState.{PlainState}
use Rattle.readers.specs.Ages.{Aged, AgesCover, AgesProper, InTime, age_sum, ages_cover, ages_proper, in_time}
use Rattle.readers.specs.Plain.{PlainAfter, PlainLawful, guided_plain, plain, plain_age, plain_rest}
use Rattle.banks.proofs.Below.{every_decides, sum_le, sum_tight}
use Rattle.readers.specs.AgeLaws.{ages_proper_decides, follows_aged, fresher_aged, in_time_decides, proper_aged, rest_ages, rest_cover, sum_within}
use Rattle.readers.specs.DueChoice.{due_untried}
use Rattle.readers.specs.Overrun.{Dwelt, overrun_ends}
use Rattle.readers.specs.Meanings.{and_then_decides}

module _ (t : BankTable) where
  pub plain_covers_decides : (a b : PlainState) → Decides (ages_cover t (plain_age a) (plain_age b)) (AgesCover t (plain_age a) (plain_age b))
  plain_covers_decides a b = every_decides (plain_age a) (plain_age b) t.count

  -- the state that a lawful move leads to
  abbrev led : PlainState → ℕ → PlainState
  led s j = (plain t).leads s j

  module _ (s : PlainState) (j : ℕ) where
    -- in a proper state the bank's own wait is within its gap
    in_time_plain : PlainLawful t s j → InTime t (plain_age s) j 0
    in_time_plain h = record {
      own = omega (arith, h.proper.banks j h.bank);
      others = λ i k ne. omega (arith, h.others i k ne);
    }

    pub plain_decides : Decides (lawful (plain t) s j) (PlainLawful t s j)
    plain_decides =
        Decides-like (lawful (plain t) s j)
        (λ h. record { proper = h.0; bank = h.1.0; others = λ i k ne. omega (arith, h.1.1.others i k ne) })
        (λ h. (h.proper, (h.bank, in_time_plain h)))
        (Decides-and (ages_proper t (plain_age s)) (nat_lt j t.count && in_time t (plain_age s) j 0) (ages_proper_decides t (plain_age s))
        (and_then_decides (nat_lt j t.count) (in_time t (plain_age s) j 0) (Decides-ltb j t.count) (λ bank. in_time_decides t (plain_age s) j 0 bank)))

    follows : j < t.count → Aged t (plain_age s) j 0 (plain_age (led s j))
    follows bank = follows_aged t (plain_age s) j 0 bank

    after_plain : lawful (plain t) s j ≡ true → after (plain t) s j ≡ led s j
    after_plain h = cond-true (lawful (plain t) s j) (led s j) plain_rest h

    pub plain_after : (r : PlainState) → r ≡ after (plain t) s j → PlainAfter t s j r
    plain_after r e = record {
      lawful = λ h. subst (λ (x : PlainState). Aged t (plain_age s) j 0 (plain_age x)) (sym (e ∙ after_plain (plain_decides.1 h))) (follows h.bank);
      unlawful = λ n. e ∙ cond-false (lawful (plain t) s j) (led s j) plain_rest
          (⊎_elim (λ y. absurd (n (plain_decides.0 y))) (λ f. f) (cases_Bool (lawful (plain t) s j)));
    }

  -- a fresher state beside a staler one
  module _ (a b : PlainState) (c : AgesCover t (plain_age a) (plain_age b)) (j : ℕ) (h : PlainLawful t b j) where
    fresher_can : AgesProper t (plain_age a) → PlainLawful t a j
    fresher_can p = record { proper = p; bank = h.bank; others = λ i k ne. omega (arith, h.others i k ne, c i k) }

    stays_fresher : AgesCover t (plain_age (led a j)) (plain_age (led b j))
    stays_fresher =
        fresher_aged t (plain_age a) (plain_age b) j 0 0 c (omega arith) (plain_age (led a j)) (plain_age (led b j)) (follows a j h.bank) (follows b j h.bank)

  dwelt : (s : PlainState) (j : ℕ) → lawful (plain t) s j ≡ true → Dwelt t (plain t) plain_age (λ _ _. 0) s j
  dwelt s j h =
      let can = (plain_decides s j).0 h in
      record {
        bank = can.bank;
        proper = can.proper;
        in_time = in_time_plain s j can;
        aged = subst (λ (x : PlainState). Aged t (plain_age s) j 0 (plain_age x)) (sym (after_plain s j h)) (follows s j can.bank);
      }

  pub plain_laws : Laws (plain t)
  plain_laws = record {
    rest_proper = (ages_proper_decides t (plain_age plain_rest)).1 (rest_ages t);
    stays_proper = λ s j p h.
        let can = (plain_decides s j).0 h in
        subst (λ (x : PlainState). ages_proper t (plain_age x) ≡ true) (sym (after_plain s j h))
        ((ages_proper_decides t (plain_age (led s j))).1 (proper_aged t (plain_age s) (plain_age (led s j)) j 0 (in_time_plain s j can) (follows s j can.bank)));
    covers_itself = λ s p. (plain_covers_decides s s).1 (λ i k. omega arith);
    covers_onward = λ a b c pa pb pc h k.
        (plain_covers_decides a c).1 (λ i l. omega (arith, (plain_covers_decides a b).0 h i l, (plain_covers_decides b c).0 k i l));
    rest_covers = λ s p. (plain_covers_decides plain_rest s).1 (rest_cover t (plain_age s));
    fresher_can = λ a b j pa pb c h.
        (plain_decides a j).1 (fresher_can a b ((plain_covers_decides a b).0 c) j ((plain_decides b j).0 h) ((ages_proper_decides t (plain_age a)).0 pa));
    stays_fresher = λ a b j pa pb c h.
        let cover = (plain_covers_decides a b).0 c in
        let can = (plain_decides a j).1 (fresher_can a b cover j ((plain_decides b j).0 h) ((ages_proper_decides t (plain_age a)).0 pa)) in
        let fresh = (plain_covers_decides (led a j) (led b j)).1 (stays_fresher a b cover j ((plain_decides b j).0 h)) in
        subst (λ (x : PlainState). ages_cover t (plain_age x) (plain_age (after (plain t) b j)) ≡ true) (sym (after_plain a j can))
        (subst (λ (x : PlainState). ages_cover t (plain_age (led a j)) (plain_age x) ≡ true) (sym (after_plain b j h)) fresh);
    ceiling_low = lit< tt;
    staleness_capped = λ s p. omega (arith, sum_within t (plain_age s) ((ages_proper_decides t (plain_age s)).0 p));
    staleness_respects = λ a b pa pb c. sum_le (plain_age a) (plain_age b) t.count ((plain_covers_decides a b).0 c);
    staleness_strict = λ a b pa pb c d. ⊎_elim
        (λ less. less)
        (λ more. absurd (both_ways (ages_cover t (plain_age b) (plain_age a)) d ((plain_covers_decides b a).1 (sum_tight (plain_age a) (plain_age b) t.count ((plain_covers_decides a b).0 c) more))))
        (cases_lt (age_sum t (plain_age a)) (age_sum t (plain_age b)));
  }

  pub plain_guide_laws : GuideLaws (guided_plain t)
  plain_guide_laws = record {
    hopeless_ends = λ s p h. overrun_ends t (plain t) plain_age (λ _ _. 0) dwelt s h;
    choice_untried = λ s u j p. due_untried (guided_plain t) s (deadline t (plain_age s)) u refl j;
  }
