-- The panelled reader shows the laws of rigs, and its guide those of guides.
use Rattle.std.specs.Prelude.{◌≡◌, ℕ, ◌+◌, ◌*◌, ◌<◌, ◌≤◌, true, refl}
use Rattle.std.proofs.Common.{subst, sym, ◌∙◌, inl, inr, ⊎_elim, arith, lit<}
use Rattle.std.proofs.lemmas.Bool.{both_ways, cases_lt}
use Rattle.rig.specs.Meaning.{Laws, after, lawful}
use Rattle.rig.specs.Guides.{GuideLaws}
use Rattle.banks.specs.declared.table.BankTable.{BankTable}
use Rattle.deadlines.specs.Deadlines.{deadline}
use Rattle.readers.specs.declared.panelled.ReaderState.{ReaderState}
use Rattle.sheets.specs.Limits.{most_banks}
use Rattle.banks.specs.Limits.{most_gap}
use Rattle.banks.specs.Table.{panel}
use Rattle.readers.specs.Ages.{Aged}
use Rattle.readers.specs.Panelled.{age, guided_panelled, panelled, proper_state, rest_state, settling, state_after, state_covers, state_staleness}
use Rattle.readers.specs.Rules.{Covers, MoveLawful, Proper}
use Rattle.banks.proofs.Below.{sum_le, sum_tight}
use Rattle.readers.specs.AgeLaws.{fresher_aged, fresher_in_time, proper_aged, rest_ages, rest_cover, sum_within}
use Rattle.readers.specs.DueChoice.{due_untried}
use Rattle.readers.specs.Overrun.{Dwelt, overrun_ends}
use Rattle.readers.specs.Panels.{one_le, one_most, one_tight, settled_le}
use Rattle.readers.specs.Meanings.{after_lawful, covers_decides, follows, lawful_decides, proper_decides}

module _ (t : BankTable) where
  rest_proper : Proper t rest_state
  rest_proper = record { last_panel = λ p e. let z : ◌≡◌ {A = ℕ} 0 1 = cc in absurd (omega arith); ages = rest_ages t }

  stays_proper : (s : ReaderState) (j : ℕ) → MoveLawful t s j (settling t s.last j) → Proper t (state_after t s j)
  stays_proper s j h = record {
    last_panel = λ p e. let same : panel t j ≡ p = cc in omega (arith, t.panels j h.bank);
    ages = proper_aged t (age s) (age (state_after t s j)) j (settling t s.last j) h.dwell (follows t s j h.bank).ages;
  }

  covers_onward : (a b c : ReaderState) → Covers t a b → Covers t b c → Covers t a c
  covers_onward a b c h k = record {
    last_panel = ⊎_elim inl (λ e. ⊎_elim (λ n. inl (e ∙ n)) (λ f. inr (e ∙ f)) k.last_panel) h.last_panel;
    ages = λ i l. omega (arith, h.ages i l, k.ages i l);
  }

  -- a fresher state beside a staler one
  module _ (a b : ReaderState) (c : Covers t a b) where
    settles_less : (j : ℕ) → settling t a.last j ≤ settling t b.last j
    settles_less j = settled_le a.last b.last (panel t j) t.settle c.last_panel

    fresher_can : (j : ℕ) → Proper t a → MoveLawful t b j (settling t b.last j) → MoveLawful t a j (settling t a.last j)
    fresher_can j p h = record {
      proper = p;
      bank = h.bank;
      dwell = fresher_in_time t (age a) (age b) j (settling t a.last j) (settling t b.last j) c.ages (settles_less j) h.bank h.dwell;
    }

    stays_fresher : (j : ℕ) → j < t.count → Covers t (state_after t a j) (state_after t b j)
    stays_fresher j h = record {
      last_panel = inr refl;
      ages = fresher_aged t (age a) (age b) j (settling t a.last j) (settling t b.last j) c.ages (settles_less j)
          (age (state_after t a j)) (age (state_after t b j)) (follows t a j h).ages (follows t b j h).ages;
    }

    staleness_le : state_staleness t a ≤ state_staleness t b
    staleness_le = omega (arith, sum_le (age a) (age b) t.count c.ages, one_le a.last b.last c.last_panel)

    -- a covering state that is no less stale is covered in turn
    staleness_tight : state_staleness t b ≤ state_staleness t a → Covers t b a
    staleness_tight h =
        let sums = sum_le (age a) (age b) t.count c.ages in
        let ones = one_le a.last b.last c.last_panel in
        record {
          last_panel = one_tight a.last b.last c.last_panel (omega arith);
          ages = sum_tight (age a) (age b) t.count c.ages (omega arith);
        }

  staleness_capped : (s : ReaderState) → Proper t s → state_staleness t s ≤ most_banks * most_gap + 1
  staleness_capped s p = omega (arith, sum_within t (age s) p.ages, one_most s.last)

  -- the settling before a move, as the state has it
  abbrev settles : ReaderState → ℕ → ℕ
  settles s j = settling t s.last j

  dwelt : (s : ReaderState) (j : ℕ) → lawful (panelled t) s j ≡ true → Dwelt t (panelled t) age settles s j
  dwelt s j h =
      let can = (lawful_decides t s j).0 h in
      record {
        bank = can.bank;
        proper = can.proper.ages;
        in_time = can.dwell;
        aged = subst (λ (x : ReaderState). Aged t (age s) j (settles s j) (age x)) (sym (after_lawful t s j h)) (follows t s j can.bank).ages;
      }

  pub laws : Laws (panelled t)
  laws = record {
    rest_proper = (proper_decides t rest_state).1 rest_proper;
    stays_proper = λ s j p h. subst (λ x. proper_state t x ≡ true) (sym (after_lawful t s j h))
        ((proper_decides t (state_after t s j)).1 (stays_proper s j ((lawful_decides t s j).0 h)));
    covers_itself = λ s p. (covers_decides t s s).1 (record { last_panel = inr refl; ages = λ i k. omega arith });
    covers_onward = λ a b c pa pb pc h k.
        (covers_decides t a c).1 (covers_onward a b c ((covers_decides t a b).0 h) ((covers_decides t b c).0 k));
    rest_covers = λ s p. (covers_decides t rest_state s).1 (record { last_panel = inl refl; ages = rest_cover t (age s) });
    fresher_can = λ a b j pa pb c h.
        (lawful_decides t a j).1 (fresher_can a b ((covers_decides t a b).0 c) j ((proper_decides t a).0 pa) ((lawful_decides t b j).0 h));
    stays_fresher = λ a b j pa pb c h.
        let cover = (covers_decides t a b).0 c in
        let can = (lawful_decides t a j).1 (fresher_can a b cover j ((proper_decides t a).0 pa) ((lawful_decides t b j).0 h)) in
        let fresh = (covers_decides t (state_after t a j) (state_after t b j)).1 (stays_fresher a b cover j ((lawful_decides t b j).0 h).bank) in
        subst (λ x. state_covers t x (after (panelled t) b j) ≡ true) (sym (after_lawful t a j can))
        (subst (λ x. state_covers t (state_after t a j) x ≡ true) (sym (after_lawful t b j h)) fresh);
    ceiling_low = lit< tt;
    staleness_capped = λ s p. staleness_capped s ((proper_decides t s).0 p);
    staleness_respects = λ a b pa pb c. staleness_le a b ((covers_decides t a b).0 c);
    staleness_strict = λ a b pa pb c d. ⊎_elim
        (λ less. less)
        (λ more. absurd (both_ways (state_covers t b a) d ((covers_decides t b a).1 (staleness_tight a b ((covers_decides t a b).0 c) more))))
        (cases_lt (state_staleness t a) (state_staleness t b));
  }

  pub guide_laws : GuideLaws (guided_panelled t)
  guide_laws = record {
    hopeless_ends = λ s p h. overrun_ends t (panelled t) age settles dwelt s h;
    choice_untried = λ s u j p. due_untried (guided_panelled t) s (deadline t (age s)) u refl j;
  }
