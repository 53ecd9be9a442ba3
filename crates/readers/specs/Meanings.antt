-- The panelled reader's tests decide their plain statements.
use Rattle.std.specs.Prelude.{◌≡◌, ℕ, ◌<◌, Bool, true, false, ◌&&◌, Decides, nat_lt, refl}
use Rattle.std.proofs.Common.{subst, sym, ◌∙◌, ⊎_elim}
use Rattle.std.proofs.lemmas.Bool.{cases_Bool, cond-false, cond-true, both_ways}
use Rattle.std.proofs.lemmas.Bool.Decides.{Decides-and, Decides-at, Decides-like, Decides-ltb}
use Rattle.rig.specs.Meaning.{after, lawful}
use Rattle.banks.specs.declared.table.BankTable.{BankTable}
use Rattle.readers.specs.declared.panelled.ReaderState.{ReaderState}
use Rattle.banks.specs.Table.{panel}
use Rattle.readers.specs.Ages.{ages_cover, ages_proper}
use Rattle.readers.specs.Panelled.{age, move_allowed, panel_covers, panel_proper, panelled, proper_state, rest_state, settling, state_after, state_covers}
use Rattle.readers.specs.Rules.{Covers, Follows, MoveLawful, Proper, Settles, TellsAfter, TellsLawful}
use Rattle.banks.proofs.Below.{every_decides}
use Rattle.readers.specs.AgeLaws.{ages_proper_decides, follows_aged, in_time_decides}
use Rattle.readers.specs.Panels.{panel_covers_decides, panel_proper_decides, settled_none, settled_other, settled_same}

-- a second test that decides only where the first passes
pub and_then_decides : {P Q : Type 0} (x y : Bool) → Decides x P → (P → Decides y Q) → Decides (x && y) (P × Q)
and_then_decides true y d e = (λ h. (d.0 refl, (e (d.0 refl)).0 h), λ h. (e h.0).1 h.1)
and_then_decides false y d e = (λ h. absurd (both_ways false refl h), λ h. d.1 h.0)

module _ (t : BankTable) where
  pub proper_decides : (s : ReaderState) → Decides (proper_state t s) (Proper t s)
  proper_decides s =
      Decides-like (proper_state t s)
      (λ h. record { last_panel = h.0; ages = h.1 })
      (λ h. (h.last_panel, h.ages))
      (Decides-and (panel_proper s.last) (ages_proper t (age s)) (panel_proper_decides s.last) (ages_proper_decides t (age s)))

  pub covers_decides : (a b : ReaderState) → Decides (state_covers t a b) (Covers t a b)
  covers_decides a b =
      Decides-like (state_covers t a b)
      (λ h. record { last_panel = h.0; ages = h.1 })
      (λ h. (h.last_panel, h.ages))
      (Decides-and (panel_covers a.last b.last) (ages_cover t (age a) (age b)) (panel_covers_decides a.last b.last) (every_decides (age a) (age b) t.count))

  module _ (s : ReaderState) (j : ℕ) where
    pub settles : Settles t s.last j (settling t s.last j)
    settles = record {
      at_first = settled_none s.last (panel t j) t.settle;
      on_same = settled_same s.last (panel t j) t.settle;
      on_other = settled_other s.last (panel t j) t.settle;
    }

    pub lawful_decides : Decides (lawful (panelled t) s j) (MoveLawful t s j (settling t s.last j))
    lawful_decides =
        Decides-like (lawful (panelled t) s j)
        (λ h. record { proper = h.0; bank = h.1.0; dwell = h.1.1 })
        (λ h. (h.proper, (h.bank, h.dwell)))
        (Decides-and (proper_state t s) (nat_lt j t.count && move_allowed t s j) (proper_decides s)
        (and_then_decides (nat_lt j t.count) (move_allowed t s j) (Decides-ltb j t.count) (λ bank. in_time_decides t (age s) j (settling t s.last j) bank)))

    pub follows : j < t.count → Follows t s j (settling t s.last j) (state_after t s j)
    follows bank = record { ages = follows_aged t (age s) j (settling t s.last j) bank; last_panel = refl }

    pub after_lawful : lawful (panelled t) s j ≡ true → after (panelled t) s j ≡ state_after t s j
    after_lawful h = cond-true (lawful (panelled t) s j) (state_after t s j) rest_state h

    -- the reader's answers tell what the rules say
    pub tells_lawful : (r : Bool) → r ≡ lawful (panelled t) s j → TellsLawful t s j r
    tells_lawful r e = record {
      ticks = settling t s.last j;
      settles = settles;
      decides = Decides-at r (lawful (panelled t) s j) e lawful_decides;
    }

    pub tells_after : (r : ReaderState) → r ≡ after (panelled t) s j → TellsAfter t s j r
    tells_after r e = record {
      ticks = settling t s.last j;
      settles = settles;
      lawful = λ h. subst (Follows t s j (settling t s.last j)) (sym (e ∙ after_lawful (lawful_decides.1 h))) (follows h.bank);
      unlawful = λ n. e ∙ cond-false (lawful (panelled t) s j) (state_after t s j) rest_state
          (⊎_elim (λ y. absurd (n (lawful_decides.0 y))) (λ f. f) (cases_Bool (lawful (panelled t) s j)));
    }
