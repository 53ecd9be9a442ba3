-- A rig that picks the bank that is due first chooses it.
use Rattle.std.specs.Prelude.{◌≡◌, ℕ, ◌<◌, Bool, true}
use Rattle.std.proofs.Common.{subst, sym, ◌∙◌, ⊎_elim}
use Rattle.std.proofs.lemmas.Bool.{cases_Bool}
use Rattle.std.proofs.lemmas.Bool.Decides.{not_from_Decides}
use Rattle.rig.specs.Guides.{Guided, choice}
use Rattle.rig.specs.Sets.{some_below}
use Rattle.rig.proofs.Members.{choice_none, choice_picks, some_decides}
use Rattle.deadlines.specs.Deadlines.{earliest_due}
use Rattle.deadlines.proofs.Chosen.{earliest_first, earliest_none}

module _ {S : Type 0} (m : Guided S) (s : S) (d : ℕ → ℕ) (u : ℕ → Bool) (picks-due : m.guide.picks s u ≡ earliest_due m.rig.moves d u) where
  pub choice_due : choice m s u ≡ earliest_due m.rig.moves d u
  choice_due =
      ⊎_elim
      (λ e. let some = (some_decides u m.rig.moves).0 e in choice_picks m s u some.0 some.1 some.2 ∙ picks-due)
      (λ e.
      let none : (j : ℕ) → j < m.rig.moves → u j ≡ true → ⊥ = λ j h x. not_from_Decides (some_below m.rig.moves u) (some_decides u m.rig.moves) e (j, h, x) in
      choice_none m s u none ∙ sym (earliest_none d u m.rig.moves none))
      (cases_Bool (some_below m.rig.moves u))

  pub due_untried : (j : ℕ) → j < m.rig.moves → u j ≡ true → (choice m s u < m.rig.moves) × (u (choice m s u) ≡ true)
  due_untried j h x =
      let f = earliest_first d u m.rig.moves j h x in
      subst (λ (b : ℕ). (b < m.rig.moves) × (u b ≡ true)) (sym choice_due) (f.bank, f.is_untried)
