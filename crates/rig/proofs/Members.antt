-- Members of sets of moves, and the choice from a set.
use Rattle.std.proofs.Common.{◌≡◌, ℕ, ◌<◌, Bool, true, false, not, Decides, refl, ap, sym, ◌∙◌, ⊎_elim, arith}
use Rattle.std.specs.Cmp.{both_ways as test_both_ways}
use Rattle.std.proofs.lemmas.Bool.{both_ways, cases_Bool, cond_both, cond-true}
use Rattle.std.proofs.lemmas.List.{get_or_default, same_lists}
use Rattle.rig.specs.declared.moves.Moves.{Moves}
use Rattle.std.proofs.lemmas.Bool.Decides.{Decides-below_or}
use Rattle.rig.specs.Guides.{Guided, choice}
use Rattle.rig.specs.Sets.{in_set, most_moves, some_below}

-- whether a set has a number below n
pub some_decides : (u : ℕ → Bool) (n : ℕ) → Decides (some_below n u) ((k : ℕ) × (k < n) × (u k ≡ true))
unfolding some_below
some_decides u n = Decides-below_or u (λ k. u k ≡ true) (λ k. some_below k u) (λ k. (λ e. e, λ e. e)) refl (λ _. refl) n

-- a set is empty exactly where it holds what a set without a move does
pub empty_told : (set none : Moves) → ((k : ℕ) → in_set none.held k ≡ false) → (same : Bool) → Decides same (set.held ≡ none.held) → same ≡ not (some_below most_moves (in_set set.held))
empty_told set none empty same told = test_both_ways same (not (some_below most_moves (in_set set.held))) (λ e. ap not (nothing e)) (λ e. told.1 (alike e))
  where
    nothing : same ≡ true → some_below most_moves (in_set set.held) ≡ false
    nothing e =
        ⊎_elim
        (λ some.
        let k = (some_decides (in_set set.held) most_moves).0 some in
        absurd (both_ways _ (ap (λ xs. in_set xs k.0) (told.0 e) ∙ empty k.0) k.2))
        (λ none_left. none_left)
        (cases_Bool (some_below most_moves (in_set set.held)))

    unheld : not (some_below most_moves (in_set set.held)) ≡ true → (k : ℕ) → k < most_moves → in_set set.held k ≡ false
    unheld e k low =
        ⊎_elim
        (λ held. absurd (both_ways _ (ap not ((some_decides (in_set set.held) most_moves).1 (k, low, held))) e))
        (λ free. free)
        (cases_Bool (in_set set.held k))

    alike : not (some_below most_moves (in_set set.held)) ≡ true → set.held ≡ none.held
    alike e =
        same_lists set.held none.held (omega (arith, set.places, none.places))
        (λ k d low.
        get_or_default set.held k d false low ∙ unheld e k (omega (arith, set.places)) ∙ sym (empty k) ∙ get_or_default none.held k false d (omega (arith, set.places, none.places)))

-- the choice is the rig's own pick where some move is untried, and 0 where none is
module _ {S : Type 0} (m : Guided S) (s : S) (u : ℕ → Bool) where
  pub choice_picks : (j : ℕ) → j < m.rig.moves → u j ≡ true → choice m s u ≡ m.guide.picks s u
  choice_picks j h x = cond-true (some_below m.rig.moves u) (m.guide.picks s u) 0 ((some_decides u m.rig.moves).1 (j, h, x))

  pub choice_none : ((j : ℕ) → j < m.rig.moves → u j ≡ true → ⊥) → choice m s u ≡ 0
  choice_none none =
      cond_both (some_below m.rig.moves u) (m.guide.picks s u) 0 (λ x. x ≡ 0)
      (λ e. let some = (some_decides u m.rig.moves).0 e in absurd (none some.0 some.1 some.2))
      (λ _. refl)
