-- Sets of moves: where none is left, and the lowest.
use Rattle.std.proofs.Common.{◌≡◌, ℕ, ◌<◌, ◌≤◌, Bool, true, false, is_some, Some, None, Option, MatchOption, sym, ⊎_elim, arith}
use Rattle.std.proofs.lemmas.List.{get_or_past}
use Rattle.std.proofs.lemmas.Bool.{both_ways, cases_Bool, cases_lt}
use Rattle.rig.specs.Sets.{most_moves, some_below}
use Rattle.rig.proofs.Members.{some_decides}
use Rattle.search.specs.declared.row.Row.{Row}
use Rattle.search.specs.Rows.{Lowest, on_path, untried_in}

pub none_below : (u : ℕ → Bool) (n : ℕ) → ((k : ℕ) → k < n → u k ≡ false) → some_below n u ≡ false
none_below u n h =
    ⊎_elim (λ e. let some = (some_decides u n).0 e in absurd (both_ways _ (h some.0 some.1) some.2)) (λ e. e)
    (cases_Bool (some_below n u))

pub lowest_found : (u : ℕ → Bool) (o : Option ℕ) → MatchOption o ((k : ℕ) → 0 ≤ k → k < most_moves → u k ≡ false) (λ j. (0 ≤ j) × (j < most_moves) × (u j ≡ true) × ((k : ℕ) → 0 ≤ k → k < j → u k ≡ false)) → Lowest u o
lowest_found u None h = none_below u most_moves (λ k low. h k (omega arith) low)
lowest_found u (Some j) h = (h.1, h.2, λ k low. h.3 k (omega arith) low)

pub lowest_some : (u : ℕ → Bool) (o : Option ℕ) → Lowest u o → is_some o ≡ some_below most_moves u
lowest_some u None h = sym h
lowest_some u (Some j) h = sym ((some_decides u most_moves).1 (j, h.0, h.1))

module _ {S : Type 0} (r : Row S) where
  -- what is untried is a move
  pub untried_move : (j : ℕ) → untried_in r j ≡ true → j < most_moves
  untried_move j h =
      ⊎_elim (λ low. low) (λ high. absurd (both_ways _ (get_or_past r.untried.held j false (omega (arith, r.untried.places))) h))
      (cases_lt j most_moves)

  -- in a row that is left as dead nothing is untried
  pub dead_tried : on_path r ≡ false → (j : ℕ) → untried_in r j ≡ false
  dead_tried h j =
      ⊎_elim (λ e. absurd (both_ways _ h ((some_decides (untried_in r) most_moves).1 (j, untried_move j e, e)))) (λ e. e)
      (cases_Bool (untried_in r j))
