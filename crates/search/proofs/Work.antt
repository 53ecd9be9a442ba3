-- What is left to do: every untried move counts one, and every free row more than all moves.
use Rattle.std.proofs.Common.{◌≡◌, ℕ, zero, suc, ◌+◌, ◌-◌, ◌*◌, ◌<◌, ◌≤◌, Bool, true, false, cond, not, ◌&&◌, eqb, List, length, get_or, take, set, sum_by, sym, refl, ap, ◌∙◌, subst, ap₂, ⊎_elim, not-suc-le-zero, arith}
use lib.Seq.{take-set-lt}
use Rattle.std.proofs.lemmas.List.{get_or-take, length-set, length-take-le, take_more_set}
use Rattle.std.proofs.lemmas.List.Sums.{sum_by_push, sum_by-set}
use Rattle.std.proofs.lemmas.Bool.{and_right, cases_eq, eq-eqb, ne_eqb}
use Rattle.rig.specs.Guides.{Guided}
use Rattle.rig.specs.Sets.{most_moves}
use Rattle.search.specs.declared.row.Row.{Row}
use Rattle.search.specs.Rows.{untried_in, usable}
use Rattle.search.specs.Steps.{Settles, Takes}
use Rattle.search.proofs.Rows.{some_of}
use Rattle.search.proofs.Sets.{untried_move}

-- how many numbers below n are in a set
unfoldable pub members : ℕ → (ℕ → Bool) → ℕ
members zero u = 0
members (suc n) u = cond (u n) 1 0 + members n u

one : (b : Bool) → cond b 1 0 ≤ 1
one true = omega arith
one false = omega arith

pub members_le : (n : ℕ) (u : ℕ → Bool) → members n u ≤ n
unfolding members
members_le zero u = omega arith
members_le (suc n) u = omega (arith, one (u n), members_le n u)

members_same : (n : ℕ) (u v : ℕ → Bool) → ((k : ℕ) → k < n → v k ≡ u k) → members n v ≡ members n u
unfolding members
members_same zero u v h = refl
members_same (suc n) u v h = ap₂ (λ b k. cond b 1 0 + k) (h n (omega arith)) (members_same n u v (λ k l. h k (omega arith)))

and_true : (b : Bool) → (b && true) ≡ b
and_true true = refl
and_true false = refl

-- one taken out
pub members_less : (n : ℕ) (u v : ℕ → Bool) (j : ℕ) → j < n → u j ≡ true → ((k : ℕ) → v k ≡ (u k && not (eqb k j))) → members n v + 1 ≡ members n u
unfolding members
members_less zero u v j low was less = absurd (not-suc-le-zero low)
members_less (suc n) u v j low was less =
    let other : (k : ℕ) → (k ≡ j → ⊥) → v k ≡ u k = λ k ne. less k ∙ ap (λ b. u k && not b) (ne_eqb k j ne) ∙ and_true (u k) in
    ⊎_elim
    (λ same.
    let gone : ◌≡◌ {A = ℕ} (cond (v n) 1 0) 0 = ap (λ b. cond b 1 0) (less n ∙ and_right (u n) _ (ap not (eq-eqb n j same))) in
    let had : ◌≡◌ {A = ℕ} (cond (u n) 1 0) 1 = ap (λ b. cond b 1 0) (ap u same ∙ was) in
    let rest = members_same n u v (λ k l. other k (λ e. omega arith)) in
    omega (arith, gone, had, rest))
    (λ ne.
    let here : ◌≡◌ {A = ℕ} (cond (v n) 1 0) (cond (u n) 1 0) = ap (λ b. cond b 1 0) (other n ne) in
    let rest = members_less n u v j (omega (arith, ne)) was less in
    omega (arith, here, rest))
    (cases_eq n j)

module _ {S : Type 0} where
  abbrev pub left_in : Row S → ℕ
  left_in r = members most_moves (untried_in r)

  unfoldable pub work : List (Row S) → ℕ → ℕ
  work rows n = (usable (length rows) - n) * 33 + sum_by left_in (take n rows)

  module _ (m : Guided S) (rows : List (Row S)) (n : ℕ) where
    settle : (at : ℕ) (row : Row S) → n ≤ length rows → Settles m rows n at row → work (set rows at row) n < work rows n
    unfolding work
    settle at row within h =
        let low : at < length rows = omega (arith, h.ends.0) in
        let d = some_of rows at low in
        let old = get_or rows at d in
        let long = length-take-le n rows within in
        let less : left_in row + 1 ≡ left_in old = members_less most_moves (untried_in old) (untried_in row) h.move (untried_move old h.move (h.was d)) (h.was d) (h.less d) in
        let sums = sum_by-set left_in (take n rows) at row d (omega (arith, long, h.ends.0)) in
        let read = ap left_in (get_or-take n rows at d h.ends.0) in
        let taken = ap (sum_by left_in) (take-set-lt n rows at row h.ends.0) in
        let same = ap (λ k. (usable k - n) * 33) (length-set rows at row) in
        omega (arith, less, sums, read, taken, same)

    pub settle_work : (at : ℕ) (row : Row S) (xs : List (Row S)) (k : ℕ) → xs ≡ set rows at row → k ≡ n → n ≤ length rows → Settles m rows n at row → work xs k < work rows n
    settle_work at row xs k wrote same within h = subst (λ i. work xs i < work rows n) (sym same) (subst (λ ys. work ys n < work rows n) (sym wrote) (settle at row within h))

    take_row : (left : ℕ) (row : Row S) → Takes m rows n left row → work (set rows n row) (n + 1) < work rows n
    unfolding work
    take_row left row h =
        let sums = ap (sum_by left_in) (take_more_set rows n row (omega (arith, h.free))) ∙ sum_by_push left_in (take n rows) row in
        let few = members_le most_moves (untried_in row) in
        let same = ap (λ k. (usable k - (n + 1)) * 33) (length-set rows n row) in
        omega (arith, sums, few, same, h.free)

    pub take_work : (left : ℕ) (row : Row S) (xs : List (Row S)) → xs ≡ set rows n row → Takes m rows n left row → work xs (n + 1) < work rows n
    take_work left row xs wrote h = subst (λ ys. work ys (n + 1) < work rows n) (sym wrote) (take_row left row h)
