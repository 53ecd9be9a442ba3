-- Different elements of a list are no more than the list is long.
use Rattle.std.proofs.Common.{◌≡◌, suc, ◌+◌, ◌-◌, ◌≤◌, List, [], ◌∷◌, length, get_or, All, Contains, sym, ◌∙◌, subst, ⊎_elim, arith}
use Rattle.std.specs.List.{remove}
use Rattle.std.proofs.lemmas.List.Edits.{get_or-remove_above, get_or-remove_below, length-remove}
use Rattle.std.proofs.lemmas.List.Elements.{All-from_get_or, All-get_or, All-head, All-tail, at_from_Contains}
use Rattle.std.proofs.lemmas.Bool.{cases_order}
use Rattle.search.specs.Promises.{Different}

-- what is not the element removed is still there
has_removed : {X : Type 0} (all : List X) (x y : X) → (h : Contains all x) → Contains all y → (x ≡ y → ⊥) → Contains (remove all h.0) y
has_removed all x y h there ne =
    let i = at_from_Contains all y there in
    let k = h.0 in
    let short = length-remove all k h.1 in
    ⊎_elim
    (λ same. absurd (ne (sym h.2 ∙ subst (λ j. get_or all j x ≡ y) same (i.2 x))))
    (λ order. ⊎_elim
    (λ less. (i.0, omega (arith, short, h.1), get_or-remove_below all k y i.0 less h.1 ∙ i.2 y))
    (λ more.
    let is : (i.0 - 1) + 1 ≡ i.0 = omega arith in
    (i.0 - 1, omega (arith, short, i.1), get_or-remove_above all k y (i.0 - 1) (omega arith) h.1 ∙ subst (λ n. get_or all n y ≡ y) (sym is) (i.2 y)))
    order)
    (cases_order i.0 k)

pub no_more : {X : Type 0} (xs all : List X) → Different xs → All (Contains all) xs → length xs ≤ length all
no_more [] all different has = omega arith
no_more (x ∷ xs) all different has =
    let here = All-head (Contains all) x xs has in
    let others = All-tail (Contains all) x xs has in
    let rest : All (Contains (remove all here.0)) xs = All-from_get_or (Contains (remove all here.0)) xs x (λ j within. has_removed all x (get_or xs j x) here (All-get_or (Contains all) xs j x within others) (λ same. different 0 (suc j) x (omega arith) (omega arith) same)) in
    let fewer = no_more xs (remove all here.0) (λ i k d less within same. different (suc i) (suc k) d (omega arith) (omega arith) same) rest in
    omega (arith, fewer, length-remove all here.0 here.1)
