-- Rows of a table: what scans of those taken find.
use Rattle.std.proofs.Common.{◌≡◌, ℕ, ◌+◌, ◌<◌, ◌≤◌, Bool, true, false, List, [], ◌∷◌, length, take, Some, None, MatchBool, Decides, Option, sym, refl, subst, not-suc-le-zero, arith}
use Rattle.std.proofs.lemmas.Bool.{false≢true}
use Rattle.std.proofs.lemmas.List.{get_or-take, length-take-le}
use Rattle.std.specs.List.{AllWithin, HoldsAt}
use Rattle.search.specs.declared.row.Row.{Row}
use Rattle.search.specs.Rows.{DeadHolds, Latest, on_path}

-- an element, for a default
pub some_of : {X : Type 0} (xs : List X) (k : ℕ) → k < length xs → X
some_of [] k h = absurd (not-suc-le-zero h)
some_of (x ∷ xs) k h = x

module _ {S : Type 0} where
  pub dead_decides : (rows : List (Row S)) (s : S) (b : Bool) → MatchBool b ((k : ℕ) × (k < length rows) × HoldsAt (λ r. (on_path r ≡ false) × (r.state ≡ s)) rows k) (AllWithin (λ r. on_path r ≡ false → r.state ≡ s → ⊥) rows 0 (length rows)) → Decides b (DeadHolds rows (length rows) s)
  dead_decides rows s true h = (λ e. h, λ d. refl)
  dead_decides rows s false h = (
    λ e. absurd (false≢true e),
    λ d. let r = some_of rows d.0 d.1 in absurd (h d.0 r (omega arith) d.1 (d.2 r).0 (d.2 r).1),
  )

  -- what is found in the rows taken is found in the table
  module _ (rows : List (Row S)) (n : ℕ) (within : n ≤ length rows) where
    long : length (take n rows) ≡ n
    long = length-take-le n rows within

    none_from_taken : (P : Row S → Type 0) (i : ℕ) → AllWithin P (take n rows) i (length (take n rows)) → AllWithin P rows i n
    none_from_taken P i h k d from low = subst P (get_or-take n rows k d low) (h k d from (omega (arith, long)))

    one_from_taken : (P : Row S → Type 0) (k : ℕ) → k < n → HoldsAt P (take n rows) k → HoldsAt P rows k
    one_from_taken P k low h d = subst P (get_or-take n rows k d low) (h d)

    pub latest_from_taken : (test : Row S → Bool) (o : Option ℕ) → Latest test (take n rows) (length (take n rows)) o → Latest test rows n o
    latest_from_taken test None h = none_from_taken (λ r. test r ≡ false) 0 h
    latest_from_taken test (Some p) h =
        let low : p < n = omega (arith, h.0, long) in
        (low, one_from_taken (λ r. test r ≡ true) p low h.1, none_from_taken (λ r. test r ≡ false) (p + 1) h.2)

    pub dead_from_taken : (s : S) (b : Bool) → Decides b (DeadHolds (take n rows) (length (take n rows)) s) → Decides b (DeadHolds rows n s)
    dead_from_taken s b h =
        let P : Row S → Type 0 = λ r. (on_path r ≡ false) × (r.state ≡ s) in (
          λ e. let d = h.0 e in let low : d.0 < n = omega (arith, d.1, long) in (d.0, low, one_from_taken P d.0 low d.2),
          λ d. h.1 (d.0, omega (arith, d.1, long), λ r. subst P (sym (get_or-take n rows d.0 r d.1)) (d.2 r)),
        )
