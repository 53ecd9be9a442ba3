-- Orders that repeat after so many dwells: the clock of a lap is that of the lap before, and so many ticks more.
use Rattle.std.proofs.Common.{◌≡◌, ℕ, zero, suc, ◌+◌, ◌*◌, ◌<◌, ◌≤◌, cond, eqb, List, length, map, sum, get_or, sym, refl, ap, ◌∙◌, ap₂, add-mul, add-zero, add-one, arith}
use Rattle.std.specs.List.{range_with_len}
use Rattle.std.proofs.lemmas.List.FromFn.{sum_by-map-range_with_len_more}
use native.Mathlib.Nat.{add-mod_right}
use Rattle.rig.specs.Orders.{Order, again}
use Rattle.banks.specs.declared.table.BankTable.{BankTable}
use Rattle.banks.specs.Table.{dwell, panel}
use Rattle.readers.specs.Ticks.{settling_before, clock, begins, ends, NextDwell, LapTicks}
use Rattle.readers.specs.Clocks.{clock_next}

-- the repetition repeats
pub again_lap : (xs : List ℕ) (n : ℕ) → again xs (n + length xs) ≡ again xs n
again_lap xs n = ap (λ (i : ℕ). get_or xs i 0) (add-mod_right n (length xs))

module _ (t : BankTable) (o : Order) (len : ℕ) (same : (n : ℕ) → o (n + len) ≡ o n) where
  pub settling_lap : (n : ℕ) → settling_before t o (suc n + len) ≡ settling_before t o (suc n)
  settling_lap n =
      let e : suc n + len ≡ suc (n + len) = omega arith in
      ap (settling_before t o) e
      ∙ ap₂ (λ (a b : ℕ). cond (eqb (panel t a) (panel t b)) 0 t.settle) (same n) (ap o (sym e) ∙ same (suc n))

  -- what a lap adds to the clock is the same at every dwell but the first
  pub clock_lap : (n : ℕ) → clock t o (suc n + len) + clock t o 1 ≡ clock t o (suc n) + clock t o (1 + len)
  clock_lap zero = omega arith
  clock_lap (suc n) =
      let e : suc (suc n) + len ≡ (suc n + len) + 1 = omega arith in
      let d : suc (suc n) ≡ suc n + 1 = omega arith in
      omega (arith, clock_lap n, ap (clock t o) e, ap (clock t o) d, clock_next t o (suc n + len), clock_next t o (suc n), settling_lap n, ap (dwell t) (same (suc n)))

  pub clock_lap_at : (n : ℕ) → 0 < n → clock t o (n + len) + clock t o 1 ≡ clock t o n + clock t o (1 + len)
  clock_lap_at (suc n) h = clock_lap n
  clock_lap_at zero h = omega arith

  -- a wait is as long one lap on
  pub wait_lap : (p q w : ℕ) → p < q → begins t o q ≤ ends t o p + w → begins t o (q + len) ≤ ends t o (p + len) + w
  wait_lap p zero w l h = omega arith
  wait_lap p (suc q) w l h =
      let e : suc p + len ≡ (p + len) + 1 = omega arith in
      omega (arith, clock_lap q, clock_lap p, settling_lap q, clock_next t o (p + len), clock_next t o p, ap (clock t o) e, ap (clock t o) (add-one p))

  -- next dwells are next dwells one lap back
  pub next_back : (b p q : ℕ) → NextDwell o b (p + len) (q + len) → NextDwell o b p q
  next_back b p q h = record {
    later = omega (arith, h.later);
    from = sym (same p) ∙ h.from;
    to = sym (same q) ∙ h.to;
    between = λ k l m e. h.between (k + len) (omega arith) (omega arith) (same k ∙ e);
  }

-- what dwell n adds to the clock
abbrev pub adds : BankTable → Order → ℕ → ℕ
adds t o n = settling_before t o n + dwell t (o n)

-- the clock after n more dwells
clock_sum : (t : BankTable) (o : Order) (from n : ℕ) → clock t o from + sum (map (adds t o) (range_with_len from n)) ≡ clock t o (from + n)
clock_sum t o from zero = omega (arith, ap (clock t o) (add-zero from))
clock_sum t o from (suc n) =
    let e : from + suc n ≡ from + n + 1 = omega arith in
    omega (arith, clock_sum t o from n, sum_by-map-range_with_len_more (λ x. x) (adds t o) from n (from + n) refl, clock_next t o (from + n), ap (clock t o) e, ap (λ (k : ℕ). sum (map (adds t o) (range_with_len from k))) (add-one n))

-- from the ticks of the second lap to those of every later one
pub lap_ticks : (t : BankTable) (xs : List ℕ) (n : ℕ) → 0 < length xs → n ≡ sum (map (adds t (again xs)) (range_with_len (length xs) (length xs))) → LapTicks t xs n
lap_ticks t xs n pos h k =
    let len = length xs in
    let o = again xs in
    let e : (k + 2) * len ≡ (k + 1) * len + len = add-mul k 2 len ∙ omega (arith, add-mul k 1 len) in
    let far : 0 < (k + 1) * len = omega (arith, add-mul k 1 len) in
    let here = clock_lap_at t o len (again_lap xs) ((k + 1) * len) far in
    let there = clock_lap_at t o len (again_lap xs) len pos in
    omega (arith, here, there, clock_sum t o len len, ap (clock t o) e)
