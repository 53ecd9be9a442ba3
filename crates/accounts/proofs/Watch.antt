-- Watching a bank over one lap of dwells, from a dwell on it: how long it has waited, and the longest wait so far.
use Rattle.std.proofs.Common.{◌≡◌, ℕ, zero, suc, ◌+◌, ◌-◌, ◌<◌, ◌≤◌, max, ◌⊎◌, List, length, get_or, sym, refl, ap, ◌∙◌, subst, inl, inr, ⊎_elim, mod-eq_of_lt, arith}
use native.Mathlib.Nat.{le-max_left, le-max_right, max-eq_left, max-eq_right}
use Rattle.std.proofs.lemmas.Bool.{cases_lt, cases_order}
use Rattle.rig.specs.Orders.{Order, again}
use Rattle.banks.specs.declared.table.BankTable.{BankTable}
use Rattle.banks.specs.Table.{dwell}
use Rattle.readers.specs.Ticks.{settling_before, clock, begins, ends, NextDwell, Waits, LongestWait}
use Rattle.readers.specs.Clocks.{clock_next}
use Rattle.accounts.specs.Account.{FirstPlace}
use Rattle.accounts.proofs.Repeats.{again_lap, wait_lap, next_back}

-- some wait of bank b is w ticks long
pub record Waited (t : BankTable) (o : Order) (b w : ℕ) : Type 0 where
  pub from : ℕ
  pub to : ℕ
  pub next : NextDwell o b from to
  pub waits : Waits t o from to w

-- the dwells from `first`, which is on bank b, to before n are watched: b waits since so many ticks
pub record Watched (t : BankTable) (o : Order) (b first n since longest : ℕ) : Type 0 where
  pub last : ℕ
  pub on : o last ≡ b
  pub from : first ≤ last
  pub below : last < n
  pub quiet : (k : ℕ) → last < k → k < n → o k ≡ b → ⊥
  pub aged : ends t o last + since ≡ clock t o n
  pub no_longer : (p q : ℕ) → NextDwell o b p q → first ≤ p → q < n → begins t o q ≤ ends t o p + longest
  pub as_long : ((last ≡ first) × (longest ≡ 0)) ⊎ Waited t o b longest

module _ (t : BankTable) (o : Order) (b first : ℕ) where
  pub watched_none : (n : ℕ) → n ≡ first + 1 → o first ≡ b → Watched t o b first n 0 0
  watched_none n e h = record {
    last = first;
    on = h;
    from = omega arith;
    below = omega arith;
    quiet = λ k l m x. omega arith;
    aged = omega (arith, clock_next t o first, ap (clock t o) e);
    no_longer = λ p q x l m. omega (arith, x.later);
    as_long = inl (refl, refl);
  }

  module _ (n since longest : ℕ) (w : Watched t o b first n since longest) where
    -- a dwell on another bank
    past : (o n ≡ b → ⊥) → Watched t o b first (n + 1) (since + settling_before t o n + dwell t (o n)) longest
    past other = record {
      last = w.last;
      on = w.on;
      from = w.from;
      below = omega (arith, w.below);
      quiet = λ k l m e. ⊎_elim (λ x. w.quiet k l x e) (λ x. other (ap o (let same : n ≡ k = omega arith in same) ∙ e)) (cases_lt k n);
      aged = omega (arith, w.aged, clock_next t o n);
      no_longer = λ p q x l m. ⊎_elim (λ y. w.no_longer p q x l y) (λ y. absurd (other (ap o (let same : n ≡ q = omega arith in same) ∙ x.to))) (cases_lt q n);
      as_long = w.as_long;
    }

    pub watched_past : (s m : ℕ) → (o n ≡ b → ⊥) → s ≡ since + settling_before t o n + dwell t (o n) → m ≡ longest → Watched t o b first (n + 1) s m
    watched_past s m other e f =
        subst (λ (i : ℕ). Watched t o b first (n + 1) i m) (sym e)
        (subst (Watched t o b first (n + 1) (since + settling_before t o n + dwell t (o n))) (sym f) (past other))

    -- a dwell on the bank ends a wait
    module _ (s m : ℕ) (here : o n ≡ b) (zero-since : s ≡ 0) (is : m ≡ max longest (since + settling_before t o n)) where
      this_pair : NextDwell o b w.last n
      this_pair = record { later = w.below; from = w.on; to = here; between = w.quiet }

      this_wait : m ≡ since + settling_before t o n → Waited t o b m
      this_wait e = record { from = w.last; to = n; next = this_pair; waits = omega (arith, w.aged) }

      some_wait : Waited t o b m
      some_wait =
          ⊎_elim (λ l. this_wait (is ∙ max-eq_right (let h : longest ≤ since + settling_before t o n = omega arith in h)))
          (λ l.
          let e = is ∙ max-eq_left l in
          ⊎_elim (λ z. this_wait (omega (arith, e, z.1))) (λ x. subst (Waited t o b) (sym e) x) w.as_long)
          (cases_lt longest (since + settling_before t o n))

      -- a pair that ends here begins at the last dwell on the bank
      from_last : (p : ℕ) → NextDwell o b p n → p ≡ w.last
      from_last p x =
          ⊎_elim (λ e. e)
          (λ c. absurd (⊎_elim (λ l. x.between w.last l w.below w.on) (λ l. w.quiet p l x.later x.from) c))
          (cases_order p w.last)

      pub watched_on : Watched t o b first (n + 1) s m
      watched_on =
          let old = le-max_left longest (since + settling_before t o n) in
          let new = le-max_right longest (since + settling_before t o n) in
          record {
            last = n;
            on = here;
            from = omega (arith, w.from, w.below);
            below = omega arith;
            quiet = λ k l y e. omega arith;
            aged = omega (arith, clock_next t o n);
            no_longer = λ p q x l y.
                ⊎_elim (λ z. omega (arith, is, old, w.no_longer p q x l z))
                (λ z.
                let e : q ≡ n = omega arith in
                let f = from_last p (subst (NextDwell o b p) e x) in
                omega (arith, is, new, w.aged, ap (begins t o) e, ap (ends t o) f))
                (cases_lt q n);
            as_long = inr some_wait;
          }

  -- after a whole lap all waits have been seen
  module _ (len : ℕ) (pos : 0 < len) (same : (n : ℕ) → o (n + len) ≡ o n) (here : o first ≡ b) (before : (k : ℕ) → k < first → o k ≡ b → ⊥) (since longest : ℕ) (w : Watched t o b first (first + len + 1) since longest) where
    in_window : (p q : ℕ) → NextDwell o b p q → p < first + len → begins t o q ≤ ends t o p + longest
    in_window p q x l =
        let low : first ≤ p = ⊎_elim (λ y. absurd (before p y x.from)) (λ y. y) (cases_lt p first) in
        let high : q ≤ first + len = ⊎_elim (λ y. absurd (x.between (first + len) l y (same first ∙ here))) (λ y. y) (cases_lt (first + len) q) in
        w.no_longer p q x low (omega arith)

    in_all : (more p q : ℕ) → p < first + len + more → NextDwell o b p q → begins t o q ≤ ends t o p + longest
    in_all zero p q l x = in_window p q x (omega arith)
    in_all (suc more) p q l x =
        ⊎_elim (λ y. in_window p q x y)
        (λ y.
        let late = x.later in
        let e : p ≡ (p - len) + len = omega arith in
        let f : q ≡ (q - len) + len = omega arith in
        let back = next_back t o len same b (p - len) (q - len) (subst (λ (i : ℕ). NextDwell o b i ((q - len) + len)) e (subst (NextDwell o b p) f x)) in
        let bound = in_all more (p - len) (q - len) (omega arith) back in
        let on = wait_lap t o len same (p - len) (q - len) longest back.later bound in
        omega (arith, on, ap (begins t o) f, ap (ends t o) e))
        (cases_lt p (first + len))

    found : Waited t o b longest
    found =
        ⊎_elim
        (λ z. absurd (w.quiet (first + len) (omega (arith, z.0)) (omega arith) (same first ∙ here)))
        (λ x. x)
        w.as_long

    pub watched_all : LongestWait t o b longest
    watched_all =
        let x = found in
        record {
          from = x.from;
          to = x.to;
          next = x.next;
          waits = x.waits;
          no_longer = λ p q y. in_all (p + 1) p q (omega arith) y;
        }

-- over a list that is repeated, from the first place of the bank
module _ (t : BankTable) (xs : List ℕ) (b first : ℕ) (place : FirstPlace xs b first) where
  at_place : (k : ℕ) → k < length xs → again xs k ≡ get_or xs k 0
  at_place k l = ap (λ (i : ℕ). get_or xs i 0) (mod-eq_of_lt l)

  pub list_none : Watched t (again xs) b first (first + 1) 0 0
  list_none = watched_none t (again xs) b first (first + 1) refl (at_place first place.within ∙ place.here)

  pub list_all : (n since longest : ℕ) → n ≡ first + length xs + 1 → Watched t (again xs) b first n since longest → LongestWait t (again xs) b longest
  list_all n since longest e w =
      watched_all t (again xs) b first (length xs) (omega (arith, place.within)) (again_lap xs) (at_place first place.within ∙ place.here)
      (λ k l x. place.before k l (sym (at_place k (let m : k < length xs = omega (arith, place.within) in m)) ∙ x)) since longest
      (subst (λ (i : ℕ). Watched t (again xs) b first i since longest) e w)
