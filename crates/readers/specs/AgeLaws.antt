-- Ages as functions of the bank: what their tests decide, and what a dwell keeps. A reader's settling is a number here.
use Rattle.std.specs.Prelude.{◌≡◌, ℕ, ◌+◌, ◌*◌, ◌<◌, ◌≤◌, true, cond, Decides, ◌==◌, ◌≢◌, refl}
use Rattle.std.proofs.Common.{subst, sym, ◌∙◌, ⊎_elim, arith}
use Rattle.std.proofs.lemmas.Bool.{cases_eq, cases_lt, cond-true, cond-false, eq-eqb, ne_eqb}
use Rattle.std.proofs.lemmas.Bool.Decides.{Decides-like, nat_tests}
use Rattle.banks.specs.declared.table.BankTable.{BankTable}
use Rattle.sheets.specs.Limits.{most_banks}
use Rattle.banks.specs.Limits.{most_gap}
use Rattle.banks.specs.Table.{dwell, gap}
use Rattle.readers.specs.Ages.{Aged, AgesCover, AgesProper, InTime, age_sum, aged, ages_proper, in_time}
use Rattle.banks.specs.Places.{age_at, spread}
use Rattle.banks.proofs.Below.{every_decides, sum_capped}
use Rattle.banks.proofs.Spread.{spread_at}

-- how long a bank with age a waits in a dwell of d ticks on bank j after m ticks of settling
module _ (a m d i j : ℕ) where
  waits_own : i ≡ j → a + (m + cond (i == j) 0 d) ≡ a + m
  waits_own e = omega (arith, cond-true (i == j) 0 d (eq-eqb i j e))

  waits_other : (i ≢ j) → a + (m + cond (i == j) 0 d) ≡ a + m + d
  waits_other ne = omega (arith, cond-false (i == j) 0 d (ne_eqb i j ne))

module _ (t : BankTable) where
  -- a bank's place is one of the places
  bank_place : (i : ℕ) → i < t.count → i < most_banks
  bank_place i h = omega (arith, t.few)

  pub rest_ages : AgesProper t (age_at (spread (λ _. 0)))
  rest_ages = record {
    banks = λ i h. omega (arith, spread_at (λ _. 0) i (bank_place i h));
    unused = λ i h _. spread_at (λ _. 0) i h;
  }

  pub rest_cover : (f : ℕ → ℕ) → AgesCover t (age_at (spread (λ _. 0))) f
  rest_cover f i h = omega (arith, spread_at (λ _. 0) i (bank_place i h))

  module _ (f : ℕ → ℕ) where
    pub ages_proper_decides : Decides (ages_proper t f) (AgesProper t f)
    ages_proper_decides =
        Decides-like (ages_proper t f)
        (λ h. record { banks = λ i k. h i (bank_place i k); unused = λ i k u. omega (arith, h i k, (t.unused i u).2) })
        (λ h i k. ⊎_elim (λ b. h.banks i b) (λ u. omega (arith, h.unused i k u)) (cases_lt i t.count))
        (every_decides f (gap t) most_banks)

    pub sum_within : AgesProper t f → age_sum t f ≤ most_banks * most_gap
    sum_within h = omega (arith, sum_capped f t.count most_gap (λ i k. omega (arith, h.banks i k, (t.gaps i k).1)), t.few)

    module _ (j n : ℕ) where
      pub in_time_decides : j < t.count → Decides (in_time t f j n) (InTime t f j n)
      in_time_decides bank =
          Decides-like (in_time t f j n)
          (λ h. record {
            own = omega (arith, h j bank, waits_own (f j) n (dwell t j) j j refl);
            others = λ i k ne. omega (arith, h i k, waits_other (f i) n (dwell t j) i j ne);
          })
          (λ h i k. ⊎_elim
          (λ e. omega (arith, subst (λ x. f x + n ≤ gap t x) (sym e) h.own, waits_own (f i) n (dwell t j) i j e))
          (λ ne. omega (arith, h.others i k ne, waits_other (f i) n (dwell t j) i j ne))
          (cases_eq i j))
          (every_decides (λ i. f i + (n + cond (i == j) 0 (dwell t j))) (gap t) t.count)

      -- the other ages stay within the limit of gaps
      pub grown_within : j < t.count → in_time t f j n ≡ true → (i : ℕ) → i < t.count → (i ≢ j) → f i + n + dwell t j ≤ most_gap
      grown_within bank h i k ne = omega (arith, ((in_time_decides bank).0 h).others i k ne, (t.gaps i k).1)

      aged_at : (i : ℕ) → i < most_banks → age_at (spread (aged t f j n)) i ≡ aged t f j n i
      aged_at i h = spread_at (aged t f j n) i h

      pub follows_aged : j < t.count → Aged t f j n (age_at (spread (aged t f j n)))
      follows_aged bank = record {
        own = aged_at j (bank_place j bank) ∙ own;
        others = λ i k ne. aged_at i (bank_place i k) ∙ other i k ne;
        unused = λ i k u. aged_at i k ∙ none i u;
      }
        where
          own : aged t f j n j ≡ 0
          own = grind (arith, nat_tests)

          other : (i : ℕ) → i < t.count → (i ≢ j) → aged t f j n i ≡ f i + n + dwell t j
          other i k ne = grind (arith, nat_tests)

          none : (i : ℕ) → t.count ≤ i → aged t f j n i ≡ 0
          none i u = grind (arith, nat_tests)

  -- a dwell in time keeps ages proper
  pub proper_aged : (f g : ℕ → ℕ) (j n : ℕ) → InTime t f j n → Aged t f j n g → AgesProper t g
  proper_aged f g j n h a = record {
    banks = λ i k. ⊎_elim
        (λ e. omega (arith, subst (λ x. g x ≡ 0) (sym e) a.own))
        (λ ne. omega (arith, a.others i k ne, h.others i k ne))
        (cases_eq i j);
    unused = a.unused;
  }

  -- fresher ages with no more settling are in time too, and stay fresher
  module _ (f g : ℕ → ℕ) (j m n : ℕ) (cover : AgesCover t f g) (less : m ≤ n) where
    pub fresher_in_time : j < t.count → InTime t g j n → InTime t f j m
    fresher_in_time bank h = record {
      own = omega (arith, h.own, cover j bank);
      others = λ i k ne. omega (arith, h.others i k ne, cover i k);
    }

    pub fresher_aged : (f' g' : ℕ → ℕ) → Aged t f j m f' → Aged t g j n g' → AgesCover t f' g'
    fresher_aged f' g' a b i k =
        ⊎_elim
        (λ e. omega (arith, subst (λ x. f' x ≡ 0) (sym e) a.own))
        (λ ne. omega (arith, a.others i k ne, b.others i k ne, cover i k))
        (cases_eq i j)
