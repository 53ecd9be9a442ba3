-- Laps of a list from rest: each lap ends no fresher than it began, and a lap that closes goes on for ever.
use Rattle.std.proofs.Common.{◌≡◌, ℕ, zero, suc, ◌+◌, ◌-◌, ◌*◌, ◌/◌, ◌%◌, ◌<◌, ◌≤◌, Bool, true, false, List, length, get_or, sym, refl, ap, ◌∙◌, subst, ap₂, ⊎_elim, not-suc-le-zero, add-zero, mod-eq_of_lt, suc-mul, mul-le-mul, zero-mul, add-one, arith, below_more}
use native.Mathlib.Nat.{mul-add-mod_self_right}
use lib.Arith.{digits_div, digits_mod}
use Rattle.std.proofs.lemmas.Bool.{cases_lt, cases_order, both_ways}
use Rattle.rig.specs.Meaning.{Meaning, Laws, lawful}
use Rattle.rig.specs.Orders.{reached, LawfulTo, again, LawfulForEver}
use Rattle.rig.specs.Checks.{list_order, lap_state, closes, LapRan, LapStopped, OnlyMoves, FirstClosing, FirstUnlawful, FirstNoMove, ListFault, told}
use Rattle.rig.specs.Checks.ListFault.{no_move_at, unlawful_at}
use Rattle.rig.specs.declared.check.Unfit.{Unfit}
use Rattle.rig.specs.declared.check.Unfit.TheVariants.{NoMove, Unlawful}
use Rattle.refusals.specs.declared.Refusal.{Refusal}
use Rattle.rig.proofs.Runs.{reached_agree, reached_add, lawful_move, Fresher, fresher_onward, fresher_reached, fresher_lawful, reached_proper, rest_fresher}

-- the repetition at position k of any lap
pub again_at : (xs : List ℕ) (n k : ℕ) → k < length xs → again xs (n * length xs + k) ≡ get_or xs k 0
again_at xs n k h = ap (λ (i : ℕ). get_or xs i 0) (mul-add-mod_self_right n (length xs) k ∙ mod-eq_of_lt h)

module _ {S : Type 0} (m : Meaning S) (xs : List ℕ) where
  -- after n laps and k moves more
  pub in_lap : (n k : ℕ) → k ≤ length xs → reached m m.rest (again xs) (n * length xs + k) ≡ reached m (lap_state m xs n) (list_order xs) k
  in_lap n k h =
      reached_add m m.rest (again xs) (n * length xs) k
      ∙ reached_agree m (lap_state m xs n) (λ i. again xs (n * length xs + i)) (list_order xs) k (λ i l. again_at xs n i (omega arith))

  pub next_lap : (n : ℕ) → lap_state m xs (n + 1) ≡ reached m (lap_state m xs n) (list_order xs) (length xs)
  next_lap n = ap (reached m m.rest (again xs)) (ap (λ (i : ℕ). i * length xs) (add-one n) ∙ suc-mul n (length xs)) ∙ in_lap n (length xs) (omega arith)

  -- laws of k moves of a lap, in the repetition and in the list
  pub lap_lawful : (n k : ℕ) → k ≤ length xs → LawfulTo m m.rest (again xs) (n * length xs) → LawfulTo m (lap_state m xs n) (list_order xs) k → LawfulTo m m.rest (again xs) (n * length xs + k)
  lap_lawful n k h before here i below =
      ⊎_elim (λ l. before i l)
      (λ l.
      let e : i ≡ n * length xs + (i - n * length xs) = omega arith in
      let within : i - n * length xs < k = omega arith in
      let states = in_lap n (i - n * length xs) (omega arith) in
      let moves = again_at xs n (i - n * length xs) (omega arith) in
      subst (λ (t : ℕ). lawful m (reached m m.rest (again xs) t) (again xs t) ≡ true) (sym e)
      (subst (λ (s : S). lawful m s (again xs (n * length xs + (i - n * length xs))) ≡ true) (sym states)
      (subst (λ (j : ℕ). lawful m (reached m (lap_state m xs n) (list_order xs) (i - n * length xs)) j ≡ true) (sym moves)
      (here (i - n * length xs) within))))
      (cases_lt i (n * length xs))

  pub lap_part : (n k : ℕ) → k ≤ length xs → LawfulTo m m.rest (again xs) (n * length xs + k) → LawfulTo m (lap_state m xs n) (list_order xs) k
  lap_part n k h all i below =
      subst (λ (s : S). lawful m s (get_or xs i 0) ≡ true) (in_lap n i (omega arith))
      (subst (λ (j : ℕ). lawful m (reached m m.rest (again xs) (n * length xs + i)) j ≡ true) (again_at xs n i (omega arith))
      (all (n * length xs + i) (omega arith)))

  pub laps_more : (n : ℕ) → n * length xs + length xs ≡ (n + 1) * length xs
  laps_more n = sym (ap (λ (i : ℕ). i * length xs) (add-one n) ∙ suc-mul n (length xs))

  pub lap_zero : lap_state m xs 0 ≡ m.rest
  unfolding reached
  lap_zero = ap (reached m m.rest (again xs)) (zero-mul (length xs))

  module _ (laws : Laws m) where
    pub laps_proper : (n : ℕ) → LawfulTo m m.rest (again xs) (n * length xs) → m.proper (lap_state m xs n) ≡ true
    laps_proper n h = reached_proper m laws m.rest (again xs) (n * length xs) laws.rest_proper h

    -- each lap begins in a state that covers its end
    pub laps_age : (n : ℕ) → LawfulTo m m.rest (again xs) ((n + 1) * length xs) → Fresher m laws (lap_state m xs n) (lap_state m xs (n + 1))
    laps_age zero h = subst (λ (s : S). Fresher m laws s (lap_state m xs (0 + 1))) (sym lap_zero) (rest_fresher m laws (lap_state m xs (0 + 1)) (laps_proper (0 + 1) h))
    laps_age (suc n) h =
        let e = laps_more (suc n) in
        let lap : LawfulTo m (lap_state m xs (suc n)) (list_order xs) (length xs) = lap_part (suc n) (length xs) (omega arith) (subst (LawfulTo m m.rest (again xs)) (sym e) h) in
        let fewer : LawfulTo m m.rest (again xs) ((n + 1) * length xs) = λ i below. h i (omega (arith, e, laps_more n, ap (λ (k : ℕ). k * length xs) (add-one n))) in
        let before : Fresher m laws (lap_state m xs n) (lap_state m xs (suc n)) = subst (λ (k : ℕ). Fresher m laws (lap_state m xs n) (lap_state m xs k)) (add-one n) (laps_age n fewer) in
        let run = fresher_reached m laws (lap_state m xs n) (lap_state m xs (suc n)) (list_order xs) (length xs) before lap in
        subst (λ (s : S). Fresher m laws s (lap_state m xs (suc n + 1))) (sym (ap (lap_state m xs) (sym (add-one n)) ∙ next_lap n))
        (subst (λ (s : S). Fresher m laws (reached m (lap_state m xs n) (list_order xs) (length xs)) s) (sym (next_lap (suc n))) run)

    -- once a lap ends in a state that covers its beginning, every later lap is lawful
    pub stays_closed : (n j : ℕ) → LawfulTo m m.rest (again xs) ((n + 1) * length xs) → closes m xs n ≡ true → LawfulTo m m.rest (again xs) ((n + j) * length xs) × Fresher m laws (lap_state m xs (n + j)) (lap_state m xs n)
    stays_closed n zero h c =
        let p : LawfulTo m m.rest (again xs) (n * length xs) = λ i below. h i (omega (arith, laps_more n)) in
        subst (λ (k : ℕ). LawfulTo m m.rest (again xs) (k * length xs) × Fresher m laws (lap_state m xs k) (lap_state m xs n)) (sym (add-zero n))
        (p, record { first = laps_proper n p; second = laps_proper n p; covered = laws.covers_itself (lap_state m xs n) (laps_proper n p) })
    stays_closed n (suc j) h c =
        let ih = stays_closed n j h c in
        let lap = lap_part n (length xs) (omega arith) (subst (LawfulTo m m.rest (again xs)) (sym (laps_more n)) h) in
        let runs = fresher_lawful m laws (lap_state m xs (n + j)) (lap_state m xs n) (list_order xs) (length xs) ih.1 lap in
        let ends = fresher_reached m laws (lap_state m xs (n + j)) (lap_state m xs n) (list_order xs) (length xs) ih.1 lap in
        let back : Fresher m laws (lap_state m xs (n + 1)) (lap_state m xs n) = record { first = laps_proper (n + 1) h; second = ih.1.second; covered = c } in
        let next : Fresher m laws (lap_state m xs ((n + j) + 1)) (lap_state m xs (n + 1)) = subst (λ (s : S). Fresher m laws s (lap_state m xs (n + 1))) (sym (next_lap (n + j))) (subst (λ (s : S). Fresher m laws (reached m (lap_state m xs (n + j)) (list_order xs) (length xs)) s) (sym (next_lap n)) ends) in
        let e : (n + j) + 1 ≡ n + suc j = omega arith in
        subst (λ (k : ℕ). LawfulTo m m.rest (again xs) (k * length xs) × Fresher m laws (lap_state m xs k) (lap_state m xs n)) e (
          subst (LawfulTo m m.rest (again xs)) (laps_more (n + j)) (lap_lawful (n + j) (length xs) (omega arith) ih.0 runs),
          fresher_onward m laws _ _ _ next back,
        )

    pub closing_endless : (n : ℕ) → 0 < length xs → LawfulTo m m.rest (again xs) ((n + 1) * length xs) → closes m xs n ≡ true → LawfulForEver m xs
    closing_endless n pos h c = record {
      some_move = pos;
      endless = λ k.
          let more : suc k ≤ n + suc k = omega arith in
          let far : suc k * 1 ≤ (n + suc k) * length xs = mul-le-mul more pos in
          (stays_closed n (suc k) h c).0 k (omega (arith, far));
    }

-- What the checker knows as a lap begins: so many laps are done.
pub record Going {S : Type 0} (m : Meaning S) (xs : List ℕ) (lap : ℕ) (first : S) : Type 0 where
  pub done : ℕ
  pub is : lap ≡ done + 1
  pub only_moves : OnlyMoves m.moves xs
  pub state : first ≡ lap_state m xs done
  pub ran : LawfulTo m m.rest (again xs) (done * length xs)
  pub earlier : (k : ℕ) → k < done → closes m xs k ≡ false
  pub aged : done ≤ m.staleness first

-- a list with a number that is no move is not lawful for ever
pub no_move_refutes : {S : Type 0} (m : Meaning S) (xs : List ℕ) (p : ℕ) → FirstNoMove m.moves xs p → LawfulForEver m xs → ⊥
no_move_refutes m xs p bad good =
    ⊎_elim (λ e. omega (arith, good.some_move))
    (λ h.
    let n = length xs in
    let here : again xs p ≡ get_or xs p 0 = ap (λ (i : ℕ). get_or xs i 0) (mod-eq_of_lt h.0) in
    let low = lawful_move m _ (again xs p) (good.endless p) in
    omega (arith, here, low, h.1))
    bad

-- a list with an unlawful move is not lawful for ever
pub unlawful_refutes : {S : Type 0} (m : Meaning S) (xs : List ℕ) (lap p : ℕ) → FirstUnlawful m xs lap p → LawfulForEver m xs → ⊥
unlawful_refutes {S} m xs lap p bad good =
    let k = lap - 1 in
    let e : k + 1 ≡ lap = omega (arith, bad.from_one) in
    let stops = bad.there k e in
    let goes = subst (λ (j : ℕ). lawful m (reached m m.rest (again xs) (k * length xs + p)) j ≡ true) (again_at xs k p bad.within) (good.endless (k * length xs + p)) in
    both_ways _ stops goes

module _ {S : Type 0} (m : Meaning S) (xs : List ℕ) where
  pub going_start : (first : S) → first ≡ m.rest → OnlyMoves m.moves xs → Going m xs 1 first
  going_start first e h = record {
    done = 0;
    is = refl;
    only_moves = h;
    state = e ∙ sym (lap_zero m xs);
    ran = λ k below. absurd (not-suc-le-zero (subst (λ (n : ℕ). k < n) (zero-mul (length xs)) below));
    earlier = λ k below. absurd (not-suc-le-zero below);
    aged = omega arith;
  }

  pub going_stop : (lap : ℕ) (first : S) (p : ℕ) → Going m xs lap first → LapStopped m first xs p → FirstUnlawful m xs lap p
  going_stop lap first p g h =
      let run : LawfulTo m (lap_state m xs g.done) (list_order xs) p = subst (λ (s : S). LawfulTo m s (list_order xs) p) g.state h.ran in
      let within : p ≤ length xs = omega (arith, h.within) in
      let stop : lawful m (reached m m.rest (again xs) (g.done * length xs + p)) (get_or xs p 0) ≡ false = subst (λ (s : S). lawful m s (get_or xs p 0) ≡ false) (sym (in_lap m xs g.done p within)) (subst (λ (s : S). lawful m (reached m s (list_order xs) p) (get_or xs p 0) ≡ false) g.state h.stops) in
      let same : (k : ℕ) → k + 1 ≡ lap → g.done ≡ k = λ k e. omega (arith, g.is) in
      record {
        only_moves = g.only_moves;
        from_one = omega (arith, g.is);
        within = h.within;
        before = λ k e. subst (λ (n : ℕ). LawfulTo m m.rest (again xs) (n * length xs + p)) (same k e) (lap_lawful m xs g.done p within g.ran run);
        there = λ k e. subst (λ (n : ℕ). lawful m (reached m m.rest (again xs) (n * length xs + p)) (get_or xs p 0) ≡ false) (same k e) stop;
      }

  module _ (lap : ℕ) (first last : S) (g : Going m xs lap first) (h : LapRan m first xs last) where
    lap_runs : LawfulTo m (lap_state m xs g.done) (list_order xs) (length xs)
    lap_runs = subst (λ (s : S). LawfulTo m s (list_order xs) (length xs)) g.state h.ran

    pub all_ran : LawfulTo m m.rest (again xs) ((g.done + 1) * length xs)
    all_ran = subst (LawfulTo m m.rest (again xs)) (laps_more m xs g.done) (lap_lawful m xs g.done (length xs) (omega arith) g.ran lap_runs)

    last_state : last ≡ lap_state m xs (g.done + 1)
    last_state = h.ends ∙ ap (λ (s : S). reached m s (list_order xs) (length xs)) g.state ∙ sym (next_lap m xs g.done)

    closes_is : (b : Bool) → m.covers last first ≡ b → closes m xs g.done ≡ b
    closes_is b e = ap₂ m.covers (sym last_state) (sym g.state) ∙ e

    module _ (laws : Laws m) where
      pub going_closes : m.covers last first ≡ true → LawfulForEver m xs × FirstClosing m xs lap
      going_closes e = (
        closing_endless m xs laws g.done g.only_moves.some_move all_ran (closes_is true e),
        record {
          from_one = omega (arith, g.is);
          closing = λ k eq. subst (λ (n : ℕ). closes m xs n ≡ true) (let same : g.done ≡ k = omega (arith, g.is) in same) (closes_is true e);
          earlier = λ k l. g.earlier k (omega (arith, g.is));
        },
      )

      pub going_ages : m.covers last first ≡ false → (m.staleness first < m.staleness last) × (m.staleness last ≤ m.ceiling)
      going_ages e =
          let f = laps_age m xs laws g.done all_ran in
          let p = subst (λ (s : S). m.proper s ≡ true) (sym last_state) f.second in
          let q = subst (λ (s : S). m.proper s ≡ true) (sym g.state) f.first in
          let cov : m.covers first last ≡ true = ap₂ m.covers g.state last_state ∙ f.covered in
          (laws.staleness_strict first last q p cov e, laws.staleness_capped last p)

      pub going_on : m.covers last first ≡ false → Going m xs (lap + 1) last
      going_on e =
          let a = going_ages e in
          record {
            done = g.done + 1;
            is = ap (λ (n : ℕ). n + 1) g.is;
            only_moves = g.only_moves;
            state = last_state;
            ran = all_ran;
            earlier = below_more (λ k. closes m xs k ≡ false) g.done g.earlier (closes_is false e);
            aged = omega (arith, g.aged, a.0);
          }

-- there is one first unlawful move
module _ {S : Type 0} (m : Meaning S) (xs : List ℕ) where
  not_earlier : (l p k q : ℕ) → FirstUnlawful m xs (l + 1) p → FirstUnlawful m xs (k + 1) q → l * length xs + p < k * length xs + q → ⊥
  not_earlier l p k q a b less =
      let goes = b.before k refl (l * length xs + p) less in
      both_ways _ (a.there l refl) (subst (λ (j : ℕ). lawful m (reached m m.rest (again xs) (l * length xs + p)) j ≡ true) (again_at xs l p a.within) goes)

  pub one_unlawful : (lap p lap' p' : ℕ) → FirstUnlawful m xs lap p → FirstUnlawful m xs lap' p' → (lap ≡ lap') × (p ≡ p')
  one_unlawful lap p lap' p' a b =
      let l = lap - 1 in
      let k = lap' - 1 in
      let el : l + 1 ≡ lap = omega (arith, a.from_one) in
      let ek : k + 1 ≡ lap' = omega (arith, b.from_one) in
      let a' = subst (λ (n : ℕ). FirstUnlawful m xs n p) (sym el) a in
      let b' = subst (λ (n : ℕ). FirstUnlawful m xs n p') (sym ek) b in
      ⊎_elim
      (λ same.
      let quotients = sym (digits_div l a.within) ∙ ap (λ (n : ℕ). n / length xs) same ∙ digits_div k b.within in
      let places = sym (digits_mod l a.within) ∙ ap (λ (n : ℕ). n % length xs) same ∙ digits_mod k b.within in
      (omega (arith, quotients, el, ek), places))
      (λ differ. ⊎_elim (λ less. absurd (not_earlier l p k p' a' b' less)) (λ more. absurd (not_earlier k p' l p b' a' more)) differ)
      (cases_order (l * length xs + p) (k * length xs + p'))

-- what each case of a refusal says
abbrev pub Says : {S : Type 0} → Meaning S → List ℕ → Unfit → Type 0
Says m xs (NoMove p) = FirstNoMove m.moves xs p
Says m xs (Unlawful lap p) = FirstUnlawful m xs lap p

pub list_says : {S : Type 0} (m : Meaning S) (xs : List ℕ) (e : Unfit) → ListFault m xs (told e) → Says m xs e
list_says m xs (NoMove p) (no_move_at q h same) = subst (FirstNoMove m.moves xs) (sym (ap (λ (r : Refusal). r.position) same)) h
list_says m xs (NoMove p) (unlawful_at lap q h same) = absurd (omega (arith, ap (λ (r : Refusal). r.number) same))
list_says m xs (Unlawful lap p) (no_move_at q h same) = absurd (omega (arith, ap (λ (r : Refusal). r.number) same))
list_says m xs (Unlawful lap p) (unlawful_at l q h same) =
    subst (λ (k : ℕ). FirstUnlawful m xs k p) (sym (ap (λ (r : Refusal). r.lap) same))
    (subst (FirstUnlawful m xs l) (sym (ap (λ (r : Refusal). r.position) same)) h)
