-- The panelled reader's lawful orders in ticks. An age is the ticks since the bank's last dwell ended;
-- so an order is lawful for ever exactly when every bank is dwelt on again and again, and none waits longer than its gap.
use Rattle.std.proofs.Common.{◌≡◌, ℕ, zero, suc, ◌+◌, ◌-◌, ◌<◌, ◌≤◌, true, sym, refl, ap, ◌∙◌, subst, ⊎_elim, not-suc-le-zero, add-zero, add-one, arith}
use Rattle.std.proofs.lemmas.Bool.{cases_lt}
use Rattle.rig.specs.Meaning.{lawful}
use Rattle.rig.specs.Orders.{Order, reached, Endless, LawfulTo}
use Rattle.rig.proofs.Runs.{lawful_more, reached_proper}
use Rattle.banks.specs.declared.table.BankTable.{BankTable}
use Rattle.readers.specs.declared.panelled.ReaderState.{ReaderState}
use Rattle.banks.specs.Table.{dwell, gap}
use Rattle.readers.specs.Panelled.{age, settling, state_after, rest_state, panelled}
use Rattle.readers.specs.Rules.{MoveLawful}
use Rattle.readers.specs.Regular.{LawfulIsRegular}
use Rattle.readers.specs.Ticks.{settling_before, clock, begins, ends, NextDwell, FirstDwell, InTime, Regular}
use Rattle.banks.proofs.Spread.{spread_at}
use Rattle.readers.specs.Meanings.{lawful_decides, proper_decides, follows, after_lawful}
use Rattle.readers.specs.RigLaws.{laws}
use Rattle.readers.specs.Clocks.{clock_next, clock_later, Soonest, soonest, Latest, latest}

-- the state after the first n dwells
abbrev state_at : BankTable → Order → ℕ → ReaderState
state_at t o n = reached (panelled t) rest_state o n

-- the age of bank b then
abbrev age_then : BankTable → Order → ℕ → ℕ → ℕ
age_then t o b n = age (state_at t o n) b

-- the settling before the next dwell, as the state has it
abbrev settling_then : BankTable → Order → ℕ → ℕ
settling_then t o n = settling t (state_at t o n).last (o n)

-- the first n dwells are lawful
module _ (t : BankTable) (o : Order) (n : ℕ) (run : LawfulTo (panelled t) rest_state o n) where
  made : (k : ℕ) → k < n → MoveLawful t (state_at t o k) (o k) (settling_then t o k)
  made k l = (lawful_decides t (state_at t o k) (o k)).0 (run k l)

  state_next : (k : ℕ) → k < n → state_at t o (suc k) ≡ state_after t (state_at t o k) (o k)
  unfolding reached
  state_next k l = after_lawful t (state_at t o k) (o k) (run k l)

  settles : (k : ℕ) → k ≤ n → settling_then t o k ≡ settling_before t o k
  unfolding reached
  settles zero l = refl
  settles (suc k) l = ap (λ (s : ReaderState). settling t s.last (o (suc k))) (state_next k l)

  module _ (b : ℕ) (bank : b < t.count) where
    age_next : (k : ℕ) → k < n → age_then t o b (k + 1) ≡ age (state_after t (state_at t o k) (o k)) b
    age_next k l = ap (age_then t o b) (add-one k) ∙ ap (λ (s : ReaderState). age s b) (state_next k l)

    -- a dwell on the bank brings its age to 0
    age_on : (k : ℕ) → k < n → o k ≡ b → age_then t o b (k + 1) ≡ 0
    age_on k l e =
        age_next k l
        ∙ subst (λ (i : ℕ). age (state_after t (state_at t o k) (o k)) i ≡ 0) e (follows t (state_at t o k) (o k) (made k l).bank).ages.own

    -- any other dwell makes it wait on
    age_past : (k : ℕ) → k < n → (o k ≡ b → ⊥) → age_then t o b (k + 1) ≡ age_then t o b k + (settling_before t o k + dwell t (o k))
    age_past k l ne =
        let grown = (follows t (state_at t o k) (o k) (made k l).bank).ages.others b bank (λ e. ne (sym e)) in
        let s : settling_then t o k ≡ settling_before t o k = settles k (omega arith) in
        omega (arith, age_next k l, grown, s)

    -- the age is the ticks since the last dwell on the bank ended
    age_since : (p d : ℕ) → p + 1 + d ≤ n → o p ≡ b → ((k : ℕ) → p < k → k < p + 1 + d → o k ≡ b → ⊥) → ends t o p + age_then t o b (p + 1 + d) ≡ clock t o (p + 1 + d)
    age_since p zero l e quiet =
        let z : p + 1 + 0 ≡ p + 1 = omega arith in
        omega (arith, age_on p (omega arith) e, clock_next t o p, ap (age_then t o b) z, ap (clock t o) z)
    age_since p (suc d) l e quiet =
        let z : p + 1 + suc d ≡ (p + 1 + d) + 1 = omega arith in
        let before = age_since p d (omega arith) e (λ k g m. quiet k g (omega arith)) in
        let more = age_past (p + 1 + d) (omega arith) (quiet (p + 1 + d) (omega arith) (omega arith)) in
        omega (arith, before, more, clock_next t o (p + 1 + d), ap (age_then t o b) z, ap (clock t o) z)

    pub age_last : (p : ℕ) → p < n → o p ≡ b → ((k : ℕ) → p < k → k < n → o k ≡ b → ⊥) → ends t o p + age_then t o b n ≡ clock t o n
    age_last p l e quiet =
        let d : n ≡ p + 1 + (n - (p + 1)) = omega arith in
        let old = age_since p (n - (p + 1)) (omega arith) e (λ k g m. quiet k g (omega arith)) in
        omega (arith, old, ap (age_then t o b) d, ap (clock t o) d)

    age_start : age_then t o b 0 ≡ clock t o 0
    unfolding reached clock
    age_start = spread_at (λ i. 0) b (omega (arith, t.few))

    age_quiet : (k : ℕ) → k ≤ n → ((i : ℕ) → i < k → o i ≡ b → ⊥) → age_then t o b k ≡ clock t o k
    age_quiet zero l quiet = age_start
    age_quiet (suc k) l quiet =
        let before = age_quiet k (omega arith) (λ i g. quiet i (omega arith)) in
        let more = age_past k l (quiet k (omega arith)) in
        omega (arith, before, more, clock_next t o k, ap (age_then t o b) (add-one k), ap (clock t o) (add-one k))

    -- or since the start
    pub age_first : ((k : ℕ) → k < n → o k ≡ b → ⊥) → age_then t o b n ≡ clock t o n
    age_first quiet = age_quiet n (omega arith) quiet

    -- from dwell n on, the first dwell on the bank begins before its age, as it grows from now, passes its gap
    pub record Awaited : Type 0 where
      pub at : ℕ
      pub from : n ≤ at
      pub here : o at ≡ b
      pub before : (k : ℕ) → n ≤ k → k < at → o k ≡ b → ⊥
      pub soon : begins t o at + age_then t o b n ≤ clock t o n + gap t b

    awaited_first : InTime t o b → ((k : ℕ) → k < n → o k ≡ b → ⊥) → Awaited
    awaited_first serve none = record {
      at = serve.start;
      from = ⊎_elim (λ l. absurd (none serve.start l serve.first.here)) (λ l. l) (cases_lt serve.start n);
      here = serve.first.here;
      before = λ k _ l. serve.first.before k l;
      soon = omega (arith, age_first none, serve.soon);
    }

    awaited_next : InTime t o b → Latest o b n → Awaited
    awaited_next serve last =
        let next = serve.next last.at last.here in
        let pair : NextDwell o b last.at next.0 = next.1 in
        let below = last.below in
        record {
          at = next.0;
          from = ⊎_elim (λ l. absurd (last.after next.0 pair.later l pair.to)) (λ l. l) (cases_lt next.0 n);
          here = pair.to;
          before = λ k l. pair.between k (omega arith);
          soon = omega (arith, age_last last.at below last.here last.after, next.2);
        }

    pub awaited : InTime t o b → Awaited
    awaited serve = ⊎_elim (awaited_next serve) (awaited_first serve) (latest o b n)

-- in a regular order each dwell is lawful where those before it are
module _ (t : BankTable) (o : Order) (reg : Regular t o) where
  module _ (n : ℕ) (run : LawfulTo (panelled t) rest_state o n) where
    -- the dwell's own bank is awaited for this dwell
    own_soon : age_then t o (o n) n + settling_then t o n ≤ gap t (o n)
    own_soon =
        let bank = reg.on_bank n in
        let x = awaited t o n run (o n) bank (reg.served (o n) bank) in
        let from = x.from in
        let same : x.at ≡ n = ⊎_elim (λ l. absurd (x.before n (omega arith) l refl)) (λ l. omega arith) (cases_lt n x.at) in
        omega (arith, x.soon, ap (begins t o) same, settles t o n run n (omega arith))

    -- any other bank for a later one
    others_soon : (i : ℕ) → i < t.count → (i ≡ o n → ⊥) → age_then t o i n + settling_then t o n + dwell t (o n) ≤ gap t i
    others_soon i bank ne =
        let x = awaited t o n run i bank (reg.served i bank) in
        let from = x.from in
        let later : n < x.at = ⊎_elim (λ l. l) (λ l. absurd (ne (sym x.here ∙ ap o (let same : x.at ≡ n = omega arith in same)))) (cases_lt n x.at) in
        omega (arith, x.soon, clock_later t o n x.at later, settles t o n run n (omega arith))

    regular_next : lawful (panelled t) (state_at t o n) (o n) ≡ true
    regular_next =
        (lawful_decides t (state_at t o n) (o n)).1 (record {
          proper = (proper_decides t (state_at t o n)).0 (reached_proper (panelled t) (laws t) rest_state o n (laws t).rest_proper run);
          bank = reg.on_bank n;
          dwell = record { own = own_soon; others = others_soon };
        })

  regular_to : (n : ℕ) → LawfulTo (panelled t) rest_state o n
  regular_to zero = λ k l. absurd (not-suc-le-zero l)
  regular_to (suc n) =
      subst (LawfulTo (panelled t) rest_state o) (add-one n)
      (lawful_more (panelled t) rest_state o n (regular_to n) (regular_next n (regular_to n)))

  pub regular_lawful : Endless (panelled t) rest_state o
  regular_lawful n = regular_next n (regular_to n)

-- an endless lawful order
module _ (t : BankTable) (o : Order) (run : Endless (panelled t) rest_state o) where
  run_to : (n : ℕ) → LawfulTo (panelled t) rest_state o n
  run_to n k _ = run k

  made_at : (n : ℕ) → MoveLawful t (state_at t o n) (o n) (settling_then t o n)
  made_at n = (lawful_decides t (state_at t o n) (o n)).0 (run n)

  -- every dwell is on a bank of the table
  pub on_bank : (n : ℕ) → o n < t.count
  on_bank n = (made_at n).bank

  -- each dwell takes a tick at least
  clock_far : (m d : ℕ) → clock t o m + d ≤ clock t o (m + d)
  clock_far m zero = omega (arith, ap (clock t o) (add-zero m))
  clock_far m (suc d) =
      let e : m + suc d ≡ (m + d) + 1 = omega arith in
      omega (arith, clock_far m d, clock_next t o (m + d), ap (clock t o) e, (t.dwells (o (m + d)) (on_bank (m + d))).0)

  module _ (b : ℕ) (bank : b < t.count) where
    on_within_gap : (q : ℕ) → o q ≡ b → age_then t o b q + settling_before t o q ≤ gap t b
    on_within_gap q e =
        let own = subst (λ (i : ℕ). age_then t o i q + settling_then t o q ≤ gap t i) e (made_at q).dwell.own in
        omega (arith, own, settles t o q (run_to q) q (omega arith))

    -- no age exceeds its gap
    within_gap : (n : ℕ) → age_then t o b n ≤ gap t b
    within_gap n = (made_at n).proper.ages.banks b bank

    -- the first dwell on the bank begins by its gap
    pub first_soon : (q : ℕ) → FirstDwell o b q → begins t o q ≤ gap t b
    first_soon q f = omega (arith, age_first t o q (run_to q) b bank f.before, on_within_gap q f.here)

    -- no wait is longer than its gap
    pub next_soon : (p q : ℕ) → NextDwell o b p q → begins t o q ≤ ends t o p + gap t b
    next_soon p q x = omega (arith, age_last t o q (run_to q) b bank p x.later x.from x.between, on_within_gap q x.to)

    -- the bank is dwelt on early: otherwise its age would pass every gap
    pub has_first : Soonest o b 0 65534
    has_first =
        ⊎_elim (λ x. x)
        (λ none. absurd (omega (arith, age_first t o 65534 (run_to 65534) b bank (λ k l. none k (omega arith) (omega arith)), clock_far 0 65534, within_gap 65534, (t.gaps b bank).1)))
        (soonest o b 0 65534)

    -- and again after each dwell on it
    pub has_next : (p : ℕ) → o p ≡ b → Soonest o b (p + 1) 65534
    has_next p e =
        ⊎_elim (λ x. x)
        (λ none.
        let far = p + 1 + 65534 in
        let old = age_last t o far (run_to far) b bank p (omega arith) e (λ k l m. none k (omega arith) m) in
        absurd (omega (arith, old, clock_far (p + 1) 65534, clock_next t o p, within_gap far, (t.gaps b bank).1)))
        (soonest o b (p + 1) 65534)

    pub in_time : InTime t o b
    in_time =
        let f = has_first in
        let first : FirstDwell o b f.at = record { here = f.here; before = λ k l. f.before k (omega arith) l } in
        record {
          start = f.at;
          first = first;
          soon = first_soon f.at first;
          next = λ p e.
              let n = has_next p e in
              let pair : NextDwell o b p n.at = record { later = omega (arith, n.from); from = e; to = n.here; between = λ k l m. n.before k (omega arith) m } in
              (n.at, pair, next_soon p n.at pair);
        }

  pub lawful_regular : Regular t o
  lawful_regular = record { on_bank = on_bank; served = in_time }

pub lawful_is_regular : LawfulIsRegular
lawful_is_regular t o = (lawful_regular t o, regular_lawful t o)
