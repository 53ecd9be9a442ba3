-- No swap is missed by a round that is regular in ticks.
use Rattle.std.proofs.Common.{◌≡◌, ℕ, zero, suc, ◌+◌, ◌<◌, ◌≤◌, sym, refl, ap, ◌∙◌, subst, ⊎_elim, arith}
use Rattle.std.proofs.lemmas.Bool.{cases_lt}
use Rattle.rig.specs.Orders.{Order}
use Rattle.sheets.specs.declared.sheet.Sheet.{Sheet}
use Rattle.sheets.specs.Feeders.{feeder_at}
use Rattle.banks.specs.declared.table.BankTable.{BankTable}
use Rattle.banks.specs.Table.{dwell, gap}
use Rattle.readers.specs.Ticks.{clock, begins, ends, NextDwell, InTime}
use Rattle.readers.specs.Clocks.{clock_later}
use Rattle.readers.proofs.Served.{lawful_regular}
use Rattle.rounds.specs.declared.record.RoundRecord.{RoundRecord}
use Rattle.running.specs.Told.{Reply, order_of, reply_at}
use Rattle.banks.specs.FromSheet.{TableOf}
use Rattle.running.specs.Swaps.{Replies, ticks_told, dwell_begins, dwell_ends, NoSwapMissed}

-- a bank that is served in time, and a tick that has not come yet at the start
module _ (t : BankTable) (o : Order) (b : ℕ) (bank : b < t.count) (serve : InTime t o b) (tick : ℕ) (some : 0 < tick) where
  -- a dwell on the bank ends at the tick or later, and begins less than the gap after it
  record Around : Type 0 where
    pub at : ℕ
    pub here : o at ≡ b
    pub late : tick ≤ ends t o at
    pub soon : begins t o at < tick + gap t b

  -- from a dwell that begins so soon, one dwell on the bank after another: each ends later than the one before
  around_from : (n p : ℕ) → o p ≡ b → begins t o p < tick + gap t b → tick ≤ ends t o p + n → Around
  around_from zero p e soon late = record { at = p; here = e; late = omega arith; soon = soon }
  around_from (suc n) p e soon late =
      ⊎_elim
      (λ l.
      let next = serve.next p e in
      let pair : NextDwell o b p next.0 = next.1 in
      let ticks : 1 ≤ dwell t (o next.0) = subst (λ (i : ℕ). 1 ≤ dwell t i) (sym pair.to) (t.dwells b bank).0 in
      around_from n next.0 pair.to (omega (arith, next.2)) (omega (arith, clock_later t o p next.0 pair.later)))
      (λ l. record { at = p; here = e; late = l; soon = soon })
      (cases_lt (ends t o p) tick)

  around : Around
  around = around_from tick serve.start serve.first.here (omega (arith, serve.soon)) (omega arith)

-- replies that tell a record's endless order
module _ (r : RoundRecord) (f : Replies) (all : (n : ℕ) → f n ≡ reply_at r n) where
  -- the ticks told are the clock of the order
  ticks_clock : (n : ℕ) → ticks_told f n ≡ clock r.table (order_of r) n
  unfolding ticks_told clock
  ticks_clock zero = refl
  ticks_clock (suc n) = omega (arith, ticks_clock n, ap (λ (x : Reply). x.1) (all n), ap (λ (x : Reply). x.2) (all n))

  begins_told : (n : ℕ) → dwell_begins f n ≡ begins r.table (order_of r) n
  begins_told n = omega (arith, ticks_clock n, ap (λ (x : Reply). x.1) (all n))

  ends_told : (n : ℕ) → dwell_ends f n ≡ ends r.table (order_of r) n
  ends_told n = omega (arith, begins_told n, ap (λ (x : Reply). x.2) (all n))

  -- a dwell that ends late enough, and begins soon enough, shares the reading time
  pub no_swap_missed : (s : Sheet) → TableOf s r.table → NoSwapMissed s f
  no_swap_missed s of k l t long h =
      let x = feeder_at s.feeders k in
      let b = x.bank in
      let own = of.banks b (s.known k l) in
      let bank : b < r.table.count = omega (arith, of.count, s.known k l) in
      let serve = (lawful_regular r.table (order_of r) r.kept).served b bank in
      let reading = (s.readings k l).0 in
      let n = around r.table (order_of r) b bank serve (t + x.reading) (omega arith) in
      let dwells : dwell r.table (order_of r n.at) ≡ dwell r.table b = ap (dwell r.table) n.here in
      record {
        call = n.at;
        on_bank = ap (λ (y : Reply). y.0) (all n.at) ∙ n.here;
        enough = omega (arith, begins_told n.at, ends_told n.at, n.late, n.soon, dwells, own.dwell.each k l refl, own.gap.each k l refl, (s.swaps k l).0);
      }
