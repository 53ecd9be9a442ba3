-- All laps of a round but the first are told alike.
use Rattle.std.proofs.Common.{◌≡◌, ℕ, suc, ◌+◌, ◌-◌, ◌*◌, ◌<◌, List, length, get_or, sym, ap, ◌∙◌, arith}
use native.Mathlib.Nat.{add-mod_right}
use Rattle.rig.specs.Orders.{Order, again}
use Rattle.banks.specs.declared.table.BankTable.{BankTable}
use Rattle.readers.specs.Ticks.{settling_before}
use Rattle.rounds.specs.declared.record.RoundRecord.{RoundRecord}
use Rattle.rounds.specs.Record.{list_of}
use Rattle.running.specs.Told.{order_of, reply_at}

-- one lap later the order names the same bank
lap_later : (xs : List ℕ) (k : ℕ) → again xs (k + length xs) ≡ again xs k
lap_later xs k = ap (λ (i : ℕ). get_or xs i 0) (add-mod_right k (length xs))

-- and from the second dwell on the settling is the same too
settling_later : (t : BankTable) (o : Order) (d : ℕ) → ((k : ℕ) → o (k + d) ≡ o k) → (j : ℕ) → settling_before t o (suc (j + d)) ≡ settling_before t o (suc j)
settling_later t o d lap j =
    let from = lap j in
    let next : o (suc (j + d)) ≡ o (suc j) = ap o (let e : suc (j + d) ≡ suc j + d = omega arith in e) ∙ lap (suc j) in
    cc

reply_later : (r : RoundRecord) (j : ℕ) → reply_at r (suc (j + length (list_of r))) ≡ reply_at r (suc j)
reply_later r j =
    let d = length (list_of r) in
    let next : order_of r (suc (j + d)) ≡ order_of r (suc j) = ap (order_of r) (let e : suc (j + d) ≡ suc j + d = omega arith in e) ∙ lap_later (list_of r) (suc j) in
    let ticks = settling_later r.table (order_of r) d (lap_later (list_of r)) j in
    cc

-- so what comes from the second lap on comes from the third lap on
pub lap_back : (r : RoundRecord) (place : ℕ) → 0 < length (list_of r) → place + 1 ≡ 2 * length (list_of r) → (n : ℕ) → reply_at r (length (list_of r) + n) ≡ reply_at r (place + (n + 1))
lap_back r place some end n =
    let d = length (list_of r) in
    let j = d + n - 1 in
    let back : d + n ≡ suc j = omega arith in
    let on : place + (n + 1) ≡ suc (j + d) = omega arith in
    ap (reply_at r) back ∙ sym (ap (reply_at r) on ∙ reply_later r j)
