-- Tests that compute whether a claim is true of a rig.
use Rattle.std.proofs.Common.{◌≡◌, ℕ, ◌+◌, ◌-◌, ◌*◌, ◌<◌, Bool, true, false, not, ◌&&◌, ltb, length, get_or, subst, arith}
use Rattle.std.proofs.lemmas.Bool.{and_parts, ltb-true, not-true}
use Rattle.rig.specs.Meaning.{Laws, lawful}
use Rattle.rig.specs.Guides.{Guided}
use Rattle.rig.specs.Orders.{reached, LawfulTo, again}
use Rattle.banks.specs.Places.{every_below}
use Rattle.banks.proofs.Below.{every_true}
use Rattle.readers.proofs.Computed.{runs, closes_second, closes_accepts}
use Rattle.worked_cases.specs.Cases.{Claim, TrueOf}
use Rattle.worked_cases.specs.Cases.Claim.{accepted, stopped, rest_hopeless}

module _ {S : Type 0} (m : Guided S) where
  -- accepted: two laps run, and the second closes; stopped: the list has only moves, those before the place are lawful, and the one at the place is not
  unfoldable pub test : Claim → Bool
  test (accepted xs) = closes_second m.rig xs
  test (stopped xs lap p) =
      every_below (length xs) (λ k. ltb (get_or xs k 0) m.rig.moves)
      && ((ltb 0 lap && ltb p (length xs))
      && (runs m.rig xs ((lap - 1) * length xs + p) && not (lawful m.rig (reached m.rig m.rig.rest (again xs) ((lap - 1) * length xs + p)) (get_or xs p 0))))
  test rest_hopeless = m.guide.hopeless m.rig.rest

  pub claim_true : Laws m.rig → (c : Claim) → test c ≡ true → TrueOf m c
  unfolding test
  claim_true laws (accepted xs) h = closes_accepts m.rig laws xs h
  claim_true laws (stopped xs lap pos) h =
      let p = and_parts (every_below (length xs) (λ k. ltb (get_or xs k 0) m.rig.moves)) _ h in
      let q = and_parts (ltb 0 lap && ltb pos (length xs)) _ p.1 in
      let w = and_parts (ltb 0 lap) (ltb pos (length xs)) q.0 in
      let r = and_parts (runs m.rig xs ((lap - 1) * length xs + pos)) _ q.1 in
      let inside : pos < length xs = ltb-true pos (length xs) w.1 in
      let same : (k : ℕ) → k + 1 ≡ lap → lap - 1 ≡ k = λ k e. omega arith in
      record {
        only_moves = record { some_move = omega arith; each = λ k l. ltb-true (get_or xs k 0) m.rig.moves (every_true _ (length xs) p.0 k l) };
        from_one = ltb-true 0 lap w.0;
        within = inside;
        before = λ k e. subst (λ (n : ℕ). LawfulTo m.rig m.rig.rest (again xs) (n * length xs + pos)) (same k e) (every_true _ ((lap - 1) * length xs + pos) r.0);
        there = λ k e. subst (λ (n : ℕ). lawful m.rig (reached m.rig m.rig.rest (again xs) (n * length xs + pos)) (get_or xs pos 0) ≡ false) (same k e) (not-true _ r.1);
      }
  claim_true laws rest_hopeless h = h
