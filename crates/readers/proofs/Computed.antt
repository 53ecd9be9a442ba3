-- Tests that compute whether a list is lawful for ever.
use Rattle.std.proofs.Common.{◌≡◌, ℕ, ◌*◌, Bool, true, ◌&&◌, ltb, List, length}
use Rattle.std.proofs.lemmas.Bool.{and_parts, ltb-true}
use Rattle.rig.specs.Meaning.{Meaning, Laws, lawful}
use Rattle.rig.specs.Orders.{reached, again, LawfulForEver}
use Rattle.rig.specs.Checks.{closes}
use Rattle.rig.proofs.Laps.{closing_endless}
use Rattle.banks.specs.Places.{every_below}
use Rattle.banks.proofs.Below.{every_true}

module _ {S : Type 0} (m : Meaning S) where
  -- the first n moves of the repetition are lawful from rest
  abbrev pub runs : List ℕ → ℕ → Bool
  runs xs n = every_below n (λ k. lawful m (reached m m.rest (again xs) k) (again xs k))

  -- two laps run, and the second closes
  abbrev pub closes_second : List ℕ → Bool
  closes_second xs = ltb 0 (length xs) && (runs xs (2 * length xs) && closes m xs 1)

  pub closes_accepts : Laws m → (xs : List ℕ) → closes_second xs ≡ true → LawfulForEver m xs
  closes_accepts laws xs h =
      let p = and_parts (ltb 0 (length xs)) _ h in
      let q = and_parts (runs xs (2 * length xs)) (closes m xs 1) p.1 in
      closing_endless m xs laws 1 (ltb-true 0 (length xs) p.0) (every_true _ (2 * length xs) q.0) q.1
