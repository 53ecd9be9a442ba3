-- What entering a state and settling a move come to, from what the scans found.
use Rattle.std.proofs.Common.{◌≡◌, ℕ, ◌<◌, ◌≤◌, Bool, true, false, not, ◌&&◌, eqb, List, length, get_or, take, Some, None, Decides, MatchOption, Option, unwrap_or, sym, subst, arith}
use Rattle.std.proofs.lemmas.Bool.Decides.{not_from_Decides}
use Rattle.std.proofs.lemmas.List.Elements.{at_read}
use Rattle.rig.specs.Meaning.{Laws, lawful, after}
use Rattle.rig.specs.Guides.{Guided}
use Rattle.rig.proofs.Runs.{lawful_proper}
use Rattle.search.specs.declared.row.Row.{Row}
use Rattle.search.specs.Rows.{DeadHolds, Latest, covered_by, on_path, untried_in, usable}
use Rattle.search.specs.Steps.{Dead, Leads, Next, Settles, Unlike}
use Rattle.search.specs.Steps.Next.{from_end}
use Rattle.search.proofs.Rows.{dead_from_taken, latest_from_taken}

-- what holds of a value, or else of the one in its place
pub holds_or : {X : Type 0} (P : Type 0) (Q : X → Type 0) (o : Option X) (d : X) → MatchOption o P Q → (P → Q d) → Q (unwrap_or o d)
holds_or P Q None d h otherwise = otherwise h
holds_or P Q (Some x) d h otherwise = h

module _ {S : Type 0} (m : Guided S) (rows : List (Row S)) (n : ℕ) where
  -- where the scans of the rows taken find nothing
  pub unlike : n ≤ usable (length rows) → (s : S) (b : Bool) → Latest (covered_by m.rig s) (take n rows) (length (take n rows)) None → Decides b (DeadHolds (take n rows) (length (take n rows)) s) → b ≡ false → Unlike m rows n s
  unlike within s b path dead e = record {
    path = latest_from_taken rows n (omega (arith, within)) (covered_by m.rig s) None path;
    dead = not_from_Decides b (dead_from_taken rows n (omega (arith, within)) s b dead) e;
  }

  -- r is read at the end of the path, and j is untried in it
  module _ (at : ℕ) (within : n ≤ usable (length rows)) (end : Latest on_path rows n (Some at)) (r : Row S) (read : r ≡ get_or rows at r) (j : ℕ) (was : untried_in r j ≡ true) where
    in_rows : at < length rows
    in_rows = omega (arith, end.0)

    pub enters : Laws m.rig → (s : S) → lawful m.rig r.state j ≡ true → s ≡ after m.rig r.state j → Next m rows n j s × (m.rig.proper s ≡ true)
    enters laws s can to = (
      from_end at end (at_read rows (λ x. Leads m rows n x j s) at r in_rows read (record { was = was; can = can; to = to })),
      subst (λ x. m.rig.proper x ≡ true) (sym to) (laws.stays_proper r.state j (lawful_proper m.rig r.state j can) can),
    )

    pub settles : (row : Row S) → row.state ≡ r.state → row.by ≡ r.by → ((k : ℕ) → untried_in row k ≡ (untried_in r k && not (eqb k j))) → (lawful m.rig r.state j ≡ true → Dead m rows n (after m.rig r.state j)) → Settles m rows n at row
    settles row state by less lost = record {
      ends = end;
      move = j;
      same = at_read rows (λ x. (row.state ≡ x.state) × (row.by ≡ x.by)) at r in_rows read (state, by);
      was = at_read rows (λ x. untried_in x j ≡ true) at r in_rows read was;
      less = at_read rows (λ x. (k : ℕ) → untried_in row k ≡ (untried_in x k && not (eqb k j))) at r in_rows read less;
      lost = subst (λ s. lawful m.rig s j ≡ true → Dead m rows n (after m.rig s j)) (sym state) lost;
    }
