-- A list makes a record, and is stored, exactly when its repetition keeps every gap, in ticks.
use Rattle.std.proofs.Common.{ℕ, Bool, List, Decides}
use Rattle.std.proofs.lemmas.Bool.Decides.{Decides-like}
use Rattle.rig.specs.Orders.{again}
use Rattle.banks.specs.declared.table.BankTable.{BankTable}
use Rattle.readers.proofs.Served.{lawful_is_regular}
use Rattle.rounds.specs.Record.{MakesRecord, KeepsGaps}
use Rattle.rounds.specs.Stored.{SomeStored, SomeRegular}

module _ (t : BankTable) (xs : List ℕ) where
  pub makes_keeps : MakesRecord t xs → KeepsGaps t xs
  makes_keeps m = record { some_dwell = m.kept.some_move; few = m.few; regular = (lawful_is_regular t (again xs)).0 m.kept.endless }

  pub keeps_makes : KeepsGaps t xs → MakesRecord t xs
  keeps_makes k = record { few = k.few; kept = record { some_move = k.some_dwell; endless = (lawful_is_regular t (again xs)).1 k.regular } }

  pub decides_keeps : (r : Bool) → Decides r (MakesRecord t xs) → Decides r (KeepsGaps t xs)
  decides_keeps r = Decides-like r makes_keeps keeps_makes

pub decides_regular : (bytes : List ℕ) (r : Bool) → Decides r (SomeStored bytes) → Decides r (SomeRegular bytes)
decides_regular bytes r =
    Decides-like r
    (λ s. record {
      table = s.table;
      list = s.list;
      keeps = makes_keeps s.table s.list (record { few = s.stored.few; kept = s.stored.kept });
      text = s.stored.text;
    })
    (λ s.
    let made = keeps_makes s.table s.list s.keeps in
    record { table = s.table; list = s.list; stored = record { few = made.few; kept = made.kept; text = s.text } })
