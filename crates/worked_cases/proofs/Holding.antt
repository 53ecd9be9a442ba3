-- Every worked case is established, by its tests.
use Rattle.std.proofs.Common.{◌≡◌, Bool, true, List, [], ◌∷◌, All, refl}
use Rattle.std.specs.List.{AllByRecursion}
use Rattle.std.proofs.lemmas.List.Elements.{All-cons, All-nil}
use Rattle.rig.specs.Orders.{reached}
use Rattle.rig.specs.Sets.{some_below}
use Rattle.banks.specs.declared.table.BankTable.{BankTable}
use Rattle.banks.specs.Places.{every_below, spread, sum_below}
use Rattle.banks.proofs.Makers.{within, table}
use Rattle.readers.specs.Panelled.{guided_panelled}
use Rattle.readers.specs.Plain.{guided_plain}
use Rattle.readers.specs.RigLaws.{laws}
use Rattle.readers.specs.PlainLaws.{plain_laws}
use Rattle.worked_cases.specs.Cases.{Case, Claim, Established, Numbers, Reader, TrueOfReader, worked_cases}
use Rattle.worked_cases.specs.Cases.Reader.{plain_reader, panelled_reader}
use Rattle.worked_cases.proofs.Claims.{test, claim_true}

reader_test : Reader → BankTable → Claim → Bool
reader_test plain_reader t = test (guided_plain t)
reader_test panelled_reader t = test (guided_panelled t)

reader_true : (r : Reader) (t : BankTable) (c : Claim) → reader_test r t c ≡ true → TrueOfReader r t c
unfolding reader_test
reader_true plain_reader t = claim_true (guided_plain t) (plain_laws t)
reader_true panelled_reader t = claim_true (guided_panelled t) (laws t)

table_numbers : (c : Case) (good : within c.settle c.banks ≡ true) → Numbers c.settle c.banks (table c.settle c.banks good)
unfolding table
table_numbers c good = record { same_settle = refl; same_count = refl; same_banks = refl }

established : (c : Case) (good : within c.settle c.banks ≡ true) → reader_test c.reader (table c.settle c.banks good) c.claim ≡ true → Established c
established c good h = record {
  table = table c.settle c.banks good;
  numbers = table_numbers c good;
  holds = reader_true c.reader (table c.settle c.banks good) c.claim h;
}

one_by_one : (cs : List Case) → AllByRecursion Established cs → All Established cs
one_by_one [] h = All-nil Established
one_by_one (c ∷ cs) h = All-cons Established c cs h.0 (one_by_one cs h.1)

pub cases_hold : All Established worked_cases
unfolding within reader_test table test reached every_below spread some_below sum_below
cases_hold = one_by_one worked_cases (established _ refl refl, (established _ refl refl, (established _ refl refl, (established _ refl refl, (established _ refl refl, (established _ refl refl, (established _ refl refl, (established _ refl refl, tt))))))))
