-- What the readers' rules on single moves come to over whole orders of dwells.
use Rattle.std.specs.Prelude.{◌≡◌, ℕ}
use Rattle.std.proofs.Common.{lit≤}
use Rattle.rig.specs.Meaning.{lawful}
use Rattle.rig.specs.Orders.{Order, Endless, reached}
use Rattle.banks.specs.declared.table.BankTable.{BankTable}
use Rattle.readers.specs.Panelled.{panelled, rest_state}
use Rattle.readers.specs.Plain.{plain, plain_rest}
use Rattle.readers.specs.Ticks.{Regular}

-- An endless order is lawful for the panelled reader from rest exactly when it is regular in ticks.
abbrev pub LawfulIsRegular : Type 0
LawfulIsRegular = (t : BankTable) (o : Order) → (Endless (panelled t) rest_state o → Regular t o) × (Regular t o → Endless (panelled t) rest_state o)

-- Where the settle time is 0, the plain and the panelled reader find the same moves of every order lawful, each in the state that it has reached from rest.
abbrev pub ReadersAgree : Type 0
ReadersAgree = (t : BankTable) → t.settle ≡ 0 → (o : Order) (n : ℕ) → lawful (plain t) (reached (plain t) plain_rest o n) (o n) ≡ lawful (panelled t) (reached (panelled t) rest_state o n) (o n)

-- the same table with settle time 0
abbrev pub without_settling : BankTable → BankTable
without_settling t = record {
  count = t.count;
  settle = 0;
  banks = t.banks;
  places = t.places;
  enough = t.enough;
  few = t.few;
  settles = lit≤ tt;
  panels = t.panels;
  dwells = t.dwells;
  gaps = t.gaps;
  unused = t.unused;
}

-- An endless order is lawful for the plain reader from rest exactly when it is regular in ticks without settling.
abbrev pub PlainIsRegular : Type 0
PlainIsRegular = (t : BankTable) (o : Order) → (Endless (plain t) plain_rest o → Regular (without_settling t) o) × (Regular (without_settling t) o → Endless (plain t) plain_rest o)
