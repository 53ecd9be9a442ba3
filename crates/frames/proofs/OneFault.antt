-- A good line is not bad, and what is wrong with a bad line is one thing only: the same as where several kinds may stand.
use Rattle.std.proofs.Common.{◌≡◌, ℕ, List, refl, eqb}
use Rattle.std.proofs.lemmas.Bool.{eq-eqb}
use Rattle.refusals.specs.declared.Refusal.{Refusal}
use Rattle.frames.specs.BadLines.{BadLine}
use Rattle.frames.proofs.BadLinesAmong.{among_from_one}
use Rattle.frames.proofs.Apart.{GoodLine}
use Rattle.frames.proofs.OneFaultAmong.{good_line_not_bad_among, one_bad_line_among}

pub good_line_not_bad : (due : ℕ) (bad-column : List ℕ → ℕ) (bytes body after : List ℕ) (g : GoodLine due bad-column bytes body after) (line : ℕ) (r : Refusal) → BadLine due bad-column bytes line r → ⊥
good_line_not_bad due bad-column bytes body after g line r bad =
    good_line_not_bad_among due bad-column bytes body after g (eqb due) (λ _. bad-column) (eq-eqb due due refl) refl line r
    (among_from_one due bad-column bytes line r bad)

-- One refusal of a line at most.
pub one_bad_line : (due : ℕ) (bad-column : List ℕ → ℕ) (bytes : List ℕ) (line : ℕ) (r s : Refusal) → BadLine due bad-column bytes line r → BadLine due bad-column bytes line s → r ≡ s
one_bad_line due bad-column bytes line r s bad worse =
    one_bad_line_among (eqb due) (λ _. bad-column) bytes line r s (among_from_one due bad-column bytes line r bad) (among_from_one due bad-column bytes line s worse)
