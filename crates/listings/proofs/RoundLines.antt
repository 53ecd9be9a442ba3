-- The lines of a stored round: how long they are, and that those of all banks and of all chunks of the list are its text.
use Rattle.std.proofs.Common.{◌≡◌, ℕ, zero, suc, ◌+◌, ◌*◌, min, List, [], ◌∷◌, ◌++◌, map, length, take, drop, sym, refl, ap, ◌∙◌, zero-add, add-one, ⊎_elim, arith}
use Rattle.std.specs.List.{flat_map, range_with_len}
use Rattle.std.specs.Iterator.{AlwaysYields}
use Rattle.std.specs.declared.slice.Chunks.{Chunks}
use Rattle.std.specs.Slice.Iter.{chunks_rest, chunks_size, chunks_steps}
use Rattle.std.proofs.lemmas.Iterator.{YieldsList}
use Rattle.std.proofs.lemmas.List.Folds.{flat_map-map}
use Rattle.std.proofs.lemmas.List.FromFn.{map-range_with_len_more}
use Rattle.std.proofs.lemmas.List.{map-append, append-nil, length-append, length-take, length-drop, take_all, take_at, drop_all, drop_at, drop-drop, nil_from_length}
use Rattle.std.proofs.lemmas.Bool.{cases_lt}
use Rattle.frames.specs.Digits.{numeral}
use Rattle.banks.specs.declared.table.Bank.{Bank}
use Rattle.banks.specs.declared.table.BankTable.{BankTable}
use Rattle.banks.specs.Limits.{bank_at}
use Rattle.banks.specs.Stored.{bank_line, bank_lines}
use Rattle.rounds.specs.Parts.{part_size, part_line, part, part_lines, parts_of}
use Rattle.rounds.specs.Stored.{round_text}
use Rattle.listings.specs.declared.fields.Field.{Field}
use Rattle.listings.specs.Texts.{field_text, line_text}
use Rattle.listings.specs.declared.lines.BankLine.{BankLine}
use Rattle.listings.proofs.Puts.{joined_next}

pub length_pairs : (xs : List ℕ) → length (flat_map (numeral 2) xs) ≡ 2 * length xs
length_pairs [] = refl
length_pairs (x ∷ xs) = omega (arith, length-append (numeral 2 x) (flat_map (numeral 2) xs), length_pairs xs)

-- a bank with its number
abbrev pub numbered : List Bank → ℕ → BankLine
numbered bs i = record { 0 = i; 1 = bank_at bs i }

pub length_banks : (bs : List Bank) (n : ℕ) → length (bank_lines bs n) ≡ 15 * n
unfolding bank_lines
length_banks bs zero = refl
length_banks bs (suc n) = omega (arith, length-append (bank_lines bs n) (bank_line n (bank_at bs n)), length_banks bs n)

-- all parts before the last are full
pub length_parts : (xs : List ℕ) (n : ℕ) → length (part_lines xs n) ≡ 5 * n + 2 * min (part_size * n) (length xs)
unfolding part_lines
length_parts xs zero = omega arith
length_parts xs (suc n) =
    let p = part xs n in
    omega (arith, length-append (part_lines xs n) (part_line p), length-append (flat_map (numeral 2) p) (10 ∷ []), length_pairs p, length-take part_size (drop (part_size * n) xs), length-drop (part_size * n) xs, length_parts xs n)

pub length_round : (t : BankTable) (xs : List ℕ) → length (round_text t xs) ≡ 13 + 15 * t.count + 5 * parts_of (length xs) + 2 * length xs
length_round t xs =
    let banks = bank_lines t.banks t.count in
    let parts = part_lines xs (parts_of (length xs)) in
    omega (arith, length-append banks parts, length_banks t.banks t.count, length_parts xs (parts_of (length xs)))

-- the fields of a part's line: its kind, the number of its banks, and these
abbrev pub part_head : List ℕ → List Field
part_head xs = record { 0 = 2; 1 = 19 } ∷ record { 0 = 2; 1 = length xs } ∷ []

abbrev pub two_digits : ℕ → Field
two_digits b = record { 0 = 2; 1 = b }

pub part_text : (xs : List ℕ) → line_text (part_head xs ++ map two_digits xs) ≡ part_line xs
part_text xs = ap (λ (t : List ℕ). numeral 2 19 ++ (numeral 2 (length xs) ++ (t ++ 10 ∷ []))) (flat_map-map field_text two_digits xs)

-- the lines of the banks below n, one for each number
pub banks_text : (bs : List Bank) (n : ℕ) → flat_map (λ (l : BankLine). bank_line l.0 l.1) (map (numbered bs) (range_with_len 0 n)) ≡ bank_lines bs n
unfolding bank_lines
banks_text bs zero = refl
banks_text bs (suc n) =
    let text : BankLine → List ℕ = λ l. bank_line l.0 l.1 in
    let front = map (numbered bs) (range_with_len 0 n) in
    ap (λ m. flat_map text (map (numbered bs) (range_with_len 0 m))) (sym (add-one n)) ∙ ap (flat_map text) (map-range_with_len_more (numbered bs) 0 n n (zero-add n)) ∙ joined_next text front (numbered bs n)
    ∙ ap (λ (t : List ℕ). t ++ bank_line n (bank_at bs n)) (banks_text bs n)

-- the lines of the first n parts, one for each chunk
pub parts_text : (xs : List ℕ) (n : ℕ) → flat_map part_line (map (λ ys. ys) (map (part xs) (range_with_len 0 n))) ≡ part_lines xs n
unfolding part_lines
parts_text xs zero = refl
parts_text xs (suc n) =
    let front = map (part xs) (range_with_len 0 n) in
    ap (λ m. flat_map part_line (map (λ ys. ys) (map (part xs) (range_with_len 0 m)))) (sym (add-one n))
    ∙ ap (λ ps. flat_map part_line (map (λ ys. ys) ps)) (map-range_with_len_more (part xs) 0 n n (zero-add n))
    ∙ ap (flat_map part_line) (map-append (λ ys. ys) front (part xs n ∷ [])) ∙ joined_next part_line (map (λ ys. ys) front) (part xs n)
    ∙ ap (λ (t : List ℕ). t ++ part_line (part xs n)) (parts_text xs n)

-- A chunk ends where a part ends, or where the list does.
module _ (rest next after : List ℕ) (cut : rest ≡ next ++ after) (long : length next ≡ min part_size (length rest)) where
  ends : (take part_size rest ≡ next) × (drop part_size rest ≡ after)
  ends =
      ⊎_elim
      (λ short.
      let none : after ≡ [] = nil_from_length after (omega (arith, ap length cut, length-append next after)) in
      let whole : rest ≡ next = cut ∙ ap (λ (ys : List ℕ). next ++ ys) none ∙ append-nil next in
      (take_all part_size rest (omega arith) ∙ whole, drop_all part_size rest (omega arith) ∙ sym none))
      (λ full.
      let e : length next ≡ part_size = omega arith in
      (ap (take part_size) cut ∙ take_at next after part_size e, ap (drop part_size) cut ∙ drop_at next after part_size e))
      (cases_lt (length rest) part_size)

-- the chunks that are left from part k on
chunks_left : (xs : List ℕ) (n k : ℕ) (s : Chunks ℕ) → chunks_size s ≡ part_size → chunks_rest s ≡ drop (part_size * k) xs → parts_of (length (chunks_rest s)) ≡ n → AlwaysYields chunks_steps (λ x. x.now) s (map (part xs) (range_with_len k n))
chunks_left xs zero k s size left many = λ x t step. omega (arith, step.1.2)
chunks_left xs (suc n) k s size left many = (
  λ t step. omega (arith, step.1.0),
  λ x t step.
      let long : length x.now ≡ min part_size (length (chunks_rest s)) = step.1.1 ∙ ap (λ m. min m (length (chunks_rest s))) size in
      let e = ends (chunks_rest s) x.now (chunks_rest t) step.1.0 long in
      let next : part_size * k + part_size ≡ part_size * (k + 1) = omega arith in (
        sym e.0 ∙ ap (take part_size) left,
        chunks_left xs n (k + 1) t (step.0 ∙ size)
            (sym e.1 ∙ ap (drop part_size) left ∙ drop-drop part_size (part_size * k) xs ∙ ap (λ i. drop i xs) next)
            (omega (arith, ap length e.1, length-drop part_size (chunks_rest s))),
      ),
)

-- the chunks of a list are its parts
pub chunks_are_parts : (xs : List ℕ) (s : Chunks ℕ) → chunks_rest s ≡ xs → chunks_size s ≡ part_size → YieldsList chunks_steps (λ x. x.now) s (map (part xs) (range_with_len 0 (parts_of (length xs))))
chunks_are_parts xs s e size = record { runs = chunks_left xs (parts_of (length xs)) 0 s size e (ap (λ ys. parts_of (length ys)) e) }
