-- A stored round's text has no fault, and it is the text of one table and one list only.
use Rattle.std.proofs.Common.{◌≡◌, ℕ, zero, suc, ◌+◌, ◌-◌, ◌*◌, ◌/◌, ◌%◌, ◌<◌, ◌≤◌, min, List, [], ◌∷◌, ◌++◌, length, get_or, drop, sym, refl, ap, ◌∙◌, subst, ap₂, ⊎_elim, append_assoc, append-nil, mod-eq_of_lt, arith}
use Rattle.std.specs.List.{flat_map}
use Rattle.std.proofs.lemmas.List.{append_cancel_right, length-append, length-take, length-drop, get_or-take, get_or-drop, ext_get_or, nil_from_length}
use Rattle.std.proofs.lemmas.Bool.{cases_order, cond-true, eq-eqb, lt-ltb}
use Rattle.refusals.specs.declared.Refusal.{Refusal}
use Rattle.frames.specs.Digits.{AllDigits, numeral, value}
use Rattle.frames.specs.Frames.{digits_after}
use Rattle.frames.specs.BadLines.{BadLine}
use Rattle.frames.proofs.Numerals.{all_none, numeral_digits, numeral_same}
use Rattle.frames.proofs.Splits.{same_split}
use Rattle.frames.proofs.LinesTo.{lines_at, one_lines}
use Rattle.frames.proofs.Apart.{digits_append, value_small_numeral, GoodLine}
use Rattle.frames.proofs.OneFault.{good_line_not_bad, one_bad_line}
use Rattle.rig.specs.Orders.{reached, again, LawfulForEver}
use Rattle.rig.proofs.Runs.{lawful_move}
use Rattle.rig.proofs.Laps.{unlawful_refutes, one_unlawful}
use Rattle.banks.specs.declared.table.Bank.{Bank}
use Rattle.banks.specs.declared.table.BankTable.{BankTable}
use Rattle.banks.specs.Limits.{bank_at}
use Rattle.readers.specs.Panelled.{panelled}
use Rattle.frames.specs.Lines.{most_bytes, lines_to}
use Rattle.banks.specs.Stored.{head_line, bank_line, bank_lines, TableRead, TableFault}
use Rattle.banks.proofs.OneTable.{one_table, table_same, read_no_fault, one_table_fault}
use Rattle.refusals.specs.Numbers.{not_lawful_in_file}
use Rattle.rounds.specs.Stored.{round_text, last_line, IsStored, LinesRead, EndFault, FirstFault}
use Rattle.rounds.specs.Stored.EndFault.{unlawful, after_end}
use Rattle.rounds.specs.Stored.FirstFault.{in_table, in_list, at_end}
use Rattle.rounds.specs.Parts.{part_size, part_line, part, part_lines, parts_of, part_due, bad_bank, part_column, OnlyBanks, PartsFault}
use Rattle.rounds.proofs.PartLines.{length_pairs, fault_along}

pairs_digits : (xs : List ℕ) → AllDigits (flat_map (numeral 2) xs)
pairs_digits [] = all_none
pairs_digits (x ∷ xs) = digits_append (numeral 2 x) (flat_map (numeral 2) xs) (numeral_digits 2 x) (pairs_digits xs)

only_tail : (banks x : ℕ) (xs : List ℕ) → OnlyBanks banks (x ∷ xs) → OnlyBanks banks xs
only_tail banks x xs h k l = h (suc k) (omega arith)

-- pairs of digits tell their numbers
pairs_same : (xs ys : List ℕ) → OnlyBanks 256 xs → OnlyBanks 256 ys → length xs ≡ length ys → flat_map (numeral 2) xs ≡ flat_map (numeral 2) ys → xs ≡ ys
pairs_same [] ys hx hy l e = sym (nil_from_length ys (sym l))
pairs_same (x ∷ xs) [] hx hy l e = absurd (omega arith)
pairs_same (x ∷ xs) (y ∷ ys) hx hy l e =
    let q = same_split (numeral 2 x) (numeral 2 y) (flat_map (numeral 2) xs) (flat_map (numeral 2) ys) refl e in
    ap₂ (λ (a : ℕ) (zs : List ℕ). a ∷ zs) (numeral_same 2 x y (hx 0 (omega arith)) (hy 0 (omega arith)) q.0)
    (pairs_same xs ys (only_tail 256 x xs hx) (only_tail 256 y ys hy) (omega arith) q.1)

length_part_line : (xs : List ℕ) → length (part_line xs) ≡ 5 + 2 * length xs
length_part_line xs = omega (arith, length-append (flat_map (numeral 2) xs) (10 ∷ []), length_pairs xs)

length_part : (xs : List ℕ) (k : ℕ) → length (part xs k) ≡ min part_size (length xs - part_size * k)
length_part xs k = length-take part_size (drop (part_size * k) xs) ∙ ap (min part_size) (length-drop (part_size * k) xs)

-- all parts before the last are full
pub length_parts : (xs : List ℕ) (n : ℕ) → length (part_lines xs n) ≡ 5 * n + 2 * min (part_size * n) (length xs)
unfolding part_lines
length_parts xs zero = omega arith
length_parts xs (suc n) = omega (arith, length-append (part_lines xs n) (part_line (part xs n)), length_part_line (part xs n), length_part xs n, length_parts xs n)

-- the lines of the first parts are lines one behind the other
abbrev line_at : List ℕ → ℕ → List ℕ
line_at xs k = part_line (part xs k)

lines_are : (xs : List ℕ) (n : ℕ) → part_lines xs n ≡ lines_to (line_at xs) n
unfolding part_lines lines_to
lines_are xs zero = refl
lines_are xs (suc n) = ap (λ ys. ys ++ line_at xs n) (lines_are xs n)

-- the line of part n, behind those before it
part_at : (xs : List ℕ) (n m : ℕ) → n < m → (more : List ℕ) × (part_lines xs m ≡ part_lines xs n ++ (line_at xs n ++ more))
part_at xs n m h =
    let q = lines_at (line_at xs) n m h in
    (q.0, lines_are xs m ∙ q.1 ∙ ap (λ ys. ys ++ (line_at xs n ++ q.0)) (sym (lines_are xs n)))

-- no column is told where every bank is one of the table
good_pairs : (banks c : ℕ) (zs : List ℕ) → banks ≤ 256 → OnlyBanks banks zs → bad_bank banks (length zs) c (flat_map (numeral 2) zs) ≡ 0
unfolding bad_bank
good_pairs banks c [] h only = refl
good_pairs banks c (z ∷ zs) h only =
    let low : z < banks = only 0 (omega arith) in
    let is = value_small_numeral 2 z (let s : z < 256 = omega arith in s) in
    let first : value (numeral 2 z) < banks = subst (λ (k : ℕ). k < banks) is low in
    cond-true _ _ _ (lt-ltb (value (numeral 2 z)) banks first) ∙ good_pairs banks (c + 2) zs h (λ k l. only (suc k) (omega arith))

part_body : List ℕ → List ℕ
part_body zs = numeral 2 (length zs) ++ flat_map (numeral 2) zs

-- a part with as many banks as are due, each one of the table, is a good line
good_part : (banks due : ℕ) (bytes zs after : List ℕ) → banks ≤ 256 → due ≤ 16 → length zs ≡ due → OnlyBanks banks zs → bytes ≡ part_line zs ++ after → GoodLine 19 (part_column banks due) bytes (part_body zs) after
unfolding part_body digits_after
good_part banks due bytes zs after hb hd l only e =
    let small : length zs < 256 = omega arith in
    let count = value_small_numeral 2 (length zs) small in
    let long : length (part_body zs) ≡ 2 + 2 * length zs = omega (arith, length-append (numeral 2 (length zs)) (flat_map (numeral 2) zs), length_pairs zs) in
    record {
      text = e ∙ ap (λ (ys : List ℕ). numeral 2 19 ++ (numeral 2 (length zs) ++ ys)) (append_assoc (flat_map (numeral 2) zs) (10 ∷ []) after);
      digits = digits_append (numeral 2 (length zs)) (flat_map (numeral 2) zs) (numeral_digits 2 (length zs)) (pairs_digits zs);
      shaped = record { known = omega arith; fits = long ∙ ap (λ (k : ℕ). 2 + 2 * k) count };
      within = cond-true _ _ _ (eq-eqb (value (numeral 2 (length zs))) due (sym count ∙ l)) ∙ subst (λ (k : ℕ). bad_bank banks k 5 (flat_map (numeral 2) zs) ≡ 0) l (good_pairs banks 5 zs hb only);
    }

part_only : (banks : ℕ) (xs : List ℕ) (k : ℕ) → OnlyBanks banks xs → OnlyBanks banks (part xs k)
part_only banks xs k only i h =
    let near : i < part_size = omega (arith, length_part xs k) in
    let e = get_or-take part_size (drop (part_size * k) xs) i 0 near ∙ get_or-drop (part_size * k) xs i 0 in
    subst (λ (x : ℕ). x < banks) (sym e) (only (part_size * k + i) (omega (arith, length_part xs k)))

-- where m lines of a list are good, none of them is the first bad one
front_no_fault : (banks dwells m : ℕ) (xs rest bytes : List ℕ) (r : Refusal) → banks ≤ 256 → OnlyBanks banks xs → bytes ≡ part_lines xs m ++ rest → (f : PartsFault banks dwells bytes r) → f.good < m → part_size * f.good ≤ length xs → min part_size (length xs - part_size * f.good) ≡ part_due (dwells - part_size * f.good) → ⊥
front_no_fault banks dwells m xs rest bytes r hb only text f within full due_is =
    let n = f.good in
    let at = part_at xs n m within in
    let left : length (part_lines xs n) ≡ length (part_lines f.listed n) = omega (arith, length_parts xs n, length_parts f.listed n, f.full) in
    let whole : part_lines xs n ++ ((part_line (part xs n) ++ at.0) ++ rest) ≡ part_lines f.listed n ++ f.rest =
    sym (append_assoc (part_lines xs n) (part_line (part xs n) ++ at.0) rest) ∙ ap (λ (ys : List ℕ). ys ++ rest) (sym at.1) ∙ sym text ∙ f.text in
    let tail = (same_split (part_lines xs n) (part_lines f.listed n) ((part_line (part xs n) ++ at.0) ++ rest) f.rest left whole).1 in
    let line : f.rest ≡ part_line (part xs n) ++ (at.0 ++ rest) = sym tail ∙ append_assoc (part_line (part xs n)) at.0 rest in
    let due = part_due (dwells - part_size * n) in
    good_line_not_bad 19 (part_column banks due) f.rest (part_body (part xs n)) (at.0 ++ rest)
    (good_part banks due f.rest (part xs n) (at.0 ++ rest) hb (omega arith) (length_part xs n ∙ due_is) (part_only banks xs n only) line)
    ((2 + banks) + n) r f.bad

-- the lines of a list have no fault
pub lines_no_fault : (banks : ℕ) (xs rest : List ℕ) (r : Refusal) → banks ≤ 256 → OnlyBanks banks xs → PartsFault banks (length xs) (part_lines xs (parts_of (length xs)) ++ rest) r → ⊥
lines_no_fault banks xs rest r hb only f =
    let more = f.more in
    front_no_fault banks (length xs) (parts_of (length xs)) xs rest (part_lines xs (parts_of (length xs)) ++ rest) r hb only refl f (omega arith) (omega arith) refl

-- a list has one first bad line
pub one_parts_fault : (banks dwells : ℕ) (bytes : List ℕ) (r s : Refusal) → banks ≤ 256 → PartsFault banks dwells bytes r → PartsFault banks dwells bytes s → r ≡ s
one_parts_fault banks dwells bytes r s hb f g =
    let a = f.full in
    let b = g.full in
    let ma = f.more in
    let mb = g.more in
    ⊎_elim
    (λ same.
    let lengths : length (part_lines f.listed f.good) ≡ length (part_lines g.listed g.good) = omega (arith, length_parts f.listed f.good, length_parts g.listed g.good) in
    let rests = (same_split (part_lines f.listed f.good) (part_lines g.listed g.good) f.rest g.rest lengths (sym f.text ∙ g.text)).1 in
    let bad = subst (λ (n : ℕ). BadLine 19 (part_column banks (part_due (dwells - part_size * n))) g.rest ((2 + banks) + n) r) same
    (subst (λ (ys : List ℕ). BadLine 19 (part_column banks (part_due (dwells - part_size * f.good))) ys ((2 + banks) + f.good) r) rests f.bad) in
    one_bad_line 19 (part_column banks (part_due (dwells - part_size * g.good))) g.rest ((2 + banks) + g.good) r s bad g.bad)
    (λ differ.
    ⊎_elim
    (λ less. absurd (front_no_fault banks dwells g.good g.listed g.rest bytes r hb g.only g.text f less (omega arith) (omega arith)))
    (λ more. absurd (front_no_fault banks dwells f.good f.listed f.rest bytes s hb f.only f.text g more (omega arith) (omega arith)))
    differ)
    (cases_order f.good g.good)

line_pairs : (zs ws : List ℕ) → part_line zs ≡ part_line ws → flat_map (numeral 2) zs ≡ flat_map (numeral 2) ws
line_pairs zs ws e = append_cancel_right (flat_map (numeral 2) zs) (flat_map (numeral 2) ws) (10 ∷ []) (ap (drop 4) e)

-- a bank of the list, in its part
in_part : (xs : List ℕ) (i : ℕ) → get_or xs i 0 ≡ get_or (part xs (i / part_size)) (i % part_size) 0
in_part xs i =
    let near : i % part_size < part_size = omega arith in
    let place : i ≡ part_size * (i / part_size) + i % part_size = omega arith in
    sym (get_or-take part_size (drop (part_size * (i / part_size)) xs) (i % part_size) 0 near ∙ get_or-drop (part_size * (i / part_size)) xs (i % part_size) 0 ∙ ap (λ (j : ℕ). get_or xs j 0) (sym place))

-- lines tell their list
pub one_list : (xs ys x y : List ℕ) → OnlyBanks 256 xs → OnlyBanks 256 ys → length xs ≡ length ys → part_lines xs (parts_of (length xs)) ++ x ≡ part_lines ys (parts_of (length ys)) ++ y → (xs ≡ ys) × (x ≡ y)
one_list xs ys x y hx hy l e =
    let n = parts_of (length xs) in
    let long : (k : ℕ) → length (part xs k) ≡ length (part ys k) = λ k. omega (arith, length_part xs k, length_part ys k) in
    let q = one_lines (line_at xs) (line_at ys) (λ k. omega (arith, length_part_line (part xs k), length_part_line (part ys k), long k)) n x y
    (ap (λ zs. zs ++ x) (sym (lines_are xs n)) ∙ e ∙ ap (λ m. part_lines ys (parts_of m) ++ y) (sym l) ∙ ap (λ zs. zs ++ y) (lines_are ys n)) in (
      ext_get_or 0 xs ys l (λ i h.
          let k = i / part_size in
          let same = pairs_same (part xs k) (part ys k) (part_only 256 xs k hx) (part_only 256 ys k hy) (long k) (line_pairs (part xs k) (part ys k) (q.0 k (omega arith))) in
          in_part xs i ∙ ap (λ zs. get_or zs (i % part_size) 0) same ∙ sym (in_part ys i)),
      q.1,
    )

pub length_banks : (bs : List Bank) (n : ℕ) → length (bank_lines bs n) ≡ 15 * n
unfolding bank_lines
length_banks bs zero = refl
length_banks bs (suc n) = length-append (bank_lines bs n) (bank_line n (bank_at bs n)) ∙ (omega (arith, length_banks bs n))

-- every list that is lawful for ever names banks of the table only
kept_banks : (t : BankTable) (xs : List ℕ) → LawfulForEver (panelled t) xs → OnlyBanks t.count xs
kept_banks t xs h k l =
    subst (λ (j : ℕ). j < t.count) (ap (λ (i : ℕ). get_or xs i 0) (mod-eq_of_lt l)) (lawful_move (panelled t) (reached (panelled t) (panelled t).rest (again xs) k) (again xs k) (h.endless k))

few_small : (t : BankTable) (xs : List ℕ) → OnlyBanks t.count xs → OnlyBanks 256 xs
few_small t xs h k l = let f = t.few in omega (arith, h k l)

-- the lines of a table and a list, as those of the table and the rest
lines_table : (bytes : List ℕ) (u : BankTable) (ys rest : List ℕ) → LinesRead bytes u ys rest → 0 < length ys → TableRead bytes u (length ys) (part_lines ys (parts_of (length ys)) ++ rest)
lines_table bytes u ys rest h some = record {
  size = h.size;
  some_dwell = some;
  few_dwells = h.few;
  text = h.text
      ∙ append_assoc (head_line u.count u.settle (length ys)) (bank_lines u.banks u.count ++ part_lines ys (parts_of (length ys))) rest
      ∙ ap (λ (zs : List ℕ). head_line u.count u.settle (length ys) ++ zs) (append_assoc (bank_lines u.banks u.count) (part_lines ys (parts_of (length ys))) rest);
}

-- lines that were read to their end: the list has a dwell, and names banks of the table only
pub record Ending (t : BankTable) (xs : List ℕ) : Type 0 where
  pub some : 0 < length xs
  pub only : OnlyBanks t.count xs

kept_ending : (t : BankTable) (xs : List ℕ) → LawfulForEver (panelled t) xs → Ending t xs
kept_ending t xs h = record { some = h.some_move; only = kept_banks t xs h }

fault_ending : (t : BankTable) (xs rest : List ℕ) (r : Refusal) → EndFault t xs rest r → Ending t xs
fault_ending t xs rest r (unlawful lap p bad e) = record { some = bad.only_moves.some_move; only = bad.only_moves.each }
fault_ending t xs rest r (after_end kept more e) = kept_ending t xs kept

-- the same bytes have the same lines
pub record SameLines (t u : BankTable) (xs ys x y : List ℕ) : Type 0 where
  pub table : t ≡ u
  pub list : xs ≡ ys
  pub rest : x ≡ y

same_lines : (bytes : List ℕ) (t u : BankTable) (xs ys x y : List ℕ) → LinesRead bytes t xs x → LinesRead bytes u ys y → Ending t xs → Ending u ys → SameLines t u xs ys x y
same_lines bytes t u xs ys x y g h a b =
    let first = lines_table bytes t xs x g a.some in
    let second = lines_table bytes u ys y h b.some in
    let same = one_table bytes t u (length xs) (length ys) (part_lines xs (parts_of (length xs)) ++ x) (part_lines ys (parts_of (length ys)) ++ y) first second in
    let lists = one_list xs ys x y (few_small t xs a.only) (few_small u ys b.only) same.dwells same.rest in
    record {
      table = table_same bytes t u (length xs) (length ys) (part_lines xs (parts_of (length xs)) ++ x) (part_lines ys (parts_of (length ys)) ++ y) first second;
      list = lists.0;
      rest = lists.1;
    }

end_along : {t u : BankTable} {xs ys x y : List ℕ} {r : Refusal} → SameLines t u xs ys x y → EndFault t xs x r → EndFault u ys y r
end_along {t} {u} {xs} {ys} {x} {y} {r} same f =
    subst (λ (v : BankTable). EndFault v ys y r) same.table (subst (λ (zs : List ℕ). EndFault t zs y r) same.list (subst (λ (zs : List ℕ). EndFault t xs zs r) same.rest f))

-- the end has one fault
one_end_fault : (t : BankTable) (xs rest : List ℕ) (r s : Refusal) → EndFault t xs rest r → EndFault t xs rest s → r ≡ s
one_end_fault t xs rest r s (unlawful l p a e) (unlawful k q b g) =
    let same = one_unlawful (panelled t) xs l p k q a b in
    e ∙ ap₂ (not_lawful_in_file (last_line t (length xs))) same.0 same.1 ∙ sym g
one_end_fault t xs rest r s (unlawful l p a e) (after_end kept more g) = absurd (unlawful_refutes (panelled t) xs l p a kept)
one_end_fault t xs rest r s (after_end kept more e) (unlawful k q b g) = absurd (unlawful_refutes (panelled t) xs k q b kept)
one_end_fault t xs rest r s (after_end kept more e) (after_end kept' more' g) = e ∙ sym g

list_or_end : (bytes : List ℕ) (t : BankTable) (d : ℕ) (rest : List ℕ) (r : Refusal) (u : BankTable) (ys y : List ℕ) → TableRead bytes t d rest → PartsFault t.count d rest r → LinesRead bytes u ys y → Ending u ys → ⊥
list_or_end bytes t d rest r u ys y h f g a =
    let lines = part_lines ys (parts_of (length ys)) ++ y in
    let same = one_table bytes t u d (length ys) rest lines h (lines_table bytes u ys y g a.some) in
    lines_no_fault u.count ys y r (let few = u.few in omega arith) a.only (fault_along same.count same.dwells same.rest f)

table_or_end : (bytes : List ℕ) (r : Refusal) (u : BankTable) (ys y : List ℕ) → TableFault bytes r → LinesRead bytes u ys y → Ending u ys → ⊥
table_or_end bytes r u ys y f g a = read_no_fault bytes u (length ys) (part_lines ys (parts_of (length ys)) ++ y) r (lines_table bytes u ys y g a.some) f

-- bytes have one first fault
pub one_first_fault : (bytes : List ℕ) (r s : Refusal) → FirstFault bytes r → FirstFault bytes s → r ≡ s
one_first_fault bytes r s (in_table f) (in_table g) = one_table_fault bytes r s f g
one_first_fault bytes r s (in_table f) (in_list u e y h g) = absurd (read_no_fault bytes u e y r h f)
one_first_fault bytes r s (in_table f) (at_end u ys y h g) = absurd (table_or_end bytes r u ys y f h (fault_ending u ys y s g))
one_first_fault bytes r s (in_list t d x h f) (in_table g) = absurd (read_no_fault bytes t d x s h g)
one_first_fault bytes r s (in_list t d x h f) (in_list u e y k g) =
    let same = one_table bytes t u d e x y h k in
    one_parts_fault u.count e y r s (let few = u.few in omega arith) (fault_along same.count same.dwells same.rest f) g
one_first_fault bytes r s (in_list t d x h f) (at_end u ys y k g) = absurd (list_or_end bytes t d x r u ys y h f k (fault_ending u ys y s g))
one_first_fault bytes r s (at_end t xs x h f) (in_table g) = absurd (table_or_end bytes s t xs x g h (fault_ending t xs x r f))
one_first_fault bytes r s (at_end t xs x h f) (in_list u e y k g) = absurd (list_or_end bytes u e y s t xs x k g h (fault_ending t xs x r f))
one_first_fault bytes r s (at_end t xs x h f) (at_end u ys y k g) =
    let same = same_lines bytes t u xs ys x y h k (fault_ending t xs x r f) (fault_ending u ys y s g) in
    one_end_fault u ys y r s (end_along same f) g

module _ (bytes : List ℕ) (t : BankTable) (xs : List ℕ) (s : IsStored bytes t xs) where
  -- a stored round is never too long
  short : length bytes ≤ most_bytes
  short =
      let banks = bank_lines t.banks t.count in
      let lines = part_lines xs (parts_of (length xs)) in
      let f = t.few in
      let d = s.few in
      omega (arith, ap length s.text, length-append banks lines, length_banks t.banks t.count, length_parts xs (parts_of (length xs)))

  -- its lines, with nothing behind them
  stored_lines : LinesRead bytes t xs []
  stored_lines = record { size = short; few = s.few; text = s.text ∙ sym (append-nil (round_text t xs)) }

  ending : Ending t xs
  ending = kept_ending t xs s.kept

  no_end_fault : (r : Refusal) → EndFault t xs [] r → ⊥
  no_end_fault r (unlawful lap p bad e) = unlawful_refutes (panelled t) xs lap p bad s.kept
  no_end_fault r (after_end kept more e) = absurd (omega arith)

  -- a stored round has no fault
  pub stored_no_fault : (r : Refusal) → FirstFault bytes r → ⊥
  stored_no_fault r (in_table f) = table_or_end bytes r t xs [] f stored_lines ending
  stored_no_fault r (in_list u d rest h f) = list_or_end bytes u d rest r t xs [] h f stored_lines ending
  stored_no_fault r (at_end u ys rest h f) = no_end_fault r (end_along (same_lines bytes u t ys xs rest [] h stored_lines (fault_ending u ys rest r f) ending) f)

  -- and it is the text of one table and one list only
  pub one_round : (u : BankTable) (ys : List ℕ) → IsStored bytes u ys → (t ≡ u) × (xs ≡ ys)
  one_round u ys k =
      let same = same_lines bytes t u xs ys [] [] stored_lines (record { size = short; few = k.few; text = k.text ∙ sym (append-nil (round_text u ys)) }) ending (kept_ending u ys k.kept) in
      (same.table, same.list)
