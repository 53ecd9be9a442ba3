-- A text has one table, or one fault, and not both.
use Rattle.std.proofs.Common.{◌≡◌, ℕ, zero, suc, ◌+◌, ◌<◌, ◌≤◌, List, [], ◌∷◌, ◌++◌, length, drop, sym, refl, ap, ◌∙◌, subst, ⊎_elim, append_assoc, append-nil, not-suc-le-zero, arith}
use Rattle.std.proofs.lemmas.List.{length-drop, ext_get_or}
use Rattle.std.proofs.lemmas.Bool.{cases_eq, cases_lt, cases_order}
use Rattle.refusals.specs.declared.Refusal.{Refusal}
use Rattle.frames.specs.Digits.{numeral}
use Rattle.frames.specs.Frames.{digits_after, Shaped}
use Rattle.frames.specs.BadLines.{BadLine}
use Rattle.frames.proofs.Numerals.{numeral_digits, numeral_same}
use Rattle.frames.proofs.Splits.{same_split}
use Rattle.frames.proofs.Apart.{digits_append, value_small_numeral, GoodLine}
use Rattle.frames.proofs.OneFault.{good_line_not_bad, one_bad_line}
use Rattle.banks.specs.declared.table.Bank.{Bank}
use Rattle.banks.specs.declared.table.BankTable.{BankTable}
use Rattle.banks.specs.Limits.{no_bank, bank_at, BankWithin}
use Rattle.banks.proofs.Identical.{same_table}
use Rattle.frames.specs.Lines.{most_bytes}
use Rattle.banks.specs.Stored.{head_line, bank_line, bank_lines, HeadWithin, head_column, bank_column, BankFault, TableRead, TableFault}
use Rattle.banks.specs.Stored.TableFault.{too_long, in_head, in_bank}
use Rattle.banks.proofs.TableLines.{bank_of, HeadIs, BankIs, head_fault, bank_fault, head_column_is, bank_column_is, head_no_fault, bank_no_fault}

-- One head line.
pub record SameHead (b c s t d e : ℕ) (x y : List ℕ) : Type 0 where
  pub banks : b ≡ c
  pub settle : s ≡ t
  pub dwells : d ≡ e
  pub rest : x ≡ y

pub one_head : (b c s t d e : ℕ) (x y : List ℕ) → HeadWithin b s d → HeadWithin c t e → head_line b s d ++ x ≡ head_line c t e ++ y → SameHead b c s t d e x y
one_head b c s t d e x y h k same =
    let p = same_split (head_line b s d) (head_line c t e) x y refl same in
    let q = same_split (numeral 2 17) (numeral 2 17) (numeral 2 b ++ (numeral 4 s ++ (numeral 4 d ++ (10 ∷ [])))) (numeral 2 c ++ (numeral 4 t ++ (numeral 4 e ++ (10 ∷ [])))) refl p.0 in
    let u = same_split (numeral 2 b) (numeral 2 c) (numeral 4 s ++ (numeral 4 d ++ (10 ∷ []))) (numeral 4 t ++ (numeral 4 e ++ (10 ∷ []))) refl q.1 in
    let v = same_split (numeral 4 s) (numeral 4 t) (numeral 4 d ++ (10 ∷ [])) (numeral 4 e ++ (10 ∷ [])) refl u.1 in
    let w = same_split (numeral 4 d) (numeral 4 e) (10 ∷ []) (10 ∷ []) refl v.1 in
    record {
      banks = numeral_same 2 b c (omega (arith, h.few)) (omega (arith, k.few)) u.0;
      settle = numeral_same 4 s t (omega (arith, h.settles)) (omega (arith, k.settles)) v.0;
      dwells = numeral_same 4 d e (omega (arith, h.few_dwells)) (omega (arith, k.few_dwells)) w.0;
      rest = p.1;
    }

-- One line of a bank.
pub same_bank : (b c : Bank) → b.panel ≡ c.panel → b.dwell ≡ c.dwell → b.gap ≡ c.gap → b ≡ c
same_bank b c p d g = ap (λ n. bank_of n b.dwell b.gap) p ∙ ap (λ n. bank_of c.panel n b.gap) d ∙ ap (bank_of c.panel c.dwell) g

pub one_bank : (i : ℕ) (b c : Bank) (x y : List ℕ) → BankWithin b → BankWithin c → bank_line i b ++ x ≡ bank_line i c ++ y → (b ≡ c) × (x ≡ y)
one_bank i b c x y h k same =
    let p = same_split (bank_line i b) (bank_line i c) x y refl same in
    let q = same_split (numeral 2 18 ++ numeral 2 i) (numeral 2 18 ++ numeral 2 i) (numeral 2 b.panel ++ (numeral 4 b.dwell ++ (numeral 4 b.gap ++ (10 ∷ [])))) (numeral 2 c.panel ++ (numeral 4 c.dwell ++ (numeral 4 c.gap ++ (10 ∷ [])))) refl p.0 in
    let u = same_split (numeral 2 b.panel) (numeral 2 c.panel) (numeral 4 b.dwell ++ (numeral 4 b.gap ++ (10 ∷ []))) (numeral 4 c.dwell ++ (numeral 4 c.gap ++ (10 ∷ []))) refl q.1 in
    let v = same_split (numeral 4 b.dwell) (numeral 4 c.dwell) (numeral 4 b.gap ++ (10 ∷ [])) (numeral 4 c.gap ++ (10 ∷ [])) refl u.1 in
    let w = same_split (numeral 4 b.gap) (numeral 4 c.gap) (10 ∷ []) (10 ∷ []) refl v.1 in (
      same_bank b c
          (numeral_same 2 b.panel c.panel (omega (arith, h.panel)) (omega (arith, k.panel)) u.0)
          (numeral_same 4 b.dwell c.dwell (omega (arith, h.dwell.1)) (omega (arith, k.dwell.1)) v.0)
          (numeral_same 4 b.gap c.gap (omega (arith, h.gap.1)) (omega (arith, k.gap.1)) w.0),
      p.1,
    )

-- The banks below n are within their limits.
abbrev pub BanksWithin : List Bank → ℕ → Type 0
BanksWithin bs n = (i : ℕ) → i < n → BankWithin (bank_at bs i)

-- One list of banks.
pub one_banks : (bs cs : List Bank) (n : ℕ) (x y : List ℕ) → BanksWithin bs n → BanksWithin cs n → bank_lines bs n ++ x ≡ bank_lines cs n ++ y → ((i : ℕ) → i < n → bank_at bs i ≡ bank_at cs i) × (x ≡ y)
unfolding bank_lines
one_banks bs cs zero x y h k same = (λ i l. absurd (not-suc-le-zero l), same)
one_banks bs cs (suc n) x y h k same =
    let a = append_assoc (bank_lines bs n) (bank_line n (bank_at bs n)) x in
    let b = append_assoc (bank_lines cs n) (bank_line n (bank_at cs n)) y in
    let p = one_banks bs cs n (bank_line n (bank_at bs n) ++ x) (bank_line n (bank_at cs n) ++ y) (λ i l. h i (omega arith)) (λ i l. k i (omega arith)) (sym a ∙ same ∙ b) in
    let q = one_bank n (bank_at bs n) (bank_at cs n) x y (h n (omega arith)) (k n (omega arith)) p.1 in
    (λ i l. ⊎_elim (λ e. subst (λ (j : ℕ). bank_at bs j ≡ bank_at cs j) (sym e) q.0) (λ o. p.0 i (omega arith)) (cases_eq i n), q.1)

-- The line of bank i among the lines of more banks.
pub bank_lines_at : (bs : List Bank) (i n : ℕ) → i < n → (more : List ℕ) × (bank_lines bs n ≡ bank_lines bs i ++ (bank_line i (bank_at bs i) ++ more))
unfolding bank_lines
bank_lines_at bs i zero l = absurd (not-suc-le-zero l)
bank_lines_at bs i (suc n) l =
    ⊎_elim
    (λ e. ([], subst (λ (j : ℕ). bank_lines bs (suc n) ≡ bank_lines bs j ++ (bank_line j (bank_at bs j) ++ [])) (sym e) (ap (λ xs. bank_lines bs n ++ xs) (sym (append-nil (bank_line n (bank_at bs n)))))))
    (λ o.
    let p = bank_lines_at bs i n (omega arith) in
    let m = bank_line n (bank_at bs n) in (
      p.0 ++ m,
      ap (λ xs. xs ++ m) p.1 ∙ append_assoc (bank_lines bs i) (bank_line i (bank_at bs i) ++ p.0) m ∙ ap (λ xs. bank_lines bs i ++ xs) (append_assoc (bank_line i (bank_at bs i)) p.0 m),
    ))
    (cases_eq i n)

-- A head line within its limits is good, and so is the line of a bank.
abbrev head_body : ℕ → ℕ → ℕ → List ℕ
head_body b s d = numeral 2 b ++ (numeral 4 s ++ numeral 4 d)

abbrev bank_body : ℕ → Bank → List ℕ
bank_body i b = numeral 2 i ++ (numeral 2 b.panel ++ (numeral 4 b.dwell ++ numeral 4 b.gap))

head_shaped : (b s d : ℕ) → Shaped 17 (head_body b s d)
unfolding digits_after
head_shaped b s d = record { known = omega arith; fits = refl }

bank_shaped : (i : ℕ) (b : Bank) → Shaped 18 (bank_body i b)
unfolding digits_after
bank_shaped i b = record { known = omega arith; fits = refl }

head_is : (b s d : ℕ) → HeadWithin b s d → HeadIs (head_body b s d) b s d
head_is b s d h = record {
  banks_is = value_small_numeral 2 b (omega (arith, h.few));
  settle_is = value_small_numeral 4 s (omega (arith, h.settles));
  dwells_is = value_small_numeral 4 d (omega (arith, h.few_dwells));
}

bank_is : (i : ℕ) (b : Bank) → i < 256 → BankWithin b → BankIs (bank_body i b) i b.panel b.dwell b.gap
bank_is i b l h = record {
  at_is = value_small_numeral 2 i l;
  panel_is = value_small_numeral 2 b.panel (omega (arith, h.panel));
  dwell_is = value_small_numeral 4 b.dwell (omega (arith, h.dwell.1));
  gap_is = value_small_numeral 4 b.gap (omega (arith, h.gap.1));
}

pub head_good : (bytes : List ℕ) (b s d : ℕ) (after : List ℕ) → HeadWithin b s d → bytes ≡ head_line b s d ++ after → GoodLine 17 head_column bytes (head_body b s d) after
head_good bytes b s d after h e = record {
  text = e;
  digits = digits_append (numeral 2 b) (numeral 4 s ++ numeral 4 d) (numeral_digits 2 b) (digits_append (numeral 4 s) (numeral 4 d) (numeral_digits 4 s) (numeral_digits 4 d));
  shaped = head_shaped b s d;
  within = sym (head_column_is (head_body b s d) b s d (head_fault b s d) (head_is b s d h) refl) ∙ head_no_fault b s d h;
}

pub bank_line_good : (bytes : List ℕ) (i : ℕ) (b : Bank) (after : List ℕ) → i < 256 → BankWithin b → bytes ≡ bank_line i b ++ after → GoodLine 18 (bank_column i) bytes (bank_body i b) after
bank_line_good bytes i b after l h e = record {
  text = e;
  digits =
      digits_append (numeral 2 i) (numeral 2 b.panel ++ (numeral 4 b.dwell ++ numeral 4 b.gap)) (numeral_digits 2 i)
      (digits_append (numeral 2 b.panel) (numeral 4 b.dwell ++ numeral 4 b.gap) (numeral_digits 2 b.panel)
      (digits_append (numeral 4 b.dwell) (numeral 4 b.gap) (numeral_digits 4 b.dwell) (numeral_digits 4 b.gap)));
  shaped = bank_shaped i b;
  within = sym (bank_column_is i (bank_body i b) i b.panel b.dwell b.gap (bank_fault i i b.panel b.dwell b.gap) (bank_is i b l h) refl) ∙ bank_no_fault i b h;
}

pub head_not_bad : (bytes : List ℕ) (b s d : ℕ) (after : List ℕ) (line : ℕ) (r : Refusal) → HeadWithin b s d → bytes ≡ head_line b s d ++ after → BadLine 17 head_column bytes line r → ⊥
head_not_bad bytes b s d after line r h e = good_line_not_bad 17 head_column bytes (head_body b s d) after (head_good bytes b s d after h e) line r

-- Among the lines of n banks no line of a bank below n is bad.
pub bank_not_bad : (bytes : List ℕ) (bs : List Bank) (i : ℕ) (x : List ℕ) (cs : List Bank) (n : ℕ) (y : List ℕ) (line : ℕ) (r : Refusal) → n ≤ 256 → i < n → BanksWithin bs i → BanksWithin cs n → bytes ≡ bank_lines bs i ++ x → bytes ≡ bank_lines cs n ++ y → BadLine 18 (bank_column i) x line r → ⊥
bank_not_bad bytes bs i x cs n y line r s l h k e f bad =
    let b = bank_at cs i in
    let p = bank_lines_at cs i n l in
    let g : bytes ≡ bank_lines cs i ++ (bank_line i b ++ (p.0 ++ y)) =
    f ∙ ap (λ xs. xs ++ y) p.1 ∙ append_assoc (bank_lines cs i) (bank_line i b ++ p.0) y ∙ ap (λ xs. bank_lines cs i ++ xs) (append_assoc (bank_line i b) p.0 y) in
    let q = (one_banks bs cs i x (bank_line i b ++ (p.0 ++ y)) h (λ j m. k j (omega arith)) (sym e ∙ g)).1 in
    good_line_not_bad 18 (bank_column i) x (bank_body i b) (p.0 ++ y) (bank_line_good x i b (p.0 ++ y) (omega arith) (k i l) q) line r bad

-- A good text has no fault.
pub good_text_no_fault : (bytes : List ℕ) (count settle dwells : ℕ) (banks : List Bank) (rest : List ℕ) (r : Refusal) → length bytes ≤ most_bytes → HeadWithin count settle dwells → BanksWithin banks count → bytes ≡ head_line count settle dwells ++ (bank_lines banks count ++ rest) → TableFault bytes r → ⊥
good_text_no_fault bytes count settle dwells banks rest r s h k e (too_long l p) = omega arith
good_text_no_fault bytes count settle dwells banks rest r s h k e (in_head l bad) = head_not_bad bytes count settle dwells (bank_lines banks count ++ rest) 1 r h e bad
good_text_no_fault bytes count settle dwells banks rest r s h k e (in_bank c t d after l w p f) =
    let q = one_head c count t settle d dwells after (bank_lines banks count ++ rest) w h (sym p ∙ e) in
    let n = q.banks in
    let m = h.few in
    bank_not_bad after f.banks f.i f.rest banks count rest (2 + f.i) r (omega (arith, m)) (omega (arith, n, f.due)) f.good.within k f.good.text q.rest f.bad

-- A table is within its limits, and so are the numbers of what was read.
pub table_head : (bytes : List ℕ) (t : BankTable) (dwells : ℕ) (rest : List ℕ) → TableRead bytes t dwells rest → HeadWithin t.count t.settle dwells
table_head bytes t dwells rest r = record { enough = t.enough; few = t.few; settles = t.settles; some_dwell = r.some_dwell; few_dwells = r.few_dwells }

pub table_banks : (t : BankTable) → BanksWithin t.banks t.count
table_banks t i l = record { panel = t.panels i l; dwell = t.dwells i l; gap = t.gaps i l }

pub read_no_fault : (bytes : List ℕ) (t : BankTable) (dwells : ℕ) (rest : List ℕ) (r : Refusal) → TableRead bytes t dwells rest → TableFault bytes r → ⊥
read_no_fault bytes t dwells rest r h f = good_text_no_fault bytes t.count t.settle dwells t.banks rest r h.size (table_head bytes t dwells rest h) (table_banks t) h.text f

-- One fault at most.
pub one_bank_fault : (bytes : List ℕ) (n m : ℕ) (r s : Refusal) → n ≤ 256 → m ≤ 256 → BankFault bytes n r → BankFault bytes m s → r ≡ s
one_bank_fault bytes n m r s l k f g =
    ⊎_elim
    (λ e.
    let h = subst (λ (j : ℕ). BanksWithin f.banks j) e f.good.within in
    let t = subst (λ (j : ℕ). bytes ≡ bank_lines f.banks j ++ f.rest) e f.good.text in
    let b = subst (λ (j : ℕ). BadLine 18 (bank_column j) f.rest (2 + j) r) e f.bad in
    let q = (one_banks f.banks g.banks g.i f.rest g.rest h g.good.within (sym t ∙ g.good.text)).1 in
    one_bad_line 18 (bank_column g.i) g.rest (2 + g.i) r s (subst (λ (xs : List ℕ). BadLine 18 (bank_column g.i) xs (2 + g.i) r) q b) g.bad)
    (λ o.
    ⊎_elim
    (λ u. absurd (bank_not_bad bytes f.banks f.i f.rest g.banks g.i g.rest (2 + f.i) r (omega (arith, g.due)) u f.good.within g.good.within f.good.text g.good.text f.bad))
    (λ u. absurd (bank_not_bad bytes g.banks g.i g.rest f.banks f.i f.rest (2 + g.i) s (omega (arith, f.due)) u g.good.within f.good.within g.good.text f.good.text g.bad))
    o)
    (cases_order f.i g.i)

pub one_table_fault : (bytes : List ℕ) (r s : Refusal) → TableFault bytes r → TableFault bytes s → r ≡ s
one_table_fault bytes r s (too_long l e) (too_long k g) = e ∙ sym g
one_table_fault bytes r s (too_long l e) (in_head k b) = absurd (omega arith)
one_table_fault bytes r s (too_long l e) (in_bank c t d after k w p f) = absurd (omega arith)
one_table_fault bytes r s (in_head l b) (too_long k g) = absurd (omega arith)
one_table_fault bytes r s (in_head l b) (in_head k a) = one_bad_line 17 head_column bytes 1 r s b a
one_table_fault bytes r s (in_head l b) (in_bank c t d after k w p f) = absurd (head_not_bad bytes c t d after 1 r w p b)
one_table_fault bytes r s (in_bank c t d after l w p f) (too_long k g) = absurd (omega arith)
one_table_fault bytes r s (in_bank c t d after l w p f) (in_head k a) = absurd (head_not_bad bytes c t d after 1 s w p a)
one_table_fault bytes r s (in_bank c t d after l w p f) (in_bank c' t' d' after' k w' p' f') =
    let q = one_head c c' t t' d d' after after' w w' (sym p ∙ p') in
    one_bank_fault after' c c' r s (omega (arith, w.few)) (omega (arith, w'.few)) (subst (λ (xs : List ℕ). BankFault xs c r) q.rest f) f'

-- One table: the same numbers, the same bank at every place, the same dwells and the same rest.
pub record SameTable (t u : BankTable) (d e : ℕ) (x y : List ℕ) : Type 0 where
  pub count : t.count ≡ u.count
  pub settle : t.settle ≡ u.settle
  pub banks : (i : ℕ) → bank_at t.banks i ≡ bank_at u.banks i
  pub dwells : d ≡ e
  pub rest : x ≡ y

pub same_unused : (t u : BankTable) (i : ℕ) → t.count ≤ i → u.count ≤ i → bank_at t.banks i ≡ bank_at u.banks i
same_unused t u i h k =
    let a = t.unused i h in
    let b = u.unused i k in
    same_bank (bank_at t.banks i) (bank_at u.banks i) (a.0 ∙ sym b.0) (a.1 ∙ sym b.1) (a.2 ∙ sym b.2)

pub one_table : (bytes : List ℕ) (t u : BankTable) (d e : ℕ) (x y : List ℕ) → TableRead bytes t d x → TableRead bytes u e y → SameTable t u d e x y
one_table bytes t u d e x y h k =
    let q = one_head t.count u.count t.settle u.settle d e (bank_lines t.banks t.count ++ x) (bank_lines u.banks u.count ++ y) (table_head bytes t d x h) (table_head bytes u e y k) (sym h.text ∙ k.text) in
    let n = q.banks in
    let w = subst (λ (j : ℕ). BanksWithin t.banks j) n (table_banks t) in
    let p = one_banks t.banks u.banks u.count x y w (table_banks u) (subst (λ (j : ℕ). bank_lines t.banks j ++ x ≡ bank_lines u.banks u.count ++ y) n q.rest) in
    record {
      count = n;
      settle = q.settle;
      banks = λ i. ⊎_elim (λ l. p.0 i l) (λ l. same_unused t u i (omega (arith, n, l)) l) (cases_lt i u.count);
      dwells = q.dwells;
      rest = p.1;
    }

-- One place where the rest begins.
pub one_end : (bytes : List ℕ) (a b : ℕ) → a ≤ length bytes → b ≤ length bytes → drop a bytes ≡ drop b bytes → a ≡ b
one_end bytes a b h k e = let l = sym (length-drop a bytes) ∙ ap length e ∙ length-drop b bytes in omega (arith, l)

-- tables that tell the same of every bank are the same
pub table_same : (bytes : List ℕ) (t u : BankTable) (d e : ℕ) (x y : List ℕ) → TableRead bytes t d x → TableRead bytes u e y → t ≡ u
table_same bytes t u d e x y h k =
    let q = one_table bytes t u d e x y h k in
    same_table t u q.count q.settle (ext_get_or no_bank t.banks u.banks (t.places ∙ sym u.places) (λ i l. q.banks i))
