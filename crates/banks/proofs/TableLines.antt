-- The lines of a bank table: their fields, their limits, and the step from bank to bank.
use Rattle.std.proofs.Common.{◌≡◌, ℕ, zero, suc, ◌+◌, ◌-◌, ◌<◌, ◌≤◌, cond, ◌≢◌, List, [], ◌∷◌, ◌++◌, length, get_or, take, drop, ⊎_elim, set, replicate, sym, refl, ap, ◌∙◌, subst, append_assoc, not-suc-le-zero, add-one, arith, length-append, Bor, below_more}
use Rattle.std.proofs.lemmas.List.{get_or-set_same, get_or-set_other, get_or_append_left, get_or-append_right, get_or-take, get_or-drop, get_or_past, length-take, drop_at}
use Rattle.std.proofs.lemmas.Bool.{cases_lt}
use Rattle.std.proofs.lemmas.Bool.Decides.{nat_tests}
use Rattle.frames.specs.declared.frame.Frame.TheVariants.{RoundBank}
use Rattle.frames.specs.declared.fields.Field.{Field}
use Rattle.frames.specs.Fields.{numbers_in, bad_column, number_in}
use Rattle.frames.specs.Frames.{FrameRead}
use Rattle.frames.specs.BadLines.{field, outside}
use Rattle.frames.proofs.FieldsRead.{frame_of_numbers}
use Rattle.banks.specs.declared.table.Bank.{Bank}
use Rattle.banks.specs.declared.table.BankTable.{BankTable}
use Rattle.banks.specs.Limits.{no_bank, bank_at, BankWithin, Empty, most_dwell, most_gap}
use Rattle.sheets.specs.Limits.{fewest_banks, most_banks, most_settle, most_panel}
use Rattle.frames.specs.Lines.{most_bytes}
use Rattle.banks.specs.Stored.{most_dwells, head_line, bank_line, bank_lines, HeadWithin, head_column, bank_column, BanksRead, TableRead}

-- The fields of a head line, and of the line that is due for bank i.
abbrev pub head_fields : List Field
head_fields = record { place = 0; width = 2; low = 2; high = 16 } ∷ record { place = 2; width = 4; low = 0; high = 1000 } ∷ record { place = 6; width = 4; low = 1; high = 4096 } ∷ []

abbrev pub bank_fields : ℕ → List Field
bank_fields i = record { place = 0; width = 2; low = i; high = i } ∷ record { place = 2; width = 2; low = 0; high = 3 } ∷ record { place = 4; width = 4; low = 1; high = 1000 } ∷ record { place = 8; width = 4; low = 1; high = 65533 } ∷ []

-- What the numbers of a line are, read from its digits.
pub record HeadIs (body : List ℕ) (banks settle dwells : ℕ) : Type 0 where
  pub banks_is : banks ≡ field 0 2 body
  pub settle_is : settle ≡ field 2 4 body
  pub dwells_is : dwells ≡ field 6 4 body

pub record BankIs (body : List ℕ) (at panel dwell gap : ℕ) : Type 0 where
  pub at_is : at ≡ field 0 2 body
  pub panel_is : panel ≡ field 2 2 body
  pub dwell_is : dwell ≡ field 4 4 body
  pub gap_is : gap ≡ field 8 4 body

-- The column that is told, by the numbers.
abbrev pub head_fault : (banks settle dwells : ℕ) → ℕ
head_fault banks settle dwells = cond (outside fewest_banks most_banks banks) 3 (cond (outside 0 most_settle settle) 5 (cond (outside 1 most_dwells dwells) 9 0))

abbrev pub bank_fault : (i at panel dwell gap : ℕ) → ℕ
bank_fault i at panel dwell gap = cond (outside i i at) 3 (cond (outside 0 most_panel panel) 5 (cond (outside 1 most_dwell dwell) 7 (cond (outside 1 most_gap gap) 11 0)))

pub head_column_is : (body : List ℕ) (banks settle dwells column : ℕ) → HeadIs body banks settle dwells → column ≡ head_fault banks settle dwells → column ≡ head_column body
head_column_is body banks settle dwells column h e =
    e ∙ ap (λ n. head_fault n settle dwells) h.banks_is ∙ ap (λ n. head_fault (field 0 2 body) n dwells) h.settle_is ∙ ap (λ n. head_fault (field 0 2 body) (field 2 4 body) n) h.dwells_is

pub bank_column_is : (i : ℕ) (body : List ℕ) (at panel dwell gap column : ℕ) → BankIs body at panel dwell gap → column ≡ bank_fault i at panel dwell gap → column ≡ bank_column i body
bank_column_is i body at panel dwell gap column h e =
    e
    ∙ ap (λ n. bank_fault i n panel dwell gap) h.at_is
    ∙ ap (λ n. bank_fault i (field 0 2 body) n dwell gap) h.panel_is
    ∙ ap (λ n. bank_fault i (field 0 2 body) (field 2 2 body) n gap) h.dwell_is
    ∙ ap (λ n. bank_fault i (field 0 2 body) (field 2 2 body) (field 4 4 body) n) h.gap_is

-- Numbers within their limits are at no fault.
pub head_no_fault : (banks settle dwells : ℕ) → HeadWithin banks settle dwells → head_fault banks settle dwells ≡ 0
head_no_fault banks settle dwells h =
    let a = h.enough in let b = h.few in let s = h.settles in let d = h.some_dwell in let f = h.few_dwells in
    grind (arith, nat_tests)

pub bank_no_fault : (i : ℕ) (b : Bank) → BankWithin b → bank_fault i i b.panel b.dwell b.gap ≡ 0
bank_no_fault i b h =
    let p = h.panel in let d = h.dwell.0 in let d' = h.dwell.1 in let g = h.gap.0 in let g' = h.gap.1 in
    grind (arith, nat_tests)

-- The lines of banks depend on those banks only.
pub bank_lines_same : (xs ys : List Bank) (n : ℕ) → ((i : ℕ) → i < n → bank_at xs i ≡ bank_at ys i) → bank_lines xs n ≡ bank_lines ys n
unfolding bank_lines
bank_lines_same xs ys zero same = refl
bank_lines_same xs ys (suc n) same =
    let a = bank_lines_same xs ys n (λ i h. same i (omega arith)) in
    let b = same n (omega arith) in
    ap (λ ls. ls ++ bank_line n (bank_at xs n)) a ∙ ap (λ x. bank_lines ys n ++ bank_line n x) b

pub bank_lines_more : (banks : List Bank) (n : ℕ) → bank_lines banks (n + 1) ≡ bank_lines banks n ++ bank_line n (bank_at banks n)
unfolding bank_lines
bank_lines_more banks n = ap (bank_lines banks) (add-one n)

-- The line of bank i that was read.
abbrev pub bank_of : (panel dwell gap : ℕ) → Bank
bank_of panel dwell gap = record { panel = panel; dwell = dwell; gap = gap }

pub bank_read : (i : ℕ) (bytes : List ℕ) (b : Bor (List ℕ)) (after ns : List ℕ) → FrameRead bytes (RoundBank b) after → ns ≡ numbers_in (bank_fields i) b.now → bad_column (bank_fields i) b.now ≡ 0
    → BankWithin (bank_of (get_or ns 1 0) (get_or ns 2 0) (get_or ns 3 0)) × (bytes ≡ bank_line i (bank_of (get_or ns 1 0) (get_or ns 2 0) (get_or ns 3 0)) ++ after)
bank_read i bytes b after ns read is good =
    let n : get_or ns 0 0 ≡ number_in 0 2 b.now = ap (λ (xs : List ℕ). get_or xs 0 0) is in
    let p : get_or ns 1 0 ≡ number_in 2 2 b.now = ap (λ (xs : List ℕ). get_or xs 1 0) is in
    let d : get_or ns 2 0 ≡ number_in 4 4 b.now = ap (λ (xs : List ℕ). get_or xs 2 0) is in
    let g : get_or ns 3 0 ≡ number_in 8 4 b.now = ap (λ (xs : List ℕ). get_or xs 3 0) is in
    let own : get_or ns 0 0 ≡ i = grind (arith, nat_tests) in (
      record { panel = grind (arith, nat_tests); dwell = (grind (arith, nat_tests), grind (arith, nat_tests)); gap = (grind (arith, nat_tests), grind (arith, nat_tests)) },
      frame_of_numbers bytes (RoundBank b) after read (bank_fields i) refl ns is ∙ ap (λ (k : ℕ). bank_line k (bank_of (get_or ns 1 0) (get_or ns 2 0) (get_or ns 3 0)) ++ after) own,
    )

-- No bank is read yet.
pub no_bank_empty : Empty no_bank
no_bank_empty = record { panel = refl; dwell = refl; gap = refl }

abbrev pub all_zeros : List Bank
all_zeros = replicate most_banks no_bank

no_bank_at : (n i : ℕ) → bank_at (replicate n no_bank) i ≡ no_bank
no_bank_at zero i = refl
no_bank_at (suc n) zero = refl
no_bank_at (suc n) (suc i) = no_bank_at n i

pub zeros_front : (k i : ℕ) → Empty (bank_at (take k all_zeros) i)
zeros_front k i =
    ⊎_elim
    (λ l. subst Empty (sym (get_or-take k all_zeros i no_bank l ∙ no_bank_at most_banks i)) no_bank_empty)
    (λ l. subst Empty (sym (get_or_past (take k all_zeros) i no_bank (omega (arith, length-take k all_zeros)))) no_bank_empty)
    (cases_lt i k)

pub zeros_behind : (k i : ℕ) → Empty (bank_at (drop k all_zeros) i)
zeros_behind k i = subst Empty (sym (get_or-drop k all_zeros i no_bank ∙ no_bank_at most_banks (k + i))) no_bank_empty

pub no_banks : (bytes : List ℕ) (k : ℕ) → BanksRead bytes (take k all_zeros) 0 bytes
unfolding bank_lines
no_banks bytes k = record {
  within = λ i h. absurd (not-suc-le-zero h);
  unused = λ i h. zeros_front k i;
  text = refl;
}

-- One bank more.
pub one_bank_more : (bytes : List ℕ) (banks : List Bank) (i : ℕ) (rest : List ℕ) (b : Bank) (next : List ℕ) → BanksRead bytes banks i rest → i < length banks → BankWithin b → rest ≡ bank_line i b ++ next → BanksRead bytes (set banks i b) (i + 1) next
one_bank_more bytes banks i rest b next r s w e =
    let same = get_or-set_same banks i b no_bank s in
    let other : (k : ℕ) → k ≢ i → bank_at (set banks i b) k ≡ bank_at banks k = λ k h. get_or-set_other banks i k b no_bank h in
    record {
      within = below_more (λ k. BankWithin (bank_at (set banks i b) k)) i (λ k h. subst BankWithin (sym (other k (omega arith))) (r.within k h)) (subst BankWithin (sym same) w);
      unused = λ k h. subst Empty (sym (other k (omega arith))) (r.unused k (omega arith));
      text =
          let l = bank_lines_more (set banks i b) i in
          let m = bank_lines_same (set banks i b) banks i (λ k h. other k (omega arith)) in
          let a = append_assoc (bank_lines banks i) (bank_line i b) next in
          let t = r.text in
          t ∙ ap (λ xs. bank_lines banks i ++ xs) e ∙ sym a
          ∙ ap (λ x. (bank_lines banks i ++ bank_line i x) ++ next) (sym same)
          ∙ ap (λ ls. (ls ++ bank_line i (bank_at (set banks i b) i)) ++ next) (sym m)
          ∙ ap (λ ls. ls ++ next) (sym l);
    }

-- Behind the banks that were read stand zeros.
pub banks_front : (bytes : List ℕ) (banks : List Bank) (n : ℕ) (rest : List ℕ) → length banks ≡ n → BanksRead bytes banks n rest → BanksRead bytes (banks ++ drop n all_zeros) n rest
banks_front bytes banks n rest l r =
    let more = drop n all_zeros in
    let same : (k : ℕ) → k < n → bank_at banks k ≡ bank_at (banks ++ more) k = λ k h. sym (get_or_append_left banks more no_bank k (omega arith)) in
    record {
      within = λ k h. subst BankWithin (same k h) (r.within k h);
      unused = λ k h. subst Empty (sym (get_or-append_right banks more n k no_bank l h)) (zeros_behind n (k - n));
      text = r.text ∙ ap (λ (ls : List ℕ). ls ++ rest) (bank_lines_same banks (banks ++ more) n same);
    }

-- What is left begins where the front ends.
pub rest_at : (bytes front rest : List ℕ) → bytes ≡ front ++ rest → drop (length bytes - length rest) bytes ≡ rest
rest_at bytes front rest e =
    let l = ap length e ∙ length-append front rest in
    ap (drop (length bytes - length rest)) e ∙ drop_at front rest (length bytes - length rest) (omega (arith, l))

-- The table that was read, from its head and its banks.
pub table_read : (bytes : List ℕ) (settle dwells : ℕ) (after : List ℕ) (banks : List Bank) (rest : List ℕ) (t : BankTable) → length bytes ≤ most_bytes → HeadWithin t.count settle dwells → bytes ≡ head_line t.count settle dwells ++ after → BanksRead after banks t.count rest → t.settle ≡ settle → t.banks ≡ banks → TableRead bytes t dwells rest
table_read bytes settle dwells after banks rest t s h e r p q = record {
  size = s;
  some_dwell = h.some_dwell;
  few_dwells = h.few_dwells;
  text =
      e ∙ ap (λ xs. head_line t.count settle dwells ++ xs) r.text
      ∙ ap (λ n. head_line t.count n dwells ++ (bank_lines banks t.count ++ rest)) (sym p)
      ∙ ap (λ bs. head_line t.count t.settle dwells ++ (bank_lines bs t.count ++ rest)) (sym q);
}

-- The lines of a table stand before the rest.
pub table_front : (bytes : List ℕ) (t : BankTable) (dwells : ℕ) (rest : List ℕ) → TableRead bytes t dwells rest → (front : List ℕ) × (bytes ≡ front ++ rest)
table_front bytes t dwells rest r = (
  head_line t.count t.settle dwells ++ bank_lines t.banks t.count,
  r.text ∙ sym (append_assoc (head_line t.count t.settle dwells) (bank_lines t.banks t.count) rest),
)
