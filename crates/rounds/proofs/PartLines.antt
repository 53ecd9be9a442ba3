-- The lines of a list: the banks that the digits of a part tell, and the step from part to part.
use Rattle.std.proofs.Common.{◌≡◌, ℕ, zero, suc, ◌+◌, ◌-◌, ◌*◌, ◌/◌, ◌%◌, ◌<◌, ◌≤◌, min, cond, eqb, ltb, List, [], ◌∷◌, ◌++◌, length, take, drop, sym, refl, ap, ◌∙◌, subst, ap₂, ⊎_elim, append_assoc, append-nil, not-suc-le-zero, add-one, arith, Bor}
use Rattle.std.specs.List.{flat_map}
use Rattle.std.proofs.lemmas.List.{nil_from_length, length-drop, length-append, get_or_append_left, get_or-append_right, take_all, take_at, take_rest, drop_at, take-take, drop-take, take-append-le, drop-append-le, flat_map_more, length_push}
use Rattle.std.proofs.lemmas.Bool.{lt-ltb, le-ltb, cond-true, cond-false, cases_lt}
use Rattle.std.proofs.lemmas.Bool.Decides.{nat_tests}
use Rattle.frames.specs.declared.frame.Frame.{Frame}
use Rattle.frames.specs.declared.frame.Frame.TheVariants.{SheetHead, SheetBank, Feeder, FeederCount, Verdict, RoundHead, RoundBank, RoundPart, Refused}
use Rattle.frames.specs.declared.faults.FileFault.{FileFault}
use Rattle.frames.specs.declared.faults.FileFault.TheVariants.{Field as InField}
use Rattle.frames.specs.declared.unread.Unread.{Unread}
use Rattle.refusals.specs.declared.Refusal.{Refusal}
use Rattle.refusals.specs.Numbers.{bad_field}
use Rattle.frames.specs.Frames.{kind_of, FrameRead}
use Rattle.frames.specs.Digits.{AllDigits, numeral, value, Writes}
use Rattle.frames.specs.BadLines.{field, outside, BadLine}
use Rattle.frames.specs.Fields.{ToldColumn, bad_column}
use Rattle.frames.proofs.BadLines.{field_text, field_digits, frame_text, read_digits, read_length, bad_frame}
use Rattle.frames.proofs.FieldNumbers.{number_of_field}
use Rattle.frames.specs.Faults.{file_told}
use Rattle.frames.proofs.Numerals.{digits_drop, digits_front, writes_value}
use Rattle.rounds.specs.Parts.{part_size, part_line, part, part_lines, parts_of, part_due, bad_bank, part_column, OnlyBanks, BanksPut, PartPut, PartsFault}

pub length_pairs : (xs : List ℕ) → length (flat_map (numeral 2) xs) ≡ 2 * length xs
length_pairs [] = refl
length_pairs (x ∷ xs) = length-append (numeral 2 x) (flat_map (numeral 2) xs) ∙ (omega (arith, length_pairs xs))

bad_bank_next : (banks n m c : ℕ) (ds : List ℕ) → m ≡ suc n → bad_bank banks m c ds ≡ cond (ltb (value (take 2 ds)) banks) (bad_bank banks n (c + 2) (drop 2 ds)) c
unfolding bad_bank
bad_bank_next banks n m c ds e = ap (λ k. bad_bank banks k c ds) e

-- of no bank, no column is told
pub bad_bank_none : (banks c : ℕ) (ds : List ℕ) → bad_bank banks 0 c ds ≡ 0
unfolding bad_bank
bad_bank_none banks c ds = refl

-- one bank more, and a list more
pub only_more : (banks : ℕ) (xs ys : List ℕ) → OnlyBanks banks xs → OnlyBanks banks ys → OnlyBanks banks (xs ++ ys)
only_more banks xs ys h j k l =
    ⊎_elim
    (λ early. subst (λ (x : ℕ). x < banks) (sym (get_or_append_left xs ys 0 k early)) (h k early))
    (λ late. subst (λ (x : ℕ). x < banks) (sym (get_or-append_right xs ys (length xs) k 0 refl late)) (j (k - length xs) (omega (arith, length-append xs ys))))
    (cases_lt k (length xs))

only_one : (banks x : ℕ) → x < banks → OnlyBanks banks (x ∷ [])
only_one banks x h zero l = h
only_one banks x h (suc k) l = absurd (omega arith)

module _ (banks : ℕ) (digits before : List ℕ) where
  -- The banks of the first k pairs of digits are put behind a list.
  pub record Putting (list rest : List ℕ) (k : ℕ) : Type 0 where
    pub put : List ℕ
    pub behind : list ≡ before ++ put
    pub long : length put ≡ k
    pub only : OnlyBanks banks put
    pub digits_left : AllDigits rest
    pub text : digits ≡ flat_map (numeral 2) put ++ rest
    pub column : bad_bank banks (length digits / 2) 5 digits ≡ bad_bank banks (length digits / 2 - k) (5 + 2 * k) rest

  -- the next two digits
  module _ (list rest two after : List ℕ) (k n : ℕ) (h : Putting list rest k) (cut : rest ≡ two ++ after) (l : length two ≡ 2) where
    within : k < length digits / 2
    within = omega (arith, ap length h.text, length-append (flat_map (numeral 2) h.put) rest, length_pairs h.put, h.long, ap length cut, length-append two after)

    first : take 2 rest ≡ two
    first = ap (take 2) cut ∙ take_at two after 2 l

    later : drop 2 rest ≡ after
    later = ap (drop 2) cut ∙ drop_at two after 2 l

    module _ (read : length two ≤ 8 → AllDigits two → Writes two n) where
      writes : Writes two n
      writes = read (omega arith) (subst AllDigits first (digits_front rest 2 h.digits_left))

      here : bad_bank banks (length digits / 2) 5 digits ≡ cond (ltb n banks) (bad_bank banks (length digits / 2 - (k + 1)) (5 + 2 * (k + 1)) after) (5 + 2 * k)
      here =
          let due = length digits / 2 in
          let c : 5 + 2 * k + 2 ≡ 5 + 2 * (k + 1) = omega arith in
          h.column ∙ bad_bank_next banks (due - (k + 1)) (due - k) (5 + 2 * k) rest (omega (arith, within))
          ∙ ap₂ (λ (i x : ℕ). cond (ltb i banks) x (5 + 2 * k)) (ap value first ∙ sym (writes_value two n writes)) (ap₂ (bad_bank banks (due - (k + 1))) c later)

      pub put_bad : (line i : ℕ) → i ≡ k → banks ≤ n → ToldColumn (bad_bank banks (length digits / 2) 5 digits) line (InField line (5 + 2 * i))
      put_bad line i same bad =
          let e = here ∙ cond-false _ _ _ (le-ltb n banks bad) in
          (omega arith, ap (InField line) (ap (λ j. 5 + 2 * j) same ∙ sym e))

      pub put_more : (m : ℕ) → m ≡ k + 1 → n < banks → Putting (list ++ n ∷ []) after m
      put_more m one good =
          let same : two ≡ numeral 2 n = writes.text ∙ ap (λ i. numeral i n) l in
          subst (Putting (list ++ n ∷ []) after) (sym one) (record {
            put = h.put ++ n ∷ [];
            behind = ap (λ xs. xs ++ n ∷ []) h.behind ∙ append_assoc before h.put (n ∷ []);
            long = length_push h.put n ∙ ap (λ i. i + 1) h.long;
            only = only_more banks h.put (n ∷ []) h.only (only_one banks n good);
            digits_left = subst AllDigits later (digits_drop rest 2 h.digits_left);
            text = h.text ∙ ap (λ xs. flat_map (numeral 2) h.put ++ xs) (cut ∙ ap (λ xs. xs ++ after) same)
                ∙ sym (append_assoc (flat_map (numeral 2) h.put) (numeral 2 n) after) ∙ ap (λ xs. xs ++ after) (flat_map_more (numeral 2) [] h.put n);
            column = here ∙ cond-true _ _ _ (lt-ltb n banks good);
          })

  pub put_end : (list rest : List ℕ) (k : ℕ) → Putting list rest k → length rest < 2 → length digits % 2 ≡ 0 → BanksPut banks digits before list
  put_end list rest k h short even =
      let none = nil_from_length rest (omega (arith, ap length h.text, length-append (flat_map (numeral 2) h.put) rest, length_pairs h.put)) in
      record { put = h.put; behind = h.behind; only = h.only; text = h.text ∙ ap (λ xs. flat_map (numeral 2) h.put ++ xs) none ∙ append-nil _ }

-- A frame that is no part of a list is of another kind.
pub not_part : (f : Frame) → ((x : Bor (List ℕ)) → f ≡ RoundPart x → ⊥) → kind_of f ≡ 19 → ⊥
not_part (SheetHead b) n e = omega arith
not_part (SheetBank b) n e = omega arith
not_part (Feeder b) n e = omega arith
not_part (FeederCount b) n e = omega arith
not_part (Verdict b) n e = omega arith
not_part (RoundHead b) n e = omega arith
not_part (RoundBank b) n e = omega arith
not_part (RoundPart b) n e = n b refl
not_part (Refused b) n e = omega arith

-- A part of a list that was read.
pub record PartFrame (bytes body after : List ℕ) : Type 0 where
  pub digits : AllDigits body
  pub size : length body ≡ 2 + 2 * field 0 2 body
  pub text : bytes ≡ numeral 2 19 ++ (body ++ (10 ∷ after))
  pub bad : (bad-column : List ℕ → ℕ) (line column : ℕ) → column ≡ bad-column body → 0 < column → BadLine 19 bad-column bytes line (bad_field line column)

pub part_frame : (bytes : List ℕ) (f : Frame) (b : Bor (List ℕ)) (after : List ℕ) → f ≡ RoundPart b → FrameRead bytes f after → PartFrame bytes b.now after
part_frame bytes f b after e h =
    let r = subst (λ (g : Frame). FrameRead bytes g after) e h in
    record {
      digits = read_digits bytes (RoundPart b) after r;
      size = read_length bytes (RoundPart b) after r;
      text = frame_text bytes (RoundPart b) after r;
      bad = λ bad-column line column is some. bad_frame bad-column bytes line (RoundPart b) after column r is some;
    }

-- The column where the number of banks is not the number due.
abbrev pub count_column : ℕ → List ℕ → ℕ
count_column due = bad_column (record { place = 0; width = 2; low = due; high = due } ∷ [])

-- What the digits behind the number of banks are.
pub record DueDigits (banks due : ℕ) (body ds : List ℕ) : Type 0 where
  pub text : body ≡ numeral 2 due ++ ds
  pub digits : AllDigits ds
  pub long : length ds ≡ 2 * due
  pub column : bad_bank banks (length ds / 2) 5 ds ≡ part_column banks due body

module _ (banks due : ℕ) (bytes body after : List ℕ) (f : PartFrame bytes body after) where
  count_is : count_column due body ≡ cond (outside due due (field 0 2 body)) 3 0
  count_is = ap (λ n. cond (outside due due n) 3 0) (number_of_field 0 2 body (omega arith) (omega (arith, f.size)) (field_digits 0 2 body f.digits))

  other_count : (n x : ℕ) → 0 < cond (outside due due n) 3 0 → cond (outside due due n) 3 0 ≡ cond (eqb n due) x 3
  other_count n x h = grind (arith, nat_tests)

  same_count : (n x m k : ℕ) → k ≡ cond (outside due due n) 3 0 → m ≡ cond (eqb n due) x 3 → k ≡ 0 → (n ≡ due) × (x ≡ m)
  same_count n x m k c e h = (grind (arith, nat_tests), grind (arith, nat_tests))

  pub part_told : (column line at : ℕ) (e : FileFault) → at ≡ line → column ≡ part_column banks due body → ToldColumn column at e → BadLine 19 (part_column banks due) bytes line (file_told e)
  part_told column line at e here is told =
      subst (BadLine 19 (part_column banks due) bytes line) (sym (ap file_told told.1 ∙ ap (λ n. bad_field n column) here)) (f.bad (part_column banks due) line column is told.0)

  pub count_told : (line at : ℕ) (e : FileFault) → at ≡ line → ToldColumn (count_column due body) at e → BadLine 19 (part_column banks due) bytes line (file_told e)
  count_told line at e here told =
      part_told (count_column due body) line at e here (count_is ∙ other_count (field 0 2 body) (bad_bank banks due 5 (drop 2 body)) (subst (λ (n : ℕ). 0 < n) count_is told.0)) told

  module _ (good : count_column due body ≡ 0) where
    pub due_digits : DueDigits banks due body (take (length body - 2) (drop 2 body))
    due_digits =
        let ds = drop 2 body in
        let is = same_count (field 0 2 body) (bad_bank banks due 5 ds) (part_column banks due body) (count_column due body) count_is refl good in
        let long : length ds ≡ 2 * due = length-drop 2 body ∙ (omega (arith, f.size, is.0)) in
        let half : length ds / 2 ≡ due = omega arith in
        subst (DueDigits banks due body) (sym (take_rest body 2)) (record {
          text = field_text 0 2 body f.digits (omega (arith, f.size)) ∙ ap (λ n. numeral 2 n ++ ds) is.0;
          digits = digits_drop body 2 f.digits;
          long = long;
          column = ap (λ n. bad_bank banks n 5 ds) half ∙ is.1;
        })

    pub part_put : (before list : List ℕ) (from to : Unread) → from.rest.now ≡ bytes → to.rest.now ≡ after → to.line ≡ from.line + 1 → BanksPut banks (take (length body - 2) (drop 2 body)) before list → PartPut banks due from before to list
    part_put before list from to begins ends one p =
        let d = due_digits in
        let long : length p.put ≡ due = omega (arith, ap length p.text, length_pairs p.put, d.long) in
        record {
          put = p.put;
          behind = p.behind;
          long = long;
          only = p.only;
          text = begins ∙ f.text ∙ ap (λ xs. numeral 2 19 ++ (xs ++ (10 ∷ after))) (d.text ∙ ap₂ (λ (n : ℕ) (xs : List ℕ). numeral 2 n ++ xs) (sym long) p.text)
              ∙ ap (λ xs. numeral 2 19 ++ (numeral 2 (length p.put) ++ xs)) (sym (append_assoc (flat_map (numeral 2) p.put) (10 ∷ []) after)) ∙ ap (λ xs. part_line p.put ++ xs) (sym ends);
          line = one;
        }

-- The lines of full parts stay the same where banks are put behind them.
pub part_lines_front : (xs ys : List ℕ) (n : ℕ) → part_size * n ≤ length xs → part_lines (xs ++ ys) n ≡ part_lines xs n
unfolding part_lines
part_lines_front xs ys zero h = refl
part_lines_front xs ys (suc n) h =
    let room : part_size ≤ length (drop (part_size * n) xs) = omega (arith, length-drop (part_size * n) xs) in
    let same : part (xs ++ ys) n ≡ part xs n =
    ap (take part_size) (drop-append-le (part_size * n) xs ys (omega arith)) ∙ take-append-le part_size (drop (part_size * n) xs) ys room in
    ap₂ (λ (a b : List ℕ). a ++ part_line b) (part_lines_front xs ys n (omega arith)) same

pub part_lines_more : (xs : List ℕ) (n : ℕ) → part_lines xs (n + 1) ≡ part_lines xs n ++ part_line (part xs n)
unfolding part_lines
part_lines_more xs n = ap (part_lines xs) (add-one n)

-- A part is what its places of the list hold.
part_place : (xs : List ℕ) (n k : ℕ) → k < n → part xs k ≡ part (take (part_size * n) xs) k
part_place xs n k h =
    let all : part_size * k + part_size ≤ part_size * n = omega arith in
    sym (drop-take (part_size * k) part_size xs)
    ∙ ap (drop (part_size * k)) (sym (take-take (part_size * k + part_size) (part_size * n) xs all))
    ∙ drop-take (part_size * k) part_size (take (part_size * n) xs)

-- The lines of the first parts depend on their places only.
pub part_lines_of_front : (xs : List ℕ) (n k : ℕ) → k ≤ n → part_lines xs k ≡ part_lines (take (part_size * n) xs) k
unfolding part_lines
part_lines_of_front xs n zero h = refl
part_lines_of_front xs n (suc k) h = ap₂ (λ (a b : List ℕ). a ++ part_line b) (part_lines_of_front xs n k (omega arith)) (part_place xs n k (omega arith))

pub part_lines_same : (xs ys : List ℕ) (n : ℕ) → take (part_size * n) xs ≡ take (part_size * n) ys → part_lines xs n ≡ part_lines ys n
part_lines_same xs ys n e =
    part_lines_of_front xs n n (omega arith) ∙ ap (λ (zs : List ℕ). part_lines zs n) e ∙ sym (part_lines_of_front ys n n (omega arith))

-- One line more, behind full parts.
pub one_part_more : (xs put : List ℕ) (n : ℕ) → length xs ≡ part_size * n → length put ≤ part_size → part_lines (xs ++ put) (n + 1) ≡ part_lines xs n ++ part_line put
one_part_more xs put n full few =
    let last : part (xs ++ put) n ≡ put = ap (take part_size) (drop_at xs put (part_size * n) full) ∙ take_all part_size put few in
    part_lines_more (xs ++ put) n ∙ ap₂ (λ (a b : List ℕ). a ++ part_line b) (part_lines_front xs put n (omega arith)) last

module _ (banks dwells : ℕ) (bytes : List ℕ) where
  -- So many parts of a list are read; all but the last are full.
  pub record PartsGoing (xs : List ℕ) (lines : Unread) (n : ℕ) : Type 0 where
    pub long : length xs ≡ min dwells (part_size * n)
    pub only : OnlyBanks banks xs
    pub text : bytes ≡ part_lines xs n ++ lines.rest.now
    pub line : lines.line ≡ (2 + banks) + n

  pub parts_none : (lines : Unread) → bytes ≡ lines.rest.now → lines.line ≡ 2 + banks → PartsGoing [] lines 0
  unfolding part_lines
  parts_none lines e l = record { long = omega arith; only = λ k h. absurd (not-suc-le-zero h); text = e; line = omega arith }

  module _ (xs : List ℕ) (lines : Unread) (n : ℕ) (g : PartsGoing xs lines n) (more : n < parts_of dwells) (due : ℕ) (is : due ≡ min part_size (dwells - length xs)) where
    full : length xs ≡ part_size * n
    full = omega (arith, g.long)

    pub parts_more : (ys : List ℕ) (next : Unread) → PartPut banks due lines xs next ys → PartsGoing ys next (n + 1)
    parts_more ys next p =
        subst (λ (zs : List ℕ). PartsGoing zs next (n + 1)) (sym p.behind) (record {
          long = omega (arith, full, length-append xs p.put, p.long, is);
          only = only_more banks xs p.put g.only p.only;
          text = g.text ∙ ap (λ zs. part_lines xs n ++ zs) p.text ∙ sym (append_assoc (part_lines xs n) (part_line p.put) next.rest.now)
              ∙ ap (λ zs. zs ++ next.rest.now) (sym (one_part_more xs p.put n full (omega (arith, p.long, is))));
          line = omega (arith, p.line, g.line);
        })

    pub parts_fault : (r : Refusal) → BadLine 19 (part_column banks due) lines.rest.now lines.line r → PartsFault banks dwells bytes r
    parts_fault r bad = record {
      good = n;
      listed = xs;
      rest = lines.rest.now;
      full = full;
      more = omega (arith, full);
      only = g.only;
      text = g.text;
      bad =
          let same : due ≡ part_due (dwells - part_size * n) = is ∙ ap (λ n. part_due (dwells - n)) full in
          subst (λ (d : ℕ). BadLine 19 (part_column banks d) lines.rest.now ((2 + banks) + n) r) same
          (subst (λ (m : ℕ). BadLine 19 (part_column banks due) lines.rest.now m r) g.line bad);
    }

-- A fault of the same list of the same lines.
pub fault_along : {m n d e : ℕ} {x y : List ℕ} {r : Refusal} → m ≡ n → d ≡ e → x ≡ y → PartsFault m d x r → PartsFault n e y r
fault_along {m} {n} {d} {e} {x} {y} {r} count dwells lines f =
    subst (λ (k : ℕ). PartsFault k e y r) count (subst (λ (k : ℕ). PartsFault m k y r) dwells (subst (λ (ys : List ℕ). PartsFault m d ys r) lines f))
