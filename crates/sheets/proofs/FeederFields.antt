-- The fields of a feeder's line, and of the line that counts them.
use Rattle.std.proofs.Common.{◌≡◌, ℕ, ◌+◌, ◌-◌, ◌*◌, ◌<◌, ◌≤◌, cond, leb, List, [], ◌∷◌, ◌++◌, length, get_or, refl, sym, ap, ◌∙◌, subst, arith}
use Rattle.std.proofs.lemmas.List.{drop_all}
use Rattle.std.proofs.lemmas.Bool.Decides.{nat_tests}
use Rattle.frames.specs.declared.fields.Field.{Field}
use Rattle.frames.specs.declared.faults.FileFault.{FileFault}
use Rattle.frames.specs.Digits.{AllDigits, numeral}
use Rattle.frames.specs.BadLines.{field, outside}
use Rattle.frames.specs.Fields.{numbers_in, bad_column, number_in, ToldColumn}
use Rattle.frames.proofs.BadLines.{field_digits}
use Rattle.frames.proofs.FieldNumbers.{number_of_field}
use Rattle.frames.proofs.FieldsRead.{outside_column, texts, fields_text, told_written, column_is_written}
use Rattle.sheets.specs.declared.feeder.Feeder.{Feeder}
use Rattle.sheets.specs.Feeders.{FeederWithin}
use Rattle.sheets.specs.SheetLines.{feeder_body, feeder_column, count_column}

abbrev pub first_fields : ℕ → List Field
first_fields banks = record { place = 0; width = 4; low = 0; high = 65535 } ∷ record { place = 4; width = 2; low = 0; high = banks - 1 } ∷ record { place = 6; width = 4; low = 1; high = 1000 } ∷ []

abbrev pub swap_fields : ℕ → List Field
swap_fields reading = record { place = 10; width = 4; low = 2 * reading + 1; high = 65535 } ∷ []

abbrev pub count_fields : ℕ → List Field
count_fields n = record { place = 0; width = 4; low = n; high = n } ∷ []

abbrev pub feeder_of : (number bank reading swap : ℕ) → Feeder
feeder_of number bank reading swap = record { number = number; bank = bank; reading = reading; swap = swap }

-- The column of the first three numbers is the line's, where it tells of one; else that of the last number is.
abbrev of_three : (banks number bank reading last : ℕ) → ℕ
of_three banks number bank reading last = cond (outside 0 65535 number) 3 (cond (outside 0 (banks - 1) bank) 7 (cond (outside 1 1000 reading) 9 last))

abbrev of_four : (banks number bank reading last : ℕ) → ℕ
of_four banks number bank reading last = cond (outside 0 65535 number) 3 (cond (leb banks bank) 7 (cond (outside 1 1000 reading) 9 last))

three_told : (banks number bank reading last : ℕ) → 1 ≤ banks → 0 < of_three banks number bank reading 0 → of_three banks number bank reading 0 ≡ of_four banks number bank reading last
three_told banks number bank reading last some told = grind (arith, nat_tests)

three_good : (banks number bank reading last : ℕ) → 1 ≤ banks → of_three banks number bank reading 0 ≡ 0 → last ≡ of_four banks number bank reading last
three_good banks number bank reading last some good = grind (arith, nat_tests)

-- The digits of a feeder's line.
module _ (body : List ℕ) (t : AllDigits body) (l : length body ≡ 14) (banks : ℕ) (some : 1 ≤ banks) where
  pub first_bad : (line : ℕ) (e : FileFault) → ToldColumn (bad_column (first_fields banks) body) line e → ToldColumn (feeder_column banks body) line e
  first_bad line e told =
      let h = told_written body t 10 (omega arith) 0 (first_fields banks) refl line e told in
      subst (λ (c : ℕ). ToldColumn c line e) (three_told banks (field 0 4 body) (field 4 2 body) (field 6 4 body) _ some h.0) h

  module _ (ns : List ℕ) (read : ns ≡ numbers_in (first_fields banks) body) (good : bad_column (first_fields banks) body ≡ 0) where
    reading_is : get_or ns 2 0 ≡ field 6 4 body
    reading_is = ap (λ (xs : List ℕ). get_or xs 2 0) read ∙ number_of_field 6 4 body (omega arith) (omega arith) (field_digits 6 4 body t)

    pub last_bad : (line : ℕ) (e : FileFault) → ToldColumn (bad_column (swap_fields (get_or ns 2 0)) body) line e → ToldColumn (feeder_column banks body) line e
    last_bad line e told =
        let h = told_written body t 14 (omega arith) 10 (swap_fields (get_or ns 2 0)) refl line e told in
        let r = reading_is in
        let same : outside_column (swap_fields (get_or ns 2 0)) body ≡ outside_column (swap_fields (field 6 4 body)) body = ap (λ (n : ℕ). outside_column (swap_fields n) body) r in
        let g : outside_column (first_fields banks) body ≡ 0 = sym (column_is_written body t 10 (omega arith) 0 (first_fields banks) refl) ∙ good in
        subst (λ (c : ℕ). ToldColumn c line e) (same ∙ three_good banks (field 0 4 body) (field 4 2 body) (field 6 4 body) (outside_column (swap_fields (field 6 4 body)) body) some g) h

    module _ (swap : ℕ) (last : swap ≡ number_in 10 4 body) (long : 2 * get_or ns 2 0 + 1 ≤ swap) (short : swap ≤ 65535) where
      pub feeder_within : FeederWithin banks (feeder_of (get_or ns 0 0) (get_or ns 1 0) (get_or ns 2 0) swap)
      feeder_within =
          let a : get_or ns 0 0 ≡ number_in 0 4 body = ap (λ (xs : List ℕ). get_or xs 0 0) read in
          let b : get_or ns 1 0 ≡ number_in 4 2 body = ap (λ (xs : List ℕ). get_or xs 1 0) read in
          let r : get_or ns 2 0 ≡ number_in 6 4 body = ap (λ (xs : List ℕ). get_or xs 2 0) read in
          record {
            numbered = grind (arith, nat_tests);
            on_bank = grind (arith, nat_tests);
            some_reading = grind (arith, nat_tests);
            few_reading = grind (arith, nat_tests);
            long_swap = long;
            short_swap = short;
          }

      pub feeder_text : body ≡ feeder_body (feeder_of (get_or ns 0 0) (get_or ns 1 0) (get_or ns 2 0) swap)
      feeder_text =
          fields_text body t 10 (omega arith) 0 0 (first_fields banks) ns refl read
          ∙ ap (λ (xs : List ℕ). texts 0 (first_fields banks) ns ++ xs)
          (fields_text body t 14 (omega arith) 10 0 (swap_fields (get_or ns 2 0)) (swap ∷ []) refl (ap (λ (n : ℕ). n ∷ []) last) ∙ ap (λ (xs : List ℕ). texts 0 (swap_fields (get_or ns 2 0)) (swap ∷ []) ++ xs) (drop_all 14 body (omega arith)))

-- The digits of the line that counts n feeders.
module _ (body : List ℕ) (t : AllDigits body) (l : length body ≡ 4) (n : ℕ) where
  pub count_bad : (line : ℕ) (e : FileFault) → ToldColumn (bad_column (count_fields n) body) line e → ToldColumn (count_column n body) line e
  count_bad line e told = told_written body t 4 (omega arith) 0 (count_fields n) refl line e told

  pub count_text : (ns : List ℕ) → ns ≡ numbers_in (count_fields n) body → bad_column (count_fields n) body ≡ 0 → body ≡ numeral 4 n
  count_text ns read good =
      let a : get_or ns 0 0 ≡ number_in 0 4 body = ap (λ (xs : List ℕ). get_or xs 0 0) read in
      let e : get_or ns 0 0 ≡ n = grind (arith, nat_tests) in
      fields_text body t 4 (omega arith) 0 0 (count_fields n) ns refl read
      ∙ ap (λ (xs : List ℕ). texts 0 (count_fields n) ns ++ xs) (drop_all 4 body (omega arith))
      ∙ ap (numeral 4) e
