-- The numbers in the fields of a line.
use Rattle.std.proofs.Common.{◌≡◌, ℕ, ◌+◌, ◌<◌, ◌≤◌, Bool, true, false, ◌&&◌, not, List, [], ◌∷◌, ◌++◌, length, get_or, take, drop, refl, sym, ap, ◌∙◌, arith, leb, add-one, drop-cons, ⊎_elim, suc}
use Rattle.std.proofs.lemmas.Bool.{cases_Bool, false_from_ne_true, and_parts, and_from, cond-true, cond-false, ltb-true, lt-ltb, leb-true, le-leb, both_ways, not-true}
use Rattle.std.proofs.Math.ListN.{set}
use Rattle.std.proofs.Math.Seq.{take-suc-set}
use Rattle.std.proofs.lemmas.List.{take_more, take_all, drop_all}
use Rattle.frames.specs.declared.fields.Field.{Field}
use Rattle.frames.specs.Digits.{AllDigits}
use Rattle.frames.specs.BadLines.{field, outside}
use Rattle.frames.specs.Fields.{all_digits, number_in, numbers_in, bad_column}
use Rattle.frames.proofs.Numerals.{all_none, all_cons, all_head, all_tail}

pub all_from : (xs : List ℕ) → all_digits xs ≡ true → AllDigits xs
all_from [] e = all_none
all_from (b ∷ bs) e = let p = and_parts _ _ e in all_cons b bs (ltb-true _ 16 p.0) (all_from bs p.1)

pub all_to : (xs : List ℕ) → AllDigits xs → all_digits xs ≡ true
all_to [] t = refl
all_to (b ∷ bs) t = and_from _ _ (lt-ltb _ 16 (all_head b bs t)) (all_to bs (all_tail b bs t))

-- Where digits have the field, its number is the one that they write there.
pub number_of_field : (place width : ℕ) (xs : List ℕ) → width ≤ 8 → place + width ≤ length xs → AllDigits (take width (drop place xs)) → number_in place width xs ≡ field place width xs
unfolding number_in
number_of_field place width xs s l t = cond-true _ (field place width xs) 0 (and_from _ _ (le-leb width 8 s) (and_from _ _ (le-leb (place + width) (length xs) l) (all_to _ t)))

pub no_number : (place width : ℕ) (xs : List ℕ) → (width ≤ 8 → place + width ≤ length xs → AllDigits (take width (drop place xs)) → ⊥) → number_in place width xs ≡ 0
unfolding number_in
no_number place width xs none = cond-false _ (field place width xs) 0 (false_from_ne_true _ (λ e. let p = and_parts _ _ e in let q = and_parts _ _ p.1 in none (leb-true width 8 p.0) (leb-true (place + width) (length xs) q.0) (all_from _ q.1)))

-- What is read of a field.
pub number_is : (place width n : ℕ) (xs : List ℕ) → (width ≤ 8 → place + width ≤ length xs → AllDigits (take width (drop place xs)) → n ≡ field place width xs)
    → ((width ≤ 8 → place + width ≤ length xs → AllDigits (take width (drop place xs)) → ⊥) → n ≡ 0) → n ≡ number_in place width xs
number_is place width n xs read refused =
    ⊎_elim
    (λ e. let p = and_parts _ _ e in let q = and_parts _ _ p.1 in
    let s = leb-true width 8 p.0 in let l = leb-true (place + width) (length xs) q.0 in let t = all_from _ q.1 in
    read s l t ∙ sym (number_of_field place width xs s l t))
    (λ e.
    let none : width ≤ 8 → place + width ≤ length xs → AllDigits (take width (drop place xs)) → ⊥ = λ s l t. both_ways _ e (and_from _ _ (le-leb width 8 s) (and_from _ _ (le-leb (place + width) (length xs) l) (all_to _ t))) in
    refused none ∙ sym (no_number place width xs none))
    (cases_Bool (leb width 8 && (leb (place + width) (length xs) && all_digits (take width (drop place xs)))))

-- Of one field more.
pub numbers_more : (fs : List Field) (f : Field) (xs : List ℕ) → numbers_in (fs ++ f ∷ []) xs ≡ numbers_in fs xs ++ number_in f.place f.width xs ∷ []
numbers_more [] f xs = refl
numbers_more (g ∷ fs) f xs = ap (λ ns. number_in g.place g.width xs ∷ ns) (numbers_more fs f xs)

-- One field more is read, and it is within its limits.
pub numbers_step : (fs : List Field) (xs ns : List ℕ) (k n : ℕ) (d : Field) → length ns ≡ length fs → k < length fs → n ≡ number_in (get_or fs k d).place (get_or fs k d).width xs
    → take k ns ≡ numbers_in (take k fs) xs → take (k + 1) (set ns k n) ≡ numbers_in (take (k + 1) fs) xs
numbers_step fs xs ns k n d size inside is read =
    let a = take-suc-set ns k n (omega arith) in
    let b = take_more fs k d inside in
    let e = numbers_more (take k fs) (get_or fs k d) xs in
    let f = add-one k in
    cc

pub good_step : (fs : List Field) (xs : List ℕ) (k n : ℕ) (d : Field) (t : Bool) → k < length fs → n ≡ number_in (get_or fs k d).place (get_or fs k d).width xs
    → t ≡ not (outside (get_or fs k d).low (get_or fs k d).high n) → t ≡ true → bad_column fs xs ≡ bad_column (drop k fs) xs → bad_column fs xs ≡ bad_column (drop (k + 1) fs) xs
good_step fs xs k n d t inside is test within good =
    let f = get_or fs k d in
    let o : outside f.low f.high n ≡ false = not-true _ (sym test ∙ within) in
    let e : bad_column (drop k fs) xs ≡ bad_column (f ∷ drop (suc k) fs) xs = ap (λ gs. bad_column gs xs) (drop-cons fs k d inside) in
    let c = cond-false (outside f.low f.high (number_in f.place f.width xs)) (3 + f.place) (bad_column (drop (suc k) fs) xs) (ap (outside f.low f.high) (sym is) ∙ o) in
    rw add-one (good ∙ e ∙ c)

-- Where no field is left, all numbers are read.
pub numbers_end : (fs : List Field) (xs ns : List ℕ) (k : ℕ) → length ns ≡ length fs → length fs ≤ k → take k ns ≡ numbers_in (take k fs) xs → ns ≡ numbers_in fs xs
numbers_end fs xs ns k size past read =
    let a = take_all k ns (omega arith) in
    let b = take_all k fs past in
    cc

pub good_end : (fs : List Field) (xs : List ℕ) (k : ℕ) → length fs ≤ k → bad_column fs xs ≡ bad_column (drop k fs) xs → bad_column fs xs ≡ 0
good_end fs xs k past good = good ∙ ap (λ gs. bad_column gs xs) (drop_all k fs past)
