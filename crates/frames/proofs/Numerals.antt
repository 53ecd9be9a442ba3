-- Numerals and the numbers that they write.
use Rattle.std.proofs.Common.{◌≡◌, ℕ, zero, suc, ◌+◌, ◌*◌, ◌/◌, ◌%◌, ◌^◌, ◌<◌, ◌≤◌, List, [], ◌∷◌, ◌++◌, length, get_or, take, drop, sym, refl, ap, ◌∙◌, subst, suc-le-suc, le_of_suc-le-suc, not-suc-le-zero, mod-lt, mod-eq_of_lt, zero-lt-suc, mul_assoc, add-mul, pow-suc, add-one, arith, length-append}
use native.Mathlib.Nat.{pow-succ', pow-le-pow_right, mod-one, mul-add-div_right, mul-add-mod_self_right}
use lib.Arith.{mod-mul, digits_lt, digits_div}
use Rattle.std.proofs.lemmas.List.{take_all, take_at, take-append-drop, get_or-take, get_or-drop, length-take, length-drop, length-take-le}
use Rattle.std.proofs.lemmas.Bool.Decides.{nat_tests}
use Rattle.frames.specs.Digits.{digit_value, digit, IsDigit, AllDigits, numeral, value, Writes, column_of}
use Rattle.frames.specs.Lines.{NoneCloses}

-- A digit and its byte.
pub digit_value_digit : (v : ℕ) → v < 16 → digit_value (digit v) ≡ v
unfolding digit_value digit
digit_value_digit v h = grind (arith, nat_tests)

pub digit_of_value : (b : ℕ) → IsDigit b → digit (digit_value b) ≡ b
unfolding digit_value digit
digit_of_value b h = grind (arith, nat_tests)

pub digit_is : (v : ℕ) → v < 16 → IsDigit (digit v)
digit_is v h = subst (λ (n : ℕ). n < 16) (sym (digit_value_digit v h)) h

pub digit_no_close : (b : ℕ) → IsDigit b → b ≡ 10 → ⊥
unfolding digit_value
digit_no_close b h e = let k : 16 < 16 = subst (λ (n : ℕ). digit_value n < 16) e h in omega arith

-- The power of 16 that a digit counts.
pub sixteen : (w : ℕ) → 0 < 16 ^ w
sixteen zero = omega arith
sixteen (suc w) = omega (arith, sixteen w, pow-succ' 16 w)

-- Lists of digits.
pub all_none : AllDigits []
all_none k h = absurd (not-suc-le-zero h)

pub all_cons : (b : ℕ) (bs : List ℕ) → IsDigit b → AllDigits bs → AllDigits (b ∷ bs)
all_cons b bs h t zero l = h
all_cons b bs h t (suc k) l = t k (le_of_suc-le-suc l)

pub all_head : (b : ℕ) (bs : List ℕ) → AllDigits (b ∷ bs) → IsDigit b
all_head b bs t = t zero (zero-lt-suc (length bs))

pub all_tail : (b : ℕ) (bs : List ℕ) → AllDigits (b ∷ bs) → AllDigits bs
all_tail b bs t k l = t (suc k) (suc-le-suc l)

pub digits_none_close : (xs : List ℕ) → AllDigits xs → NoneCloses xs
digits_none_close xs t k l e = digit_no_close (get_or xs k 0) (t k l) e

-- A numeral is as long as its width, and made of digits.
pub length_numeral : (w n : ℕ) → length (numeral w n) ≡ w
length_numeral zero n = refl
length_numeral (suc w) n = ap suc (length_numeral w n)

pub numeral_digits : (w n : ℕ) → AllDigits (numeral w n)
numeral_digits zero n = all_none
numeral_digits (suc w) n = all_cons (digit (n / 16 ^ w % 16)) (numeral w n) (digit_is (n / 16 ^ w % 16) (mod-lt (n / 16 ^ w) (zero-lt-suc 15))) (numeral_digits w n)

pub numeral_none_closes : (w n : ℕ) → NoneCloses (numeral w n)
numeral_none_closes w n = digits_none_close (numeral w n) (numeral_digits w n)

-- What a numeral writes.
pub value_numeral : (w n : ℕ) → value (numeral w n) ≡ n % 16 ^ w
value_numeral zero n = sym (mod-one n)
value_numeral (suc w) n =
    let d = digit_value_digit (n / 16 ^ w % 16) (mod-lt (n / 16 ^ w) (zero-lt-suc 15)) in
    let l = length_numeral w n in
    let v = value_numeral w n in
    let p = pow-succ' 16 w in
    let m = mod-mul n {m = 16} {c = 16 ^ w} (zero-lt-suc 15) (sixteen w) in
    cc

-- Each list of digits is the numeral of what it writes.
pub value_small : (xs : List ℕ) → AllDigits xs → value xs < 16 ^ length xs
value_small [] t = omega arith
value_small (b ∷ bs) t = rw (pow-succ' 16 (length bs)) (digits_lt (all_head b bs t) (value_small bs (all_tail b bs t)))

pub numeral_past : (w d v : ℕ) → numeral w (d * 16 ^ w + v) ≡ numeral w v
numeral_past zero d v = refl
numeral_past (suc w) d v =
    let e : d * 16 ^ suc w ≡ d * 16 * 16 ^ w = ap (λ n. d * n) (pow-succ' 16 w) ∙ sym (mul_assoc d 16 (16 ^ w)) in
    let q : (d * 16 * 16 ^ w + v) / 16 ^ w ≡ d * 16 + v / 16 ^ w = mul-add-div_right (sixteen w) (d * 16) v in
    let r = mul-add-mod_self_right d 16 (v / 16 ^ w) in
    let t = numeral_past w (d * 16) v in
    cc

pub numeral_value : (xs : List ℕ) → AllDigits xs → xs ≡ numeral (length xs) (value xs)
numeral_value [] t = refl
numeral_value (b ∷ bs) t =
    let h = all_head b bs t in
    let s = value_small bs (all_tail b bs t) in
    let q : (digit_value b * 16 ^ length bs + value bs) / 16 ^ length bs ≡ digit_value b = digits_div (digit_value b) s in
    let m : digit_value b % 16 ≡ digit_value b = mod-eq_of_lt h in
    let d = digit_of_value b h in
    let p = numeral_past (length bs) (digit_value b) (value bs) in
    let i = numeral_value bs (all_tail b bs t) in
    cc

pub writes_from_digits : (xs : List ℕ) → AllDigits xs → Writes xs (value xs)
writes_from_digits xs t = record { text = numeral_value xs t; small = value_small xs t }

-- A numeral of a width writes one number only.
pub numeral_same : (w m n : ℕ) → m < 16 ^ w → n < 16 ^ w → numeral w m ≡ numeral w n → m ≡ n
numeral_same w m n a b e = sym (mod-eq_of_lt a) ∙ sym (value_numeral w m) ∙ ap value e ∙ value_numeral w n ∙ mod-eq_of_lt b

pub writes_value : (xs : List ℕ) (n : ℕ) → Writes xs n → n ≡ value xs
writes_value xs n h = sym (ap value h.text ∙ value_numeral (length xs) n ∙ mod-eq_of_lt h.small)

pub writes_one : (xs : List ℕ) (m n : ℕ) → Writes xs m → Writes xs n → m ≡ n
writes_one xs m n a b = writes_value xs m a ∙ sym (writes_value xs n b)

pub writes_numeral : (w n : ℕ) → n < 16 ^ w → Writes (numeral w n) n
writes_numeral w n h = record { text = ap (λ k. numeral k n) (sym (length_numeral w n)); small = subst (λ (k : ℕ). n < 16 ^ k) (sym (length_numeral w n)) h }

-- One digit more.
pub value_push : (xs : List ℕ) (b : ℕ) → value (xs ++ b ∷ []) ≡ value xs * 16 + digit_value b
value_push [] b = omega arith
value_push (x ∷ xs) b =
    let i = value_push xs b in
    let l : length (xs ++ b ∷ []) ≡ suc (length xs) = length-append xs (b ∷ []) ∙ add-one (length xs) in
    let p : 16 ^ length (xs ++ b ∷ []) ≡ 16 ^ length xs * 16 = ap (λ n. 16 ^ n) l ∙ pow-suc 16 (length xs) in
    let q : digit_value x * 16 ^ length (xs ++ b ∷ []) ≡ digit_value x * 16 ^ length xs * 16 = ap (λ n. digit_value x * n) p ∙ sym (mul_assoc (digit_value x) (16 ^ length xs) 16) in
    omega (arith, i, q, add-mul (digit_value x * 16 ^ length xs) (value xs) 16)

-- A reading of digits that has come to place i: n is what the digits so far write.
pub record ReadTo (digits : List ℕ) (i n : ℕ) : Type 0 where
  pub is : n ≡ value (take i digits)
  pub before : (k : ℕ) → k < i → IsDigit (get_or digits k 0)

pub digits_take : (xs : List ℕ) (i : ℕ) → i ≤ length xs → ((k : ℕ) → k < i → IsDigit (get_or xs k 0)) → AllDigits (take i xs)
digits_take xs i h t k l =
    let s : k < i = omega (arith, length-take-le i xs h) in
    subst IsDigit (sym (get_or-take i xs k 0 s)) (t k s)

pub read_room : (xs : List ℕ) (i n : ℕ) → ReadTo xs i n → i < length xs → length xs ≤ 8 → n < 16 ^ 7
read_room xs i n r l h =
    let s = value_small (take i xs) (digits_take xs i (omega arith) r.before) in
    let e = length-take-le i xs (omega arith) in
    let p : 16 ^ i ≤ 16 ^ 7 = pow-le-pow_right (zero-lt-suc 15) {i = i} {j = 7} (omega arith) in
    let q : n < 16 ^ i = subst (λ (k : ℕ). n < 16 ^ k) e (subst (λ (v : ℕ). v < 16 ^ length (take i xs)) (sym r.is) s) in
    omega (arith, p, q)

pub read_all : (xs : List ℕ) (i n : ℕ) → ReadTo xs i n → length xs ≤ i → Writes xs n
read_all xs i n r h =
    subst (Writes xs) (sym (r.is ∙ ap value (take_all i xs h))) (writes_from_digits xs (λ k l. r.before k (omega arith)))

-- The front of a list of digits.
pub digits_front : (xs : List ℕ) (n : ℕ) → AllDigits xs → AllDigits (take n xs)
digits_front xs n t k l =
    let m = length-take n xs in
    subst IsDigit (sym (get_or-take n xs k 0 (omega (arith, m)))) (t k (omega (arith, m)))

pub digits_drop : (xs : List ℕ) (n : ℕ) → AllDigits xs → AllDigits (drop n xs)
digits_drop xs n t k l = subst IsDigit (sym (get_or-drop n xs k 0)) (t (n + k) (omega (arith, length-drop n xs)))

-- What the first two digits are read as.
pub two_digits : (xs two : List ℕ) (n : ℕ) → AllDigits xs → two ≡ take 2 xs → (length two ≤ 8 → AllDigits two → Writes two n) → Writes (take 2 xs) n
two_digits xs two n t e read =
    subst (λ (ds : List ℕ). Writes ds n) e
    (read (omega (arith, ap length e, length-take 2 xs)) (subst AllDigits (sym e) (digits_front xs 2 t)))

-- A field at the front of digits.
pub field_front : (w : ℕ) (xs : List ℕ) (n : ℕ) → w ≤ length xs → Writes (take w xs) n → (xs ≡ numeral w n ++ drop w xs) × (n < 16 ^ w)
field_front w xs n h r =
    let l = length-take-le w xs h in
    let a = take-append-drop w xs in
    let b = r.text in
    let d : numeral (length (take w xs)) n ≡ numeral w n = ap (λ k. numeral k n) l in
    (cc, subst (λ (k : ℕ). n < 16 ^ k) l r.small)

pub field_read : (w n m : ℕ) (rest : List ℕ) → n < 16 ^ w → Writes (take w (numeral w n ++ rest)) m → m ≡ n
field_read w n m rest h r =
    let e = take_at (numeral w n) rest w (length_numeral w n) in
    writes_one (numeral w n) m n (subst (λ (xs : List ℕ). Writes xs m) e r) (writes_numeral w n h)

-- Columns that are told as they are.
pub column_exact : (k : ℕ) → k < 4294967295 → column_of k ≡ k + 1
column_exact k h = omega arith
