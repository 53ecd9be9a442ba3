-- The kinds of frames, their digits, and that a line is one frame at most.
use Rattle.std.proofs.Common.{◌≡◌, ℕ, ◌+◌, ◌*◌, ◌<◌, ◌≤◌, cond, eqb, List, Result, Ok, Err, Some, None, ◌++◌, length, take, drop, sym, refl, ap, ◌∙◌, subst, arith, Bor}
use Rattle.std.proofs.lemmas.Bool.Decides.{nat_tests}
use Rattle.frames.specs.declared.frame.Frame.{Frame}
use Rattle.frames.specs.declared.frame.Frame.TheVariants.{SheetHead, SheetBank, Feeder, FeederCount, Verdict, RoundHead, RoundBank, RoundPart, Refused}
use Rattle.frames.specs.declared.frame.FrameFault.{FrameFault}
use Rattle.frames.specs.declared.frame.FrameFault.TheVariants.{Digit, Shape}
use Rattle.frames.specs.declared.kind.Kind.{Kind}
use Rattle.frames.specs.declared.kind.Kind.TheVariants as kinds
use Rattle.frames.specs.declared.kind.UnknownKind.{UnknownKind}
use Rattle.frames.specs.Kinds.{number_of, Decodes}
use Rattle.std.specs.Result.{result_ok}
use Rattle.frames.specs.Digits.{AllDigits, numeral, value, Writes}
use Rattle.frames.specs.Frames.{kind_of, body_of, digits_after, Shaped, IsFrame, NoFrame, FrameFails}
use Rattle.frames.proofs.Numerals.{numeral_same, two_digits, field_front}
use Rattle.frames.proofs.Splits.{same_split}

-- The digits after the kind, by the case.
abbrev pub due : Frame → ℕ
due (SheetHead b) = 6
due (SheetBank b) = 4
due (Feeder b) = 14
due (FeederCount b) = 4
due (Verdict b) = 10
due (RoundHead b) = 10
due (RoundBank b) = 12
due (RoundPart b) = 2 + 2 * value (take 2 b.now)
due (Refused b) = 18

pub due_is : (f : Frame) → digits_after (kind_of f) (body_of f) ≡ due f
unfolding digits_after
due_is (SheetHead b) = refl
due_is (SheetBank b) = refl
due_is (Feeder b) = refl
due_is (FeederCount b) = refl
due_is (Verdict b) = refl
due_is (RoundHead b) = refl
due_is (RoundBank b) = refl
due_is (RoundPart b) = refl
due_is (Refused b) = refl

pub frame_length : (bytes : List ℕ) (f : Frame) → IsFrame bytes f → length (body_of f) ≡ due f
frame_length bytes f h = h.shaped.fits ∙ due_is f

-- Kinds that are known have two digits.
pub known_small : (k : ℕ) (body : List ℕ) → 0 < digits_after k body → k < 256
unfolding digits_after
known_small k body h = grind (arith, nat_tests)

pub kind_small : (f : Frame) → kind_of f < 256
kind_small (SheetHead b) = omega arith
kind_small (SheetBank b) = omega arith
kind_small (Feeder b) = omega arith
kind_small (FeederCount b) = omega arith
kind_small (Verdict b) = omega arith
kind_small (RoundHead b) = omega arith
kind_small (RoundBank b) = omega arith
kind_small (RoundPart b) = omega arith
kind_small (Refused b) = omega arith

-- A frame is known by its kind and its digits, so one that is of another case is of another kind.
digits_of : Frame → Bor (List ℕ)
digits_of (SheetHead b) = b
digits_of (SheetBank b) = b
digits_of (Feeder b) = b
digits_of (FeederCount b) = b
digits_of (Verdict b) = b
digits_of (RoundHead b) = b
digits_of (RoundBank b) = b
digits_of (RoundPart b) = b
digits_of (Refused b) = b

abbrev pub of_kind : ℕ → Bor (List ℕ) → Frame
of_kind k b =
    cond (eqb k 1) (SheetHead b)
    (cond (eqb k 2) (SheetBank b)
    (cond (eqb k 3) (Feeder b)
    (cond (eqb k 4) (FeederCount b)
    (cond (eqb k 16) (Verdict b)
    (cond (eqb k 17) (RoundHead b)
    (cond (eqb k 18) (RoundBank b)
    (cond (eqb k 19) (RoundPart b)
    (Refused b))))))))

by_kind : (f : Frame) → f ≡ of_kind (kind_of f) (digits_of f)
unfolding digits_of
by_kind (SheetHead b) = refl
by_kind (SheetBank b) = refl
by_kind (Feeder b) = refl
by_kind (FeederCount b) = refl
by_kind (Verdict b) = refl
by_kind (RoundHead b) = refl
by_kind (RoundBank b) = refl
by_kind (RoundPart b) = refl
by_kind (Refused b) = refl

pub not_kind : (k : ℕ) (f : Frame) → ((b : Bor (List ℕ)) → f ≡ of_kind k b → ⊥) → kind_of f ≡ k → ⊥
not_kind k f other e = other (digits_of f) (by_kind f ∙ ap (λ (n : ℕ). of_kind n (digits_of f)) e)

-- A text is one kind and one body at most.
pub one_kind : (k₁ k₂ : ℕ) (b₁ b₂ : List ℕ) → k₁ < 256 → k₂ < 256 → numeral 2 k₁ ++ b₁ ≡ numeral 2 k₂ ++ b₂ → (k₁ ≡ k₂) × (b₁ ≡ b₂)
one_kind k₁ k₂ b₁ b₂ s₁ s₂ e =
    let p = same_split (numeral 2 k₁) (numeral 2 k₂) b₁ b₂ refl e in
    (numeral_same 2 k₁ k₂ s₁ s₂ p.0, p.1)

pub number_small : (k : Kind) → number_of k < 256
number_small kinds.SheetHead = omega arith
number_small kinds.SheetBank = omega arith
number_small kinds.Feeder = omega arith
number_small kinds.FeederCount = omega arith
number_small kinds.Verdict = omega arith
number_small kinds.RoundHead = omega arith
number_small kinds.RoundBank = omega arith
number_small kinds.RoundPart = omega arith
number_small kinds.Refused = omega arith

-- What a number stands for.
pub decoded : (n : ℕ) (r : Result Kind UnknownKind) (k : Kind) → Decodes n r → Some k ≡ result_ok r → number_of k ≡ n
decoded n (Ok j) k d e = cc
decoded n (Err u) k d e = cc

pub undecoded : (n : ℕ) (r : Result Kind UnknownKind) → Decodes n r → None ≡ result_ok r → (body : List ℕ) → digits_after n body ≡ 0
undecoded n (Ok j) d e = cc
undecoded n (Err u) d e = d

-- A line of digits, cut into its kind and the digits after it.
pub record Cut (bytes : List ℕ) (k : ℕ) (body : List ℕ) : Type 0 where
  pub digits : AllDigits bytes
  pub small : k < 256
  pub text : bytes ≡ numeral 2 k ++ body

pub cut_from : (bytes two : List ℕ) (k : ℕ) (body : List ℕ) → AllDigits bytes → 2 ≤ length bytes → two ≡ take 2 bytes → (length two ≤ 8 → AllDigits two → Writes two k) → body ≡ drop 2 bytes → Cut bytes k body
cut_from bytes two k body t h p read q =
    let f = field_front 2 bytes k h (two_digits bytes two k t p read) in
    record { digits = t; small = f.1; text = let e = f.0 in cc }

-- Where the number of digits is not that of the kind, the line is no frame.
pub no_frame : (bytes : List ℕ) (k : ℕ) (body : List ℕ) → Cut bytes k body → (Shaped k body → ⊥) → NoFrame bytes
no_frame bytes k body c wrong = record {
  digits = c.digits;
  none = λ j b s e.
      let p = one_kind j k b body (known_small j b s.known) c.small (sym e ∙ c.text) in
      wrong (subst (λ (n : ℕ). Shaped n body) p.0 (subst (Shaped j) p.1 s));
}

pub too_short : (bytes : List ℕ) → AllDigits bytes → length bytes < 2 → NoFrame bytes
too_short bytes t h = record {
  digits = t;
  none = λ k b s e. let l = ap length e in omega (arith, l);
}

pub due_some : (f : Frame) → 0 < due f
due_some (SheetHead b) = omega arith
due_some (SheetBank b) = omega arith
due_some (Feeder b) = omega arith
due_some (FeederCount b) = omega arith
due_some (Verdict b) = omega arith
due_some (RoundHead b) = omega arith
due_some (RoundBank b) = omega arith
due_some (RoundPart b) = omega arith
due_some (Refused b) = omega arith

pub is_frame : (bytes : List ℕ) (k : ℕ) (body : List ℕ) (f : Frame) → Cut bytes k body → kind_of f ≡ k → body_of f ≡ body → length body ≡ digits_after k body → IsFrame bytes f
is_frame bytes k body f c p q l = record {
  digits = c.digits;
  text = let a = c.text in cc;
  shaped = record { known = omega (arith, due_is f, due_some f); fits = cc };
}

-- A line that is made as a frame is cut as one.
pub good_line_cut : (bytes : List ℕ) (k : ℕ) (b : List ℕ) → AllDigits bytes → Shaped k b → bytes ≡ numeral 2 k ++ b → (line : ℕ) (e : FrameFault) → FrameFails bytes line e → ⊥
good_line_cut bytes k b t s e line (Digit d) h = h.first.there (t h.place h.first.within)
good_line_cut bytes k b t s e line (Shape l) h = h.1.none k b s e
