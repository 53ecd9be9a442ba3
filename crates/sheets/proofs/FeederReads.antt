-- What the reading of a feeder's line, or of the line that counts them, says of the line, and the step from feeder to feeder.
use Rattle.std.proofs.Common.{◌≡◌, ℕ, Option, Some, None, MatchOption, Result, Ok, Err, ◌+◌, ◌<◌, ◌≤◌, true, false, ◌≢◌, List, ◌++◌, length, set, sym, refl, ap, ◌∙◌, subst, ⊎_elim, not-suc-le-zero, arith, below_more}
use Rattle.std.proofs.lemmas.List.{get_or-set_same, get_or-set_other}
use Rattle.std.proofs.lemmas.Bool.{cases_eq}
use Rattle.std.proofs.lemmas.Bool.Decides.{nat_tests}
use Rattle.refusals.specs.Numbers.{bare_bank, bad_end}
use Rattle.frames.specs.declared.frame.Frame.{Frame}
use Rattle.frames.specs.declared.faults.FileFault.{FileFault}
use Rattle.frames.specs.Frames.{kind_of, body_of, FrameRead}
use Rattle.frames.specs.Faults.{file_told}
use Rattle.frames.specs.Fields.{ToldColumn}
use Rattle.frames.specs.BadLinesAmong.{BadLineAmong}
use Rattle.frames.proofs.BadLinesAmong.{bad_frame_among}
use Rattle.frames.proofs.LinesTo.{lines_none, one_line_more}
use Rattle.sheets.specs.declared.feeder.Feeder.{Feeder}
use Rattle.sheets.specs.Limits.{most_feeders}
use Rattle.sheets.specs.Feeders.{no_feeder, feeder_at, FeederWithin, HasNumber, NoneIn, AllServed}
use Rattle.sheets.specs.SheetLines.{feeder_line, due_behind, column_behind, line_behind, FeedersRead, ListRead, FeederFault}
use Rattle.sheets.specs.SheetLines.NextFault.{bare, after_end}

-- The first number below a bound that is no bank of a feeder, as a search through those numbers finds it.
pub bare_from : (fs : List Feeder) (n banks : ℕ) (o : Option ℕ)
    → MatchOption o ((k : ℕ) → 0 ≤ k → k < banks → NoneIn fs n k → ⊥) (λ i. (0 ≤ i) × (i < banks) × NoneIn fs n i × ((k : ℕ) → 0 ≤ k → k < i → NoneIn fs n k → ⊥))
    → MatchOption o (AllServed banks fs n) (λ i. (i < banks) × NoneIn fs n i)
bare_from fs n banks None h = λ k l. h k (omega arith) l
bare_from fs n banks (Some i) h = (h.1, h.2)

-- Which kinds are due.
pub feeder_due : (n : ℕ) → n < most_feeders → due_behind n 3 ≡ true
feeder_due n h = grind (arith, nat_tests)

pub feeder_not_due : (n : ℕ) → most_feeders ≤ n → due_behind n 3 ≡ false
feeder_not_due n h = grind (arith, nat_tests)

pub count_due : (n : ℕ) → 0 < n → due_behind n 4 ≡ true
count_due n h = grind (arith, nat_tests)

pub count_not_due : (n : ℕ) → n < 1 → due_behind n 4 ≡ false
count_not_due n h = grind (arith, nat_tests)

pub other_not_due : (n kind : ℕ) → (kind ≡ 3 → ⊥) → (kind ≡ 4 → ⊥) → due_behind n kind ≡ false
other_not_due n kind a b = grind (arith, nat_tests)

-- A number outside its limits makes a line bad that may stand behind n feeders.
pub next_outside : (banks n line : ℕ) (bytes : List ℕ) (f : Frame) (after : List ℕ) (e : FileFault) → FrameRead bytes f after → due_behind n (kind_of f) ≡ true → ToldColumn (column_behind banks n (kind_of f) (body_of f)) line e → BadLineAmong (due_behind n) (column_behind banks n) bytes line (file_told e)
next_outside banks n line bytes f after e read due told =
    subst (BadLineAmong (due_behind n) (column_behind banks n) bytes line) (ap file_told (sym told.1))
    (bad_frame_among (due_behind n) (column_behind banks n) bytes line f after _ read due refl told.0)

-- No feeder is read yet, and one feeder more.
pub no_feeders : (banks : ℕ) (bytes : List ℕ) (fs : List Feeder) → FeedersRead banks bytes fs 0 bytes
no_feeders banks bytes fs = record {
  room = omega arith;
  within = λ k h. absurd (not-suc-le-zero h);
  apart = λ j k h l. absurd (not-suc-le-zero l);
  text = lines_none _ bytes;
}

pub one_feeder_more : (banks : ℕ) (bytes : List ℕ) (fs : List Feeder) (n : ℕ) (rest : List ℕ) (f : Feeder) (next : List ℕ) → FeedersRead banks bytes fs n rest → n < length fs → n < most_feeders → FeederWithin banks f → (HasNumber fs n f.number → ⊥) → rest ≡ feeder_line f ++ next → FeedersRead banks bytes (set fs n f) (n + 1) next
one_feeder_more banks bytes fs n rest f next r s room w new e =
    let same : feeder_at (set fs n f) n ≡ f = get_or-set_same fs n f no_feeder s in
    let other : (k : ℕ) → k < n → feeder_at (set fs n f) k ≡ feeder_at fs k = λ k h. get_or-set_other fs n k f no_feeder (let d : k ≢ n = omega arith in d) in
    record {
      room = omega arith;
      within = below_more (λ k. FeederWithin banks (feeder_at (set fs n f) k)) n (λ k h. subst (FeederWithin banks) (sym (other k h)) (r.within k h)) (subst (FeederWithin banks) (sym same) w);
      apart = λ j k h l q.
          let before : j < n = omega arith in
          let first : (feeder_at fs j).number ≡ (feeder_at (set fs n f) k).number = ap (λ g. g.number) (sym (other j before)) ∙ q in
          ⊎_elim
          (λ last. new (j, before, first ∙ ap (λ (i : ℕ). (feeder_at (set fs n f) i).number) last ∙ ap (λ g. g.number) same))
          (λ earlier. let within : k < n = omega arith in r.apart j k h within (first ∙ ap (λ g. g.number) (other k within)))
          (cases_eq k n);
      text = one_line_more (λ k. feeder_line (feeder_at fs k)) (λ k. feeder_line (feeder_at (set fs n f) k)) n bytes rest next
          (λ k h. ap feeder_line (other k h)) r.text (e ∙ ap (λ g. feeder_line g ++ next) (sym same));
    }

-- A search for a bank with no feeder, told as a result.
pub some_bare : {F : Type 0} (P : Type 0) (Q : ℕ → Type 0) (o : Option ℕ) (r : Result (Unit {0}) F) (f e : F) → MatchOption o (r ≡ Ok tt) (λ _. r ≡ Err f) → MatchOption o P Q → r ≡ Err e → (e ≡ f) × ((i : ℕ) × Q i)
some_bare P Q None r f e m h w = absurd (cc)
some_bare P Q (Some i) r f e m h w = (cc, (i, h))

pub none_bare : {F : Type 0} (P : Type 0) (Q : ℕ → Type 0) (o : Option ℕ) (r : Result (Unit {0}) F) (f : F) (u : Unit {0}) → MatchOption o (r ≡ Ok tt) (λ _. r ≡ Err f) → MatchOption o P Q → r ≡ Ok u → P
none_bare P Q None r f u m h w = h
none_bare P Q (Some i) r f u m h w = absurd (cc)

-- What is wrong behind feeders that are counted.
module _ (banks : ℕ) (bytes : List ℕ) (fs : List Feeder) (n : ℕ) (after : List ℕ) (l : ListRead banks bytes fs n after) where
  pub list_bare : (line : ℕ) → line ≡ line_behind banks n → (i : ℕ) → i < banks → NoneIn fs n i → FeederFault banks bytes (bare_bank line)
  list_bare line there i h none = record { n = n; fs = fs; rest = _; good = l.good; bad = bare after i (l.some, refl) h none (ap bare_bank there) }

  pub list_after : AllServed banks fs n → 0 < length after → FeederFault banks bytes (bad_end (line_behind banks n + 1))
  list_after served more = record { n = n; fs = fs; rest = _; good = l.good; bad = after_end after (l.some, refl) served more refl }
