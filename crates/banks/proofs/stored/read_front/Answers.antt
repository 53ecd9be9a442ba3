use Rattle.std.proofs.Common.{◌≡◌, ℕ, List, ◌++◌, ◌+◌, sym, ap, ◌∙◌, subst}
use Rattle.std.proofs.lemmas.Result.{err_from_is_err_and}
use Rattle.frames.specs.BadLines.{BadLine}
use Rattle.frames.specs.Faults.{file_told}
use Rattle.banks.specs.Stored.{head_line, head_column, HeadWithin, BanksRead}
use Rattle.banks.specs.Stored.TableFault.{in_head, in_bank}
use Rattle.banks.proofs.TableLines.{table_read}
use Rattle.banks.proofs.stored.read_front.Goals as goal

pub returns-in_err-head : goal.returns-in_err-head
returns-in_err-head c =
    let p = err_from_is_err_and c.from_residual-in_err-head.result c.from_residual-in_err-head.ensures.1 in
    let l = c.in_ok-lines.ensures in
    let bad = subst (λ (xs : List ℕ). BadLine 17 head_column xs 1 (file_told c.in_err-head.field-0.0)) l.1 (subst (λ (n : ℕ). BadLine 17 head_column c.in_ok-lines.lines.rest.now n (file_told c.in_err-head.field-0.0)) l.2 c.in_err-head.ensures) in
    rw (p.1, p.2) (in_head l.0 bad)

pub returns-in_err-banks : goal.returns-in_err-banks
returns-in_err-banks c =
    let p = err_from_is_err_and c.from_residual-in_err-banks.result c.from_residual-in_err-banks.ensures.1 in
    let l = c.in_ok-lines.ensures in
    let h = c.in_ok-head.head in
    let within : HeadWithin h.banks h.settle h.dwells = record { enough = h.enough; few = h.few; settles = h.settles; some_dwell = h.some_dwell; few_dwells = h.few_dwells } in
    rw (p.1, p.2) (in_bank h.banks h.settle h.dwells _ l.0 within (sym l.1 ∙ c.in_ok-head.ensures.0) c.in_err-banks.ensures)

pub returns : goal.returns
returns c =
    let bytes = c.args.bytes.now in
    let l = c.in_ok-lines.ensures in
    let h = c.in_ok-head.head in
    let o = c.of-table.ensures in
    let t = c.of-table.result in
    let n = sym o.count in
    let rest = c.read_banks.new.lines.rest.now in
    let within : HeadWithin h.banks h.settle h.dwells = record { enough = h.enough; few = h.few; settles = h.settles; some_dwell = h.some_dwell; few_dwells = h.few_dwells } in (
      table_read bytes h.settle h.dwells c.read_head.new.lines.rest.now c.in_ok-banks.banks rest t l.0
          (subst (λ (k : ℕ). HeadWithin k h.settle h.dwells) n within)
          (subst (λ (k : ℕ). bytes ≡ head_line k h.settle h.dwells ++ c.read_head.new.lines.rest.now) n (sym l.1 ∙ c.in_ok-head.ensures.0))
          (subst (λ (k : ℕ). BanksRead c.read_head.new.lines.rest.now c.in_ok-banks.banks k rest) n c.in_ok-banks.ensures.0)
          o.settle
          o.banks,
      c.in_ok-banks.ensures.1 ∙ ap (λ (k : ℕ). 2 + k) n,
    )
