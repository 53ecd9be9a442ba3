use Rattle.std.proofs.Common.{◌≡◌, ◌+◌, ◌<◌, [], ◌∷◌, ◌++◌, length, take, drop, sym, refl, ap, ◌∙◌, arith}
use Rattle.std.proofs.lemmas.List.{length_push, take_all}
use Rattle.search.specs.Kept.{path_moves}
use Rattle.search.proofs.Rounds.{moves_more, moves_room, moves_same, wrote_more}
use Rattle.search.proofs.round.write_round.Goals as goal
use Rattle.search.proofs.round.write_round.Goals.{then-is_open, else-is_open}

pub bounds-out-at : goal.bounds-out-at
bounds-out-at g c =
    let room = moves_room c.args.rows.now c.loop-row.row-index c.row-item.result c.loop-row-test.true c.row-item.is (sym c.is_open.ensures ∙ c.if-is_open.true) in
    omega (arith, room, length_push (path_moves c.args.rows.now) c.args.last, c.requires, c.loop-row.invariant.0, c.loop-row.auto.out)

pub loop-row-preserved : goal.loop-row-preserved
loop-row-preserved g c =
    let rows = c.args.rows.now in
    let k = c.loop-row.row-index in
    let r = c.row-item.result in
    let out = c.args.out.now in
    let next = path_moves (take (k + 1) rows) in
    elim c.if-is_open.branch [
      | then-is_open w ↦
          let opens = sym c.is_open.ensures ∙ w.if-is_open.true in
          let grown = moves_more rows k r c.loop-row-test.true c.row-item.is opens in
          let room = moves_room rows k r c.loop-row-test.true c.row-item.is opens in
          let far : c.loop-row.at < length out = omega (arith, room, length_push (path_moves rows) c.args.last, c.requires, c.loop-row.invariant.0) in
          let wrote = wrote_more (path_moves (take k rows)) next out c.loop-row.out c.loop-row.at r.by c.loop-row.invariant.0 far grown c.loop-row.invariant.1 in
          (omega (arith, w.at-is, ap length grown, length_push (path_moves (take k rows)) r.by, c.loop-row.invariant.0), w.out-is ∙ wrote ∙ ap (λ n. next ++ drop n out) (sym w.at-is))
      | else-is_open w ↦
          let same = moves_same rows k r c.loop-row-test.true c.row-item.is (sym c.is_open.ensures ∙ w.if-is_open.false) in
          (w.at-is ∙ c.loop-row.invariant.0 ∙ ap length (sym same), w.out-is ∙ c.loop-row.invariant.1 ∙ ap (λ xs. xs ++ drop c.loop-row.at out) (sym same) ∙ ap (λ n. next ++ drop n out) (sym w.at-is))
    ]

pub returns : goal.returns
returns g c =
    let out = c.args.out.now in
    let moves = path_moves c.args.rows.now in
    let round = moves ++ c.args.last ∷ [] in
    let long = length_push moves c.args.last in
    let all = ap path_moves (take_all c.loop-row.row-index c.args.rows.now (omega (arith, c.loop-row-test.false))) in
    let at : c.loop-row.at ≡ length moves = c.loop-row.invariant.0 ∙ ap length all in
    let wrote = c.loop-row.invariant.1 ∙ ap (λ xs. xs ++ drop c.loop-row.at out) all in
    wrote_more moves round out c.loop-row.out c.loop-row.at c.args.last at (omega (arith, at, long, c.requires)) refl wrote
    ∙ ap (λ n. round ++ drop n out) (ap (λ n. n + 1) at ∙ sym long)
