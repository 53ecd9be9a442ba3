use Rattle.std.proofs.Common.{◌≡◌, ℕ, ◌+◌, ◌*◌, length, ap, ◌∙◌, arith}
use Rattle.rounds.specs.Record.{list_of}
use Rattle.running.specs.Told.{reply_at}
use Rattle.running.proofs.LapsAlike.{lap_back}
use Rattle.running.proofs.reader.RunningReader.place_after.Goals as goal

pub returns-else-after-dwells-clause-alike : goal.returns-else-after-dwells-clause-alike
returns-else-after-dwells-clause-alike c =
    let r = c.args.self.now.round in
    let size : length c.list-dwells.result.now ≡ length (list_of r) = ap length c.list-dwells.ensures.value in
    let last : c.args.self.now.place + 1 ≡ 2 * length (list_of r) = omega (arith, size) in
    λ n. ap (λ (d : ℕ). reply_at r (d + n)) size ∙ lap_back r c.args.self.now.place (omega arith) last n
