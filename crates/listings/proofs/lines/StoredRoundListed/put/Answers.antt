use Rattle.std.proofs.Common.{◌+◌, ◌*◌, ◌++◌, length, arith}
use Rattle.std.proofs.lemmas.List.{length-append}
use Rattle.banks.specs.Stored.{head_line, bank_lines}
use Rattle.rounds.specs.Parts.{part_lines, parts_of}
use Rattle.listings.proofs.Puts.{put_more, rest_room}
use Rattle.listings.proofs.RoundLines.{length_round}
use Rattle.listings.proofs.lines.StoredRoundListed.put.Goals as goal

pub put_banks-at-requires : goal.put_banks-at-requires
put_banks-at-requires c =
    let t = c.args.self.now.table in
    let xs = c.args.self.now.list.now in
    let p = c.put_head-at.ensures in
    rest_room (head_line t.count t.settle (length xs)) c.args.out.now c.put_head-at.new.out c.put_head-at.result (15 * t.count) p
    (omega (arith, c.requires, p.told, length_round t xs))

pub put_parts-requires : goal.put_parts-requires
put_parts-requires c =
    let t = c.args.self.now.table in
    let xs = c.args.self.now.list.now in
    let head = head_line t.count t.settle (length xs) in
    let banks = bank_lines t.banks t.count in
    let parts = part_lines xs (parts_of (length xs)) in
    let p = put_more head banks c.args.out.now c.put_head-at.new.out c.put_banks-at.new.out c.put_head-at.result c.put_banks-at.result c.put_head-at.ensures c.put_banks-at.ensures in
    rest_room (head ++ banks) c.args.out.now _ (c.put_head-at.result + c.put_banks-at.result) (length parts) p
    (omega (arith, c.requires, p.told, length-append banks parts))

pub returns : goal.returns
returns c =
    let t = c.args.self.now.table in
    let xs = c.args.self.now.list.now in
    let head = head_line t.count t.settle (length xs) in
    let banks = bank_lines t.banks t.count in
    let p = put_more head banks c.args.out.now c.put_head-at.new.out c.put_banks-at.new.out c.put_head-at.result c.put_banks-at.result c.put_head-at.ensures c.put_banks-at.ensures in
    put_more (head ++ banks) (part_lines xs (parts_of (length xs))) c.args.out.now _ c.put_parts.new.out (c.put_head-at.result + c.put_banks-at.result) c.put_parts.result p c.put_parts.ensures
