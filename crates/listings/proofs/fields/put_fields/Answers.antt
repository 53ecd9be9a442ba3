use Rattle.std.proofs.lemmas.Iterator.{YieldsList-from_slice}
use Rattle.std.proofs.lemmas.Iterator.Consumers.{YieldsList-from_copied}
use Rattle.listings.proofs.Puts.{line_room, line_put}
use Rattle.listings.proofs.fields.put_fields.Goals as goal

pub put_line-requires : goal.put_line-requires
put_line-requires c = record { can = tt; ends = tt; room = line_room (YieldsList-from_copied (YieldsList-from_slice c.args.fields.now cc)) _ c.requires }

pub returns : goal.returns
returns c = line_put (YieldsList-from_copied (YieldsList-from_slice c.args.fields.now cc)) c.args.out.now c.put_line.new.out c.put_line.result c.put_line.ensures
