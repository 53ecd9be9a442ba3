use Rattle.readers.proofs.Served.{lawful_is_regular}
use Rattle.readers.proofs.Unsettled.{plain_is_regular, readers_agree}
use Rattle.readers.proofs.ticks.lawful_is_regular.Goals as goal

pub returns-clause-panelled : goal.returns-clause-panelled
returns-clause-panelled c = lawful_is_regular

pub returns-clause-plain : goal.returns-clause-plain
returns-clause-plain c = plain_is_regular

pub returns-clause-agree : goal.returns-clause-agree
returns-clause-agree c = readers_agree
