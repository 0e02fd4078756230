use Rattle.schedule.specs.Words.{words_to_come}
use Rattle.schedule.proofs.Making.{id_is}
use Rattle.schedule.proofs.made.make_id.Goals as goal

pub returns-clause-id : goal.returns-clause-id
returns-clause-id c =
    id_is c.args.node c.from_be_bytes.result (words_to_come c.args.words.now 4) c.fill.new.bytes c.fill.ensures.bytes c.fill.auto.bytes c.from_be_bytes.ensures
