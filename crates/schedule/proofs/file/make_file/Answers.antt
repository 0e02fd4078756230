use Rattle.std.proofs.Common.{ap, ◌∙◌, refl}
use Rattle.schedule.specs.Words.{words_to_come, generator_after, bytes_of}
use Rattle.schedule.proofs.Making.{file_is}
use Rattle.schedule.proofs.file.make_file.Goals as goal

pub returns-in-Ok-clause-file : goal.returns-in-Ok-clause-file
returns-in-Ok-clause-file c =
    file_is c.args.file (words_to_come c.args.words.now 2) (words_to_come (generator_after c.args.words.now 2) 16) c.in_ok-name.name _ _ _ _ _
    c.in_ok-name.ensures c.file_id-file.ensures c.as_slice.ensures.value refl c.fill.ensures.bytes
    (c.in-Ok.ensures.copied ∙ c.fill-2.ensures.bytes ∙ ap (λ g. bytes_of (words_to_come g 16)) c.fill.ensures.after)
