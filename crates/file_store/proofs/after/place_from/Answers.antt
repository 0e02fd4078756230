use Rattle.std.proofs.Common.{sym, ◌∙◌}
use Rattle.file_store.proofs.Named.{named-behind, named-before}
use Rattle.file_store.proofs.after.place_from.Goals as goal

pub returns-in-Some : goal.returns-in-Some
returns-in-Some c = sym (named-behind c.args.files.now c.min-from.result c.args.file.now (sym c.in-Some.ensures.value))

pub returns-in-None : goal.returns-in-None
returns-in-None c = c.place_in-in-None.ensures.value ∙ sym (named-before c.args.files.now c.min-from.result c.args.file.now (sym c.in-None.ensures.value))
