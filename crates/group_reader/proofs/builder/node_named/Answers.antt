use Rattle.std.proofs.Common.{◌∙◌, sym}
use Rattle.group_reader.proofs.Reading.{named_at}
use Rattle.group_reader.proofs.builder.node_named.Goals as goal

pub returns-in-Some : goal.returns-in-Some
returns-in-Some c =
    let place = c.in-Some.ensures.lookup in
    let has = rw c.as_slice.ensures.value at (sym c.eq.ensures ∙ c.if-eq.true) in
    sym (named_at c.args.nodes.now c.args.name.now c.args.guess c.in-Some.node.now c.requires place.3.0 place.1 has)
