use Rattle.std.proofs.Common.{ap, ◌∙◌}
use Rattle.coverage.specs.NextHop.{to_entry}
use Rattle.lookup_core.specs.Kept.{if_nearer}
use Rattle.lookup_core.proofs.Hops.{to_entry-some, to_entry-none}
use Rattle.lookup_core.proofs.hop.by_prefix.Goals as goal

pub returns-in-Some : goal.returns-in-Some
returns-in-Some c = λ list st others.
    to_entry-some c.args.known.now.leafs.me list c.args.key _ c.entry_for-entry.result
    (c.in-Some.ensures ∙ ap (λ m. if_nearer c.entry_for-entry.result m c.args.key) c.me.ensures)
    ∙ ap (to_entry c.args.known.now.leafs.me list c.args.key) (c.entry_for-entry.ensures list st others)

pub returns-in-None : goal.returns-in-None
returns-in-None c = λ list st others.
    c.to_any.ensures list st others
    ∙ to_entry-none c.args.known.now.leafs.me list c.args.key c.entry_for-entry.result
    (c.in-None.ensures ∙ ap (λ m. if_nearer c.entry_for-entry.result m c.args.key) c.me.ensures)
    ∙ ap (to_entry c.args.known.now.leafs.me list c.args.key) (c.entry_for-entry.ensures list st others)
