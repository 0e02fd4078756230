use Rattle.std.proofs.Common.{◌∙◌, ap, sym}
use Rattle.route_table.specs.Entries.{Table, entry_in}
use Rattle.lookup_core.proofs.Hops.{entry_is}
use Rattle.lookup_core.proofs.hop.entry_for.Goals as goal

pub returns : goal.returns
returns c = λ list st others.
    let fewer = c.shared-row.ensures.fewer (λ same. c.requires (sym same ∙ c.me-me.ensures)) in
    c.entry.ensures ∙ ap (λ (t : Table). entry_in t c.shared-row.result c.digit.result) c.table.ensures
    ∙ entry_is c.args.known.now list c.me-me.result c.shared-row.result c.digit.result c.args.key st c.me-me.ensures c.shared-row.ensures.value
    fewer c.digit.ensures
