use Rattle.std.proofs.Common.{◌<◌, ◌∙◌, ap, length, slice_index_or, zero-add, sym, subst}
use Rattle.std.proofs.lemmas.List.FromFn.{get_or-map-range_with_len}
use Rattle.schedule.specs.Making.{Making, node_id}
use Rattle.schedule.proofs.made.Made.id.Goals as goal

pub returns : goal.returns
returns c =
    c.index.ensures ∙ ap (λ ids. slice_index_or ids c.args.node c.index.result.now) c.self.invariant ∙
    get_or-map-range_with_len (node_id c.self.inside.seed) 0 (length c.self.inside.ids.items) c.args.node c.args.node c.index.result.now
    (let P : Making → Type 0 = λ m. c.args.node < m.nodes in subst P (sym c.self.view_is) c.requires) (zero-add c.args.node) ∙
    ap (λ (m : Making). node_id m.seed c.args.node) c.self.view_is
