use Rattle.std.proofs.Common.{ap, ◌∙◌}
use Rattle.node_parts.specs.Seen.{seen}
use Rattle.node_parts.proofs.Views.{stands, way_from, way-hop}
use Rattle.node_parts.proofs.node.Node.way.Goals as goal

pub returns-in-Some : goal.returns-in-Some
returns-in-Some c = λ known w h.
    c.way_by.ensures ∙ ap way_from (c.in-Some.ensures (seen c.args.self.now known) (stands c.args.self.now known h))
    ∙ way-hop (seen c.args.self.now known) w c.args.key

pub returns-in-None : goal.returns-in-None
returns-in-None c = λ known w h.
    ap way_from (c.in-None.ensures (seen c.args.self.now known) (stands c.args.self.now known h)) ∙ way-hop (seen c.args.self.now known) w c.args.key
