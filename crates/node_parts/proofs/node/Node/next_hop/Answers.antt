use Rattle.std.proofs.Common.{Some, ap, ◌∙◌, sym}
use Rattle.node_parts.specs.Views.{hop_by}
use Rattle.node_parts.proofs.Views.{knows_links, sound}
use Rattle.node_parts.proofs.node.Node.next_hop.Goals as goal

pub next_hop-requires : goal.next_hop-requires
next_hop-requires c = c.args.self.now.same_me ∙ sym c.in-Some.ensures.me

pub returns-in-Some : goal.returns-in-Some
returns-in-Some c = λ s st.
    ap Some (c.next_hop.ensures.hop s.known st.shows.keeps (knows_links s c.in-Some.reach (sound c.args.self.now s st) (c.in-Some.ensures.reach s st)))
    ∙ ap (hop_by s c.args.key) (c.in-Some.ensures.reach s st)
