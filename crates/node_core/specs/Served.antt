-- What becomes of a routed request, whatever it asks for: it is to be answered here, to be passed on, or refused.
use Rattle.std.specs.Prelude.{◌≡◌, List}
use Rattle.ring_math.specs.Names.{Id, Key}
use Rattle.wire_msg.specs.declared.reply.Reply.{Reply}
use Rattle.wire_msg.specs.Words.{Message}
use Rattle.overlay_rules.specs.declared.request.Asked.{Asked}
use Rattle.overlay_rules.specs.declared.request.Way.{Way}
use Rattle.overlay_rules.specs.declared.request.Way.TheVariants as way
use Rattle.overlay_rules.specs.Outcome.{Outcome, replied}
use Rattle.overlay_rules.specs.Routed.{way_of, served as served_by}
use Rattle.node_parts.specs.declared.node.Node.{Node}
use Rattle.node_parts.specs.Change.{waited}
use Rattle.node_parts.specs.Seen.{seen, Shows}
use Rattle.node_core.specs.declared.request.Request.{Request}
use Rattle.node_core.specs.declared.request.Served.{Served}
use Rattle.node_core.specs.declared.request.Served.TheVariants as served

-- the key leads this way from the node, whatever it has learnt
abbrev pub Leads : Node → Request → Key → Way → Type 0
Leads n r key w = (known : List Id) → Shows n known → w ≡ way_of (waited r.wait (seen n known)) key

-- the request is refused with this reply, whatever it would have been answered or passed on as
abbrev pub IsRefusal : Node → Request → Key → Reply → Type 0
IsRefusal n r key reply =
    (known : List Id) → Shows n known → (what : Asked) (next : Message) (here : Outcome) →
    served_by (waited r.wait (seen n known)) what r.origin r.number (way_of (waited r.wait (seen n known)) key) next here
    ≡ replied (waited r.wait (seen n known)) what r.origin r.number reply

abbrev pub IsServed : Node → Request → Key → Served → Type 0
IsServed n r key served.Here = Leads n r key way.Here
IsServed n r key (served.On y) = Leads n r key (way.To y)
IsServed n r key (served.Refused reply) = IsRefusal n r key reply
