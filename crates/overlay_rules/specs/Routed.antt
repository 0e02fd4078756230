-- Messages that are routed by a key: where the key leads, and what a lookup and a join request find there.
use Rattle.std.specs.Prelude.{◌+◌, min, ◌==◌, if◌then◌else◌, List, [], ◌∷◌}
use Rattle.coverage.specs.declared.Hop.{Hop}
use Rattle.coverage.specs.declared.Hop.TheVariants as hop
use Rattle.coverage.specs.NextHop.{next_hop_of}
use Rattle.ring_math.specs.Names.{Id, Key, Attempt, Number, Hops}
use Rattle.ring_math.specs.Sides.{leaves}
use Rattle.wire_msg.specs.declared.limits.TheConstants.{MOST_HOPS}
use Rattle.wire_msg.specs.declared.note.Note.TheVariants as note
use Rattle.wire_msg.specs.declared.reply.Reply.TheVariants as reply
use Rattle.wire_msg.specs.declared.reply.Why.TheVariants as why
use Rattle.wire_msg.specs.Words.{Message, Lookup, JoinRequest, JoinReply, JoinRefuse}
use Rattle.overlay_rules.specs.declared.request.Asked.{Asked}
use Rattle.overlay_rules.specs.declared.request.Asked.TheVariants as asked
use Rattle.overlay_rules.specs.declared.request.Way.{Way}
use Rattle.overlay_rules.specs.declared.request.Way.TheVariants as way
use Rattle.overlay_rules.specs.State.{State, Phase, Waiting, Asking, Probing, Leasing, Ready, reach}
use Rattle.overlay_rules.specs.Outcome.{Outcome, becomes, sent, before, replied}

-- hops are counted up to a limit
abbrev pub one_more : Hops → Hops
one_more hops = min (hops + 1) MOST_HOPS

abbrev pub way_by : Hop → Way
way_by hop.Here = way.Here
way_by (hop.Gap j) = way.Gap j
way_by (hop.To y) = way.To y

abbrev pub way_in : State → Key → Phase → Way
way_in s key (Ready a l r) = way_by (next_hop_of (reach s l r) s.known key)
way_in s key (Waiting a) = way.NotReady
way_in s key (Asking a n) = way.NotReady
way_in s key (Probing a n probed) = way.NotReady
way_in s key (Leasing a n l r from_left from_right) = way.NotReady

-- where the key leads from this state
abbrev pub way_of : State → Key → Way
way_of s key = way_in s key s.phase

-- a request by its origin and number: refused, served here, or passed on as `next`
abbrev pub served : State → Asked → Id → Number → Way → Message → Outcome → Outcome
served s what origin number way.NotReady next here = replied s what origin number (reply.NotReady s.me)
served s what origin number way.Here next here = here
served s what origin number (way.Gap j) next here = replied s what origin number (reply.Busy s.me j)
served s what origin number (way.To y) next here = becomes s (sent y next ∷ []) []

abbrev pub on_lookup : State → Id → Number → Key → Hops → Outcome
on_lookup s origin number key hops =
    served s asked.Lookup origin number (way_of s key) (Lookup origin number key (one_more hops))
    (before [] (note.Delivered origin number key hops ∷ []) (replied s asked.Lookup origin number (reply.Delivered s.me hops)))

-- the node and its leaves in leaf order
abbrev pub members : State → List Id
members s = s.me ∷ leaves s.me s.known

abbrev pub join_request_by : State → Id → Attempt → Hops → Way → Outcome
join_request_by s joiner a hops way.NotReady = becomes s (sent joiner (JoinRefuse a why.NotReady) ∷ []) []
join_request_by s joiner a hops way.Here = becomes s (sent joiner (JoinReply a (members s)) ∷ []) []
join_request_by s joiner a hops (way.Gap j) =
    if j == joiner then becomes s (sent joiner (JoinReply a (members s)) ∷ []) []
    else becomes s (sent joiner (JoinRefuse a (why.Busy j)) ∷ []) []
join_request_by s joiner a hops (way.To y) = becomes s (sent y (JoinRequest joiner a (one_more hops)) ∷ []) []

abbrev pub on_join_request : State → Id → Attempt → Hops → Outcome
on_join_request s joiner a hops = join_request_by s joiner a hops (way_of s joiner)
