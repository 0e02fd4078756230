-- Hops go nearer: the next hop of a ready node is ready, and nearer to the key.
use Rattle.std.proofs.Common.{◌≡◌, ◌≢◌, ◌⊎◌, ◌<◌, ◌^◌, true, List, Contains, refl, sym, subst, ap}
use Rattle.ring_math.specs.Names.{Id, Key, Attempt}
use Rattle.ring_math.specs.Ring.{is_nearer}
use Rattle.coverage.specs.declared.Hop.{Hop}
use Rattle.coverage.specs.declared.Hop.TheVariants as hop
use Rattle.coverage.specs.NextHop.{next_hop_of}
use Rattle.coverage.proofs.Onward.{CanGoOn, next_hop_goes_on}
use Rattle.overlay_rules.specs.declared.entry.Entry.{Entry}
use Rattle.overlay_rules.specs.declared.request.Way.TheVariants as way
use Rattle.overlay_rules.specs.State.{State, Phase, Waiting, Asking, Probing, Leasing, Ready, reach}
use Rattle.overlay_rules.specs.Routed.{way_by, way_in, way_of}
use Rattle.overlay_rules.specs.Record.{Setting, IsSetting, World, IsRecord, world_after}
use Rattle.overlay_rules.specs.Ready.{IsReadyIn}
use Rattle.overlay_rules.specs.Laws.{HopsGoNearer}
use Rattle.overlay_rules.proofs.Each.{Each-contains}
use Rattle.step_facts.proofs.Knows.{PhaseKnows}
use Rattle.step_facts.proofs.Linked.{PhaseLinked}
use Rattle.step_facts.proofs.Messages.{ReadyIn, MessagesHold, in_ring}
use Rattle.ring_laws.proofs.Owner.{joins_hold}

-- the way of a node that is ready
record IsWay (s : State) (key : Key) (h : Hop) : Type 0 where
  attempt : Attempt
  left : Id
  right : Id
  phase : s.phase ≡ Ready attempt left right
  next : next_hop_of (reach s left right) s.known key ≡ h

to_way : (h : Hop) (y : Id) → way_by h ≡ way.To y → h ≡ hop.To y
to_way hop.Here y e = cc
to_way (hop.Gap j) y e = cc
to_way (hop.To x) y e = let same : x ≡ y = cc in ap hop.To same

way_to : (s : State) (key : Key) (y : Id) (p : Phase) → s.phase ≡ p → way_in s key p ≡ way.To y → IsWay s key (hop.To y)
way_to s key y (Ready a l r) e f = record { attempt = a; left = l; right = r; phase = e; next = to_way (next_hop_of (reach s l r) s.known key) y f }
way_to s key y (Waiting a) e f = cc
way_to s key y (Asking a n) e f = cc
way_to s key y (Probing a n probed) e f = cc
way_to s key y (Leasing a n l r fl fr) e f = cc

pub can_go_on : (g : Setting) (w : World) (x : Id) (key : Key) (a : Attempt) (l r : Id) → IsSetting g → MessagesHold g w → Contains g.nodes x → key < 2 ^ 128 →
    (w.states x).phase ≡ Ready a l r → CanGoOn (reach (w.states x) l r) (w.states x).known key
can_go_on g w x key a l r set h member hk e = record {
  me = subst (λ y. y < 2 ^ 128) (sym (h.me x)) (in_ring g set x member);
  left = bound l links.0;
  right = bound r links.1;
  bound = hk;
  in_ring = λ z c. bound z (Each-contains (ReadyIn w.states) (w.states x).known z (h.knows x).known c);
  unknown = λ c. Each-contains (λ y. y ≢ (w.states x).me) (w.states x).known (w.states x).me (h.linked x).unknown c refl;
  left_known = known.0;
  right_known = known.1;
} where
  bound : (y : Id) → ReadyIn w.states y → y < 2 ^ 128
  bound y ready = in_ring g set y (h.nodes y ready)

  links : ReadyIn w.states l × ReadyIn w.states r
  links = subst (PhaseKnows (ReadyIn w.states)) e (h.knows x).phase

  known : ((l ≡ (w.states x).me) ⊎ Contains (w.states x).known l) × ((r ≡ (w.states x).me) ⊎ Contains (w.states x).known r)
  known = subst (PhaseLinked (w.states x).me (w.states x).known) e (h.linked x).phase

-- in one world
pub hop_goes_nearer : (g : Setting) (w : World) (x : Id) (key : Key) (y : Id) → IsSetting g → MessagesHold g w → Contains g.nodes x → key < 2 ^ 128 →
    way_of (w.states x) key ≡ way.To y →
    IsReadyIn g w y × (is_nearer y x key ≡ true)
hop_goes_nearer g w x key y set h member hk e =
    let k = way_to (w.states x) key y (w.states x).phase refl e in
    let goes = next_hop_goes_on (reach (w.states x) k.left k.right) (w.states x).known key y
    (can_go_on g w x key k.attempt k.left k.right set h member hk k.phase) k.next in
    let ready = Each-contains (ReadyIn w.states) (w.states x).known y (h.knows x).known goes.known_to_me in
    ((h.nodes y ready, ready), subst (λ z. is_nearer y z key ≡ true) (h.me x) goes.nearer)

pub hops_go_nearer : (g : Setting) (es : List Entry) → IsRecord g es → HopsGoNearer g es
hops_go_nearer g es r i key x y hk member e = hop_goes_nearer g (world_after g es i) x key y r.setting (joins_hold g es r i).messages member.0 hk e
