-- What the sender of a message shows by its phase once it has sent it, and ever after:
-- of a Release that it is past the attempt, of a Confirm that it is ready with it, of a LeaseRequest that it is leasing, or ready, or past it.
use Rattle.std.proofs.Common.{◌<◌, ◌+◌, inl, None, List, [], ◌∷◌, ◌++◌, ◌==◌, if◌then◌else◌, refl, arith, rules}
use Rattle.ring_math.specs.Names.{Id, Attempt}
use Rattle.wire_msg.specs.Words.{Message, Lookup, LookupReply, Insert, InsertReply, Fetch, FetchReply, JoinRequest, JoinReply, JoinRefuse, Probe, ProbeReply}
use Rattle.wire_msg.specs.Words.{LeaseRequest, Grant, Deny, Handover, Release, Confirm, Announce, Replicate, ReplicaAck, Reclaim, ReclaimReply}
use Rattle.overlay_rules.specs.State.{State, Phase, Waiting, Leasing, Ready, attempt_of}
use Rattle.overlay_rules.specs.Outcome.{Outcome, Input, Sent, to_both, to_each}
use Rattle.overlay_rules.specs.Gates.{asked_for}
use Rattle.overlay_rules.specs.Gatekeeper.{cleared, lists_of}
use Rattle.overlay_rules.proofs.Each.{Each, Each-append, Each-weaker}
use Rattle.overlay_rules.proofs.Seat.{Seat, IsService}
use Rattle.overlay_rules.proofs.Seat as rule
use Rattle.overlay_rules.proofs.SeatStep.{granted_sends, newly_gated_sends}
use Rattle.overlay_rules.proofs.Sends.{Each-to_both, Each-to_each}
use Rattle.step_facts.proofs.Phases.{Moves, Moves-attempt, IsReadyWith, IsReadyWith-moves, HasLeased, HasLeased-moves}

-- what a phase shows of a message that its node sent
abbrev pub Shows : Phase → Message → Type 0
Shows p (Release a) = a < attempt_of p
Shows p (Confirm a) = IsReadyWith a p
Shows p (LeaseRequest a l r) = HasLeased a l r p
Shows p (Lookup origin number key hops) = Unit {0}
Shows p (LookupReply number r) = Unit {0}
Shows p (Insert origin number hops file copies bytes) = Unit {0}
Shows p (InsertReply number r) = Unit {0}
Shows p (Fetch origin number hops file) = Unit {0}
Shows p (FetchReply number r) = Unit {0}
Shows p (JoinRequest joiner a hops) = Unit {0}
Shows p (JoinReply a members) = Unit {0}
Shows p (JoinRefuse a w) = Unit {0}
Shows p (Probe a) = Unit {0}
Shows p (ProbeReply a members) = Unit {0}
Shows p (Grant a manifest tombs) = Unit {0}
Shows p (Deny a w) = Unit {0}
Shows p (Handover file bytes) = Unit {0}
Shows p Announce = Unit {0}
Shows p (Replicate origin number file bytes) = Unit {0}
Shows p (ReplicaAck origin number file) = Unit {0}
Shows p (Reclaim origin number hops file) = Unit {0}
Shows p (ReclaimReply number r) = Unit {0}

pub Shows-moves : (m : Message) (p q : Phase) → Moves p q → Shows p m → Shows q m
Shows-moves (Release a) p q m h = omega (arith, Moves-attempt p q m)
Shows-moves (Confirm a) p q m h = IsReadyWith-moves a p q m h
Shows-moves (LeaseRequest a l r) p q m h = HasLeased-moves a l r p q m h
Shows-moves _ p q m h = tt

pub record AllShow (p : Phase) (xs : List Sent) : Type 0 where
  pub each : Each (λ x. Shows p x.message) xs

none : (p : Phase) → AllShow p []
none p = record { each = tt }

more : (p : Phase) (x : Sent) (xs : List Sent) → Shows p x.message → AllShow p xs → AllShow p (x ∷ xs)
more p x xs h t = record { each = (h, t.each) }

both : (p : Phase) (xs ys : List Sent) → AllShow p xs → AllShow p ys → AllShow p (xs ++ ys)
both p xs ys h t = record { each = Each-append (λ x. Shows p x.message) xs ys h.each t.each }

to_both_show : (p : Phase) (l r : Id) (m : Message) → Shows p m → AllShow p (to_both l r m)
to_both_show p l r m h = record { each = Each-to_both (λ x. Shows p x.message) l r m (λ y. h) }

to_each_show : (p : Phase) (ys : List Id) (m : Message) → Shows p m → AllShow p (to_each ys m)
to_each_show p ys m h = record { each = Each-to_each (λ x. Shows p x.message) ys m (λ y. h) }

service_shows : (p : Phase) (m : Message) → IsService m → Shows p m
service_shows p (Release a) h = absurd h
service_shows p (Confirm a) h = absurd h
service_shows p (LeaseRequest a l r) h = absurd h
service_shows p _ h = tt

services_show : (p : Phase) (xs : List Sent) → Each (λ x. IsService x.message) xs → AllShow p xs
services_show p xs h = record { each = Each-weaker (λ x. IsService x.message) (λ x. Shows p x.message) xs (λ x. service_shows p x.message) h }

ready_show : (a : Attempt) (l r : Id) (ys : List Id) → AllShow (Ready a l r) (to_both l r (Confirm a) ++ to_each ys Announce)
ready_show a l r ys = both (Ready a l r) (to_both l r (Confirm a)) _ (to_both_show (Ready a l r) l r (Confirm a) refl)
    (to_each_show (Ready a l r) ys Announce tt)

pub seat_shows : (s : State) (i : Input) (o : Outcome) → Seat s i o → AllShow o.state.phase o.sends
seat_shows _ _ _ (rule.serves s i o e f g q) = services_show _ _ f.each
seat_shows _ _ _ (rule.stops_leasing s n a m l r fl fr e) = to_both_show (Waiting (a + 1)) l r (Release a) (omega arith)
seat_shows _ _ _ (rule.probes s from a m heard known y ys e f g) = to_each_show _ (y ∷ ys) (Probe a) tt
seat_shows _ _ _ (rule.probes_on s from a m heard known old probed new e f g h) = to_each_show _ new (Probe a) tt
seat_shows _ _ _ (rule.leases s from a m heard known old e f) = to_both_show (Leasing a m _ _ None None) _ _ (LeaseRequest a _ _) (inl (refl, refl, refl))
seat_shows _ _ _ (rule.denied s from a m l r fl fr w e) = to_both_show (Waiting (a + 1)) l r (Release a) (omega arith)
seat_shows _ _ _ (rule.grant_older s from a manifest tombs e) = more _ _ _ e (none _)
seat_shows _ _ _ (rule.grant_settled s from a l r manifest tombs e) = more _ _ _ (rw e refl) (none _)
seat_shows _ _ _ (rule.grant_readies s t from a m l r fl fr left right manifest tombs e f g h i) = ready_show a l r _
seat_shows _ _ _ (rule.file_readies s from a m l r left right file bytes e f g h) = ready_show a l r _
seat_shows _ _ _ (rule.lease_again s from a l r b x y e f) = record {
  each = granted_sends (λ m. Shows s.phase m.message) from a (lists_of (if s.me == l then s.right_gate else s.left_gate)) s.files tt
      (λ m. service_shows s.phase m.message);
}
seat_shows _ _ _ (rule.lease_new s from a l r b x y e f g) =
    record { each = newly_gated_sends (λ m. Shows s.phase m.message) (cleared s from a) x y (asked_for from a l r) tt (λ m. service_shows s.phase m.message) }
seat_shows _ _ _ m = record { each = search rules }
