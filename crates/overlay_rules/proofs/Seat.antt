-- What one step may do to a node's seat on the ring, rule by rule: its phase, gates and knowledge, and the messages of joins.
-- The rules of lookups and files are one, `serves`; those where nothing happens are another.
use Rattle.std.proofs.Common.{◌≡◌, ◌≢◌, ◌<◌, ◌⊎◌, ◌+◌, Bool, true, false, not, ◌&&◌, ◌||◌, ◌==◌, if◌then◌else◌, Option, Some, None, is_none, List, [], ◌∷◌}
use Rattle.std.proofs.Common.{filter, map}
use Rattle.ring_math.specs.Names.{Id, FileId, Content, Attempt, Number, Hops}
use Rattle.ring_math.specs.Sides.{leaves, learn_all, learn}
use Rattle.ring_math.specs.Files.{slot_of, has_room}
use Rattle.coverage.specs.GapFiles.{Lists}
use Rattle.wire_msg.specs.declared.command.Command.TheVariants as command
use Rattle.wire_msg.specs.declared.note.Note.{Note}
use Rattle.wire_msg.specs.declared.note.Note.TheVariants as note
use Rattle.wire_msg.specs.declared.limits.TheConstants.{LAST_ATTEMPT}
use Rattle.wire_msg.specs.declared.reply.Answer.{Answer}
use Rattle.wire_msg.specs.declared.reply.Answer.TheVariants as answer
use Rattle.wire_msg.specs.declared.reply.Own.{Own}
use Rattle.wire_msg.specs.declared.reply.Own.TheVariants as own
use Rattle.wire_msg.specs.declared.reply.Why.{Why}
use Rattle.wire_msg.specs.declared.reply.Why.TheVariants as why
use Rattle.wire_msg.specs.Words.{Message, Lookup, LookupReply, Insert, InsertReply, Fetch, FetchReply, JoinRequest, JoinReply, JoinRefuse, Probe, ProbeReply}
use Rattle.wire_msg.specs.Words.{LeaseRequest, Grant, Deny, Handover, Release, Confirm, Announce, Replicate, ReplicaAck, Reclaim, ReclaimReply}
use Rattle.overlay_rules.specs.declared.request.Way.TheVariants as way
use Rattle.overlay_rules.specs.State.{State, Phase, Waiting, Asking, Probing, Leasing, Ready, attempt_of, is_ready, is_joining}
use Rattle.overlay_rules.specs.Outcome.{Outcome, Input, Command, Comes, Noise, Sent, nothing, becomes, sent, to_both, to_each}
use Rattle.overlay_rules.specs.Routed.{way_of, one_more, members}
use Rattle.overlay_rules.specs.Replicas.{holding}
use Rattle.overlay_rules.specs.Joining.{stopped, given_up, idle, unanswered, answered_by, was_probed, leasing, probing_on, learnt_of, kept_first, with_grant}
use Rattle.overlay_rules.specs.ReadyTest.{readied, has_all}
use Rattle.overlay_rules.specs.Gates.{asked_for, blocked_by, fits, is_again, holds_gate}
use Rattle.overlay_rules.specs.Gatekeeper.{links_of, cleared, deny, granted, lists_of, newly_gated, on_release, confirmed}
use Rattle.overlay_rules.proofs.Each.{Each}

-- the same seat on the ring: all but files, pending inserts and waiting numbers
pub record SameSeat (s t : State) : Type 0 where
  pub me : t.me ≡ s.me
  pub phase : t.phase ≡ s.phase
  pub left_gate : t.left_gate ≡ s.left_gate
  pub right_gate : t.right_gate ≡ s.right_gate
  pub known : t.known ≡ s.known

-- a message of lookups and files
abbrev pub IsService : Message → Type 0
IsService (Lookup origin number key hops) = Unit {0}
IsService (LookupReply number r) = Unit {0}
IsService (Insert origin number hops file copies bytes) = Unit {0}
IsService (InsertReply number r) = Unit {0}
IsService (Fetch origin number hops file) = Unit {0}
IsService (FetchReply number r) = Unit {0}
IsService (Handover file bytes) = Unit {0}
IsService (Replicate origin number file bytes) = Unit {0}
IsService (ReplicaAck origin number file) = Unit {0}
IsService (Reclaim origin number hops file) = Unit {0}
IsService (ReclaimReply number r) = Unit {0}
IsService (JoinRequest joiner a hops) = ⊥
IsService (JoinReply a members) = ⊥
IsService (JoinRefuse a w) = ⊥
IsService (Probe a) = ⊥
IsService (ProbeReply a members) = ⊥
IsService (LeaseRequest a l r) = ⊥
IsService (Grant a manifest tombs) = ⊥
IsService (Deny a w) = ⊥
IsService (Release a) = ⊥
IsService (Confirm a) = ⊥
IsService Announce = ⊥

pub record AllService (sends : List Sent) : Type 0 where
  pub each : Each (λ x. IsService x.message) sends

abbrev pub IsReply : Answer → Type 0
IsReply (answer.Reply r) = Unit {0}
IsReply (answer.Joined l r) = ⊥
IsReply (answer.Denied node w) = ⊥
IsReply (answer.Stopped node reason) = ⊥
IsReply answer.GaveUp = ⊥
IsReply answer.NothingToGiveUp = ⊥

-- a note of lookups and files: of the closings, those with a reply
abbrev pub IsServiceNote : Note → Type 0
IsServiceNote (note.Accepted file bytes) = Unit {0}
IsServiceNote (note.Delivered origin number key hops) = Unit {0}
IsServiceNote (note.Answered origin number r) = Unit {0}
IsServiceNote (note.Closed number a) = IsReply a
IsServiceNote (note.Reclaimed file) = Unit {0}

pub record AllServiceNotes (notes : List Note) : Type 0 where
  pub each : Each IsServiceNote notes

-- why a join does not begin
abbrev pub StopCause : Phase → Own → Type 0
StopCause p own.Already = (a : Attempt) → p ≢ Waiting a
StopCause p own.Spent = p ≡ Waiting LAST_ATTEMPT
StopCause p own.GivenUp = ⊥

-- a request of lookups and files, or a message of them
abbrev pub IsServiceInput : Input → Type 0
IsServiceInput (Comes from m) = IsService m
IsServiceInput (Command n (command.Lookup key)) = Unit {0}
IsServiceInput (Command n (command.Insert file copies bytes)) = Unit {0}
IsServiceInput (Command n (command.Fetch file)) = Unit {0}
IsServiceInput (Command n (command.Reclaim file)) = Unit {0}
IsServiceInput (Command n (command.Join via)) = ⊥
IsServiceInput (Command n command.GiveUp) = ⊥
IsServiceInput Noise = ⊥

pub data Seat : State → Input → Outcome → Type 0 where
  serves : (s : State) (i : Input) (o : Outcome) → SameSeat s o.state → AllService o.sends → AllServiceNotes o.notes → IsServiceInput i → Seat s i o
  unmoved : (s : State) (i : Input) → Seat s i (nothing s)
  -- a join request: passed on, answered with members, refused
  request_on : (s : State) (from j : Id) (a : Attempt) (hops : Hops) (y : Id) → way_of s j ≡ way.To y →
      Seat s (Comes from (JoinRequest j a hops)) (becomes s (sent y (JoinRequest j a (one_more hops)) ∷ []) [])
  request_served : (s : State) (from j : Id) (a : Attempt) (hops : Hops) (b : Attempt) (l r : Id) → s.phase ≡ Ready b l r →
      (way_of s j ≡ way.Here) ⊎ (way_of s j ≡ way.Gap j) →
      Seat s (Comes from (JoinRequest j a hops)) (becomes s (sent j (JoinReply a (members s)) ∷ []) [])
  request_unready : (s : State) (from j : Id) (a : Attempt) (hops : Hops) → is_ready s.phase ≡ false →
      Seat s (Comes from (JoinRequest j a hops)) (becomes s (sent j (JoinRefuse a why.NotReady) ∷ []) [])
  request_busy : (s : State) (from j : Id) (a : Attempt) (hops : Hops) (i : Id) → way_of s j ≡ way.Gap i →
      Seat s (Comes from (JoinRequest j a hops)) (becomes s (sent j (JoinRefuse a (why.Busy i)) ∷ []) [])
  -- the commands Join and GiveUp
  begins : (s : State) (n : Number) (via : Id) (a : Attempt) → s.phase ≡ Waiting a → a ≢ LAST_ATTEMPT →
      Seat s (Command n (command.Join via)) (becomes (record s { phase = Asking a n }) (sent via (JoinRequest s.me a 0) ∷ []) [])
  not_begun : (s : State) (n : Number) (via : Id) (reason : Own) → StopCause s.phase reason → Seat s (Command n (command.Join via)) (stopped s n reason)
  stops_asking : (s : State) (n : Number) (a : Attempt) (m : Number) → s.phase ≡ Asking a m → Seat s (Command n command.GiveUp) (given_up s n a m [])
  stops_probing : (s : State) (n : Number) (a : Attempt) (m : Number) (probed : List (Id × Bool)) → s.phase ≡ Probing a m probed →
      Seat s (Command n command.GiveUp) (given_up s n a m [])
  stops_leasing : (s : State) (n : Number) (a : Attempt) (m : Number) (l r : Id) (from_left from_right : Option Lists) →
      s.phase ≡ Leasing a m l r from_left from_right →
      Seat s (Command n command.GiveUp) (given_up s n a m (to_both l r (Release a)))
  idles : (s : State) (n : Number) → is_joining s.phase ≡ false → Seat s (Command n command.GiveUp) (idle s n)
  -- the joiner
  refused : (s : State) (from : Id) (a : Attempt) (m : Number) (w : Why) → s.phase ≡ Asking a m →
      Seat s (Comes from (JoinRefuse a w)) (becomes (record s { phase = Waiting (a + 1) }) [] (note.Closed m (answer.Denied from w) ∷ []))
  probes : (s : State) (from : Id) (a : Attempt) (m : Number) (heard known : List Id) (y : Id) (ys : List Id) → s.phase ≡ Asking a m →
      known ≡ learn_all s.me s.known heard → y ∷ ys ≡ leaves s.me known →
      Seat s (Comes from (JoinReply a heard)) (becomes (record s { phase = Probing a m (map unanswered (y ∷ ys)); known = known })
      (to_each (y ∷ ys) (Probe a)) [])
  probes_on : (s : State) (from : Id) (a : Attempt) (m : Number) (heard known : List Id) (old probed : List (Id × Bool)) (new : List Id) →
      s.phase ≡ Probing a m old →
      known ≡ learn_all s.me s.known heard → probed ≡ map (answered_by from) old → new ≡ filter (λ y. not (was_probed old y)) (leaves s.me known) →
      Seat s (Comes from (ProbeReply a heard)) (probing_on s a m known probed new)
  leases : (s : State) (from : Id) (a : Attempt) (m : Number) (heard known : List Id) (old : List (Id × Bool)) → s.phase ≡ Probing a m old →
      known ≡ learn_all s.me s.known heard → Seat s (Comes from (ProbeReply a heard)) (leasing s a m known)
  denied : (s : State) (from : Id) (a : Attempt) (m : Number) (l r : Id) (from_left from_right : Option Lists) (w : Why) →
      s.phase ≡ Leasing a m l r from_left from_right →
      Seat s (Comes from (Deny a w))
      (becomes (record s { phase = Waiting (a + 1); known = learnt_of s w }) (to_both l r (Release a)) (note.Closed m (answer.Denied from w) ∷ []))
  grant_older : (s : State) (from : Id) (a : Attempt) (manifest tombs : List FileId) → a < attempt_of s.phase →
      Seat s (Comes from (Grant a manifest tombs)) (becomes s (sent from (Release a) ∷ []) [])
  grant_settled : (s : State) (from : Id) (a : Attempt) (l r : Id) (manifest tombs : List FileId) → s.phase ≡ Ready a l r →
      Seat s (Comes from (Grant a manifest tombs)) (becomes s (sent from (Confirm a) ∷ []) [])
  grant_kept : (s : State) (from : Id) (a : Attempt) (m : Number) (l r : Id) (from_left from_right : Option Lists) (manifest tombs : List FileId) →
      s.phase ≡ Leasing a m l r from_left from_right → ((from == l) && is_none from_left) || ((from == r) && is_none from_right) ≡ true →
      Seat s (Comes from (Grant a manifest tombs))
      (nothing (with_grant s from (record { manifest = manifest; tombs = tombs }) (Leasing a m l r from_left from_right)))
  grant_readies : (s t : State) (from : Id) (a : Attempt) (m : Number) (l r : Id) (from_left from_right : Option Lists) (left right : Lists)
      (manifest tombs : List FileId) →
      s.phase ≡ Leasing a m l r from_left from_right →
      t ≡ with_grant s from (record { manifest = manifest; tombs = tombs }) (Leasing a m l r from_left from_right) →
      kept_first (from == l) from_left (record { manifest = manifest; tombs = tombs }) ≡ Some left →
      kept_first (from == r) from_right (record { manifest = manifest; tombs = tombs }) ≡ Some right →
      has_all t left && has_all t right ≡ true → Seat s (Comes from (Grant a manifest tombs)) (readied t a m l r)
  -- the file that was missing has come
  file_readies : (s : State) (from : Id) (a : Attempt) (m : Number) (l r : Id) (left right : Lists) (file : FileId) (bytes : Content) →
      s.phase ≡ Leasing a m l r (Some left) (Some right) →
      slot_of s.files file ≡ None → has_room s.files ≡ true → has_all (holding s file bytes) left && has_all (holding s file bytes) right ≡ true →
      Seat s (Comes from (Handover file bytes)) (readied (holding s file bytes) a m l r)
  -- the gatekeeper
  probed : (s : State) (from : Id) (a b : Attempt) (l r : Id) → s.phase ≡ Ready b l r →
      Seat s (Comes from (Probe a)) (becomes s (sent from (ProbeReply a (members s)) ∷ []) [])
  lease_unready : (s : State) (from : Id) (a : Attempt) (l r : Id) → is_ready s.phase ≡ false →
      Seat s (Comes from (LeaseRequest a l r)) (deny s from a why.NotReady)
  lease_again : (s : State) (from : Id) (a : Attempt) (l r : Id) (b : Attempt) (x y : Id) → s.phase ≡ Ready b x y →
      is_again (links_of s x y) s.me (asked_for from a l r) ≡ true →
      Seat s (Comes from (LeaseRequest a l r)) (becomes s (granted from a (lists_of (if s.me == l then s.right_gate else s.left_gate)) s.files) [])
  lease_busy : (s : State) (from : Id) (a : Attempt) (l r : Id) (b : Attempt) (x y j : Id) → s.phase ≡ Ready b x y →
      blocked_by (links_of s x y) s.me (asked_for from a l r) ≡ Some j →
      Seat s (Comes from (LeaseRequest a l r)) (deny (cleared s from a) from a (why.Busy j))
  lease_moved : (s : State) (from : Id) (a : Attempt) (l r : Id) (b : Attempt) (x y : Id) → s.phase ≡ Ready b x y →
      Seat s (Comes from (LeaseRequest a l r)) (deny (cleared s from a) from a (why.Moved x y))
  lease_new : (s : State) (from : Id) (a : Attempt) (l r : Id) (b : Attempt) (x y : Id) → s.phase ≡ Ready b x y →
      blocked_by (links_of s x y) s.me (asked_for from a l r) ≡ None →
      fits (links_of s x y) s.me (asked_for from a l r) ≡ true →
      Seat s (Comes from (LeaseRequest a l r)) (newly_gated (cleared s from a) x y (asked_for from a l r))
  released : (s : State) (from : Id) (a : Attempt) → Seat s (Comes from (Release a)) (on_release s from a)
  confirms : (s : State) (from : Id) (a b : Attempt) (x y : Id) → s.phase ≡ Ready b x y → holds_gate (links_of s x y) from a ≡ true →
      Seat s (Comes from (Confirm a)) (becomes (confirmed s from a b x y) [] [])
  announced : (s : State) (from : Id) → Seat s (Comes from Announce) (becomes (record s { known = learn s.me s.known from }) [] [])
