-- The fourth invariant of every legal record, on requests: a command's number is its alone, each message and pending insert has its command behind it,
-- a lookup has taken no more hops than ready nodes are farther from its key, and each reply was noted by the node that sent it.
use Rattle.std.proofs.Common.{◌≡◌, inl, inr, ◌<◌, ◌≤◌, ◌^◌, ℕ, true, ◌&&◌, ◌==◌, List, [], ◌∷◌, ◌++◌, Contains, refl, sym, subst, ap, ◌∙◌, arith}
use Rattle.std.proofs.lemmas.Bool.{and_parts, and_from}
use Rattle.std.proofs.lemmas.List.Elements.{All-contains, Contains-append_left, Contains-push, Contains-push_cases}
use Rattle.ring_math.specs.Names.{Id, Key, Number, Hops}
use Rattle.ring_math.specs.Ring.{is_nearer}
use Rattle.ring_math.proofs.Counts.{count_by-weaker, farther-more}
use Rattle.wire_msg.specs.declared.command.Command.{Command as NodeCommand}
use Rattle.wire_msg.specs.declared.command.Command.TheVariants as command
use Rattle.wire_msg.specs.declared.note.Note.{Note}
use Rattle.wire_msg.specs.declared.note.Note.TheVariants as note
use Rattle.wire_msg.specs.declared.reply.Reply.{Reply}
use Rattle.wire_msg.specs.Words.{Message, Envelope, Lookup, LookupReply, Insert, InsertReply, Fetch, FetchReply, JoinRequest, JoinReply, JoinRefuse, Probe}
use Rattle.wire_msg.specs.Words.{ProbeReply, LeaseRequest, Grant, Deny, Handover, Release, Confirm, Announce, Replicate, ReplicaAck, Reclaim, ReclaimReply}
use Rattle.overlay_rules.specs.declared.entry.Event.{Event}
use Rattle.overlay_rules.specs.declared.entry.Event.TheVariants as event
use Rattle.overlay_rules.specs.declared.entry.Entry.{Entry}
use Rattle.overlay_rules.specs.declared.request.Pending.{Pending}
use Rattle.overlay_rules.specs.declared.request.Way.TheVariants as way
use Rattle.overlay_rules.specs.State.{State, Phase, Waiting, Asking, Probing, Leasing, Ready, is_ready}
use Rattle.overlay_rules.specs.Outcome.{Outcome, Input}
use Rattle.overlay_rules.specs.Routed.{way_in}
use Rattle.overlay_rules.specs.Step.{step}
use Rattle.overlay_rules.specs.Record.{Setting, IsSetting, World, IsFresh, IsFreshAfter, IsSaidBy, IsRecord, sent_in, world_at_start, world_after}
use Rattle.overlay_rules.specs.Ready.{farther}
use Rattle.overlay_rules.specs.Rightly.{WasCommanded, WasAnswered}
use Rattle.overlay_rules.proofs.Each.{Each, Each-append, Each-both, Each-slice_get, Each-weaker}
use Rattle.overlay_rules.proofs.Histories.{sent_in-push, state_at-each, IsFrom, each_envelope}
use Rattle.overlay_rules.proofs.SeatStep.{step_seat}
use Rattle.step_facts.proofs.Always.{Arrives, commanded, delivered, noised, Takes, Keeps, stepped, always, after_step}
use Rattle.step_facts.proofs.Messages.{ReadyIn, ready_stays, start_pending}
use Rattle.ring_laws.proofs.Ring.{JoinsHold, joins_keep, joins_at_start}
use Rattle.ring_laws.proofs.Hops.{hop_goes_nearer}
use Rattle.step_facts.proofs.Requests.{Carries, AsksFor, CommandCarries, InputCarries, Requested, PassesOn, seat_requested}
use Rattle.ring_laws.proofs.Replies.{IsNoted, seat_noted}

-- a lookup on its way to a node
pub record OnTheWay (g : Setting) (w : World) (to o : Id) (n : Number) (key : Key) (hops : Hops) : Type 0 where
  pub commanded : WasCommanded w o n (command.Lookup key)
  pub bound : key < 2 ^ 128
  pub few : hops ≤ farther g w key to

-- a reply on its way to a node was noted
abbrev pub IsReplied : World → Id → Message → Type 0
IsReplied w to (LookupReply number r) = WasAnswered w to number r
IsReplied w to (InsertReply number r) = WasAnswered w to number r
IsReplied w to (FetchReply number r) = WasAnswered w to number r
IsReplied w to (ReclaimReply number r) = WasAnswered w to number r
IsReplied w to (Lookup origin number key hops) = Unit {0}
IsReplied w to (Insert origin number hops file copies bytes) = Unit {0}
IsReplied w to (Fetch origin number hops file) = Unit {0}
IsReplied w to (Reclaim origin number hops file) = Unit {0}
IsReplied w to (JoinRequest joiner a hops) = Unit {0}
IsReplied w to (JoinReply a members) = Unit {0}
IsReplied w to (JoinRefuse a w') = Unit {0}
IsReplied w to (Probe a) = Unit {0}
IsReplied w to (ProbeReply a members) = Unit {0}
IsReplied w to (LeaseRequest a l r) = Unit {0}
IsReplied w to (Grant a manifest tombs) = Unit {0}
IsReplied w to (Deny a w') = Unit {0}
IsReplied w to (Handover file bytes) = Unit {0}
IsReplied w to (Release a) = Unit {0}
IsReplied w to (Confirm a) = Unit {0}
IsReplied w to Announce = Unit {0}
IsReplied w to (Replicate origin number file bytes) = Unit {0}
IsReplied w to (ReplicaAck origin number file) = Unit {0}

-- what an envelope has behind it
pub record IsBehind (g : Setting) (w : World) (v : Envelope) : Type 0 where
  pub carries : Carries (WasCommanded w) (OnTheWay g w) v.receiver v.message
  pub replied : IsReplied w v.receiver v.message

pub record RequestsHold (g : Setting) (w : World) : Type 0 where
  pub one : (x y : Id) (n : Number) (c d : NodeCommand) → WasCommanded w x n c → WasCommanded w y n d → (x ≡ y) × (c ≡ d)
  pub sent : Each (IsBehind g w) (sent_in w.past)
  pub pending : (y : Id) → Each (AsksFor (WasCommanded w)) (w.states y).pending

-- ---- what lasts

-- the world has more entries, and no fewer ready nodes
pub record Later (g : Setting) (w v : World) : Type 0 where
  pub past : (e : Entry) → Contains w.past e → Contains v.past e
  pub ready : (y : Id) → ReadyIn w.states y → ReadyIn v.states y

pub later : (g : Setting) (w : World) (e : Entry) (x : Id) (i : Input) → Later g w (after_step w e x i)
later g w e x i = record { past = λ d c. Contains-append_left w.past (e ∷ []) d c; ready = λ y r. ready_stays w.states x i y r }

module _ (g : Setting) (w v : World) (m : Later g w v) where
  pub WasCommanded-later : (o : Id) (n : Number) (c : NodeCommand) → WasCommanded w o n c → WasCommanded v o n c
  WasCommanded-later o n c h = (h.0, m.past h.0 h.1, h.2)

  pub WasAnswered-later : (o : Id) (n : Number) (r : Reply) → WasAnswered w o n r → WasAnswered v o n r
  WasAnswered-later o n r h = (h.0, (m.past h.0 h.1.0, h.1.1))

  pub farther-later : (key : Key) (x : Id) → farther g w key x ≤ farther g v key x
  farther-later key x = count_by-weaker (λ y. is_ready (w.states y).phase && is_nearer x y key) (λ y. is_ready (v.states y).phase && is_nearer x y key) g.nodes
      (λ y h. let p = and_parts (is_ready (w.states y).phase) (is_nearer x y key) h in
      and_from (is_ready (v.states y).phase) (is_nearer x y key) (m.ready y p.0) p.1)

  OnTheWay-later : (to o : Id) (n : Number) (key : Key) (hops : Hops) → OnTheWay g w to o n key hops → OnTheWay g v to o n key hops
  OnTheWay-later to o n key hops h = record {
    commanded = WasCommanded-later o n (command.Lookup key) h.commanded;
    bound = h.bound;
    few = let few = h.few in let more = farther-later key to in omega arith;
  }

  carries_later : (to : Id) (s : Message) → Carries (WasCommanded w) (OnTheWay g w) to s → Carries (WasCommanded v) (OnTheWay g v) to s
  carries_later to (Lookup o n key hops) h = OnTheWay-later to o n key hops h
  carries_later to (Insert o n hops file copies bytes) h = WasCommanded-later o n _ h
  carries_later to (Fetch o n hops file) h = WasCommanded-later o n _ h
  carries_later to (Reclaim o n hops file) h = WasCommanded-later o n _ h
  carries_later to (Replicate o n file bytes) h = (h.0, WasCommanded-later o n _ h.1)
  carries_later to _ h = tt

  replied_later : (to : Id) (s : Message) → IsReplied w to s → IsReplied v to s
  replied_later to (LookupReply n r) h = WasAnswered-later to n r h
  replied_later to (InsertReply n r) h = WasAnswered-later to n r h
  replied_later to (FetchReply n r) h = WasAnswered-later to n r h
  replied_later to (ReclaimReply n r) h = WasAnswered-later to n r h
  replied_later to _ h = tt

  asks_later : (p : Pending) → AsksFor (WasCommanded w) p → AsksFor (WasCommanded v) p
  asks_later p h = record { copies = h.copies; bytes = h.bytes; asked = WasCommanded-later p.origin p.number _ h.asked; few = h.few }

-- ---- a command's number is its alone

fresh_number : (w : World) (x y : Id) (n : Number) (c d : NodeCommand) → IsFresh w.past (event.Command x n c) → WasCommanded w y n d → ⊥
fresh_number w x y n c d fresh h =
    let apart : IsFreshAfter x n (event.Command y n d) =
    subst (IsFreshAfter x n) h.2 (All-contains (λ e. IsFreshAfter x n e.event) w.past h.0 fresh h.1) in apart.0 refl

same_command : (x y : Id) (n m : Number) (c d : NodeCommand) → event.Command x n c ≡ event.Command y m d → (x ≡ y) × ((n ≡ m) × (c ≡ d))
same_command x y n m c d e = (cc, (cc, cc))

-- the command of an event is new
pub arrives_fresh : (w : World) (v : Event) (x y : Id) (n : Number) (i : Input) (c d : NodeCommand) → Arrives w v x i → v ≡ event.Command y n c → (z : Id) →
    WasCommanded w z n d → ⊥
arrives_fresh w _ _ y n _ c d (commanded x m b f) e z h =
    let p = same_command x y m n b c e in fresh_number w x z n b d (subst (λ k. IsFresh w.past (event.Command x k b)) p.1.0 f) h
arrives_fresh w _ _ y n _ c d (delivered m v f) e z h = cc
arrives_fresh w _ _ y n _ c d (noised x) e z h = cc

one_kept : (g : Setting) (w : World) (e : Entry) (x : Id) (i : Input) → RequestsHold g w → Takes g w e x i → (s : Id → State) →
    (y z : Id) (n : Number) (c d : NodeCommand) →
    WasCommanded (record { states = s; past = w.past ++ e ∷ [] }) y n c → WasCommanded (record { states = s; past = w.past ++ e ∷ [] }) z n d →
    (y ≡ z) × (c ≡ d)
one_kept g w e x i k t s y z n c d a b =
    elim (Contains-push_cases w.past e a.0 a.1) [
      | inl old ↦ elim (Contains-push_cases w.past e b.0 b.1) [
        | inl older ↦ k.one y z n c d (a.0, old, a.2) (b.0, older, b.2)
        | inr new ↦ absurd (arrives_fresh w e.event x z n i d c t.arrives (ap (λ (f : Entry). f.event) new ∙ b.2) y (a.0, old, a.2))
      ]
      | inr new ↦ elim (Contains-push_cases w.past e b.0 b.1) [
        | inl old ↦ absurd (arrives_fresh w e.event x y n i c d t.arrives (ap (λ (f : Entry). f.event) new ∙ a.2) z (b.0, old, b.2))
        | inr newer ↦
            let p = same_command y z n n c d (sym a.2 ∙ (ap (λ (f : Entry). f.event) (sym new ∙ newer) ∙ b.2)) in (p.0, p.1.1)
      ]
    ]

-- ---- one step keeps it

pub way_ready : (s : State) (key : Key) (y : Id) (p : Phase) → way_in s key p ≡ way.To y → is_ready p ≡ true
way_ready s key y (Ready a l r) e = refl
way_ready s key y (Waiting a) e = cc
way_ready s key y (Asking a n) e = cc
way_ready s key y (Probing a n probed) e = cc
way_ready s key y (Leasing a n l r fl fr) e = cc

-- each hop leaves one more ready node behind
passes_on : (g : Setting) (w : World) (e : Entry) (x : Id) (i : Input) → IsSetting g → JoinsHold g w → Takes g w e x i →
    PassesOn (OnTheWay g (after_step w e x i)) (w.states x)
passes_on g w e x i set h t = record {
  next = λ o n key hops y b is.
      let v : World = after_step w e x i in
      let goes = hop_goes_nearer g w x key y set h.messages t.member b.bound is in
      let ready : ReadyIn v.states x = ready_stays w.states x i x (way_ready (w.states x) key y (w.states x).phase is) in
      let more : farther g v key x < farther g v key y = farther-more (λ z. is_ready (v.states z).phase) g.nodes x y key t.member ready goes.1 in
      let few : hops ≤ farther g v key x = subst (λ z. hops ≤ farther g v key z) (h.messages.me x) b.few in
      record { commanded = b.commanded; bound = b.bound; few = omega arith };
}

command_carries : (g : Setting) (v : World) (x : Id) (n : Number) (c : NodeCommand) → WasCommanded v x n c → IsSaidBy (event.Command x n c) →
    CommandCarries (WasCommanded v) (OnTheWay g v) x n c
command_carries g v x n (command.Lookup key) h said = record { commanded = h; bound = said; few = omega arith }
command_carries g v x n (command.Insert file copies bytes) h said = h
command_carries g v x n (command.Fetch file) h said = h
command_carries g v x n (command.Reclaim file) h said = h
command_carries g v x n (command.Join via) h said = tt
command_carries g v x n command.GiveUp h said = tt

pub input_carries : (g : Setting) (w : World) (e : Entry) (x : Id) (i : Input) → RequestsHold g w → Takes g w e x i → (s : State) →
    Later g w (stepped w e x s) →
    InputCarries (WasCommanded (stepped w e x s)) (OnTheWay g (stepped w e x s)) x i
input_carries g w e x i k t s l = by e.event refl x i t.arrives where
  v : World
  v = stepped w e x s

  by : (f : Event) → e.event ≡ f → (y : Id) (j : Input) → Arrives w f y j → InputCarries (WasCommanded v) (OnTheWay g v) y j
  by _ is _ _ (commanded y n c fresh) = command_carries g v y n c (e, Contains-push w.past e, is) (subst IsSaidBy is t.said)
  by _ is _ _ (noised y) = tt
  by _ is _ _ (delivered m u f) = carries_later g w v l u.receiver u.message (Each-slice_get (IsBehind g w) (sent_in w.past) m u k.sent f).carries

-- all that a step makes has its command behind it, in the world that it leads to
pub requested : (g : Setting) (w : World) (e : Entry) (x : Id) (i : Input) → IsSetting g → JoinsHold g w → RequestsHold g w → Takes g w e x i →
    Requested (WasCommanded (after_step w e x i)) (OnTheWay g (after_step w e x i)) (w.states x) (step (w.states x) i)
requested g w e x i set h k t =
    seat_requested (WasCommanded v) (OnTheWay g v) (w.states x) i (step (w.states x) i) (step_seat (w.states x) i) refl (passes_on g w e x i set h t)
    (subst (λ y. InputCarries (WasCommanded v) (OnTheWay g v) y i) (sym (h.messages.me x))
    (input_carries g w e x i k t (step (w.states x) i).state (later g w e x i)))
    (Each-weaker (AsksFor (WasCommanded w)) (AsksFor (WasCommanded v)) (w.states x).pending (asks_later g w v (later g w e x i)) (k.pending x)) where
      v : World
      v = after_step w e x i

noted_replied : (w : World) (e : Entry) (notes : List Note) (to : Id) (m : Message) → Contains w.past e → e.notes ≡ notes → IsNoted notes to m →
    IsReplied w to m
noted_replied w e notes to (LookupReply n r) c f h = (e, (c, subst (λ ns. Contains ns (note.Answered to n r)) (sym f) h))
noted_replied w e notes to (InsertReply n r) c f h = (e, (c, subst (λ ns. Contains ns (note.Answered to n r)) (sym f) h))
noted_replied w e notes to (FetchReply n r) c f h = (e, (c, subst (λ ns. Contains ns (note.Answered to n r)) (sym f) h))
noted_replied w e notes to (ReclaimReply n r) c f h = (e, (c, subst (λ ns. Contains ns (note.Answered to n r)) (sym f) h))
noted_replied w e notes to _ c f h = tt

keeps : (g : Setting) → IsSetting g → (w : World) (e : Entry) (x : Id) (i : Input) → JoinsHold g w → RequestsHold g w → Takes g w e x i →
    RequestsHold g (after_step w e x i)
keeps g set w e x i h k t =
    record {
      one = λ y z n c d a b. one_kept g w e x i k t v.states y z n c d a b;
      sent = subst (λ vs. Each (IsBehind g v) vs) (sym (sent_in-push w.past e)) (Each-append (IsBehind g v) (sent_in w.past) _ old fresh);
      pending = λ y. state_at-each (λ z (s : State). Each (AsksFor (WasCommanded v)) s.pending) w.states x o.state y new.pending
          (Each-weaker (AsksFor (WasCommanded w)) (AsksFor (WasCommanded v)) (w.states y).pending (asks_later g w v l) (k.pending y));
    } where
      o : Outcome
      o = step (w.states x) i

      v : World
      v = after_step w e x i

      l : Later g w v
      l = later g w e x i

      new : Requested (WasCommanded v) (OnTheWay g v) (w.states x) o
      new = requested g w e x i set h k t

      old : Each (IsBehind g v) (sent_in w.past)
      old = Each-weaker (IsBehind g w) (IsBehind g v) (sent_in w.past)
          (λ u b. record { carries = carries_later g w v l u.receiver u.message b.carries; replied = replied_later g w v l u.receiver u.message b.replied })
          k.sent

      fresh : Each (IsBehind g v) e.messages
      fresh = each_envelope (IsBehind g v) x e.messages o.sends t.messages
          (Each-both (λ m. Carries (WasCommanded v) (OnTheWay g v) m.receiver m.message) (λ m. IsNoted o.notes m.receiver m.message)
          (λ m. (u : Envelope) → IsFrom x m u → IsBehind g v u) o.sends
          (λ m p q u f. record {
            carries = rw (f.receiver, f.message) p;
            replied = rw (f.receiver, f.message) (noted_replied v e o.notes m.receiver m.message (Contains-push w.past e) t.notes q);
          }) new.sends (seat_noted (w.states x) i o (step_seat (w.states x) i) refl).each)

-- ---- at the start

pub nobody_commanded : (g : Setting) (x : Id) (n : Number) (c : NodeCommand) → WasCommanded (world_at_start g) x n c → ⊥
nobody_commanded g x n c h = let lt = h.1.1 in absurd (omega arith)

requests_at_start : (g : Setting) → RequestsHold g (world_at_start g)
requests_at_start g = record {
  one = λ x y n c d a b. absurd (nobody_commanded g x n c a);
  sent = tt;
  pending = λ y. start_pending (AsksFor (WasCommanded (world_at_start g))) y (y == g.founder);
}

-- the invariants of joins and of requests
pub record AllHold (g : Setting) (w : World) : Type 0 where
  pub joins : JoinsHold g w
  pub requests : RequestsHold g w

pub all_keep : (g : Setting) → IsSetting g → Keeps g (AllHold g)
all_keep g set = record {
  keeps = λ w e x i h t. record { joins = (joins_keep g set).keeps w e x i h.joins t; requests = keeps g set w e x i h.joins h.requests t };
}

pub all_at_start : (g : Setting) → IsSetting g → AllHold g (world_at_start g)
all_at_start g set = record { joins = joins_at_start g set; requests = requests_at_start g }

-- after every entry of a legal record
pub all_hold : (g : Setting) (es : List Entry) → IsRecord g es → (i : ℕ) → AllHold g (world_after g es i)
all_hold g es r i = always g (AllHold g) (all_at_start g r.setting) (all_keep g r.setting) es r i
