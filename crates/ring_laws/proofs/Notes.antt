-- What is noted is right: deliveries, answers to lookups, and closings.
use Rattle.std.proofs.Common.{◌≡◌, ◌<◌, ◌^◌, ℕ, ◌+◌, false, Some, List, Contains, refl, sym, subst, ap, ◌∙◌, arith}
use Rattle.std.proofs.lemmas.List.Elements.{Contains-push}
use Rattle.ring_math.specs.Names.{Id, Key, Number, Hops}
use Rattle.ring_math.proofs.Counts.{farther-fewer}
use Rattle.coverage.specs.declared.Hop.{Hop}
use Rattle.coverage.specs.declared.Hop.TheVariants as hop
use Rattle.coverage.specs.NextHop.{next_hop_of}
use Rattle.coverage.proofs.Onward.{next_hop-here}
use Rattle.wire_msg.specs.declared.command.Command.{Command as NodeCommand}
use Rattle.wire_msg.specs.declared.command.Command.TheVariants as command
use Rattle.wire_msg.specs.declared.note.Note.{Note}
use Rattle.wire_msg.specs.declared.note.Note.TheVariants as note
use Rattle.wire_msg.specs.declared.reply.Answer.{Answer}
use Rattle.wire_msg.specs.declared.reply.Answer.TheVariants as answer
use Rattle.wire_msg.specs.declared.reply.Reply.{Reply}
use Rattle.wire_msg.specs.declared.reply.Reply.TheVariants as reply
use Rattle.overlay_rules.specs.declared.entry.Entry.{Entry}
use Rattle.overlay_rules.specs.declared.request.Way.TheVariants as way
use Rattle.overlay_rules.specs.State.{State, Phase, Waiting, Asking, Probing, Leasing, Ready, is_ready, reach}
use Rattle.overlay_rules.specs.Outcome.{Input}
use Rattle.overlay_rules.specs.Routed.{way_by, way_in, way_of}
use Rattle.overlay_rules.specs.Step.{step}
use Rattle.overlay_rules.specs.Record.{Setting, IsSetting, World, Visit, visit, sent_in, Follows, IsRecord, IsSaidBy, world_after}
use Rattle.overlay_rules.specs.Laws.{Covers}
use Rattle.overlay_rules.specs.Moments.{Moment, moment_of, EachNote}
use Rattle.overlay_rules.specs.Rightly.{WasCommanded, RightlyDelivered, KeepsFor, RightLookupReply, WasAnswered, RightlyReplied, RightlyClosed, RightLookupNote}
use Rattle.overlay_rules.specs.Rightly.{LookupsAreRight}
use Rattle.overlay_rules.proofs.Each.{Each, Each-contains, Each-from_all, Each-slice_get}
use Rattle.overlay_rules.proofs.Histories.{follows_at, world_after-next, past_after, state_at-itself}
use Rattle.overlay_rules.proofs.SeatStep.{step_seat, unready_way}
use Rattle.ring_laws.specs.Closings.{RightClosing, ClosingsAreRight}
use Rattle.ring_laws.specs.Hops.{FewerHops, HopsAreFew}
use Rattle.step_facts.proofs.Always.{Takes, after_step, takes, stepped-after, step_moment}
use Rattle.step_facts.proofs.Messages.{MessagesHold}
use Rattle.ring_laws.proofs.Ring.{JoinsHold}
use Rattle.ring_laws.proofs.Owner.{covers_right}
use Rattle.ring_laws.proofs.Hops.{can_go_on}
use Rattle.step_facts.proofs.Requests.{NoteCarries, Answers, a_lookup, of_files, IsOfFiles, LookupAnswer}
use Rattle.ring_laws.proofs.Lookups.{OnTheWay, RequestsHold, AllHold, requested, all_hold}
use Rattle.ring_laws.proofs.Causes.{shows_busy}
use Rattle.ring_laws.proofs.Closings.{NoteCloses, seat_closes}
use Rattle.ring_laws.proofs.Closed.{input_replies, closed_right}

-- ---- a delivery is right

to_here : (h : Hop) → way_by h ≡ way.Here → h ≡ hop.Here
to_here hop.Here e = refl
to_here (hop.Gap i) e = cc
to_here (hop.To y) e = cc

-- where a key is Here the node covers it
pub here_covers : (g : Setting) (w : World) (x : Id) (key : Key) → IsSetting g → MessagesHold g w → Contains g.nodes x → key < 2 ^ 128 → (p : Phase) →
    (w.states x).phase ≡ p → way_in (w.states x) key p ≡ way.Here → Covers (w.states x) key
here_covers g w x key set h member hk (Ready a l r) e f = (
  a,
  (
    l,
    (
      r,
      (
        e,
        next_hop-here (reach (w.states x) l r) (w.states x).known key (can_go_on g w x key a l r set h member hk e)
            (to_here (next_hop_of (reach (w.states x) l r) (w.states x).known key) f),
      ),
    ),
  ),
)
here_covers g w x key set h member hk (Waiting a) e f = cc
here_covers g w x key set h member hk (Asking a n) e f = cc
here_covers g w x key set h member hk (Probing a n probed) e f = cc
here_covers g w x key set h member hk (Leasing a n l r fl fr) e f = cc

-- v is the world that the step leads to
delivered_right : (g : Setting) (v : World) (x o : Id) (n : Number) (key : Key) (hops : Hops) → IsSetting g → JoinsHold g v → Contains g.nodes x →
    OnTheWay g v x o n key hops → way_of (v.states x) key ≡ way.Here → RightlyDelivered g v x o n key hops
delivered_right g v x o n key hops set h member b e = record {
  closest = covers_right g v x key h b.bound (here_covers g v x key set h.messages member b.bound (v.states x).phase refl e);
  commanded = b.commanded;
  few = b.few;
}

-- ---- the answer to a lookup is right

unready_shown : (s : State) (key : Key) → way_of s key ≡ way.NotReady → is_ready s.phase ≡ false
unready_shown s key e = unready_way s key s.phase e

-- what a step's answer to a lookup shows; s and notes are the state and the notes that the step gives
module _ (m : Moment) (o : Id) (n : Number) (s : State) (notes : List Note) (is : m.world.states m.node ≡ s) (me : s.me ≡ m.node)
    (noted : m.entry.notes ≡ notes) where
  lookup_answer : (key : Key) (r : Reply) → LookupAnswer s notes o n key r → RightLookupReply m o n key r
  lookup_answer key (reply.Delivered y hops) h = (h.0 ∙ me, subst (λ ns. Contains ns (note.Delivered o n key hops)) (sym noted) h.1)
  lookup_answer key (reply.Busy y j) h = (h.0 ∙ me, subst (λ t. KeepsFor t j key) (sym is) (shows_busy s key j h.1))
  lookup_answer key (reply.NotReady y) h = (h.0 ∙ me, subst (λ (t : State). is_ready t.phase ≡ false) (sym is) (unready_shown s key h.1))
  lookup_answer key (reply.Stored holders) h = absurd h
  lookup_answer key (reply.Found y bytes) h = absurd h
  lookup_answer key (reply.NotFound y) h = absurd h
  lookup_answer key (reply.Collision y) h = absurd h
  lookup_answer key (reply.TooFew y known) h = absurd h
  lookup_answer key (reply.Full y) h = absurd h
  lookup_answer key (reply.Gone y) h = absurd h
  lookup_answer key (reply.Reclaimed y) h = absurd h

same_key : (k key : Key) → command.Lookup k ≡ command.Lookup key → k ≡ key
same_key k key e = cc

no_lookup : (c : NodeCommand) (key : Key) → IsOfFiles c → c ≡ command.Lookup key → ⊥
no_lookup c key k e = subst IsOfFiles e k

module _ (g : Setting) (m : Moment) (o : Id) (n : Number) (s : State) (notes : List Note) (is : m.world.states m.node ≡ s) (me : s.me ≡ m.node)
    (noted : m.entry.notes ≡ notes) where
  answered_right : (key : Key) (r : Reply) → RequestsHold g m.world → Answers (WasCommanded m.world) (OnTheWay g m.world) s notes o n r →
      WasCommanded m.world o n (command.Lookup key) → RightLookupReply m o n key r
  answered_right key r k (a_lookup other hops b h) c =
      let same = same_key other key (k.one o o n (command.Lookup other) (command.Lookup key) b.commanded c).1 in
      subst (λ z. RightLookupReply m o n z r) same (lookup_answer m o n s notes is me noted other r h)
  answered_right key r k (of_files d q b) c = absurd (no_lookup d key q (k.one o o n d (command.Lookup key) b c).1)

-- ---- entry by entry

-- what a step shows of each of its notes holds of each note of the record
pub each_note : (g : Setting) (es : List Entry) (P : Moment → Note → Type 0) → IsRecord g es →
    ((i : ℕ) (e : Entry) (x : Id) (j : Input) → AllHold g (world_after g es i) → AllHold g (after_step (world_after g es i) e x j) →
    Takes g (world_after g es i) e x j → (n : Note) → Contains e.notes n → P (step_moment (world_after g es i) e x j) n) →
    EachNote g P es
each_note g es P r h i e at n is_entry is_at c = subst (λ (a : Visit). P (moment_of g es i e a.node) n) (same_visit f.at at at_same) here where
  w : World
  w = world_after g es i

  f : Follows g w e
  f = follows_at g es i e r.legal is_entry

  same_visit : (a b : Visit) → Some a ≡ Some b → a ≡ b
  same_visit a b e = cc

  at_same : Some f.at ≡ Some at
  at_same = sym f.is_at ∙ (ap (λ fs. visit (sent_in fs) e.event) (past_after g es i) ∙ is_at)

  next : after_step w e f.at.node f.at.input ≡ world_after g es (i + 1)
  next = stepped-after g w e f ∙ sym (world_after-next g es i e is_entry)

  said : IsSaidBy e.event
  said = Each-slice_get (λ (d : Entry). IsSaidBy d.event) es i e (Each-from_all (λ (d : Entry). IsSaidBy d.event) es r.said) is_entry

  here : P (moment_of g es i e f.at.node) n
  here = subst (λ v. P (record { entry = e; node = f.at.node; before = w; world = v }) n) next
      (h i e f.at.node f.at.input (all_hold g es r i) (subst (AllHold g) (sym next) (all_hold g es r (i + 1))) (takes g w e f said) n c)

-- ---- lookups

-- of the closing of a lookup: it hands on a reply that was noted
abbrev ClosedLookup : Moment → Note → Type 0
ClosedLookup m (note.Closed n a) = (key : Key) → WasCommanded m.world m.node n (command.Lookup key) → RightlyReplied m.before m.node n a
ClosedLookup m (note.Delivered o n key hops) = Unit {0}
ClosedLookup m (note.Answered o n r) = Unit {0}
ClosedLookup m (note.Accepted file bytes) = Unit {0}
ClosedLookup m (note.Reclaimed file) = Unit {0}

other_command : (g : Setting) (v : World) (x : Id) (n : Number) (c : NodeCommand) (key : Key) (A : Type 0) → RequestsHold g v → WasCommanded v x n c →
    WasCommanded v x n (command.Lookup key) → (c ≡ command.Lookup key → ⊥) → A
other_command g v x n c key A k a b f = absurd (f (k.one x x n c (command.Lookup key) a b).1)

-- a closing that is right, of a lookup
closed_lookup : (g : Setting) (es : List Entry) (m : Moment) (n : Number) (a : Answer) → RequestsHold g m.world → Contains m.world.past m.entry →
    RightlyClosed g es m n a → (key : Key) → WasCommanded m.world m.node n (command.Lookup key) → RightlyReplied m.before m.node n a
closed_lookup g es m n (answer.Reply r) k c h key was = h
closed_lookup g es m n (answer.Joined l r) k c h key was = other_command g m.world m.node n (command.Join h.0.0) key _ k h.0.1 was (λ f. cc)
closed_lookup g es m n (answer.Denied y why) k c h key was = other_command g m.world m.node n (command.Join h.0.0) key _ k h.0.1 was (λ f. cc)
closed_lookup g es m n (answer.Stopped y reason) k c h key was = other_command g m.world m.node n (command.Join h.0.0) key _ k h.0.1 was (λ f. cc)
closed_lookup g es m n answer.GaveUp k c h key was = other_command g m.world m.node n command.GiveUp key _ k (m.entry, c, h.0) was (λ f. cc)
closed_lookup g es m n answer.NothingToGiveUp k c h key was = other_command g m.world m.node n command.GiveUp key _ k (m.entry, c, h.0) was (λ f. cc)

lookup_note : (g : Setting) (w : World) (e : Entry) (x : Id) (j : Input) → IsSetting g → AllHold g w → AllHold g (after_step w e x j) → Takes g w e x j →
    (n : Note) →
    NoteCarries (WasCommanded (after_step w e x j)) (OnTheWay g (after_step w e x j)) (step (w.states x) j).state (step (w.states x) j).notes n →
    ClosedLookup (step_moment w e x j) n → RightLookupNote g (step_moment w e x j) n
lookup_note g w e x j set h h' t (note.Delivered o n key hops) b c =
    delivered_right g v x o n key hops set h'.joins t.member (subst (λ y. OnTheWay g v y o n key hops) me b.0)
    (subst (λ s. way_of s key ≡ way.Here) (sym here) b.1) where
      v : World
      v = after_step w e x j

      here : v.states x ≡ (step (w.states x) j).state
      here = state_at-itself w.states x (step (w.states x) j).state

      me : (step (w.states x) j).state.me ≡ x
      me = ap (λ (s : State). s.me) (sym here) ∙ h'.joins.messages.me x
lookup_note g w e x j set h h' t (note.Answered o n r) b c = λ key was.
    answered_right g (step_moment w e x j) o n (step (w.states x) j).state (step (w.states x) j).notes here me t.notes key r h'.requests b was where
      v : World
      v = after_step w e x j

      here : v.states x ≡ (step (w.states x) j).state
      here = state_at-itself w.states x (step (w.states x) j).state

      me : (step (w.states x) j).state.me ≡ x
      me = ap (λ (s : State). s.me) (sym here) ∙ h'.joins.messages.me x
lookup_note g w e x j set h h' t (note.Closed n a) b c = c
lookup_note g w e x j set h h' t (note.Accepted file bytes) b c = tt
lookup_note g w e x j set h h' t (note.Reclaimed file) b c = tt

-- ---- over every legal record

closing_note : (g : Setting) (es : List Entry) (i : ℕ) (e : Entry) (x : Id) (j : Input) → IsRecord g es → AllHold g (world_after g es i) →
    AllHold g (after_step (world_after g es i) e x j) →
    Takes g (world_after g es i) e x j → (n : Note) → Contains e.notes n → RightClosing g es (step_moment (world_after g es i) e x j) n
closing_note g es i e x j r h h' t n c = by n (Each-contains _ _ n closings (subst (λ ns. Contains ns n) t.notes c)) where
  w : World
  w = world_after g es i

  closings : Each (NoteCloses (WasAnswered w x) (w.states x) j (step (w.states x) j)) (step (w.states x) j).notes
  closings = (seat_closes (WasAnswered w x) (w.states x) j (step (w.states x) j) (step_seat (w.states x) j) refl (input_replies g w e x j h.requests t)).each

  by : (k : Note) → NoteCloses (WasAnswered w x) (w.states x) j (step (w.states x) j) k → RightClosing g es (step_moment w e x j) k
  by (note.Closed m a) b = closed_right g es r i e x j t h.joins h'.joins m a b
  by (note.Delivered o m key hops) b = tt
  by (note.Answered o m q) b = tt
  by (note.Accepted file bytes) b = tt
  by (note.Reclaimed file) b = tt

pub closings_are_right : (g : Setting) (es : List Entry) → IsRecord g es → ClosingsAreRight g es
closings_are_right g es r = each_note g es (RightClosing g es) r (λ i e x j h h' t n c. closing_note g es i e x j r h h' t n c)

closed_note : (g : Setting) (es : List Entry) (m : Moment) (n : Note) → RequestsHold g m.world → Contains m.world.past m.entry → RightClosing g es m n →
    ClosedLookup m n
closed_note g es m (note.Closed n a) k c h = closed_lookup g es m n a k c h
closed_note g es m (note.Delivered o n key hops) k c h = tt
closed_note g es m (note.Answered o n r) k c h = tt
closed_note g es m (note.Accepted file bytes) k c h = tt
closed_note g es m (note.Reclaimed file) k c h = tt

pub lookups_are_right : (g : Setting) (es : List Entry) → IsRecord g es → LookupsAreRight g es
lookups_are_right g es r = each_note g es (RightLookupNote g) r (λ i e x j h h' t n c.
    lookup_note g (world_after g es i) e x j r.setting h h' t n
    (Each-contains _ _ n (requested g (world_after g es i) e x j r.setting h.joins h.requests t).notes (subst (λ ns. Contains ns n) t.notes c))
    (closed_note g es (step_moment (world_after g es i) e x j) n h'.requests (Contains-push (world_after g es i).past e)
    (closing_note g es i e x j r h h' t n c)))

few_hops : (g : Setting) (m : Moment) (n : Note) → RightLookupNote g m n → FewerHops g m n
few_hops g m (note.Delivered o n key hops) h =
    let few = h.few in
    let fewer = farther-fewer (λ z. is_ready (m.world.states z).phase) g.nodes m.node key h.closest.member.0 h.closest.member.1 in omega arith
few_hops g m (note.Answered o n r) h = tt
few_hops g m (note.Closed n a) h = tt
few_hops g m (note.Accepted file bytes) h = tt
few_hops g m (note.Reclaimed file) h = tt

pub hops_are_few : (g : Setting) (es : List Entry) → IsRecord g es → HopsAreFew g es
hops_are_few g es r i e at n is_entry is_at c = few_hops g (moment_of g es i e at.node) n (lookups_are_right g es r i e at n is_entry is_at c)
