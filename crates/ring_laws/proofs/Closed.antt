-- Each closing of a command is right.
use Rattle.std.proofs.Common.{◌≡◌, ℕ, Bool, true, false, Some, None, List, take, slice_get, Contains, refl, sym, subst, ap, ◌∙◌}
use Rattle.std.proofs.lemmas.List.Elements.{Contains-push}
use Rattle.ring_math.specs.Names.{Id, Attempt, Number}
use Rattle.ring_math.specs.Members.{IsPred, IsSucc}
use Rattle.coverage.specs.Links.{IsNext}
use Rattle.wire_msg.specs.declared.command.Command.TheVariants as command
use Rattle.wire_msg.specs.declared.reply.Answer.{Answer}
use Rattle.wire_msg.specs.declared.reply.Own.{Own}
use Rattle.wire_msg.specs.declared.reply.Own.TheVariants as own
use Rattle.wire_msg.specs.Words.{Message, Envelope, LookupReply, InsertReply, FetchReply, JoinRefuse, Deny, ReclaimReply}
use Rattle.overlay_rules.specs.declared.entry.Event.{Event}
use Rattle.overlay_rules.specs.declared.entry.Event.TheVariants as event
use Rattle.overlay_rules.specs.declared.entry.Entry.{Entry}
use Rattle.overlay_rules.specs.State.{State, Phase, Waiting, Asking, Probing, Leasing, Ready, is_ready}
use Rattle.overlay_rules.specs.Outcome.{Input, Comes}
use Rattle.overlay_rules.specs.Step.{step}
use Rattle.overlay_rules.specs.Record.{Setting, World, sent_in, state_at, IsRecord, world_after}
use Rattle.overlay_rules.specs.Ready.{IsReadyIn}
use Rattle.overlay_rules.specs.Rightly.{WasJoin, WasAnswered, RightlyStopped, RightlyJoined, RightlyClosed, IsDenial}
use Rattle.overlay_rules.proofs.Each.{Each-slice_get}
use Rattle.overlay_rules.proofs.Histories.{state_at-itself, past_after}
use Rattle.overlay_rules.proofs.Seat.{StopCause}
use Rattle.step_facts.proofs.Always.{Arrives, commanded, delivered, noised, Takes, after_step, step_moment}
use Rattle.step_facts.proofs.Messages.{ReadyIn, MessagesHold}
use Rattle.ring_laws.proofs.Gates.{GatesHold}
use Rattle.ring_laws.proofs.Sides.{side_of, link_of, short}
use Rattle.ring_laws.proofs.Ring.{RingHolds, JoinsHold, no_lease}
use Rattle.ring_laws.proofs.Lookups.{IsReplied, IsBehind, RequestsHold}
use Rattle.ring_laws.proofs.Causes.{refusal, denial}
use Rattle.ring_laws.proofs.Closings.{IsJoinOf, Closing, by_reply, by_joining, by_refusal, by_denial, by_giving_up, as_not_begun, as_given_up, as_idle}
use Rattle.ring_laws.proofs.Closings.{MessageReplies, InputReplies, JoinsBetween}
use Rattle.ring_laws.proofs.JoinNumbers.{PhaseJoins, was_commanded, was_join_later, join_numbers}

-- ---- a joiner becomes ready between its true neighbours

-- what is told of the ready nodes is told of those of the setting
pred_in : (g : Setting) (v : World) (x l : Id) → MessagesHold g v → IsNext false (ReadyIn v.states) x l → IsPred (IsReadyIn g v) x l
pred_in g v x l h n = record { member = (h.nodes l n.member, n.member); last = λ z r ne. n.last z r.1 ne }

succ_in : (g : Setting) (v : World) (x r : Id) → MessagesHold g v → IsNext true (ReadyIn v.states) x r → IsSucc (IsReadyIn g v) x r
succ_in g v x r h n = record { member = (h.nodes r n.member, n.member); first = λ z p ne. n.first z p.1 ne }

-- a ready node without a gate on a side has its true neighbour there
free_next : (g : Setting) (v : World) (right : Bool) (x : Id) (a : Attempt) (l r : Id) → RingHolds g v → (v.states x).phase ≡ Ready a l r →
    (side_of (v.states x) right).gate ≡ None → IsNext right (ReadyIn v.states) x (link_of right (Ready a l r))
free_next g v right x a l r k e f = subst (IsNext right (ReadyIn v.states) x) (ap (link_of right) e) ((k.holds.side right x (ap is_ready e)).free f)

joined_right : (g : Setting) (w : World) (e : Entry) (x : Id) (i : Input) (n : Number) (l r : Id) → GatesHold g w → JoinsHold g (after_step w e x i) →
    Contains g.nodes x → JoinsBetween (w.states x) (step (w.states x) i) n l r → RightlyJoined g w (after_step w e x i) x l r
joined_right g w e x i n l r k h member joins = record {
  ready = (member, ap is_ready at_x);
  new = unready;
  left = pred_in g v x l h.messages (free_next g v false x joins.attempt l r h.ring at_x
      (ap (λ (s : State). short s.left_gate) here ∙ ap short joins.left_gate ∙ no_lease (w.states x) false (k.fit x) unready));
  right = succ_in g v x r h.messages (free_next g v true x joins.attempt l r h.ring at_x
      (ap (λ (s : State). short s.right_gate) here ∙ ap short joins.right_gate ∙ no_lease (w.states x) true (k.fit x) unready));
} where
  v : World
  v = after_step w e x i

  here : v.states x ≡ (step (w.states x) i).state
  here = state_at-itself w.states x (step (w.states x) i).state

  at_x : (v.states x).phase ≡ Ready joins.attempt l r
  at_x = ap (λ (s : State). s.phase) here ∙ joins.now

  unready : is_ready (w.states x).phase ≡ false
  unready = ap is_ready joins.was

-- ---- the message that came

-- a message that came was delivered
record IsDelivery (w : World) (e : Entry) (x from : Id) (m : Message) : Type 0 where
  place : ℕ
  envelope : Envelope
  event : e.event ≡ event.Deliver place
  sent : slice_get (sent_in w.past) place ≡ Some envelope
  sender : envelope.sender ≡ from
  receiver : envelope.receiver ≡ x
  message : envelope.message ≡ m

delivery : (g : Setting) (w : World) (e : Entry) (x : Id) (i : Input) → Takes g w e x i → (from : Id) (m : Message) → i ≡ Comes from m → IsDelivery w e x from m
delivery g w e x i t from m is = by e.event refl x i t.arrives is where
  by : (f : Event) → e.event ≡ f → (y : Id) (j : Input) → Arrives w f y j → j ≡ Comes from m → IsDelivery w e y from m
  by _ at _ _ (commanded y n d fresh) k = cc
  by _ at _ _ (noised y) k = cc
  by _ at _ _ (delivered p u f) k = record { place = p; envelope = u; event = at; sent = f; sender = cc; receiver = refl; message = cc }

message_replies : (w : World) (x : Id) (m : Message) → IsReplied w x m → MessageReplies (WasAnswered w x) m
message_replies w x (LookupReply n r) h = h
message_replies w x (InsertReply n r) h = h
message_replies w x (FetchReply n r) h = h
message_replies w x (ReclaimReply n r) h = h
message_replies w x _ h = tt

pub input_replies : (g : Setting) (w : World) (e : Entry) (x : Id) (i : Input) → RequestsHold g w → Takes g w e x i → InputReplies (WasAnswered w x) i
input_replies g w e x i k t = by e.event x i t.arrives where
  by : (f : Event) (y : Id) (j : Input) → Arrives w f y j → InputReplies (WasAnswered w y) j
  by _ _ _ (commanded y n c fresh) = tt
  by _ _ _ (noised y) = tt
  by _ _ _ (delivered m u f) = message_replies w u.receiver u.message (Each-slice_get (IsBehind g w) (sent_in w.past) m u k.sent f).replied

-- ---- every closing

pub join_was : (w : World) (x : Id) (n : Number) (p : Phase) → PhaseJoins (WasJoin w x) p → IsJoinOf p n → WasJoin w x n
join_was w x n (Asking a m) h e = subst (WasJoin w x) e h
join_was w x n (Probing a m probed) h e = subst (WasJoin w x) e h
join_was w x n (Leasing a m l r fl fr) h e = subst (WasJoin w x) e h
join_was w x n (Waiting a) h e = absurd e
join_was w x n (Ready a l r) h e = absurd e

join_later : (w : World) (e : Entry) (x : Id) (j : Input) (n : Number) → WasJoin w x n → WasJoin (after_step w e x j) x n
join_later w e x j n h = was_join_later w e (state_at w.states x (step (w.states x) j).state) x n h

not_begun_right : (p : Phase) (v : Event) (x : Id) (reason : Own) → StopCause p reason → RightlyStopped p v x reason
not_begun_right p v x own.Already h = h
not_begun_right p v x own.Spent h = h
not_begun_right p v x own.GivenUp h = absurd h

-- entry i of the record closes command n at x
module _ (g : Setting) (es : List Entry) (r : IsRecord g es) (i : ℕ) (e : Entry) (x : Id) (j : Input) (t : Takes g (world_after g es i) e x j)
    (h : JoinsHold g (world_after g es i)) (h' : JoinsHold g (after_step (world_after g es i) e x j)) where
  -- the world before it
  abbrev w : World
  w = world_after g es i

  -- the join of the phase was commanded
  was_join : (n : Number) → IsJoinOf (w.states x).phase n → WasJoin (after_step w e x j) x n
  was_join n b = join_later w e x j n (join_was w x n (w.states x).phase ((join_numbers g es r i).phase x) b)

  sent_there : (place : ℕ) (v : Envelope) → slice_get (sent_in w.past) place ≡ Some v → slice_get (sent_in (take i es)) place ≡ Some v
  sent_there place v = subst (λ fs. slice_get (sent_in fs) place ≡ Some v) (past_after g es i)

  pub closed_right : (n : Number) (a : Answer) → Closing (WasAnswered w x) (w.states x) j (step (w.states x) j) n a →
      RightlyClosed g es (step_moment w e x j) n a
  closed_right _ _ (by_reply n rep b) = b
  closed_right _ _ (by_joining n l o joins) =
      (was_join n (subst (λ p. IsJoinOf p n) (sym joins.was) refl), joined_right g w e x j n l o h.gates h' t.member joins)
  closed_right _ _ (by_refusal from a n why is b) =
      let d = delivery g w e x j t from (JoinRefuse a why) is in (
        was_join n b,
        subst (λ y. IsDenial g es e.event y why) d.sender
            (refusal g es i d.place d.envelope e.event a why r d.event (sent_there d.place d.envelope d.sent) d.message),
      )
  closed_right _ _ (by_denial from a n why is b) =
      let d = delivery g w e x j t from (Deny a why) is in (
        was_join n b,
        subst (λ y. IsDenial g es e.event y why) d.sender
            (denial g es i d.place d.envelope e.event a why r d.event (sent_there d.place d.envelope d.sent) d.message),
      )
  closed_right _ _ (by_giving_up n m is b joining) = (was_join n b, h.messages.me x, ((m, was_commanded g w e x j t m command.GiveUp is), joining))
  closed_right _ _ (as_not_begun n via reason is b) = (
    (via, (e, Contains-push w.past e, was_commanded g w e x j t n (command.Join via) is)),
    h.messages.me x,
    not_begun_right (w.states x).phase e.event x reason b,
  )
  closed_right _ _ (as_given_up n is joining) = (was_commanded g w e x j t n command.GiveUp is, joining)
  closed_right _ _ (as_idle n is idle) = (was_commanded g w e x j t n command.GiveUp is, idle)
