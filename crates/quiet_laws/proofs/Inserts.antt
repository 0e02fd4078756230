-- Where each insert rests that waits at a root: for each target that it awaits a replica is on its way, or the acknowledgement is,
-- or the target's store is full and has no entry for the file.
use Rattle.std.proofs.Common.{◌≡◌, ◌≢◌, ◌⊎◌, inl, inr, ℕ, Bool, not, true, ◌==◌, Some, None, filter, Contains}
use Rattle.std.proofs.Common.{refl, sym, subst, ap, ◌∙◌, arith}
use Rattle.std.proofs.lemmas.Bool.{cases_eq}
use Rattle.ring_math.specs.Names.{Id, FileId, Content, Number}
use Rattle.ring_math.specs.Files.{slot_of}
use Rattle.ring_math.proofs.Membership.{Contains-from_filter}
use Rattle.wire_msg.specs.declared.command.Command.TheVariants as command
use Rattle.wire_msg.specs.Words.{Message, Envelope, Replicate, ReplicaAck}
use Rattle.overlay_rules.specs.declared.entry.Entry.{Entry}
use Rattle.overlay_rules.specs.declared.request.Pending.{Pending}
use Rattle.overlay_rules.specs.State.{State, start}
use Rattle.overlay_rules.specs.Outcome.{Outcome, Input, Comes}
use Rattle.overlay_rules.specs.Roots.{targets_of}
use Rattle.overlay_rules.specs.Step.{step}
use Rattle.overlay_rules.specs.Record.{Setting, World, sent_in, world_at_start}
use Rattle.overlay_rules.specs.Table.{Keeps, Gone, table_of, notes_in, accepted_in}
use Rattle.overlay_rules.proofs.Each.{Each, Each-contains, Each-slice_get, Each-weaker, Each-itself}
use Rattle.overlay_rules.proofs.Histories.{state_at-itself, state_at-other, state_at-each}
use Rattle.overlay_rules.proofs.SeatStep.{step_seat}
use Rattle.step_facts.proofs.Always.{Takes, after_step}
use Rattle.step_facts.proofs.Learnt.{IsCons}
use Rattle.step_facts.proofs.Messages.{ReadyIn, ready_stays}
use Rattle.table_laws.proofs.Slots.{Each-slot}
use Rattle.table_laws.proofs.FileRules.{Requests, step_filed}
use Rattle.table_laws.proofs.AnswerRules.{PendingRule, waited, acked, asked_now, step_answered}
use Rattle.table_laws.proofs.Targets.{Each-targets}
use Rattle.table_laws.proofs.Holding.{RightEntry, MessageRight, IsFiled}
use Rattle.table_laws.proofs.Waits.{PendingHolds, TableHolds}
use Rattle.quiet_laws.proofs.Has.{Has, Has-weaker}
use Rattle.quiet_laws.proofs.Numbers.{not_itself}
use Rattle.quiet_laws.proofs.OnWay.{OnWay, DeliveriesHold, on_way-weaker, still, fresh}
use Rattle.quiet_laws.proofs.Full.{IsFull, rule_full}
use Rattle.quiet_laws.proofs.Once.{Once, seat_once, heard, ack_some}
use Rattle.quiet_laws.proofs.Copies.{Is, Copies, none, copies, request_copies, replica_goes}

-- a replica from the root to a target, and the acknowledgement back
abbrev pub IsCopy : Id → Id → Number → FileId → Id → Envelope → Type 0
IsCopy root o n f t v = (v.sender ≡ root) × (v.receiver ≡ t) × ((b : Content) × (v.message ≡ Replicate o n f b))

abbrev pub IsAck : Id → Id → Number → FileId → Id → Envelope → Type 0
IsAck root o n f t v = (v.sender ≡ t) × (v.receiver ≡ root) × (v.message ≡ ReplicaAck o n f)

pub data TargetRests (w : World) (root o : Id) (n : Number) (f : FileId) (t : Id) : Type 0 where
  asked : OnWay (IsCopy root o n f t) w → TargetRests w root o n f t
  answered : OnWay (IsAck root o n f t) w → TargetRests w root o n f t
  full : IsFull (w.states t).files f → TargetRests w root o n f t

pub record AskRests (w : World) (root : Id) (p : Pending) : Type 0 where
  pub some : IsCons p.awaited
  pub ready : (t : Id) → Contains p.awaited t → ReadyIn w.states t
  pub targets : (t : Id) → Contains p.awaited t → TargetRests w root p.origin p.number p.file t

pub record AsksRest (w : World) : Type 0 where
  pub once : (y : Id) → Once (w.states y).pending
  pub asks : (y : Id) (p : Pending) → Contains (w.states y).pending p → AskRests w y p

module _ (g : Setting) (w : World) (e : Entry) (x : Id) (i : Input) (t : Takes g w e x i) (k : DeliveriesHold w) (table : TableHolds g w) where
  abbrev made : Outcome
  made = step (w.states x) i

  abbrev v : World
  v = after_step w e x i

  -- ---- one target

  -- a replica that comes is acknowledged, or there is no room
  copy_came : (root o : Id) (n : Number) (f : FileId) (y : Id) (kept b : Content) → y ≡ x → i ≡ Comes root (Replicate o n f b) →
      table_of (notes_in w.past) f ≡ Keeps kept → accepted_in f (notes_in w.past) ≡ Some b → TargetRests v root o n f y
  copy_came root o n f y kept b at_x is keeps first =
      elim (replica_goes (w.states x) root o n f b no_tomb right) [
        | inl ack ↦ answered (fresh (IsAck root o n f y) g w e x i t k
            (Has-weaker (Is root (ReplicaAck o n f)) _ made.sends
            (λ s q u from. (from.sender ∙ sym at_x, from.receiver ∙ q.0, from.message ∙ q.1))
            (subst (λ j. Has (Is root (ReplicaAck o n f)) (step (w.states x) j).sends) (sym is) ack)))
        | inr no_room ↦ full (subst (λ (s : State). IsFull s.files f) (sym (ap v.states at_x ∙ state_at-itself w.states x made.state))
            (subst (λ j. IsFull (step (w.states x) j).state.files f) (sym is) no_room))
      ] where
        no_tomb : slot_of (w.states x).files f ≡ Some None → ⊥
        no_tomb at = let gone : table_of (notes_in w.past) f ≡ Gone =
            Each-slot (RightEntry (notes_in w.past)) (w.states x).files f None (table.files.files.entries x) at in cc

        right : (held : Content) → slot_of (w.states x).files f ≡ Some (Some held) → held ≡ b
        right held at = let was : accepted_in f (notes_in w.past) ≡ Some held =
            Each-slot (RightEntry (notes_in w.past)) (w.states x).files f (Some held) (table.files.files.entries x) at in
            let same : Some held ≡ Some b = sym was ∙ first in cc

  target_on : (root o : Id) (n : Number) (f : FileId) (y : Id) (kept : Content) → table_of (notes_in w.past) f ≡ Keeps kept → TargetRests w root o n f y →
      TargetRests v root o n f y ⊎ ((root ≡ x) × (i ≡ Comes y (ReplicaAck o n f)))
  target_on root o n f y kept keeps (asked h) = elim (still Strong g w e x i t strong) [
    | inl same ↦ inl (asked (on_way-weaker Strong (IsCopy root o n f y) v (λ u q. q.0) same))
    | inr came ↦
        let q = came.is.0 in
        let is : i ≡ Comes root (Replicate o n f q.2.0) =
        came.input ∙ (λ j. Comes (q.0 j) (q.2.1 j)) in
        inl (copy_came root o n f y kept q.2.0 (sym q.1 ∙ came.receiver) is keeps
        (subst (MessageRight (notes_in w.past)) q.2.1 came.is.1))
  ] where
    Strong : Envelope → Type 0
    Strong u = IsCopy root o n f y u × MessageRight (notes_in w.past) u.message

    strong : OnWay Strong w
    strong = record {
      place = h.place;
      envelope = h.envelope;
      sent = h.sent;
      undelivered = h.undelivered;
      is = (h.is, (Each-slice_get (IsFiled w.states (notes_in w.past)) (sent_in w.past) h.place h.envelope table.files.sent h.sent).right);
    }
  target_on root o n f y kept keeps (answered h) = elim (still (IsAck root o n f y) g w e x i t h) [
    | inl same ↦ inl (answered same)
    | inr came ↦ let q = came.is in inr (sym q.1 ∙ came.receiver, came.input ∙ (λ j. Comes (q.0 j) (q.2 j)))
  ]
  target_on root o n f y kept keeps (full h) =
      inl (full (state_at-each (λ z (s : State). IsFull (w.states z).files f → IsFull s.files f) w.states x made.state y
      (rule_full (w.states x) i made f (step_filed (w.states x) i).does) (λ b. b) h))

  -- ---- one insert

  kept_as : (y : Id) (p : Pending) → Contains (w.states y).pending p → PendingHolds w (notes_in w.past) y p
  kept_as y p c = Each-contains (PendingHolds w (notes_in w.past) y) (w.states y).pending p (table.waits.pending y) c

  module _ (r : AsksRest w) where
    -- elsewhere
    elsewhere : (y : Id) (p : Pending) → y ≢ x → Contains (w.states y).pending p → AskRests v y p
    elsewhere y p ne c = let b = r.asks y p c in let kept = kept_as y p c in record {
      some = b.some;
      ready = λ z d. ready_stays w.states x i z (b.ready z d);
      targets = λ z d. elim (target_on y p.origin p.number p.file z kept.bytes kept.kept (b.targets z d)) [
        | inl rests ↦ rests
        | inr heard' ↦ absurd (ne heard'.0)
      ];
    }

    -- at the node of the step: it waited, and waits
    stood : (p : Pending) → Contains (w.states x).pending p → Contains made.state.pending p → AskRests v x p
    stood p c still_there = let b = r.asks x p c in let kept = kept_as x p c in record {
      some = b.some;
      ready = λ z d. ready_stays w.states x i z (b.ready z d);
      targets = λ z d. elim (target_on x p.origin p.number p.file z kept.bytes kept.kept (b.targets z d)) [
        | inl rests ↦ rests
        | inr heard' ↦ absurd (heard (w.states x) z p.origin p.number p.file (r.once x) p
            (subst (λ j. Contains (step (w.states x) j).state.pending p) heard'.1 still_there) refl refl refl d)
      ];
    }

    -- it was acknowledged by one that it awaited, and awaits others
    acknowledged : (p : Pending) (from : Id) → Contains (w.states x).pending p → i ≡ Comes from (ReplicaAck p.origin p.number p.file) →
        Contains made.state.pending (record p { awaited = filter (λ y. not (y == from)) p.awaited }) →
        AskRests v x (record p { awaited = filter (λ y. not (y == from)) p.awaited })
    acknowledged p from c is now = let b = r.asks x p c in let kept = kept_as x p c in record {
      some = Each-contains (λ (q : Pending). IsCons q.awaited) made.state.pending _
          (subst (λ j. Each (λ (q : Pending). IsCons q.awaited) (step (w.states x) j).state.pending) (sym is)
          (ack_some (w.states x) from p.origin p.number p.file
          (Each-weaker (Contains (w.states x).pending) (λ (q : Pending). IsCons q.awaited) (w.states x).pending (λ q d. (r.asks x q d).some)
          (Each-itself (w.states x).pending)))) now;
      ready = λ z d. ready_stays w.states x i z (b.ready z (Contains-from_filter (λ y. not (y == from)) p.awaited z d).0);
      targets = λ z d. let both = Contains-from_filter (λ y. not (y == from)) p.awaited z d in
          elim (target_on x p.origin p.number p.file z kept.bytes kept.kept (b.targets z both.0)) [
            | inl rests ↦ rests
            | inr heard' ↦ absurd (apart z both.1 (sym heard'.1 ∙ is))
          ];
    } where
      sender : (y z : Id) (m l : Message) → Comes y m ≡ Comes z l → y ≡ z
      sender y z m l e = cc

      apart : (z : Id) → not (z == from) ≡ true → Comes z (ReplicaAck p.origin p.number p.file) ≡ Comes from (ReplicaAck p.origin p.number p.file) → ⊥
      apart z ne e = not_itself from (subst (λ y. not (y == from) ≡ true) (sender z from _ _ e) ne)

    -- it is asked now
    asked_here : (from : Id) (n : Number) (f : FileId) (count : ℕ) (b : Content) → Requests (w.states x).me i from n (command.Insert f count b) →
        Contains made.state.pending (record {
          origin = from;
          number = n;
          file = f;
          targets = targets_of (w.states x) f count;
          awaited = targets_of (w.states x) f count;
        }) →
        AskRests v x (record { origin = from; number = n; file = f; targets = targets_of (w.states x) f count; awaited = targets_of (w.states x) f count })
    asked_here from n f count b q c = by (request_copies (w.states x) i from n f count b q) where
      p : Pending
      p = record { origin = from; number = n; file = f; targets = targets_of (w.states x) f count; awaited = targets_of (w.states x) f count }

      by : Copies (w.states x) made from n f b (targets_of (w.states x) f count) → AskRests v x p
      by (none same) = stood p (subst (λ ps. Contains ps p) same c) c
      by (copies some sent) = record {
        some = some;
        ready = λ z d. ready_stays w.states x i z (Each-contains (ReadyIn w.states) (targets_of (w.states x) f count) z
            (Each-targets (ReadyIn w.states) (w.states x) f count (table.all.joins.messages.knows x).known) d);
        targets = λ z d. asked (fresh (IsCopy x from n f z) g w e x i t k
            (Has-weaker (Is z (Replicate from n f b)) _ made.sends (λ s q u fr. (fr.sender, fr.receiver ∙ q.0, (b, fr.message ∙ q.1))) (sent z d)));
      }

    at_x : (p : Pending) → Contains made.state.pending p → PendingRule (w.states x) i made p → AskRests v x p
    at_x _ c (waited p was none') = stood p was c
    at_x _ c (acked p from was is none') = acknowledged p from was is c
    at_x _ c (asked_now from n f count b q here there few) = asked_here from n f count b q c

    pub asks_keep : AsksRest v
    asks_keep = record {
      once = λ y. state_at-each (λ z (s : State). Once s.pending) w.states x made.state y
          (seat_once (w.states x) i made (step_seat (w.states x) i) refl (r.once x)) (r.once y);
      asks = λ y p c. elim (cases_eq y x) [
        | inl same ↦
            let here : Contains made.state.pending p =
            subst (λ (s : State). Contains s.pending p) (ap v.states same ∙ state_at-itself w.states x made.state) c in
            subst (λ z. AskRests v z p) (sym same)
            (at_x p here (Each-contains (PendingRule (w.states x) i made) made.state.pending p (step_answered (w.states x) i).pending here))
        | inr ne ↦ elsewhere y p ne (subst (λ (s : State). Contains s.pending p) (state_at-other w.states x made.state y ne) c)
      ];
    }

start_once : (y : Id) (b : Bool) → Once (start y b).pending
start_once y b = tt

start_asks : (y : Id) (b : Bool) (p : Pending) → Contains (start y b).pending p → ⊥
start_asks y b p c = let lt = c.1 in absurd (omega arith)

pub asks_at_start : (g : Setting) → AsksRest (world_at_start g)
asks_at_start g = record { once = λ y. start_once y (y == g.founder); asks = λ y p c. absurd (start_asks y (y == g.founder) p c) }
