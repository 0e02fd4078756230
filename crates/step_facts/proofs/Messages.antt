-- The first invariant of every legal record: each node is itself, who is ready is a node of the setting, what is known is ready,
-- and each message that was sent came from a node and shows what it says.
use Rattle.std.proofs.Common.{◌≡◌, ◌≤◌, ◌<◌, ◌^◌, Bool, true, false, ◌==◌, Contains, refl, sym, subst, ap, ◌∙◌, inl}
use Rattle.std.proofs.lemmas.List.Elements.{All-contains}
use Rattle.std.proofs.lemmas.Bool.Decides.{Decides-eqb}
use Rattle.ring_math.specs.Names.{Id, Attempt}
use Rattle.wire_msg.specs.Words.{Envelope}
use Rattle.overlay_rules.specs.declared.entry.Event.{Event}
use Rattle.overlay_rules.specs.declared.entry.Entry.{Entry}
use Rattle.overlay_rules.specs.declared.request.Pending.{Pending}
use Rattle.overlay_rules.specs.State.{State, attempt_of, is_ready, start}
use Rattle.overlay_rules.specs.Outcome.{Outcome, Input}
use Rattle.overlay_rules.specs.Step.{step}
use Rattle.overlay_rules.specs.Record.{Setting, IsSetting, World, sent_in, state_at, world_at_start}
use Rattle.overlay_rules.proofs.Each.{Each, Each-append, Each-both, Each-slice_get, Each-weaker}
use Rattle.overlay_rules.proofs.Histories.{sent_in-push, state_at-itself, state_at-each, IsFrom, each_envelope}
use Rattle.overlay_rules.proofs.Seat.{Seat}
use Rattle.overlay_rules.proofs.Seat as rule
use Rattle.overlay_rules.proofs.SeatStep.{step_seat}
use Rattle.step_facts.proofs.Always.{Arrives, commanded, delivered, noised, Takes, Keeps, after_step}
use Rattle.step_facts.proofs.Phases.{Moves, stays, seat_moves, Moves-ready, Moves-attempt}
use Rattle.step_facts.proofs.Told.{Shows, Shows-moves, seat_shows}
use Rattle.step_facts.proofs.Knows.{Knows, Tells, InputTells, Kept, seat_knows, Knows-weaker, Tells-weaker, InputTells-weaker}
use Rattle.step_facts.proofs.Linked.{Linked, seat_linked}

-- a node is ready in these states
abbrev pub ReadyIn : (Id → State) → Id → Type 0
ReadyIn states y = is_ready (states y).phase ≡ true

abbrev pub attempt_in : (Id → State) → Id → Attempt
attempt_in states y = attempt_of (states y).phase

-- what an envelope shows in these states
pub record Holds (g : Setting) (states : Id → State) (v : Envelope) : Type 0 where
  pub sender : Contains g.nodes v.sender
  pub shows : Shows (states v.sender).phase v.message
  pub tells : Tells (ReadyIn states) v.sender v.message

pub record MessagesHold (g : Setting) (w : World) : Type 0 where
  pub me : (y : Id) → (w.states y).me ≡ y
  pub nodes : (y : Id) → ReadyIn w.states y → Contains g.nodes y
  pub knows : (y : Id) → Knows (ReadyIn w.states) (w.states y)
  pub linked : (y : Id) → Linked (w.states y)
  pub sent : Each (Holds g w.states) (sent_in w.past)

-- ---- what a step does to all nodes

-- the states after a step of x
abbrev pub next : (Id → State) → Id → Input → Id → State
next states x i = state_at states x (step (states x) i).state

-- each node's phase moves
pub moved : (states : Id → State) (x : Id) (i : Input) (y : Id) → Moves (states y).phase (next states x i y).phase
moved states x i y = state_at-each (λ z t. Moves (states z).phase t.phase) states x _ y (seat_moves _ _ _ (step_seat (states x) i)) (stays _)

pub ready_stays : (states : Id → State) (x : Id) (i : Input) (y : Id) → ReadyIn states y → ReadyIn (next states x i) y
ready_stays states x i y h = Moves-ready _ _ (moved states x i y) h

pub attempt_grows : (states : Id → State) (x : Id) (i : Input) (y : Id) → attempt_in states y ≤ attempt_in (next states x i) y
attempt_grows states x i y = Moves-attempt _ _ (moved states x i y)

-- ---- one step keeps it

me_kept : (s : State) (i : Input) (o : Outcome) → Seat s i o → o.state.me ≡ s.me
me_kept _ _ _ (rule.serves s i o e f g q) = e.me
me_kept _ _ _ (rule.grant_readies s t from a m l r fl fr left right manifest tombs e f g h i) = ap (λ (u : State). u.me) f
me_kept _ _ _ m = refl

input_tells : (g : Setting) (w : World) (e : Entry) (x : Id) (i : Input) → MessagesHold g w → Arrives w e.event x i → InputTells (ReadyIn w.states) i
input_tells g w e x i h a = by a where
  by : {v : Event} {y : Id} {j : Input} → Arrives w v y j → InputTells (ReadyIn w.states) j
  by (delivered m v f) = (Each-slice_get (Holds g w.states) _ m v h.sent f).tells
  by (commanded y n c f) = tt
  by (noised y) = tt

pub in_ring : (g : Setting) → IsSetting g → (y : Id) → Contains g.nodes y → y < 2 ^ 128
in_ring g s y c = All-contains (λ x. x < 2 ^ 128) g.nodes y s.in_ring c

keeps : (g : Setting) → IsSetting g → (w : World) (e : Entry) (x : Id) (i : Input) → MessagesHold g w → Takes g w e x i → MessagesHold g (after_step w e x i)
keeps g set w e x i h t =
    record {
      me = λ y. state_at-each (λ z (s : State). s.me ≡ z) w.states x o.state y (me_kept _ _ _ (step_seat (w.states x) i) ∙ h.me x) (h.me y);
      nodes = λ y r. state_at-each (λ z (s : State). is_ready s.phase ≡ true → Contains g.nodes z) w.states x o.state y (λ _. t.member) (h.nodes y) r;
      knows = λ y. state_at-each (λ z s. Knows R s) w.states x o.state y new.state (Knows-weaker (ReadyIn w.states) R (w.states y) wider (h.knows y));
      linked = λ y. state_at-each (λ z s. Linked s) w.states x o.state y linked (h.linked y);
      sent = subst (λ vs. Each (Holds g after) vs) (sym (sent_in-push w.past e)) (Each-append (Holds g after) (sent_in w.past) _ old fresh);
    } where
      o : Outcome
      o = step (w.states x) i

      after : Id → State
      after = state_at w.states x o.state

      R : Id → Type 0
      R = ReadyIn after

      here : after x ≡ o.state
      here = state_at-itself w.states x o.state

      wider : (y : Id) → ReadyIn w.states y → R y
      wider y = ready_stays w.states x i y

      self : is_ready o.state.phase ≡ true → R (w.states x).me
      self f = subst R (sym (h.me x)) (subst (λ (s : State). is_ready s.phase ≡ true) (sym here) f)

      new : Kept R (w.states x).me o
      new =
          seat_knows R _ i o (step_seat (w.states x) i) self (Knows-weaker (ReadyIn w.states) R (w.states x) wider (h.knows x))
          (InputTells-weaker (ReadyIn w.states) R i wider (input_tells g w e x i h t.arrives))

      nodes : (y : Id) → R y → Contains g.nodes y
      nodes y r = state_at-each (λ z (s : State). is_ready s.phase ≡ true → Contains g.nodes z) w.states x o.state y (λ _. t.member) (h.nodes y) r

      linked : Linked o.state
      linked =
          seat_linked (w.states x) i o (step_seat (w.states x) i) (rw (h.me x) (in_ring g set x t.member))
          (Each-weaker R (λ y. y < 2 ^ 128) o.state.known (λ y r. in_ring g set y (nodes y r)) new.state.known) (h.knows x).some (h.linked x)

      old : Each (Holds g after) (sent_in w.past)
      old = Each-weaker (Holds g w.states) (Holds g after) (sent_in w.past)
          (λ v b. record {
            sender = b.sender;
            shows = Shows-moves v.message _ _ (moved w.states x i v.sender) b.shows;
            tells = Tells-weaker (ReadyIn w.states) R v.sender v.message wider b.tells;
          }) h.sent

      fresh : Each (Holds g after) e.messages
      fresh = each_envelope (Holds g after) x e.messages o.sends t.messages
          (Each-both (λ m. Shows (after x).phase m.message) (λ m. Tells R x m.message) (λ m. (v : Envelope) → IsFrom x m v → Holds g after v) o.sends
          (λ m p q v f. record {
            sender = rw f.sender t.member;
            shows = rw (f.sender, f.message) p;
            tells = rw (f.sender, f.message) q;
          })
          (subst (λ (s : State). Each (λ m. Shows s.phase m.message) o.sends) (sym here) (seat_shows _ _ _ (step_seat (w.states x) i)).each)
          (subst (λ y. Each (λ m. Tells R y m.message) o.sends) (h.me x) new.sends.each))

-- ---- at the start

start_knows : (g : Setting) (y : Id) (b : Bool) → y == g.founder ≡ b → Knows (ReadyIn (world_at_start g).states) (start y b)
start_knows g y true e = record { some = tt; known = tt; phase = (ready, ready) } where
  ready : ReadyIn (world_at_start g).states y
  ready = rw e refl
start_knows g y false e = record { some = tt; known = tt; phase = tt }

start_linked : (y : Id) (b : Bool) → Linked (start y b)
start_linked y true = record { unknown = tt; phase = (inl refl, inl refl) }
start_linked y false = record { unknown = tt; phase = tt }

start_me : (y : Id) (b : Bool) → (start y b).me ≡ y
start_me y b = refl

start_nodes : (g : Setting) (y : Id) (b : Bool) → IsSetting g → y == g.founder ≡ b → is_ready (start y b).phase ≡ true → Contains g.nodes y
start_nodes g y true s e h = subst (Contains g.nodes) (sym ((Decides-eqb y g.founder).0 e)) s.founder
start_nodes g y false s e h = cc

pub start_pending : (P : Pending → Type 0) (y : Id) (b : Bool) → Each P (start y b).pending
start_pending P y b = tt

pub messages_at_start : (g : Setting) → IsSetting g → MessagesHold g (world_at_start g)
messages_at_start g s = record {
  me = λ y. start_me y (y == g.founder);
  nodes = λ y h. start_nodes g y (y == g.founder) s refl h;
  knows = λ y. start_knows g y (y == g.founder) refl;
  linked = λ y. start_linked y (y == g.founder);
  sent = tt;
}

pub messages_keep : (g : Setting) → IsSetting g → Keeps g (MessagesHold g)
messages_keep g s = record { keeps = keeps g s }
