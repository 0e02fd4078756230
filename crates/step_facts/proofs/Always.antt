-- The induction over histories, once: what holds at the start and is kept by each entry holds after every entry of a legal record.
use Rattle.std.proofs.Common.{◌≡◌, ℕ, zero, suc, Option, Some, None, List, [], ◌∷◌, ◌++◌, map, take, slice_get, All, Contains, refl, sym, subst, ap}
use Rattle.std.proofs.lemmas.List.Elements.{All-head, All-tail}
use Rattle.ring_math.specs.Names.{Id, Number}
use Rattle.wire_msg.specs.declared.command.Command.{Command as NodeCommand}
use Rattle.wire_msg.specs.Words.{Envelope}
use Rattle.overlay_rules.specs.declared.entry.Event.{Event}
use Rattle.overlay_rules.specs.declared.entry.Event.TheVariants as event
use Rattle.overlay_rules.specs.declared.entry.Entry.{Entry}
use Rattle.overlay_rules.specs.State.{State}
use Rattle.overlay_rules.specs.Outcome.{Input, Command, Comes, Noise}
use Rattle.overlay_rules.specs.Step.{step}
use Rattle.overlay_rules.specs.Moments.{Moment}
use Rattle.overlay_rules.specs.Record.{Setting, IsSetting, World, Visit, IsFresh, sent_in, visit, visit_of, state_at, states_after, after, run, unstamped}
use Rattle.overlay_rules.specs.Record.{enveloped, Follows, IsSaidBy, LegalFrom, Legal, IsRecord, world_at_start, world_after}

-- a legal record from a setting, of commands as their types allow them
pub by_types : {g : Setting} {es : List Entry} → IsSetting g → All (λ e. IsSaidBy e.event) es → Legal g es → IsRecord g es
by_types set said legal = record { setting = set; said = said; legal = legal }

-- how an input comes to a node
pub data Arrives (w : World) : Event → Id → Input → Type 0 where
  commanded : (x : Id) (n : Number) (c : NodeCommand) → IsFresh w.past (event.Command x n c) → Arrives w (event.Command x n c) x (Command n c)
  delivered : (m : ℕ) (v : Envelope) → slice_get (sent_in w.past) m ≡ Some v → Arrives w (event.Deliver m) v.receiver (Comes v.sender v.message)
  noised : (x : Id) → Arrives w (event.Noise x) x Noise

-- entry e is a step of node x at input i: all that `Follows` says, with the event put in
pub record Takes (g : Setting) (w : World) (e : Entry) (x : Id) (i : Input) : Type 0 where
  pub arrives : Arrives w e.event x i
  pub said : IsSaidBy e.event
  pub member : Contains g.nodes x
  pub messages : map unstamped e.messages ≡ map (enveloped 0 x) (step (w.states x) i).sends
  pub notes : e.notes ≡ (step (w.states x) i).notes

-- the world after entry e, which brought node x to this state
abbrev pub stepped : World → Entry → Id → State → World
stepped w e x s = record { states = state_at w.states x s; past = w.past ++ e ∷ [] }

-- the world after entry e, a step of node x at input i
abbrev pub after_step : World → Entry → Id → Input → World
after_step w e x i = stepped w e x (step (w.states x) i).state

-- where the notes of that step stand
abbrev pub step_moment : World → Entry → Id → Input → Moment
step_moment w e x i = record { entry = e; node = x; before = w; world = after_step w e x i }

pub record Keeps (g : Setting) (I : World → Type 0) : Type 0 where
  pub keeps : (w : World) (e : Entry) (x : Id) (i : Input) → I w → Takes g w e x i → I (after_step w e x i)

arrives : (w : World) (v : Event) (at : Visit) → visit (sent_in w.past) v ≡ Some at → IsFresh w.past v → Arrives w v at.node at.input
arrives w (event.Command x n c) at e f = let same : record { node = x; input = Command n c } ≡ at =
    cc in subst (λ (a : Visit). Arrives w (event.Command x n c) a.node a.input) same (commanded x n c f)
arrives w (event.Noise x) at e f = let same : record { node = x; input = Noise } ≡ at =
    cc in subst (λ (a : Visit). Arrives w (event.Noise x) a.node a.input) same (noised x)
arrives w (event.Deliver m) at e f = found (slice_get (sent_in w.past) m) refl e where
  found : (o : Option Envelope) → slice_get (sent_in w.past) m ≡ o → visit_of o ≡ Some at → Arrives w (event.Deliver m) at.node at.input
  found None h k = cc
  found (Some v) h k = let same : record { node = v.receiver; input = Comes v.sender v.message } ≡ at =
      cc in subst (λ (a : Visit). Arrives w (event.Deliver m) a.node a.input) same (delivered m v h)

pub takes : (g : Setting) (w : World) (e : Entry) (f : Follows g w e) → IsSaidBy e.event → Takes g w e f.at.node f.at.input
takes g w e f said = record { arrives = arrives w e.event f.at f.is_at f.fresh; said = said; member = f.member; messages = f.messages; notes = f.notes }

pub stepped-after : (g : Setting) (w : World) (e : Entry) (f : Follows g w e) → after_step w e f.at.node f.at.input ≡ after w e
stepped-after g w e f = sym (ap (λ v. record { states = states_after w.states v; past = w.past ++ e ∷ [] }) f.is_at)

always_from : (g : Setting) (I : World → Type 0) → Keeps g I → (w : World) (es : List Entry) (i : ℕ) → I w → All (λ e. IsSaidBy e.event) es → LegalFrom g w es →
    I (run w (take i es))
always_from g I k w es zero h said l = h
always_from g I k w [] (suc i) h said l = h
always_from g I k w (e ∷ es) (suc i) h said l =
    always_from g I k (after w e) es i
    (subst I (stepped-after g w e l.0) (k.keeps w e l.0.at.node l.0.at.input h (takes g w e l.0 (All-head (λ d. IsSaidBy d.event) e es said))))
    (All-tail (λ d. IsSaidBy d.event) e es said) l.1

pub always : (g : Setting) (I : World → Type 0) → I (world_at_start g) → Keeps g I → (es : List Entry) → IsRecord g es → (i : ℕ) → I (world_after g es i)
always g I start k es r i = always_from g I k (world_at_start g) es i start r.said r.legal
