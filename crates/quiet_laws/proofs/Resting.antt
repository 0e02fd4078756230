-- Where each request rests that waits at its node: in a message on its way, in the reply on its way, or in an insert that waits at a root.
use Rattle.std.proofs.Common.{◌≡◌, inl, inr, Bool, ◌==◌, Contains, refl, sym, subst, ap, ◌∙◌, arith}
use Rattle.std.proofs.lemmas.Bool.{cases_eq}
use Rattle.std.proofs.lemmas.List.Elements.{Contains-push}
use Rattle.ring_math.specs.Names.{Id, Number}
use Rattle.wire_msg.specs.declared.command.Command.{Command as NodeCommand}
use Rattle.wire_msg.specs.Words.{Envelope, Sent}
use Rattle.overlay_rules.specs.declared.entry.Entry.{Entry}
use Rattle.overlay_rules.specs.State.{State, start}
use Rattle.overlay_rules.specs.Outcome.{Input, Command, Comes, Noise}
use Rattle.overlay_rules.specs.Step.{step}
use Rattle.overlay_rules.specs.Record.{Setting, World, world_at_start}
use Rattle.overlay_rules.specs.Rightly.{WasCommanded}
use Rattle.overlay_rules.proofs.Histories.{state_at-itself, state_at-other}
use Rattle.overlay_rules.proofs.SeatStep.{step_seat}
use Rattle.step_facts.proofs.Always.{Takes, after_step}
use Rattle.step_facts.proofs.Messages.{MessagesHold}
use Rattle.ring_laws.proofs.Numbers.{IsRequest, IsAsked}
use Rattle.ring_laws.proofs.JoinNumbers.{was_commanded, was_commanded_later}
use Rattle.quiet_laws.proofs.Has.{Has, Has-weaker}
use Rattle.quiet_laws.proofs.OnWay.{OnWay, DeliveriesHold, still, fresh}
use Rattle.quiet_laws.proofs.Going.{Asks, Replies, IsAskOf, Goes, on, back, stays, seat_stays, came_goes, commanded_goes}
use Rattle.quiet_laws.proofs.Ending.{seat_waits, reply_waits_no_more}

-- the envelope brings a the reply to number n
abbrev pub IsReplyTo : Id → Number → Envelope → Type 0
IsReplyTo a n v = (v.receiver ≡ a) × Replies n v.message

pub data Rests (w : World) (a : Id) (n : Number) : Type 0 where
  asked : OnWay (λ v. Asks a n v.message) w → Rests w a n
  replied : OnWay (IsReplyTo a n) w → Rests w a n
  waits : (y : Id) → Has (IsAskOf a n) (w.states y).pending → Rests w a n

-- a number that waits is that of a request, which rests somewhere
pub record Waiting (w : World) (a : Id) (n : Number) : Type 0 where
  pub what : NodeCommand
  pub request : IsRequest what
  pub commanded_here : WasCommanded w a n what
  pub rests : Rests w a n

pub record RestsHold (w : World) : Type 0 where
  pub waiting : (a : Id) (n : Number) → Contains (w.states a).waiting n → Waiting w a n

module _ (g : Setting) (w : World) (e : Entry) (x : Id) (i : Input) (t : Takes g w e x i) (k : DeliveriesHold w) where
  -- what a step makes of a request is where it rests
  from_goes : (a : Id) (n : Number) → Goes a n (step (w.states x) i) → Rests (after_step w e x i) a n
  from_goes a n (on h) = asked (fresh (λ v. Asks a n v.message) g w e x i t k
      (Has-weaker (λ (s : Sent). Asks a n s.message) _ (step (w.states x) i).sends (λ s q v f. subst (Asks a n) (sym f.message) q) h))
  from_goes a n (back h) = replied (fresh (IsReplyTo a n) g w e x i t k
      (Has-weaker (λ (s : Sent). (s.receiver ≡ a) × Replies n s.message) _ (step (w.states x) i).sends
      (λ s q v f. (f.receiver ∙ q.0, subst (Replies n) (sym f.message) q.1)) h))
  from_goes a n (stays h) = waits x (subst (λ (s : State). Has (IsAskOf a n) s.pending) (sym (state_at-itself w.states x (step (w.states x) i).state)) h)

  rests_on : (a : Id) (n : Number) → Contains ((after_step w e x i).states a).waiting n → Rests w a n → Rests (after_step w e x i) a n
  rests_on a n c (asked h) = elim (still (λ v. Asks a n v.message) g w e x i t h) [
    | inl same ↦ asked same
    | inr came ↦ from_goes a n (subst (λ j. Goes a n (step (w.states x) j)) (sym came.input)
        (came_goes a n (w.states x) came.envelope.sender came.envelope.message came.is))
  ]
  rests_on a n c (replied h) = elim (still (IsReplyTo a n) g w e x i t h) [
    | inl same ↦ replied same
    | inr came ↦
        let here : a ≡ x = sym came.is.0 ∙ came.receiver in
        let at_x : Contains (step (w.states x) i).state.waiting n =
        subst (λ (s : State). Contains s.waiting n) (state_at-itself w.states x (step (w.states x) i).state)
        (subst (λ z. Contains ((after_step w e x i).states z).waiting n) here c) in
        absurd (reply_waits_no_more (w.states x) came.envelope.sender came.envelope.message n came.is.1
        (subst (λ j. Contains (step (w.states x) j).state.waiting n) came.input at_x))
  ]
  rests_on a n c (waits y h) = elim (cases_eq y x) [
    | inl same ↦ from_goes a n (seat_stays a n (w.states x) i _ (step_seat (w.states x) i) refl (subst (λ z. Has (IsAskOf a n) (w.states z).pending) same h))
    | inr ne ↦ waits y (subst (λ (s : State). Has (IsAskOf a n) s.pending) (sym (state_at-other w.states x (step (w.states x) i).state y ne)) h)
  ]

  waiting_on : (a : Id) (n : Number) → Contains ((after_step w e x i).states a).waiting n → Waiting w a n → Waiting (after_step w e x i) a n
  waiting_on a n c b = record {
    what = b.what;
    request = b.request;
    commanded_here = was_commanded_later w e (after_step w e x i).states a n b.what b.commanded_here;
    rests = rests_on a n c b.rests;
  }

  waiting_new : (n : Number) → (w.states x).me ≡ x → IsAsked i n → Waiting (after_step w e x i) x n
  waiting_new n me h = by i refl h where
    by : (j : Input) → i ≡ j → IsAsked j n → Waiting (after_step w e x i) x n
    by (Command m d) is f = record {
      what = d;
      request = f.1;
      commanded_here = (e, Contains-push w.past e, was_commanded g w e x i t n d (is ∙ ap (λ z. Command z d) f.0));
      rests = from_goes x n (subst (λ j. Goes x n (step (w.states x) j)) (sym (is ∙ ap (λ z. Command z d) f.0))
          (subst (λ z. Goes z n (step (w.states x) (Command n d))) me (commanded_goes (w.states x) n d f.1)));
    }
    by (Comes from m) is f = absurd f
    by Noise is f = absurd f

  pub rests_keep : MessagesHold g w → RestsHold w → RestsHold (after_step w e x i)
  rests_keep h r = record {
    waiting = λ a n c. elim (cases_eq a x) [
      | inl same ↦
          let at_x : Contains (step (w.states x) i).state.waiting n =
          subst (λ (s : State). Contains s.waiting n) (state_at-itself w.states x (step (w.states x) i).state)
          (subst (λ z. Contains ((after_step w e x i).states z).waiting n) same c) in
          subst (λ z. Waiting (after_step w e x i) z n) (sym same) (elim (seat_waits (w.states x) i _ (step_seat (w.states x) i) refl n at_x) [
            | inl was ↦ waiting_on x n (subst (λ z. Contains ((after_step w e x i).states z).waiting n) same c) (r.waiting x n was)
            | inr new ↦ waiting_new n (h.me x) new
          ])
      | inr ne ↦ waiting_on a n c
          (r.waiting a n (subst (λ (s : State). Contains s.waiting n) (state_at-other w.states x (step (w.states x) i).state a ne) c))
    ];
  }

none_waits : (y : Id) (b : Bool) (n : Number) → Contains (start y b).waiting n → ⊥
none_waits y b n c = let lt = c.1 in absurd (omega arith)

pub rests_at_start : (g : Setting) → RestsHold (world_at_start g)
rests_at_start g = record { waiting = λ a n c. absurd (none_waits a (a == g.founder) n c) }
