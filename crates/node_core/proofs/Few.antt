-- An insert waits for no more replicas than there can be targets, since it asks for no more copies than there can be; a step keeps that.
use Rattle.std.proofs.Common.{◌≤◌, [], Contains, length, refl, arith}
use Rattle.ring_math.specs.Names.{Id, Key, Number, Hops}
use Rattle.wire_msg.specs.Words.{Insert, Replicate}
use Rattle.wire_msg.specs.declared.command.Command.{Command as NodeCommand}
use Rattle.wire_msg.specs.declared.command.Command.TheVariants as command
use Rattle.wire_msg.specs.declared.limits.TheConstants.{MOST_COPIES, MOST_TARGETS}
use Rattle.overlay_rules.specs.declared.request.Pending.{Pending}
use Rattle.overlay_rules.specs.State.{State}
use Rattle.overlay_rules.specs.Outcome.{Input, Command, Comes}
use Rattle.overlay_rules.specs.Step.{step}
use Rattle.overlay_rules.proofs.Each.{Each-contains, Each-itself, Each-weaker}
use Rattle.overlay_rules.proofs.SeatStep.{step_seat}
use Rattle.step_facts.proofs.Requests.{AsksFor, InputCarries, Requested, seat_requested}
use Rattle.node_core.specs.Inputs.{InputIsInRange}

-- a command asks for no more copies than there can be
abbrev AsksFew : Id → Number → NodeCommand → Type 0
AsksFew o n (command.Insert f copies b) = copies ≤ MOST_COPIES
AsksFew o n (command.Join via) = Unit {0}
AsksFew o n (command.Lookup key) = Unit {0}
AsksFew o n (command.Fetch f) = Unit {0}
AsksFew o n command.GiveUp = Unit {0}
AsksFew o n (command.Reclaim f) = Unit {0}

-- of a lookup on its way nothing is asked
abbrev Anything : Id → Id → Number → Key → Hops → Type 0
Anything to o n key hops = Unit {0}

input_asks : (me : Id) (i : Input) → InputIsInRange i → InputCarries AsksFew Anything me i
input_asks me (Comes from (Insert o n hops f copies b)) h = h.1
input_asks me (Comes from (Replicate o n f b)) h = (0, omega arith)
input_asks me (Command n (command.Insert f copies b)) h = h
input_asks me _ h = tt

asked : (p : Pending) → length p.targets ≤ MOST_TARGETS → AsksFor AsksFew p
asked p h = record { copies = MOST_COPIES; bytes = []; asked = omega arith; few = h }

targets_few : (p : Pending) → AsksFor AsksFew p → length p.targets ≤ MOST_TARGETS
targets_few p a = let most = a.asked in let few = a.few in omega arith

pub step_few : (s : State) (i : Input) → InputIsInRange i → ((p : Pending) → Contains s.pending p → length p.targets ≤ MOST_TARGETS) →
    (p : Pending) → Contains (step s i).state.pending p → length p.targets ≤ MOST_TARGETS
step_few s i h old p c = targets_few p (Each-contains (AsksFor AsksFew) (step s i).state.pending p asks.pending c) where
  asks : Requested AsksFew Anything s (step s i)
  asks = seat_requested AsksFew Anything s i (step s i) (step_seat s i) refl (record { next = λ o n key hops y a w. tt }) (input_asks s.me i h)
      (Each-weaker (Contains s.pending) (AsksFor AsksFew) s.pending (λ q d. asked q (old q d)) (Each-itself s.pending))
