-- What is kept of the entries so far: nodes that stand for the states after them, and the numbers of their commands.
use Rattle.std.specs.Prelude.{◌≡◌, Option, Some, None, List, [], ◌∷◌, ◌++◌, map}
use Rattle.ring_math.specs.Names.{Id}
use Rattle.wire_msg.specs.declared.message.Envelope.{Envelope as CodeEnvelope}
use Rattle.wire_msg.specs.declared.note.Note.{Note}
use Rattle.wire_msg.specs.Words.{Envelope, plain_envelope}
use Rattle.overlay_rules.specs.declared.entry.Event.{Event}
use Rattle.overlay_rules.specs.declared.entry.Entry.{Entry}
use Rattle.overlay_rules.specs.State.{State}
use Rattle.overlay_rules.specs.Outcome.{Input, Outcome}
use Rattle.overlay_rules.specs.Step.{step}
use Rattle.overlay_rules.specs.Record.{Setting, Follows, enveloped, run, state_at, unstamped, world_at_start}
use Rattle.world_model.specs.Cells.{AllStand, ids_of}
use Rattle.trace_check.specs.declared.replay.Replay.{Replay}
use Rattle.trace_check.specs.declared.verdict.Part.{Part}
use Rattle.trace_check.specs.declared.verdict.Part.TheVariants as part
use Rattle.trace_check.specs.Numbers.{AreNumbersOf}
use Rattle.trace_check.specs.Verdicts.{IsWrongIn}

pub record IsReplay (a : Replay) (g : Setting) (past : List Entry) : Type 0 where
  pub ids : ids_of a.cells ≡ g.nodes
  pub stand : AllStand a.cells (run (world_at_start g) past).states
  pub numbers : AreNumbersOf a.numbers past

-- one entry more: it follows and is replayed, or this part of it is wrong
abbrev pub IsReplayedOrWrong : Replay → Setting → List Entry → Entry → Option Part → Type 0
IsReplayedOrWrong a g past e None = Follows g (run (world_at_start g) past) e × IsReplay a g (past ++ e ∷ [])
IsReplayedOrWrong a g past e (Some p) = IsWrongIn g (run (world_at_start g) past) e p

-- an entry as the code reads it
abbrev pub entry_with : Event → List CodeEnvelope → List Note → Entry
entry_with v messages notes = record { event = v; messages = map plain_envelope messages; notes = notes }

-- these are the messages of this outcome, sent by node x
abbrev pub AreSent : Id → Outcome → List Envelope → Type 0
AreSent x o messages = map unstamped messages ≡ map (enveloped 0 x) o.sends

-- the step of node x in these states sends these messages and makes these notes, and is made; or the part that differs
abbrev pub IsStepped : Replay → (Id → State) → Id → Input → List Envelope → List Note → Option Part → Type 0
IsStepped a states x i messages notes None =
    AreSent x (step (states x) i) messages × (notes ≡ (step (states x) i).notes) × AllStand a.cells (state_at states x (step (states x) i).state)
IsStepped a states x i messages notes (Some part.Event) = ⊥
IsStepped a states x i messages notes (Some part.Sent) = ¬ AreSent x (step (states x) i) messages
IsStepped a states x i messages notes (Some part.Notes) = AreSent x (step (states x) i) messages × (¬ (notes ≡ (step (states x) i).notes))
