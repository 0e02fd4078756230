-- What an acknowledgement makes of a state, by what it is for.
use Rattle.std.specs.Prelude.{◌<◌, ℕ, Option, Some, None, List, ◌∷◌, slice_get}
use Rattle.ring_math.specs.Names.{Id, Number}
use Rattle.wire_msg.specs.declared.reply.Reply.TheVariants as reply
use Rattle.overlay_rules.specs.declared.request.Asked.TheVariants as asked
use Rattle.overlay_rules.specs.declared.request.Pending.{Pending}
use Rattle.overlay_rules.specs.State.{State}
use Rattle.overlay_rules.specs.Outcome.{Outcome, nothing, replied}
use Rattle.past_core.specs.declared.acks.Ack.{Ack}
use Rattle.past_core.specs.declared.acks.Ack.TheVariants as ack
use Rattle.past_core.specs.Waits.{taken_out, heard_at}

-- the insert at this place is stored
abbrev pub stored_at : State → Id → Number → ℕ → Option Pending → Outcome
stored_at s origin number place None = nothing s
stored_at s origin number place (Some p) =
    replied (record s { pending = taken_out s.pending place }) asked.Insert origin number (reply.Stored (s.me ∷ p.targets))

abbrev pub acked : State → Id → Number → Ack → Outcome
acked s origin number ack.Unknown = nothing s
acked s origin number (ack.Heard place awaited) = nothing (record s { pending = heard_at s.pending place awaited })
acked s origin number (ack.Last place) = stored_at s origin number place (slice_get s.pending place)

-- the place is one of so many
abbrev pub IsWithin : ℕ → Ack → Type 0
IsWithin count ack.Unknown = Unit {0}
IsWithin count (ack.Heard place awaited) = place < count
IsWithin count (ack.Last place) = place < count

-- what is said once the last acknowledgement is in: these hold the file beside the root
abbrev pub ack_outcome : State → Id → Number → Option (List Id) → Outcome
ack_outcome s origin number None = nothing s
ack_outcome s origin number (Some targets) = replied s asked.Insert origin number (reply.Stored (s.me ∷ targets))
