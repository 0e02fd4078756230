-- What is said to an insert, and what becomes of a state with that.
use Rattle.std.specs.Prelude.{◌≡◌, ◌⊎◌, ℕ, Bool, true, false, Option, Some, None, List, [], ◌∷◌}
use Rattle.ring_math.specs.Names.{Id, Number, FileId, Content}
use Rattle.ring_math.specs.Files.{Slot, with_slot}
use Rattle.ring_math.specs.declared.file.Held.{Held}
use Rattle.wire_msg.specs.declared.note.Note.{Note}
use Rattle.wire_msg.specs.declared.note.Note.TheVariants as note
use Rattle.wire_msg.specs.declared.reply.Reply.TheVariants as reply
use Rattle.wire_msg.specs.Words.{Replicate}
use Rattle.overlay_rules.specs.declared.request.Asked.TheVariants as asked
use Rattle.overlay_rules.specs.declared.request.Pending.{Pending}
use Rattle.overlay_rules.specs.State.{State}
use Rattle.overlay_rules.specs.Outcome.{Outcome, becomes, before, to_each, replied}
use Rattle.overlay_rules.specs.Roots.{with_ask, inserted, replicated, targets_of}
use Rattle.overlay_rules.specs.Replicas.{holding}
use Rattle.past_core.specs.declared.inserts.InsertStep.{InsertStep}
use Rattle.past_core.specs.declared.inserts.InsertWhat.{InsertWhat}
use Rattle.past_core.specs.declared.inserts.InsertWhat.TheVariants as what

-- the reply, or what is sent to each target; s is the state afterwards
abbrev pub said : State → Id → Number → FileId → Content → InsertWhat → Outcome
said s origin number file bytes what.Gone = replied s asked.Insert origin number (reply.Gone s.me)
said s origin number file bytes what.Collision = replied s asked.Insert origin number (reply.Collision s.me)
said s origin number file bytes (what.TooFew known) = replied s asked.Insert origin number (reply.TooFew s.me known)
said s origin number file bytes what.Full = replied s asked.Insert origin number (reply.Full s.me)
said s origin number file bytes (what.Stored holders) = replied s asked.Insert origin number (reply.Stored holders)
said s origin number file bytes (what.Replicate targets) = becomes s (to_each targets (Replicate origin number file bytes)) []

abbrev pub accepted_note : Bool → FileId → Content → List Note
accepted_note true file bytes = note.Accepted file bytes ∷ []
accepted_note false file bytes = []

abbrev pub insert_outcome : State → Id → Number → FileId → Content → InsertStep → Outcome
insert_outcome s origin number file bytes step =
    before [] (accepted_note step.accepted file bytes) (said s origin number file bytes step.what)

-- the file is held where it is accepted
abbrev pub files_where : Bool → List Held → FileId → Content → List Held
files_where true files file bytes = with_slot files file (Some bytes)
files_where false files file bytes = files

-- the insert that waits, where replicas are asked for
abbrev pub pending_of : Id → Number → FileId → InsertWhat → Option Pending
pending_of origin number file (what.Replicate targets) =
    Some (record { origin = origin; number = number; file = file; targets = targets; awaited = targets })
pending_of origin number file what.Gone = None
pending_of origin number file what.Collision = None
pending_of origin number file (what.TooFew known) = None
pending_of origin number file what.Full = None
pending_of origin number file (what.Stored holders) = None

abbrev pub with_added : List Pending → Option Pending → List Pending
with_added ps None = ps
with_added ps (Some p) = with_ask ps p

abbrev pub after_insert : State → Id → Number → FileId → Content → InsertStep → State
after_insert s origin number file bytes step =
    record s {
      files = files_where step.accepted s.files file bytes;
      pending = with_added s.pending (pending_of origin number file step.what);
    }

-- nothing refuses the insert: the file is held already, or it is put now
abbrev pub IsKept : State → Id → Number → FileId → ℕ → Content → Option Slot → Type 0
IsKept s origin number file copies bytes slot =
    (inserted s origin number file copies bytes slot ≡ replicated s origin number file bytes (targets_of s file copies))
    ⊎ (inserted s origin number file copies bytes slot
    ≡ before [] (note.Accepted file bytes ∷ []) (replicated (holding s file bytes) origin number file bytes (targets_of s file copies)))
