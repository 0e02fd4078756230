-- What is sent and noted of inserts that are over, and of a replica.
use Rattle.std.specs.Prelude.{Bool, true, false, List, [], ◌∷◌}
use Rattle.ring_math.specs.Names.{Id, Number, FileId}
use Rattle.wire_msg.specs.declared.note.Note.TheVariants as note
use Rattle.wire_msg.specs.declared.reply.Reply.{Reply}
use Rattle.wire_msg.specs.Words.{InsertReply}
use Rattle.overlay_rules.specs.State.{State}
use Rattle.overlay_rules.specs.Outcome.{Outcome, nothing, sent, before}
use Rattle.overlay_rules.specs.Replicas.{acknowledged}

abbrev pub replied_asks : State → Reply → List (Id × Number) → Outcome
replied_asks s r [] = nothing s
replied_asks s r (a ∷ rest) = before (sent a.0 (InsertReply a.1 r) ∷ []) (note.Answered a.0 a.1 r ∷ []) (replied_asks s r rest)

-- a replica is acknowledged where the file is held with its bytes; s is the state afterwards
abbrev pub replica_outcome : State → Id → Id → Number → FileId → Bool → Outcome
replica_outcome s from origin number file true = acknowledged s from origin number file
replica_outcome s from origin number file false = nothing s
