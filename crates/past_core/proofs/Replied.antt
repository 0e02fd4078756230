-- Inserts that are over are replied by their commands alone.
use Rattle.std.proofs.Common.{◌≡◌, List, [], ◌∷◌, map, refl, ap}
use Rattle.wire_msg.specs.declared.note.Note.TheVariants as note
use Rattle.wire_msg.specs.declared.reply.Reply.{Reply}
use Rattle.wire_msg.specs.Words.{InsertReply}
use Rattle.overlay_rules.specs.declared.request.Pending.{Pending}
use Rattle.overlay_rules.specs.State.{State}
use Rattle.overlay_rules.specs.Outcome.{Outcome, sent, before}
use Rattle.overlay_rules.specs.Roots.{replied_each}
use Rattle.past_core.specs.Waits.{ask_of}
use Rattle.past_core.specs.Replied.{replied_asks}

pub replied-asks : (s : State) (r : Reply) (ps : List Pending) → replied_each s r ps ≡ replied_asks s r (map ask_of ps)
replied-asks s r [] = refl
replied-asks s r (p ∷ ps) =
    ap (λ (o : Outcome). before (sent p.origin (InsertReply p.number r) ∷ []) (note.Answered p.origin p.number r ∷ []) o) (replied-asks s r ps)
