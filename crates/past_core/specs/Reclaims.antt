-- What is said to a reclaim, and what becomes of a state with that.
use Rattle.std.specs.Prelude.{List, [], ◌∷◌, ◌++◌}
use Rattle.ring_math.specs.Names.{Id, Number, FileId}
use Rattle.wire_msg.specs.declared.note.Note.{Note}
use Rattle.wire_msg.specs.declared.note.Note.TheVariants as note
use Rattle.wire_msg.specs.declared.reply.Reply.{Reply}
use Rattle.wire_msg.specs.declared.reply.Reply.TheVariants as reply
use Rattle.overlay_rules.specs.declared.request.Asked.TheVariants as asked
use Rattle.overlay_rules.specs.State.{State}
use Rattle.overlay_rules.specs.Outcome.{Outcome, before, replied}
use Rattle.overlay_rules.specs.Roots.{emptied}
use Rattle.past_core.specs.declared.reclaims.ReclaimStep.{ReclaimStep}
use Rattle.past_core.specs.declared.reclaims.ReclaimWhat.{ReclaimWhat}
use Rattle.past_core.specs.declared.reclaims.ReclaimWhat.TheVariants as what
use Rattle.past_core.specs.Replied.{replied_asks}

abbrev pub reclaim_reply : Id → ReclaimWhat → Reply
reclaim_reply me what.NotFound = reply.NotFound me
reclaim_reply me what.Already = reply.Reclaimed me
reclaim_reply me what.Reclaimed = reply.Reclaimed me

abbrev pub reclaim_note : FileId → ReclaimWhat → List Note
reclaim_note file what.Reclaimed = note.Reclaimed file ∷ []
reclaim_note file what.NotFound = []
reclaim_note file what.Already = []

-- the inserts that are over are replied Gone, and then the reclaim; s is the state afterwards
abbrev pub reclaim_outcome : State → Id → Number → FileId → ReclaimStep → Outcome
reclaim_outcome s origin number file step =
    let ended : Outcome = replied_asks s (reply.Gone s.me) step.ended in
    before ended.sends (reclaim_note file step.what ++ ended.notes)
    (replied s asked.Reclaim origin number (reclaim_reply s.me step.what))

abbrev pub after_reclaim : State → FileId → ReclaimWhat → State
after_reclaim s file what.Reclaimed = emptied s file
after_reclaim s file what.NotFound = s
after_reclaim s file what.Already = s
