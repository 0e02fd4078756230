-- The row of a reclaim where bytes are held.
use Rattle.std.proofs.Common.{◌≡◌, ℕ, Bool, true, false, Option, Some, None, List, ◌∷◌, map, filter, refl, sym, ap, ◌∙◌}
use Rattle.ring_math.specs.Files.{Slot, is_entry}
use Rattle.file_store.specs.declared.answer.Bury.TheVariants as bury
use Rattle.file_store.specs.Answers.{bury_at}
use Rattle.wire_msg.specs.declared.reply.Reply.TheVariants as reply
use Rattle.overlay_rules.specs.declared.request.Asked.TheVariants as asked
use Rattle.wire_msg.specs.declared.note.Note.TheVariants as note
use Rattle.overlay_rules.specs.State.{State}
use Rattle.overlay_rules.specs.Outcome.{Outcome, before, replied}
use Rattle.overlay_rules.specs.Roots.{is_of, emptied, reclaimed}
use Rattle.past_core.specs.Waits.{ask_of}
use Rattle.past_core.specs.declared.reclaims.ReclaimWhat.TheVariants as what
use Rattle.past_core.specs.Replied.{replied_asks}
use Rattle.past_core.specs.Reclaims.{reclaim_outcome}
use Rattle.past_core.proofs.Replied.{replied-asks}

pub row-buried : (s : State) (origin number : ℕ) (file : List ℕ) (slot : Option Slot) (room : Bool) (ended : List (ℕ × ℕ)) → bury_at slot room ≡ bury.Buried →
    ended ≡ map ask_of (filter (is_of file) s.pending) →
    reclaimed s origin number file slot ≡ reclaim_outcome (emptied s file) origin number file (record { what = what.Reclaimed; ended = ended })
row-buried s origin number file None true ended e is = cc
row-buried s origin number file None false ended e is = cc
row-buried s origin number file (Some None) room ended e is = cc
row-buried s origin number file (Some (Some bytes)) room ended e is =
    ap (λ (o : Outcome). before o.sends (note.Reclaimed file ∷ o.notes) (replied (emptied s file) asked.Reclaim origin number (reply.Reclaimed s.me)))
    (replied-asks (emptied s file) (reply.Gone s.me) (filter (is_of file) s.pending) ∙ ap (replied_asks (emptied s file) (reply.Gone s.me)) (sym is))

pub entry-buried : (slot : Option Slot) (room : Bool) → bury_at slot room ≡ bury.Buried → is_entry slot ≡ true
entry-buried None true e = cc
entry-buried None false e = cc
entry-buried (Some slot) room e = refl
