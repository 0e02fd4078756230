-- A reclaim is said by its messages and notes.
use Rattle.std.proofs.Common.{◌≡◌, ℕ, List, ◌++◌, refl, sym, ap, ◌∙◌, subst}
use Rattle.wire_msg.specs.declared.note.Note.{Note}
use Rattle.wire_msg.specs.declared.reply.Reply.{Reply}
use Rattle.wire_msg.specs.declared.reply.Reply.TheVariants as reply
use Rattle.overlay_rules.specs.declared.request.Asked.TheVariants as asked
use Rattle.overlay_rules.specs.State.{State}
use Rattle.overlay_rules.specs.Outcome.{Outcome, Sent, before, replied}
use Rattle.past_core.specs.declared.reclaims.ReclaimStep.{ReclaimStep}
use Rattle.past_core.specs.declared.reclaims.ReclaimWhat.{ReclaimWhat}
use Rattle.past_core.specs.declared.reclaims.ReclaimWhat.TheVariants as what
use Rattle.past_core.specs.Replied.{replied_asks}
use Rattle.past_core.specs.Reclaims.{reclaim_reply, reclaim_note, reclaim_outcome, after_reclaim}

pub me-after : (s : State) (f : List ℕ) (w : ReclaimWhat) → (after_reclaim s f w).me ≡ s.me
me-after s f what.NotFound = refl
me-after s f what.Already = refl
me-after s f what.Reclaimed = refl

abbrev said_by : State → ℕ → ℕ → List Sent → List Note → Reply → Outcome
said_by t o n messages notes r = before messages notes (replied t asked.Reclaim o n r)

pub reclaim-outcome : (P : Outcome → Type 0) (t : State) (me o n : ℕ) (f : List ℕ) (step : ReclaimStep) (messages : List Sent) (notes : List Note) (r : Reply) →
    t.me ≡ me → messages ≡ (replied_asks t (reply.Gone me) step.ended).sends →
    notes ≡ reclaim_note f step.what ++ (replied_asks t (reply.Gone me) step.ended).notes → r ≡ reclaim_reply me step.what →
    P (before messages notes (replied t asked.Reclaim o n r)) → P (reclaim_outcome t o n f step)
reclaim-outcome P t me o n f step messages notes r e ms ns rs x =
    subst P
    (ap (λ (z : List Sent). said_by t o n z notes r) ms
    ∙ ap (λ (z : List Note). said_by t o n (replied_asks t (reply.Gone me) step.ended).sends z r) ns
    ∙ ap (λ (z : Reply). said_by t o n (replied_asks t (reply.Gone me) step.ended).sends
    (reclaim_note f step.what ++ (replied_asks t (reply.Gone me) step.ended).notes) z) rs
    ∙ ap (λ (m : ℕ). said_by t o n (replied_asks t (reply.Gone m) step.ended).sends
    (reclaim_note f step.what ++ (replied_asks t (reply.Gone m) step.ended).notes) (reclaim_reply m step.what)) (sym e))
    x
