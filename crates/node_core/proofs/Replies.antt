-- The row of a reply, by whether its number waits.
use Rattle.std.proofs.Common.{◌≡◌, ℕ, Bool, true, false, not, ◌==◌, if◌then◌else◌, [], ◌∷◌, filter, sym, subst}
use Rattle.ring_math.specs.Sides.{is_in}
use Rattle.wire_msg.specs.declared.note.Note.TheVariants as note
use Rattle.wire_msg.specs.declared.reply.Answer.TheVariants as answer
use Rattle.wire_msg.specs.declared.reply.Reply.{Reply}
use Rattle.overlay_rules.specs.State.{State}
use Rattle.overlay_rules.specs.Outcome.{Outcome, nothing, becomes}
use Rattle.overlay_rules.specs.Replicas.{on_reply}

abbrev closed : State → ℕ → Reply → Outcome
closed s n r = becomes (record s { waiting = filter (λ m. not (m == n)) s.waiting }) [] (note.Closed n (answer.Reply r) ∷ [])

pub reply-waits : (P : Outcome → Type 0) (s : State) (n : ℕ) (r : Reply) → is_in s.waiting n ≡ true →
    P (becomes (record s { waiting = filter (λ m. not (m == n)) s.waiting }) [] (note.Closed n (answer.Reply r) ∷ [])) → P (on_reply s n r)
reply-waits P s n r e x = subst (λ (b : Bool). P (if b then closed s n r else nothing s)) (sym e) x

pub reply-late : (P : Outcome → Type 0) (s : State) (n : ℕ) (r : Reply) → is_in s.waiting n ≡ false → P (nothing s) → P (on_reply s n r)
reply-late P s n r e x = subst (λ (b : Bool). P (if b then closed s n r else nothing s)) (sym e) x
