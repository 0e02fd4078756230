-- A record of one entry: the founder is told to join, and answers that it has.
use Rattle.std.proofs.Common.{◌≡◌, ◌<◌, ◌^◌, List, [], ◌∷◌, refl, sym, subst, ◌∙◌, arith}
use Rattle.wire_msg.specs.declared.command.Command.TheVariants as command
use Rattle.wire_msg.specs.declared.note.Note.{Note}
use Rattle.wire_msg.specs.declared.note.Note.TheVariants as note
use Rattle.wire_msg.specs.declared.reply.Answer.TheVariants as answer
use Rattle.wire_msg.specs.declared.reply.Own.TheVariants as own
use Rattle.wire_msg.specs.Words.{Envelope}
use Rattle.overlay_rules.specs.declared.entry.Event.TheVariants as event
use Rattle.overlay_rules.specs.declared.entry.Entry.{Entry}
use Rattle.overlay_rules.specs.Outcome.{Command}
use Rattle.overlay_rules.specs.Record.{IsSetting, Legal}
use Rattle.overlay_rules.proofs.Each.{Each-all}
use Rattle.step_facts.specs.Setting.{setting}

first : List Envelope → List Note → Entry
first messages notes = record { event = event.Command 9 0 (command.Join 7); messages = messages; notes = notes }

pub two_nodes : IsSetting (setting (7 ∷ (9 ∷ [])) 9)
two_nodes = record { in_ring = Each-all (λ x. x < 2 ^ 128) (7 ∷ (9 ∷ [])) (omega arith, (omega arith, tt)); differ = refl; founder = (1, omega arith, refl) }

one_entry : Legal (setting (7 ∷ (9 ∷ [])) 9) (first [] (note.Closed 0 (answer.Stopped 9 own.Already) ∷ []) ∷ [])
unfolding first
one_entry = (
  record {
    at = record { node = 9; input = Command 0 (command.Join 7) };
    is_at = refl;
    member = (1, omega arith, refl);
    fresh = λ k d lt. absurd (omega arith);
    messages = refl;
    notes = refl;
  },
  tt,
)

pub founder_is_told : (es : List Entry) (messages : List Envelope) (notes : List Note) → messages ≡ [] →
    notes ≡ note.Closed 0 (answer.Stopped 9 own.Already) ∷ [] →
    es ≡ record { event = event.Command 9 0 (command.Join 7); messages = messages; notes = notes } ∷ [] → Legal (setting (7 ∷ (9 ∷ [])) 9) es
unfolding first
founder_is_told es messages notes e f g = subst (Legal (setting (7 ∷ (9 ∷ [])) 9)) (sym (g ∙ (λ i. first (e i) (f i) ∷ []))) one_entry
