-- A record of two entries, which is quiet: the founder is told to fetch a file that nobody has, answers itself, and takes the answer.
use Rattle.std.proofs.Common.{◌≡◌, List, [], ◌∷◌, refl, sym, subst, ◌∙◌, arith}
use Rattle.ring_math.specs.Names.{FileId}
use Rattle.ring_math.specs.Ring.{cw_of, is_between, is_nearer}
use Rattle.coverage.specs.Coverage.{in_arcs}
use Rattle.wire_msg.specs.declared.command.Command.TheVariants as command
use Rattle.wire_msg.specs.declared.note.Note.{Note}
use Rattle.wire_msg.specs.declared.note.Note.TheVariants as note
use Rattle.wire_msg.specs.declared.reply.Answer.TheVariants as answer
use Rattle.wire_msg.specs.declared.reply.Reply.TheVariants as reply
use Rattle.wire_msg.specs.Words.{Envelope, FetchReply}
use Rattle.overlay_rules.specs.declared.entry.Event.TheVariants as event
use Rattle.overlay_rules.specs.declared.entry.Entry.{Entry}
use Rattle.overlay_rules.specs.Outcome.{Command, Comes}
use Rattle.overlay_rules.specs.Record.{Legal}
use Rattle.step_facts.specs.Setting.{setting}

abbrev pub fives : FileId
fives = 5 ∷ 5 ∷ 5 ∷ 5 ∷ 5 ∷ 5 ∷ 5 ∷ 5 ∷ 5 ∷ 5 ∷ 5 ∷ 5 ∷ 5 ∷ 5 ∷ 5 ∷ 5 ∷ 5 ∷ 5 ∷ 5 ∷ 5 ∷ []

abbrev pub reply_sent : Envelope
reply_sent = record { sender = 9; receiver = 9; stamp = 1; message = FetchReply 0 (reply.NotFound 9) }

asks : List Envelope → List Note → Entry
asks messages notes = record { event = event.Command 9 0 (command.Fetch fives); messages = messages; notes = notes }

takes : List Envelope → List Note → Entry
takes messages notes = record { event = event.Deliver 0; messages = messages; notes = notes }

two_entries : Legal (setting (7 ∷ (9 ∷ [])) 9)
    (asks (reply_sent ∷ []) (note.Answered 9 0 (reply.NotFound 9) ∷ []) ∷ (takes [] (note.Closed 0 (answer.Reply (reply.NotFound 9)) ∷ []) ∷ []))
unfolding asks takes cw_of is_between is_nearer in_arcs
two_entries = (
  record {
    at = record { node = 9; input = Command 0 (command.Fetch fives) };
    is_at = refl;
    member = (1, omega arith, refl);
    fresh = λ k d lt. absurd (omega arith);
    messages = refl;
    notes = refl;
  },
  (
    record {
      at = record { node = 9; input = Comes 9 (FetchReply 0 (reply.NotFound 9)) };
      is_at = refl;
      member = (1, omega arith, refl);
      fresh = tt;
      messages = refl;
      notes = refl;
    },
    tt,
  ),
)

pub founder_takes : (es : List Entry) (sent none : List Envelope) (answered closed : List Note) → sent ≡ reply_sent ∷ [] →
    answered ≡ note.Answered 9 0 (reply.NotFound 9) ∷ [] → none ≡ [] → closed ≡ note.Closed 0 (answer.Reply (reply.NotFound 9)) ∷ [] →
    es ≡ record { event = event.Command 9 0 (command.Fetch fives); messages = sent; notes = answered }
    ∷ (record { event = event.Deliver 0; messages = none; notes = closed } ∷ []) →
    Legal (setting (7 ∷ (9 ∷ [])) 9) es
unfolding asks takes
founder_takes es sent none answered closed e f h k g =
    subst (Legal (setting (7 ∷ (9 ∷ [])) 9)) (sym (g ∙ (λ i. asks (e i) (f i) ∷ (takes (h i) (k i) ∷ [])))) two_entries
