-- A record of one entry: the founder is told to fetch a file that nobody has, and answers that it is nowhere.
use Rattle.std.proofs.Common.{◌≡◌, List, [], ◌∷◌, refl, sym, subst, ◌∙◌, arith}
use Rattle.ring_math.specs.Names.{FileId}
use Rattle.ring_math.specs.Ring.{cw_of, is_between, is_nearer}
use Rattle.coverage.specs.Coverage.{in_arcs}
use Rattle.wire_msg.specs.declared.command.Command.TheVariants as command
use Rattle.wire_msg.specs.declared.note.Note.{Note}
use Rattle.wire_msg.specs.declared.note.Note.TheVariants as note
use Rattle.wire_msg.specs.declared.reply.Reply.TheVariants as reply
use Rattle.wire_msg.specs.Words.{Envelope, FetchReply}
use Rattle.overlay_rules.specs.declared.entry.Event.TheVariants as event
use Rattle.overlay_rules.specs.declared.entry.Entry.{Entry}
use Rattle.overlay_rules.specs.Outcome.{Command}
use Rattle.overlay_rules.specs.Record.{Legal}
use Rattle.step_facts.specs.Setting.{setting}

abbrev pub fives : FileId
fives = 5 ∷ 5 ∷ 5 ∷ 5 ∷ 5 ∷ 5 ∷ 5 ∷ 5 ∷ 5 ∷ 5 ∷ 5 ∷ 5 ∷ 5 ∷ 5 ∷ 5 ∷ 5 ∷ 5 ∷ 5 ∷ 5 ∷ 5 ∷ []

abbrev pub answer : Envelope
answer = record { sender = 9; receiver = 9; stamp = 1; message = FetchReply 0 (reply.NotFound 9) }

first : List Envelope → List Note → Entry
first messages notes = record { event = event.Command 9 0 (command.Fetch fives); messages = messages; notes = notes }

one_entry : Legal (setting (7 ∷ (9 ∷ [])) 9) (first (answer ∷ []) (note.Answered 9 0 (reply.NotFound 9) ∷ []) ∷ [])
unfolding first cw_of is_between is_nearer in_arcs
one_entry = (
  record {
    at = record { node = 9; input = Command 0 (command.Fetch fives) };
    is_at = refl;
    member = (1, omega arith, refl);
    fresh = λ k d lt. absurd (omega arith);
    messages = refl;
    notes = refl;
  },
  tt,
)

pub founder_fetches : (es : List Entry) (messages : List Envelope) (notes : List Note) → messages ≡ answer ∷ [] →
    notes ≡ note.Answered 9 0 (reply.NotFound 9) ∷ [] →
    es ≡ record { event = event.Command 9 0 (command.Fetch fives); messages = messages; notes = notes } ∷ [] → Legal (setting (7 ∷ (9 ∷ [])) 9) es
unfolding first
founder_fetches es messages notes e f g = subst (Legal (setting (7 ∷ (9 ∷ [])) 9)) (sym (g ∙ (λ i. first (e i) (f i) ∷ []))) one_entry
