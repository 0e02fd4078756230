-- reclaim-alone: a file that was reclaimed is answered Gone, to a fetch and to a new insert, and can be reclaimed
-- again.
--
--     node A 10~
--     file f 66 - 0~ 616263
--     first A
--     insert A f 1
--     settle 5
--     reclaim A f
--     settle 5
--     fetch A f
--     insert A f 1
--     reclaim A f
--     settle 9
--
-- Here 10~ stands for 10 and thirty zeros, and 0~ for sixteen zeros.
use Rattle.std.specs.Prelude.{◌≡◌, refl, ℕ, List, [], ◌∷◌, ◌++◌, ◌*◌, ◌^◌}
use Rattle.ring_math.specs.Ring.{cw_of, is_between, is_nearer, shared_of}
use Rattle.coverage.specs.Coverage.{in_arcs}
use Rattle.wire_msg.specs.declared.command.Command.TheVariants as command
use Rattle.wire_msg.specs.declared.reply.Reply.TheVariants as reply
use Rattle.wire_msg.specs.declared.reply.Answer.TheVariants as answer
use Rattle.wire_msg.specs.declared.note.Note.TheVariants.{Answered, Closed, Reclaimed}
use Rattle.wire_msg.specs.Words.{InsertReply, FetchReply, ReclaimReply}
use Rattle.overlay_rules.specs.declared.entry.Entry.{Entry}
use Rattle.overlay_rules.specs.Record.{Setting}
use Rattle.overlay_rules.specs.Played.{Action, Command, Settle, played}
use Rattle.overlay_rules.proofs.ExampleText.{told, came, sent, stored_alone, f, content}

abbrev a : ℕ
a = 16 * 256 ^ 15

abbrev setting : Setting
setting = record { nodes = a ∷ []; founder = a }

abbrev actions : List Action
actions =
    Command a 1 (command.Insert f 1 content)
    ∷ Settle 5
    ∷ Command a 2 (command.Reclaim f)
    ∷ Settle 5
    ∷ Command a 3 (command.Fetch f)
    ∷ Command a 4 (command.Insert f 1 content)
    ∷ Command a 5 (command.Reclaim f)
    ∷ Settle 9
    ∷ []

abbrev entries : List Entry
entries =
    stored_alone a
    ++ told a 2 (command.Reclaim f) (sent 3 a a (ReclaimReply 2 (reply.Reclaimed a)) ∷ []) (Reclaimed f ∷ Answered a 2 (reply.Reclaimed a) ∷ [])
    ∷ came 1 [] (Closed 2 (answer.Reply (reply.Reclaimed a)) ∷ [])
    ∷ told a 3 (command.Fetch f) (sent 5 a a (FetchReply 3 (reply.Gone a)) ∷ []) (Answered a 3 (reply.Gone a) ∷ [])
    ∷ told a 4 (command.Insert f 1 content) (sent 6 a a (InsertReply 4 (reply.Gone a)) ∷ []) (Answered a 4 (reply.Gone a) ∷ [])
    ∷ told a 5 (command.Reclaim f) (sent 7 a a (ReclaimReply 5 (reply.Reclaimed a)) ∷ []) (Answered a 5 (reply.Reclaimed a) ∷ [])
    ∷ came 2 [] (Closed 3 (answer.Reply (reply.Gone a)) ∷ [])
    ∷ came 3 [] (Closed 4 (answer.Reply (reply.Gone a)) ∷ [])
    ∷ came 4 [] (Closed 5 (answer.Reply (reply.Reclaimed a)) ∷ [])
    ∷ []

computes : (played setting actions).world.past ≡ entries
unfolding cw_of is_between is_nearer shared_of in_arcs
computes = refl

skips : (played setting actions).skipped ≡ 0
unfolding cw_of is_between is_nearer shared_of in_arcs
skips = refl
