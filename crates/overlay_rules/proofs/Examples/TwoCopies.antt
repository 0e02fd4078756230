-- two-copies: an insert of two copies. The root sends a replica to the leaf nearest to the key, and answers Stored,
-- with both holders, once that leaf has acknowledged it.
--
--     file f 66 - 0~ 616263
--     node A @f
--     node B 10~
--     first A
--     join B A
--     settle 20
--     insert A f 2
--     settle 20
--     fetch B f
--     settle 20
--
-- Here 10~ stands for 10 and thirty zeros, and 0~ for sixteen zeros.
use Rattle.std.specs.Prelude.{◌≡◌, refl, ℕ, List, [], ◌∷◌, ◌++◌, ◌*◌, ◌^◌}
use Rattle.ring_math.specs.Ring.{cw_of, is_between, is_nearer, shared_of}
use Rattle.coverage.specs.Coverage.{in_arcs}
use Rattle.wire_msg.specs.declared.command.Command.TheVariants as command
use Rattle.wire_msg.specs.declared.reply.Reply.TheVariants as reply
use Rattle.wire_msg.specs.declared.reply.Answer.TheVariants as answer
use Rattle.wire_msg.specs.declared.note.Note.TheVariants.{Accepted, Answered, Closed}
use Rattle.wire_msg.specs.Words.{InsertReply, Fetch, FetchReply, Replicate}
use Rattle.wire_msg.specs.Words.{ReplicaAck}
use Rattle.overlay_rules.specs.declared.entry.Entry.{Entry}
use Rattle.overlay_rules.specs.Record.{Setting}
use Rattle.overlay_rules.specs.Played.{Action, Command, Settle, played}
use Rattle.overlay_rules.proofs.ExampleText.{told, came, sent, second_joined, f, content, key_of_f}

abbrev a : ℕ
a = key_of_f

abbrev b : ℕ
b = 16 * 256 ^ 15

abbrev setting : Setting
setting = record { nodes = a ∷ b ∷ []; founder = a }

abbrev actions : List Action
actions =
    Command b 1 (command.Join a)
    ∷ Settle 20
    ∷ Command a 2 (command.Insert f 2 content)
    ∷ Settle 20
    ∷ Command b 3 (command.Fetch f)
    ∷ Settle 20
    ∷ []

abbrev entries : List Entry
entries =
    second_joined a b
    ++ told a 2 (command.Insert f 2 content) (sent 10 a b (Replicate a 2 f content) ∷ []) (Accepted f content ∷ [])
    ∷ came 8 (sent 11 b a (ReplicaAck a 2 f) ∷ []) []
    ∷ came 9 (sent 12 a a (InsertReply 2 (reply.Stored (a ∷ b ∷ []))) ∷ []) (Answered a 2 (reply.Stored (a ∷ b ∷ [])) ∷ [])
    ∷ came 10 [] (Closed 2 (answer.Reply (reply.Stored (a ∷ b ∷ []))) ∷ [])
    ∷ told b 3 (command.Fetch f) (sent 14 b a (Fetch b 3 1 f) ∷ []) []
    ∷ came 11 (sent 15 a b (FetchReply 3 (reply.Found a content)) ∷ []) (Answered b 3 (reply.Found a content) ∷ [])
    ∷ came 12 [] (Closed 3 (answer.Reply (reply.Found a content)) ∷ [])
    ∷ []

computes : (played setting actions).world.past ≡ entries
unfolding cw_of is_between is_nearer shared_of in_arcs
computes = refl

skips : (played setting actions).skipped ≡ 0
unfolding cw_of is_between is_nearer shared_of in_arcs
skips = refl
