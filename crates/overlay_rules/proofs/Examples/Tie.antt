-- tie: a key at the middle of an arc goes to the node counterclockwise of it, the next key to the other one.
--
--     node A 10~
--     node B 30~
--     first A
--     join B A
--     settle 20
--     lookup B 20~
--     lookup B 20~1
--     settle 20
--
-- Here 10~ stands for 10 and thirty zeros, and 20~1 for 20, twenty-nine zeros and 1.
use Rattle.std.specs.Prelude.{◌≡◌, refl, ℕ, List, [], ◌∷◌, ◌++◌, ◌*◌, ◌+◌, ◌^◌}
use Rattle.ring_math.specs.Ring.{cw_of, is_between, is_nearer, shared_of}
use Rattle.coverage.specs.Coverage.{in_arcs}
use Rattle.wire_msg.specs.declared.command.Command.TheVariants as command
use Rattle.wire_msg.specs.declared.reply.Reply.TheVariants as reply
use Rattle.wire_msg.specs.declared.reply.Answer.TheVariants as answer
use Rattle.wire_msg.specs.declared.note.Note.TheVariants.{Delivered, Answered, Closed}
use Rattle.wire_msg.specs.Words.{Lookup, LookupReply}
use Rattle.overlay_rules.specs.declared.entry.Entry.{Entry}
use Rattle.overlay_rules.specs.Record.{Setting}
use Rattle.overlay_rules.specs.Played.{Action, Command, Settle, played}
use Rattle.overlay_rules.proofs.ExampleText.{told, came, sent, second_joined}

abbrev a : ℕ
a = 16 * 256 ^ 15

abbrev b : ℕ
b = 48 * 256 ^ 15

abbrev middle : ℕ
middle = 32 * 256 ^ 15

abbrev beyond : ℕ
beyond = 32 * 256 ^ 15 + 1

abbrev setting : Setting
setting = record { nodes = a ∷ b ∷ []; founder = a }

abbrev actions : List Action
actions =
    Command b 1 (command.Join a)
    ∷ Settle 20
    ∷ Command b 2 (command.Lookup middle)
    ∷ Command b 3 (command.Lookup beyond)
    ∷ Settle 20
    ∷ []

abbrev entries : List Entry
entries =
    second_joined a b
    ++ told b 2 (command.Lookup middle) (sent 10 b a (Lookup b 2 middle 1) ∷ []) []
    ∷ told b 3 (command.Lookup beyond) (sent 11 b b (LookupReply 3 (reply.Delivered b 0)) ∷ [])
    (Delivered b 3 beyond 0 ∷ Answered b 3 (reply.Delivered b 0) ∷ [])
    ∷ came 8 (sent 12 a b (LookupReply 2 (reply.Delivered a 1)) ∷ []) (Delivered b 2 middle 1 ∷ Answered b 2 (reply.Delivered a 1) ∷ [])
    ∷ came 9 [] (Closed 3 (answer.Reply (reply.Delivered b 0)) ∷ [])
    ∷ came 10 [] (Closed 2 (answer.Reply (reply.Delivered a 1)) ∷ [])
    ∷ []

computes : (played setting actions).world.past ≡ entries
unfolding cw_of is_between is_nearer shared_of in_arcs
computes = refl

skips : (played setting actions).skipped ≡ 0
unfolding cw_of is_between is_nearer shared_of in_arcs
skips = refl
