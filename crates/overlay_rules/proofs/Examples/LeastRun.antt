-- least-run: the founder, alone, covers every key: it delivers its own lookup in the step of the command, and the reply
-- to itself is a message all the same.
--
--     node A 10~
--     first A
--     lookup A ff~
--     settle 10
--
-- Here 10~ stands for 10 and thirty zeros.
use Rattle.std.specs.Prelude.{◌≡◌, refl, ℕ, List, [], ◌∷◌, ◌*◌, ◌^◌}
use Rattle.ring_math.specs.Ring.{cw_of, is_between, is_nearer, shared_of}
use Rattle.coverage.specs.Coverage.{in_arcs}
use Rattle.wire_msg.specs.declared.command.Command.TheVariants as command
use Rattle.wire_msg.specs.declared.reply.Reply.TheVariants as reply
use Rattle.wire_msg.specs.declared.reply.Answer.TheVariants as answer
use Rattle.wire_msg.specs.declared.note.Note.TheVariants.{Delivered, Answered, Closed}
use Rattle.wire_msg.specs.Words.{LookupReply}
use Rattle.overlay_rules.specs.declared.entry.Entry.{Entry}
use Rattle.overlay_rules.specs.Record.{Setting}
use Rattle.overlay_rules.specs.Played.{Action, Command, Settle, played}
use Rattle.overlay_rules.proofs.ExampleText.{told, came, sent}

abbrev a : ℕ
a = 16 * 256 ^ 15

abbrev key : ℕ
key = 255 * 256 ^ 15

abbrev setting : Setting
setting = record { nodes = a ∷ []; founder = a }

abbrev actions : List Action
actions =
    Command a 1 (command.Lookup key)
    ∷ Settle 10
    ∷ []

abbrev entries : List Entry
entries =
    told a 1 (command.Lookup key) (sent 1 a a (LookupReply 1 (reply.Delivered a 0)) ∷ []) (Delivered a 1 key 0 ∷ Answered a 1 (reply.Delivered a 0) ∷ [])
    ∷ came 0 [] (Closed 1 (answer.Reply (reply.Delivered a 0)) ∷ [])
    ∷ []

computes : (played setting actions).world.past ≡ entries
unfolding cw_of is_between is_nearer shared_of in_arcs
computes = refl

skips : (played setting actions).skipped ≡ 0
unfolding cw_of is_between is_nearer shared_of in_arcs
skips = refl
