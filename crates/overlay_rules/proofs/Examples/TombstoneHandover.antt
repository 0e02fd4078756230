-- tombstone-handover: a tombstone goes to the file's new root in the Grant, with no Handover; that root then answers
-- Gone.
--
--     file f 66 - 0~ 616263
--     node A 10~
--     node C @f
--     first A
--     insert A f 1
--     settle 5
--     reclaim A f
--     settle 5
--     join C A
--     settle 20
--     fetch A f
--     settle 20
--
-- Here 10~ stands for 10 and thirty zeros, and 0~ for sixteen zeros.
use Rattle.std.specs.Prelude.{◌≡◌, refl, ℕ, List, [], ◌∷◌, ◌++◌, ◌*◌, ◌^◌}
use Rattle.ring_math.specs.Ring.{cw_of, is_between, is_nearer, shared_of}
use Rattle.coverage.specs.Coverage.{in_arcs}
use Rattle.wire_msg.specs.declared.command.Command.TheVariants as command
use Rattle.wire_msg.specs.declared.reply.Reply.TheVariants as reply
use Rattle.wire_msg.specs.declared.reply.Answer.TheVariants as answer
use Rattle.wire_msg.specs.declared.note.Note.TheVariants.{Answered, Closed, Reclaimed}
use Rattle.wire_msg.specs.Words.{Fetch, FetchReply, JoinRequest, JoinReply, Probe, ProbeReply, LeaseRequest, Grant, Confirm, Announce}
use Rattle.wire_msg.specs.Words.{ReclaimReply}
use Rattle.overlay_rules.specs.declared.entry.Entry.{Entry}
use Rattle.overlay_rules.specs.Record.{Setting}
use Rattle.overlay_rules.specs.Played.{Action, Command, Settle, played}
use Rattle.overlay_rules.proofs.ExampleText.{told, came, sent, stored_alone, f, content, key_of_f}

abbrev a : ℕ
a = 16 * 256 ^ 15

abbrev c : ℕ
c = key_of_f

abbrev setting : Setting
setting = record { nodes = a ∷ c ∷ []; founder = a }

abbrev actions : List Action
actions =
    Command a 1 (command.Insert f 1 content)
    ∷ Settle 5
    ∷ Command a 2 (command.Reclaim f)
    ∷ Settle 5
    ∷ Command c 3 (command.Join a)
    ∷ Settle 20
    ∷ Command a 4 (command.Fetch f)
    ∷ Settle 20
    ∷ []

abbrev entries : List Entry
entries =
    stored_alone a
    ++ told a 2 (command.Reclaim f) (sent 3 a a (ReclaimReply 2 (reply.Reclaimed a)) ∷ []) (Reclaimed f ∷ Answered a 2 (reply.Reclaimed a) ∷ [])
    ∷ came 1 [] (Closed 2 (answer.Reply (reply.Reclaimed a)) ∷ [])
    ∷ told c 3 (command.Join a) (sent 5 c a (JoinRequest c 1 0) ∷ []) []
    ∷ came 2 (sent 6 a c (JoinReply 1 (a ∷ [])) ∷ []) []
    ∷ came 3 (sent 7 c a (Probe 1) ∷ []) []
    ∷ came 4 (sent 8 a c (ProbeReply 1 (a ∷ [])) ∷ []) []
    ∷ came 5 (sent 9 c a (LeaseRequest 1 a a) ∷ []) []
    ∷ came 6 (sent 10 a c (Grant 1 [] (f ∷ [])) ∷ []) []
    ∷ came 7 (sent 11 c a (Confirm 1) ∷ sent 11 c a Announce ∷ []) (Closed 3 (answer.Joined a a) ∷ [])
    ∷ came 8 [] []
    ∷ came 9 [] []
    ∷ told a 4 (command.Fetch f) (sent 14 a c (Fetch a 4 1 f) ∷ []) []
    ∷ came 10 (sent 15 c a (FetchReply 4 (reply.Gone c)) ∷ []) (Answered a 4 (reply.Gone c) ∷ [])
    ∷ came 11 [] (Closed 4 (answer.Reply (reply.Gone c)) ∷ [])
    ∷ []

computes : (played setting actions).world.past ≡ entries
unfolding cw_of is_between is_nearer shared_of in_arcs
computes = refl

skips : (played setting actions).skipped ≡ 0
unfolding cw_of is_between is_nearer shared_of in_arcs
skips = refl
