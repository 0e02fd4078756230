-- handover: a file's root changes. While the gate stands, the file's key is in the gap: the old root answers Busy, and
-- the joiner is not ready before each file of the manifest has come.
--
--     file f 66 - 0~ 616263
--     node A 10~
--     node C @f
--     first A
--     insert A f 1
--     settle 5
--     join C A
--     settle 5
--     fetch A f
--     deliver 8
--     deliver 6
--     fetch C f
--     settle 20
--     fetch A f
--     settle 20
--
-- Here 10~ stands for 10 and thirty zeros, and 0~ for sixteen zeros.
use Rattle.std.specs.Prelude.{◌≡◌, refl, ℕ, List, [], ◌∷◌, ◌++◌, ◌*◌, ◌^◌}
use Rattle.ring_math.specs.Ring.{cw_of, is_between, is_nearer, shared_of}
use Rattle.coverage.specs.Coverage.{in_arcs}
use Rattle.wire_msg.specs.declared.command.Command.TheVariants as command
use Rattle.wire_msg.specs.declared.reply.Reply.TheVariants as reply
use Rattle.wire_msg.specs.declared.reply.Answer.TheVariants as answer
use Rattle.wire_msg.specs.declared.note.Note.TheVariants.{Answered, Closed}
use Rattle.wire_msg.specs.Words.{Fetch, FetchReply, JoinRequest, JoinReply, Probe, ProbeReply, LeaseRequest, Grant, Handover, Confirm, Announce}
use Rattle.overlay_rules.specs.declared.entry.Entry.{Entry}
use Rattle.overlay_rules.specs.Record.{Setting}
use Rattle.overlay_rules.specs.Played.{Action, Command, Settle, Deliver, played}
use Rattle.overlay_rules.proofs.ExampleText.{told, came, sent, stored_alone, f, content, key_of_f}

abbrev a : ℕ
a = 16 * 256 ^ 15

abbrev c : ℕ
c = key_of_f

abbrev setting : Setting
setting = record { nodes = a ∷ c ∷ []; founder = a }

abbrev actions : List Action
actions =
    Command a 1 (command.Insert f 1 content)
    ∷ Settle 5
    ∷ Command c 2 (command.Join a)
    ∷ Settle 5
    ∷ Command a 3 (command.Fetch f)
    ∷ Deliver 8
    ∷ Deliver 6
    ∷ Command c 4 (command.Fetch f)
    ∷ Settle 20
    ∷ Command a 5 (command.Fetch f)
    ∷ Settle 20
    ∷ []

abbrev entries : List Entry
entries =
    stored_alone a
    ++ told c 2 (command.Join a) (sent 3 c a (JoinRequest c 1 0) ∷ []) []
    ∷ came 1 (sent 4 a c (JoinReply 1 (a ∷ [])) ∷ []) []
    ∷ came 2 (sent 5 c a (Probe 1) ∷ []) []
    ∷ came 3 (sent 6 a c (ProbeReply 1 (a ∷ [])) ∷ []) []
    ∷ came 4 (sent 7 c a (LeaseRequest 1 a a) ∷ []) []
    ∷ came 5 (sent 8 a c (Grant 1 (f ∷ []) []) ∷ sent 8 a c (Handover f content) ∷ []) []
    ∷ told a 3 (command.Fetch f) (sent 9 a a (FetchReply 3 (reply.Busy a c)) ∷ []) (Answered a 3 (reply.Busy a c) ∷ [])
    ∷ came 8 [] (Closed 3 (answer.Reply (reply.Busy a c)) ∷ [])
    ∷ came 6 [] []
    ∷ told c 4 (command.Fetch f) (sent 12 c c (FetchReply 4 (reply.NotReady c)) ∷ []) (Answered c 4 (reply.NotReady c) ∷ [])
    ∷ came 7 (sent 13 c a (Confirm 1) ∷ sent 13 c a Announce ∷ []) (Closed 2 (answer.Joined a a) ∷ [])
    ∷ came 9 [] (Closed 4 (answer.Reply (reply.NotReady c)) ∷ [])
    ∷ came 10 [] []
    ∷ came 11 [] []
    ∷ told a 5 (command.Fetch f) (sent 17 a c (Fetch a 5 1 f) ∷ []) []
    ∷ came 12 (sent 18 c a (FetchReply 5 (reply.Found c content)) ∷ []) (Answered a 5 (reply.Found c content) ∷ [])
    ∷ came 13 [] (Closed 5 (answer.Reply (reply.Found c content)) ∷ [])
    ∷ []

computes : (played setting actions).world.past ≡ entries
unfolding cw_of is_between is_nearer shared_of in_arcs
computes = refl

skips : (played setting actions).skipped ≡ 0
unfolding cw_of is_between is_nearer shared_of in_arcs
skips = refl
