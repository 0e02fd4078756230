-- stale-release: a node gives up a join and begins another. The request of attempt 2 replaces the gate of attempt 1,
-- and the Release of attempt 1, which comes later, changes nothing.
--
--     node A 10~
--     node B 30~
--     first A
--     join B A
--     settle 5
--     giveup B
--     join B A
--     deliver 7
--     deliver 8
--     deliver 9
--     deliver 10
--     deliver 11
--     deliver 6
--     settle 20
--     lookup A 30~
--     settle 20
--
-- Here 10~ stands for 10 and thirty zeros.
use Rattle.std.specs.Prelude.{◌≡◌, refl, ℕ, List, [], ◌∷◌, ◌++◌, ◌*◌, ◌^◌}
use Rattle.ring_math.specs.Ring.{cw_of, is_between, is_nearer, shared_of}
use Rattle.coverage.specs.Coverage.{in_arcs}
use Rattle.wire_msg.specs.declared.command.Command.TheVariants as command
use Rattle.wire_msg.specs.declared.reply.Reply.TheVariants as reply
use Rattle.wire_msg.specs.declared.reply.Own.TheVariants as own
use Rattle.wire_msg.specs.declared.reply.Answer.TheVariants as answer
use Rattle.wire_msg.specs.declared.note.Note.TheVariants.{Delivered, Answered, Closed}
use Rattle.wire_msg.specs.Words.{Lookup, LookupReply, JoinRequest, JoinReply, Probe, ProbeReply, LeaseRequest, Grant, Release, Confirm, Announce}
use Rattle.overlay_rules.specs.declared.entry.Entry.{Entry}
use Rattle.overlay_rules.specs.Record.{Setting}
use Rattle.overlay_rules.specs.Played.{Action, Command, Settle, Deliver, played}
use Rattle.overlay_rules.proofs.ExampleText.{told, came, sent, second_leased}

abbrev a : ℕ
a = 16 * 256 ^ 15

abbrev b : ℕ
b = 48 * 256 ^ 15

abbrev setting : Setting
setting = record { nodes = a ∷ b ∷ []; founder = a }

abbrev actions : List Action
actions =
    Command b 1 (command.Join a)
    ∷ Settle 5
    ∷ Command b 2 command.GiveUp
    ∷ Command b 3 (command.Join a)
    ∷ Deliver 7
    ∷ Deliver 8
    ∷ Deliver 9
    ∷ Deliver 10
    ∷ Deliver 11
    ∷ Deliver 6
    ∷ Settle 20
    ∷ Command a 4 (command.Lookup b)
    ∷ Settle 20
    ∷ []

abbrev entries : List Entry
entries =
    second_leased a b
    ++ told b 2 command.GiveUp (sent 7 b a (Release 1) ∷ []) (Closed 1 (answer.Stopped b own.GivenUp) ∷ Closed 2 answer.GaveUp ∷ [])
    ∷ told b 3 (command.Join a) (sent 8 b a (JoinRequest b 2 0) ∷ []) []
    ∷ came 7 (sent 9 a b (JoinReply 2 (a ∷ [])) ∷ []) []
    ∷ came 8 (sent 10 b a (Probe 2) ∷ []) []
    ∷ came 9 (sent 11 a b (ProbeReply 2 (a ∷ [])) ∷ []) []
    ∷ came 10 (sent 12 b a (LeaseRequest 2 a a) ∷ []) []
    ∷ came 11 (sent 13 a b (Grant 2 [] []) ∷ []) []
    ∷ came 6 [] []
    ∷ came 5 (sent 15 b a (Release 1) ∷ []) []
    ∷ came 12 (sent 16 b a (Confirm 2) ∷ sent 16 b a Announce ∷ []) (Closed 3 (answer.Joined a a) ∷ [])
    ∷ came 13 [] []
    ∷ came 14 [] []
    ∷ came 15 [] []
    ∷ told a 4 (command.Lookup b) (sent 20 a b (Lookup a 4 b 1) ∷ []) []
    ∷ came 16 (sent 21 b a (LookupReply 4 (reply.Delivered b 1)) ∷ []) (Delivered a 4 b 1 ∷ Answered a 4 (reply.Delivered b 1) ∷ [])
    ∷ came 17 [] (Closed 4 (answer.Reply (reply.Delivered b 1)) ∷ [])
    ∷ []

computes : (played setting actions).world.past ≡ entries
unfolding cw_of is_between is_nearer shared_of in_arcs
computes = refl

skips : (played setting actions).skipped ≡ 0
unfolding cw_of is_between is_nearer shared_of in_arcs
skips = refl
