-- crossing-joins: two nodes join in one arc at once. A leases to C and B to D, so that each joiner is denied by the
-- other's neighbour; both release what they have, and C's second attempt succeeds.
--
--     node A 10~
--     node B 90~
--     node C 30~
--     node D 70~
--     first A
--     join B A
--     settle 20
--     join C A
--     join D A
--     settle 11
--     deliver 19
--     deliver 21
--     deliver 22
--     deliver 25
--     deliver 20
--     deliver 24
--     settle 40
--     join C A
--     settle 40
--
-- Here 10~ stands for 10 and thirty zeros.
use Rattle.std.specs.Prelude.{◌≡◌, refl, ℕ, List, [], ◌∷◌, ◌++◌, ◌*◌, ◌^◌}
use Rattle.ring_math.specs.Ring.{cw_of, is_between, is_nearer, shared_of}
use Rattle.coverage.specs.Coverage.{in_arcs}
use Rattle.wire_msg.specs.declared.command.Command.TheVariants as command
use Rattle.wire_msg.specs.declared.reply.Why.TheVariants as why
use Rattle.wire_msg.specs.declared.reply.Answer.TheVariants as answer
use Rattle.wire_msg.specs.declared.note.Note.TheVariants.{Closed}
use Rattle.wire_msg.specs.Words.{JoinRequest, JoinReply, Probe, ProbeReply, LeaseRequest, Grant, Deny, Release, Confirm, Announce}
use Rattle.overlay_rules.specs.declared.entry.Entry.{Entry}
use Rattle.overlay_rules.specs.Record.{Setting}
use Rattle.overlay_rules.specs.Played.{Action, Command, Settle, Deliver, played}
use Rattle.overlay_rules.proofs.ExampleText.{told, came, sent, second_joined}

abbrev a : ℕ
a = 16 * 256 ^ 15

abbrev b : ℕ
b = 144 * 256 ^ 15

abbrev c : ℕ
c = 48 * 256 ^ 15

abbrev d : ℕ
d = 112 * 256 ^ 15

abbrev setting : Setting
setting = record { nodes = a ∷ b ∷ c ∷ d ∷ []; founder = a }

abbrev actions : List Action
actions =
    Command b 1 (command.Join a)
    ∷ Settle 20
    ∷ Command c 2 (command.Join a)
    ∷ Command d 3 (command.Join a)
    ∷ Settle 11
    ∷ Deliver 19
    ∷ Deliver 21
    ∷ Deliver 22
    ∷ Deliver 25
    ∷ Deliver 20
    ∷ Deliver 24
    ∷ Settle 40
    ∷ Command c 4 (command.Join a)
    ∷ Settle 40
    ∷ []

abbrev entries : List Entry
entries =
    second_joined a b
    ++ told c 2 (command.Join a) (sent 10 c a (JoinRequest c 1 0) ∷ []) []
    ∷ told d 3 (command.Join a) (sent 11 d a (JoinRequest d 1 0) ∷ []) []
    ∷ came 8 (sent 12 a c (JoinReply 1 (a ∷ b ∷ [])) ∷ []) []
    ∷ came 9 (sent 13 a b (JoinRequest d 1 1) ∷ []) []
    ∷ came 10 (sent 14 c b (Probe 1) ∷ sent 14 c a (Probe 1) ∷ []) []
    ∷ came 11 (sent 15 b d (JoinReply 1 (b ∷ a ∷ [])) ∷ []) []
    ∷ came 12 (sent 16 b c (ProbeReply 1 (b ∷ a ∷ [])) ∷ []) []
    ∷ came 13 (sent 17 a c (ProbeReply 1 (a ∷ b ∷ [])) ∷ []) []
    ∷ came 14 (sent 18 d b (Probe 1) ∷ sent 18 d a (Probe 1) ∷ []) []
    ∷ came 15 [] []
    ∷ came 16 (sent 20 c a (LeaseRequest 1 a b) ∷ sent 20 c b (LeaseRequest 1 a b) ∷ []) []
    ∷ came 17 (sent 21 b d (ProbeReply 1 (b ∷ a ∷ [])) ∷ []) []
    ∷ came 18 (sent 22 a d (ProbeReply 1 (a ∷ b ∷ [])) ∷ []) []
    ∷ came 19 (sent 23 a c (Grant 1 [] []) ∷ []) []
    ∷ came 21 [] []
    ∷ came 22 (sent 25 d a (LeaseRequest 1 a b) ∷ sent 25 d b (LeaseRequest 1 a b) ∷ []) []
    ∷ came 25 (sent 26 b d (Grant 1 [] []) ∷ []) []
    ∷ came 20 (sent 27 b c (Deny 1 (why.Busy d)) ∷ []) []
    ∷ came 24 (sent 28 a d (Deny 1 (why.Busy c)) ∷ []) []
    ∷ came 23 [] []
    ∷ came 26 [] []
    ∷ came 27 (sent 31 c a (Release 1) ∷ sent 31 c b (Release 1) ∷ []) (Closed 2 (answer.Denied b (why.Busy d)) ∷ [])
    ∷ came 28 (sent 32 d a (Release 1) ∷ sent 32 d b (Release 1) ∷ []) (Closed 3 (answer.Denied a (why.Busy c)) ∷ [])
    ∷ came 29 [] []
    ∷ came 30 [] []
    ∷ came 31 [] []
    ∷ came 32 [] []
    ∷ told c 4 (command.Join a) (sent 37 c a (JoinRequest c 2 0) ∷ []) []
    ∷ came 33 (sent 38 a c (JoinReply 2 (a ∷ b ∷ [])) ∷ []) []
    ∷ came 34 (sent 39 c b (Probe 2) ∷ sent 39 c a (Probe 2) ∷ []) []
    ∷ came 35 (sent 40 b c (ProbeReply 2 (b ∷ a ∷ [])) ∷ []) []
    ∷ came 36 (sent 41 a c (ProbeReply 2 (a ∷ b ∷ [])) ∷ []) []
    ∷ came 37 [] []
    ∷ came 38 (sent 43 c a (LeaseRequest 2 a b) ∷ sent 43 c b (LeaseRequest 2 a b) ∷ []) []
    ∷ came 39 (sent 44 a c (Grant 2 [] []) ∷ []) []
    ∷ came 40 (sent 45 b c (Grant 2 [] []) ∷ []) []
    ∷ came 41 [] []
    ∷ came 42 (sent 47 c a (Confirm 2) ∷ sent 47 c b (Confirm 2) ∷ sent 47 c b Announce ∷ sent 47 c a Announce ∷ []) (Closed 4 (answer.Joined a b) ∷ [])
    ∷ came 43 [] []
    ∷ came 44 [] []
    ∷ came 45 [] []
    ∷ came 46 [] []
    ∷ []

computes : (played setting actions).world.past ≡ entries
unfolding cw_of is_between is_nearer shared_of in_arcs
computes = refl

skips : (played setting actions).skipped ≡ 0
unfolding cw_of is_between is_nearer shared_of in_arcs
skips = refl
