-- neighbouring-joins: two nodes join at once on the two sides of A. Each side of a node has its own gate, so neither
-- refuses the other.
--
--     node A 10~
--     node B 90~
--     node C 30~
--     node D e0~
--     first A
--     join B A
--     settle 20
--     join C A
--     join D A
--     settle 60
--
-- Here 10~ stands for 10 and thirty zeros.
use Rattle.std.specs.Prelude.{◌≡◌, refl, ℕ, List, [], ◌∷◌, ◌++◌, ◌*◌, ◌^◌}
use Rattle.ring_math.specs.Ring.{cw_of, is_between, is_nearer, shared_of}
use Rattle.coverage.specs.Coverage.{in_arcs}
use Rattle.wire_msg.specs.declared.command.Command.TheVariants as command
use Rattle.wire_msg.specs.declared.reply.Answer.TheVariants as answer
use Rattle.wire_msg.specs.declared.note.Note.TheVariants.{Closed}
use Rattle.wire_msg.specs.Words.{JoinRequest, JoinReply, Probe, ProbeReply, LeaseRequest, Grant, Confirm, Announce}
use Rattle.overlay_rules.specs.declared.entry.Entry.{Entry}
use Rattle.overlay_rules.specs.Record.{Setting}
use Rattle.overlay_rules.specs.Played.{Action, Command, Settle, played}
use Rattle.overlay_rules.proofs.ExampleText.{told, came, sent, second_joined}

abbrev a : ℕ
a = 16 * 256 ^ 15

abbrev b : ℕ
b = 144 * 256 ^ 15

abbrev c : ℕ
c = 48 * 256 ^ 15

abbrev d : ℕ
d = 224 * 256 ^ 15

abbrev setting : Setting
setting = record { nodes = a ∷ b ∷ c ∷ d ∷ []; founder = a }

abbrev actions : List Action
actions =
    Command b 1 (command.Join a)
    ∷ Settle 20
    ∷ Command c 2 (command.Join a)
    ∷ Command d 3 (command.Join a)
    ∷ Settle 60
    ∷ []

abbrev entries : List Entry
entries =
    second_joined a b
    ++ told c 2 (command.Join a) (sent 10 c a (JoinRequest c 1 0) ∷ []) []
    ∷ told d 3 (command.Join a) (sent 11 d a (JoinRequest d 1 0) ∷ []) []
    ∷ came 8 (sent 12 a c (JoinReply 1 (a ∷ b ∷ [])) ∷ []) []
    ∷ came 9 (sent 13 a d (JoinReply 1 (a ∷ b ∷ [])) ∷ []) []
    ∷ came 10 (sent 14 c b (Probe 1) ∷ sent 14 c a (Probe 1) ∷ []) []
    ∷ came 11 (sent 15 d a (Probe 1) ∷ sent 15 d b (Probe 1) ∷ []) []
    ∷ came 12 (sent 16 b c (ProbeReply 1 (b ∷ a ∷ [])) ∷ []) []
    ∷ came 13 (sent 17 a c (ProbeReply 1 (a ∷ b ∷ [])) ∷ []) []
    ∷ came 14 (sent 18 a d (ProbeReply 1 (a ∷ b ∷ [])) ∷ []) []
    ∷ came 15 (sent 19 b d (ProbeReply 1 (b ∷ a ∷ [])) ∷ []) []
    ∷ came 16 [] []
    ∷ came 17 (sent 21 c a (LeaseRequest 1 a b) ∷ sent 21 c b (LeaseRequest 1 a b) ∷ []) []
    ∷ came 18 [] []
    ∷ came 19 (sent 23 d b (LeaseRequest 1 b a) ∷ sent 23 d a (LeaseRequest 1 b a) ∷ []) []
    ∷ came 20 (sent 24 a c (Grant 1 [] []) ∷ []) []
    ∷ came 21 (sent 25 b c (Grant 1 [] []) ∷ []) []
    ∷ came 22 (sent 26 b d (Grant 1 [] []) ∷ []) []
    ∷ came 23 (sent 27 a d (Grant 1 [] []) ∷ []) []
    ∷ came 24 [] []
    ∷ came 25 (sent 29 c a (Confirm 1) ∷ sent 29 c b (Confirm 1) ∷ sent 29 c b Announce ∷ sent 29 c a Announce ∷ []) (Closed 2 (answer.Joined a b) ∷ [])
    ∷ came 26 [] []
    ∷ came 27 (sent 31 d b (Confirm 1) ∷ sent 31 d a (Confirm 1) ∷ sent 31 d a Announce ∷ sent 31 d b Announce ∷ []) (Closed 3 (answer.Joined b a) ∷ [])
    ∷ came 28 [] []
    ∷ came 29 [] []
    ∷ came 30 [] []
    ∷ came 31 [] []
    ∷ came 32 [] []
    ∷ came 33 [] []
    ∷ came 34 [] []
    ∷ came 35 [] []
    ∷ []

computes : (played setting actions).world.past ≡ entries
unfolding cw_of is_between is_nearer shared_of in_arcs
computes = refl

skips : (played setting actions).skipped ≡ 0
unfolding cw_of is_between is_nearer shared_of in_arcs
skips = refl
