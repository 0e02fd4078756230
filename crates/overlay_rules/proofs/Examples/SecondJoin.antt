-- second-join: the join of a third node. Its request, forwarded once, is answered by the node that covers it; it probes
-- both nodes, leases from both neighbours, and confirms and announces itself to both.
--
--     node A 10~
--     node B 90~
--     node C 30~
--     first A
--     join B A
--     settle 20
--     join C B
--     settle 40
--
-- Here 10~ stands for 10 and thirty zeros.
use Rattle.std.specs.Prelude.{◌≡◌, refl, ℕ, List, [], ◌∷◌, ◌++◌, ◌*◌, ◌^◌}
use Rattle.ring_math.specs.Ring.{cw_of, is_between, is_nearer, shared_of}
use Rattle.coverage.specs.Coverage.{in_arcs}
use Rattle.wire_msg.specs.declared.command.Command.TheVariants as command
use Rattle.wire_msg.specs.declared.reply.Answer.TheVariants as answer
use Rattle.wire_msg.specs.declared.note.Note.TheVariants.{Closed}
use Rattle.wire_msg.specs.Words.{JoinRequest, JoinReply, Probe, ProbeReply, LeaseRequest, Grant, Confirm, Announce}
use Rattle.overlay_rules.specs.declared.entry.Entry.{Entry}
use Rattle.overlay_rules.specs.Record.{Setting}
use Rattle.overlay_rules.specs.Played.{Action, Command, Settle, played}
use Rattle.overlay_rules.proofs.ExampleText.{told, came, sent, second_joined}

abbrev a : ℕ
a = 16 * 256 ^ 15

abbrev b : ℕ
b = 144 * 256 ^ 15

abbrev c : ℕ
c = 48 * 256 ^ 15

abbrev setting : Setting
setting = record { nodes = a ∷ b ∷ c ∷ []; founder = a }

abbrev actions : List Action
actions =
    Command b 1 (command.Join a)
    ∷ Settle 20
    ∷ Command c 2 (command.Join b)
    ∷ Settle 40
    ∷ []

abbrev entries : List Entry
entries =
    second_joined a b
    ++ told c 2 (command.Join b) (sent 10 c b (JoinRequest c 1 0) ∷ []) []
    ∷ came 8 (sent 11 b a (JoinRequest c 1 1) ∷ []) []
    ∷ came 9 (sent 12 a c (JoinReply 1 (a ∷ b ∷ [])) ∷ []) []
    ∷ came 10 (sent 13 c b (Probe 1) ∷ sent 13 c a (Probe 1) ∷ []) []
    ∷ came 11 (sent 14 b c (ProbeReply 1 (b ∷ a ∷ [])) ∷ []) []
    ∷ came 12 (sent 15 a c (ProbeReply 1 (a ∷ b ∷ [])) ∷ []) []
    ∷ came 13 [] []
    ∷ came 14 (sent 17 c a (LeaseRequest 1 a b) ∷ sent 17 c b (LeaseRequest 1 a b) ∷ []) []
    ∷ came 15 (sent 18 a c (Grant 1 [] []) ∷ []) []
    ∷ came 16 (sent 19 b c (Grant 1 [] []) ∷ []) []
    ∷ came 17 [] []
    ∷ came 18 (sent 21 c a (Confirm 1) ∷ sent 21 c b (Confirm 1) ∷ sent 21 c b Announce ∷ sent 21 c a Announce ∷ []) (Closed 2 (answer.Joined a b) ∷ [])
    ∷ came 19 [] []
    ∷ came 20 [] []
    ∷ came 21 [] []
    ∷ came 22 [] []
    ∷ []

computes : (played setting actions).world.past ≡ entries
unfolding cw_of is_between is_nearer shared_of in_arcs
computes = refl

skips : (played setting actions).skipped ≡ 0
unfolding cw_of is_between is_nearer shared_of in_arcs
skips = refl
