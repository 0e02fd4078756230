-- When a joiner becomes ready: it has the lists of both neighbours, and all that they name.
use Rattle.std.specs.Prelude.{◌&&◌, if◌then◌else◌, Some, None, [], ◌∷◌, ◌++◌, Bool}
use Rattle.ring_math.specs.Names.{Id, Attempt, Number}
use Rattle.ring_math.specs.Sides.{leaves}
use Rattle.ring_math.specs.Files.{has_lists}
use Rattle.wire_msg.specs.declared.note.Note.TheVariants as note
use Rattle.wire_msg.specs.declared.reply.Answer.TheVariants as answer
use Rattle.wire_msg.specs.Words.{Confirm, Announce}
use Rattle.coverage.specs.GapFiles.{Lists}
use Rattle.overlay_rules.specs.State.{State, Phase, Waiting, Asking, Probing, Leasing, Ready}
use Rattle.overlay_rules.specs.Outcome.{Outcome, nothing, becomes, to_both, to_each}

abbrev pub has_all : State → Lists → Bool
has_all s lists = has_lists s.files lists.manifest lists.tombs

-- the joiner is ready: it confirms both leases, and tells its leaves
abbrev pub readied : State → Attempt → Number → Id → Id → Outcome
readied s a number l r =
    becomes (record s { phase = Ready a l r })
    (to_both l r (Confirm a) ++ to_each (leaves s.me s.known) Announce)
    (note.Closed number (answer.Joined l r) ∷ [])

abbrev pub ready_test_in : State → Phase → Outcome
ready_test_in s (Leasing a number l r (Some from_left) (Some from_right)) =
    if has_all s from_left && has_all s from_right then readied s a number l r else nothing s
ready_test_in s (Leasing a number l r (Some from_left) None) = nothing s
ready_test_in s (Leasing a number l r None from_right) = nothing s
ready_test_in s (Waiting a) = nothing s
ready_test_in s (Asking a number) = nothing s
ready_test_in s (Probing a number probed) = nothing s
ready_test_in s (Ready a l r) = nothing s

abbrev pub ready_test : State → Outcome
ready_test s = ready_test_in s s.phase
