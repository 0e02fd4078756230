-- A grant by the join that is under way, and files that change with a join.
use Rattle.std.specs.Prelude.{◌&&◌, ◌||◌, ◌==◌, if◌then◌else◌, Option, is_none}
use Rattle.ring_math.specs.Names.{Id}
use Rattle.coverage.specs.GapFiles.{Lists}
use Rattle.overlay_rules.specs.Joining.{with_grant}
use Rattle.overlay_rules.specs.Outcome.{Outcome, nothing}
use Rattle.overlay_rules.specs.ReadyTest.{ready_test}
use Rattle.overlay_rules.specs.State.{State, Leasing}
use Rattle.join_core.specs.declared.steps.Finished.{Finished}
use Rattle.node_parts.specs.declared.change.StoreChange.{StoreChange}
use Rattle.node_parts.specs.Change.{files_after}

-- the files change, and nothing else
abbrev pub files_set : StoreChange → State → State
files_set change s = record s { files = files_after change s.files }

-- these lists came, and those of either side before
abbrev pub noted_at : State → Id → Lists → Finished → Option Lists → Option Lists → Outcome
noted_at s from lists join from_left from_right =
    if ((from == join.left) && is_none from_left) || ((from == join.right) && is_none from_right)
    then ready_test (with_grant s from lists (Leasing join.attempt join.number join.left join.right from_left from_right)) else nothing s
