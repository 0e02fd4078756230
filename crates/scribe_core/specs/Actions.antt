-- Which actions may follow one another.
use Rattle.std.specs.Prelude.{◌≡◌, ◌+◌, ℕ, List, [], ◌∷◌, Contains}
use Rattle.ring_math.specs.Names.{Id}
use Rattle.scribe_core.specs.declared.action.GroupAction.{GroupAction}
use Rattle.scribe_core.specs.declared.action.GroupWhat.{GroupWhat}
use Rattle.scribe_core.specs.declared.action.GroupWhat.TheVariants as what

-- behind so many commands, a command has the next number and is one of these nodes'
abbrev pub MayFollow : List Id → ℕ → GroupWhat → Type 0
MayFollow nodes commands (what.Command number node name command) = (number ≡ commands + 1) × Contains nodes node
MayFollow nodes commands (what.Settle n) = Unit {0}
MayFollow nodes commands (what.Deliver m) = Unit {0}

-- the commands with one more action
abbrev pub counted : ℕ → GroupWhat → ℕ
counted commands (what.Command number node name command) = commands + 1
counted commands (what.Settle n) = commands
counted commands (what.Deliver m) = commands

-- each action may follow those before it, of which so many are commands
abbrev pub AreActionsFrom : List Id → ℕ → List GroupAction → Type 0
AreActionsFrom nodes commands [] = Unit {0}
AreActionsFrom nodes commands (action ∷ actions) =
    MayFollow nodes commands action.what × AreActionsFrom nodes (counted commands action.what) actions

abbrev pub AreActions : List Id → List GroupAction → Type 0
AreActions nodes actions = AreActionsFrom nodes 0 actions
