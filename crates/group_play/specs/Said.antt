-- What a step says, as an outcome has it.
use Rattle.std.specs.Prelude.{◌≡◌, Option, Some, None, List, [], ◌∷◌, ◌++◌, map}
use Rattle.ring_math.specs.Names.{Id}
use Rattle.scribe_core.specs.declared.message.GroupMessage.TheVariants as message
use Rattle.scribe_core.specs.Entry.{Written}
use Rattle.scribe_core.specs.Parts.{GroupName, Addressed, Outcome, to}
use Rattle.scribe_core.specs.Record.{sent_from}
use Rattle.group_play.specs.declared.part.Part.{Part as KeptPart}
use Rattle.group_play.specs.Shown.{Stands}

-- to the parent that is asked, or left, if there is one
abbrev pub grafts : Option Id → List Addressed
grafts None = []
grafts (Some y) = to y message.Graft ∷ []

abbrev pub prunes : Option Id → List Addressed
prunes None = []
prunes (Some y) = to y message.Prune ∷ []

-- a rule gave this outcome: the part that is kept is its part, and the next entry sends and notes it
pub record Gives (x : Id) (name : GroupName) (a : KeptPart) (old new : Written) (o : Outcome) : Type 0 where
  pub part : Stands a o.part
  pub entries : new.entries ≡ old.entries
  pub messages : new.messages ≡ old.messages ++ map (sent_from x name) o.sends
  pub notes : new.notes ≡ old.notes ++ o.notes
