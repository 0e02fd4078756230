-- The forms of line: the first word, and what each further word stands for (`Part`).
use Rattle.std.specs.Prelude.{ℕ, Bool, true, false, if◌then◌else◌, List, [], ◌∷◌, codes, bytes_eq, Option, Some, None}
use Rattle.scenario_reader.specs.declared.form.Form.{Form}
use Rattle.scenario_reader.specs.declared.form.Form.TheVariants as form
use Rattle.scenario_reader.specs.declared.form.Part.{Part}
use Rattle.scenario_reader.specs.declared.form.Part.TheVariants.{NewNode, NewIdentifier, NewFile, NameBytes, OwnerBytes, Salt, Content, OldNode, OldFile, Key}
use Rattle.scenario_reader.specs.declared.form.Part.TheVariants.{CopyCount, SettleCount, ShuffleCount, MessageNumber, Seed, DupCount, NoiseBytes}

-- the form of a line with this first word
abbrev pub form_of : List ℕ → Option Form
form_of text =
    if bytes_eq text (codes "node") then Some form.Node
    else if bytes_eq text (codes "file") then Some form.File
    else if bytes_eq text (codes "first") then Some form.First
    else if bytes_eq text (codes "join") then Some form.Join
    else if bytes_eq text (codes "lookup") then Some form.Lookup
    else if bytes_eq text (codes "insert") then Some form.Insert
    else if bytes_eq text (codes "fetch") then Some form.Fetch
    else if bytes_eq text (codes "reclaim") then Some form.Reclaim
    else if bytes_eq text (codes "giveup") then Some form.GiveUp
    else if bytes_eq text (codes "settle") then Some form.Settle
    else if bytes_eq text (codes "deliver") then Some form.Deliver
    else if bytes_eq text (codes "shuffle") then Some form.Shuffle
    else if bytes_eq text (codes "dup") then Some form.Dup
    else if bytes_eq text (codes "noise") then Some form.Noise
    else None

-- what the words after the first stand for
abbrev pub parts_of : Form → List Part
parts_of form.Node = NewNode ∷ NewIdentifier ∷ []
parts_of form.File = NewFile ∷ NameBytes ∷ OwnerBytes ∷ Salt ∷ Content ∷ []
parts_of form.First = OldNode ∷ []
parts_of form.Join = OldNode ∷ OldNode ∷ []
parts_of form.Lookup = OldNode ∷ Key ∷ []
parts_of form.Insert = OldNode ∷ OldFile ∷ CopyCount ∷ []
parts_of form.Fetch = OldNode ∷ OldFile ∷ []
parts_of form.Reclaim = OldNode ∷ OldFile ∷ []
parts_of form.GiveUp = OldNode ∷ []
parts_of form.Settle = SettleCount ∷ []
parts_of form.Deliver = MessageNumber ∷ []
parts_of form.Shuffle = Seed ∷ ShuffleCount ∷ []
parts_of form.Dup = DupCount ∷ []
parts_of form.Noise = OldNode ∷ NoiseBytes ∷ []

-- an action, and no declaration
abbrev pub is_action : Form → Bool
is_action form.Node = false
is_action form.File = false
is_action form.First = false
is_action other = true
