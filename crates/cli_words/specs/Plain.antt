-- Plain words: any first word, one mode, and each option and the flag at most once, before or after it.
use Rattle.std.specs.Prelude.{◌≡◌, ◌≢◌, ◌⊎◌, ◌≤◌, ◌<◌, ◌^◌, ℕ, List, [], ◌∷◌, ◌++◌, map, codes, decimal, All, AllPairs, IsSome}
use Rattle.std.specs.Prelude.{Bool, true, false, Option, Some, None}
use Rattle.std.specs.Prelude.{if◌then◌else◌}
use Rattle.std.specs.List.{flat_map}
use Rattle.std.specs.Option.{option_and_then}
use Rattle.std.specs.Str.{bytes_eq}
use Rattle.clap.specs.Walk.{Text}
use Rattle.cli_words.specs.declared.limits.TheConstants.{DEFAULT_NODES, DEFAULT_SEED, DEFAULT_ROOM, DEFAULT_SIZE, LEAST_ROOM, MOST_ROOM, MOST_SIZE}
use Rattle.cli_words.specs.declared.limits.TheConstants.{DEFAULT_FROM, DEFAULT_DRAWN, MOST_DRAWN}
use Rattle.cli_words.specs.declared.mode.Mode.{Mode}
use Rattle.cli_words.specs.declared.modes.Options.{Options}
use Rattle.cli_words.specs.Command.{AreNodesInRange, mode_named, mode_names}

-- what an option sets
pub data Setting : Type 0 where
  Nodes : Setting
  Seed : Setting
  Room : Setting
  Size : Setting
  From : Setting
  Entries : Setting

abbrev pub setting_name : Setting → Text
setting_name Nodes = codes "nodes"
setting_name Seed = codes "seed"
setting_name Room = codes "room"
setting_name Size = codes "size"
setting_name From = codes "from"
setting_name Entries = codes "entries"

abbrev pub InRange : Setting → ℕ → Type 0
InRange Nodes n = AreNodesInRange n
InRange Seed n = n < 2 ^ 64
InRange Room n = (LEAST_ROOM ≤ n) × (n ≤ MOST_ROOM)
InRange Size n = n ≤ MOST_SIZE
InRange From n = n < 2 ^ 64
InRange Entries n = n ≤ MOST_DRAWN

-- the mode, `--nodes N`, `--nodes=N`, or the flag
pub data Piece : Type 0 where
  Names : (mode : Text) → Piece
  Apart : (setting : Setting) (number : ℕ) → Piece
  Joined : (setting : Setting) (number : ℕ) → Piece
  Threads : Piece

-- a number has no leading zeros
abbrev pub words_of : Piece → List Text
words_of (Names mode) = mode ∷ []
words_of (Apart setting number) = (codes "--" ++ setting_name setting) ∷ decimal number ∷ []
words_of (Joined setting number) = (codes "--" ++ (setting_name setting ++ (codes "=" ++ decimal number))) ∷ []
words_of Threads = codes "--threads" ∷ []

-- a text is among these
abbrev pub IsAmong : Text → List Text → Type 0
IsAmong t [] = ⊥
IsAmong t (s ∷ ss) = (t ≡ s) ⊎ IsAmong t ss

abbrev pub IsPiece : Piece → Type 0
IsPiece (Names mode) = IsAmong mode mode_names
IsPiece (Apart setting number) = InRange setting number
IsPiece (Joined setting number) = InRange setting number
IsPiece Threads = Unit {0}

-- what a piece is about
abbrev pub subject_of : Piece → Text
subject_of (Names mode) = codes "mode"
subject_of (Apart setting number) = setting_name setting
subject_of (Joined setting number) = setting_name setting
subject_of Threads = codes "threads"

abbrev pub mode_said : List Piece → Option Text
mode_said [] = None
mode_said (Names mode ∷ pieces) = Some mode
mode_said (Apart setting number ∷ pieces) = mode_said pieces
mode_said (Joined setting number ∷ pieces) = mode_said pieces
mode_said (Threads ∷ pieces) = mode_said pieces

-- the number that is set, or another
abbrev pub number_said : Text → ℕ → List Piece → ℕ
number_said name otherwise [] = otherwise
number_said name otherwise (Names mode ∷ pieces) = number_said name otherwise pieces
number_said name otherwise (Apart setting number ∷ pieces) =
    if bytes_eq (setting_name setting) name then number else number_said name otherwise pieces
number_said name otherwise (Joined setting number ∷ pieces) =
    if bytes_eq (setting_name setting) name then number else number_said name otherwise pieces
number_said name otherwise (Threads ∷ pieces) = number_said name otherwise pieces

-- whether the flag is given
abbrev pub threads_said : List Piece → Bool
threads_said [] = false
threads_said (Names mode ∷ pieces) = threads_said pieces
threads_said (Apart setting number ∷ pieces) = threads_said pieces
threads_said (Joined setting number ∷ pieces) = threads_said pieces
threads_said (Threads ∷ pieces) = true

-- the options that are set, or what stands for them
abbrev pub options_said : List Piece → Options
options_said pieces =
    record {
      nodes = number_said (codes "nodes") DEFAULT_NODES pieces;
      seed = number_said (codes "seed") DEFAULT_SEED pieces;
      room = number_said (codes "room") DEFAULT_ROOM pieces;
      size = number_said (codes "size") DEFAULT_SIZE pieces;
      from = number_said (codes "from") DEFAULT_FROM pieces;
      entries = number_said (codes "entries") DEFAULT_DRAWN pieces;
      threads = threads_said pieces;
    }

-- the mode that is named, with its options
abbrev pub mode_by : List Piece → Option Mode
mode_by pieces = option_and_then (mode_named (options_said pieces)) (mode_said pieces)

pub record ArePlain (pieces : List Piece) (words : List Text) : Type 0 where
  pub first : Text
  pub is : words ≡ first ∷ flat_map words_of pieces
  pub allowed : All IsPiece pieces
  pub once : AllPairs ◌≢◌ (map subject_of pieces)
  pub mode : IsSome (mode_said pieces)
