-- The command, as `clap` has it, and what a reading of it answers.
use Rattle.std.specs.Prelude.{◌≡◌, ◌≢◌, ◌≤◌, ℕ, List, [], ◌∷◌, map, codes, Bool, Option, Some, None, Result, Err, IfOk, IfErr, true, false, pos, if◌then◌else◌}
use Rattle.std.specs.Option.{option_and_then, option_map_or}
use Rattle.std.specs.Str.{bytes_eq}
use Rattle.std.specs.Str.Parse.{digits_value, without_leading_plus}
use Rattle.std.specs.Borrow.{Bor}
use Rattle.clap.specs.Walk.{Row, Rule, Text, first_of, one_of}
use Rattle.clap.specs.Faults.{fault_of}
use Rattle.clap.specs.ValueTests.{is_unsigned_in}
use Rattle.clap.specs.Simple.{App, app_of, matches_of, new_app, new_rule, with_rule}
use Rattle.clap.specs.Values.{kind_of}
use Rattle.clap.specs.declared.builder.command.Command.{Command}
use Rattle.clap.specs.declared.builder.action.ArgAction.TheVariants.{Set, SetTrue}
use Rattle.clap.specs.declared.builder.value_parser.ValueParser.{ValueParser}
use Rattle.clap.specs.declared.builder.value_parser.ValueParser.TheVariants as vp
use Rattle.clap.specs.declared.error.Error.{Error}
use Rattle.clap.specs.declared.error.kind.ErrorKind.TheVariants as kind
use Rattle.cli_words.specs.declared.limits.TheConstants.{DEFAULT_NODES, DEFAULT_NODES_TEXT, DEFAULT_SEED, DEFAULT_SEED_TEXT, DEFAULT_ROOM, DEFAULT_ROOM_TEXT}
use Rattle.cli_words.specs.declared.limits.TheConstants.{DEFAULT_SIZE, DEFAULT_SIZE_TEXT, FEWEST_MADE_NODES, LEAST_ROOM}
use Rattle.cli_words.specs.declared.limits.TheConstants.{MOST_MADE_NODES, MOST_ROOM, MOST_SIZE, DEFAULT_FROM, DEFAULT_FROM_TEXT}
use Rattle.cli_words.specs.declared.limits.TheConstants.{DEFAULT_DRAWN, DEFAULT_DRAWN_TEXT, MOST_DRAWN}
use Rattle.cli_words.specs.declared.mode.Mode.{Mode}
use Rattle.cli_words.specs.declared.mode.Mode.TheVariants.{Play, Run, Big, Trace, TraceRun, Check, Points, Large, Messages, Groups, Draw, OneNode}
use Rattle.cli_words.specs.declared.mode.WordFault.{WordFault}
use Rattle.cli_words.specs.declared.mode.WordFault.TheVariants.{Usage}
use Rattle.cli_words.specs.declared.modes.Options.{Options}

-- the texts of MODE
abbrev pub mode_names : List Text
mode_names =
    codes "play" ∷ codes "run" ∷ codes "big" ∷ codes "trace" ∷ codes "check" ∷ codes "points" ∷ codes "large" ∷ codes "messages" ∷ codes "groups"
    ∷ codes "draw" ∷ codes "node" ∷ []

-- the same, wherever they are kept
abbrev pub AreModes : Bor (List (Bor Text)) → Type 0
AreModes names = map (λ (s : Bor Text). s.now) names.now ≡ mode_names

abbrev pub mode_rule : Bor (List (Bor Text)) → Rule
mode_rule names = record (new_rule (codes "mode")) { action = Some Set; parser = Some (vp.Names names); required = true }

-- an option of one value
abbrev pub option_rule : Text → ValueParser → Text → Rule
option_rule name parser otherwise =
    record (new_rule name) { long = Some name; action = Some Set; parser = Some parser; defaults = otherwise ∷ [] }

abbrev pub nodes_rule : Rule
nodes_rule = option_rule (codes "nodes") (vp.Signed (pos FEWEST_MADE_NODES) (pos MOST_MADE_NODES)) DEFAULT_NODES_TEXT.now

abbrev pub seed_rule : Rule
seed_rule = option_rule (codes "seed") (vp.Unsigned 0 18446744073709551615) DEFAULT_SEED_TEXT.now

abbrev pub room_rule : Rule
room_rule = option_rule (codes "room") (vp.Signed (pos LEAST_ROOM) (pos MOST_ROOM)) DEFAULT_ROOM_TEXT.now

abbrev pub size_rule : Rule
size_rule = option_rule (codes "size") (vp.Signed (pos 0) (pos MOST_SIZE)) DEFAULT_SIZE_TEXT.now

abbrev pub from_rule : Rule
from_rule = option_rule (codes "from") (vp.Unsigned 0 18446744073709551615) DEFAULT_FROM_TEXT.now

abbrev pub entries_rule : Rule
entries_rule = option_rule (codes "entries") (vp.Signed (pos 0) (pos MOST_DRAWN)) DEFAULT_DRAWN_TEXT.now

-- a flag
abbrev pub threads_rule : Rule
threads_rule = record (new_rule (codes "threads")) { long = Some (codes "threads"); action = Some SetTrue }

abbrev pub without_help : App → App
without_help a = record a { top = record a.top { disable_help_flag = true; disable_version_flag = true } }

-- one required MODE
abbrev pub with_mode : Bor (List (Bor Text)) → App
with_mode names = with_rule (without_help (new_app (codes "pastry"))) (mode_rule names)

-- and the options of scenarios that are made, and of access points
abbrev pub with_made : Bor (List (Bor Text)) → App
with_made names = with_rule (with_rule (with_rule (with_rule (with_mode names) nodes_rule) seed_rule) room_rule) size_rule

-- and those of pictures, and the flag, and neither help nor version
abbrev pub command_of : Bor (List (Bor Text)) → App
command_of names = with_rule (with_rule (with_rule (with_made names) from_rule) entries_rule) threads_rule

abbrev pub IsCommand : Command → Type 0
IsCommand c = (names : Bor (List (Bor Text))) × AreModes names × (app_of c ≡ command_of names)

-- the number that a text spells, or another where it spells none that fits
abbrev pub number_in : ℕ → ℕ → Text → ℕ
number_in most otherwise t = if is_unsigned_in 0 most t then digits_value 10 (without_leading_plus t) else otherwise

-- the number that the first value of an entry spells
abbrev pub number_of : Text → ℕ → ℕ → List Row → ℕ
number_of id most otherwise rows = option_map_or (number_in most otherwise) (one_of id rows) otherwise

-- whether the first value of an entry is that of a flag that is given
abbrev pub is_set : Text → List Row → Bool
is_set id rows = option_map_or (λ t. bytes_eq t (codes "true")) (first_of id rows) false

-- the mode that writes a trace: of a run by threads, or of a play
abbrev pub trace_mode : Bool → Mode
trace_mode threads = if threads then TraceRun else Trace

-- the mode of this name, with those of these options that it has
abbrev pub mode_named : Options → Text → Option Mode
mode_named options name =
    if bytes_eq name (codes "play") then Some Play
    else (if bytes_eq name (codes "run") then Some Run
    else (if bytes_eq name (codes "big") then Some (Big options.nodes options.seed)
    else (if bytes_eq name (codes "trace") then Some (trace_mode options.threads)
    else (if bytes_eq name (codes "check") then Some Check
    else (if bytes_eq name (codes "points") then Some (Points options.room)
    else (if bytes_eq name (codes "large") then Some (Large options.nodes options.seed options.size)
    else (if bytes_eq name (codes "messages") then Some Messages
    else (if bytes_eq name (codes "groups") then Some Groups
    else (if bytes_eq name (codes "draw") then Some (Draw options.from options.entries)
    else (if bytes_eq name (codes "node") then Some OneNode else None))))))))))

-- the options of what a reading found
abbrev pub options_of : List Row → Options
options_of rows =
    record {
      nodes = number_of (codes "nodes") 4294967295 DEFAULT_NODES rows;
      seed = number_of (codes "seed") 18446744073709551615 DEFAULT_SEED rows;
      room = number_of (codes "room") 4294967295 DEFAULT_ROOM rows;
      size = number_of (codes "size") 4294967295 DEFAULT_SIZE rows;
      from = number_of (codes "from") 18446744073709551615 DEFAULT_FROM rows;
      entries = number_of (codes "entries") 4294967295 DEFAULT_DRAWN rows;
      threads = is_set (codes "threads") rows;
    }

-- and its mode
abbrev pub mode_of : List Row → Option Mode
mode_of rows = option_and_then (mode_named (options_of rows)) (first_of (codes "mode") rows)

-- so many nodes can be made
abbrev pub AreNodesInRange : ℕ → Type 0
AreNodesInRange nodes = (FEWEST_MADE_NODES ≤ nodes) × (nodes ≤ MOST_MADE_NODES)

-- the numbers of a mode are such as its options take
abbrev pub HasNumbersInRange : Mode → Type 0
HasNumbersInRange Play = Unit {0}
HasNumbersInRange Run = Unit {0}
HasNumbersInRange (Big nodes seed) = AreNodesInRange nodes
HasNumbersInRange Trace = Unit {0}
HasNumbersInRange TraceRun = Unit {0}
HasNumbersInRange Check = Unit {0}
HasNumbersInRange (Points room) = (LEAST_ROOM ≤ room) × (room ≤ MOST_ROOM)
HasNumbersInRange (Large nodes seed size) = AreNodesInRange nodes × (size ≤ MOST_SIZE)
HasNumbersInRange Messages = Unit {0}
HasNumbersInRange Groups = Unit {0}
HasNumbersInRange (Draw from entries) = entries ≤ MOST_DRAWN
HasNumbersInRange OneNode = Unit {0}

-- What a reading answers: Usage exactly where the command's reading is refused for another cause than memory.
pub record Reads (names : Bor (List (Bor Text))) (words : List Text) (result : Result Mode WordFault) : Type 0 where
  pub ok : IfOk result (λ m. (fault_of (command_of names) words ≡ []) × (mode_of (matches_of (command_of names) words) ≡ Some m))
  pub usage : result ≡ Err Usage → fault_of (command_of names) words ≢ []

-- What a check of words answers: an error of another cause than memory exactly where the command's reading refuses them.
pub record Judges (names : Bor (List (Bor Text))) (words : List Text) (result : Result (Unit {0}) Error) : Type 0 where
  pub ok : IfOk result (λ _. fault_of (command_of names) words ≡ [])
  pub err : IfErr result (λ e. kind_of e ≢ kind.OutOfMemory → fault_of (command_of names) words ≢ [])
