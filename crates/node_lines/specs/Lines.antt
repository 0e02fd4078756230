-- What a line tells a node: a command of its own user, or bytes that came from the network.
use Rattle.std.specs.Prelude.{◌≡◌, ℕ, Bool, nat_lt, not, if◌then◌else◌, List, [], ◌∷◌, length, take, drop, position, codes, bytes_eq}
use Rattle.std.specs.Prelude.{Option, Some, None, Result, Ok, Err}
use Rattle.scenario_reader.specs.declared.limits.TheConstants.{MOST_LINE_BYTES}
use Rattle.scenario_reader.specs.Checks.{is_text_byte}
use Rattle.scenario_reader.specs.Forms.{form_of}
use Rattle.scenario_reader.specs.Spelling.{bytes_of}
use Rattle.scenario_reader.specs.Words.{Word, words_of}
use Rattle.node_lines.specs.declared.limits.TheConstants.{MOST_FRAME_LINE}
use Rattle.node_lines.specs.declared.refusal.Refusal.TheVariants as refusal
use Rattle.node_lines.specs.declared.refusal.TellFault.{TellFault}
use Rattle.node_lines.specs.declared.refusal.TellFault.TheVariants as fault
use Rattle.node_lines.specs.declared.told.Told.{Told}
use Rattle.node_lines.specs.declared.told.Told.TheVariants as told
use Rattle.node_lines.specs.Commands.{Reading, ◌>>=◌, or_refused, command_of}

-- a line that brings bytes begins so
abbrev pub frame_word : List ℕ
frame_word = codes "frame "

abbrev pub brings_bytes : List ℕ → Bool
brings_bytes line = bytes_eq (take 6 line) frame_word

-- the bytes that it brings
abbrev pub brought_by : List ℕ → Reading Told
brought_by line =
    if nat_lt MOST_FRAME_LINE (length line) then Err refusal.TooLong
    else (or_refused (refusal.Hex 6) (bytes_of (drop 6 line)) >>= λ bytes. Ok (told.Comes bytes))

-- a line of these words
abbrev pub said_by : List Word → Reading Told
said_by [] = Err (refusal.Word 0)
said_by (first ∷ words) = command_of first.place (form_of first.text) words >>= λ c. Ok (told.Does c)

-- where no byte stands that is none of a text
abbrev pub if_text : Option ℕ → List Word → Reading (List Word)
if_text None words = Ok words
if_text (Some place) words = Err (refusal.NotText place)

-- the words of a line that is a text, and no longer than a line of a scenario
abbrev pub text_words : List ℕ → Reading (List Word)
text_words line =
    if nat_lt MOST_LINE_BYTES (length line) then Err refusal.TooLong
    else if_text (position (λ byte. not (is_text_byte byte)) line) (words_of line)

-- the command that it says
abbrev pub commanded_by : List ℕ → Reading Told
commanded_by line = text_words line >>= said_by

-- what a line tells, or why it is none
abbrev pub told_by : List ℕ → Reading Told
told_by line = if brings_bytes line then brought_by line else commanded_by line

-- a fault that is due where this is to be read
abbrev pub IsDue : {A : Type 0} → Reading A → TellFault → Type 0
IsDue read (fault.Refused e) = read ≡ Err e
IsDue read fault.OutOfMemory = Unit {0}

-- this was read, or why it is none; or memory was refused
abbrev pub Reads : {A : Type 0} → Reading A → Result A TellFault → Type 0
Reads read (Ok x) = read ≡ Ok x
Reads read (Err f) = IsDue read f
