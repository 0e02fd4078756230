-- What the words of a command to the node itself say.
use Rattle.std.specs.Prelude.{ℕ, ◌+◌, nat_lt, if◌then◌else◌, List, [], ◌∷◌, length, Option, Some, None, Result, Ok, Err}
use Rattle.std.specs.Result.{result_ok}
use Rattle.hex.specs.Hex.{decode_sized}
use Rattle.ring_math.specs.Keys.{file_of}
use Rattle.ring_math.specs.declared.limits.TheConstants.{MOST_BYTES}
use Rattle.wire_msg.specs.declared.limits.TheConstants.{MOST_COPIES}
use Rattle.wire_msg.specs.declared.command.Command.{Command}
use Rattle.wire_msg.specs.declared.command.Command.TheVariants as command
use Rattle.scenario_reader.specs.declared.form.Form.{Form}
use Rattle.scenario_reader.specs.declared.form.Form.TheVariants as form
use Rattle.scenario_reader.specs.declared.limits.TheConstants.{MOST_NAME_BYTES}
use Rattle.scenario_reader.specs.Checks.{is_outside}
use Rattle.scenario_reader.specs.Spelling.{number_of, bytes_of, salt_of, identifier_of}
use Rattle.scenario_reader.specs.Words.{Word}
use Rattle.node_lines.specs.declared.refusal.Refusal.{Refusal}
use Rattle.node_lines.specs.declared.refusal.Refusal.TheVariants as refusal

-- what is read, or why it is none
abbrev pub Reading : Type 0 → Type 0
Reading A = Result A Refusal

infixl 10 ◌>>=◌
abbrev pub ◌>>=◌ : {A B : Type 0} → Reading A → (A → Reading B) → Reading B
(Ok x) >>= f = f x
(Err e) >>= f = Err e

abbrev pub or_refused : {A : Type 0} → Refusal → Option A → Reading A
or_refused e None = Err e
or_refused e (Some x) = Ok x

-- the identifier that a word spells
abbrev pub id_in : Word → Reading ℕ
id_in word = or_refused (refusal.Hex word.place) (identifier_of word.text)

-- the identifier of a file: 40 hexadecimal digits
abbrev pub file_in : Word → Reading (List ℕ)
file_in word = or_refused (refusal.Hex word.place) (result_ok (decode_sized word.text 20))

abbrev pub salt_in : Word → Reading (List ℕ)
salt_in word = or_refused (refusal.Hex word.place) (salt_of word.text)

-- the bytes that a word spells, `-` for none: no more than so many
abbrev pub not_above : ℕ → ℕ → List ℕ → Reading (List ℕ)
not_above most place bytes = if nat_lt most (length bytes) then Err (refusal.Limit place) else Ok bytes

abbrev pub bytes_in : ℕ → Word → Reading (List ℕ)
bytes_in most word = or_refused (refusal.Hex word.place) (bytes_of word.text) >>= λ bytes. not_above most word.place bytes

-- how many copies a word asks for
abbrev pub copies_from : ℕ → ℕ → Reading ℕ
copies_from place n = if is_outside 1 MOST_COPIES n then Err (refusal.Limit place) else Ok n

abbrev pub copies_in : Word → Reading ℕ
copies_in word = or_refused (refusal.Number word.place) (number_of word.text) >>= λ n. copies_from word.place n

-- so many words behind the first are not as many as are wanted
abbrev pub wrong_count : List Word → Reading Command
wrong_count words = Err (refusal.Count (length words + 1))

-- the words behind the first, by form
abbrev pub join_of : List Word → Reading Command
join_of (via ∷ []) = id_in via >>= λ x. Ok (command.Join x)
join_of words = wrong_count words

abbrev pub lookup_of : List Word → Reading Command
lookup_of (key ∷ []) = id_in key >>= λ k. Ok (command.Lookup k)
lookup_of words = wrong_count words

abbrev pub insert_of : List Word → Reading Command
insert_of (name ∷ owner ∷ salt ∷ content ∷ copies ∷ []) = do
  n ← bytes_in MOST_NAME_BYTES name
  o ← bytes_in MOST_NAME_BYTES owner
  s ← salt_in salt
  b ← bytes_in MOST_BYTES content
  k ← copies_in copies
  Ok (command.Insert (file_of n o s) k b)
insert_of words = wrong_count words

abbrev pub fetch_of : List Word → Reading Command
fetch_of (file ∷ []) = file_in file >>= λ f. Ok (command.Fetch f)
fetch_of words = wrong_count words

abbrev pub reclaim_of : List Word → Reading Command
reclaim_of (file ∷ []) = file_in file >>= λ f. Ok (command.Reclaim f)
reclaim_of words = wrong_count words

abbrev pub giveup_of : List Word → Reading Command
giveup_of [] = Ok command.GiveUp
giveup_of words = wrong_count words

-- a command of this form, whose first word stands at this place
abbrev pub command_of : ℕ → Option Form → List Word → Reading Command
command_of place (Some form.Join) words = join_of words
command_of place (Some form.Lookup) words = lookup_of words
command_of place (Some form.Insert) words = insert_of words
command_of place (Some form.Fetch) words = fetch_of words
command_of place (Some form.Reclaim) words = reclaim_of words
command_of place (Some form.GiveUp) words = giveup_of words
command_of place other words = Err (refusal.Word place)
