-- The words of a line, each with the place of its first byte.
use Rattle.std.specs.Prelude.{ℕ, ◌+◌, ◌==◌, Bool, List, [], ◌∷◌, length}
use Rattle.std.specs.List.{slice_split}
use Rattle.scenario_reader.specs.declared.words.Word.{Word as CodeWord}

pub record Word : Type 0 where
  pub place : ℕ
  pub text : List ℕ

-- a piece at this place before other words: a word, unless it is empty
abbrev pub with_piece : ℕ → List ℕ → List Word → List Word
with_piece place [] words = words
with_piece place (byte ∷ bytes) words = record { place = place; text = byte ∷ bytes } ∷ words

-- the words among pieces, of which the first is at this place and one space stands between each two
abbrev pub words_from : ℕ → List (List ℕ) → List Word
words_from place [] = []
words_from place (piece ∷ pieces) = with_piece place piece (words_from (place + (length piece + 1)) pieces)

abbrev pub is_space : ℕ → Bool
is_space byte = byte == 32

abbrev pub words_of : List ℕ → List Word
words_of line = words_from 0 (slice_split is_space line)

-- a word of the code, as a value
abbrev pub plain_word : CodeWord → Word
plain_word word = record { place = word.place; text = word.text.now }
