-- What the words of the command line ask for: a mode, or nothing where the command refuses them. The command is that of the
-- crate cli_words, and is known but for where the texts of its modes are kept.
use Rattle.std.specs.Prelude.{◌≡◌, ◌≢◌, List, [], Some}
use Rattle.std.specs.Borrow.{Bor}
use Rattle.clap.specs.Walk.{Text}
use Rattle.clap.specs.Faults.{fault_of}
use Rattle.clap.specs.Simple.{matches_of}
use Rattle.cli_words.specs.declared.mode.Mode.{Mode}
use Rattle.cli_words.specs.Command.{AreModes, command_of, mode_of}
use Rattle.cli_words.specs.Plain.{Piece, ArePlain, mode_by}

-- the command takes the words, and what it finds in them is this mode; plain words name it
pub record AskFor (words : List Text) (mode : Mode) : Type 0 where
  pub names : Bor (List (Bor Text))
  pub are_modes : AreModes names
  pub taken : fault_of (command_of names) words ≡ []
  pub found : mode_of (matches_of (command_of names) words) ≡ Some mode
  pub plain : (pieces : List Piece) → ArePlain pieces words → mode_by pieces ≡ Some mode

-- they ask for a mode of which this holds
pub record AskForOneThat (words : List Text) (P : Mode → Type 0) : Type 0 where
  pub mode : Mode
  pub asked : AskFor words mode
  pub holds : P mode

-- the command refuses the words, for another cause than memory; so they are not plain
pub record AreUsage (words : List Text) : Type 0 where
  pub names : Bor (List (Bor Text))
  pub are_modes : AreModes names
  pub refused : fault_of (command_of names) words ≢ []
  pub odd : (pieces : List Piece) → ArePlain pieces words → ⊥

-- plain words that name this mode
pub record NamePlainly (words : List Text) (mode : Mode) : Type 0 where
  pub pieces : List Piece
  pub plain : ArePlain pieces words
  pub named : mode_by pieces ≡ Some mode
