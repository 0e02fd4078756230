-- What a reading answers to plain words.
use Rattle.std.proofs.Common.{◌≡◌, ◌⊎◌, inl, inr, ◌∙◌, sym, List, Some, Result, Ok, Err, refl}
use Rattle.std.specs.Borrow.{Bor}
use Rattle.std.specs.Prelude.{IsOkAnd}
use Rattle.clap.specs.Walk.{Text}
use Rattle.cli_words.specs.declared.mode.Mode.{Mode}
use Rattle.cli_words.specs.declared.mode.WordFault.{WordFault}
use Rattle.cli_words.specs.declared.mode.WordFault.TheVariants.{Usage, OutOfMemory}
use Rattle.cli_words.specs.Command.{AreModes, Reads}
use Rattle.cli_words.specs.Plain.{Piece, ArePlain, mode_by}
use Rattle.cli_words.proofs.PlainWords.{plain_passes, plain_mode}

pub plain_answer : (words : List Text) (result : Result Mode WordFault) →
    (result ≡ Err OutOfMemory) ⊎ ((names : Bor (List (Bor Text))) × AreModes names × Reads names words result) →
    (pieces : List Piece) → ArePlain pieces words → (result ≡ Err OutOfMemory) ⊎ IsOkAnd result (λ mode. mode_by pieces ≡ Some mode)
plain_answer words result (inl memory) pieces plain = inl memory
plain_answer words (Ok mode) (inr (names, modes, reads)) pieces plain =
    inr (sym (plain_mode names modes pieces words plain) ∙ reads.ok.1)
plain_answer words (Err OutOfMemory) (inr (names, modes, reads)) pieces plain = inl refl
plain_answer words (Err Usage) (inr (names, modes, reads)) pieces plain =
    absurd (reads.usage refl (plain_passes names modes pieces words plain))
