-- What the words ask for, by what reading them answers.
use Rattle.std.proofs.Common.{◌≡◌, ◌∙◌, ◌⊎◌, inl, inr, subst, sym, List, Option, Some, Result, Ok, Err, refl}
use Rattle.std.specs.Borrow.{Bor}
use Rattle.std.specs.Prelude.{IsOkAnd}
use Rattle.clap.specs.Walk.{Text}
use Rattle.cli_words.specs.declared.mode.Mode.{Mode}
use Rattle.cli_words.specs.declared.mode.WordFault.{WordFault}
use Rattle.cli_words.specs.declared.mode.WordFault.TheVariants.{Usage, OutOfMemory}
use Rattle.cli_words.specs.Command.{AreModes, Reads}
use Rattle.cli_words.specs.Plain.{Piece, ArePlain, mode_by}
use Rattle.pastry.specs.Asked.{AskFor, AreUsage, NamePlainly}

-- what reading the words promises of its answer
pub record WereRead (words : List Text) (result : Result Mode WordFault) : Type 0 where
  pub reads : (result ≡ Err OutOfMemory) ⊎ ((names : Bor (List (Bor Text))) × AreModes names × Reads names words result)
  pub plain : (pieces : List Piece) → ArePlain pieces words → (result ≡ Err OutOfMemory) ⊎ IsOkAnd result (λ mode. mode_by pieces ≡ Some mode)

mode_said : {m : Mode} {said : Option Mode} → (◌≡◌ {A = Result Mode WordFault} (Ok m) (Err OutOfMemory)) ⊎ (said ≡ Some m) → said ≡ Some m
mode_said (inl e) = cc
mode_said (inr e) = e

no_mode : (◌≡◌ {A = Result Mode WordFault} (Err Usage) (Err OutOfMemory)) ⊎ ⊥ → ⊥
no_mode (inl e) = cc
no_mode (inr e) = e

ask_by : (words : List Text) (mode : Mode) →
    (◌≡◌ {A = Result Mode WordFault} (Ok mode) (Err OutOfMemory)) ⊎ ((names : Bor (List (Bor Text))) × AreModes names × Reads names words (Ok mode)) →
    ((pieces : List Piece) → ArePlain pieces words → mode_by pieces ≡ Some mode) → AskFor words mode
ask_by words mode (inl e) plain = cc
ask_by words mode (inr (names, modes, reads)) plain =
    record { names = names; are_modes = modes; taken = reads.ok.0; found = reads.ok.1; plain = plain }

asked : (words : List Text) (mode : Mode) → WereRead words (Ok mode) → AskFor words mode
asked words mode r = ask_by words mode r.reads (λ pieces p. mode_said (r.plain pieces p))

-- a mode that is answered is asked for
pub AskFor-from_read : (words : List Text) (answered mode : Mode) → answered ≡ mode → WereRead words (Ok answered) → AskFor words mode
AskFor-from_read words answered mode is r = subst (AskFor words) is (asked words answered r)

usage_by : (words : List Text) → (◌≡◌ {A = Result Mode WordFault} (Err Usage) (Err OutOfMemory))
    ⊎ ((names : Bor (List (Bor Text))) × AreModes names × Reads names words (Err Usage)) →
    ((pieces : List Piece) → ArePlain pieces words → ⊥) → AreUsage words
usage_by words (inl e) odd = cc
usage_by words (inr (names, modes, reads)) odd = record { names = names; are_modes = modes; refused = reads.usage refl; odd = odd }

usage : (words : List Text) → WereRead words (Err Usage) → AreUsage words
usage words r = usage_by words r.reads (λ pieces p. no_mode (r.plain pieces p))

-- words that are refused are Usage
pub AreUsage-from_read : (words : List Text) (answered : WordFault) → answered ≡ Usage → WereRead words (Err answered) → AreUsage words
AreUsage-from_read words answered is r = usage words (subst (λ (f : WordFault). WereRead words (Err f)) is r)

same : {m n : Mode} → ◌≡◌ {A = Option Mode} (Some m) (Some n) → m ≡ n
same e = cc

-- plain words name the mode that they ask for
pub named_is : (words : List Text) (mode named : Mode) → AskFor words mode → NamePlainly words named → mode ≡ named
named_is words mode named ask plain = same (sym (ask.plain plain.pieces plain.plain) ∙ plain.named)
