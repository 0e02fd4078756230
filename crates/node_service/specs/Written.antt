-- What became of a text that was offered to a sink: by its calls, and by its bytes where it tells these.
use Rattle.std.specs.Prelude.{◌≡◌, ℕ, List, ◌++◌, Option, Ok, Err}
use Rattle.outside.specs.declared.traits.Taken.{Taken}
use Rattle.outside.specs.declared.writing.WriteFault.{WriteFault}
use Rattle.outside.specs.Sink.{BreaksOff}
use Rattle.outside.specs.Told.{Told}
use Rattle.outside.specs.Writing.{Writes}

-- the whole text was taken
abbrev pub Appends : List ℕ → List ℕ → List ℕ → Type 0
Appends text before after = after ≡ before ++ text

-- the calls took the text to its end, and a sink that tells its bytes has it behind what it had
pub record IsTaken {K : Type 0} (takes : K → List ℕ → Taken → K → Type 0) (taken : K → Option (List ℕ)) (before after : K) (text : List ℕ) : Type 0 where
  pub calls : Writes {E = WriteFault} takes before text (Ok tt) after
  pub told : Told (taken before) (taken after) (Appends text)

-- a call failed, which was the last, and a sink that tells its bytes has the first of the text and not all of it
pub record IsBrokenOff {K : Type 0} (takes : K → List ℕ → Taken → K → Type 0) (taken : K → Option (List ℕ)) (before after : K) (text : List ℕ) : Type 0 where
  pub fault : WriteFault
  pub calls : Writes takes before text (Err fault) after
  pub told : Told (taken before) (taken after) (BreaksOff text)
