-- What was read of a source: a scenario or a script of groups, or what is none.
use Rattle.std.specs.Prelude.{◌≡◌, ◌≢◌, ◌≤◌, ℕ, List, [], take, drop, length, Option, Result, Ok, Err}
use Rattle.outside.specs.Told.{Told}
use Rattle.pastry.specs.declared.reading.TheConstants.{INPUT_LIMIT, SCRIPT_LIMIT}
use Rattle.scenario_reader.specs.declared.fault.LineFault.{LineFault}
use Rattle.scenario_reader.specs.declared.fault.LineFault.TheVariants as line_fault
use Rattle.scenario_reader.specs.Grammar.{scenario_of}
use Rattle.scenario_reader.specs.Plain.{PlainScenario}
use Rattle.group_reader.specs.Grammar.{groups_of}
use Rattle.group_reader.specs.Plain.{PlainScript}

-- these bytes were read of what a source had left: all of it, but no more than a limit
pub record WasRead (limit : ℕ) (before after : Option (List ℕ)) (bytes : List ℕ) : Type 0 where
  pub told : Told before after (λ xs ys. (bytes ≡ take limit xs) × (ys ≡ drop limit xs))
  pub within : length bytes ≤ limit

-- all that the source had left was read
pub record WasReadToEnd (before after : Option (List ℕ)) (bytes : List ℕ) : Type 0 where
  pub told : Told before after (λ xs ys. (bytes ≡ xs) × (ys ≡ []))

-- what was read, up to a limit, is refused by a language, for this fault
pub record IsRefusedBy {A : Type 0} (language : List ℕ → Result A LineFault) (limit : ℕ) (before after : Option (List ℕ)) (f : LineFault) : Type 0 where
  pub bytes : List ℕ
  pub read : WasRead limit before after bytes
  pub refused : language bytes ≡ Err f
  pub real : f ≢ line_fault.OutOfMemory

-- what was read is this in a language
pub record IsReadAs {A : Type 0} (language : List ℕ → Result A LineFault) (before after : Option (List ℕ)) (s : A) : Type 0 where
  pub bytes : List ℕ
  pub read : WasReadToEnd before after bytes
  pub is : language bytes ≡ Ok s

abbrev pub IsRefused : Option (List ℕ) → Option (List ℕ) → LineFault → Type 0
IsRefused before after f = IsRefusedBy scenario_of INPUT_LIMIT before after f

abbrev pub IsScenario : Option (List ℕ) → Option (List ℕ) → PlainScenario → Type 0
IsScenario before after s = IsReadAs scenario_of before after s

abbrev pub IsRefusedScript : Option (List ℕ) → Option (List ℕ) → LineFault → Type 0
IsRefusedScript before after f = IsRefusedBy groups_of SCRIPT_LIMIT before after f

abbrev pub IsScript : Option (List ℕ) → Option (List ℕ) → PlainScript → Type 0
IsScript before after s = IsReadAs groups_of before after s
