-- What a step of the reader owes to the grammar.
use Rattle.std.specs.Prelude.{◌≡◌, ◌⊎◌, Result, Ok, Err}
use Rattle.scenario_reader.specs.declared.fault.LineFault.{LineFault}
use Rattle.scenario_reader.specs.declared.fault.LineFault.TheVariants as fault
use Rattle.group_reader.specs.Plain.{Draft}

-- A step made of a draft what the grammar reads there, or answered its fault; or memory was refused.
abbrev pub Gives : Result Draft LineFault → Result (Unit {0}) LineFault → Draft → Type 0
Gives read (Ok done) new = read ≡ Ok new
Gives read (Err refusal) new = (refusal ≡ fault.OutOfMemory) ⊎ (read ≡ Err refusal)
