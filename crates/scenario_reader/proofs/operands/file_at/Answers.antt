use Rattle.std.proofs.Common.{◌∙◌, sym, ap}
use Rattle.std.specs.Prelude.{option_map}
use Rattle.scenario_reader.proofs.Outcomes.{IsFile-from_named, IsFileOf-from_named}
use Rattle.scenario_reader.proofs.operands.file_at.Goals as goal

pub returns-in-Some-clause-declared : goal.returns-in-Some-clause-declared
returns-in-Some-clause-declared c =
    IsFile-from_named _ _ _ (sym c.file_named.ensures ∙ ap (option_map (λ file. file.now)) c.in-Some.is)

pub returns-in-Some-clause-with_bytes : goal.returns-in-Some-clause-with_bytes
returns-in-Some-clause-with_bytes c =
    IsFileOf-from_named _ _ _ (sym c.file_named.ensures ∙ ap (option_map (λ file. file.now)) c.in-Some.is)
