use Rattle.std.proofs.Common.{◌≡◌, ◌∙◌, Err, ap}
use Rattle.pastry.specs.declared.outcome.TopFault.TheVariants as fault
use Rattle.pastry.proofs.threads.run_read.Goals as goal

pub returns-in-Err-clause-refused : goal.returns-in-Err-clause-refused
returns-in-Err-clause-refused g c = λ f e.
    let refused = c.refused.ensures.fault in
    let same : c.in-Err.fault ≡ fault.Scenario f = cc in
    c.read_input.ensures.refused f (c.in-Err.is ∙ ap Err same)
