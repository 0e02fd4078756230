use Rattle.std.proofs.Common.{arith, ◌∙◌, sym}
use Rattle.std.proofs.lemmas.Bool.{eq-eqb, eqb-true}
use Rattle.trace_text.proofs.Vectors.{mask_from_small, mask_is, small_from_mask}
use Rattle.trace_text.proofs.lanes.are_small.Goals as goal

pub returns-clause-yes : goal.returns-clause-yes
returns-clause-yes c = λ is k h. small_from_mask c.args.lanes (sym (mask_is c.args.lanes c.fits-lanes.0) ∙ eqb-true _ 0 is) k (omega (arith, c.fits-lanes.0, h))

pub returns-clause-no : goal.returns-clause-no
returns-clause-no c = λ small. eq-eqb _ 0
    (mask_is c.args.lanes c.fits-lanes.0 ∙ mask_from_small c.args.lanes (λ k h. small k (omega (arith, c.fits-lanes.0, h))))
