use Rattle.std.proofs.Common.{ap, arith, refl}
use Rattle.group_reader.specs.Plain.{Draft}
use Rattle.group_reader.proofs.Reading.{keeps_push}
use Rattle.group_reader.proofs.builder.ScriptBuilder.add_delivery.Goals as goal

pub invariant_of-self-2 : goal.invariant_of-self-2
invariant_of-self-2 c =
    let same = ap (λ (d : Draft). d.deliveries) c.self.view_is in
    rw c.in_ok-push.ensures.items (keeps_push _ _ _ _ c.self.invariant tt refl (omega arith) (omega (arith, same, c.requires)))
