use Rattle.std.proofs.Common.{Contains, arith, refl, subst, sym}
use Rattle.scenario_reader.specs.Plain.{ids}
use Rattle.group_reader.specs.Plain.{Draft}
use Rattle.group_reader.proofs.Reading.{keeps_push}
use Rattle.group_reader.proofs.builder.ScriptBuilder.add_command.Goals as goal

pub invariant_of-self-2 : goal.invariant_of-self-2
invariant_of-self-2 c =
    let member = subst (λ (d : Draft). Contains (ids d.scenario.nodes) c.args.node) (sym c.self.view_is) c.requires in
    rw c.in_ok-push.ensures.items (keeps_push _ _ _ _ c.self.invariant (refl, member) refl (omega arith) c.self.invariant.deliveries)
