use Rattle.std.proofs.Common.{◌∙◌, IfOk, List, All, sym, subst}
use Rattle.std.proofs.lemmas.List.{map-id}
use Rattle.std.proofs.lemmas.Result.{IfOk-weaker}
use Rattle.overlay_rules.specs.declared.entry.Record.{Record}
use Rattle.overlay_rules.specs.Record.{Legal}
use Rattle.weave_laws.specs.AtNode.{IsPartOf}
use Rattle.weave_laws.specs.Cells.{History}
use Rattle.weave_laws.specs.Woven.{IsWoven}
use Rattle.weave.specs.Cells.{AreKept, histories, setting_of}
use Rattle.weave.proofs.Strands.{all_kept}
use Rattle.weave.proofs.Woven.{legal_if_woven, parts_if_woven}
use Rattle.weave.proofs.weaving.into_woven.Goals as goal

pub woven-requires-clause-kept : goal.woven-requires-clause-kept
woven-requires-clause-kept c =
    subst AreKept (sym (map-id c.deref_mut.result.now ∙ c.deref_mut.ensures.value ∙ c.in_ok-strands.ensures.history))
    (all_kept c.args.cells.items c.in_ok-strands.ensures.lawful)

pub returns-clause-legal : goal.returns-clause-legal
returns-clause-legal c = λ founder ring.
    IfOk-weaker c.woven.result (IsWoven (histories c.args.cells.items)) (λ (steps : Record). Legal (setting_of c.args.cells.items founder) steps.entries)
    (legal_if_woven c.args.cells.items founder ring c.in_ok-strands.ensures.lawful)
    (subst (λ (hs : List History). IfOk c.woven.result (IsWoven hs))
    (map-id c.deref_mut.result.now ∙ c.deref_mut.ensures.value ∙ c.in_ok-strands.ensures.history) c.woven.ensures.woven)

pub returns-clause-parts : goal.returns-clause-parts
returns-clause-parts c = λ founder ring.
    IfOk-weaker c.woven.result (IsWoven (histories c.args.cells.items)) (λ (steps : Record). All (IsPartOf steps.entries) (histories c.args.cells.items))
    (parts_if_woven c.args.cells.items founder ring c.in_ok-strands.ensures.lawful)
    (subst (λ (hs : List History). IfOk c.woven.result (IsWoven hs))
    (map-id c.deref_mut.result.now ∙ c.deref_mut.ensures.value ∙ c.in_ok-strands.ensures.history) c.woven.ensures.woven)
