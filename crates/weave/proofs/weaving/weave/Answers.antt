use Rattle.std.proofs.Common.{◌∙◌, IfOk, List, All, ap, map, sym, subst}
use Rattle.std.proofs.lemmas.Result.{IfOk-weaker}
use Rattle.overlay_rules.specs.declared.entry.Record.{Record}
use Rattle.overlay_rules.specs.Record.{Legal}
use Rattle.weave_laws.specs.AtNode.{IsPartOf}
use Rattle.weave_laws.specs.Cells.{History}
use Rattle.weave_laws.specs.Woven.{IsWoven}
use Rattle.weave.specs.Cells.{AreKept, histories, kept_history, setting_of}
use Rattle.weave.proofs.Strands.{all_kept}
use Rattle.weave.proofs.Woven.{legal_if_woven, parts_if_woven}
use Rattle.weave.proofs.weaving.weave.Goals as goal

pub woven-requires-clause-kept : goal.woven-requires-clause-kept
woven-requires-clause-kept c =
    subst AreKept (sym (ap (map (λ d. kept_history d.now)) c.deref_mut.ensures.value ∙ c.in_ok-strands.ensures.history))
    (all_kept c.args.cells.now c.in_ok-strands.ensures.lawful)

pub returns-clause-legal : goal.returns-clause-legal
returns-clause-legal c = λ founder ring.
    IfOk-weaker c.woven.result (IsWoven (histories c.args.cells.now)) (λ (steps : Record). Legal (setting_of c.args.cells.now founder) steps.entries)
    (legal_if_woven c.args.cells.now founder ring c.in_ok-strands.ensures.lawful)
    (subst (λ (hs : List History). IfOk c.woven.result (IsWoven hs))
    (ap (map (λ d. kept_history d.now)) c.deref_mut.ensures.value ∙ c.in_ok-strands.ensures.history) c.woven.ensures.woven)

pub returns-clause-parts : goal.returns-clause-parts
returns-clause-parts c = λ founder ring.
    IfOk-weaker c.woven.result (IsWoven (histories c.args.cells.now)) (λ (steps : Record). All (IsPartOf steps.entries) (histories c.args.cells.now))
    (parts_if_woven c.args.cells.now founder ring c.in_ok-strands.ensures.lawful)
    (subst (λ (hs : List History). IfOk c.woven.result (IsWoven hs))
    (ap (map (λ d. kept_history d.now)) c.deref_mut.ensures.value ∙ c.in_ok-strands.ensures.history) c.woven.ensures.woven)
