use Rattle.std.proofs.Common.{◌∙◌, ◌++◌, ℕ, List, ap, arith, length, subst, sym}
use Rattle.scenario_reader.specs.declared.node.NodeLine.{NodeLine}
use Rattle.scenario_reader.specs.Plain.{PlainScenario}
use Rattle.scribe_core.specs.declared.action.GroupAction.{GroupAction}
use Rattle.scribe_core.specs.declared.note.GroupNote.{GroupNote}
use Rattle.scenario_reader.specs.Plain.{ids}
use Rattle.scribe_core.specs.Actions.{AreActions}
use Rattle.scribe_core.specs.Record.{notes_in}
use Rattle.group_report.specs.Answers.{answer_lines}
use Rattle.group_report.specs.Counts.{counts_of, summary_line}
use Rattle.group_report.specs.Hearings.{hearing_lines}
use Rattle.group_report.proofs.Answering.{numbered}
use Rattle.group_report.proofs.Growing.{Grown, grown_more}
use Rattle.group_report.proofs.put_groups.Goals as goal

pub answer_lines-requires : goal.answer_lines-requires
answer_lines-requires c =
    let actions = c.actions.result.now in
    numbered (ids c.args.script.now.scenario.nodes) 0 (length actions) actions (omega arith)
    (subst (AreActions (ids c.args.script.now.scenario.nodes)) (sym c.actions.ensures.value) c.actions.ensures.rules)

pub returns : goal.returns
returns c =
    let s = c.args.script.now in
    let es = c.args.steps.now in
    let old : List ℕ = c.args.text.now in
    let answers : List ℕ = answer_lines s.actions (notes_in es) in
    let hearings : List ℕ = hearing_lines s.scenario.nodes es in
    let summary : List ℕ = summary_line (counts_of es) in
    let answered : Grown old answers c.answer_lines.new.text = record {
      is = c.in_ok-answer_lines.ensures ∙ ap (λ (done : List GroupAction). old ++ answer_lines done c.notes.result.now) c.actions.ensures.value
          ∙ ap (λ (ns : List GroupNote). old ++ answer_lines s.actions ns) c.notes.ensures;
    } in
    let named = c.in_ok-names.ensures ∙ c.nodes.ensures.value ∙ ap (λ (t : PlainScenario). t.nodes) c.scenario.ensures in
    let heard = grown_more answered hearings
    (c.in_ok-hearing_lines.ensures ∙ ap (λ (nodes : List NodeLine). c.answer_lines.new.text ++ hearing_lines nodes es) named) in
    (grown_more heard summary c.in_ok-put_summary.ensures).is
