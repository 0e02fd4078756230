use Rattle.std.proofs.Common.{◌≡◌, ◌∙◌, ℕ, Some, None, List, ◌++◌, length, map, option_to_list, slice_get, refl, sym, ap, append-nil, arith}
use Rattle.std.proofs.lemmas.Option.{slice_get_read, slice_get_past}
use Rattle.scenario_reader.specs.declared.node.NodeLine.{NodeLine}
use Rattle.overlay_harness.specs.Fault.{choosing_lines, first_of, least, lines_too_many}
use Rattle.overlay_harness.proofs.Least.{least-push}
use Rattle.overlay_harness.proofs.unfit.first_unfit_line.Goals as goal

pub returns-in-Some : goal.returns-in-Some
returns-in-Some c =
    let nodes : List NodeLine = c.nodes.result.now in
    let node : NodeLine = c.in-Some.node.now in
    let lines : List ℕ = choosing_lines c.args.scenario.now.actions in
    let there : slice_get nodes 64 ≡ Some node = slice_get_read nodes (length nodes) 64 node refl c.in-Some.ensures.lookup.3.0 c.in-Some.ensures.lookup.1 in
    let choosing : c.first_choosing_line-choosing.result ≡ least lines =
    c.first_choosing_line-choosing.ensures ∙ ap (λ ds. least (choosing_lines ds)) c.actions.ensures.value in
    ap Some (c.first_of.ensures ∙ ap (λ first. first_of first node.line) choosing)
    ∙ sym (least-push lines node.line)
    ∙ ap (λ o. least (lines ++ map (λ (n : NodeLine). n.line) (option_to_list o))) (sym there)
    ∙ ap (λ ns. least (lines ++ lines_too_many ns)) c.nodes.ensures.value

pub returns-in-None : goal.returns-in-None
returns-in-None c =
    let nodes : List NodeLine = c.nodes.result.now in
    let lines : List ℕ = choosing_lines c.args.scenario.now.actions in
    let none : slice_get nodes 64 ≡ None = slice_get_past nodes 64 (omega (arith, c.in-None.ensures.lookup.3)) in
    c.first_choosing_line-choosing.ensures
    ∙ ap (λ ds. least (choosing_lines ds)) c.actions.ensures.value
    ∙ ap least (sym (append-nil lines))
    ∙ ap (λ o. least (lines ++ map (λ (n : NodeLine). n.line) (option_to_list o))) (sym none)
    ∙ ap (λ ns. least (lines ++ lines_too_many ns)) c.nodes.ensures.value
