use Rattle.std.proofs.Common.{◌≡◌, ◌++◌, List, ℕ, take, ap, subst, ◌∙◌}
use Rattle.std.specs.Prelude.{OnOk}
use Rattle.overlay_rules.specs.Record.{world_after}
use Rattle.step_facts.specs.Setting.{setting}
use Rattle.svg_text.specs.declared.point.Point.{Point}
use Rattle.svg_text.specs.Picture.{text_of}
use Rattle.svg_text.proofs.Written.{two_written}
use Rattle.ring_picture.specs.Ring.{ring_picture}
use Rattle.trace_picture.specs.Keys.{keys_in}
use Rattle.trace_picture.specs.Picture.{verdict_place}
use Rattle.trace_picture.specs.Verdicts.{verdict_picture}
use Rattle.trace_picture.proofs.drawing.put_left.Goals as goal

pub returns : goal.returns
returns c =
    let es = c.args.trace.now.steps.entries in
    let n : ℕ = c.args.shown in
    let founder : ℕ = c.args.trace.now.founder in
    let keys : c.deref.result.now ≡ keys_in (take n es) = c.deref.ensures.value ∙ c.in_ok-keys.ensures in
    let nodes : c.as_slice-nodes.result.now ≡ c.args.trace.now.nodes = c.as_slice-nodes.ensures in
    two_written c.put_verdict.result _ _ _ _ _
    (c.in_ok-put_ring.ensures (world_after (setting c.as_slice-nodes.result.now founder) es n).states c.in_ok-cells.ensures.stand
    ∙ ap (λ (ks : List ℕ). c.args.text.now
    ++ text_of (ring_picture c.as_slice-nodes.result.now (world_after (setting c.as_slice-nodes.result.now founder) es n).states ks n)) keys
    ∙ ap (λ (xs : List ℕ). c.args.text.now ++ text_of (ring_picture xs (world_after (setting xs founder) es n).states (keys_in (take n es)) n)) nodes)
    (subst (λ (at : Point). OnOk c.put_verdict.result (c.put_verdict.new.text ≡ c.put_ring.new.text ++ text_of (verdict_picture at c.args.verdict.now)))
    (c.verdict_place.ensures ∙ ap verdict_place nodes) c.put_verdict.ensures)
