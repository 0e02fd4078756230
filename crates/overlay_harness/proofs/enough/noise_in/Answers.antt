use Rattle.std.proofs.Common.{◌≡◌, ◌∙◌, ℕ, Bool, List, cond, get_or, ap, arith}
use Rattle.std.specs.List.{count_by}
use Rattle.std.proofs.lemmas.List.{take_all}
use Rattle.std.proofs.lemmas.List.Sums.{sum_by_more}
use Rattle.node_cell.specs.Entries.{plain_input_of}
use Rattle.node_cell.specs.declared.entry.CellEntry.{CellEntry}
use Rattle.overlay_harness.specs.Inputs.{is_noise}
use Rattle.overlay_harness.proofs.enough.noise_in.Goals as goal
use Rattle.overlay_harness.proofs.enough.noise_in.Goals.{then-is_noise, else-is_noise}

abbrev one_if : Bool → ℕ
one_if noise = cond noise 1 0

abbrev weight : CellEntry → ℕ
weight e = one_if (is_noise (plain_input_of e.input))

pub loop-entry-preserved : goal.loop-entry-preserved
loop-entry-preserved c =
    let i = c.loop-entry.entry-index in
    let item : CellEntry = c.entry-item.result in
    let more = sum_by_more weight c.args.history.now i item c.loop-entry-test.true in
    let here : weight item ≡ weight (get_or c.args.history.now i item) = ap weight c.entry-item.is in
    let told : one_if c.is_noise.result ≡ weight item = ap one_if c.is_noise.ensures in
    let few = c.loop-entry.invariant.few in
    let so_far = c.loop-entry.invariant.counted in
    elim c.if-is_noise.branch [
      | then-is_noise w ↦
          let one : one_if c.is_noise.result ≡ 1 = ap one_if w.if-is_noise.true in
          let now = w.count-is in
          record { few = omega arith; counted = omega arith }
      | else-is_noise w ↦
          let none : one_if c.is_noise.result ≡ 0 = ap one_if w.if-is_noise.false in
          let now = w.count-is in
          record { few = omega arith; counted = omega arith }
    ]

pub returns : goal.returns
returns c =
    c.loop-entry.invariant.counted
    ∙ ap (λ (es : List CellEntry). count_by (λ (e : CellEntry). is_noise (plain_input_of e.input)) es)
    (take_all c.loop-entry.entry-index c.args.history.now (omega arith))
