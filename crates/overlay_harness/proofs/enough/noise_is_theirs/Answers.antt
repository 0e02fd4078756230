use Rattle.std.proofs.Common.{◌≡◌, ◌≤◌, ◌+◌, ◌-◌, ℕ, ◌∙◌, ◌++◌, ◌∷◌, [], Some, List, All, map, take, sym, subst, ap, arith}
use Rattle.std.specs.List.{count_by}
use Rattle.std.proofs.lemmas.List.{map_more, take_all}
use Rattle.std.proofs.lemmas.Option.{slice_get-get_or}
use Rattle.overlay_rules.proofs.Each.{Each-all, Each-append, Each-from_all}
use Rattle.ring_math.specs.Names.{Id}
use Rattle.weave_laws.specs.Cells.{CellEntry, History}
use Rattle.node_cell.specs.Cell.{Cell}
use Rattle.node_cell.specs.Entries.{plain_history, plain_input_of}
use Rattle.node_cell.specs.declared.entry.CellEntry.{CellEntry as CodeEntry}
use Rattle.weave.specs.Cells.{histories, kept_history}
use Rattle.overlay_harness.specs.Clauses.{HasItsNoise}
use Rattle.overlay_harness.specs.Inputs.{is_noise}
use Rattle.overlay_harness.specs.Ran.{inputs_in}
use Rattle.overlay_harness.specs.Shown.{shown}
use Rattle.overlay_harness.specs.Stages.{Stage, noise_for}
use Rattle.overlay_harness.proofs.Counting.{noise_counted}
use Rattle.overlay_harness.proofs.HandOver.{history_there}
use Rattle.overlay_harness.proofs.enough.noise_is_theirs.Goals as goal

-- how often noise came to the cell past what the stages have for it, through what the code looks at
past : (ss : List Stage) (cell : Cell) (looked_at : List CodeEntry) (x : Id) (n left : ℕ) → plain_history looked_at ≡ cell.history → x ≡ cell.node →
    n ≡ count_by (λ (e : CodeEntry). is_noise (plain_input_of e.input)) looked_at → left ≡ n - noise_for x ss →
    left ≡ count_by is_noise (inputs_in (kept_history cell)) - noise_for cell.node ss
past ss cell looked_at x n left history node came is =
    is
    ∙ ap (λ (y : Id). n - noise_for y ss) node
    ∙ ap (λ (m : ℕ). m - noise_for cell.node ss)
    (came ∙ noise_counted looked_at ∙ ap (λ (es : List CellEntry). count_by is_noise (map (λ (e : CellEntry). e.input) es)) history)

pub loop-cell-preserved : goal.loop-cell-preserved
loop-cell-preserved c =
    let cells : List Cell = c.args.cells.now in
    let ss : List Stage = map shown c.args.stages.now in
    let i = c.loop-cell.cell-index in
    let cell : Cell = c.cell-item.result in
    let P : History → Type 0 = λ h. HasItsNoise ss h.node (inputs_in h) in
    let next : histories (take (i + 1) cells) ≡ histories (take i cells) ++ kept_history cell ∷ [] =
    map_more kept_history cells i cell c.loop-cell-test.true
    ∙ ap (λ (d : Cell). histories (take i cells) ++ kept_history d ∷ []) (sym c.cell-item.is) in
    let none =
    past ss cell c.history.result.now c.me.result c.noise_in-came.result c.noise_past.result c.history.ensures.value c.me.ensures c.noise_in-came.ensures
    c.noise_past.ensures in
    let own : count_by is_noise (inputs_in (kept_history cell)) ≤ noise_for cell.node ss = omega arith in
    subst (All P) (sym next)
    (Each-all P (histories (take i cells) ++ kept_history cell ∷ [])
    (Each-append P (histories (take i cells)) (kept_history cell ∷ []) (Each-from_all P (histories (take i cells)) c.loop-cell.invariant) (own, tt)))

pub returns-then-noise_past-gt0-clause-more : goal.returns-then-noise_past-gt0-clause-more
returns-then-noise_past-gt0-clause-more c = λ _.
    let cells : List Cell = c.args.cells.now in
    let i = c.loop-cell.cell-index in
    let cell : Cell = c.cell-item.result in
    let some =
    past (map shown c.args.stages.now) cell c.history.result.now c.me.result c.noise_in-came.result c.noise_past.result c.history.ensures.value c.me.ensures
    c.noise_in-came.ensures c.noise_past.ensures in
    record {
      history = kept_history cell;
      among = history_there cells i cell (slice_get-get_or cells i cell c.loop-cell-test.true ∙ ap Some (sym c.cell-item.is));
      more = omega arith;
    }

pub returns-clause-kept : goal.returns-clause-kept
returns-clause-kept c = λ yes.
    let P : History → Type 0 = λ h. HasItsNoise (map shown c.args.stages.now) h.node (inputs_in h) in
    subst (λ (cells : List Cell). All P (histories cells)) (take_all c.loop-cell.cell-index c.args.cells.now (omega arith)) c.loop-cell.invariant
