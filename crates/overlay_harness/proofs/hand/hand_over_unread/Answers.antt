use Rattle.std.proofs.Common.{◌∙◌, ◌<◌, inr, ℕ, Option, IfSome, List, get_or, length, sym, subst, ap}
use Rattle.std.proofs.lemmas.Option.{slice_get-get_or}
use Rattle.overlay_rules.specs.Record.{all_differ}
use Rattle.overlay_rules.proofs.Each.{Each-all, Each-from_all}
use Rattle.node_cell.specs.Cell.{Cell}
use Rattle.node_cell.specs.Taken.{TookBytes}
use Rattle.weave.specs.Cells.{HasNoPasses}
use Rattle.overlay_harness.specs.Hand.{IsNext}
use Rattle.overlay_harness.specs.declared.hand.Waiting.{Waiting}
use Rattle.overlay_harness.proofs.HandOver.{WasHanded, all_done, handed_at_first, handed_less, handed_more, none_yet}
use Rattle.overlay_harness.proofs.Without.{took_without}
use Rattle.overlay_harness.proofs.hand.hand_over_unread.Goals as goal

pub loop-waiting-init : goal.loop-waiting-init
loop-waiting-init c = handed_at_first c.args.ends.now c.args.cells.now c.requires.each

pub next_unread-requires-clause-apart : goal.next_unread-requires-clause-apart
next_unread-requires-clause-apart c = ap all_differ c.loop-waiting.invariant.nodes_are ∙ c.requires.apart

pub next_unread-requires-clause-each : goal.next_unread-requires-clause-each
next_unread-requires-clause-each c = c.requires.each ∙ sym c.loop-waiting.invariant.long

pub handle-requires : goal.handle-requires
handle-requires c =
    let cells : List Cell = c.loop-waiting.cells in
    let within : c.in-Some.waiting.place < length cells =
    subst (λ (o : Option Waiting). IfSome o (λ (w : Waiting). w.place < length cells)) c.in-Some.is c.in_ok-waiting.ensures.within in
    Each-all HasNoPasses cells
    (took_without c.args.ends.now c.args.cells.now cells c.loop-waiting.invariant.took (Each-from_all HasNoPasses c.args.cells.now c.requires.without))
    c.in-Some.waiting.place c.index-cells-waiting.result within

-- the frame that waits is handed over
handed : (c : goal.After-drop-waiting-in-Some) → WasHanded c.loop-waiting.cells c.args.ends.now c.in-Some.waiting.place c.in-Some.waiting.frame
    (get_or c.loop-waiting.cells c.in-Some.waiting.place c.index-cells-waiting.result) c.handle.new.self
handed c =
    let cells : List Cell = c.loop-waiting.cells in
    let place = c.in-Some.waiting.place in
    let within : place < length cells =
    subst (λ (o : Option Waiting). IfSome o (λ (w : Waiting). w.place < length cells)) c.in-Some.is c.in_ok-waiting.ensures.within in
    record {
      next = subst (λ (o : Option Waiting). IfSome o (λ (w : Waiting). IsNext cells c.args.ends.now w.place w.frame)) c.in-Some.is c.in_ok-waiting.ensures.some;
      cell = slice_get-get_or cells place c.index-cells-waiting.result within;
      took = subst (λ (bs : List ℕ). TookBytes (get_or cells place c.index-cells-waiting.result) bs c.handle.new.self) c.as_slice.ensures
          c.in_ok-handle.ensures.ok;
    }

pub loop-waiting-smaller : goal.loop-waiting-smaller
loop-waiting-smaller c =
    handed_less c.args.ends.now c.loop-waiting.cells c.in-Some.waiting.place c.in-Some.waiting.frame
    (get_or c.loop-waiting.cells c.in-Some.waiting.place c.index-cells-waiting.result) c.handle.new.self (handed c)

pub loop-waiting-preserved : goal.loop-waiting-preserved
loop-waiting-preserved c =
    handed_more c.args.ends.now c.args.cells.now c.loop-waiting.cells c.in-Some.waiting.place c.in-Some.waiting.frame
    (get_or c.loop-waiting.cells c.in-Some.waiting.place c.index-cells-waiting.result) c.handle.new.self c.loop-waiting.invariant (handed c)

pub returns-then-branch-clause-took : goal.returns-then-branch-clause-took
returns-then-branch-clause-took c = none_yet c.args.ends.now c.args.cells.now c.requires.each

pub returns-then-branch-clause-done : goal.returns-then-branch-clause-done
returns-then-branch-clause-done c =
    all_done c.args.cells.now c.args.ends.now c.requires.each
    (λ p lt. record { done = λ d n there is. inr (c.in_ok-all_read.ensures.yes c.if-branch.true d.node) })
