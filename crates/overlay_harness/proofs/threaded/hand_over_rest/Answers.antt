use Rattle.std.proofs.Common.{◌≡◌, ◌∙◌, List, All, length, map, sym, subst, ap}
use Rattle.std.proofs.lemmas.List.{length-map}
use Rattle.overlay_rules.specs.Record.{all_differ}
use Rattle.overlay_rules.proofs.Each.{Each-all}
use Rattle.weave_laws.specs.Cells.{nodes_of}
use Rattle.node_cell.specs.Cell.{Cell}
use Rattle.node_cell.specs.Gathering.{without_passes}
use Rattle.node_cell.proofs.Gathered.{same_histories}
use Rattle.weave.specs.Cells.{HasNoPasses, nodes}
use Rattle.overlay_harness.specs.Hand.{AllTookUpTo}
use Rattle.overlay_harness.proofs.Finishing.{without_all}
use Rattle.overlay_harness.proofs.threaded.hand_over_rest.Goals as goal

-- the nodes stay
same_nodes : (olds mids : List Cell) → mids ≡ map without_passes olds → nodes mids ≡ nodes olds
same_nodes olds mids e = ap nodes e ∙ ap nodes_of (same_histories olds)

pub hand_over_unread-requires-clause-apart : goal.hand_over_unread-requires-clause-apart
hand_over_unread-requires-clause-apart g c =
    ap all_differ (same_nodes c.args.cells.now c.gather-passes.new.cells c.gather-passes.ensures.cells) ∙ c.requires.gather.apart

pub hand_over_unread-requires-clause-without : goal.hand_over_unread-requires-clause-without
hand_over_unread-requires-clause-without g c =
    subst (All HasNoPasses) (sym c.gather-passes.ensures.cells)
    (Each-all HasNoPasses (map without_passes c.args.cells.now) (without_all c.args.cells.now))

pub hand_over_unread-requires-clause-each : goal.hand_over_unread-requires-clause-each
hand_over_unread-requires-clause-each g c =
    c.requires.each ∙ sym (ap length c.gather-passes.ensures.cells ∙ length-map c.args.cells.now without_passes)

pub returns : goal.returns
returns g c = record {
  took = subst (λ (mids : List Cell). AllTookUpTo c.args.ends.now mids c.hand_over_unread.new.cells) c.gather-passes.ensures.cells
      c.in_ok-hand_over_unread.ensures.took;
  done = c.in_ok-hand_over_unread.ensures.done;
  sent = c.in_ok-hand_over_unread.ensures.sent c.gather-passes.ensures.sent;
  nodes_are = c.hand_over_unread.ensures.nodes ∙ same_nodes c.args.cells.now c.gather-passes.new.cells c.gather-passes.ensures.cells;
  lawful = c.cells_law.ensures;
}
