-- What a cell takes in gives it no passes.
use Rattle.std.proofs.Common.{◌==◌, ℕ, List, [], ◌∷◌, map, All, refl, sym, subst}
use Rattle.std.specs.List.{AllZip}
use Rattle.overlay_rules.proofs.Each.{Each, Each-all, Each-from_all}
use Rattle.scenario_reader.specs.declared.action.Action.{Action}
use Rattle.scenario_reader.specs.declared.node.NodeLine.{NodeLine}
use Rattle.weave_laws.specs.Cells.{CellInput, Comes, History}
use Rattle.node_cell.specs.Cell.{Cell, empty_cell, with_input}
use Rattle.weave.specs.Cells.{HasNoPasses}
use Rattle.overlay_harness.specs.Hand.{AllTookUpTo, ServedWhole}
use Rattle.overlay_harness.specs.Stages.{Stage, commands_to}
use Rattle.overlay_harness.specs.Work.{told, with_inputs}

pub without_after : (c : Cell) (inputs : List CellInput) → HasNoPasses c → HasNoPasses (with_inputs c inputs)
without_after c [] h = h
without_after c (i ∷ inputs) h = without_after (with_input c i) inputs h

pub told_without : (actions : List Action) (cells : List Cell) → All HasNoPasses cells → All HasNoPasses (map (told actions) cells)
told_without actions cells h = Each-all HasNoPasses (map (told actions) cells) (each cells (Each-from_all HasNoPasses cells h)) where
  each : (cs : List Cell) → Each HasNoPasses cs → Each HasNoPasses (map (told actions) cs)
  each [] e = tt
  each (c ∷ cs) e = (without_after c (commands_to c.node actions) e.0, each cs e.1)

pub took_without : (ends : List ℕ) (olds news : List Cell) → AllTookUpTo ends olds news → Each HasNoPasses olds → Each HasNoPasses news
took_without [] [] [] t h = tt
took_without [] [] (c ∷ news) t h = absurd t
took_without [] (o ∷ olds) news t h = absurd t
took_without (n ∷ ends) [] news t h = absurd t
took_without (n ∷ ends) (o ∷ olds) [] t h = absurd t
took_without (n ∷ ends) (o ∷ olds) (c ∷ news) t h =
    (subst HasNoPasses (sym t.0.took) (without_after o (map Comes t.0.envelopes) h.0), took_without ends olds news t.1 h.1)

pub whole_without : (s : Stage) (hs : List History) (olds news : List Cell) → AllZip (ServedWhole s hs) olds news → Each HasNoPasses olds →
    Each HasNoPasses news
whole_without s hs [] [] w h = tt
whole_without s hs [] (c ∷ news) w h = absurd w
whole_without s hs (o ∷ olds) [] w h = absurd w
whole_without s hs (o ∷ olds) (c ∷ news) w h = (
  subst HasNoPasses (sym w.0.work.took) (without_after (told s.actions o) w.0.work.frames (without_after o (commands_to o.node s.actions) h.0)),
  whole_without s hs olds news w.1 h.1,
)

pub fresh_without : (founder : ℕ) (lines : List NodeLine) → Each HasNoPasses (map (λ (n : NodeLine). empty_cell n.id (n.id == founder)) lines)
fresh_without founder [] = tt
fresh_without founder (n ∷ lines) = (refl, fresh_without founder lines)
