-- Cells of a run after its last stage: their passes are gathered, and what is left is handed over.
use Rattle.std.proofs.Common.{◌≡◌, ◌≤◌, ◌⊎◌, inl, inr, ℕ, ◌+◌, ◌==◌, true, List, [], ◌∷◌, ◌++◌, map, length, Contains, refl, sym, subst, ap, ◌∙◌, arith}
use Rattle.std.specs.List.{AllZip}
use Rattle.std.proofs.lemmas.List.{length-map}
use Rattle.ring_math.specs.Names.{Id}
use Rattle.overlay_rules.specs.Record.{all_differ}
use Rattle.overlay_rules.proofs.Each.{Each, Each-all, Each-from_all, Each-itself}
use Rattle.scenario_reader.specs.Plain.{PlainScenario}
use Rattle.scenario_reader.specs.Rules.{KeepsRules}
use Rattle.weave_laws.specs.Cells.{CellEntry, CellInput, Comes, History, IsFor, nodes_of}
use Rattle.node_mailbox.specs.Pass.{PassView}
use Rattle.node_mailbox.specs.Post.{PostView}
use Rattle.node_cell.specs.Cell.{Cell}
use Rattle.node_cell.specs.Equipped.{HasPassesOf}
use Rattle.node_cell.specs.Gathering.{without_passes}
use Rattle.weave.specs.Cells.{HasNoPasses, IsLawful, histories, kept_history}
use Rattle.overlay_harness.specs.Along.{RanAlong}
use Rattle.overlay_harness.specs.Clauses.{IsServed}
use Rattle.overlay_harness.specs.Driven.{HaveRunSoFar, MayBeGathered, RanSoFar, WereHandedOver, cells_of, end_budget, ends_of, frames_of}
use Rattle.overlay_harness.specs.Hand.{AllTookUpTo, IsDone, TookUpTo}
use Rattle.overlay_harness.specs.Inputs.{frames_in}
use Rattle.overlay_harness.specs.Ran.{SentInTime, inputs_in}
use Rattle.overlay_harness.specs.Served.{IsServedTo, ServedTo}
use Rattle.overlay_harness.specs.Stages.{Stage, last_budget}
use Rattle.overlay_harness.specs.declared.worker.Worker.{Worker}
use Rattle.overlay_harness.proofs.Along.{all_frames, along_frames, frames-append}
use Rattle.overlay_harness.proofs.Ending.{all_addressed_by}
use Rattle.overlay_harness.proofs.Made.{own_nodes}
use Rattle.overlay_harness.proofs.Serving.{come_as_frames, length_after, none_missing}
use Rattle.overlay_harness.proofs.Without.{took_without}
use Rattle.overlay_harness.proofs.Working.{founder_after, inputs_after, node_after}

-- ---- they may be gathered

passes_of_all : (post : PostView) (stages : List Stage) (workers : List Worker) → Each (RanSoFar post stages) workers →
    Each (HasPassesOf post) (cells_of workers)
passes_of_all post stages [] h = tt
passes_of_all post stages (w ∷ workers) h = (h.0.at_work.passes, passes_of_all post stages workers h.1)

pub may_be_gathered : (s : PlainScenario) (post : PostView) (stages : List Stage) (own : List PassView) (workers : List Worker) → KeepsRules s →
    HaveRunSoFar s post stages own workers → MayBeGathered post own (cells_of workers)
may_be_gathered s post stages own workers rules h = record {
  apart = own_nodes s (cells_of workers) rules h.cells_are;
  count = sym (length-map (cells_of workers) kept_history)
      ∙ sym (length-map (histories (cells_of workers)) (λ (k : History). k.node))
      ∙ ap length (h.cells_are.nodes_are ∙ sym h.nodes);
  passes = Each-all (HasPassesOf post) (cells_of workers) (passes_of_all post stages workers (Each-from_all (RanSoFar post stages) workers h.each));
  driven = h.driven;
}

-- ---- one node

served_after : (post : PostView) (stages : List Stage) (hs : List History) (w : Worker) (new : Cell) → last_budget stages ≤ end_budget stages →
    all_differ (nodes_of hs) ≡ true → Each (λ (h : History). Each (λ (e : CellEntry). IsFor h.node e.input) h.entries) hs → Contains hs (kept_history new) →
    RanSoFar post stages w → TookUpTo (length w.cell.history + w.left) (without_passes w.cell) new → IsDone hs (length w.cell.history + w.left) new →
    ServedTo stages hs (kept_history new)
served_after post stages hs w new last d addressed there r t done = record {
  along = subst (λ x. RanAlong stages x (inputs_in (kept_history new))) (sym node)
      (subst (RanAlong stages w.cell.node) (sym inputs)
      (along_frames stages w.cell.node (inputs_in (kept_history w.cell)) came r.along (come_as_frames t.envelopes)
      (let few = r.within in let some = few_came t.few in omega arith)));
  served = served done;
} where
  came : List CellInput
  came = map Comes t.envelopes

  node : new.node ≡ w.cell.node
  node = ap (λ (c : Cell). c.node) t.took ∙ node_after (without_passes w.cell) came

  inputs : inputs_in (kept_history new) ≡ inputs_in (kept_history w.cell) ++ came
  inputs = ap (λ (c : Cell). inputs_in (kept_history c)) t.took ∙ inputs_after (without_passes w.cell) came

  long : length new.history ≡ length w.cell.history + length came
  long = ap (λ (c : Cell). length c.history) t.took ∙ length_after (without_passes w.cell) came

  few_came : (length new.history ≤ length w.cell.history + w.left) ⊎ (t.envelopes ≡ []) → length came ≤ w.left
  few_came (inl le) = let e = long in omega arith
  few_came (inr none) = let e : length came ≡ 0 = ap (λ vs. length (map Comes vs)) none in omega arith

  counted : frames_in (inputs_in (kept_history new)) ≡ frames_of w.cell + length came
  counted =
      let all : frames_in (inputs_in (kept_history new)) ≡ frames_in (inputs_in (kept_history w.cell) ++ came) = ap frames_in inputs in
      let one = frames-append (inputs_in (kept_history w.cell)) came in
      let own = all_frames came (come_as_frames t.envelopes) in
      omega arith

  served : IsDone hs (length w.cell.history + w.left) new → IsServed stages (SentInTime stages hs) new.node (inputs_in (kept_history new))
  served (inl full) = inl (let e = long in let f = counted in let g = r.full in omega arith)
  served (inr read) = inr (none_missing stages hs (kept_history new) d addressed there read)

-- ---- all nodes

all_served_after : (post : PostView) (stages : List Stage) (hs : List History) (ws : List Worker) (ns : List Cell) → last_budget stages ≤ end_budget stages →
    all_differ (nodes_of hs) ≡ true → Each (λ (h : History). Each (λ (e : CellEntry). IsFor h.node e.input) h.entries) hs → Each (RanSoFar post stages) ws →
    AllTookUpTo (ends_of ws) (map without_passes (cells_of ws)) ns → AllZip (IsDone hs) (ends_of ws) ns → Each (Contains hs) (histories ns) →
    Each (ServedTo stages hs) (histories ns)
all_served_after post stages hs [] [] last d addressed r t z c = tt
all_served_after post stages hs [] (n ∷ ns) last d addressed r t z c = absurd t
all_served_after post stages hs (w ∷ ws) [] last d addressed r t z c = absurd t
all_served_after post stages hs (w ∷ ws) (n ∷ ns) last d addressed r t z c = (
  served_after post stages hs w n last d addressed c.0 r.0 t.0 z.0,
  all_served_after post stages hs ws ns last d addressed r.1 t.1 z.1 c.1,
)

founders_after : (founder : Id) (ends : List ℕ) (olds news : List Cell) → AllTookUpTo ends (map without_passes olds) news →
    Each (λ (c : Cell). c.is_founder ≡ (c.node == founder)) olds → Each (λ (c : Cell). c.is_founder ≡ (c.node == founder)) news
founders_after founder [] [] [] t h = tt
founders_after founder [] [] (n ∷ news) t h = absurd t
founders_after founder [] (o ∷ olds) news t h = absurd t
founders_after founder (e ∷ ends) [] news t h = absurd t
founders_after founder (e ∷ ends) (o ∷ olds) [] t h = absurd t
founders_after founder (e ∷ ends) (o ∷ olds) (n ∷ news) t h = (
  ap (λ (c : Cell). c.is_founder) t.0.took
      ∙ founder_after (without_passes o) (map Comes t.0.envelopes)
      ∙ h.0
      ∙ ap (λ x. x == founder) (sym (ap (λ (c : Cell). c.node) t.0.took ∙ node_after (without_passes o) (map Comes t.0.envelopes))),
  founders_after founder ends olds news t.1 h.1,
)

pub without_all : (cells : List Cell) → Each HasNoPasses (map without_passes cells)
without_all [] = tt
without_all (c ∷ cells) = (refl, without_all cells)

-- cells that ran the stages are served to them, once what is left is handed over
pub served_to_end : (s : PlainScenario) (post : PostView) (stages : List Stage) (own : List PassView) (workers : List Worker) (news : List Cell) →
    KeepsRules s → HaveRunSoFar s post stages own workers → last_budget stages ≤ end_budget stages →
    WereHandedOver (ends_of workers) (cells_of workers) news → IsServedTo s stages news
served_to_end s post stages own workers news rules h last o = record {
  cells_are = record {
    nodes_are = o.nodes_are ∙ h.cells_are.nodes_are;
    founders = Each-all (λ (c : Cell). c.is_founder ≡ (c.node == s.founder)) news
        (founders_after s.founder (ends_of workers) (cells_of workers) news o.took
        (Each-from_all (λ (c : Cell). c.is_founder ≡ (c.node == s.founder)) (cells_of workers) h.cells_are.founders));
  };
  served = Each-all (ServedTo stages (histories news)) (histories news)
      (all_served_after post stages (histories news) workers news last
      (ap all_differ o.nodes_are ∙ own_nodes s (cells_of workers) rules h.cells_are)
      (all_addressed_by news (Each-from_all IsLawful news o.lawful)) (Each-from_all (RanSoFar post stages) workers h.each) o.took o.done
      (Each-itself (histories news)));
  sent = o.sent;
  without = Each-all HasNoPasses news
      (took_without (ends_of workers) (map without_passes (cells_of workers)) news o.took (without_all (cells_of workers)));
}
