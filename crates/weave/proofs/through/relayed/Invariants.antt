use Rattle.step_facts.specs.Setting.{setting}
use Rattle.weave.specs.Placed.{sent_by}
use Rattle.weave.specs.Relayed.{AreLetters, Hold}
use Rattle.weave.proofs.Passages.{acts_after}
use Rattle.weave.proofs.through.relayed.Given as goal

-- the cells and the letters after the entries so far
abbrev pub invariant-loop-place : goal.invariant-loop-place
invariant-loop-place l = record {
  hold : Hold (setting l.nodes l.fn.founder) (acts_after (setting l.nodes l.fn.founder) l.steps.entries l.place) l.relay.cells.items;
  letters : AreLetters l.relay.letters.items (sent_by (acts_after (setting l.nodes l.fn.founder) l.steps.entries l.place));
}
