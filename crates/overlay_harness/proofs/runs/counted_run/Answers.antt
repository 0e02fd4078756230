use Rattle.std.proofs.Common.{inr, ℕ, All, subst}
use Rattle.overlay_rules.specs.declared.entry.Record.{Record}
use Rattle.overlay_rules.specs.Record.{sent_in}
use Rattle.weave.specs.Cells.{IsLawful, histories}
use Rattle.overlay_harness.specs.Enough.{CameAtMost, CameTooOften, delivered}
use Rattle.overlay_harness.proofs.Ending.{counted_run_of}
use Rattle.overlay_harness.proofs.Made.{own_nodes}
use Rattle.overlay_harness.proofs.TooOften.{woven_of_these}
use Rattle.overlay_harness.proofs.runs.counted_run.Goals as goal

pub woven-requires-clause-apart : goal.woven-requires-clause-apart
woven-requires-clause-apart c = own_nodes c.args.scenario.now c.args.cells.items c.founder-founder.ensures.rules c.requires.kept.cells_are

pub came_at_most-requires : goal.came_at_most-requires
came_at_most-requires c = woven_of_these (histories c.args.cells.items) c.in_ok-steps.steps c.in_ok-steps.ensures

pub returns-clause-some : goal.returns-clause-some
returns-clause-some c =
    let r : Record = c.in_ok-steps.steps in
    counted_run_of c.args.scenario.now c.args.cells.items r c.founder-founder.ensures.rules c.requires.kept
    (subst (All IsLawful) c.deref.ensures.value c.cells_law.ensures) c.in_ok-steps.ensures c.requires.noise
    (subst (λ (n : ℕ). CameAtMost n (sent_in r.entries) (delivered (sent_in r.entries) r.entries)) c.requires.copies
    (c.in_ok-came_at_most.ensures.kept c.if-not-branch.false))

pub returns-then-not-branch-clause-none : goal.returns-then-not-branch-clause-none
returns-then-not-branch-clause-none c =
    inr (record {
      steps = c.in_ok-steps.steps;
      woven = c.in_ok-steps.ensures;
      more = subst (λ (n : ℕ). CameTooOften n c.in_ok-steps.steps.entries) c.requires.copies (c.in_ok-came_at_most.ensures.more c.if-not-branch.true);
    })
