use Rattle.std.proofs.Common.{◌++◌, ◌∷◌, [], ℕ, Contains, refl, subst, sym}
use Rattle.std.proofs.lemmas.Result.{IfOk-weaker}
use Rattle.overlay_rules.specs.declared.entry.Event.TheVariants as event
use Rattle.overlay_rules.specs.declared.entry.Entry.{Entry}
use Rattle.overlay_rules.specs.Outcome.{Noise}
use Rattle.trace_check.specs.declared.numbers.Numbers.{Numbers}
use Rattle.trace_check.specs.Numbers.{AreNumbersOf}
use Rattle.trace_check.specs.Replays.{IsReplayedOrWrong, IsStepped, entry_with}
use Rattle.trace_check.proofs.Numbering.{AreNumbersOf-quiet}
use Rattle.trace_check.proofs.Following.{contains-at, replayed, world}
use Rattle.trace_check.proofs.replay.Replay.noise.Goals as goal

pub returns : goal.returns
returns c = λ g past h.
    let e : Entry = entry_with (event.Noise c.args.node) c.args.messages.now c.args.notes.now in
    let member : Contains g.nodes c.args.node =
    subst (λ ids. Contains ids c.args.node) h.ids (contains-at _ c.in-Some.at c.args.node c.in-Some.ensures.some.0 c.in-Some.ensures.some.1) in
    let numbers : AreNumbersOf c.step.new.self.numbers (past ++ e ∷ []) =
    subst (λ (a : Numbers). AreNumbersOf a (past ++ e ∷ [])) (sym c.step.ensures.numbers)
    (AreNumbersOf-quiet c.args.self.now.numbers past e (λ n. tt) (λ x n. tt) h.numbers) in
    IfOk-weaker c.step.result _ (IsReplayedOrWrong c.step.new.self g past e)
    (λ found stepped. replayed c.args.self.now c.step.new.self g past e c.args.node Noise found refl member tt c.step.ensures.ids h numbers
    (subst (λ (x : ℕ). IsStepped c.step.new.self (world g past).states x Noise e.messages e.notes found) c.in-Some.ensures.some.1 stepped))
    (c.step.ensures.step (world g past).states h.stand)
