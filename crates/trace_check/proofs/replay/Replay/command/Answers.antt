use Rattle.std.proofs.Common.{◌++◌, ◌∷◌, [], ℕ, Contains, refl, subst, sym}
use Rattle.std.proofs.lemmas.Bool.Decides.{not_from_Decides}
use Rattle.std.proofs.lemmas.Result.{IfOk-weaker}
use Rattle.overlay_rules.specs.declared.entry.Event.TheVariants as event
use Rattle.overlay_rules.specs.declared.entry.Entry.{Entry}
use Rattle.overlay_rules.specs.Outcome.{Command}
use Rattle.overlay_rules.specs.Record.{IsFresh}
use Rattle.trace_check.specs.declared.numbers.Numbers.{Numbers}
use Rattle.trace_check.specs.Numbers.{AreNumbersOf}
use Rattle.trace_check.specs.Replays.{IsReplayedOrWrong, IsStepped, entry_with}
use Rattle.trace_check.proofs.Following.{contains-at, no_new_number, replayed, world}
use Rattle.trace_check.proofs.replay.Replay.command.Goals as goal

pub returns-then-not-is_new : goal.returns-then-not-is_new
returns-then-not-is_new c = λ g past h.
    no_new_number g past (event.Command c.args.node c.args.number c.args.command.now)
    (not_from_Decides c.is_new.result (c.is_new.ensures past c.args.command.now h.numbers) c.if-not-is_new.true)

pub returns : goal.returns
returns c = λ g past h.
    let e : Entry = entry_with (event.Command c.args.node c.args.number c.args.command.now) c.args.messages.now c.args.notes.now in
    let fresh : IsFresh past e.event = (c.is_new.ensures past c.args.command.now h.numbers).0 c.if-not-is_new.false in
    let member : Contains g.nodes c.args.node =
    subst (λ ids. Contains ids c.args.node) h.ids (contains-at _ c.in-Some.at c.args.node c.in-Some.ensures.some.0 c.in-Some.ensures.some.1) in
    let numbers : AreNumbersOf c.step.new.self.numbers (past ++ e ∷ []) =
    subst (λ (a : Numbers). AreNumbersOf a (past ++ e ∷ [])) (sym c.step.ensures.numbers)
    (c.in_ok-add.ensures past e c.args.command.now h.numbers refl fresh) in
    IfOk-weaker c.step.result _ (IsReplayedOrWrong c.step.new.self g past e)
    (λ found stepped. replayed c.args.self.now c.step.new.self g past e c.args.node (Command c.args.number c.args.command.now) found refl member fresh
    c.step.ensures.ids h numbers
    (subst (λ (x : ℕ). IsStepped c.step.new.self (world g past).states x (Command c.args.number c.args.command.now) e.messages e.notes found)
    c.in-Some.ensures.some.1 stepped))
    (c.step.ensures.step (world g past).states h.stand)
