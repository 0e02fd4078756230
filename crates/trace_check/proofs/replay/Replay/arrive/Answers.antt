use Rattle.std.proofs.Common.{◌++◌, ◌∷◌, [], ℕ, Contains, subst, sym}
use Rattle.std.proofs.lemmas.Result.{IfOk-weaker}
use Rattle.wire_msg.specs.Words.{plain}
use Rattle.overlay_rules.specs.declared.entry.Event.TheVariants as event
use Rattle.overlay_rules.specs.declared.entry.Entry.{Entry}
use Rattle.overlay_rules.specs.Outcome.{Input, Comes}
use Rattle.trace_check.specs.declared.numbers.Numbers.{Numbers}
use Rattle.trace_check.specs.Numbers.{AreNumbersOf}
use Rattle.trace_check.specs.Replays.{IsReplayedOrWrong, IsStepped, entry_with}
use Rattle.trace_check.proofs.Numbering.{AreNumbersOf-quiet}
use Rattle.trace_check.proofs.Following.{contains-at, no_node, replayed, world}
use Rattle.trace_check.proofs.replay.Replay.arrive.Goals as goal

pub returns : goal.returns
returns c = λ g past m h is.
    let e : Entry = entry_with (event.Deliver m) c.args.messages.now c.args.notes.now in
    let to : ℕ = c.args.envelope.now.receiver in
    let comes : Input = Comes c.args.envelope.now.sender (plain c.args.envelope.now.message) in
    let member : Contains g.nodes to =
    subst (λ ids. Contains ids to) h.ids (contains-at _ c.in-Some.at to c.in-Some.ensures.some.0 c.in-Some.ensures.some.1) in
    let numbers : AreNumbersOf c.step.new.self.numbers (past ++ e ∷ []) =
    subst (λ (a : Numbers). AreNumbersOf a (past ++ e ∷ [])) (sym c.step.ensures.numbers)
    (AreNumbersOf-quiet c.args.self.now.numbers past e (λ n. tt) (λ x n. tt) h.numbers) in
    IfOk-weaker c.step.result _ (IsReplayedOrWrong c.step.new.self g past e)
    (λ found stepped. replayed c.args.self.now c.step.new.self g past e to comes found is member tt c.step.ensures.ids h numbers
    (subst (λ (x : ℕ). IsStepped c.step.new.self (world g past).states x comes e.messages e.notes found) c.in-Some.ensures.some.1 stepped))
    (c.step.ensures.step (world g past).states h.stand)

pub returns-in_default : goal.returns-in_default
returns-in_default c = λ g past m h is.
    no_node g past (event.Deliver m) c.args.envelope.now.receiver (Comes c.args.envelope.now.sender (plain c.args.envelope.now.message)) is
    (λ k. c.in_default.ensures.none (subst (λ ids. Contains ids c.args.envelope.now.receiver) (sym h.ids) k))
