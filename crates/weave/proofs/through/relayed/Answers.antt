use Rattle.std.proofs.Common.{◌<◌, ◌≤◌, ℕ, [], List, length, subst, arith}
use Rattle.std.proofs.lemmas.List.{take_all}
use Rattle.overlay_rules.specs.declared.entry.Entry.{Entry}
use Rattle.overlay_rules.specs.Record.{Setting}
use Rattle.overlay_rules.specs.Seen.{entry_seen}
use Rattle.step_facts.specs.Setting.{setting}
use Rattle.node_cell.specs.declared.fault.TheConstants.{LAST_STAMP}
use Rattle.weave.specs.Relayed.{Hold}
use Rattle.weave.specs.Through.{through}
use Rattle.weave.proofs.Passages.{comes_next}
use Rattle.weave.proofs.Relaying.{HoldNext, can_happen, hold_next}
use Rattle.weave.proofs.through.relayed.Goals as goal

pub happen-requires : goal.happen-requires
happen-requires c =
    let g : Setting = setting c.args.nodes.now c.args.founder in
    let es : List Entry = c.args.steps.now.entries in
    let i : ℕ = c.loop-place.place in
    let e : Entry = entry_seen c.at.result in
    let end = c.len-place-end.ensures in
    let fits = c.len-place-end.type_inv in
    let test = c.loop-place-test.true in
    let within : i ≤ length es = omega arith in
    let left : i < LAST_STAMP = omega arith in
    can_happen g es i e (comes_next g es i e c.requires.legal c.at.ensures within) c.loop-place.relay.cells.items c.loop-place.relay.letters.items
    c.loop-place.invariant.hold c.loop-place.invariant.letters left

pub loop-place-preserved : goal.loop-place-preserved
loop-place-preserved c =
    let g : Setting = setting c.args.nodes.now c.args.founder in
    let es : List Entry = c.args.steps.now.entries in
    let i : ℕ = c.loop-place.place in
    let e : Entry = entry_seen c.at.result in
    let end = c.len-place-end.ensures in
    let test = c.loop-place-test.true in
    let within : i ≤ length es = omega arith in
    let h : HoldNext g es i e (comes_next g es i e c.requires.legal c.at.ensures within) c.loop-place.relay.cells.items c.loop-place.relay.letters.items
    c.loop-place.invariant.hold c.loop-place.invariant.letters c.happen.new.self.cells.items c.happen.new.self.letters.items =
    hold_next g es i e (comes_next g es i e c.requires.legal c.at.ensures within) c.loop-place.relay.cells.items c.loop-place.relay.letters.items
    c.loop-place.invariant.hold c.loop-place.invariant.letters c.requires.setting.differ c.happen.new.self.cells.items c.happen.new.self.letters.items
    c.in_ok-happen.ensures in
    record { hold = h.hold; letters = h.letters }

pub returns : goal.returns
returns c =
    let g : Setting = setting c.args.nodes.now c.args.founder in
    let es : List Entry = c.args.steps.now.entries in
    let end = c.len-place-end.ensures in
    let test = c.loop-place-test.false in
    let whole : length es ≤ c.loop-place.place = omega arith in
    subst (λ (fs : List Entry). Hold g (through g [] fs) c.loop-place.relay.cells.items) (take_all c.loop-place.place es whole)
    c.loop-place.invariant.hold
