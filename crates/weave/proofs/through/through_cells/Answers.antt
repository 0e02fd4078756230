use Rattle.std.proofs.Common.{◌≡◌, true, [], List, sym, subst}
use Rattle.ring_math.specs.Names.{Id}
use Rattle.overlay_rules.specs.declared.entry.Entry.{Entry}
use Rattle.overlay_rules.specs.Record.{Setting, all_differ}
use Rattle.step_facts.specs.Setting.{setting}
use Rattle.node_cell.specs.Cell.{Cell}
use Rattle.weave.specs.declared.fault.WeaveFault.TheVariants as fault
use Rattle.weave.specs.Cells.{histories}
use Rattle.weave.specs.Relayed.{Hold}
use Rattle.weave.specs.Stray.{IsDueTo}
use Rattle.weave.specs.Through.{through}
use Rattle.wire_msg.specs.Words.{plain_envelope}
use Rattle.weave.proofs.Relaying.{nodes_are, whole_alike, whole_legal, whole_ring, whole_sent, whole_woven}
use Rattle.weave.proofs.Strays.{no_stray}
use Rattle.weave.proofs.through.through_cells.Goals as goal

pub into_woven-requires : goal.into_woven-requires
into_woven-requires c =
    let g : Setting = setting c.args.nodes.now c.args.founder in
    let es : List Entry = c.args.steps.now.entries in
    let cells : List Cell = c.in_ok-relay.relay.cells.items in
    let h : Hold g (through g [] es) cells = c.in_ok-relay.ensures in
    subst (λ (xs : List Id). all_differ xs ≡ true) (sym (nodes_are g (through g [] es) cells h)) c.requires.setting.differ

pub returns-in-Ok-clause-woven : goal.returns-in-Ok-clause-woven
returns-in-Ok-clause-woven c =
    let g : Setting = setting c.args.nodes.now c.args.founder in
    let es : List Entry = c.args.steps.now.entries in
    let cells : List Cell = c.in_ok-relay.relay.cells.items in
    let h : Hold g (through g [] es) cells = c.in_ok-relay.ensures in
    whole_woven g es c.requires.legal cells h c.in-Ok.woven c.in-Ok.ensures.woven

pub returns-in-Ok-clause-legal : goal.returns-in-Ok-clause-legal
returns-in-Ok-clause-legal c =
    let g : Setting = setting c.args.nodes.now c.args.founder in
    let es : List Entry = c.args.steps.now.entries in
    let cells : List Cell = c.in_ok-relay.relay.cells.items in
    let h : Hold g (through g [] es) cells = c.in_ok-relay.ensures in
    whole_legal g es c.requires.legal cells h c.in-Ok.woven.entries
    (c.in-Ok.ensures.legal c.args.founder (whole_ring g es c.requires.legal cells h c.requires.setting))

pub returns-in-Ok-clause-alike : goal.returns-in-Ok-clause-alike
returns-in-Ok-clause-alike c =
    let g : Setting = setting c.args.nodes.now c.args.founder in
    let es : List Entry = c.args.steps.now.entries in
    let cells : List Cell = c.in_ok-relay.relay.cells.items in
    let h : Hold g (through g [] es) cells = c.in_ok-relay.ensures in
    whole_alike g es c.requires.legal cells h c.in-Ok.woven
    (c.in-Ok.ensures.parts c.args.founder (whole_ring g es c.requires.legal cells h c.requires.setting))

pub unreachable-requires : goal.unreachable-requires
unreachable-requires c =
    let g : Setting = setting c.args.nodes.now c.args.founder in
    let es : List Entry = c.args.steps.now.entries in
    let cells : List Cell = c.in_ok-relay.relay.cells.items in
    let h : Hold g (through g [] es) cells = c.in_ok-relay.ensures in
    let due : IsDueTo (histories cells) c.in-Err-Stray.field-0 = c.in-Err-Stray.ensures.due in
    let first : IsDueTo (histories cells) (fault.Stray c.in-Err-Stray.field-0-0 c.in-Err-Stray.field-0-1 c.in-Err-Stray.field-0-2) =
    subst (IsDueTo (histories cells)) c.in-Err-Stray.field-0-is due in
    no_stray (histories cells) (whole_sent g es c.requires.legal cells h) c.in-Err-Stray.field-0-0 c.in-Err-Stray.field-0-1
    (plain_envelope c.in-Err-Stray.field-0-2) first.stray
