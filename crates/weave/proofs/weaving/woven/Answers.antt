use Rattle.std.proofs.Common.{IfErr, Result, List, map, sym, subst}
use Rattle.std.proofs.lemmas.Result.{err_from_is_err_and}
use Rattle.std.specs.List.{AllZip}
use Rattle.overlay_rules.specs.declared.entry.Record.{Record}
use Rattle.weave_laws.specs.Cells.{History}
use Rattle.weave_laws.specs.Woven.{AreInOrder, IsEntryOf}
use Rattle.weave.specs.declared.acts.Act.{Act}
use Rattle.weave.specs.declared.fault.WeaveFault.{WeaveFault}
use Rattle.weave.specs.Follow.{FollowSendings}
use Rattle.weave.specs.Placed.{acts_in, placed, sent_by}
use Rattle.weave.specs.Stops.{StopsAt}
use Rattle.weave.specs.Stray.{IsDueTo}
use Rattle.weave.proofs.Following.{follow_sendings}
use Rattle.weave.proofs.Strays.{first_stray}
use Rattle.weave.proofs.Woven.{is_woven}
use Rattle.weave.proofs.weaving.woven.Goals as goal

pub entries_of-requires-clause-follow : goal.entries_of-requires-clause-follow
entries_of-requires-clause-follow g c =
    let hs : List History = map g.S.Strand.history c.args.strands.now in
    let ks : List History = map g.S.Strand.history c.woven_order.new.strands in
    subst (λ (xs : List Act). FollowSendings (map (placed ks) xs)) (sym c.deref.ensures.value)
    (follow_sendings hs (map (placed ks) c.in_ok-acts.acts.items) c.requires.kept c.in_ok-acts.ensures.order)

pub entries_of-requires-clause-order : goal.entries_of-requires-clause-order
entries_of-requires-clause-order g c =
    let ks : List History = map g.S.Strand.history c.woven_order.new.strands in
    subst (λ (xs : List Act). AreInOrder (acts_in (map (placed ks) xs))) (sym c.deref.ensures.value) c.in_ok-acts.ensures.order.in_order

pub returns-in_err-entries-clause-due : goal.returns-in_err-entries-clause-due
returns-in_err-entries-clause-due g c =
    let hs : List History = map g.S.Strand.history c.args.strands.now in
    let ks : List History = map g.S.Strand.history c.woven_order.new.strands in
    let xs : List Act = c.in_ok-acts.acts.items in
    let fault : WeaveFault = c.in_err-entries.field-0.0 in
    let stops : StopsAt (sent_by (acts_in (map (placed ks) xs))) (map (placed ks) xs) fault =
    subst (λ (ys : List Act). StopsAt (sent_by (acts_in (map (placed ks) ys))) (map (placed ks) ys) fault) c.deref.ensures.value
    c.in_err-entries.ensures.err in
    let e = err_from_is_err_and c.from_residual-in_err-entries.result c.from_residual-in_err-entries.ensures.1 in
    subst (λ (r : Result Record WeaveFault). IfErr r (IsDueTo hs)) (sym e.1)
    (subst (IsDueTo hs) (sym e.2) (first_stray hs (map (placed ks) xs) c.in_ok-acts.ensures.order c.in_ok-acts.ensures.entries fault stops))

pub returns-clause-woven : goal.returns-clause-woven
returns-clause-woven g c =
    let ks : List History = map g.S.Strand.history c.woven_order.new.strands in
    let xs : List Act = c.in_ok-acts.acts.items in
    is_woven (map g.S.Strand.history c.args.strands.now) (acts_in (map (placed ks) xs)) c.in_ok-entries.entries c.in_ok-acts.ensures.order
    (subst (λ (ys : List Act). AllZip (IsEntryOf (sent_by (acts_in (map (placed ks) ys)))) (acts_in (map (placed ks) ys)) c.in_ok-entries.entries)
    c.deref.ensures.value c.in_ok-entries.ensures.ok)
