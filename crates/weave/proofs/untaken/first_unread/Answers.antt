use Rattle.std.proofs.Common.{IfSome, IfNone, Option, List, subst, map}
use Rattle.std.proofs.lemmas.Result.{IfOk-weaker}
use Rattle.wire_msg.specs.Words.{Envelope, plain_envelope}
use Rattle.weave_laws.specs.Cells.{History}
use Rattle.weave.specs.declared.acts.Act.{Act}
use Rattle.weave.specs.declared.waiting.Unread.{Unread}
use Rattle.weave.specs.ByStamp.{kept_in}
use Rattle.weave.specs.Placed.{Placed, acts_in, placed}
use Rattle.weave.specs.Unread.{AllRead, IsFirstUnread}
use Rattle.weave.specs.Wanted.{HasSame, IsFound, taken_by}
use Rattle.weave.proofs.Unreads.{first_if_some, read_if_none}
use Rattle.weave.proofs.untaken.first_unread.Goals as goal

pub returns-clause-some : goal.returns-clause-some
returns-clause-some g c =
    let hs : List History = map g.S.Strand.history c.args.strands.now in
    let ps : List Act → List Placed = map (placed (map g.S.Strand.history c.woven_order.new.strands)) in
    let taken : List Envelope = kept_in c.in_ok-taken.taken in
    let xs : List Act = c.in_ok-acts.acts.items in
    let x = c.args.receiver in
    IfOk-weaker c.first_untaken.result (λ (found : Option Unread). IsFound taken x (ps c.deref-2.result.now) found)
    (λ (found : Option Unread). IfSome found (λ u. IsFirstUnread hs x u.node u.place (plain_envelope u.envelope)))
    (λ (found : Option Unread) (h : IsFound taken x (ps c.deref-2.result.now) found).
    first_if_some hs (ps xs) c.in_ok-acts.ensures.order c.in_ok-acts.ensures.entries taken x
    (subst (λ (ys : List Act). HasSame (taken_by x (acts_in (ps ys))) taken) c.deref.ensures.value c.in_ok-taken.ensures.same) found
    (subst (λ (ys : List Act). IsFound taken x (ps ys) found) c.deref-2.ensures.value h))
    c.first_untaken.ensures

pub returns-clause-none : goal.returns-clause-none
returns-clause-none g c =
    let hs : List History = map g.S.Strand.history c.args.strands.now in
    let ps : List Act → List Placed = map (placed (map g.S.Strand.history c.woven_order.new.strands)) in
    let taken : List Envelope = kept_in c.in_ok-taken.taken in
    let xs : List Act = c.in_ok-acts.acts.items in
    let x = c.args.receiver in
    IfOk-weaker c.first_untaken.result (λ (found : Option Unread). IsFound taken x (ps c.deref-2.result.now) found)
    (λ (found : Option Unread). IfNone found (AllRead hs x))
    (λ (found : Option Unread) (h : IsFound taken x (ps c.deref-2.result.now) found).
    read_if_none hs (ps xs) c.in_ok-acts.ensures.order c.in_ok-acts.ensures.entries taken x
    (subst (λ (ys : List Act). HasSame (taken_by x (acts_in (ps ys))) taken) c.deref.ensures.value c.in_ok-taken.ensures.same) found
    (subst (λ (ys : List Act). IsFound taken x (ps ys) found) c.deref-2.ensures.value h))
    c.first_untaken.ensures
