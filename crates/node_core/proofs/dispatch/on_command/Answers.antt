use Rattle.std.proofs.Common.{subst}
use Rattle.overlay_rules.specs.Routed.{on_lookup}
use Rattle.overlay_rules.specs.Roots.{on_insert, on_fetch, on_reclaim}
use Rattle.node_core.specs.declared.request.Request.{Request}
use Rattle.node_core.specs.Rows.{IsRow}
use Rattle.node_core.proofs.dispatch.on_command.Goals as goal

pub returns-in-Lookup : goal.returns-in-Lookup
returns-in-Lookup c = λ known h.
    rw c.in-Lookup.is
    (subst (λ (r : Request). IsRow c.args.node.now r.wait (λ s. on_lookup s r.origin r.number c.in-Lookup.key 0) c.on_lookup.result) c.own-request.ensures
    c.on_lookup.ensures
    known h)

pub returns-in-Insert : goal.returns-in-Insert
returns-in-Insert c = λ known h.
    rw c.in-Insert.is
    (subst (λ (r : Request). IsRow c.args.node.now r.wait
    (λ s. on_insert s r.origin r.number 0 c.in-Insert.file c.in-Insert.copies c.in-Insert.bytes) c.on_insert.result) c.own-request.ensures
    c.on_insert.ensures known h)

pub returns-in-Fetch : goal.returns-in-Fetch
returns-in-Fetch c = λ known h.
    rw c.in-Fetch.is
    (subst (λ (r : Request). IsRow c.args.node.now r.wait (λ s. on_fetch s r.origin r.number 0 c.in-Fetch.file) c.on_fetch.result) c.own-request.ensures
    c.on_fetch.ensures
    known h)

pub returns-in-Reclaim : goal.returns-in-Reclaim
returns-in-Reclaim c = λ known h.
    rw c.in-Reclaim.is
    (subst (λ (r : Request). IsRow c.args.node.now r.wait (λ s. on_reclaim s r.origin r.number 0 c.in-Reclaim.file) c.on_reclaim.result) c.own-request.ensures
    c.on_reclaim.ensures known h)

pub returns-in-Join : goal.returns-in-Join
returns-in-Join c = λ known h. rw c.in-Join.is (c.on_join.ensures known)

pub returns-in-GiveUp : goal.returns-in-GiveUp
returns-in-GiveUp c = λ known h. rw c.in-GiveUp.is (c.on_give_up.ensures known)
