use Rattle.node_parts.specs.Seen.{seen}
use Rattle.node_parts.proofs.Making.{prepares, all-prepared}
use Rattle.node_core.proofs.dispatch.on_message.Goals as goal

pub returns-in-Lookup : goal.returns-in-Lookup
returns-in-Lookup c = λ known h.
    rw c.in-Lookup.is (all-prepared (seen c.args.node.now known) c.lookup_came.result _ (c.lookup_came.ensures known h))

pub returns-in-Insert : goal.returns-in-Insert
returns-in-Insert c = λ known h.
    rw c.in-Insert.is (all-prepared (seen c.args.node.now known) c.insert_came.result _ (c.insert_came.ensures known h))

pub returns-in-Fetch : goal.returns-in-Fetch
returns-in-Fetch c = λ known h.
    rw c.in-Fetch.is (all-prepared (seen c.args.node.now known) c.fetch_came.result _ (c.fetch_came.ensures known h))

pub returns-in-Reclaim : goal.returns-in-Reclaim
returns-in-Reclaim c = λ known h.
    rw c.in-Reclaim.is (all-prepared (seen c.args.node.now known) c.reclaim_came.result _ (c.reclaim_came.ensures known h))

pub returns-in-LookupReply : goal.returns-in-LookupReply
returns-in-LookupReply c = λ known h.
    rw c.in-LookupReply.is (all-prepared (seen c.args.node.now known) c.on_reply.result _ (c.on_reply.ensures known h))

pub returns-in-InsertReply : goal.returns-in-InsertReply
returns-in-InsertReply c = λ known h.
    rw c.in-InsertReply.is (all-prepared (seen c.args.node.now known) c.on_reply-in-InsertReply.result _ (c.on_reply-in-InsertReply.ensures known h))

pub returns-in-FetchReply : goal.returns-in-FetchReply
returns-in-FetchReply c = λ known h.
    rw c.in-FetchReply.is (all-prepared (seen c.args.node.now known) c.on_reply-in-FetchReply.result _ (c.on_reply-in-FetchReply.ensures known h))

pub returns-in-ReclaimReply : goal.returns-in-ReclaimReply
returns-in-ReclaimReply c = λ known h.
    rw c.in-ReclaimReply.is (all-prepared (seen c.args.node.now known) c.on_reply-in-ReclaimReply.result _ (c.on_reply-in-ReclaimReply.ensures known h))

pub returns-in-Replicate : goal.returns-in-Replicate
returns-in-Replicate c = λ known h.
    rw c.in-Replicate.is (all-prepared (seen c.args.node.now known) c.on_replicate.result _ (c.on_replicate.ensures known h))

pub returns-in-ReplicaAck : goal.returns-in-ReplicaAck
returns-in-ReplicaAck c = λ known h.
    rw c.in-ReplicaAck.is (all-prepared (seen c.args.node.now known) c.on_replica_ack.result _ (c.on_replica_ack.ensures known h))

pub returns-in-Handover : goal.returns-in-Handover
returns-in-Handover c = λ known h.
    rw c.in-Handover.is (all-prepared (seen c.args.node.now known) c.on_handover.result _ (c.on_handover.ensures known h))

pub returns-in-JoinRequest : goal.returns-in-JoinRequest
returns-in-JoinRequest c = λ known h.
    rw c.in-JoinRequest.is (all-prepared (seen c.args.node.now known) c.on_join_request.result _ (c.on_join_request.ensures known h))

pub returns-in-JoinReply : goal.returns-in-JoinReply
returns-in-JoinReply c = λ known h.
    rw c.in-JoinReply.is (all-prepared (seen c.args.node.now known) c.on_join_reply.result _ (c.on_join_reply.ensures known h))

pub returns-in-Probe : goal.returns-in-Probe
returns-in-Probe c = λ known h.
    rw c.in-Probe.is (all-prepared (seen c.args.node.now known) c.on_probe.result _ (c.on_probe.ensures known h))

pub returns-in-Grant : goal.returns-in-Grant
returns-in-Grant c = λ known h.
    rw c.in-Grant.is (all-prepared (seen c.args.node.now known) c.on_grant.result _ (c.on_grant.ensures known h))

pub returns-in-JoinRefuse : goal.returns-in-JoinRefuse
returns-in-JoinRefuse c = λ known h.
    rw c.in-JoinRefuse.is (all-prepared (seen c.args.node.now known) c.on_join_refuse.result _ (c.on_join_refuse.ensures known))

pub returns-in-LeaseRequest : goal.returns-in-LeaseRequest
returns-in-LeaseRequest c = λ known h.
    rw c.in-LeaseRequest.is (all-prepared (seen c.args.node.now known) c.lease_asked.result _ (c.lease_asked.ensures known))

pub returns-in-Deny : goal.returns-in-Deny
returns-in-Deny c = λ known h.
    rw c.in-Deny.is (all-prepared (seen c.args.node.now known) c.on_deny.result _ (c.on_deny.ensures known))

pub returns-in-Release : goal.returns-in-Release
returns-in-Release c = λ known h.
    rw c.in-Release.is (all-prepared (seen c.args.node.now known) c.on_release.result _ (c.on_release.ensures known))

pub returns-in-Confirm : goal.returns-in-Confirm
returns-in-Confirm c = λ known h.
    rw c.in-Confirm.is (all-prepared (seen c.args.node.now known) c.on_confirm.result _ (c.on_confirm.ensures known))

pub returns-in-ProbeReply : goal.returns-in-ProbeReply
returns-in-ProbeReply c = λ known h. rw c.in-ProbeReply.is (c.on_probe_reply.ensures known h)

pub returns-in-Announce : goal.returns-in-Announce
returns-in-Announce c = λ known h.
    rw c.in-Announce.is (prepares (seen c.args.node.now known) c.on_announce.result _ (c.on_announce.ensures (seen c.args.node.now known)))
