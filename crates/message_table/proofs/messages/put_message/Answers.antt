use Rattle.message_table.proofs.messages.put_message.Goals as goal

pub returns-in-Lookup : goal.returns-in-Lookup
returns-in-Lookup c = rw c.in-Lookup.is c.lookup.ensures

pub returns-in-LookupReply : goal.returns-in-LookupReply
returns-in-LookupReply c = rw c.in-LookupReply.is c.answered.ensures

pub returns-in-InsertReply : goal.returns-in-InsertReply
returns-in-InsertReply c = rw c.in-InsertReply.is c.answered-in-InsertReply.ensures

pub returns-in-Fetch : goal.returns-in-Fetch
returns-in-Fetch c = rw c.in-Fetch.is c.passed_on.ensures

pub returns-in-FetchReply : goal.returns-in-FetchReply
returns-in-FetchReply c = rw c.in-FetchReply.is c.answered-in-FetchReply.ensures

pub returns-in-JoinRequest : goal.returns-in-JoinRequest
returns-in-JoinRequest c = rw c.in-JoinRequest.is c.join_request.ensures

pub returns-in-LeaseRequest : goal.returns-in-LeaseRequest
returns-in-LeaseRequest c = rw c.in-LeaseRequest.is c.between.ensures

pub returns-in-Grant : goal.returns-in-Grant
returns-in-Grant c = rw c.in-Grant.is c.grant.ensures

pub returns-in-Handover : goal.returns-in-Handover
returns-in-Handover c = rw c.in-Handover.is c.handover.ensures

pub returns-in-Replicate : goal.returns-in-Replicate
returns-in-Replicate c = rw c.in-Replicate.is c.replicate.ensures

pub returns-in-ReplicaAck : goal.returns-in-ReplicaAck
returns-in-ReplicaAck c = rw c.in-ReplicaAck.is c.of_file-in-ReplicaAck.ensures

pub returns-in-Reclaim : goal.returns-in-Reclaim
returns-in-Reclaim c = rw c.in-Reclaim.is c.passed_on-in-Reclaim.ensures

pub returns-in-ReclaimReply : goal.returns-in-ReclaimReply
returns-in-ReclaimReply c = rw c.in-ReclaimReply.is c.answered-in-ReclaimReply.ensures
