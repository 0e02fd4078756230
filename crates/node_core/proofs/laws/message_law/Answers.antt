use Rattle.node_core.proofs.laws.message_law.Goals as goal

pub returns-in-JoinReply : goal.returns-in-JoinReply
returns-in-JoinReply c = rw c.in-JoinReply.is c.range_law.ensures

pub returns-in-ProbeReply : goal.returns-in-ProbeReply
returns-in-ProbeReply c = rw c.in-ProbeReply.is c.range_law-in-ProbeReply.ensures
