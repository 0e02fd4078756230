use Rattle.node_service.proofs.Determined.{one_conversation}
use Rattle.node_service.proofs.law.one_conversation.Goals as goal

pub returns : goal.returns
returns c = one_conversation
