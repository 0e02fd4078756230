-- What is replied to an insert at once.
use Rattle.std.specs.Prelude.{◌≡◌}
use Rattle.ring_math.specs.Names.{Id}
use Rattle.wire_msg.specs.declared.reply.Reply.{Reply}
use Rattle.wire_msg.specs.declared.reply.Reply.TheVariants as reply
use Rattle.past_core.specs.declared.inserts.InsertWhat.{InsertWhat}
use Rattle.past_core.specs.declared.inserts.InsertWhat.TheVariants as what

abbrev pub IsReply : Id → InsertWhat → Reply → Type 0
IsReply me what.Gone r = r ≡ reply.Gone me
IsReply me what.Collision r = r ≡ reply.Collision me
IsReply me (what.TooFew known) r = r ≡ reply.TooFew me known
IsReply me what.Full r = r ≡ reply.Full me
IsReply me (what.Stored holders) r = r ≡ reply.Stored holders
IsReply me (what.Replicate targets) r = ⊥
