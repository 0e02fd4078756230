-- What is replied to an insert at once.
use Rattle.std.proofs.Common.{◌≡◌, ℕ, None, List, refl, sym, ap, ◌∙◌}
use Rattle.wire_msg.specs.declared.reply.Reply.{Reply}
use Rattle.wire_msg.specs.declared.reply.Reply.TheVariants as reply
use Rattle.overlay_rules.specs.declared.request.Asked.TheVariants as asked
use Rattle.overlay_rules.specs.State.{State}
use Rattle.overlay_rules.specs.Outcome.{replied}
use Rattle.past_core.specs.declared.inserts.InsertWhat.{InsertWhat}
use Rattle.past_core.specs.declared.inserts.InsertWhat.TheVariants as what
use Rattle.past_core.specs.Inserts.{said, pending_of}
use Rattle.node_core.specs.Replies.{IsReply}

pub said-reply : (t : State) (me o n : ℕ) (f b : List ℕ) (w : InsertWhat) (r : Reply) → t.me ≡ me → IsReply me w r →
    replied t asked.Insert o n r ≡ said t o n f b w
said-reply t me o n f b what.Gone r m e = ap (replied t asked.Insert o n) (e ∙ ap reply.Gone (sym m))
said-reply t me o n f b what.Collision r m e = ap (replied t asked.Insert o n) (e ∙ ap reply.Collision (sym m))
said-reply t me o n f b (what.TooFew known) r m e = ap (replied t asked.Insert o n) (e ∙ ap (λ (x : ℕ). reply.TooFew x known) (sym m))
said-reply t me o n f b what.Full r m e = ap (replied t asked.Insert o n) (e ∙ ap reply.Full (sym m))
said-reply t me o n f b (what.Stored holders) r m e = ap (replied t asked.Insert o n) e
said-reply t me o n f b (what.Replicate targets) r m e = absurd e

pub none-pending : (me o n : ℕ) (f : List ℕ) (w : InsertWhat) (r : Reply) → IsReply me w r → None ≡ pending_of o n f w
none-pending me o n f what.Gone r e = refl
none-pending me o n f what.Collision r e = refl
none-pending me o n f (what.TooFew known) r e = refl
none-pending me o n f what.Full r e = refl
none-pending me o n f (what.Stored holders) r e = refl
none-pending me o n f (what.Replicate targets) r e = absurd e
