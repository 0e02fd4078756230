use Rattle.std.proofs.Common.{◌≡◌, ◌∙◌, ◌++◌, ◌≤◌, ◌<◌, ℕ, List, Bool, Option, length, ap, subst, replicate, true, false, get_or}
use Rattle.world_model.specs.Index.{IsBelow, delivered_by, marked}
use Rattle.world_model.proofs.Listing.{ListsMessages-more}
use Rattle.world_model.proofs.index.Messages.add.Goals as goal

pub returns : goal.returns
returns c = λ es e h d n.
    let marks = c.deref.ensures.value in
    let old : List Bool = c.args.self.now.delivered.items in
    ListsMessages-more c.args.self.now (record { delivered = c.add_marks.new.marks; oldest = c.first_unmarked-self.result }) es e
    (subst (λ (o : Option ℕ). IsBelow (length old) o) d (subst (λ k. IsBelow k c.args.delivered) c.args.self.now.delivered.ok.0 c.requires.below))
    (c.add_marks.ensures ∙ ap (λ ms. ms ++ replicate c.args.count false) c.mark.ensures.items
    ∙ ap (λ (o : Option ℕ). marked o old ++ replicate c.args.count false) d
    ∙ ap (λ k. marked (delivered_by e.event) old ++ replicate k false) n)
    (subst (λ (ms : List Bool). c.first_unmarked-self.result ≤ length ms) marks c.first_unmarked-self.ensures.within)
    (subst (λ (ms : List Bool). (m : ℕ) → c.args.self.now.oldest ≤ m → m < c.first_unmarked-self.result → get_or ms m false ≡ true) marks
    c.first_unmarked-self.ensures.before)
    (subst (λ (ms : List Bool). get_or ms c.first_unmarked-self.result false ≡ false) marks c.first_unmarked-self.ensures.here) h
