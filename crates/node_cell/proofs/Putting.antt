-- A frame that is put several times, one after another.
use Rattle.std.proofs.Common.{◌≡◌, ◌<◌, ◌+◌, ℕ, Some, List, ◌∷◌, ◌++◌, replicate, length, set, sym, ap, ◌∙◌, subst, arith}
use Rattle.std.specs.Prelude.{slice_get}
use Rattle.std.proofs.lemmas.List.{append_assoc, get_or-set_same, set-set, replicate-append-replicate}
use Rattle.std.proofs.lemmas.Option.{slice_get_within}
use Rattle.ring_math.specs.Names.{Id, Stamp}
use Rattle.weave_laws.specs.Cells.{CellEntry}
use Rattle.node_parts.specs.declared.node.Node.{Node}
use Rattle.node_mailbox.specs.Pass.{PassView, pass_view, fresh_pass, after_put}
use Rattle.node_mailbox.specs.Post.{PostView, AreOf, pass_at}
use Rattle.node_cell.specs.declared.carried.Carried.{Carried}
use Rattle.node_cell.specs.declared.frames.Addressed.{Addressed}
use Rattle.node_cell.specs.Cell.{Cell}
use Rattle.node_cell.specs.Carried.{KeepsPasses}
use Rattle.node_cell.specs.Equipped.{AreOwnOf}
use Rattle.node_cell.specs.Kept.{IsCell}
use Rattle.node_cell.specs.Posting.{after_puts, with_puts}
use Rattle.node_cell.proofs.Carrying.{keeps-put}
use Rattle.node_cell.proofs.Owning.{own-put}
use Rattle.node_cell.proofs.Growing.{IsSentTo, cell_carries, cell_hands_out}

-- ---- once more

puts-again : (frame : List ℕ) (n m : ℕ) (p : PassView) → after_puts m frame (after_puts n frame p) ≡ after_puts (n + m) frame p
puts-again frame n m p =
    ap (λ l. pass_view p.mailbox p.parts l p.taken)
    (append_assoc p.put (replicate n frame) (replicate m frame) ∙ ap (λ l. p.put ++ l) (replicate-append-replicate n m frame))

with_puts-again : (place : ℕ) (frame : List ℕ) (n m before after : ℕ) (c : Carried) → place < length c.passes
    → with_puts place frame m after (with_puts place frame n before c) ≡ with_puts place frame (n + m) after c
with_puts-again place frame n m before after c lt =
    let p : PassView = after_puts n frame (pass_at c.passes place) in
    let same : set (set c.passes place p) place (after_puts m frame (pass_at (set c.passes place p) place))
    ≡ set c.passes place (after_puts (n + m) frame (pass_at c.passes place)) =
    set-set c.passes place p (after_puts m frame (pass_at (set c.passes place p) place))
    ∙ ap (λ (q : PassView). set c.passes place (after_puts m frame q)) (get_or-set_same c.passes place p (fresh_pass (0, 0) 0) lt)
    ∙ ap (λ (q : PassView). set c.passes place q) (puts-again frame n m (pass_at c.passes place)) in
    ap (λ ps. record c { passes = ps; copies = after }) same

-- a copy of it is put once more, whatever is counted then
pub with_puts-more : (place : ℕ) (frame copy : List ℕ) (n before after : ℕ) (c now : Carried) (new : List PassView) → place < length c.passes
    → now ≡ with_puts place frame n before c → new ≡ set now.passes place (after_put (pass_at now.passes place) copy) → copy ≡ frame
    → record now { passes = new; copies = after } ≡ with_puts place frame (n + 1) after c
with_puts-more place frame copy n before after c now new lt is made same =
    ap (λ ps. record now { passes = ps; copies = after }) (made ∙ ap (λ f. set now.passes place (after_put (pass_at now.passes place) f)) same)
    ∙ ap (with_puts place frame 1 after) is
    ∙ with_puts-again place frame n 1 before after c lt

-- ---- what a cell keeps

pub keeps-puts : (x : Id) (es : List CellEntry) (post : PostView) (place n counted : ℕ) (first : Addressed) (c new : Carried)
    → new ≡ with_puts place first.frame n counted c → IsSentTo es first → slice_get post.nodes place ≡ Some first.receiver → AreOf c.passes post
    → KeepsPasses x es c → KeepsPasses x es new
keeps-puts x es post place n counted first c new is sent at of kept =
    subst (KeepsPasses x es) (sym is)
    (keeps-put x es c place first.frame n counted (omega (arith, slice_get_within post.nodes place first.receiver at, of.count)) sent.sent kept)

pub own-puts : (x : Id) (es : List CellEntry) (post : PostView) (place n counted : ℕ) (first : Addressed) (c new : Carried)
    → new ≡ with_puts place first.frame n counted c → IsSentTo es first → slice_get post.nodes place ≡ Some first.receiver → AreOf new.passes post
    → AreOwnOf post x c.passes → AreOwnOf post x new.passes
own-puts x es post place n counted first c new is sent at of own =
    let passes : new.passes ≡ set c.passes place (after_puts n first.frame (pass_at c.passes place)) = ap (λ (k : Carried). k.passes) is in
    subst (AreOwnOf post x) (sym passes)
    (own-put post x c.passes place first.frame n sent.sent.envelope sent.sent.spells (at ∙ ap Some sent.receiver) (subst (λ l. AreOf l post) passes of) own)

-- the first frame was taken off
pub cell_posts : (node : Node) (stamp : Stamp) (c : Cell) (first : Addressed) (rest : List Addressed) (k : Carried) → IsCell node stamp c
    → c.unsent ≡ first ∷ rest → KeepsPasses c.node c.history k → IsCell node stamp (record c { unsent = rest; carried = Some k })
cell_posts node stamp c first rest k h is kept =
    cell_carries node stamp (record c { unsent = rest }) (Some k) (cell_hands_out node stamp c first rest h is) kept

-- or put back
pub cell_keeps_first : (node : Node) (stamp : Stamp) (c : Cell) (unsent : List Addressed) (k : Carried) → IsCell node stamp c → unsent ≡ c.unsent
    → KeepsPasses c.node c.history k → IsCell node stamp (record c { unsent = unsent; carried = Some k })
cell_keeps_first node stamp c unsent k h same kept =
    subst (λ us. IsCell node stamp (record c { unsent = us; carried = Some k })) (sym same) (cell_carries node stamp c (Some k) h kept)
