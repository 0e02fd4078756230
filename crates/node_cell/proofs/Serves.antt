-- What a frame that was taken in hand, and taken in or not, makes of a cell.
use Rattle.std.proofs.Common.{◌≡◌, ℕ, Option, Some, None, List, [], ◌∷◌, ◌++◌, set, refl, sym, ap, ◌∙◌, subst, arith}
use Rattle.std.specs.Prelude.{IfSome, IfNone, slice_get}
use Rattle.std.proofs.lemmas.Option.{slice_get_within}
use Rattle.ring_math.specs.Names.{Id}
use Rattle.weave_laws.specs.Cells.{CellEntry}
use Rattle.node_mailbox.specs.Pass.{PassView, after_take}
use Rattle.node_mailbox.specs.Post.{PostView, AreOf, pass_at}
use Rattle.node_cell.specs.declared.carried.Carried.{Carried}
use Rattle.node_cell.specs.Carried.{KeepsPasses}
use Rattle.node_cell.specs.Cell.{Cell, entry_next}
use Rattle.node_cell.specs.Serving.{TakesInHand, hand_empty, holding}
use Rattle.node_cell.specs.Taken.{TookBytes}
use Rattle.node_cell.specs.Equipped.{AreOwnOf, CarriesOf, GoesOn, passes_in}
use Rattle.node_cell.proofs.Carrying.{changed-same, keeps-served, keeps-taken}
use Rattle.node_cell.proofs.Owning.{own-taken}

-- a hand that is empty was emptied
emptied : (c : Carried) → c.in_hand ≡ None → hand_empty c ≡ c
emptied c none = ap (λ (o : Option (List ℕ)). record c { in_hand = o }) (sym none)

-- a frame that is taken in hand leaves the parts
pub takes-parts : (post : PostView) (x : Id) (o : Option (List ℕ)) (c : Carried) (frame : List ℕ) (held : Carried) → TakesInHand post x o c frame held
    → AreOf c.passes post → (y : ℕ) → (pass_at held.passes y).parts ≡ (pass_at c.passes y).parts
takes-parts post x (Some f) c frame held takes of y = ap (λ (k : Carried). (pass_at k.passes y).parts) takes.1
takes-parts post x None c frame held takes of y =
    let place : ℕ = takes.0 in
    ap (λ (k : Carried). (pass_at k.passes y).parts) takes.2
    ∙ changed-same (λ (p : PassView). p.parts) c.passes place y (after_take (pass_at c.passes place) frame)
    (omega (arith, slice_get_within post.nodes place x takes.1, of.count)) refl

-- what a cell without passes took in, it takes in with whatever it carries
pub took-carrying : (before after : Cell) (o : Option Carried) (frame : List ℕ) → TookBytes (record before { carried = None }) frame after
    → TookBytes (record before { carried = o }) frame (record after { carried = o })
took-carrying before after o frame t = record {
  input = t.input;
  is = t.is;
  in_time = t.in_time;
  took = ap (λ (q : Cell). record q { carried = o }) t.took;
}

-- what it then carries has the frame of this input, and none in hand
pub took-keeps : (before after : Cell) (c : Carried) (frame : List ℕ) → TookBytes (record before { carried = None }) frame after → c.in_hand ≡ None
    → KeepsPasses before.node before.history (holding frame c) → KeepsPasses after.node after.history c
took-keeps before after c frame t none kept =
    let e : CellEntry = entry_next (record before { carried = None }) t.input in
    let more : KeepsPasses before.node (before.history ++ e ∷ []) (hand_empty c) =
    keeps-served before.node before.history e (holding frame c) frame refl t.is kept in
    subst (λ (q : Cell). KeepsPasses q.node q.history c) (sym t.took)
    (subst (KeepsPasses before.node (before.history ++ e ∷ [])) (emptied c none) more)

-- ---- the next frame of the node's own mailbox, if there is one

pub own-after_take : (post : PostView) (x : Id) (old new : List PassView) (place : ℕ) (r : Option (List ℕ)) → slice_get post.nodes place ≡ Some x
    → IfSome r (λ frame. new ≡ set old place (after_take (pass_at old place) frame)) → IfNone r (new ≡ old) → AreOf new post → AreOwnOf post x old
    → AreOwnOf post x new
own-after_take post x old new place None at some none of own = subst (AreOwnOf post x) (sym none) own
own-after_take post x old new place (Some frame) at some none of own =
    subst (AreOwnOf post x) (sym some) (own-taken post x old place frame at (subst (λ l. AreOf l post) some of) own)

pub keeps-after_take : (post : PostView) (x : Id) (es : List CellEntry) (c : Carried) (new : List PassView) (place : ℕ) (r : Option (List ℕ))
    → ((y : ℕ) → slice_get post.nodes y ≡ Some x → y ≡ place) → slice_get post.nodes place ≡ Some x → c.in_hand ≡ None
    → IfSome r (λ frame. new ≡ set c.passes place (after_take (pass_at c.passes place) frame)) → AreOwnOf post x c.passes → KeepsPasses x es c
    → IfSome r (λ frame. KeepsPasses x es (holding frame (record c { passes = new })))
keeps-after_take post x es c new place None only at none some own kept = tt
keeps-after_take post x es c new place (Some frame) only at none some own kept =
    subst (λ ps. KeepsPasses x es (holding frame (record c { passes = ps }))) (sym some) (keeps-taken x es c post place frame only at none own kept)

-- ---- the cell goes on

pub goes-on : (before after : Cell) (c d : Carried) → after.node ≡ before.node → after.is_founder ≡ before.is_founder → before.carried ≡ Some c
    → after.carried ≡ Some d → ((y : ℕ) → (pass_at d.passes y).parts ≡ (pass_at c.passes y).parts) → GoesOn before after
goes-on before after c d node made was is parts = record {
  node = node;
  made = made;
  parts = λ y. ap (λ (o : Option Carried). (pass_at (passes_in o) y).parts) is ∙ parts y
      ∙ sym (ap (λ (o : Option Carried). (pass_at (passes_in o) y).parts) was);
}

pub goes_on_refl : (a : Cell) → GoesOn a a
goes_on_refl a = record { node = refl; made = refl; parts = λ y. refl }

pub goes_on_then : (a b c : Cell) → GoesOn a b → GoesOn b c → GoesOn a c
goes_on_then a b c g h = record { node = h.node ∙ g.node; made = h.made ∙ g.made; parts = λ y. h.parts y ∙ g.parts y }

-- passes of the post are of it
pub carries-of : (post : PostView) (x : Id) (o : Option Carried) (c : Carried) → o ≡ Some c → CarriesOf post x o → AreOf c.passes post
carries-of post x o c is h = (subst (CarriesOf post x) is h).of
