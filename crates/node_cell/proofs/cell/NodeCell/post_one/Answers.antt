use Rattle.std.proofs.Common.{◌≡◌, ◌∙◌, ◌∷◌, ℕ, List, ap, subst, sym}
use Rattle.std.proofs.lemmas.Option.{slice_get_within}
use Rattle.node_cell.specs.declared.carried.Carried.{Carried}
use Rattle.node_cell.specs.declared.frames.Addressed.{Addressed}
use Rattle.node_cell.specs.Cell.{Cell, cell_seen}
use Rattle.node_cell.specs.Carried.{KeepsPasses, KeepsCarried}
use Rattle.node_cell.specs.Equipped.{AreOwnOf, CarriesOf, HasPassesOf}
use Rattle.node_cell.specs.Kept.{AreUnsent}
use Rattle.node_cell.proofs.Carrying.{keeps-counted}
use Rattle.node_cell.proofs.Growing.{IsSentTo, first_unsent}
use Rattle.node_cell.proofs.Putting.{cell_keeps_first, cell_posts, keeps-puts, own-puts}
use Rattle.node_cell.proofs.cell.NodeCell.post_one.Goals as goal

pub put-requires-clause-place : goal.put-requires-clause-place
put-requires-clause-place g c = slice_get_within c.args.post.now.nodes c.in-Some-place.place c.in-Some-pop_front.first.receiver c.in-Some-place.ensures.some

pub invariant_of-self-in_default-place : goal.invariant_of-self-in_default-place
invariant_of-self-in_default-place g c =
    let cell : Cell =
    cell_seen c.self.inside.node c.self.inside.is_founder c.self.inside.history.items c.self.inside.unsent.items c.self.inside.carried in
    let old : Carried = c.in-Some.carried in
    let kept : KeepsPasses cell.node cell.history old = subst (KeepsCarried cell.node cell.history) c.in-Some.is c.self.invariant.carried in
    cell_posts c.self.inside.node c.self.inside.stamp cell c.in-Some-pop_front.first c.pop_front.new.self.items (record old { copies = 0 })
    c.self.invariant c.in-Some-pop_front.ensures.items (keeps-counted cell.node cell.history old 0 kept)

pub invariant_of-self-in-Ok : goal.invariant_of-self-in-Ok
invariant_of-self-in-Ok g c =
    let cell : Cell =
    cell_seen c.self.inside.node c.self.inside.is_founder c.self.inside.history.items c.self.inside.unsent.items c.self.inside.carried in
    let old : Carried = c.in-Some.carried in
    let first : Addressed = c.in-Some-pop_front.first in
    let rest : List Addressed = c.pop_front.new.self.items in
    let kept : KeepsPasses cell.node cell.history old = subst (KeepsCarried cell.node cell.history) c.in-Some.is c.self.invariant.carried in
    let of : CarriesOf c.args.post.now cell.node cell.carried = subst (HasPassesOf c.args.post.now) (sym c.self.view_is) c.requires.passes in
    let own : AreOwnOf c.args.post.now cell.node old.passes = subst (CarriesOf c.args.post.now cell.node) c.in-Some.is of in
    let sent : IsSentTo cell.history first =
    first_unsent cell.history first rest (subst (AreUnsent cell.history) c.in-Some-pop_front.ensures.items c.self.invariant.unsent) in
    cell_posts c.self.inside.node c.self.inside.stamp cell first rest c.put.new.self c.self.invariant c.in-Some-pop_front.ensures.items
    (keeps-puts cell.node cell.history c.args.post.now c.in-Some-place.place _ _ first old c.put.new.self c.in-Ok.ensures.ok sent
    c.in-Some-place.ensures.some own.of kept)

pub invariant_of-self-in-Err : goal.invariant_of-self-in-Err
invariant_of-self-in-Err g c =
    let cell : Cell =
    cell_seen c.self.inside.node c.self.inside.is_founder c.self.inside.history.items c.self.inside.unsent.items c.self.inside.carried in
    let old : Carried = c.in-Some.carried in
    let first : Addressed = c.in-Some-pop_front.first in
    let rest : List Addressed = c.pop_front.new.self.items in
    let kept : KeepsPasses cell.node cell.history old = subst (KeepsCarried cell.node cell.history) c.in-Some.is c.self.invariant.carried in
    let of : CarriesOf c.args.post.now cell.node cell.carried = subst (HasPassesOf c.args.post.now) (sym c.self.view_is) c.requires.passes in
    let own : AreOwnOf c.args.post.now cell.node old.passes = subst (CarriesOf c.args.post.now cell.node) c.in-Some.is of in
    let sent : IsSentTo cell.history first =
    first_unsent cell.history first rest (subst (AreUnsent cell.history) c.in-Some-pop_front.ensures.items c.self.invariant.unsent) in
    let back : c.push_front_reserved.new.self.items ≡ cell.unsent =
    c.push_front_reserved.ensures.items ∙ ap (λ (f : List ℕ). record { receiver = first.receiver; frame = f } ∷ rest) c.in-Err.ensures.back
    ∙ sym c.in-Some-pop_front.ensures.items in
    cell_keeps_first c.self.inside.node c.self.inside.stamp cell c.push_front_reserved.new.self.items c.put.new.self c.self.invariant back
    (keeps-puts cell.node cell.history c.args.post.now c.in-Some-place.place _ _ first old c.put.new.self c.in-Err.ensures.err.2 sent
    c.in-Some-place.ensures.some own.of kept)

pub returns-in-Ok-clause-passes : goal.returns-in-Ok-clause-passes
returns-in-Ok-clause-passes g c =
    let cell : Cell =
    cell_seen c.self.inside.node c.self.inside.is_founder c.self.inside.history.items c.self.inside.unsent.items c.self.inside.carried in
    let old : Carried = c.in-Some.carried in
    let first : Addressed = c.in-Some-pop_front.first in
    let of : CarriesOf c.args.post.now cell.node cell.carried = subst (HasPassesOf c.args.post.now) (sym c.self.view_is) c.requires.passes in
    let own : AreOwnOf c.args.post.now cell.node old.passes = subst (CarriesOf c.args.post.now cell.node) c.in-Some.is of in
    let sent : IsSentTo cell.history first = first_unsent cell.history first c.pop_front.new.self.items
    (subst (AreUnsent cell.history) c.in-Some-pop_front.ensures.items c.self.invariant.unsent) in
    own-puts cell.node cell.history c.args.post.now c.in-Some-place.place _ _ first old c.put.new.self c.in-Ok.ensures.ok sent c.in-Some-place.ensures.some
    c.put.ensures.of own

pub returns-in-Err-clause-passes : goal.returns-in-Err-clause-passes
returns-in-Err-clause-passes g c =
    let cell : Cell =
    cell_seen c.self.inside.node c.self.inside.is_founder c.self.inside.history.items c.self.inside.unsent.items c.self.inside.carried in
    let old : Carried = c.in-Some.carried in
    let first : Addressed = c.in-Some-pop_front.first in
    let of : CarriesOf c.args.post.now cell.node cell.carried = subst (HasPassesOf c.args.post.now) (sym c.self.view_is) c.requires.passes in
    let own : AreOwnOf c.args.post.now cell.node old.passes = subst (CarriesOf c.args.post.now cell.node) c.in-Some.is of in
    let sent : IsSentTo cell.history first = first_unsent cell.history first c.pop_front.new.self.items
    (subst (AreUnsent cell.history) c.in-Some-pop_front.ensures.items c.self.invariant.unsent) in
    own-puts cell.node cell.history c.args.post.now c.in-Some-place.place _ _ first old c.put.new.self c.in-Err.ensures.err.2 sent
    c.in-Some-place.ensures.some c.put.ensures.of own
