-- A node that stands at the guessed place and has the identifier is the one that is sought.
use Rattle.std.proofs.Common.{◌≡◌, ◌<◌, true, List, length, get_or, sym, ap, ◌∙◌, arith}
use Rattle.std.specs.Prelude.{nat_lt}
use Rattle.std.proofs.lemmas.Bool.{eqb-true, ltb-true}
use Rattle.node_parts.specs.declared.node.Node.{Node}
use Rattle.world_model.proofs.OneNode.{ids-length, id-read}
use Rattle.world_model.proofs.cells.Cells.guessed.Goals as goal

pub returns-then-eq : goal.returns-then-eq
returns-then-eq c =
    let nodes = c.args.self.now in
    let place = c.in_ok-place.field-0.now in
    let node = c.in_ok-node.node.now in
    let kept = c.deref-2.ensures.value ∙ c.self.view_is in
    let long = ap (λ (ns : List Node). length ns) kept in
    let below : true ≡ nat_lt place (length c.deref-2.result.now) = c.in_ok-node.ensures.lookup.0 in
    let inside = ltb-true place (length c.deref-2.result.now) (sym below) in
    let within : place < length nodes = omega (arith, inside, long) in
    let read : node ≡ get_or nodes place node = c.in_ok-node.ensures.lookup.1 ∙ ap (λ (ns : List Node). get_or ns place node) kept in
    let as_long = ids-length nodes in (
      omega arith,
      id-read nodes place node within ∙ ap (λ (n : Node). n.me) (sym read)
          ∙ sym c.id.ensures ∙ eqb-true c.id.result c.args.id (sym c.eq.ensures ∙ c.if-eq.true),
    )
