use Rattle.std.proofs.Common.{◌≡◌, true, false, sym, ◌∙◌, refl}
use Rattle.std.specs.Prelude.{Bool, ◌&&◌, nat_le}
use Rattle.ring_math.specs.Ring.{is_nearer, shared_of}
use Rattle.route_table.proofs.improves_on.Goals as goal

and_true : (a b : Bool) → b ≡ true → a ≡ a && b
and_true true b e = sym e
and_true false b e = refl

and_false : (a b : Bool) → b ≡ false → false ≡ a && b
and_false true b e = sym e
and_false false b e = refl

pub returns-then-nearer_than : goal.returns-then-nearer_than
returns-then-nearer_than c =
    rw c.shared.ensures.value (and_true (nat_le c.args.least (shared_of c.args.id c.args.key)) (is_nearer c.args.id c.args.other c.args.key)
    (sym c.nearer_than.ensures ∙ c.if-nearer_than.true))

pub returns-else-nearer_than : goal.returns-else-nearer_than
returns-else-nearer_than c =
    c.if-nearer_than.false ∙ and_false (nat_le c.args.least (shared_of c.args.id c.args.key)) (is_nearer c.args.id c.args.other c.args.key)
    (sym c.nearer_than.ensures ∙ c.if-nearer_than.false)
