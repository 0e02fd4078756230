use Rattle.std.proofs.Common.{ℕ, List, subst}
use Rattle.ring_math.specs.Sides.{learn}
use Rattle.lookup_core.specs.Kept.{Kept, StandsFor}
use Rattle.lookup_core.proofs.Learning.{stands-both}
use Rattle.lookup_core.proofs.knowledge.Knowledge.take_in.Goals as goal

pub returns-clause-stands : goal.returns-clause-stands
returns-clause-stands c =
    subst (λ (k : Kept). (known : List ℕ) → StandsFor k known →
    StandsFor (record { leafs = c.learn-on_side.new.self; table = c.learn-in_table.new.self }) (learn k.leafs.me known c.args.id)) c.self.view_is
    (λ known st. stands-both (record { leafs = c.self.inside.leafs; table = c.self.inside.table }) c.learn-on_side.new.self c.learn-in_table.new.self known
    c.args.id st
    c.learn-on_side.ensures.me c.learn-in_table.ensures.me (c.learn-on_side.ensures.stands known st.leafs) (c.learn-in_table.ensures.stands known st.table))
