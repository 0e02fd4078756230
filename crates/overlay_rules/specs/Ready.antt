-- The ready set: which nodes are ready in a world, and what it says of keys and neighbours.
use Rattle.std.specs.Prelude.{◌≡◌, ℕ, true, ◌&&◌, Contains, count_by}
use Rattle.ring_math.specs.Names.{Id, Key}
use Rattle.ring_math.specs.Ring.{is_nearer}
use Rattle.overlay_rules.specs.State.{is_ready}
use Rattle.overlay_rules.specs.Record.{Setting, World}

abbrev pub IsReadyIn : Setting → World → Id → Type 0
IsReadyIn g w x = Contains g.nodes x × (is_ready (w.states x).phase ≡ true)

-- how many ready nodes are farther from the key than x
abbrev pub farther : Setting → World → Key → Id → ℕ
farther g w key x = count_by (λ y. is_ready (w.states y).phase && is_nearer x y key) g.nodes
