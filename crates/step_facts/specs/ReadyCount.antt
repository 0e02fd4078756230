-- How many nodes are ready.
use Rattle.std.specs.Prelude.{ℕ, count_by}
use Rattle.overlay_rules.specs.State.{is_ready}
use Rattle.overlay_rules.specs.Record.{Setting, World}

abbrev pub ready_count : Setting → World → ℕ
ready_count g w = count_by (λ y. is_ready (w.states y).phase) g.nodes
