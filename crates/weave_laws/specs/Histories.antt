-- Histories of cells: each is its node's, in a setting, and no command number stands in two.
use Rattle.std.specs.Prelude.{◌==◌, List, All, Contains}
use Rattle.overlay_rules.specs.Record.{Setting}
use Rattle.weave_laws.specs.Cells.{History, IsCellHistory}
use Rattle.weave_laws.specs.Numbers.{NumbersRise, ShareNoNumber}

-- a cell's history from its start in this setting, with commands whose numbers rise
pub record IsHistoryIn (g : Setting) (h : History) : Type 0 where
  pub member : Contains g.nodes h.node
  pub cell : IsCellHistory h.node (h.node == g.founder) h.entries
  pub numbers : NumbersRise h.entries

pub record AreHistories (g : Setting) (hs : List History) : Type 0 where
  pub each : All (IsHistoryIn g) hs
  pub apart : ShareNoNumber hs
