-- Cells that are woven, as histories from a setting.
use Rattle.std.specs.Prelude.{◌≡◌, ◌==◌, true, None, Bool, List, All, Contains}
use Rattle.ring_math.specs.Names.{Id}
use Rattle.overlay_rules.specs.Record.{Setting, all_differ}
use Rattle.weave_laws.specs.Cells.{History, IsCellHistory, nodes_of}
use Rattle.weave_laws.specs.Numbers.{NumbersRise, ShareNoNumber}
use Rattle.node_cell.specs.Cell.{Cell}
pub use Rattle.node_cell.specs.Histories.{kept_history, histories}

abbrev pub nodes : List Cell → List Id
nodes cells = nodes_of (histories cells)

-- different nodes
abbrev pub HaveOwnNodes : List Cell → Type 0
HaveOwnNodes cells = all_differ (nodes cells) ≡ true

-- the cells of one ring: exactly one was made as the founder, which is at this node, and no command number stands in two histories
pub record AreOneRing (cells : List Cell) (founder : Id) : Type 0 where
  pub there : Contains (nodes cells) founder
  pub alone : All (λ (c : Cell). c.is_founder ≡ (c.node == founder)) cells
  pub numbers : ShareNoNumber (histories cells)

-- the nodes of the cells, and the founder
abbrev pub setting_of : List Cell → Id → Setting
setting_of cells founder = record { nodes = nodes cells; founder = founder }

-- a cell without passes to mailboxes
abbrev pub HasNoPasses : Cell → Type 0
HasNoPasses c = c.carried ≡ None

-- what a cell keeps by its type
pub record IsLawful (c : Cell) : Type 0 where
  pub history : IsCellHistory c.node c.is_founder c.history
  pub numbers : NumbersRise c.history

-- it is what some cell keeps
pub record IsKept (h : History) : Type 0 where
  pub is_founder : Bool
  pub history : IsCellHistory h.node is_founder h.entries

abbrev pub AreKept : List History → Type 0
AreKept hs = All IsKept hs
