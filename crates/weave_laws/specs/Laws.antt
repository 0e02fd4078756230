-- What holds of a record, whatever histories of cells it is woven from.
use Rattle.std.specs.Prelude.{List, All}
use Rattle.overlay_rules.specs.declared.entry.Record.{Record}
use Rattle.overlay_rules.specs.Record.{Setting, Legal}
use Rattle.weave_laws.specs.Cells.{History}
use Rattle.weave_laws.specs.Histories.{AreHistories}
use Rattle.weave_laws.specs.Woven.{IsWoven}
use Rattle.weave_laws.specs.AtNode.{IsPartOf}

-- it is legal
abbrev pub WovenIsLegal : Setting → Record → Type 0
WovenIsLegal g r = (hs : List History) → AreHistories g hs → IsWoven hs r → Legal g r.entries

-- each history is its part at that node
abbrev pub HistoriesAreParts : Setting → Record → Type 0
HistoriesAreParts g r = (hs : List History) → AreHistories g hs → IsWoven hs r → All (IsPartOf r.entries) hs
