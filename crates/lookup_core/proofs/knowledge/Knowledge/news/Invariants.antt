-- So many were looked at: none of them is a new leaf, and the leaves stay as they are learnt; whether one of them is a new entry was
-- kept, and as long as none is the table stays too.
use Rattle.std.proofs.Common.{◌≡◌, ℕ, List, false, if◌then◌else◌, take}
use Rattle.std.specs.List.{list_any}
use Rattle.ring_math.specs.Sides.{learn_all}
use Rattle.leaf_set.specs.Leaves.{StandsFor as LeafSetStandsFor}
use Rattle.route_table.specs.Entries.{is_new, StandsFor as TableStandsFor}
use Rattle.lookup_core.specs.Kept.{StandsFor, is_new_leaf}
use Rattle.lookup_core.specs.declared.knowledge.News.TheVariants.{Nothing, Entry}
use Rattle.lookup_core.proofs.knowledge.Knowledge.news.Given as goal

abbrev pub invariant-loop-id : goal.invariant-loop-id
invariant-loop-id l = record {
  leaves : list_any (is_new_leaf l.self) (take l.id-index l.ids) ≡ false;
  entries : l.news ≡ (if list_any (is_new l.self.table) (take l.id-index l.ids) then Entry else Nothing);
  leafs : (known : List ℕ) → StandsFor l.self known → LeafSetStandsFor l.self.leafs (learn_all l.self.leafs.me known (take l.id-index l.ids));
  table : l.news ≡ Nothing → (known : List ℕ) → TableStandsFor l.self.table known →
      TableStandsFor l.self.table (learn_all l.self.table.me known (take l.id-index l.ids));
}
