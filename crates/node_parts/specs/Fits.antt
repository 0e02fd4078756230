-- The room that a change needs.
use Rattle.std.specs.Prelude.{◌≤◌, ◌+◌, ℕ, length, min, vec_len, vec_capacity}
use Rattle.ring_math.specs.Files.{buried_all}
use Rattle.ring_math.specs.declared.limits.TheConstants.{MOST_ENTRIES}
use Rattle.file_store.specs.Store.{Store}
use Rattle.node_parts.specs.declared.change.Change.{Change}
use Rattle.node_parts.specs.declared.change.Parts.{Parts}
use Rattle.node_parts.specs.declared.change.Rest.{Rest}
use Rattle.node_parts.specs.declared.change.Rest.TheVariants as rest
use Rattle.node_parts.specs.declared.change.StoreChange.{StoreChange}
use Rattle.node_parts.specs.declared.change.StoreChange.TheVariants as store
use Rattle.node_parts.specs.declared.change.PastChange.{PastChange}
use Rattle.node_parts.specs.declared.change.PastChange.TheVariants as past
use Rattle.node_parts.specs.declared.change.Wait.{Wait}
use Rattle.node_parts.specs.declared.change.Wait.TheVariants as wait
use Rattle.node_parts.specs.declared.node.Node.{Node}

-- the entries that may stand afterwards have room
abbrev pub StoreFits : Store → StoreChange → Type 0
StoreFits s store.Keep = Unit {0}
StoreFits s (store.Set file slot) = min (length s.files + 1) MOST_ENTRIES ≤ s.room
StoreFits s (store.Bury tombs) = length (buried_all s.files tombs) ≤ s.room

-- how many inserts more may wait
abbrev pub asks_more : PastChange → ℕ
asks_more (past.Add p) = 1
asks_more past.Keep = 0
asks_more (past.TakeOut place) = 0
asks_more (past.Hear place awaited) = 0
asks_more (past.Leave reach joiner) = 0
asks_more (past.End file) = 0

-- how many numbers more may wait
abbrev pub waits_more : Wait → ℕ
waits_more wait.Keep = 0
waits_more (wait.Add n) = 1
waits_more (wait.Take n) = 0

-- the files and the inserts that wait have the room
pub record PartsFit (n : Node) (r : Parts) : Type 0 where
  pub store : StoreFits n.store r.store
  pub past : length n.past.asks + asks_more r.past ≤ n.past.room

abbrev pub RestFits : Node → Rest → Type 0
RestFits n rest.Keep = Unit {0}
RestFits n (rest.Learnt y) = Unit {0}
RestFits n (rest.Answered from) = Unit {0}
RestFits n (rest.Heard from ys) = Unit {0}
RestFits n (rest.Parts r) = PartsFit n r.value

-- the node has the room
pub record Fits (n : Node) (c : Change) : Type 0 where
  pub rest : RestFits n c.rest
  pub waiting : vec_len n.waiting + waits_more c.waiting ≤ vec_capacity n.waiting
