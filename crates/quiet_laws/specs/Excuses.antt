-- Where a command may stay open though nothing is on its way: only where a store is full.
use Rattle.std.specs.Prelude.{◌≡◌, false, ◌&&◌, Some, None, length, Contains}
use Rattle.ring_math.specs.declared.limits.TheConstants.{MOST_ENTRIES}
use Rattle.ring_math.specs.Names.{Id, Attempt, Number, FileId}
use Rattle.ring_math.specs.Files.{slot_of}
use Rattle.coverage.specs.GapFiles.{Lists}
use Rattle.wire_msg.specs.declared.command.Command.{Command as NodeCommand}
use Rattle.wire_msg.specs.declared.command.Command.TheVariants as command
use Rattle.overlay_rules.specs.declared.request.Pending.{Pending}
use Rattle.overlay_rules.specs.State.{Leasing}
use Rattle.overlay_rules.specs.ReadyTest.{has_all}
use Rattle.overlay_rules.specs.Record.{Setting, World}

-- the store of node y is full and has no entry for the file
pub record HasNoPlace (g : Setting) (w : World) (y : Id) (f : FileId) : Type 0 where
  pub member : Contains g.nodes y
  pub full : length (w.states y).files ≡ MOST_ENTRIES
  pub none : slot_of (w.states y).files f ≡ None

-- insert n of node a waits at a root, and each node that it awaits there has no place for its file
pub record WaitsForRoom (g : Setting) (w : World) (a : Id) (n : Number) (f : FileId) : Type 0 where
  pub root : Id
  pub ask : Pending
  pub waits : Contains (w.states root).pending ask
  pub origin : ask.origin ≡ a
  pub number : ask.number ≡ n
  pub file : ask.file ≡ f
  pub target : Id
  pub awaited : Contains ask.awaited target
  pub full : (y : Id) → Contains ask.awaited y → HasNoPlace g w y f

-- x, in join n, has the leases of both neighbours; its store is full, and lacks something of their lists
pub record HasNoRoom (g : Setting) (w : World) (x : Id) (n : Number) : Type 0 where
  pub member : Contains g.nodes x
  pub attempt : Attempt
  pub left : Id
  pub right : Id
  pub from_left : Lists
  pub from_right : Lists
  pub leasing : (w.states x).phase ≡ Leasing attempt n left right (Some from_left) (Some from_right)
  pub lacks : has_all (w.states x) from_left && has_all (w.states x) from_right ≡ false
  pub full : length (w.states x).files ≡ MOST_ENTRIES

-- command n of x may stay open
abbrev pub MayWait : Setting → World → Id → Number → NodeCommand → Type 0
MayWait g w x n (command.Insert file copies bytes) = WaitsForRoom g w x n file
MayWait g w x n (command.Join via) = HasNoRoom g w x n
MayWait g w x n (command.Lookup key) = ⊥
MayWait g w x n (command.Fetch file) = ⊥
MayWait g w x n (command.Reclaim file) = ⊥
MayWait g w x n command.GiveUp = ⊥
