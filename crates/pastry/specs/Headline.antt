-- The headline: what holds of every record that is played, however many nodes join at once and however messages are delayed,
-- repeated, reordered or withheld in it. The words are those of the rules of the overlay, where each is written out.
use Rattle.std.specs.Prelude.{List}
use Rattle.overlay_rules.specs.declared.entry.Entry.{Entry}
use Rattle.overlay_rules.specs.Record.{Setting}
use Rattle.overlay_rules.specs.Rightly.{NotesAreRight, LookupsAreRight, ClosedOnce}
use Rattle.overlay_rules.specs.Laws.{OneCovers, ClosestCovers, HopsGoNearer, OwnerHolds, HeldIsAccepted, NotedOnce, StoredStays, GoneIsReclaimed}
use Rattle.overlay_rules.specs.Laws.{ReclaimedIsLast}
use Rattle.ring_laws.specs.Closings.{ClosingsAreRight}
use Rattle.ring_laws.specs.Hops.{HopsAreFew}
use Rattle.quiet_laws.specs.Laws.{NobodyWaits, NobodyWaitsWithRoom}

pub record Headline (g : Setting) (es : List Entry) : Type 0 where
  -- after every entry no two ready nodes cover one key; the closest ready node covers it, or keeps it for one that joins
  pub one_covers : OneCovers g es
  pub closest_covers : ClosestCovers g es
  -- the next hop of a ready node is ready and nearer to the key
  pub hops_go_nearer : HopsGoNearer g es
  -- each lookup was delivered by the one ready node then closest to its key, with fewer hops than there are ready nodes
  pub lookups_are_right : LookupsAreRight g es
  pub hops_are_few : HopsAreFew g es
  -- every delivery is right, every answer is right (those about files are the answers of one plain table), and every command
  -- was closed rightly, and once
  pub notes_are_right : NotesAreRight g es
  pub closings_are_right : ClosingsAreRight g es
  pub closed_once : ClosedOnce es
  -- the closest ready node holds each file of the table, or its tombstone; what any node holds was accepted
  pub owner_holds : OwnerHolds g es
  pub held_is_accepted : HeldIsAccepted g es
  -- no file is accepted twice, and none is reclaimed twice
  pub noted_once : NotedOnce es
  -- a file answered Stored is never afterwards missing or other, until it is reclaimed; and after that it stays away
  pub stored_stays : StoredStays es
  pub gone_is_reclaimed : GoneIsReclaimed es
  pub reclaimed_is_last : ReclaimedIsLast es
  -- where each message that was sent was delivered by some entry, each command is closed, unless a store is full
  pub nobody_waits : NobodyWaits g es
  pub nobody_waits_with_room : NobodyWaitsWithRoom g es
