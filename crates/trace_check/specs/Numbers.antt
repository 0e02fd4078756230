-- The numbers of a record's commands: which are used, and which is the greatest at each node.
use Rattle.std.specs.Prelude.{◌≢◌, ◌<◌, ◌≡◌, nat_lt, Bool, true, Option, Some, None, is_none, List, All}
use Rattle.std.specs.Bool.{Decides}
use Rattle.std.specs.BTreeMap.{get}
use Rattle.std.specs.Ordering.{nat_cmp}
use Rattle.ring_math.specs.Names.{Id, Number}
use Rattle.overlay_rules.specs.declared.entry.Event.{Event}
use Rattle.overlay_rules.specs.declared.entry.Event.TheVariants as event
use Rattle.overlay_rules.specs.declared.entry.Entry.{Entry}
use Rattle.trace_check.specs.declared.numbers.Numbers.{Numbers}

-- the number is not this event's command's
abbrev pub IsUnused : Number → Event → Type 0
IsUnused n (event.Command y m c) = n ≢ m
IsUnused n (event.Deliver m) = Unit {0}
IsUnused n (event.Noise y) = Unit {0}

-- the number is greater than that of this event's command, if it is one at node x
abbrev pub IsAbove : Id → Number → Event → Type 0
IsAbove x n (event.Command y m c) = x ≡ y → m < n
IsAbove x n (event.Deliver m) = Unit {0}
IsAbove x n (event.Noise y) = Unit {0}

-- the number is greater than this one, if there is one
abbrev pub is_above : Number → Option Number → Bool
is_above n None = true
is_above n (Some m) = nat_lt m n

-- what is kept of the numbers of these entries' commands
pub record AreNumbersOf (a : Numbers) (past : List Entry) : Type 0 where
  pub used : (n : Number) → Decides (is_none (get nat_cmp a.used n)) (All (λ e. IsUnused n e.event) past)
  pub greatest : (x : Id) (n : Number) → Decides (is_above n (get nat_cmp a.greatest x)) (All (λ e. IsAbove x n e.event) past)
