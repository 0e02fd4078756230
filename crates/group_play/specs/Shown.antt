-- The part of a node that is kept, as a plain part: the numbers seen are kept as a set, which forgets their order.
use Rattle.std.specs.Prelude.{◌≡◌, ℕ, Bool, true, false, Option, Some, None, List}
use Rattle.std.specs.BTreeSet.{BTreeSet, contains}
use Rattle.std.specs.Ordering.{nat_cmp}
use Rattle.ring_math.specs.Names.{Id, Number}
use Rattle.ring_math.specs.Sides.{is_in}
use Rattle.overlay_rules.specs.declared.request.Way.{Way}
use Rattle.overlay_rules.specs.declared.request.Way.TheVariants as way
use Rattle.scribe_core.specs.Parts.{Part, Place, Loose, Root, Under, Orphan}
use Rattle.group_play.specs.declared.part.Part.{Part as KeptPart}
use Rattle.group_play.specs.declared.part.Place.{Place as KeptPlace}
use Rattle.group_play.specs.declared.part.Place.TheVariants as kept

abbrev pub place_of : KeptPlace → Place
place_of kept.Loose = Loose
place_of kept.Root = Root
place_of (kept.Under y) = Under y
place_of kept.Orphan = Orphan

-- the part, where these numbers were seen in this order
abbrev pub part_of : KeptPart → List Number → Part
part_of a seen = record { place = place_of a.place; children = a.children.items; is_member = a.is_member; seen = seen }

-- the set has the numbers of the list
pub record HasSeen (kept : BTreeSet ℕ) (seen : List Number) : Type 0 where
  pub each : (n : Number) → contains nat_cmp kept n ≡ is_in seen n

-- what is kept stands for this part
pub record Stands (a : KeptPart) (p : Part) : Type 0 where
  pub seen : HasSeen a.seen p.seen
  pub is : part_of a p.seen ≡ p

abbrev pub is_loose : KeptPlace → Bool
is_loose kept.Loose = true
is_loose kept.Root = false
is_loose (kept.Under y) = false
is_loose kept.Orphan = false

abbrev pub parent_of : KeptPlace → Option Id
parent_of kept.Loose = None
parent_of kept.Root = None
parent_of (kept.Under y) = Some y
parent_of kept.Orphan = None

-- a node can't become a member: it is not ready, or it is loose and keeps the key for a joiner
abbrev pub is_barred : Way → KeptPlace → Bool
is_barred way.NotReady place = true
is_barred way.Here place = false
is_barred (way.Gap j) place = is_loose place
is_barred (way.To y) place = false
