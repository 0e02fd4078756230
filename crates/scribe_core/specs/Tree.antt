-- How a node finds its place in the tree of a group, and leaves it. The way is that of the group's key.
use Rattle.std.specs.Prelude.{Bool, true, false, not, ◌==◌, ◌&&◌, if◌then◌else◌, List, [], ◌∷◌, ◌++◌, filter}
use Rattle.ring_math.specs.Names.{Id}
use Rattle.ring_math.specs.Sides.{is_in}
use Rattle.overlay_rules.specs.declared.request.Way.{Way}
use Rattle.overlay_rules.specs.declared.request.Way.TheVariants as way
use Rattle.scribe_core.specs.declared.message.GroupMessage.TheVariants as message
use Rattle.scribe_core.specs.Parts.{Part, Place, Loose, Root, Under, Orphan, Outcome, becomes, nothing, to}

-- the closest node to the key is the root, a node on the way asks the next to be its parent, and one that keeps the key for a
-- joiner is an orphan
abbrev pub attached : Way → Part → Outcome
attached way.NotReady p = nothing p
attached way.Here p = becomes (record p { place = Root }) [] []
attached (way.Gap j) p = becomes (record p { place = Orphan }) [] []
attached (way.To y) p = becomes (record p { place = Under y }) (to y message.Graft ∷ []) []

abbrev pub attached_from : Way → Part → Place → Outcome
attached_from w p Loose = attached w p
attached_from w p Root = nothing p
attached_from w p (Under y) = nothing p
attached_from w p Orphan = nothing p

-- a loose node takes its place
abbrev pub attach : Way → Part → Outcome
attach w p = attached_from w p p.place

abbrev pub is_childless : List Id → Bool
is_childless [] = true
is_childless (c ∷ cs) = false

abbrev pub is_idle : Part → Bool
is_idle p = not p.is_member && is_childless p.children

abbrev pub trimmed_from : Part → Place → Outcome
trimmed_from p Loose = nothing p
trimmed_from p Root = nothing p
trimmed_from p (Under y) = if is_idle p then becomes (record p { place = Loose }) (to y message.Prune ∷ []) [] else nothing p
trimmed_from p Orphan = nothing p

-- a node that has a parent, and is no member and without children, leaves the tree
abbrev pub trim : Part → Outcome
trim p = trimmed_from p p.place

-- with the child at the end, unless it is one
abbrev pub with_child : List Id → Id → List Id
with_child cs y = if is_in cs y then cs else cs ++ y ∷ []

abbrev pub without_child : List Id → Id → List Id
without_child cs y = filter (λ c. not (c == y)) cs
