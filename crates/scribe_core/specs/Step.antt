-- Group step: what a node does in a group. The way is where the group's key leads from the node.
use Rattle.std.specs.Prelude.{Bool, true, false, if◌then◌else◌, List, [], ◌∷◌, ◌++◌}
use Rattle.ring_math.specs.Names.{Id, Number, Content}
use Rattle.ring_math.specs.Sides.{is_in}
use Rattle.overlay_rules.specs.declared.request.Way.{Way}
use Rattle.overlay_rules.specs.declared.request.Way.TheVariants as way
use Rattle.scribe_core.specs.declared.message.GroupCommand.{GroupCommand}
use Rattle.scribe_core.specs.declared.message.GroupCommand.TheVariants as command
use Rattle.scribe_core.specs.declared.message.GroupMessage.{GroupMessage}
use Rattle.scribe_core.specs.declared.message.GroupMessage.TheVariants as message
use Rattle.scribe_core.specs.declared.note.GroupNote.{GroupNote}
use Rattle.scribe_core.specs.declared.note.GroupNote.TheVariants as note
use Rattle.scribe_core.specs.Parts.{GroupName, Part, Place, Loose, Root, Under, Orphan, Input, Command, Comes, Outcome, becomes, nothing, noting, to, to_each}
use Rattle.scribe_core.specs.Tree.{attach, trim, with_child, without_child}

-- a member hears
abbrev pub heard : GroupName → Number → Content → Bool → List GroupNote
heard name n bytes true = note.Heard name n bytes ∷ []
heard name n bytes false = []

-- what was not seen is heard by a member, and goes to each child
abbrev pub cast : GroupName → Part → Number → Content → Outcome
cast name p n bytes =
    if is_in p.seen n then nothing p
    else becomes (record p { seen = p.seen ++ n ∷ [] }) (to_each p.children (message.Cast n bytes)) (heard name n bytes p.is_member)

-- ---- commands

abbrev pub refuse : Part → Number → Outcome
refuse p n = becomes p [] (note.Refused n ∷ [])

abbrev pub subscribe : Way → Part → Number → Outcome
subscribe w p n = noting (note.Subscribed n) (attach w (record p { is_member = true }))

-- a loose node that keeps the key for a joiner can't be a member
abbrev pub subscribe_beside : Way → Part → Number → Place → Outcome
subscribe_beside w p n Loose = refuse p n
subscribe_beside w p n Root = subscribe w p n
subscribe_beside w p n (Under y) = subscribe w p n
subscribe_beside w p n Orphan = subscribe w p n

abbrev pub on_subscribe : Way → Part → Number → Outcome
on_subscribe way.NotReady p n = refuse p n
on_subscribe way.Here p n = subscribe way.Here p n
on_subscribe (way.Gap j) p n = subscribe_beside (way.Gap j) p n p.place
on_subscribe (way.To y) p n = subscribe (way.To y) p n

abbrev pub on_leave : Part → Number → Outcome
on_leave p n = noting (note.Left n) (trim (record p { is_member = false }))

abbrev pub on_publish : Way → GroupName → Part → Number → Content → Outcome
on_publish way.NotReady name p n bytes = refuse p n
on_publish way.Here name p n bytes = noting (note.Published n) (cast name p n bytes)
on_publish (way.Gap j) name p n bytes = refuse p n
on_publish (way.To y) name p n bytes = becomes p (to y (message.Publish n bytes) ∷ []) (note.Published n ∷ [])

-- ---- messages

abbrev pub on_graft : Way → Part → Id → Outcome
on_graft w p sender = attach w (record p { children = with_child p.children sender })

abbrev pub on_prune : Part → Id → Outcome
on_prune p sender = trim (record p { children = without_child p.children sender })

abbrev pub on_published : Way → GroupName → Part → Number → Content → Outcome
on_published way.NotReady name p n bytes = nothing p
on_published way.Here name p n bytes = cast name p n bytes
on_published (way.Gap j) name p n bytes = nothing p
on_published (way.To y) name p n bytes = becomes p (to y (message.Publish n bytes) ∷ []) []

-- ---- all

abbrev pub on_command : Way → GroupName → Part → Number → GroupCommand → Outcome
on_command w name p n command.Subscribe = on_subscribe w p n
on_command w name p n command.Leave = on_leave p n
on_command w name p n (command.Publish bytes) = on_publish w name p n bytes

abbrev pub on_message : Way → GroupName → Part → Id → GroupMessage → Outcome
on_message w name p sender message.Graft = on_graft w p sender
on_message w name p sender message.Prune = on_prune p sender
on_message w name p sender (message.Publish n bytes) = on_published w name p n bytes
on_message w name p sender (message.Cast n bytes) = cast name p n bytes

abbrev pub group_step : Way → GroupName → Part → Input → Outcome
group_step w name p (Command n c) = on_command w name p n c
group_step w name p (Comes sender m) = on_message w name p sender m
