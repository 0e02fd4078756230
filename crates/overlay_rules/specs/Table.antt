-- The one plain table of files, as the notes of a record make it.
use Rattle.std.specs.Prelude.{Bool, true, false, if◌then◌else◌, Option, Some, None, List, [], ◌∷◌, flat_map}
use Rattle.std.specs.List.{list_any}
use Rattle.ring_math.specs.Names.{FileId, Content}
use Rattle.ring_math.specs.Bytewise.{same_bytes}
use Rattle.wire_msg.specs.declared.note.Note.{Note}
use Rattle.wire_msg.specs.declared.note.Note.TheVariants as note
use Rattle.overlay_rules.specs.declared.entry.Entry.{Entry}

pub data Kept : Type 0 where
  Nowhere : Kept
  Keeps : (bytes : Content) → Kept
  Gone : Kept

abbrev pub notes_in : List Entry → List Note
notes_in es = flat_map (λ e. e.notes) es

-- the first bytes that were accepted for the file
abbrev pub accepted_in : FileId → List Note → Option Content
accepted_in f [] = None
accepted_in f (note.Accepted g bytes ∷ ns) = if same_bytes f g then Some bytes else accepted_in f ns
accepted_in f (note.Delivered o n key hops ∷ ns) = accepted_in f ns
accepted_in f (note.Answered o n r ∷ ns) = accepted_in f ns
accepted_in f (note.Closed n a ∷ ns) = accepted_in f ns
accepted_in f (note.Reclaimed g ∷ ns) = accepted_in f ns

abbrev pub is_acceptance_of : FileId → Note → Bool
is_acceptance_of f (note.Accepted g bytes) = same_bytes f g
is_acceptance_of f (note.Delivered o n key hops) = false
is_acceptance_of f (note.Answered o n r) = false
is_acceptance_of f (note.Closed n a) = false
is_acceptance_of f (note.Reclaimed g) = false

abbrev pub is_reclaim_of : FileId → Note → Bool
is_reclaim_of f (note.Reclaimed g) = same_bytes f g
is_reclaim_of f (note.Accepted g bytes) = false
is_reclaim_of f (note.Delivered o n key hops) = false
is_reclaim_of f (note.Answered o n r) = false
is_reclaim_of f (note.Closed n a) = false

-- an accepted file is kept, until it is reclaimed
abbrev pub kept_with : Bool → Option Content → Kept
kept_with reclaimed None = Nowhere
kept_with true (Some bytes) = Gone
kept_with false (Some bytes) = Keeps bytes

abbrev pub table_of : List Note → FileId → Kept
table_of ns f = kept_with (list_any (is_reclaim_of f) ns) (accepted_in f ns)

abbrev pub table : List Entry → FileId → Kept
table es f = table_of (notes_in es) f
