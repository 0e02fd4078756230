-- The keys of files that a picture shows: those of all files that were accepted, each once, in the order in which they first were.
use Rattle.std.specs.Prelude.{if◌then◌else◌, List, [], ◌∷◌, ◌++◌}
use Rattle.std.specs.List.{fold}
use Rattle.ring_math.specs.Keys.{key_of}
use Rattle.ring_math.specs.Names.{Key}
use Rattle.ring_math.specs.Sides.{is_in}
use Rattle.wire_msg.specs.declared.note.Note.{Note}
use Rattle.wire_msg.specs.declared.note.Note.TheVariants as note
use Rattle.overlay_rules.specs.declared.entry.Entry.{Entry}
use Rattle.overlay_rules.specs.Table.{notes_in}

-- one key more, unless it is among these
abbrev pub with_key : List Key → Key → List Key
with_key keys key = if is_in keys key then keys else keys ++ key ∷ []

-- that of the file that a note says was accepted
abbrev pub with_note : List Key → Note → List Key
with_note keys (note.Accepted file bytes) = with_key keys (key_of file)
with_note keys (note.Delivered origin number key hops) = keys
with_note keys (note.Answered origin number reply) = keys
with_note keys (note.Closed number answer) = keys
with_note keys (note.Reclaimed file) = keys

abbrev pub with_notes : List Key → List Note → List Key
with_notes keys notes = fold with_note keys notes

abbrev pub keys_in : List Entry → List Key
keys_in es = with_notes [] (notes_in es)
