-- Where a note stands in a record.
use Rattle.std.specs.Prelude.{◌≡◌, ℕ, ◌+◌, Some, List, slice_get, Contains, take}
use Rattle.ring_math.specs.Names.{Id}
use Rattle.wire_msg.specs.declared.note.Note.{Note}
use Rattle.overlay_rules.specs.declared.entry.Entry.{Entry}
use Rattle.overlay_rules.specs.Record.{Setting, World, Visit, visit, sent_in, world_after}

-- the entry that has the note, its node, and the worlds before and after it
pub record Moment : Type 0 where
  pub entry : Entry
  pub node : Id
  pub before : World
  pub world : World

-- that of entry i, counted from 0
abbrev pub moment_of : Setting → List Entry → ℕ → Entry → Id → Moment
moment_of g es i e x = record { entry = e; node = x; before = world_after g es i; world = world_after g es (i + 1) }

-- each note of each entry is such where it stands
abbrev pub EachNote : Setting → (Moment → Note → Type 0) → List Entry → Type 0
EachNote g P es =
    (i : ℕ) (e : Entry) (at : Visit) (n : Note) → slice_get es i ≡ Some e → visit (sent_in (take i es)) e.event ≡ Some at →
    Contains e.notes n → P (moment_of g es i e at.node) n
