-- Which messages were delivered, as the code keeps it.
use Rattle.std.specs.Prelude.{◌≡◌, ◌<◌, ℕ, Bool, false, List, length, slice_index_or}
use Rattle.overlay_rules.specs.declared.entry.Entry.{Entry}
use Rattle.course_picture.specs.Arrows.{is_delivered}

-- of each of so many messages, at its place, whether these entries deliver it
pub record AreMarks (marks : List Bool) (count : ℕ) (es : List Entry) : Type 0 where
  pub size : length marks ≡ count
  pub each : (m : ℕ) → m < count → slice_index_or marks m false ≡ is_delivered es m
