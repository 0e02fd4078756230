-- Which fields a layout stands for.
use Rattle.std.proofs.Common.{◌≡◌, ℕ, ◌≤◌, List, [], ◌∷◌, Option, Some, None}
use Rattle.wire_codec.specs.Fields.{Field}
use Rattle.wire_codec.specs.Layouts.{Form, Layout, end, ◌▸◌, tagged}

abbrev pub form_of : Field → Option Form
form_of (Field.Id id) = Some Form.Id
form_of (Field.File file) = Some Form.File
form_of (Field.Number number) = Some Form.Number
form_of (Field.Attempt attempt) = Some Form.Attempt
form_of (Field.Hops hops) = Some Form.Hops
form_of (Field.Copies copies) = Some Form.Copies
form_of (Field.Bytes bytes) = Some Form.Bytes
form_of (Field.Ids ids) = Some Form.Ids
form_of (Field.Files files) = Some Form.Files
form_of (Field.Tombs tombs) = Some Form.Tombs
form_of (Field.Tag tag) = None

abbrev pub IsTagWithin : ℕ → ℕ → Field → Type 0
IsTagWithin lowest highest (Field.Tag tag) = (lowest ≤ tag) × (tag ≤ highest)
IsTagWithin lowest highest _ = ⊥

abbrev pub tag_in : Field → ℕ
tag_in (Field.Tag tag) = tag
tag_in _ = 0

abbrev pub Matches : Layout → List Field → Type 0
Matches end [] = Unit {0}
Matches end (field ∷ fields) = ⊥
Matches (form ▸ more) [] = ⊥
Matches (form ▸ more) (field ∷ fields) = (form_of field ≡ Some form) × Matches more fields
Matches (tagged lowest highest behind) [] = ⊥
Matches (tagged lowest highest behind) (field ∷ fields) = IsTagWithin lowest highest field × Matches (behind (tag_in field)) fields
