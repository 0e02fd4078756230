-- How many bytes the fields of a frame take.
use Rattle.std.specs.Prelude.{ℕ, ◌+◌, ◌*◌, List, [], ◌∷◌, length}
use Rattle.wire_codec.specs.Fields.{Field}

abbrev pub size_of : Field → ℕ
size_of (Field.Id id) = 16
size_of (Field.File file) = 20
size_of (Field.Number number) = 8
size_of (Field.Attempt attempt) = 4
size_of (Field.Hops hops) = 2
size_of (Field.Copies copies) = 1
size_of (Field.Bytes bytes) = 2 + length bytes
size_of (Field.Ids ids) = 1 + 16 * length ids
size_of (Field.Files files) = 2 + 20 * length files
size_of (Field.Tombs tombs) = 2 + 20 * length tombs
size_of (Field.Tag tag) = 1

abbrev pub size_of_all : List Field → ℕ
size_of_all [] = 0
size_of_all (field ∷ fields) = size_of field + size_of_all fields
