-- Where files and names stand on the circle.
use Rattle.std.specs.Prelude.{ℕ, ◌+◌, ◌*◌, List, [], ◌∷◌, ◌++◌, take}
use Rattle.ring_math.specs.Names.{Id, Key, FileId}
use Rattle.sha1.specs.Sha1.{sha1}

-- the number that bytes spell behind those of `before`, the most significant first
abbrev pub number_from : ℕ → List ℕ → ℕ
number_from before [] = before
number_from before (b ∷ bs) = number_from (256 * before + b) bs

abbrev pub number_of : List ℕ → ℕ
number_of bytes = number_from 0 bytes

-- the key of a file: the first 16 bytes of its identifier
abbrev pub key_of : FileId → Key
key_of file = number_of (take 16 file)

-- the identifier of a file with this name, owner and salt
abbrev pub file_of : List ℕ → List ℕ → List ℕ → FileId
file_of name owner salt = sha1 (name ++ 0 ∷ owner ++ salt)

-- the identifier of a name
abbrev pub id_of : List ℕ → Id
id_of name = number_of (take 16 (sha1 name))
