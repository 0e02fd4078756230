-- A file that is too large for one node's store, as pieces that are not: fragments, and an index that names them.
use Rattle.std.specs.Prelude.{ℕ, ◌*◌, List, ◌++◌, length, take, drop, map}
use Rattle.std.specs.Int.{w16, w32, to_be_bytes, div_ceil}
use Rattle.std.specs.List.{flat_map, range_with_len}
use Rattle.ring_math.specs.Keys.{file_of}
use Rattle.ring_math.specs.Names.{FileId, Content}
use Rattle.ring_math.specs.declared.limits.TheConstants.{MOST_BYTES}
use Rattle.fragments.specs.declared.piece.Piece.{Piece}
use Rattle.fragments.specs.declared.piece.Pieces.{Pieces}

-- a large file, with all that names it
pub record LargeFile : Type 0 where
  pub name : List ℕ
  pub owner : List ℕ
  pub salt : List ℕ
  pub bytes : Content

-- a piece has the file's owner and salt, and a name of its own
abbrev pub piece_of : LargeFile → List ℕ → Content → Piece
piece_of f name bytes = record { file = file_of name f.owner f.salt; name = name; bytes = bytes }

-- how many fragments so many bytes have: the last may be shorter
abbrev pub fragment_count : ℕ → ℕ
fragment_count size = div_ceil size MOST_BYTES

-- fragment i, from 0: the next bytes behind those of the fragments before it
abbrev pub fragment : LargeFile → ℕ → Piece
fragment f i = piece_of f (f.name ++ to_be_bytes w32 i) (take MOST_BYTES (drop (MOST_BYTES * i) f.bytes))

abbrev pub fragments_of : LargeFile → List Piece
fragments_of f = map (fragment f) (range_with_len 0 (fragment_count (length f.bytes)))

-- what an index says: the length, the number of the fragments, and their identifiers
abbrev pub index_bytes : ℕ → List FileId → Content
index_bytes size files = to_be_bytes w32 size ++ to_be_bytes w16 (length files) ++ flat_map (λ file. file) files

abbrev pub index_of : LargeFile → Piece
index_of f = piece_of f f.name (index_bytes (length f.bytes) (map (λ (p : Piece). p.file) (fragments_of f)))

abbrev pub pieces_of : LargeFile → Pieces
pieces_of f = record { index = index_of f; fragments = fragments_of f }

-- these fragments, of the file of this name, owner and salt that has so many bytes, and the index that names them
abbrev pub with_index : ℕ → List ℕ → List ℕ → List ℕ → List Piece → Pieces
with_index size name owner salt fragments = record {
  index = record { file = file_of name owner salt; name = name; bytes = index_bytes size (map (λ (p : Piece). p.file) fragments) };
  fragments = fragments;
}
