-- What fragments that were found come to, and what is at fault where they are not those that the index names.
use Rattle.std.specs.Prelude.{◌≡◌, ℕ, ◌+◌, ◌-◌, ◌*◌, ◌==◌, min, nat_lt, Bool, false, not, if◌then◌else◌, Option, Some, None, List, [], ◌∷◌, length}
use Rattle.std.specs.Prelude.{map, take, drop}
use Rattle.std.specs.Prelude.{is_none, option_map}
use Rattle.std.specs.Int.{w16, w32, from_be_bytes}
use Rattle.std.specs.List.{flat_map}
use Rattle.std.specs.Option.{option_or}
use Rattle.ring_math.specs.Names.{Content}
use Rattle.ring_math.specs.declared.limits.TheConstants.{MOST_BYTES}
use Rattle.fragments.specs.declared.fault.JoinFault.{JoinFault}
use Rattle.fragments.specs.declared.fault.JoinFault.TheVariants.{Index, Count, Missing, Size}
use Rattle.fragments.specs.declared.limits.TheConstants.{HEAD_BYTES, FILE_ID_BYTES}
use Rattle.fragments.specs.declared.piece.Piece.{Piece}
use Rattle.fragments.specs.declared.piece.Pieces.{Pieces}
use Rattle.fragments.specs.Pieces.{fragment_count}

-- the length and the number of fragments that an index states
abbrev pub stated_size : Content → ℕ
stated_size index = from_be_bytes w32 (take 4 index)

abbrev pub stated_count : Content → ℕ
stated_count index = from_be_bytes w16 (take 2 (drop 4 index))

-- an index is short, or its number of fragments is not that of its length, or it names another number of them
abbrev pub index_fault : Content → Option JoinFault
index_fault index =
    if nat_lt (length index) HEAD_BYTES then Some (Index (length index))
    else (if not (stated_count index == fragment_count (stated_size index)) then Some (Index 4)
    else (if not (length index == HEAD_BYTES + FILE_ID_BYTES * stated_count index) then Some (Index HEAD_BYTES) else None))

abbrev pub count_fault : Content → List (Option Content) → Option JoinFault
count_fault index found = if length found == stated_count index then None else Some (Count (stated_count index) (length found))

-- the place, counted from i, of the first fragment of which a test holds
abbrev pub first_from : (ℕ → Option Content → Bool) → ℕ → List (Option Content) → Option ℕ
first_from test i [] = None
first_from test i (fragment ∷ fragments) = if test i fragment then Some i else first_from test (i + 1) fragments

abbrev pub is_missing : ℕ → Option Content → Bool
is_missing i fragment = is_none fragment

-- the bytes of fragment i, where the file has so many
abbrev pub fragment_size : ℕ → ℕ → ℕ
fragment_size size i = min MOST_BYTES (size - MOST_BYTES * i)

abbrev pub has_other_size : ℕ → ℕ → Option Content → Bool
has_other_size size i None = false
has_other_size size i (Some bytes) = not (length bytes == fragment_size size i)

-- the first that is missing, else the first of another size than in a file of so many bytes
abbrev pub fragment_fault : ℕ → List (Option Content) → Option JoinFault
fragment_fault size found =
    option_or (option_map (λ i. Missing i) (first_from is_missing 0 found)) (option_map (λ i. Size i) (first_from (has_other_size size) 0 found))

-- what is at fault: the index, else the number of fragments, else one of these
abbrev pub join_fault : Content → List (Option Content) → Option JoinFault
join_fault index found = option_or (index_fault index) (option_or (count_fault index found) (fragment_fault (stated_size index) found))

-- the bytes of those that were found, one behind the other
abbrev pub bytes_in : Option Content → Content
bytes_in None = []
bytes_in (Some bytes) = bytes

abbrev pub joined : List (Option Content) → Content
joined found = flat_map bytes_in found

-- all fragments of these pieces, found
abbrev pub all_found : Pieces → List (Option Content)
all_found pieces = map (λ (p : Piece). Some p.bytes) pieces.fragments

-- What was cut comes back: where all is found, nothing is at fault, and joined it is these bytes.
pub record ComesBack (pieces : Pieces) (bytes : Content) : Type 0 where
  pub faultless : join_fault pieces.index.bytes (all_found pieces) ≡ None
  pub whole : joined (all_found pieces) ≡ bytes
