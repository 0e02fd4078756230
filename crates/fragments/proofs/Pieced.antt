-- Fragments are cut one after another, and the index says what they are.
use Rattle.std.proofs.Common.{◌≡◌, ◌<◌, ◌≤◌, ℕ, ◌+◌, ◌-◌, ◌*◌, min, List, [], ◌∷◌, ◌++◌, length, map, take, drop, refl, sym, ap, ◌∙◌, arith, zero-add}
use Rattle.std.proofs.Common.{length-drop}
use Rattle.std.specs.Int.{w16, w32, to_be_bytes}
use Rattle.std.specs.List.{flat_map, range_with_len}
use Rattle.std.proofs.lemmas.Grind.{div_ceil_times}
use Rattle.std.proofs.lemmas.List.{length-map, take_min}
use Rattle.std.proofs.lemmas.List.FromFn.{length-map-range_with_len, map-range_with_len_more}
use Rattle.ring_math.specs.Keys.{file_of}
use Rattle.ring_math.specs.Names.{FileId}
use Rattle.fragments.specs.declared.piece.Piece.{Piece}
use Rattle.fragments.specs.Pieces.{LargeFile, piece_of, fragment_count, fragment, index_bytes, pieces_of, with_index}
use Rattle.fragments.proofs.Returning.{count_few}

files_written : (pieces : List Piece) → flat_map (λ (p : Piece). p.file) pieces ≡ flat_map (λ (file : FileId). file) (map (λ (p : Piece). p.file) pieces)
files_written [] = refl
files_written (p ∷ pieces) = ap (λ bs. p.file ++ bs) (files_written pieces)

pub index_said : (size : ℕ) (pieces : List Piece) (none one two all four pair : List ℕ) → none ≡ [] → four ≡ to_be_bytes w32 size → one ≡ none ++ four →
    pair ≡ to_be_bytes w16 (length pieces) → two ≡ one ++ pair → all ≡ two ++ flat_map (λ (p : Piece). p.file) pieces →
    all ≡ index_bytes size (map (λ (p : Piece). p.file) pieces)
index_said size pieces none one two all four pair empty sized first counted second third =
    third ∙ ap (λ bs. bs ++ flat_map (λ (p : Piece). p.file) pieces) (second ∙ ap (λ bs. bs ++ pair) (first ∙ ap (λ bs. bs ++ four) empty ∙ sized) ∙
    ap (λ bs. to_be_bytes w32 size ++ bs) (counted ∙ ap (λ n. to_be_bytes w16 n) (sym (length-map {A = Piece} {B = List ℕ} pieces (λ p. p.file))))) ∙
    ap (λ bs. to_be_bytes w32 size ++ to_be_bytes w16 (length (map (λ (p : Piece). p.file) pieces)) ++ bs) (files_written pieces)

pub fragment_added : (f : LargeFile) (i : ℕ) (now next : List Piece) (piece : Piece) (part : List ℕ) →
    now ≡ map (fragment f) (range_with_len 0 i) → next ≡ now ++ piece ∷ [] →
    piece ≡ record { file = file_of (f.name ++ to_be_bytes w32 i) f.owner f.salt; name = f.name ++ to_be_bytes w32 i; bytes = part } →
    part ≡ take 4096 (drop (4096 * i) f.bytes) → next ≡ map (fragment f) (range_with_len 0 (i + 1))
fragment_added f i now next piece part at is said cut =
    is ∙ ap (λ (ps : List Piece). ps ++ piece ∷ []) at ∙
    ap (λ (p : Piece). map (fragment f) (range_with_len 0 i) ++ p ∷ []) (said ∙ ap (λ bytes. piece_of f (f.name ++ to_be_bytes w32 i) bytes) cut) ∙
    sym (map-range_with_len_more (fragment f) 0 i i (zero-add i))

-- the part of a fragment ends where it is full, or with the bytes
pub part_of : (bytes : List ℕ) (i end : ℕ) → end ≡ min (length bytes) (4096 * i + 4096) → 4096 * i ≤ length bytes →
    take (end - 4096 * i) (drop (4096 * i) bytes) ≡ take 4096 (drop (4096 * i) bytes)
part_of bytes i end is inside =
    ap (λ n. take n (drop (4096 * i) bytes)) same ∙ take_min 4096 (drop (4096 * i) bytes)
  where
    same : end - 4096 * i ≡ min 4096 (length (drop (4096 * i) bytes))
    same = omega (arith, length-drop (4096 * i) bytes)

-- a fragment begins among the bytes
pub starts_inside : (size i : ℕ) → i < fragment_count size → 4096 * i ≤ size
starts_inside size i h = let times = div_ceil_times size 4096 (omega arith) in let high = times.1 in omega arith

pub few_fragments : (f : LargeFile) (i size : ℕ) (pieces : List Piece) → size ≤ 835584 → i ≤ fragment_count size →
    pieces ≡ map (fragment f) (range_with_len 0 i) → length pieces ≤ 204
few_fragments f i size pieces few within at =
    let counted = ap (λ (ps : List Piece). length ps) at in
    let all = length-map-range_with_len (fragment f) 0 i in let count = (count_few size few).0 in omega arith

-- where all fragments are there, the index names them
pub all_there : (f : LargeFile) (i size : ℕ) (fragments : List Piece) → size ≡ length f.bytes → i ≡ fragment_count size →
    fragments ≡ map (fragment f) (range_with_len 0 i) → with_index size f.name f.owner f.salt fragments ≡ pieces_of f
all_there f i size fragments sized counted at =
    ap (λ (ps : List Piece). with_index size f.name f.owner f.salt ps) (at ∙ ap (λ n. map (fragment f) (range_with_len 0 n)) counted) ∙
    ap (λ n. with_index n f.name f.owner f.salt (map (fragment f) (range_with_len 0 (fragment_count n)))) sized
