-- What was cut is joined again: the index states what is so, each fragment has its size, and one behind the other they are the file.
use Rattle.std.proofs.Common.{◌≡◌, ◌<◌, ◌≤◌, ℕ, zero, suc, ◌+◌, ◌*◌, ◌^◌, min, Option, Some}
use Rattle.std.proofs.Common.{None, List, [], ◌∷◌, ◌++◌}
use Rattle.std.proofs.Common.{length, length-append, length-drop, map, take, drop, refl, sym, ap, ◌∙◌, arith, le-ltb, eq-eqb}
use Rattle.std.specs.Int.{w32, to_be_bytes}
use Rattle.std.specs.List.{flat_map, range_with_len}
use Rattle.std.proofs.lemmas.List.{length-take, take_all, length-map}
use Rattle.std.proofs.lemmas.List.FromFn.{length-map-range_with_len, length-range_with_len}
use Rattle.std.proofs.lemmas.Grind.{div_ceil_times}
use Rattle.std.proofs.lemmas.Nat.{from_be_bytes-to_be_bytes_2, from_be_bytes-to_be_bytes_4}
use Rattle.sha1.specs.Sha1.{sha1, digest_bytes}
use Rattle.ring_math.specs.Keys.{file_of}
use Rattle.ring_math.specs.Names.{FileId, Content}
use Rattle.fragments.specs.declared.piece.Piece.{Piece}
use Rattle.fragments.specs.Joined.{stated_size, stated_count, index_fault, count_fault, first_from, is_missing, fragment_size, has_other_size, fragment_fault}
use Rattle.fragments.specs.Joined.{join_fault, joined, all_found, ComesBack}
use Rattle.fragments.specs.Pieces.{LargeFile, fragment_count, fragment, fragments_of, index_bytes, pieces_of}

-- ---- what an index states

length_of_file : (name owner salt : List ℕ) → length (file_of name owner salt) ≡ 20
unfolding sha1 digest_bytes
length_of_file name owner salt = refl

pub length_of_files : (f : LargeFile) (ns : List ℕ) → length (flat_map (λ (file : FileId). file)
    (map (λ (p : Piece). p.file) (map (fragment f) ns))) ≡ 20 * length ns
length_of_files f [] = refl
length_of_files f (n ∷ ns) =
    let one = length_of_file (f.name ++ to_be_bytes w32 n) f.owner f.salt in
    let more = length_of_files f ns in
    let sum = length-append (fragment f n).file (flat_map (λ (file : FileId). file) (map (λ (p : Piece). p.file) (map (fragment f) ns))) in omega arith

size_stated : (size : ℕ) (files : List FileId) → size < 2 ^ 32 → stated_size (index_bytes size files) ≡ size
size_stated size files h = from_be_bytes-to_be_bytes_4 size h

count_stated : (size : ℕ) (files : List FileId) → length files < 2 ^ 16 → stated_count (index_bytes size files) ≡ length files
count_stated size files h = from_be_bytes-to_be_bytes_2 (length files) h

length_stated : (size : ℕ) (files : List FileId) → length (index_bytes size files) ≡ 6 + length (flat_map (λ (file : FileId). file) files)
length_stated size files = omega arith

index_faultless : (index : Content) → 6 ≤ length index → stated_count index ≡ fragment_count (stated_size index) →
    length index ≡ 6 + 20 * stated_count index → index_fault index ≡ None
index_faultless index long count whole =
    rw (
      le-ltb (length index) 6 long,
      eq-eqb (stated_count index) (fragment_count (stated_size index)) count,
      eq-eqb (length index) (6 + 20 * stated_count index) whole,
    ) refl

count_faultless : (index : Content) (found : List (Option Content)) → length found ≡ stated_count index → count_fault index found ≡ None
count_faultless index found same = rw (eq-eqb (length found) (stated_count index) same) refl

-- ---- fragments

none_missing : (i : ℕ) (pieces : List Piece) → first_from is_missing i (map (λ (p : Piece). Some p.bytes) pieces) ≡ None
none_missing i [] = refl
none_missing i (p ∷ pieces) = none_missing (i + 1) pieces

size_of_fragment : (f : LargeFile) (i : ℕ) → length (fragment f i).bytes ≡ fragment_size (length f.bytes) i
size_of_fragment f i = length-take 4096 (drop (4096 * i) f.bytes) ∙ ap (λ n. min 4096 n) (length-drop (4096 * i) f.bytes)

none_of_other_size : (f : LargeFile) (i n : ℕ) →
    first_from (has_other_size (length f.bytes)) i (map (λ (p : Piece). Some p.bytes) (map (fragment f) (range_with_len i n))) ≡ None
none_of_other_size f i zero = refl
none_of_other_size f i (suc n) =
    rw (eq-eqb (length (fragment f i).bytes) (fragment_size (length f.bytes) i) (size_of_fragment f i)) (none_of_other_size f (i + 1) n)

take_none : (n : ℕ) → take {A = ℕ} n [] ≡ []
take_none zero = refl
take_none (suc n) = refl

drop_none : (n : ℕ) → drop {A = ℕ} n [] ≡ []
drop_none zero = refl
drop_none (suc n) = refl

take_more : (a b : ℕ) (xs : List ℕ) → take a xs ++ take b (drop a xs) ≡ take (a + b) xs
take_more zero b xs = ap (λ n. take n xs) same where
  same : b ≡ 0 + b
  same = omega arith
take_more (suc a) b [] = take_none b ∙ sym (take_none (suc a + b))
take_more (suc a) b (x ∷ xs) = ap (λ ys. x ∷ ys) (take_more a b xs) ∙ ap (λ n. take n (x ∷ xs)) same where
  same : suc (a + b) ≡ suc a + b
  same = omega arith

drop_more : (a b : ℕ) (xs : List ℕ) → drop a (drop b xs) ≡ drop (b + a) xs
drop_more a zero xs = ap (λ n. drop n xs) same where
  same : a ≡ 0 + a
  same = omega arith
drop_more a (suc b) [] = drop_none a ∙ sym (drop_none (suc b + a))
drop_more a (suc b) (x ∷ xs) = drop_more a b xs ∙ ap (λ n. drop n (x ∷ xs)) same where
  same : suc (b + a) ≡ suc b + a
  same = omega arith

fragments_join : (f : LargeFile) (i n : ℕ) →
    joined (map (λ (p : Piece). Some p.bytes) (map (fragment f) (range_with_len i n))) ≡ take (4096 * n) (drop (4096 * i) f.bytes)
fragments_join f i zero = refl
fragments_join f i (suc n) =
    ap (λ bs. (fragment f i).bytes ++ bs)
    (fragments_join f (i + 1) n ∙ ap (λ k. take (4096 * n) (drop k f.bytes)) next ∙
    ap (λ bs. take (4096 * n) bs) (sym (drop_more 4096 (4096 * i) f.bytes))) ∙
    take_more 4096 (4096 * n) (drop (4096 * i) f.bytes) ∙ ap (λ k. take k (drop (4096 * i) f.bytes)) all
  where
    next : 4096 * (i + 1) ≡ 4096 * i + 4096
    next = omega arith

    all : 4096 + 4096 * n ≡ 4096 * suc n
    all = omega arith

-- ---- the whole

-- so many bytes have few fragments, which have room for them
pub count_few : (size : ℕ) → size ≤ 835584 → (fragment_count size ≤ 204) × (size ≤ 4096 * fragment_count size)
count_few size h = let times = div_ceil_times size 4096 (omega arith) in let low = times.0 in let high = times.1 in (omega arith, omega arith)

pub comes_back : (f : LargeFile) → length f.bytes ≤ 835584 → ComesBack (pieces_of f) f.bytes
comes_back f few = record { faultless = faultless; whole = whole }
  where
    size : ℕ
    size = length f.bytes

    count : ℕ
    count = fragment_count size

    files : List FileId
    files = map (λ (p : Piece). p.file) (fragments_of f)

    index : Content
    index = index_bytes size files

    counted : length files ≡ count
    counted = length-map {A = Piece} {B = List ℕ} (fragments_of f) (λ p. p.file) ∙ length-map-range_with_len (fragment f) 0 count

    size_is : stated_size index ≡ size
    size_is = size_stated size files (omega arith)

    count_is : stated_count index ≡ count
    count_is = count_stated size files (let few = (count_few size few).0 in omega (arith, counted)) ∙ counted

    length_is : length index ≡ 6 + 20 * count
    length_is =
        length_stated size files ∙ ap (λ n. 6 + n) (length_of_files f (range_with_len 0 count)) ∙
        ap (λ n. 6 + 20 * n) (length-range_with_len 0 count)

    index_is : index_fault index ≡ None
    index_is = index_faultless index (omega (arith, length_is)) (count_is ∙ sym (ap (λ n. fragment_count n) size_is))
        (length_is ∙ ap (λ n. 6 + 20 * n) (sym count_is))

    found : List (Option Content)
    found = all_found (pieces_of f)

    found_counted : length found ≡ count
    found_counted = length-map {A = Piece} {B = Option (List ℕ)} (fragments_of f) (λ p. Some p.bytes) ∙ length-map-range_with_len (fragment f) 0 count

    fragments_are : fragment_fault (stated_size index) found ≡ None
    fragments_are =
        rw (none_missing 0 (fragments_of f), size_is, none_of_other_size f 0 count) refl

    faultless : join_fault index found ≡ None
    faultless = rw (index_is, count_faultless index found (found_counted ∙ sym count_is), fragments_are) refl

    whole : joined found ≡ f.bytes
    whole = fragments_join f 0 count ∙ take_all (4096 * count) f.bytes (let room = (count_few size few).1 in room)
