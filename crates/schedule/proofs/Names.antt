-- Names and identifiers of a made scenario: how they are spelled, and that they differ.
use Rattle.std.proofs.Common.{◌≡◌, ◌≢◌, ◌<◌, ◌≤◌, ℕ, zero, suc, ◌+◌, ◌-◌, ◌*◌, ◌%◌, ◌^◌, true, IsTrue, List, [], ◌∷◌, ◌++◌, length, length-append}
use Rattle.std.proofs.Common.{drop, decimal, All, AllPairs, map}
use Rattle.std.proofs.Common.{get_or, refl, sym, subst, ap, ◌∙◌, zero-add, le-leb, arith}
use Rattle.std.specs.List.{range_with_len}
use Rattle.std.specs.Char.{digit_value}
use Rattle.std.specs.List.{list_all}
use Rattle.std.specs.Str.Parse.{digits_value, AllDigits}
use Rattle.std.proofs.lemmas.Str.Parse.{digit_from_value}
use Rattle.std.proofs.lemmas.Fmt.{decimal_is_IsNumeral, length-decimal-le}
use Rattle.std.proofs.Math.Seq.{get_or-append_seam}
use Rattle.std.proofs.lemmas.List.{get_or-map, length-map, map-append, get_or_append_left}
use Rattle.std.proofs.lemmas.List.Elements.{All-map}
use Rattle.std.proofs.lemmas.List.FromFn.{length-map-range_with_len, map-range_with_len_more, length-range_with_len, get_or-range_with_len}
use Rattle.std.proofs.lemmas.List.FromFn.{get_or-map-range_with_len}
use Rattle.overlay_rules.proofs.Each.{Each}
use Rattle.ring_math.specs.Keys.{number_from}
use Rattle.scenario_reader.specs.declared.node.NodeLine.{NodeLine}
use Rattle.scenario_reader.specs.declared.node.FileLine.{FileLine}
use Rattle.scenario_reader.specs.Plain.{Draft, ids, node_names, file_names}
use Rattle.scenario_reader.specs.Effects.{with_node}
use Rattle.schedule.specs.declared.file.MadeFile.{MadeFile}
use Rattle.scenario_reader.specs.Rules.{MayDeclareNode, MayDeclareFile}
use Rattle.scenario_reader.specs.Spelling.{is_name, is_name_byte}
use Rattle.schedule.specs.Made.{file_name, file_from, made_file, files_made}
use Rattle.schedule.specs.Making.{id_from, node_id, node_line, file_line, file_lines}
use Rattle.schedule.proofs.Keeping.{length_of_lines}
use Rattle.schedule.specs.Words.{bytes_of, words_from}

-- ---- spelling

digit_is_name_byte : (c : ℕ) → digit_value c < 10 → is_name_byte c ≡ true
unfolding is_name_byte
digit_is_name_byte c h =
    let range = digit_from_value c h in
    rw (le-leb 48 c range.0, le-leb c 57 range.1) refl

digits_are_name_bytes : (cs : List ℕ) → AllDigits 10 cs → list_all is_name_byte cs ≡ true
digits_are_name_bytes [] h = refl
digits_are_name_bytes (c ∷ cs) h = rw (digit_is_name_byte c h.0) (digits_are_name_bytes cs h.1)

-- a letter and a small number are spelled as a name
pub name_spelled : (letter n : ℕ) → is_name_byte letter ≡ true → n < 1000 → IsTrue (is_name (letter ∷ decimal n))
name_spelled letter n h few =
    let short : length (decimal n) ≤ 3 = length-decimal-le 3 n (omega arith) (omega arith) (omega arith) in
    let digits = decimal_is_IsNumeral n (omega arith) in
    rw (le-leb 1 (suc (length (decimal n))) (omega arith), le-leb (suc (length (decimal n))) 32 (omega arith), h) (digits_are_name_bytes (decimal n) digits.0.1)

letter_n : is_name_byte 110 ≡ true
unfolding is_name_byte
letter_n = refl

letter_f : is_name_byte 102 ≡ true
unfolding is_name_byte
letter_f = refl

-- ---- names differ

pub name_tells : (letter i j : ℕ) → i < 2 ^ 64 → j < 2 ^ 64 → letter ∷ decimal i ≡ letter ∷ decimal j → i ≡ j
name_tells letter i j hi hj e =
    sym (decimal_is_IsNumeral i hi).1 ∙ ap (λ (name : List ℕ). digits_value 10 (drop 1 name)) e ∙ (decimal_is_IsNumeral j hj).1

-- ---- identifiers differ, by their first bytes

abbrev IsByte : ℕ → Type 0
IsByte b = b < 256

first_tells : (xs ys : List ℕ) (a b : ℕ) → length xs ≡ length ys → Each IsByte xs → Each IsByte ys → number_from a xs ≡ number_from b ys → a ≡ b
first_tells [] [] a b same hx hy e = e
first_tells [] (y ∷ ys) a b same hx hy e = absurd (omega arith)
first_tells (x ∷ xs) [] a b same hx hy e = absurd (omega arith)
first_tells (x ∷ xs) (y ∷ ys) a b same hx hy e =
    let more = first_tells xs ys (256 * a + x) (256 * b + y) (omega arith) hx.1 hy.1 e in
    let low = hx.0 in let high = hy.0 in omega arith

words_are_bytes : (words : List ℕ) → Each IsByte (bytes_of words)
words_are_bytes [] = tt
words_are_bytes (w ∷ words) = (omega arith, (omega arith, (omega arith, (omega arith, words_are_bytes words))))

length_of_bytes : (words : List ℕ) → length (bytes_of words) ≡ 4 * length words
length_of_bytes [] = refl
length_of_bytes (w ∷ words) = let more = length_of_bytes words in omega arith

length_of_words : (seed t n : ℕ) → length (words_from seed t n) ≡ n
unfolding words_from
length_of_words seed t zero = refl
length_of_words seed t (suc n) = ap suc (length_of_words seed (suc t) n)

behind_first : (xs : List ℕ) → Each IsByte xs → Each IsByte (drop 1 xs)
behind_first [] h = tt
behind_first (x ∷ xs) h = h.1

length_behind_first : (xs : List ℕ) → length (drop 1 xs) ≡ length xs - 1
length_behind_first [] = omega arith
length_behind_first (x ∷ xs) = omega arith

pub id_tells : (seed i j : ℕ) → i < 256 → j < 256 → node_id seed i ≡ node_id seed j → i ≡ j
unfolding node_id id_from
id_tells seed i j hi hj e = odd i j hi hj first
  where
    size : (k : ℕ) → length (drop 1 (bytes_of (words_from seed k 4))) ≡ 15
    size k =
        let all = length_of_bytes (words_from seed k 4) in let words = length_of_words seed k 4 in
        let rest = length_behind_first (bytes_of (words_from seed k 4)) in omega arith

    first : 256 * 0 + i * 167 % 256 ≡ 256 * 0 + j * 167 % 256
    first =
        first_tells (drop 1 (bytes_of (words_from seed (4 * i) 4))) (drop 1 (bytes_of (words_from seed (4 * j) 4))) _ _
        (size (4 * i) ∙ sym (size (4 * j))) (behind_first _ (words_are_bytes (words_from seed (4 * i) 4)))
        (behind_first _ (words_are_bytes (words_from seed (4 * j) 4))) e

    odd : (i j : ℕ) → i < 256 → j < 256 → 256 * 0 + i * 167 % 256 ≡ 256 * 0 + j * 167 % 256 → i ≡ j
    odd i j hi hj e = omega arith

-- ---- what the builder asks of nodes and files

all_in_range : (P : ℕ → Type 0) (n : ℕ) → ((k : ℕ) → k < n → P k) → All P (range_with_len 0 n)
all_in_range P n h k d lt =
    let below : k < n = (let size = length-range_with_len 0 n in omega arith) in
    let at : get_or (range_with_len 0 n) k d ≡ k = get_or-range_with_len 0 n k d below ∙ zero-add k in
    subst P (sym at) (h k below)

pub may_declare_node : (seed i : ℕ) (draft : Draft) (name : List ℕ) (id : ℕ) → draft.nodes ≡ map (node_line seed) (range_with_len 0 i) → i < 256 →
    name ≡ 110 ∷ decimal i → id ≡ node_id seed i → MayDeclareNode draft name id
may_declare_node seed i draft name id nodes few named identified = record {
  few = let size = ap (λ (ns : List NodeLine). length ns) nodes ∙ length-map-range_with_len (node_line seed) 0 i in omega arith;
  spelled = subst (λ n. IsTrue (is_name n)) (sym named) (name_spelled 110 i letter_n (omega arith));
  new_name = subst (λ ns. All (λ other. other ≢ name) (node_names ns)) (sym nodes)
      (All-map (λ other. other ≢ name) (λ (node : NodeLine). node.name) _
      (All-map (λ (node : NodeLine). node.name ≢ name) (node_line seed) (range_with_len 0 i)
      (all_in_range (λ k. 110 ∷ decimal k ≢ name) i (λ k lt e. other k lt (name_tells 110 k i (omega arith) (omega arith) (e ∙ named))))));
  new_id = subst (λ ns. All (λ other. other ≢ id) (ids ns)) (sym nodes)
      (All-map (λ other. other ≢ id) (λ (node : NodeLine). node.id) _
      (All-map (λ (node : NodeLine). node.id ≢ id) (node_line seed) (range_with_len 0 i)
      (all_in_range (λ k. node_id seed k ≢ id) i (λ k lt e. other k lt (id_tells seed k i (omega arith) few (e ∙ identified))))));
}
  where
    other : (k : ℕ) → k < i → k ≡ i → ⊥
    other k lt e = omega arith

pub file_name_spelled : (name : List ℕ) (j : ℕ) → name ≡ file_name j → j < 20 → IsTrue (is_name name)
file_name_spelled name j named few = subst (λ n. IsTrue (is_name n)) (sym named) (name_spelled 102 j letter_f (omega arith))

names_of_lines : (line : ℕ) (files : List MadeFile) → file_names (file_lines line files) ≡ map (λ (made : MadeFile). made.name) files
names_of_lines line [] = refl
names_of_lines line (made ∷ files) = ap (λ names. made.name ∷ names) (names_of_lines (line + 1) files)

-- one behind others differs from each of them
new_behind : (xs ys : List (List ℕ)) (y : List ℕ) → AllPairs ◌≢◌ (xs ++ y ∷ ys) → All (λ x. x ≢ y) xs
new_behind xs ys y differ k d lt =
    subst (λ z. get_or xs k d ≢ z) (get_or-append_seam xs y ys d)
    (subst (λ z. z ≢ get_or (xs ++ y ∷ ys) (length xs) d) (get_or_append_left xs (y ∷ ys) d k lt)
    (differ k (length xs) d lt (let size = length-append xs (y ∷ ys) in omega arith)))

pub may_declare_file : (draft : Draft) (name : List ℕ) (line : ℕ) (file : FileLine) (rest : List FileLine) (files : List MadeFile) → length files ≤ 256 →
    AllPairs ◌≢◌ (map (λ (made : MadeFile). made.name) files) → draft.files ++ file ∷ rest ≡ file_lines line files → file.name ≡ name →
    IsTrue (is_name name) → MayDeclareFile draft name
may_declare_file draft name line file rest files few differ is named spelled = record {
  few = let size = ap (λ (fs : List FileLine). length fs) is ∙ length_of_lines line files in let sum = length-append draft.files (file ∷ rest) in omega arith;
  spelled = spelled;
  new_name = subst (λ n. All (λ other. other ≢ n) (file_names draft.files)) named
      (new_behind (file_names draft.files) (file_names rest) file.name
      (subst (λ ns. AllPairs ◌≢◌ ns) (sym (names_of_lines line files) ∙ ap (λ fs. file_names fs) (sym is) ∙
      map-append (λ (f : FileLine). f.name) draft.files (file ∷ rest)) differ));
}

-- the names of a made scenario's files differ
pub file_names_differ : (nodes seed : ℕ) → AllPairs ◌≢◌ (map (λ (made : MadeFile). made.name) (files_made nodes seed))
unfolding made_file file_from
file_names_differ nodes seed i j d lt within e =
    let size = length-map {A = MadeFile} {B = List ℕ} (files_made nodes seed) (λ made. made.name) in
    let twenty = length-map-range_with_len (made_file nodes seed) 0 20 in
    let same = name_tells 102 i j (omega arith) (omega arith) (sym (name_at i (omega arith)) ∙ e ∙ name_at j (omega arith)) in
    absurd (omega arith)
  where
    name_at : (k : ℕ) → k < 20 → get_or (map (λ (made : MadeFile). made.name) (files_made nodes seed)) k d ≡ file_name k
    name_at k few =
        let inside = length-map-range_with_len (made_file nodes seed) 0 20 in
        get_or-map (λ (made : MadeFile). made.name) (files_made nodes seed) k (made_file nodes seed k) d (omega arith) ∙
        ap (λ (made : MadeFile). made.name) (get_or-map-range_with_len (made_file nodes seed) 0 20 k k (made_file nodes seed k) few (zero-add k))

-- ---- what a builder holds, with one more node or file

pub node_added : (seed i : ℕ) (first now next : Draft) (node : NodeLine) → now ≡ record first { nodes = map (node_line seed) (range_with_len 0 i) } →
    next ≡ with_node now node → node ≡ node_line seed i → next ≡ record first { nodes = map (node_line seed) (range_with_len 0 (i + 1)) }
node_added seed i first now next node at is same =
    is ∙ ap (λ d. with_node d node) at ∙ ap (λ n. record first { nodes = map (node_line seed) (range_with_len 0 i) ++ n ∷ [] }) same ∙
    ap (λ ns. record first { nodes = ns }) (sym (map-range_with_len_more (node_line seed) 0 i i (zero-add i)))

-- lines from their parts
pub node_line_is : (seed i : ℕ) (name : List ℕ) (id : ℕ) → name ≡ 110 ∷ decimal i → id ≡ node_id seed i →
    ◌≡◌ {A = NodeLine} (record { name = name; id = id; line = i + 1 }) (node_line seed i)
node_line_is seed i name id named identified =
    ap (λ (n : List ℕ). record { name = n; id = id; line = i + 1 }) named ∙ ap (λ x. record { name = 110 ∷ decimal i; id = x; line = i + 1 }) identified

pub file_line_is : (line : ℕ) (name file bytes : List ℕ) (made : MadeFile) → name ≡ made.name → file ≡ made.file → bytes ≡ made.bytes →
    ◌≡◌ {A = FileLine} (record { name = name; file = file; bytes = bytes; line = line }) (file_line line made)
file_line_is line name file bytes made named is copied =
    ap (λ (n : List ℕ). record { name = n; file = file; bytes = bytes; line = line }) named ∙
    ap (λ (f : List ℕ). record { name = made.name; file = f; bytes = bytes; line = line }) is ∙
    ap (λ (b : List ℕ). record { name = made.name; file = made.file; bytes = b; line = line }) copied
