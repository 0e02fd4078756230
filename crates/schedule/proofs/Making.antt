-- What is made of words: identifiers and files, and how they follow one another.
use Rattle.std.proofs.Common.{◌≡◌, ◌<◌, ◌≤◌, ℕ, ◌+◌, ◌*◌, ◌%◌, List, [], ◌∷◌, ◌++◌, length, map, drop, zero-add, slice_set, sym, ap, ◌∙◌, arith}
use Rattle.std.specs.Int.{w128, from_be_bytes}
use Rattle.std.specs.List.{range_with_len}
use Rattle.std.proofs.lemmas.List.FromFn.{length-map-range_with_len, map-range_with_len_more}
use Rattle.ring_math.specs.Keys.{number_of, file_of}
use Rattle.ring_math.proofs.Spelling.{number_of-be_bytes}
use Rattle.rand_chacha.specs.ChaCha.{ChaCha}
use Rattle.schedule.specs.declared.file.MadeFile.{MadeFile}
use Rattle.schedule.specs.Made.{file_name, file_from, file_word, made_file}
use Rattle.schedule.specs.Making.{Making, id_from, node_id, ids_made}
use Rattle.schedule.specs.Words.{bytes_of, words_from, words_to_come, generator_after, generator_at}
use Rattle.schedule.proofs.Filling.{words_are, seed_after}

-- the identifier of filled bytes whose first is another
pub id_is : (node result : ℕ) (words filled : List ℕ) → filled ≡ bytes_of words → length filled ≡ 16 →
    result ≡ from_be_bytes w128 (slice_set filled 0 (node * 167 % 256)) → result ≡ id_from node words
unfolding id_from
id_is node result words [] is long e = absurd (omega arith)
id_is node result words (b ∷ bytes) is long e =
    e ∙ number_of-be_bytes (node * 167 % 256 ∷ bytes) long ∙ ap (λ bs. number_of (node * 167 % 256 ∷ drop 1 bs)) is

pub file_is : (j : ℕ) (salt words said file name owner salted bytes : List ℕ) → said ≡ file_name j → file ≡ file_of name owner salted → name ≡ said →
    owner ≡ [] → salted ≡ bytes_of salt → bytes ≡ bytes_of words → record { name = said; file = file; bytes = bytes } ≡ file_from j salt words
unfolding file_from
file_is j salt words said file name owner salted bytes called is named none salting filled =
    ap (λ n. record { name = n; file = file; bytes = bytes }) called ∙
    ap (λ f. record { name = file_name j; file = f; bytes = bytes })
    (is ∙ ap (λ n. file_of n owner salted) (named ∙ called) ∙ ap (λ o. file_of (file_name j) o salted) none ∙ ap (λ s. file_of (file_name j) [] s) salting) ∙
    ap (λ bs. record { name = file_name j; file = file_of (file_name j) [] (bytes_of salt); bytes = bs }) filled

-- the identifier that a seed's generator gives at a node's first word
pub node_made : (seed node id : ℕ) (g : ChaCha) → g ≡ generator_at seed (4 * node) → node < 256 → id ≡ id_from node (words_to_come g 4) → id ≡ node_id seed node
unfolding node_id
node_made seed node id g at few is =
    is ∙ ap (λ h. id_from node (words_to_come h 4)) at ∙ ap (λ ws. id_from node ws) (words_are seed (4 * node) 4 (omega arith))

pub node_after : (seed node : ℕ) (g next : ChaCha) → g ≡ generator_at seed (4 * node) → node < 256 → next ≡ generator_after g 4 →
    next ≡ generator_at seed (4 * (node + 1))
node_after seed node g next at few is =
    is ∙ ap (λ h. generator_after h 4) at ∙ seed_after seed (4 * node) 4 (omega arith) ∙ ap (λ t. generator_at seed t) same
  where
    same : 4 * node + 4 ≡ 4 * (node + 1)
    same = omega arith

-- the file that a seed's generator gives at a file's first word
pub file_made : (nodes seed j : ℕ) (file : MadeFile) (g : ChaCha) → g ≡ generator_at seed (file_word nodes j) → nodes ≤ 256 → j < 20 →
    file ≡ file_from j (words_to_come g 2) (words_to_come (generator_after g 2) 16) → file ≡ made_file nodes seed j
unfolding made_file
file_made nodes seed j file g at few low is =
    is ∙ ap (λ h. file_from j (words_to_come h 2) (words_to_come (generator_after h 2) 16)) at ∙
    ap (λ ws. file_from j ws (words_to_come (generator_after (generator_at seed (file_word nodes j)) 2) 16))
    (words_are seed (file_word nodes j) 2 (omega arith)) ∙
    ap (λ h. file_from j (words_from seed (file_word nodes j) 2) (words_to_come h 16)) (seed_after seed (file_word nodes j) 2 (omega arith)) ∙
    ap (λ ws. file_from j (words_from seed (file_word nodes j) 2) ws) (words_are seed (file_word nodes j + 2) 16 (omega arith))

pub file_after : (nodes seed j : ℕ) (g next : ChaCha) → g ≡ generator_at seed (file_word nodes j) → nodes ≤ 256 → j < 20 →
    next ≡ generator_after (generator_after g 2) 16 → next ≡ generator_at seed (file_word nodes (j + 1))
file_after nodes seed j g next at few low is =
    is ∙ ap (λ h. generator_after (generator_after h 2) 16) at ∙
    ap (λ h. generator_after h 16) (seed_after seed (file_word nodes j) 2 (omega arith)) ∙
    seed_after seed (file_word nodes j + 2) 16 (omega arith) ∙ ap (λ t. generator_at seed t) same
  where
    same : 4 * nodes + 18 * j + 2 + 16 ≡ 4 * nodes + 18 * (j + 1)
    same = omega arith

-- a list of what each number makes, with one more
pub made_more : {A : Type 0} (f : ℕ → A) (now next : List A) (k : ℕ) (x : A) →
    now ≡ map f (range_with_len 0 k) → next ≡ now ++ x ∷ [] → x ≡ f k → next ≡ map f (range_with_len 0 (k + 1))
made_more {A} f now next k x at is same =
    is ∙ ap (λ xs. xs ++ x ∷ []) at ∙ ap (λ y. map f (range_with_len 0 k) ++ y ∷ []) same ∙ sym (map-range_with_len_more f 0 k k (zero-add k))

-- what is made, when all nodes are
pub all_made : (nodes seed : ℕ) (ids : List ℕ) (now : ℕ) → now ≡ nodes → ids ≡ map (node_id seed) (range_with_len 0 now) → ids ≡ ids_made (length ids) seed
all_made nodes seed ids now whole ids_are =
    ids_are ∙ ap (λ n. map (node_id seed) (range_with_len 0 n))
    (sym (ap (λ (xs : List ℕ). length xs) ids_are ∙ length-map-range_with_len (node_id seed) 0 now))

pub made_view : (nodes seed now : ℕ) (ids : List ℕ) (files : List MadeFile) → now ≡ nodes → ids ≡ map (node_id seed) (range_with_len 0 now) →
    ◌≡◌ {A = Making} (record { nodes = length ids; seed = seed; files = files }) (record { nodes = nodes; seed = seed; files = files })
made_view nodes seed now ids files whole ids_are =
    ap (λ n. record { nodes = n; seed = seed; files = files })
    (ap (λ (xs : List ℕ). length xs) ids_are ∙ length-map-range_with_len (node_id seed) 0 now ∙ whole)
