-- What the outcomes of the reader's steps say of the words read.
use Rattle.std.proofs.Common.{◌≡◌, ◌≢◌, ℕ, zero, suc, ◌==◌, ◌||◌, ◌<◌, ◌≤◌, Bool, true, false, cond, List, [], ◌∷◌, length, get_or, map, arith, refl, subst}
use Rattle.std.proofs.Common.{sym, ap}
use Rattle.std.specs.Prelude.{◌↔◌, All, Any, Contains, IsSome, IsTrue, Option, Some, None, bytes_eq, find, is_some, option_map}
use Rattle.std.specs.List.{list_any}
use Rattle.std.proofs.lemmas.Bool.{eqb-false}
use Rattle.std.proofs.lemmas.Bool.Decides.{not_from_Decides}
use Rattle.std.proofs.lemmas.Slice.Eq.{bytes_eq-Decides}
use Rattle.scenario_reader.specs.declared.node.NodeLine.{NodeLine}
use Rattle.scenario_reader.specs.declared.node.FileLine.{FileLine}
use Rattle.scenario_reader.specs.Plain.{ids, node_names, file_names, node_named, file_named}
use Rattle.scenario_reader.specs.Rules.{IsFile, IsFileOf}
use Rattle.scenario_reader.specs.declared.words.Word.{Word}
use Rattle.scenario_reader.specs.Words.{plain_word}

-- where nothing came of an option, there was nothing
pub None-from_option_map : {A B : Type 0} (f : A → B) (o : Option A) (answer : Option B) (found : Bool) → answer ≡ option_map f o → found ≡ is_some answer →
    found ≡ false → o ≡ None
None-from_option_map f None answer found is told none = refl
None-from_option_map f (Some x) answer found is told none = let some : found ≡ true = rw is at told in cc

pub None-from_mapped : {A B : Type 0} (f : A → B) (o : Option A) (answer : Option B) (found : Bool) → option_map f o ≡ answer → found ≡ is_some o →
    found ≡ false → answer ≡ None
None-from_mapped f None answer found is told none = sym is
None-from_mapped f (Some x) answer found is told none = cc

-- bytes that are no frame are refused
pub IsSome-from_no_frame : {A : Type 0} (o : Option A) (answer : Bool) → (IsTrue answer ↔ (o ≡ None)) → answer ≡ false → IsSome o
IsSome-from_no_frame None answer is none = let yes : answer ≡ true = is.1 refl in cc
IsSome-from_no_frame (Some x) answer is none = refl

None-from_cond : {A : Type 0} (b : Bool) (x : A) (o : Option A) → cond b (Some x) o ≡ None → (b ≡ false) × (o ≡ None)
None-from_cond true x o is = cc
None-from_cond false x o is = (refl, is)

false-from_or : (a b : Bool) → (a || b) ≡ false → (a ≡ false) × (b ≡ false)
false-from_or true b is = cc
false-from_or false b is = (refl, is)

-- a name that nothing was found under is none of the names
not_found : {X : Type 0} (f : X → List ℕ) (xs : List X) (name : List ℕ) → find (λ x. bytes_eq (f x) name) xs ≡ None → All (λ other. other ≢ name) (map f xs)
not_found f [] name none k d within = absurd (omega arith)
not_found f (x ∷ xs) name none zero d within =
    not_from_Decides _ (bytes_eq-Decides (f x) name) (None-from_cond _ _ _ none).0
not_found f (x ∷ xs) name none (suc k) d within =
    not_found f xs name (None-from_cond _ _ _ none).1 k d (omega arith)

pub new_name : (nodes : List NodeLine) (name : List ℕ) → node_named nodes name ≡ None → All (λ other. other ≢ name) (node_names nodes)
new_name nodes name none = not_found (λ (node : NodeLine). node.name) nodes name none

pub new_file_name : (files : List FileLine) (name : List ℕ) → file_named files name ≡ None → All (λ other. other ≢ name) (file_names files)
new_file_name files name none = not_found (λ (file : FileLine). file.name) files name none

-- what holds of an element or of one behind it
Any-here : {X : Type 0} (P : X → Type 0) (x : X) (xs : List X) → P x → Any P (x ∷ xs)
Any-here P x xs holds = (0, x, omega arith, refl, holds)

Any-later : {X : Type 0} (P : X → Type 0) (x : X) (xs : List X) → Any P xs → Any P (x ∷ xs)
Any-later P x xs has = (suc has.0, has.1, omega (arith, has.2), has.3, has.4)

-- a file that was found is declared
found_one : (P : FileLine → Type 0) (same : Bool) (first : FileLine) (files : List FileLine) (named : Option FileLine) (file : FileLine) → P file →
    (named ≡ Some file → Any P files) → cond same (Some first) named ≡ Some file → Any P (first ∷ files)
found_one P true first files named file holds later is =
    let here : first ≡ file = cc in Any-here P first files (subst P (sym here) holds)
found_one P false first files named file holds later is = Any-later P first files (later is)

declared : (P : FileLine → Type 0) (files : List FileLine) (name : List ℕ) (file : FileLine) → P file → file_named files name ≡ Some file → Any P files
declared P [] name file holds found = cc
declared P (first ∷ files) name file holds found =
    found_one P (bytes_eq first.name name) first files (file_named files name) file holds (declared P files name file holds) found

pub IsFileOf-from_named : (files : List FileLine) (name : List ℕ) (file : FileLine) → file_named files name ≡ Some file → IsFileOf files file.file file.bytes
IsFileOf-from_named files name file found =
    declared (λ (line : FileLine). (line.file ≡ file.file) × (line.bytes ≡ file.bytes)) files name file (refl, refl) found

pub IsFile-from_named : (files : List FileLine) (name : List ℕ) (file : FileLine) → file_named files name ≡ Some file → IsFile files file.file
IsFile-from_named files name file found =
    declared (λ (line : FileLine). line.file ≡ file.file) files name file refl found

-- the identifier of a node that was found is one of theirs
id_of_first : (same : Bool) (first : NodeLine) (nodes : List NodeLine) (named : Option NodeLine) (node : NodeLine) →
    (named ≡ Some node → Contains (ids nodes) node.id) → cond same (Some first) named ≡ Some node → Contains (ids (first ∷ nodes)) node.id
id_of_first true first nodes named node later is =
    let here : first ≡ node = cc in (0, omega arith, ap (λ (n : NodeLine). n.id) here)
id_of_first false first nodes named node later is =
    let has = later is in (suc has.0, omega (arith, has.1), has.2)

pub id_of_named : (nodes : List NodeLine) (name : List ℕ) (node : NodeLine) → node_named nodes name ≡ Some node → Contains (ids nodes) node.id
id_of_named [] name node found = cc
id_of_named (first ∷ nodes) name node found =
    id_of_first (bytes_eq first.name name) first nodes (node_named nodes name) node (id_of_named nodes name node) found

-- an identifier that no node has
pub new_id : (nodes : List NodeLine) (id : ℕ) → list_any (λ (node : NodeLine). node.id == id) nodes ≡ false → All (λ other. other ≢ id) (ids nodes)
new_id [] id none k d within = absurd (omega arith)
new_id (node ∷ nodes) id none zero d within = eqb-false node.id id (false-from_or _ _ none).0
new_id (node ∷ nodes) id none (suc k) d within = new_id nodes id (false-from_or _ _ none).1 k d (omega arith)

-- one word, two words
pub words-one : (words : List Word) (d : Word) → 1 ≤ length words → length words < 2 → map plain_word words ≡ plain_word (get_or words 0 d) ∷ []
words-one [] d some few = absurd (omega arith)
words-one (word ∷ []) d some few = refl
words-one (word ∷ next ∷ words) d some few = absurd (omega arith)

pub words-two : (words : List Word) (d : Word) → 2 ≤ length words → length words < 3 →
    map plain_word words ≡ plain_word (get_or words 0 d) ∷ plain_word (get_or words 1 d) ∷ []
words-two [] d some few = absurd (omega arith)
words-two (word ∷ []) d some few = absurd (omega arith)
words-two (word ∷ next ∷ []) d some few = refl
words-two (word ∷ next ∷ last ∷ words) d some few = absurd (omega arith)
