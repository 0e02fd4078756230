-- The files that a node holds, one file after another, and which node stands at a place.
use Rattle.std.proofs.Common.{◌≡◌, ℕ, ◌+◌, ◌<◌, Bool, true, false, true≢false, cond, List, [], ◌∷◌, ◌++◌, length, get_or, slice_index, take, map}
use Rattle.std.proofs.Common.{refl, sym, ap, ◌∙◌, arith}
use Rattle.std.proofs.Common.{zero, suc}
use Rattle.std.specs.List.{filter}
use Rattle.std.proofs.lemmas.List.{append-nil, map-append}
use Rattle.std.proofs.lemmas.List.Elements.{filter_more}
use Rattle.ring_math.specs.declared.file.Held.{Held}
use Rattle.scenario_reader.specs.declared.node.NodeLine.{NodeLine}
use Rattle.scenario_reader.specs.declared.node.FileLine.{FileLine}
use Rattle.scenario_reader.specs.Plain.{ids}
use Rattle.message_table.specs.Ends.{is_held, held_names}
use Rattle.message_table.specs.Labels.{spaced, spaced_or_dash}

held-next : (held : List Held) (files : List FileLine) (i : ℕ) (x : FileLine) (b : Bool) → i < length files → x ≡ get_or files i x → is_held held x ≡ b →
    held_names (take (i + 1) files) held ≡ map (λ (file : FileLine). file.name) (filter (is_held held) (take i files) ++ cond b (x ∷ []) [])
held-next held files i x b within at is =
    ap (map (λ (file : FileLine). file.name)) (filter_more (is_held held) files i x within
    ∙ ap (λ y. filter (is_held held) (take i files) ++ cond (is_held held y) (y ∷ []) []) (sym at)
    ∙ ap (λ c. filter (is_held held) (take i files) ++ cond c (x ∷ []) []) is)

-- a file that is held
pub held-more : (held : List Held) (files : List FileLine) (i : ℕ) (x : FileLine) → i < length files → x ≡ get_or files i x → is_held held x ≡ true →
    held_names (take (i + 1) files) held ≡ held_names (take i files) held ++ x.name ∷ []
held-more held files i x within at is =
    held-next held files i x true within at is ∙ map-append (λ (file : FileLine). file.name) (filter (is_held held) (take i files)) (x ∷ [])

-- a file that is not
pub held-same : (held : List Held) (files : List FileLine) (i : ℕ) (x : FileLine) → i < length files → x ≡ get_or files i x → is_held held x ≡ false →
    held_names (take (i + 1) files) held ≡ held_names (take i files) held
held-same held files i x within at is =
    held-next held files i x false within at is ∙ ap (map (λ (file : FileLine). file.name)) (append-nil (filter (is_held held) (take i files)))

-- names are written behind spaces, and no names as a dash
abbrev pub are_any : List (List ℕ) → Bool
are_any [] = false
are_any (name ∷ names) = true

pub any_behind : (names : List (List ℕ)) (name : List ℕ) → are_any (names ++ name ∷ []) ≡ true
any_behind [] name = refl
any_behind (n ∷ ns) name = refl

pub dash_unless_any : (names : List (List ℕ)) → are_any names ≡ true → spaced_or_dash names ≡ spaced names
dash_unless_any [] any = cc
dash_unless_any (n ∷ ns) any = refl

pub none_unless_any : (names : List (List ℕ)) → are_any names ≡ false → names ≡ []
none_unless_any [] any = refl
none_unless_any (n ∷ ns) any = absurd (true≢false any)

-- the identifier at a place is that of the node there
pub id_at_place : (nodes : List NodeLine) (i : ℕ) (d : NodeLine) → i < length nodes → slice_index (ids nodes) i ≡ (get_or nodes i d).id
id_at_place [] i d l = absurd (omega arith)
id_at_place (n ∷ ns) zero d l = refl
id_at_place (n ∷ ns) (suc i) d l = id_at_place ns i d (omega arith)
