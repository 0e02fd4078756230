-- What is looked up by marks is what a search of the names finds.
use Rattle.std.proofs.Common.{◌≡◌, ℕ, zero, suc, ◌+◌, ◌<◌, ◌≤◌, Bool, true, false, List, [], ◌∷◌, ◌++◌, length, get_or, take, drop, set, refl, sym, ◌∙◌, ap}
use Rattle.std.proofs.Common.{arith}
use Rattle.std.specs.Prelude.{Some, None, find, bytes_eq}
use Rattle.std.proofs.lemmas.Bool.{eqb-false, false_from_ne_true}
use Rattle.std.proofs.lemmas.Slice.Eq.{bytes_eq-Decides}
use Rattle.std.proofs.lemmas.List.{drop_all, length-map, drop_more, drop-drop, get_or-drop, length-drop, length_push, map-append, take_more_set}
use Rattle.memchr.specs.Find.{is_byte}
use Rattle.scenario_reader.specs.Marks.{mark_of, marks_by}
use Rattle.scenario_reader.proofs.Cuts.{NoneBelow}

-- items that do not pass are passed over
find-skip : {X : Type 0} (test : X → Bool) (items : List X) (n : ℕ) → n ≤ length items → ((j : ℕ) (d : X) → j < n → test (get_or items j d) ≡ false) →
    find test items ≡ find test (drop n items)
find-skip test items zero within fails = refl
find-skip test [] (suc n) within fails = absurd (omega arith)
find-skip test (item ∷ items) (suc n) within fails =
    rw (fails 0 item (omega arith)) (find-skip test items n (omega arith) (λ j d before. fails (suc j) d (omega arith)))

-- the mark at a place is that of the item there
mark_at : {X : Type 0} (name : X → List ℕ) (items : List X) (j : ℕ) (d : X) → j < length items →
    get_or (marks_by name items) j 0 ≡ mark_of (name (get_or items j d))
mark_at name [] j d within = absurd (omega arith)
mark_at name (item ∷ items) zero d within = refl
mark_at name (item ∷ items) (suc j) d within = mark_at name items j d (omega arith)

-- another mark is another name's
other_name : (one other : List ℕ) → is_byte (mark_of other) (mark_of one) ≡ false → bytes_eq one other ≡ false
other_name one other differ =
    false_from_ne_true _ (λ same. eqb-false _ _ differ (ap mark_of ((bytes_eq-Decides one other).0 same)))

-- whether an item has the name
abbrev pub has_name : {X : Type 0} → (X → List ℕ) → List ℕ → X → Bool
has_name name looked item = bytes_eq (name item) looked

-- items of other marks are passed over
find-passed : {X : Type 0} (name : X → List ℕ) (looked : List ℕ) (items : List X) (marks : List ℕ) (from n : ℕ) → marks ≡ marks_by name items →
    from + n ≤ length items → NoneBelow (is_byte (mark_of looked)) (drop from marks) n →
    find (has_name name looked) (drop from items) ≡ find (has_name name looked) (drop (from + n) items)
find-passed name looked items marks from n marked within none =
    find-skip (has_name name looked) (drop from items) n (omega (arith, length-drop from items, within)) fails
    ∙ ap (find (has_name name looked)) (drop-drop n from items)
  where
    fails : (j : ℕ) (d : _) → j < n → has_name name looked (get_or (drop from items) j d) ≡ false
    fails j d before =
        let at : get_or (drop from marks) j 0 ≡ mark_of (name (get_or items (from + j) d)) =
        get_or-drop from marks j 0 ∙ ap (λ (ms : List ℕ). get_or ms (from + j) 0) marked ∙ mark_at name items (from + j) d (omega (arith, within, before)) in
        rw (get_or-drop from items j d) (other_name (name (get_or items (from + j) d)) looked (rw at at (none.fails j before)))

sizes : {X : Type 0} (name : X → List ℕ) (items : List X) (marks : List ℕ) → marks ≡ marks_by name items → length marks ≡ length items
sizes name items marks marked = ap length marked ∙ length-map items (λ item. mark_of (name item))

-- none of the rest has the mark
pub find-nothing : {X : Type 0} (name : X → List ℕ) (looked : List ℕ) (items : List X) (marks : List ℕ) (from : ℕ) → marks ≡ marks_by name items →
    from ≤ length items → NoneBelow (is_byte (mark_of looked)) (drop from marks) (length (drop from marks)) →
    find (has_name name looked) (drop from items) ≡ None
find-nothing name looked items marks from marked within none =
    let rest : from + length (drop from marks) ≡ length items = omega (arith, length-drop from marks, sizes name items marks marked, within) in
    find-passed name looked items marks from (length (drop from marks)) marked (omega (arith, rest)) none
    ∙ ap (find (has_name name looked)) (drop_all _ items (omega (arith, rest)))

-- the next item of the mark
pub place_within : {X : Type 0} (name : X → List ℕ) (items : List X) (marks : List ℕ) (from n : ℕ) → marks ≡ marks_by name items →
    n < length (drop from marks) → from + n < length items
place_within name items marks from n marked before =
    omega (arith, length-drop from marks, sizes name items marks marked, before)

-- it is the one that is looked for
pub find-here : {X : Type 0} (name : X → List ℕ) (looked : List ℕ) (items : List X) (marks : List ℕ) (from n : ℕ) (item : X) → marks ≡ marks_by name items →
    n < length (drop from marks) → NoneBelow (is_byte (mark_of looked)) (drop from marks) n → item ≡ get_or items (from + n) item →
    has_name name looked item ≡ true → find (has_name name looked) (drop from items) ≡ Some item
find-here name looked items marks from n item marked before none at is =
    let within = place_within name items marks from n marked before in
    find-passed name looked items marks from n marked (omega (arith, within)) none ∙ rw (drop_more items (from + n) item within, ← at, is) refl

-- it is another
pub find-later : {X : Type 0} (name : X → List ℕ) (looked : List ℕ) (items : List X) (marks : List ℕ) (from n : ℕ) (item : X) → marks ≡ marks_by name items →
    n < length (drop from marks) → NoneBelow (is_byte (mark_of looked)) (drop from marks) n → item ≡ get_or items (from + n) item →
    has_name name looked item ≡ false → find (has_name name looked) (drop from items) ≡ find (has_name name looked) (drop (from + n + 1) items)
find-later name looked items marks from n item marked before none at is =
    let within = place_within name items marks from n marked before in
    find-passed name looked items marks from n marked (omega (arith, within)) none ∙ rw (drop_more items (from + n) item within, ← at, is) refl

-- one more item, and its mark at the place behind the others
pub marks_by-push : {X : Type 0} (name : X → List ℕ) (items : List X) (item : X) (marks : List ℕ) → length items < length marks →
    take (length items) marks ≡ marks_by name items →
    take (length (items ++ item ∷ [])) (set marks (length items) (mark_of (name item))) ≡ marks_by name (items ++ item ∷ [])
marks_by-push name items item marks room marked =
    let more : length (items ++ item ∷ []) ≡ length items + 1 = length_push items item in
    rw (more, take_more_set marks (length items) (mark_of (name item)) room, marked) (sym (map-append (λ x. mark_of (name x)) items (item ∷ [])))
