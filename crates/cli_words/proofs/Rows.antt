-- The rows of a reading: each use of an argument adds one at the end.
use Rattle.std.proofs.Common.{◌≡◌, Bool, true, false, ◌||◌, List, [], ◌∷◌, ◌++◌, Some, None, cond, refl, ap, ◌∙◌, append-nil}
use Rattle.std.specs.Prelude.{find}
use Rattle.std.specs.Str.{bytes_eq}
use Rattle.clap.specs.Walk.{Row, Text, at_row, has_row, without, more_values, with_values}
use Rattle.clap.specs.declared.builder.value_parser.Reading.{Reading}
use Rattle.clap.specs.declared.parser.matches.ValueSource.{ValueSource}

pub neither : (a b : Bool) → (a || b) ≡ false → (a ≡ false) × (b ≡ false)
neither true b h = cc
neither false b h = (refl, h)

-- a row of an argument that has none yet stands at the end
at_row-absent : (id : Text) (change : Row → List Row) (missing rows : List Row) → has_row id rows ≡ false → at_row id change missing rows ≡ rows ++ missing
at_row-absent id change missing [] h = refl
at_row-absent id change missing (r ∷ rs) h =
    let parts = neither (bytes_eq r.id id) (has_row id rs) h in
    rw parts.0 (ap (λ (xs : List Row). r ∷ xs) (at_row-absent id change missing rs parts.1))

abbrev pub value_row : Text → Reading → ValueSource → Text → Row
value_row id how source v = record { id = id; values = v ∷ []; count = None; source = Some source; reading = how }

pub with_values-absent : (id : Text) (how : Reading) (source : ValueSource) (v : Text) (rows : List Row) → has_row id rows ≡ false →
    with_values id how source (v ∷ []) rows ≡ rows ++ value_row id how source v ∷ []
with_values-absent id how source v rows h = at_row-absent id (more_values source (v ∷ [])) (value_row id how source v ∷ []) rows h

pub used-absent : (id : Text) (how : Reading) (source : ValueSource) (v : Text) (rows : List Row) → has_row id rows ≡ false →
    with_values id how source (v ∷ []) (without id rows) ≡ rows ++ value_row id how source v ∷ []
used-absent id how source v rows h =
    ap (λ (rs : List Row). with_values id how source (v ∷ []) rs) (at_row-absent id (λ _. []) [] rows h ∙ append-nil rows) ∙
    with_values-absent id how source v rows h

-- what is found among rows with one more
pub find-more : (id : Text) (rows : List Row) (r : Row) → has_row id rows ≡ false →
    find (λ (x : Row). bytes_eq x.id id) (rows ++ r ∷ []) ≡ cond (bytes_eq r.id id) (Some r) None
find-more id [] r h = refl
find-more id (x ∷ xs) r h =
    let parts = neither (bytes_eq x.id id) (has_row id xs) h in rw parts.0 (find-more id xs r parts.1)

pub has_row-more : (id : Text) (rows : List Row) (r : Row) → has_row id (rows ++ r ∷ []) ≡ (has_row id rows || bytes_eq r.id id)
has_row-more id [] r = or-false (bytes_eq r.id id)
  where
    or-false : (b : Bool) → (b || false) ≡ b
    or-false true = refl
    or-false false = refl
has_row-more id (x ∷ xs) r = ap (λ (b : Bool). bytes_eq x.id id || b) (has_row-more id xs r) ∙ or-assoc (bytes_eq x.id id) (has_row id xs) (bytes_eq r.id id)
  where
    or-assoc : (a b c : Bool) → (a || (b || c)) ≡ ((a || b) || c)
    or-assoc true b c = refl
    or-assoc false b c = refl

pub none_found : (id : Text) (rows : List Row) → has_row id rows ≡ false → find (λ (x : Row). bytes_eq x.id id) rows ≡ None
none_found id [] h = refl
none_found id (x ∷ xs) h = let parts = neither (bytes_eq x.id id) (has_row id xs) h in rw parts.0 (none_found id xs parts.1)
