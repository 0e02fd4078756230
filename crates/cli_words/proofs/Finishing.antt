-- What a reading comes to behind the last word: defaults for what is absent, and the mode and the options that are found.
use Rattle.std.proofs.Common.{◌≡◌, ◌≤◌, ◌<◌, ◌^◌, ℕ, ◌∙◌, ap, sym, subst, true, false, refl, List, [], ◌∷◌, ◌++◌, codes, map, Bool, ◌||◌, cond, if◌then◌else◌}
use Rattle.std.proofs.Common.{Option, Some, None, IsSome, decimal, arith, ◌⊎◌, inl, inr}
use Rattle.std.specs.Borrow.{Bor}
use Rattle.std.specs.Option.{option_and_then, option_map_or}
use Rattle.std.specs.Prelude.{find, fold}
use Rattle.std.specs.Str.{bytes_eq}
use Rattle.clap.specs.Values.{read_as}
use Rattle.clap.specs.Walk.{Text, Row, Rule, has_row, row_text, with_default, first_of}
use Rattle.clap.specs.Faults.{default_fault, defaults_fault, check_fault}
use Rattle.clap.specs.Kinds.{Kinds, or_else}
use Rattle.clap.specs.declared.builder.value_parser.Reading.TheVariants.{WithoutMinus, AsWritten}
use Rattle.clap.specs.declared.parser.matches.ValueSource.TheVariants.{DefaultValue}
use Rattle.clap.proofs.OnLiterals.{clap_on_literals}
use Rattle.cli_words.specs.declared.limits.TheConstants.{DEFAULT_NODES, DEFAULT_NODES_TEXT, DEFAULT_SEED, DEFAULT_SEED_TEXT, DEFAULT_ROOM, DEFAULT_ROOM_TEXT}
use Rattle.cli_words.specs.declared.limits.TheConstants.{DEFAULT_SIZE, DEFAULT_SIZE_TEXT, DEFAULT_FROM, DEFAULT_FROM_TEXT, DEFAULT_DRAWN, DEFAULT_DRAWN_TEXT}
use Rattle.cli_words.specs.declared.modes.Options.{Options}
use Rattle.cli_words.specs.Command.{is_set, number_in, number_of, options_of, mode_named, mode_of}
use Rattle.cli_words.specs.Plain.{Setting, Nodes, Seed, Room, Size, From, Entries, setting_name, InRange, Piece, Names, Apart, Joined, Threads, mode_said}
use Rattle.cli_words.specs.Plain.{mode_by, number_said, options_said, threads_said}
use Rattle.cli_words.proofs.Rows.{value_row, with_values-absent, find-more, none_found, has_row-more}
use Rattle.cli_words.proofs.Steps.{flag_row, flag_rule, top, rules, rule_at, Slot, row_at, reading_at}
use Rattle.cli_words.proofs.Walking.{row_of, EachPiece, option_is_no_mode}
use Rattle.cli_words.proofs.Numerals.{decimal_as_read, decimal_number}

-- ---- defaults fail nothing

abbrev all_options : List Setting
all_options = Nodes ∷ Seed ∷ Room ∷ Size ∷ From ∷ Entries ∷ []

rules_are : (names : Bor (List (Bor Text))) →
    rules names ≡ rule_at names None ∷ rule_at names (Some Nodes) ∷ rule_at names (Some Seed) ∷ rule_at names (Some Room) ∷ rule_at names (Some Size)
    ∷ rule_at names (Some From) ∷ rule_at names (Some Entries) ∷ flag_rule names ∷ []
unfolding clap_on_literals
rules_are names = refl

default_fine : (names : Bor (List (Bor Text))) (k : Slot) (rows : List Row) → default_fault rows (rule_at names k) ≡ []
unfolding clap_on_literals
default_fine names None rows = go (has_row (codes "mode") rows) where
  go : (b : Bool) → (if b || true then [] else default_fault [] (rule_at names None)) ≡ []
  go true = refl
  go false = refl
default_fine names (Some Nodes) rows = go (has_row (codes "nodes") rows) where
  go : (b : Bool) → (if b || false then [] else default_fault [] (rule_at names (Some Nodes))) ≡ []
  go true = refl
  go false = refl
default_fine names (Some Seed) rows = go (has_row (codes "seed") rows) where
  go : (b : Bool) → (if b || false then [] else default_fault [] (rule_at names (Some Seed))) ≡ []
  go true = refl
  go false = refl
default_fine names (Some Room) rows = go (has_row (codes "room") rows) where
  go : (b : Bool) → (if b || false then [] else default_fault [] (rule_at names (Some Room))) ≡ []
  go true = refl
  go false = refl
default_fine names (Some Size) rows = go (has_row (codes "size") rows) where
  go : (b : Bool) → (if b || false then [] else default_fault [] (rule_at names (Some Size))) ≡ []
  go true = refl
  go false = refl
default_fine names (Some From) rows = go (has_row (codes "from") rows) where
  go : (b : Bool) → (if b || false then [] else default_fault [] (rule_at names (Some From))) ≡ []
  go true = refl
  go false = refl
default_fine names (Some Entries) rows = go (has_row (codes "entries") rows) where
  go : (b : Bool) → (if b || false then [] else default_fault [] (rule_at names (Some Entries))) ≡ []
  go true = refl
  go false = refl

flag_default_fine : (names : Bor (List (Bor Text))) (rows : List Row) → default_fault rows (flag_rule names) ≡ []
unfolding clap_on_literals
flag_default_fine names rows = go (has_row (codes "threads") rows) where
  go : (b : Bool) → (if b || false then [] else default_fault [] (flag_rule names)) ≡ []
  go true = refl
  go false = refl

none_fails : (rows : List Row) → defaults_fault rows [] ≡ []
unfolding defaults_fault
none_fails rows = refl

one_fine : (rows : List Row) (a : Rule) (rest : List Rule) → default_fault rows a ≡ [] → defaults_fault (with_default rows a) rest ≡ [] →
    defaults_fault rows (a ∷ rest) ≡ []
unfolding defaults_fault
one_fine rows a rest h r = ap (λ (k : Kinds). or_else k (defaults_fault (with_default rows a) rest)) h ∙ r

pub defaults_fine : (names : Bor (List (Bor Text))) (rows : List Row) → defaults_fault rows (rules names) ≡ []
defaults_fine names rows =
    let one : List Row = with_default rows (rule_at names None) in
    let two : List Row = with_default one (rule_at names (Some Nodes)) in
    let three : List Row = with_default two (rule_at names (Some Seed)) in
    let four : List Row = with_default three (rule_at names (Some Room)) in
    let five : List Row = with_default four (rule_at names (Some Size)) in
    let six : List Row = with_default five (rule_at names (Some From)) in
    let seven : List Row = with_default six (rule_at names (Some Entries)) in
    ap (λ (rs : List Rule). defaults_fault rows rs) (rules_are names) ∙
    one_fine rows (rule_at names None) _ (default_fine names None rows)
    (one_fine one (rule_at names (Some Nodes)) _ (default_fine names (Some Nodes) one)
    (one_fine two (rule_at names (Some Seed)) _ (default_fine names (Some Seed) two)
    (one_fine three (rule_at names (Some Room)) _ (default_fine names (Some Room) three)
    (one_fine four (rule_at names (Some Size)) _ (default_fine names (Some Size) four)
    (one_fine five (rule_at names (Some From)) _ (default_fine names (Some From) five)
    (one_fine six (rule_at names (Some Entries)) _ (default_fine names (Some Entries) six)
    (one_fine seven (flag_rule names) [] (flag_default_fine names seven) (none_fails _))))))))

-- ---- what is found among the rows with the defaults

abbrev pub look : Text → List Row → Option Row
look id rows = find (λ (r : Row). bytes_eq r.id id) rows

abbrev pub default_row : Setting → Text → Row
default_row s v = value_row (setting_name s) (reading_at (Some s)) DefaultValue v

abbrev pub default_text : Setting → Text
default_text Nodes = DEFAULT_NODES_TEXT.now
default_text Seed = DEFAULT_SEED_TEXT.now
default_text Room = DEFAULT_ROOM_TEXT.now
default_text Size = DEFAULT_SIZE_TEXT.now
default_text From = DEFAULT_FROM_TEXT.now
default_text Entries = DEFAULT_DRAWN_TEXT.now

-- a default for what is there changes nothing
kept : (names : Bor (List (Bor Text))) (s : Setting) (rows : List Row) → has_row (setting_name s) rows ≡ true →
    with_default rows (rule_at names (Some s)) ≡ rows
unfolding clap_on_literals
kept names Nodes rows h = rw h refl
kept names Seed rows h = rw h refl
kept names Room rows h = rw h refl
kept names Size rows h = rw h refl
kept names From rows h = rw h refl
kept names Entries rows h = rw h refl

-- and one for what is absent stands at the end
added : (names : Bor (List (Bor Text))) (s : Setting) (rows : List Row) → has_row (setting_name s) rows ≡ false →
    with_default rows (rule_at names (Some s)) ≡ rows ++ default_row s (default_text s) ∷ []
unfolding clap_on_literals
added names Nodes rows h = rw h (with_values-absent (codes "nodes") WithoutMinus DefaultValue DEFAULT_NODES_TEXT.now rows h)
added names Seed rows h = rw h (with_values-absent (codes "seed") AsWritten DefaultValue DEFAULT_SEED_TEXT.now rows h)
added names Room rows h = rw h (with_values-absent (codes "room") WithoutMinus DefaultValue DEFAULT_ROOM_TEXT.now rows h)
added names Size rows h = rw h (with_values-absent (codes "size") WithoutMinus DefaultValue DEFAULT_SIZE_TEXT.now rows h)
added names From rows h = rw h (with_values-absent (codes "from") AsWritten DefaultValue DEFAULT_FROM_TEXT.now rows h)
added names Entries rows h = rw h (with_values-absent (codes "entries") WithoutMinus DefaultValue DEFAULT_DRAWN_TEXT.now rows h)

-- and the same of the flag
flag_kept : (names : Bor (List (Bor Text))) (rows : List Row) → has_row (codes "threads") rows ≡ true → with_default rows (flag_rule names) ≡ rows
unfolding clap_on_literals
flag_kept names rows h = rw h refl

abbrev pub flag_default : Row
flag_default = value_row (codes "threads") AsWritten DefaultValue (codes "false")

flag_added : (names : Bor (List (Bor Text))) (rows : List Row) → has_row (codes "threads") rows ≡ false →
    with_default rows (flag_rule names) ≡ rows ++ flag_default ∷ []
unfolding clap_on_literals
flag_added names rows h = rw h (with_values-absent (codes "threads") AsWritten DefaultValue (codes "false") rows h)

-- the mode has no default
mode_kept : (names : Bor (List (Bor Text))) (rows : List Row) → with_default rows (rule_at names None) ≡ rows
unfolding clap_on_literals
mode_kept names rows = go (has_row (codes "mode") rows) where
  go : (b : Bool) → (if b then rows else rows) ≡ rows
  go true = refl
  go false = refl

-- a row of another argument is passed over
passed_over : (id : Text) (rows : List Row) (r : Row) → bytes_eq r.id id ≡ false → look id (rows ++ r ∷ []) ≡ look id rows
passed_over id [] r h = rw h refl
passed_over id (x ∷ xs) r h = ap (λ (o : Option Row). cond (bytes_eq x.id id) (Some x) o) (passed_over id xs r h)

look_other : (names : Bor (List (Bor Text))) (s : Setting) (id : Text) (rows : List Row) → bytes_eq (setting_name s) id ≡ false →
    look id (with_default rows (rule_at names (Some s))) ≡ look id rows
look_other names s id rows h = by (has_row (setting_name s) rows) refl
  where
    by : (b : Bool) → has_row (setting_name s) rows ≡ b → look id (with_default rows (rule_at names (Some s))) ≡ look id rows
    by true e = ap (λ (rs : List Row). look id rs) (kept names s rows e)
    by false e = ap (λ (rs : List Row). look id rs) (added names s rows e) ∙ passed_over id rows (default_row s (default_text s)) h

look_flag_other : (names : Bor (List (Bor Text))) (id : Text) (rows : List Row) → bytes_eq (codes "threads") id ≡ false →
    look id (with_default rows (flag_rule names)) ≡ look id rows
look_flag_other names id rows h = by (has_row (codes "threads") rows) refl
  where
    by : (b : Bool) → has_row (codes "threads") rows ≡ b → look id (with_default rows (flag_rule names)) ≡ look id rows
    by true e = ap (λ (rs : List Row). look id rs) (flag_kept names rows e)
    by false e = ap (λ (rs : List Row). look id rs) (flag_added names rows e) ∙ passed_over id rows flag_default h

same_text : (s : Setting) → bytes_eq (setting_name s) (setting_name s) ≡ true
same_text Nodes = refl
same_text Seed = refl
same_text Room = refl
same_text Size = refl
same_text From = refl
same_text Entries = refl

look_own : (names : Bor (List (Bor Text))) (s : Setting) (rows : List Row) (r : Row) → look (setting_name s) rows ≡ Some r →
    look (setting_name s) (with_default rows (rule_at names (Some s))) ≡ Some r
look_own names s rows r h = by (has_row (setting_name s) rows) refl
  where
    by : (b : Bool) → has_row (setting_name s) rows ≡ b → look (setting_name s) (with_default rows (rule_at names (Some s))) ≡ Some r
    by true e = ap (λ (rs : List Row). look (setting_name s) rs) (kept names s rows e) ∙ h
    by false e = let none : None ≡ Some r = sym (none_found (setting_name s) rows e) ∙ h in cc

look_default : (names : Bor (List (Bor Text))) (s : Setting) (rows : List Row) → has_row (setting_name s) rows ≡ false →
    look (setting_name s) (with_default rows (rule_at names (Some s))) ≡ Some (default_row s (default_text s))
look_default names s rows h =
    ap (λ (rs : List Row). look (setting_name s) rs) (added names s rows h) ∙ find-more (setting_name s) rows (default_row s (default_text s)) h ∙
    (let same = same_text s in rw same refl)

-- ---- all the rows at the end

abbrev pub whole : Bor (List (Bor Text)) → List Row → List Row
whole names rows = fold with_default rows (rules names)

abbrev with_defaults : Bor (List (Bor Text)) → List Setting → List Row → List Row
with_defaults names [] rows = rows
with_defaults names (s ∷ settings) rows = with_defaults names settings (with_default rows (rule_at names (Some s)))

-- the defaults of all options, one after another, and that of the flag
whole_is : (names : Bor (List (Bor Text))) (rows : List Row) →
    whole names rows ≡ with_default (with_defaults names all_options rows) (flag_rule names)
whole_is names rows =
    ap (λ (rs : List Rule). fold with_default rows rs) (rules_are names) ∙
    ap (λ (rs : List Row). with_default (with_defaults names all_options rs) (flag_rule names)) (mode_kept names rows)

-- what is no option's is found behind the defaults of options as before
other_behind : (names : Bor (List (Bor Text))) (id : Text) → ((s : Setting) → bytes_eq (setting_name s) id ≡ false) → (settings : List Setting)
    (rows : List Row) → look id (with_defaults names settings rows) ≡ look id rows
other_behind names id other [] rows = refl
other_behind names id other (s ∷ settings) rows =
    other_behind names id other settings (with_default rows (rule_at names (Some s))) ∙ look_other names s id rows (other s)

mode_in_whole : (names : Bor (List (Bor Text))) (rows : List Row) → look (codes "mode") (whole names rows) ≡ look (codes "mode") rows
mode_in_whole names rows =
    ap (λ (rs : List Row). look (codes "mode") rs) (whole_is names rows) ∙
    look_flag_other names (codes "mode") (with_defaults names all_options rows) refl ∙
    other_behind names (codes "mode") option_is_no_mode all_options rows

-- an option is this one, or has another name
same_or_other : (s t : Setting) → (t ≡ s) ⊎ (bytes_eq (setting_name t) (setting_name s) ≡ false)
same_or_other Nodes Nodes = inl refl
same_or_other Nodes Seed = inr refl
same_or_other Nodes Room = inr refl
same_or_other Nodes Size = inr refl
same_or_other Nodes From = inr refl
same_or_other Nodes Entries = inr refl
same_or_other Seed Nodes = inr refl
same_or_other Seed Seed = inl refl
same_or_other Seed Room = inr refl
same_or_other Seed Size = inr refl
same_or_other Seed From = inr refl
same_or_other Seed Entries = inr refl
same_or_other Room Nodes = inr refl
same_or_other Room Seed = inr refl
same_or_other Room Room = inl refl
same_or_other Room Size = inr refl
same_or_other Room From = inr refl
same_or_other Room Entries = inr refl
same_or_other Size Nodes = inr refl
same_or_other Size Seed = inr refl
same_or_other Size Room = inr refl
same_or_other Size Size = inl refl
same_or_other Size From = inr refl
same_or_other Size Entries = inr refl
same_or_other From Nodes = inr refl
same_or_other From Seed = inr refl
same_or_other From Room = inr refl
same_or_other From Size = inr refl
same_or_other From From = inl refl
same_or_other From Entries = inr refl
same_or_other Entries Nodes = inr refl
same_or_other Entries Seed = inr refl
same_or_other Entries Room = inr refl
same_or_other Entries Size = inr refl
same_or_other Entries From = inr refl
same_or_other Entries Entries = inl refl

-- what is given stays, whatever defaults come
given_stays : (names : Bor (List (Bor Text))) (s : Setting) (settings : List Setting) (rows : List Row) (r : Row) → look (setting_name s) rows ≡ Some r →
    look (setting_name s) (with_defaults names settings rows) ≡ Some r
given_stays names s [] rows r h = h
given_stays names s (t ∷ settings) rows r h = given_stays names s settings (with_default rows (rule_at names (Some t))) r (by (same_or_other s t))
  where
    by : (t ≡ s) ⊎ (bytes_eq (setting_name t) (setting_name s) ≡ false) → look (setting_name s) (with_default rows (rule_at names (Some t))) ≡ Some r
    by (inl e) = subst (λ (u : Setting). look (setting_name s) (with_default rows (rule_at names (Some u))) ≡ Some r) (sym e) (look_own names s rows r h)
    by (inr e) = look_other names t (setting_name s) rows e ∙ h

-- the default of one option is none of another argument
still_absent : (names : Bor (List (Bor Text))) (id : Text) (t : Setting) (rows : List Row) → bytes_eq (setting_name t) id ≡ false →
    has_row id rows ≡ false → has_row id (with_default rows (rule_at names (Some t))) ≡ false
still_absent names id t rows other h = by (has_row (setting_name t) rows) refl
  where
    by : (b : Bool) → has_row (setting_name t) rows ≡ b → has_row id (with_default rows (rule_at names (Some t))) ≡ false
    by true e = ap (λ (rs : List Row). has_row id rs) (kept names t rows e) ∙ h
    by false e =
        ap (λ (rs : List Row). has_row id rs) (added names t rows e) ∙
        has_row-more id rows (default_row t (default_text t)) ∙ rw (h, other) refl

-- an option is one of these
abbrev IsOneOf : Setting → List Setting → Type 0
IsOneOf s [] = ⊥
IsOneOf s (t ∷ settings) = (t ≡ s) ⊎ IsOneOf s settings

-- behind the default of one option and then those of others, an option has its default
abbrev Comes : Bor (List (Bor Text)) → Setting → List Setting → List Row → Setting → Type 0
Comes names s settings rows t =
    look (setting_name s) (with_defaults names settings (with_default rows (rule_at names (Some t)))) ≡ Some (default_row s (default_text s))

-- what is absent has its default
default_comes : (names : Bor (List (Bor Text))) (s : Setting) (settings : List Setting) (rows : List Row) → IsOneOf s settings →
    has_row (setting_name s) rows ≡ false → look (setting_name s) (with_defaults names settings rows) ≡ Some (default_row s (default_text s))
default_comes names s [] rows is h = absurd is
default_comes names s (t ∷ settings) rows is h = by (same_or_other s t) is (default_comes names s settings (with_default rows (rule_at names (Some t))))
  where
    here : Comes names s settings rows s
    here = given_stays names s settings (with_default rows (rule_at names (Some s))) (default_row s (default_text s)) (look_default names s rows h)

    by : (t ≡ s) ⊎ (bytes_eq (setting_name t) (setting_name s) ≡ false) → (t ≡ s) ⊎ IsOneOf s settings →
        (IsOneOf s settings → has_row (setting_name s) (with_default rows (rule_at names (Some t))) ≡ false → Comes names s settings rows t) →
        Comes names s settings rows t
    by (inl e) is later = subst (Comes names s settings rows) (sym e) here
    by (inr e) (inl same) later = subst (Comes names s settings rows) (sym same) here
    by (inr e) (inr is) later = later is (still_absent names (setting_name s) t rows e h)

each_option : (s : Setting) → IsOneOf s all_options
each_option Nodes = inl refl
each_option Seed = inr (inl refl)
each_option Room = inr (inr (inl refl))
each_option Size = inr (inr (inr (inl refl)))
each_option From = inr (inr (inr (inr (inl refl))))
each_option Entries = inr (inr (inr (inr (inr (inl refl)))))

-- ---- what plain pieces leave

-- their mode is found
mode_found : (pieces : List Piece) (m : Text) → mode_said pieces ≡ Some m → look (codes "mode") (map row_of pieces) ≡ Some (row_at None m)
mode_found [] m h = cc
mode_found (Names name ∷ pieces) m h = let same : name ≡ m = cc in ap (λ (t : Text). Some (row_at None t)) same
mode_found (Apart s n ∷ pieces) m h = let other = option_is_no_mode s in rw other (mode_found pieces m h)
mode_found (Joined s n ∷ pieces) m h = let other = option_is_no_mode s in rw other (mode_found pieces m h)
mode_found (Threads ∷ pieces) m h = mode_found pieces m h

-- a number that they set is found, in its range; else it is absent
abbrev IsSaid : Setting → ℕ → List Piece → Type 0
IsSaid s otherwise pieces =
    ((look (setting_name s) (map row_of pieces) ≡ Some (row_at (Some s) (decimal (number_said (setting_name s) otherwise pieces))))
    × InRange s (number_said (setting_name s) otherwise pieces))
    ⊎ ((has_row (setting_name s) (map row_of pieces) ≡ false) × (number_said (setting_name s) otherwise pieces ≡ otherwise))

said : (s : Setting) (otherwise : ℕ) (pieces : List Piece) → EachPiece pieces → IsSaid s otherwise pieces
said s otherwise [] each = inr (refl, refl)
said s otherwise (Names m ∷ pieces) each = behind_mode s (said s otherwise pieces each.1)
  where
    behind_mode : (t : Setting) → IsSaid t otherwise pieces → IsSaid t otherwise (Names m ∷ pieces)
    behind_mode Nodes h = h
    behind_mode Seed h = h
    behind_mode Room h = h
    behind_mode Size h = h
    behind_mode From h = h
    behind_mode Entries h = h
said s otherwise (Threads ∷ pieces) each = behind_flag s (said s otherwise pieces each.1)
  where
    behind_flag : (t : Setting) → IsSaid t otherwise pieces → IsSaid t otherwise (Threads ∷ pieces)
    behind_flag Nodes h = h
    behind_flag Seed h = h
    behind_flag Room h = h
    behind_flag Size h = h
    behind_flag From h = h
    behind_flag Entries h = h
said s otherwise (Apart t n ∷ pieces) each = by (same_or_other s t) (said s otherwise pieces each.1)
  where
    here : (u : Setting) → InRange u n → IsSaid u otherwise (Apart u n ∷ pieces)
    here u range = let same = same_text u in rw same (inl (refl, range))

    by : (t ≡ s) ⊎ (bytes_eq (setting_name t) (setting_name s) ≡ false) → IsSaid s otherwise pieces → IsSaid s otherwise (Apart t n ∷ pieces)
    by (inl e) rest = subst (λ (u : Setting). IsSaid s otherwise (Apart u n ∷ pieces)) (sym e) (here s (subst (λ (u : Setting). InRange u n) e each.0))
    by (inr e) rest = rw e rest
said s otherwise (Joined t n ∷ pieces) each = by (same_or_other s t) (said s otherwise pieces each.1)
  where
    here : (u : Setting) → InRange u n → IsSaid u otherwise (Joined u n ∷ pieces)
    here u range = let same = same_text u in rw same (inl (refl, range))

    by : (t ≡ s) ⊎ (bytes_eq (setting_name t) (setting_name s) ≡ false) → IsSaid s otherwise pieces → IsSaid s otherwise (Joined t n ∷ pieces)
    by (inl e) rest = subst (λ (u : Setting). IsSaid s otherwise (Joined u n ∷ pieces)) (sym e) (here s (subst (λ (u : Setting). InRange u n) e each.0))
    by (inr e) rest = rw e rest

-- ---- the mode and the numbers

-- the most that the number of an option can be, and the number that stands where it is not given
abbrev most_of : Setting → ℕ
most_of Nodes = 4294967295
most_of Seed = 18446744073709551615
most_of Room = 4294967295
most_of Size = 4294967295
most_of From = 18446744073709551615
most_of Entries = 4294967295

abbrev default_of : Setting → ℕ
default_of Nodes = DEFAULT_NODES
default_of Seed = DEFAULT_SEED
default_of Room = DEFAULT_ROOM
default_of Size = DEFAULT_SIZE
default_of From = DEFAULT_FROM
default_of Entries = DEFAULT_DRAWN

fits : (s : Setting) (n : ℕ) → InRange s n → (n < 2 ^ 64) × (n ≤ most_of s)
fits Nodes n h = let high = h.1 in (omega arith, omega arith)
fits Seed n h = (h, omega arith)
fits Room n h = let high = h.1 in (omega arith, omega arith)
fits Size n h = (omega arith, omega arith)
fits From n h = (h, omega arith)
fits Entries n h = (omega arith, omega arith)

as_read : (s : Setting) (n : ℕ) → n < 2 ^ 64 → read_as (reading_at (Some s)) (decimal n) ≡ decimal n
as_read Nodes n h = decimal_as_read n h
as_read Seed n h = refl
as_read Room n h = decimal_as_read n h
as_read Size n h = decimal_as_read n h
as_read From n h = refl
as_read Entries n h = decimal_as_read n h

default_number : (s : Setting) → number_in (most_of s) (default_of s) (read_as (reading_at (Some s)) (default_text s)) ≡ default_of s
default_number Nodes = refl
default_number Seed = refl
default_number Room = refl
default_number Size = refl
default_number From = refl
default_number Entries = refl

-- no option is the flag
flag_is_none : (s : Setting) → bytes_eq (codes "threads") (setting_name s) ≡ false
flag_is_none Nodes = refl
flag_is_none Seed = refl
flag_is_none Room = refl
flag_is_none Size = refl
flag_is_none From = refl
flag_is_none Entries = refl

option_is_no_flag : (s : Setting) → bytes_eq (setting_name s) (codes "threads") ≡ false
option_is_no_flag Nodes = refl
option_is_no_flag Seed = refl
option_is_no_flag Room = refl
option_is_no_flag Size = refl
option_is_no_flag From = refl
option_is_no_flag Entries = refl

-- the number of an option behind the default of the flag
number_behind : (names : Bor (List (Bor Text))) (s : Setting) (rows : List Row) →
    number_of (setting_name s) (most_of s) (default_of s) (with_default rows (flag_rule names)) ≡
    number_of (setting_name s) (most_of s) (default_of s) rows
number_behind names s rows =
    ap (λ (o : Option Row). option_map_or (number_in (most_of s) (default_of s)) (option_and_then row_text o) (default_of s))
    (look_flag_other names (setting_name s) rows (flag_is_none s))

number_is : (names : Bor (List (Bor Text))) (s : Setting) (pieces : List Piece) → EachPiece pieces →
    number_of (setting_name s) (most_of s) (default_of s) (whole names (map row_of pieces)) ≡ number_said (setting_name s) (default_of s) pieces
number_is names s pieces each =
    ap (λ (rs : List Row). number_of (setting_name s) (most_of s) (default_of s) rs) (whole_is names (map row_of pieces)) ∙
    number_behind names s (with_defaults names all_options (map row_of pieces)) ∙
    by (said s (default_of s) pieces each)
  where
    by : IsSaid s (default_of s) pieces →
        number_of (setting_name s) (most_of s) (default_of s) (with_defaults names all_options (map row_of pieces)) ≡
        number_said (setting_name s) (default_of s) pieces
    by (inl h) =
        let n = number_said (setting_name s) (default_of s) pieces in
        let fit = fits s n h.1 in
        let found = given_stays names s all_options (map row_of pieces) (row_at (Some s) (decimal n)) h.0 in
        let read = as_read s n fit.0 in
        rw (found, read) (decimal_number n (most_of s) (default_of s) fit.1 fit.0)
    by (inr h) =
        let found = default_comes names s all_options (map row_of pieces) (each_option s) h.0 in
        rw found (default_number s ∙ sym h.1)

-- ---- the flag

-- the flag is found where it is given; else it is absent
abbrev FlagIs : Bool → List Row → Type 0
FlagIs true rows = look (codes "threads") rows ≡ Some flag_row
FlagIs false rows = has_row (codes "threads") rows ≡ false

flag_behind : (given : Bool) (rows : List Row) (r : Row) → bytes_eq r.id (codes "threads") ≡ false → FlagIs given rows → FlagIs given (r ∷ rows)
flag_behind true rows r other h = rw other h
flag_behind false rows r other h = rw other h

flag_found : (pieces : List Piece) → FlagIs (threads_said pieces) (map row_of pieces)
flag_found [] = refl
flag_found (Names m ∷ pieces) = flag_behind (threads_said pieces) (map row_of pieces) (row_at None m) refl (flag_found pieces)
flag_found (Apart s n ∷ pieces) =
    flag_behind (threads_said pieces) (map row_of pieces) (row_at (Some s) (decimal n)) (option_is_no_flag s) (flag_found pieces)
flag_found (Joined s n ∷ pieces) =
    flag_behind (threads_said pieces) (map row_of pieces) (row_at (Some s) (decimal n)) (option_is_no_flag s) (flag_found pieces)
flag_found (Threads ∷ pieces) = refl

absent_behind : (names : Bor (List (Bor Text))) (settings : List Setting) (rows : List Row) → has_row (codes "threads") rows ≡ false →
    has_row (codes "threads") (with_defaults names settings rows) ≡ false
absent_behind names [] rows h = h
absent_behind names (s ∷ settings) rows h =
    absent_behind names settings (with_default rows (rule_at names (Some s))) (still_absent names (codes "threads") s rows (option_is_no_flag s) h)

-- whether rows say that the flag is given, by what is found
set_when_found : (rows : List Row) → look (codes "threads") rows ≡ Some flag_row → is_set (codes "threads") rows ≡ true
set_when_found rows h = rw h refl

unset_by_default : (rows : List Row) → look (codes "threads") rows ≡ Some flag_default → is_set (codes "threads") rows ≡ false
unset_by_default rows h = rw h refl

flag_stays : (names : Bor (List (Bor Text))) (rows : List Row) → look (codes "threads") rows ≡ Some flag_row →
    look (codes "threads") (with_default rows (flag_rule names)) ≡ Some flag_row
flag_stays names rows h = by (has_row (codes "threads") rows) refl
  where
    by : (b : Bool) → has_row (codes "threads") rows ≡ b → look (codes "threads") (with_default rows (flag_rule names)) ≡ Some flag_row
    by true e = ap (λ (rs : List Row). look (codes "threads") rs) (flag_kept names rows e) ∙ h
    by false e = let none : None ≡ Some flag_row = sym (none_found (codes "threads") rows e) ∙ h in cc

flag_comes : (names : Bor (List (Bor Text))) (rows : List Row) → has_row (codes "threads") rows ≡ false →
    look (codes "threads") (with_default rows (flag_rule names)) ≡ Some flag_default
flag_comes names rows h = ap (λ (rs : List Row). look (codes "threads") rs) (flag_added names rows h) ∙ find-more (codes "threads") rows flag_default h

flag_behind_defaults : (names : Bor (List (Bor Text))) (given : Bool) (rows : List Row) → FlagIs given rows →
    is_set (codes "threads") (with_default (with_defaults names all_options rows) (flag_rule names)) ≡ given
flag_behind_defaults names true rows h =
    let options = with_defaults names all_options rows in
    set_when_found (with_default options (flag_rule names))
    (flag_stays names options (other_behind names (codes "threads") option_is_no_flag all_options rows ∙ h))
flag_behind_defaults names false rows h =
    let options = with_defaults names all_options rows in
    unset_by_default (with_default options (flag_rule names)) (flag_comes names options (absent_behind names all_options rows h))

flag_is : (names : Bor (List (Bor Text))) (pieces : List Piece) → is_set (codes "threads") (whole names (map row_of pieces)) ≡ threads_said pieces
flag_is names pieces =
    ap (λ (rs : List Row). is_set (codes "threads") rs) (whole_is names (map row_of pieces)) ∙
    flag_behind_defaults names (threads_said pieces) (map row_of pieces) (flag_found pieces)

-- ---- all options

same_options : (a b : Options) → a.nodes ≡ b.nodes → a.seed ≡ b.seed → a.room ≡ b.room → a.size ≡ b.size → a.from ≡ b.from → a.entries ≡ b.entries →
    a.threads ≡ b.threads → a ≡ b
same_options a b nodes seed room size from entries threads =
    ap (λ n. record a { nodes = n }) nodes ∙
    ap (λ n. record a { nodes = b.nodes; seed = n }) seed ∙
    ap (λ n. record a { nodes = b.nodes; seed = b.seed; room = n }) room ∙
    ap (λ n. record a { nodes = b.nodes; seed = b.seed; room = b.room; size = n }) size ∙
    ap (λ n. record a { nodes = b.nodes; seed = b.seed; room = b.room; size = b.size; from = n }) from ∙
    ap (λ n. record a { nodes = b.nodes; seed = b.seed; room = b.room; size = b.size; from = b.from; entries = n }) entries ∙
    ap (λ t. record b { threads = t }) threads

options_are : (names : Bor (List (Bor Text))) (pieces : List Piece) → EachPiece pieces →
    options_of (whole names (map row_of pieces)) ≡ options_said pieces
options_are names pieces each =
    same_options (options_of (whole names (map row_of pieces))) (options_said pieces) (number_is names Nodes pieces each) (number_is names Seed pieces each)
    (number_is names Room pieces each) (number_is names Size pieces each) (number_is names From pieces each) (number_is names Entries pieces each)
    (flag_is names pieces)

some_mode : (pieces : List Piece) → IsSome (mode_said pieces) → (m : Text) × (mode_said pieces ≡ Some m)
some_mode pieces h = by (mode_said pieces) h refl
  where
    by : (o : Option Text) → IsSome o → mode_said pieces ≡ o → (m : Text) × (mode_said pieces ≡ Some m)
    by None some e = absurd (let no : false ≡ true = some in cc)
    by (Some m) some e = (m, e)

pub mode_is : (names : Bor (List (Bor Text))) (pieces : List Piece) → EachPiece pieces → IsSome (mode_said pieces) →
    mode_of (whole names (map row_of pieces)) ≡ mode_by pieces
mode_is names pieces each some =
    let mode = some_mode pieces some in
    let found = mode_in_whole names (map row_of pieces) ∙ mode_found pieces mode.0 mode.1 in
    ap (λ (options : Options). option_and_then (mode_named options) (first_of (codes "mode") (whole names (map row_of pieces))))
    (options_are names pieces each) ∙
    ap (option_and_then (mode_named (options_said pieces))) (named (whole names (map row_of pieces)) mode.0 found ∙ sym mode.1)
  where
    named : (rows : List Row) (m : Text) → look (codes "mode") rows ≡ Some (row_at None m) → first_of (codes "mode") rows ≡ Some m
    named rows m h = rw h refl

-- the mode is given, so that nothing is missing
pub nothing_missing : (names : Bor (List (Bor Text))) (pieces : List Piece) → IsSome (mode_said pieces) →
    check_fault (top names) (whole names (map row_of pieces)) false ≡ []
unfolding clap_on_literals
nothing_missing names pieces some =
    let mode = some_mode pieces some in
    let found = mode_in_whole names (map row_of pieces) ∙ mode_found pieces mode.0 mode.1 in
    rw found refl
