-- The walk over plain words, piece by piece.
use Rattle.std.proofs.Common.{◌≡◌, ◌∙◌, ap, sym, subst, true, false, refl, List, [], ◌∷◌, ◌++◌, codes, ℕ, Bool, ◌&&◌, ◌||◌, Option, Some, None, inl, inr}
use Rattle.std.proofs.lemmas.Slice.Eq.{bytes_eq-Decides}
use Rattle.std.specs.Option.{option_map_or, unwrap_or}
use Rattle.std.specs.List.{list_any}
use Rattle.clap.proofs.WalkLemmas.{list_any-map}
use Rattle.std.specs.Borrow.{Bor}
use Rattle.std.specs.Prelude.{pos}
use Rattle.std.specs.Str.{bytes_eq}
use Rattle.clap.specs.Walk.{Text, Rule, Row, Walk, Waiting, idle, option, walked, has_row, settled_rows, used, arg_by_id}
use Rattle.clap.specs.Simple.{built, Shape, new_rule}
use Rattle.clap.specs.Faults.{settle_fault, turn_fault, use_fault}
use Rattle.clap.specs.Kinds.{Kinds, or_else}
use Rattle.clap.specs.Lexer.{long_of, short_of}
use Rattle.clap.specs.ValueTests.{accepts}
use Rattle.clap.specs.declared.builder.value_parser.Reading.{Reading}
use Rattle.clap.specs.declared.builder.value_parser.Reading.TheVariants.{WithoutMinus, AsWritten}
use Rattle.clap.specs.declared.builder.value_parser.ValueParser.{ValueParser}
use Rattle.clap.specs.declared.builder.value_parser.ValueParser.TheVariants as vp
use Rattle.clap.specs.declared.parser.matches.ValueSource.TheVariants.{CommandLine}
use Rattle.clap.proofs.OnLiterals.{clap_on_literals}
use Rattle.cli_words.specs.declared.limits.TheConstants.{FEWEST_MADE_NODES, LEAST_ROOM, MOST_DRAWN, MOST_MADE_NODES, MOST_ROOM, MOST_SIZE}
use Rattle.cli_words.specs.Command.{AreModes, command_of, mode_names}
use Rattle.cli_words.specs.Plain.{Setting, Nodes, Seed, Room, Size, From, Entries, setting_name, IsAmong}
use Rattle.cli_words.proofs.Rows.{value_row, used-absent}

-- the command as it is built
abbrev pub top : Bor (List (Bor Text)) → Shape
top names = (built (command_of names)).top

abbrev pub rules : Bor (List (Bor Text)) → List Rule
rules names = (top names).rules

-- an argument: the mode, or what an option sets
abbrev pub Slot : Type 0
Slot = Option Setting

abbrev pub slot_name : Slot → Text
slot_name None = codes "mode"
slot_name (Some s) = setting_name s

abbrev pub parser_at : Bor (List (Bor Text)) → Slot → ValueParser
parser_at names None = vp.Names names
parser_at names (Some Nodes) = vp.Signed (pos FEWEST_MADE_NODES) (pos MOST_MADE_NODES)
parser_at names (Some Seed) = vp.Unsigned 0 18446744073709551615
parser_at names (Some Room) = vp.Signed (pos LEAST_ROOM) (pos MOST_ROOM)
parser_at names (Some Size) = vp.Signed (pos 0) (pos MOST_SIZE)
parser_at names (Some From) = vp.Unsigned 0 18446744073709551615
parser_at names (Some Entries) = vp.Signed (pos 0) (pos MOST_DRAWN)

abbrev pub reading_at : Slot → Reading
reading_at None = AsWritten
reading_at (Some Nodes) = WithoutMinus
reading_at (Some Seed) = AsWritten
reading_at (Some Room) = WithoutMinus
reading_at (Some Size) = WithoutMinus
reading_at (Some From) = AsWritten
reading_at (Some Entries) = WithoutMinus

abbrev pub row_at : Slot → Text → Row
row_at k v = value_row (slot_name k) (reading_at k) CommandLine v

-- where the walk stands between two words
abbrev pub stand : List Row → Option (Text × List Text) → Waiting → ℕ → Walk
stand rows pending waiting position = record
    { held = record { rows = rows; pending = pending; skip = 0 }; waiting = waiting; position = position; is_trailing = false; stopped = None }

-- what is settled there, and that nothing fails in that
pub record IsSettled (names : Bor (List (Bor Text))) (held : List Row) (pending : Option (Text × List Text)) (rows : List Row) : Type 0 where
  pub rows_are : settled_rows (rules names) pending held ≡ rows
  pub fine : settle_fault (rules names) false (record { rows = held; pending = pending; skip = 0 }) ≡ []

or_else_both : (a b : Kinds) → a ≡ [] → b ≡ [] → or_else a b ≡ []
or_else_both a b h k = ap (λ (x : Kinds). or_else x b) h ∙ k

-- ---- one use of an argument that was not used before

-- its rule, as it is built
abbrev pub rule_at : Bor (List (Bor Text)) → Slot → Rule
rule_at names k = unwrap_or (arg_by_id (rules names) (slot_name k)) (new_rule [])

pub found : (names : Bor (List (Bor Text))) (k : Slot) → arg_by_id (rules names) (slot_name k) ≡ Some (rule_at names k)
unfolding clap_on_literals
found names None = refl
found names (Some Nodes) = refl
found names (Some Seed) = refl
found names (Some Room) = refl
found names (Some Size) = refl
found names (Some From) = refl
found names (Some Entries) = refl

pub uses : (names : Bor (List (Bor Text))) (k : Slot) (v : Text) (rows : List Row) → has_row (slot_name k) rows ≡ false →
    used (rule_at names k) (v ∷ []) rows ≡ rows ++ row_at k v ∷ []
unfolding clap_on_literals
uses names None v rows h = used-absent (codes "mode") AsWritten CommandLine v rows h
uses names (Some Nodes) v rows h = used-absent (codes "nodes") WithoutMinus CommandLine v rows h
uses names (Some Seed) v rows h = used-absent (codes "seed") AsWritten CommandLine v rows h
uses names (Some Room) v rows h = used-absent (codes "room") WithoutMinus CommandLine v rows h
uses names (Some Size) v rows h = used-absent (codes "size") WithoutMinus CommandLine v rows h
uses names (Some From) v rows h = used-absent (codes "from") AsWritten CommandLine v rows h
uses names (Some Entries) v rows h = used-absent (codes "entries") WithoutMinus CommandLine v rows h

pub passes : (names : Bor (List (Bor Text))) (k : Slot) (v : Text) (rows : List Row) → has_row (slot_name k) rows ≡ false →
    accepts false (parser_at names k) v ≡ true → use_fault false (rule_at names k) (v ∷ []) rows ≡ []
unfolding clap_on_literals
passes names None v rows h a = rw (h, a) refl
passes names (Some Nodes) v rows h a = rw (h, a) refl
passes names (Some Seed) v rows h a = rw (h, a) refl
passes names (Some Room) v rows h a = rw (h, a) refl
passes names (Some Size) v rows h a = rw (h, a) refl
passes names (Some From) v rows h a = rw (h, a) refl
passes names (Some Entries) v rows h a = rw (h, a) refl

-- ---- an option and its number in one word

abbrev pub joined_word : Setting → Text → Text
joined_word s v = codes "--" ++ (setting_name s ++ (codes "=" ++ v))

joined_walked : (names : Bor (List (Bor Text))) (s : Setting) (v : Text) (held : List Row) (pending : Option (Text × List Text)) (p : ℕ) →
    walked (rules names) [] (stand held pending idle p) (joined_word s v) ≡ stand
    (used (rule_at names (Some s)) (v ∷ []) (settled_rows (rules names) pending held)) None idle p
unfolding clap_on_literals
joined_walked names Nodes v held pending p = refl
joined_walked names Seed v held pending p = refl
joined_walked names Room v held pending p = refl
joined_walked names Size v held pending p = refl
joined_walked names From v held pending p = refl
joined_walked names Entries v held pending p = refl

joined_fault : (names : Bor (List (Bor Text))) (s : Setting) (v : Text) (held : List Row) (pending : Option (Text × List Text)) (p : ℕ) →
    turn_fault (top names) [] (stand held pending idle p) (joined_word s v) ≡
    or_else (or_else (settle_fault (rules names) false (record { rows = held; pending = pending; skip = 0 }))
    (use_fault false (rule_at names (Some s)) (v ∷ []) (settled_rows (rules names) pending held))) []
unfolding clap_on_literals
joined_fault names Nodes v held pending p = refl
joined_fault names Seed v held pending p = refl
joined_fault names Room v held pending p = refl
joined_fault names Size v held pending p = refl
joined_fault names From v held pending p = refl
joined_fault names Entries v held pending p = refl

pub joined_step : (names : Bor (List (Bor Text))) (s : Setting) (v : Text) (held : List Row) (pending : Option (Text × List Text)) (p : ℕ) (rows : List Row) →
    IsSettled names held pending rows → has_row (setting_name s) rows ≡ false →
    walked (rules names) [] (stand held pending idle p) (joined_word s v) ≡ stand (rows ++ row_at (Some s) v ∷ []) None idle p
joined_step names s v held pending p rows at new =
    joined_walked names s v held pending p ∙ ap (λ (rs : List Row). stand (used (rule_at names (Some s)) (v ∷ []) rs) None idle p) at.rows_are ∙
    ap (λ (rs : List Row). stand rs None idle p) (uses names (Some s) v rows new)

pub joined_turn : (names : Bor (List (Bor Text))) (s : Setting) (v : Text) (held : List Row) (pending : Option (Text × List Text)) (p : ℕ) (rows : List Row) →
    IsSettled names held pending rows → has_row (setting_name s) rows ≡ false → accepts false (parser_at names (Some s)) v ≡ true →
    turn_fault (top names) [] (stand held pending idle p) (joined_word s v) ≡ []
joined_turn names s v held pending p rows at new fits =
    joined_fault names s v held pending p ∙
    or_else_both _ [] (or_else_both _ _ at.fine
    (ap (λ (rs : List Row). use_fault false (rule_at names (Some s)) (v ∷ []) rs) at.rows_are ∙ passes names (Some s) v rows new fits)) refl

-- ---- the flag

abbrev pub flag_rule : Bor (List (Bor Text)) → Rule
flag_rule names = unwrap_or (arg_by_id (rules names) (codes "threads")) (new_rule [])

abbrev pub flag_row : Row
flag_row = value_row (codes "threads") AsWritten CommandLine (codes "true")

flag_uses : (names : Bor (List (Bor Text))) (rows : List Row) → has_row (codes "threads") rows ≡ false → used (flag_rule names) [] rows ≡ rows ++ flag_row ∷ []
unfolding clap_on_literals
flag_uses names rows h = used-absent (codes "threads") AsWritten CommandLine (codes "true") rows h

flag_passes : (names : Bor (List (Bor Text))) (rows : List Row) → has_row (codes "threads") rows ≡ false → use_fault false (flag_rule names) [] rows ≡ []
unfolding clap_on_literals
flag_passes names rows h = rw h refl

flag_walked : (names : Bor (List (Bor Text))) (held : List Row) (pending : Option (Text × List Text)) (p : ℕ) →
    walked (rules names) [] (stand held pending idle p) (codes "--threads") ≡
    stand (used (flag_rule names) [] (settled_rows (rules names) pending held)) None idle p
unfolding clap_on_literals
flag_walked names held pending p = refl

flag_fault : (names : Bor (List (Bor Text))) (held : List Row) (pending : Option (Text × List Text)) (p : ℕ) →
    turn_fault (top names) [] (stand held pending idle p) (codes "--threads") ≡
    or_else (or_else (settle_fault (rules names) false (record { rows = held; pending = pending; skip = 0 }))
    (use_fault false (flag_rule names) [] (settled_rows (rules names) pending held))) []
unfolding clap_on_literals
flag_fault names held pending p = refl

pub flag_step : (names : Bor (List (Bor Text))) (held : List Row) (pending : Option (Text × List Text)) (p : ℕ) (rows : List Row) →
    IsSettled names held pending rows → has_row (codes "threads") rows ≡ false →
    walked (rules names) [] (stand held pending idle p) (codes "--threads") ≡ stand (rows ++ flag_row ∷ []) None idle p
flag_step names held pending p rows at new =
    flag_walked names held pending p ∙ ap (λ (rs : List Row). stand (used (flag_rule names) [] rs) None idle p) at.rows_are ∙
    ap (λ (rs : List Row). stand rs None idle p) (flag_uses names rows new)

pub flag_turn : (names : Bor (List (Bor Text))) (held : List Row) (pending : Option (Text × List Text)) (p : ℕ) (rows : List Row) →
    IsSettled names held pending rows → has_row (codes "threads") rows ≡ false →
    turn_fault (top names) [] (stand held pending idle p) (codes "--threads") ≡ []
flag_turn names held pending p rows at new =
    flag_fault names held pending p ∙
    or_else_both _ [] (or_else_both _ _ at.fine
    (ap (λ (rs : List Row). use_fault false (flag_rule names) [] rs) at.rows_are ∙ flag_passes names rows new)) refl

-- ---- an option and its number apart

abbrev pub option_word : Setting → Text
option_word s = codes "--" ++ setting_name s

pub option_walked : (names : Bor (List (Bor Text))) (s : Setting) (held : List Row) (pending : Option (Text × List Text)) (p : ℕ) →
    walked (rules names) [] (stand held pending idle p) (option_word s) ≡ stand (settled_rows (rules names) pending held) (Some (setting_name s, []))
    (option (setting_name s)) p
unfolding clap_on_literals
option_walked names Nodes held pending p = refl
option_walked names Seed held pending p = refl
option_walked names Room held pending p = refl
option_walked names Size held pending p = refl
option_walked names From held pending p = refl
option_walked names Entries held pending p = refl

option_fault : (names : Bor (List (Bor Text))) (s : Setting) (held : List Row) (pending : Option (Text × List Text)) (p : ℕ) →
    turn_fault (top names) [] (stand held pending idle p) (option_word s) ≡ or_else
    (settle_fault (rules names) false (record { rows = held; pending = pending; skip = 0 })) []
unfolding clap_on_literals
option_fault names Nodes held pending p = refl
option_fault names Seed held pending p = refl
option_fault names Room held pending p = refl
option_fault names Size held pending p = refl
option_fault names From held pending p = refl
option_fault names Entries held pending p = refl

pub option_turn : (names : Bor (List (Bor Text))) (s : Setting) (held : List Row) (pending : Option (Text × List Text)) (p : ℕ) (rows : List Row) →
    IsSettled names held pending rows → turn_fault (top names) [] (stand held pending idle p) (option_word s) ≡ []
option_turn names s held pending p rows at = option_fault names s held pending p ∙ or_else_both _ [] at.fine refl

-- a word that is no flag
pub record IsPlainValue (v : Text) : Type 0 where
  pub long : long_of v ≡ None
  pub short : short_of v ≡ None
  pub dashes : bytes_eq v (45 ∷ 45 ∷ []) ≡ false

pub value_walked : (names : Bor (List (Bor Text))) (s : Setting) (v : Text) (rows : List Row) (p : ℕ) → IsPlainValue v →
    walked (rules names) [] (stand rows (Some (setting_name s, [])) (option (setting_name s)) p) v ≡ stand rows (Some (setting_name s, v ∷ [])) idle p
unfolding clap_on_literals
value_walked names Nodes v rows p h = let a = h.long in let b = h.short in let d = h.dashes in rw (d, a, b) refl
value_walked names Seed v rows p h = let a = h.long in let b = h.short in let d = h.dashes in rw (d, a, b) refl
value_walked names Room v rows p h = let a = h.long in let b = h.short in let d = h.dashes in rw (d, a, b) refl
value_walked names Size v rows p h = let a = h.long in let b = h.short in let d = h.dashes in rw (d, a, b) refl
value_walked names From v rows p h = let a = h.long in let b = h.short in let d = h.dashes in rw (d, a, b) refl
value_walked names Entries v rows p h = let a = h.long in let b = h.short in let d = h.dashes in rw (d, a, b) refl

pub value_turn : (names : Bor (List (Bor Text))) (s : Setting) (v : Text) (rows : List Row) (p : ℕ) → IsPlainValue v →
    turn_fault (top names) [] (stand rows (Some (setting_name s, [])) (option (setting_name s)) p) v ≡ []
unfolding clap_on_literals
value_turn names Nodes v rows p h = let a = h.long in let b = h.short in let d = h.dashes in rw (d, a, b) refl
value_turn names Seed v rows p h = let a = h.long in let b = h.short in let d = h.dashes in rw (d, a, b) refl
value_turn names Room v rows p h = let a = h.long in let b = h.short in let d = h.dashes in rw (d, a, b) refl
value_turn names Size v rows p h = let a = h.long in let b = h.short in let d = h.dashes in rw (d, a, b) refl
value_turn names From v rows p h = let a = h.long in let b = h.short in let d = h.dashes in rw (d, a, b) refl
value_turn names Entries v rows p h = let a = h.long in let b = h.short in let d = h.dashes in rw (d, a, b) refl

-- an argument that is pending with its value is settled by one more row
settled_use : (names : Bor (List (Bor Text))) (k : Slot) (v : Text) (rows : List Row) →
    settled_rows (rules names) (Some (slot_name k, v ∷ [])) rows ≡ used (rule_at names k) (v ∷ []) rows
unfolding clap_on_literals
settled_use names None v rows = refl
settled_use names (Some Nodes) v rows = refl
settled_use names (Some Seed) v rows = refl
settled_use names (Some Room) v rows = refl
settled_use names (Some Size) v rows = refl
settled_use names (Some From) v rows = refl
settled_use names (Some Entries) v rows = refl

settled_use_fault : (names : Bor (List (Bor Text))) (k : Slot) (v : Text) (rows : List Row) →
    settle_fault (rules names) false (record { rows = rows; pending = Some (slot_name k, v ∷ []); skip = 0 }) ≡ use_fault false (rule_at names k) (v ∷ []) rows
unfolding clap_on_literals
settled_use_fault names None v rows = refl
settled_use_fault names (Some Nodes) v rows = refl
settled_use_fault names (Some Seed) v rows = refl
settled_use_fault names (Some Room) v rows = refl
settled_use_fault names (Some Size) v rows = refl
settled_use_fault names (Some From) v rows = refl
settled_use_fault names (Some Entries) v rows = refl

pub pending_settled : (names : Bor (List (Bor Text))) (k : Slot) (v : Text) (rows : List Row) → has_row (slot_name k) rows ≡ false →
    accepts false (parser_at names k) v ≡ true → IsSettled names rows (Some (slot_name k, v ∷ [])) (rows ++ row_at k v ∷ [])
pending_settled names k v rows new fits = record {
  rows_are = settled_use names k v rows ∙ uses names k v rows new;
  fine = settled_use_fault names k v rows ∙ passes names k v rows new fits;
}

-- rows with nothing pending are settled
pub all_settled : (names : Bor (List (Bor Text))) (rows : List Row) → IsSettled names rows None rows
all_settled names rows = record { rows_are = refl; fine = refl }

-- ---- the mode

pub or_true : (b : Bool) → (b || true) ≡ true
or_true true = refl
or_true false = refl

and_false : (b : Bool) → (b && false) ≡ false
and_false true = refl
and_false false = refl

abbrev pub IsModeName : Text → Type 0
IsModeName m = IsAmong m mode_names

pub and : {P Q : Type 0} → P → Q → P × Q
and p q = (p, q)

-- no name of a mode is a flag
abbrev EachIsPlain : List Text → Type 0
EachIsPlain [] = Unit {0}
EachIsPlain (t ∷ ts) = IsPlainValue t × EachIsPlain ts

plain : (t : Text) → long_of t ≡ None → short_of t ≡ None → bytes_eq t (45 ∷ 45 ∷ []) ≡ false → IsPlainValue t
plain t a b d = record { long = a; short = b; dashes = d }

names_are_plain : EachIsPlain mode_names
unfolding clap_on_literals
names_are_plain =
    and (plain _ refl refl refl) (and (plain _ refl refl refl) (and (plain _ refl refl refl) (and (plain _ refl refl refl)
    (and (plain _ refl refl refl) (and (plain _ refl refl refl) (and (plain _ refl refl refl) (and (plain _ refl refl refl)
    (and (plain _ refl refl refl) (and (plain _ refl refl refl) (and (plain _ refl refl refl) tt))))))))))

one_is_plain : (ts : List Text) (m : Text) → EachIsPlain ts → IsAmong m ts → IsPlainValue m
one_is_plain [] m each is = absurd is
one_is_plain (t ∷ ts) m each (inl e) = subst IsPlainValue (sym e) each.0
one_is_plain (t ∷ ts) m each (inr is) = one_is_plain ts m each.1 is

mode_walked_as : (names : Bor (List (Bor Text))) (m : Text) (held : List Row) (pending : Option (Text × List Text)) → IsPlainValue m →
    walked (rules names) [] (stand held pending idle 1) m ≡ stand (settled_rows (rules names) pending held) (Some (codes "mode", m ∷ [])) idle 2
unfolding clap_on_literals
mode_walked_as names m held pending plain =
    let a = plain.long in let b = plain.short in let d = plain.dashes in
    let h = and_false (option_map_or (λ (q : Text × List Text). bytes_eq q.0 (codes "mode")) pending false) in rw (d, a, b, h) refl

mode_fault_is : (names : Bor (List (Bor Text))) (m : Text) (held : List Row) (pending : Option (Text × List Text)) → IsPlainValue m →
    turn_fault (top names) [] (stand held pending idle 1) m ≡ settle_fault (rules names) false (record { rows = held; pending = pending; skip = 0 })
unfolding clap_on_literals
mode_fault_is names m held pending plain =
    let a = plain.long in let b = plain.short in let d = plain.dashes in
    let h = and_false (option_map_or (λ (q : Text × List Text). bytes_eq q.0 (codes "mode")) pending false) in rw (d, a, b, h) refl

pub mode_step : (names : Bor (List (Bor Text))) (m : Text) (held : List Row) (pending : Option (Text × List Text)) (rows : List Row) → IsModeName m →
    IsSettled names held pending rows →
    walked (rules names) [] (stand held pending idle 1) m ≡ stand rows (Some (codes "mode", m ∷ [])) idle 2
mode_step names m held pending rows is at =
    mode_walked_as names m held pending (one_is_plain mode_names m names_are_plain is) ∙
    ap (λ (rs : List Row). stand rs (Some (codes "mode", m ∷ [])) idle 2) at.rows_are

pub mode_turn : (names : Bor (List (Bor Text))) (m : Text) (held : List Row) (pending : Option (Text × List Text)) (rows : List Row) → IsModeName m →
    IsSettled names held pending rows →
    turn_fault (top names) [] (stand held pending idle 1) m ≡ []
mode_turn names m held pending rows is at = mode_fault_is names m held pending (one_is_plain mode_names m names_are_plain is) ∙ at.fine

-- a test for a text that is among others
found_among : (ts : List Text) (m : Text) → IsAmong m ts → list_any (λ (s : Text). bytes_eq s m) ts ≡ true
found_among [] m is = absurd is
found_among (t ∷ ts) m (inl e) = by (bytes_eq t m) ((bytes_eq-Decides t m).1 (sym e))
  where
    by : (b : Bool) → b ≡ true → (b || list_any (λ (s : Text). bytes_eq s m) ts) ≡ true
    by b e = rw e refl
found_among (t ∷ ts) m (inr is) = ap (λ (b : Bool). bytes_eq t m || b) (found_among ts m is) ∙ or_true (bytes_eq t m)

-- what MODE takes, by the texts alone
pub mode_accepted : (names : Bor (List (Bor Text))) (m : Text) → AreModes names → IsModeName m → accepts false (vp.Names names) m ≡ true
mode_accepted names m modes is =
    list_any-map (λ (s : Text). bytes_eq s m) (λ (s : Bor Text). s.now) names.now ∙ ap (list_any (λ (s : Text). bytes_eq s m)) modes ∙
    found_among mode_names m is
