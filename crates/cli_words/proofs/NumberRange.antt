-- The numbers that a reading answers are in the ranges of their options: the parsers take no others.
use Rattle.std.proofs.Common.{◌≡◌, ◌≤◌, ◌<◌, ◌⊎◌, inl, inr, ℕ, Bool, cond, true, false, codes, refl, sym, subst, arith, List, []}
use Rattle.std.proofs.Common.{◌∷◌, Option}
use Rattle.std.proofs.Common.{Some, None, Result, Ok, Err}
use Rattle.std.specs.Borrow.{Bor}
use Rattle.std.specs.Option.{option_map_or, option_and_then}
use Rattle.std.specs.Prelude.{IfOk, IfSome, find, option_map, pos, slice_get}
use Rattle.std.specs.Str.{bytes_eq}
use Rattle.std.specs.Str.Parse.{ParsesUnsigned, digits_value, without_leading_plus}
use Rattle.clap.specs.Faults.{fault_of}
use Rattle.clap.specs.Lexer.{without_minus}
use Rattle.clap.specs.Simple.{argument_words, built, matches_of, names_of}
use Rattle.clap.specs.Values.{IsSignedIn, IsUnsignedIn, read_as}
use Rattle.clap.specs.ValueTests.{accepts, is_unsigned_in}
use Rattle.clap.specs.Walk.{Row, Text, first_of, nothing_held, row_text}
use Rattle.clap.specs.declared.builder.value_parser.Reading.{Reading}
use Rattle.clap.specs.declared.builder.value_parser.Reading.TheVariants.{WithoutMinus}
use Rattle.clap.specs.declared.builder.value_parser.ValueParser.{ValueParser}
use Rattle.clap.specs.declared.builder.value_parser.ValueParser.TheVariants as vp
use Rattle.clap.proofs.CallerReads.{signed_reads}
use Rattle.clap.proofs.OnLiterals.{clap_on_literals}
use Rattle.clap.proofs.ValueTestLemmas.{accepts-Accepts}
use Rattle.cli_words.specs.declared.limits.TheConstants.{DEFAULT_NODES, DEFAULT_ROOM, DEFAULT_SIZE, FEWEST_MADE_NODES, LEAST_ROOM, MOST_MADE_NODES}
use Rattle.cli_words.specs.declared.limits.TheConstants.{MOST_ROOM, MOST_SIZE, DEFAULT_DRAWN, MOST_DRAWN}
use Rattle.cli_words.specs.declared.mode.Mode.{Mode}
use Rattle.cli_words.specs.declared.mode.Mode.TheVariants.{Play, Run, Big, Check, Points, Large, Messages, Groups, Draw, OneNode}
use Rattle.cli_words.specs.declared.mode.WordFault.{WordFault}
use Rattle.cli_words.specs.declared.mode.WordFault.TheVariants.{OutOfMemory}
use Rattle.cli_words.specs.declared.modes.Options.{Options}
use Rattle.cli_words.specs.Command.{AreModes, AreNodesInRange, HasNumbersInRange, Reads, command_of, mode_named, mode_of, number_in}
use Rattle.cli_words.specs.Command.{number_of, options_of, trace_mode}
use Rattle.cli_words.proofs.Accepted.{AllGood, AllFit, EachPasses, another, its_own, level_fit}
use Rattle.cli_words.proofs.Steps.{top}

-- ---- an option whose parser takes the numbers from one to another, one of which stands where it is not given

module _ (id : Text) (low high otherwise : ℕ) (least : low ≤ otherwise) (most : otherwise ≤ high) (small : high < 4294967296) where
  abbrev parser : ValueParser
  parser = vp.Signed (pos low) (pos high)

  abbrev InRange : ℕ → Type 0
  InRange n = (low ≤ n) × (n ≤ high)

  some_number : {m n : ℕ} → ◌≡◌ {A = Option ℕ} (Some m) (Some n) → m ≡ n
  some_number e = cc

  text_in_range : (v : Text) → accepts false parser v ≡ true → InRange (number_in 4294967295 otherwise (without_minus v))
  text_in_range v passed = go (is_unsigned_in 0 4294967295 (without_minus v)) refl
    where
      go : (b : Bool) → is_unsigned_in 0 4294967295 (without_minus v) ≡ b →
          InRange (cond b (digits_value 10 (without_leading_plus (without_minus v))) otherwise)
      go false e = (least, most)
      go true e =
          let reads : IsUnsignedIn 0 4294967295 (without_minus v) = accepts-Accepts false (vp.Unsigned 0 4294967295) (without_minus v) e in
          let is : IsSignedIn (pos low) (pos high) v = accepts-Accepts false parser v passed in
          let n = digits_value 10 (without_leading_plus (without_minus v)) in
          let got = signed_reads (Unit {0}) (ParsesUnsigned 32 10) 32 low high v (Some n) ((reads.0, omega arith), refl)
          (λ u x h. h) (omega (arith, small)) is in
          let same : n ≡ got.0 = some_number got.1 in
          (omega arith, omega arith)

  row_in_range : (r : Row) → EachPasses id parser r.values → r.reading ≡ WithoutMinus →
      InRange (option_map_or (number_in 4294967295 otherwise) (row_text r) otherwise)
  row_in_range r passes reads = go r.values passes
    where
      go : (vs : List Text) → EachPasses id parser vs →
          InRange (option_map_or (number_in 4294967295 otherwise) (option_map (read_as r.reading) (slice_get vs 0)) otherwise)
      go [] h = (least, most)
      go (v ∷ vs) h = subst (λ (how : Reading). InRange (number_in 4294967295 otherwise (read_as how v))) (sym reads) (text_in_range v h.0)

  number_in_range : (rows : List Row) → AllFit id parser rows → InRange (number_of id 4294967295 otherwise rows)
  number_in_range [] fit = (least, most)
  number_in_range (r ∷ rows) fit = go (bytes_eq r.id id) refl (number_in_range rows fit.1)
    where
      go : (b : Bool) → bytes_eq r.id id ≡ b → InRange (number_of id 4294967295 otherwise rows) →
          InRange (option_map_or (number_in 4294967295 otherwise)
          (option_and_then row_text (cond b (Some r) (find (λ (x : Row). bytes_eq x.id id) rows))) otherwise)
      go true is rest = row_in_range r (fit.0.values is).1 (fit.0.reading is)
      go false is rest = rest

-- ---- the numbers of a reading

nodes_good : (names : Bor (List (Bor Text))) → AllGood (codes "nodes") (vp.Signed (pos FEWEST_MADE_NODES) (pos MOST_MADE_NODES)) (top names).rules
unfolding clap_on_literals
nodes_good names = (
  another _ _ _ (inl refl) refl,
  (
    its_own _ _ _ refl refl refl refl,
    (
      another _ _ _ (inl refl) refl,
      (
        another _ _ _ (inl refl) refl,
        (
          another _ _ _ (inl refl) refl,
          (
            another _ _ _ (inl refl) refl,
            (another _ _ _ (inl refl) refl, (another _ _ _ (inr refl) refl, tt)),
          ),
        ),
      ),
    ),
  ),
)

room_good : (names : Bor (List (Bor Text))) → AllGood (codes "room") (vp.Signed (pos LEAST_ROOM) (pos MOST_ROOM)) (top names).rules
unfolding clap_on_literals
room_good names = (
  another _ _ _ (inl refl) refl,
  (
    another _ _ _ (inl refl) refl,
    (
      another _ _ _ (inl refl) refl,
      (
        its_own _ _ _ refl refl refl refl,
        (
          another _ _ _ (inl refl) refl,
          (
            another _ _ _ (inl refl) refl,
            (another _ _ _ (inl refl) refl, (another _ _ _ (inr refl) refl, tt)),
          ),
        ),
      ),
    ),
  ),
)

size_good : (names : Bor (List (Bor Text))) → AllGood (codes "size") (vp.Signed (pos 0) (pos MOST_SIZE)) (top names).rules
unfolding clap_on_literals
size_good names = (
  another _ _ _ (inl refl) refl,
  (
    another _ _ _ (inl refl) refl,
    (
      another _ _ _ (inl refl) refl,
      (
        another _ _ _ (inl refl) refl,
        (
          its_own _ _ _ refl refl refl refl,
          (
            another _ _ _ (inl refl) refl,
            (another _ _ _ (inl refl) refl, (another _ _ _ (inr refl) refl, tt)),
          ),
        ),
      ),
    ),
  ),
)

entries_good : (names : Bor (List (Bor Text))) → AllGood (codes "entries") (vp.Signed (pos 0) (pos MOST_DRAWN)) (top names).rules
unfolding clap_on_literals
entries_good names = (
  another _ _ _ (inl refl) refl,
  (
    another _ _ _ (inl refl) refl,
    (
      another _ _ _ (inl refl) refl,
      (
        another _ _ _ (inl refl) refl,
        (
          another _ _ _ (inl refl) refl,
          (
            another _ _ _ (inl refl) refl,
            (its_own _ _ _ refl refl refl refl, (another _ _ _ (inr refl) refl, tt)),
          ),
        ),
      ),
    ),
  ),
)

matches_fit : (id : Text) (q : ValueParser) (names : Bor (List (Bor Text))) (words : List Text) → AllGood id q (top names).rules →
    fault_of (command_of names) words ≡ [] → AllFit id q (matches_of (command_of names) words)
matches_fit id q names words good e =
    level_fit id q (top names) good (names_of (built (command_of names))) nothing_held (argument_words (command_of names) words) _ _ e tt

pub record AreInRange (options : Options) : Type 0 where
  pub nodes : AreNodesInRange options.nodes
  pub room : (LEAST_ROOM ≤ options.room) × (options.room ≤ MOST_ROOM)
  pub size : options.size ≤ MOST_SIZE
  pub entries : options.entries ≤ MOST_DRAWN

options_in_range : (names : Bor (List (Bor Text))) (words : List Text) → fault_of (command_of names) words ≡ [] →
    AreInRange (options_of (matches_of (command_of names) words))
options_in_range names words e =
    let rows = matches_of (command_of names) words in
    record {
      nodes = number_in_range (codes "nodes") FEWEST_MADE_NODES MOST_MADE_NODES DEFAULT_NODES (omega arith) (omega arith) (omega arith) rows
          (matches_fit (codes "nodes") _ names words (nodes_good names) e);
      room = number_in_range (codes "room") LEAST_ROOM MOST_ROOM DEFAULT_ROOM (omega arith) (omega arith) (omega arith) rows
          (matches_fit (codes "room") _ names words (room_good names) e);
      size = (number_in_range (codes "size") 0 MOST_SIZE DEFAULT_SIZE (omega arith) (omega arith) (omega arith) rows
          (matches_fit (codes "size") _ names words (size_good names) e)).1;
      entries = (number_in_range (codes "entries") 0 MOST_DRAWN DEFAULT_DRAWN (omega arith) (omega arith) (omega arith) rows
          (matches_fit (codes "entries") _ names words (entries_good names) e)).1;
    }

-- ---- the mode

-- one name more
either : (b : Bool) (mode : Mode) (rest : Option Mode) → HasNumbersInRange mode → IfSome rest HasNumbersInRange →
    IfSome (cond b (Some mode) rest) HasNumbersInRange
either true mode rest h k = h
either false mode rest h k = k

trace_in_range : (threads : Bool) → HasNumbersInRange (trace_mode threads)
trace_in_range true = tt
trace_in_range false = tt

named_in_range : (name : Option Text) (options : Options) → AreInRange options → IfSome (option_and_then (mode_named options) name) HasNumbersInRange
named_in_range None options h = tt
named_in_range (Some t) options h =
    either (bytes_eq t (codes "play")) Play _ tt
    (either (bytes_eq t (codes "run")) Run _ tt
    (either (bytes_eq t (codes "big")) (Big options.nodes options.seed) _ h.nodes
    (either (bytes_eq t (codes "trace")) (trace_mode options.threads) _ (trace_in_range options.threads)
    (either (bytes_eq t (codes "check")) Check _ tt
    (either (bytes_eq t (codes "points")) (Points options.room) _ h.room
    (either (bytes_eq t (codes "large")) (Large options.nodes options.seed options.size) _ (h.nodes, h.size)
    (either (bytes_eq t (codes "messages")) Messages _ tt
    (either (bytes_eq t (codes "groups")) Groups _ tt
    (either (bytes_eq t (codes "draw")) (Draw options.from options.entries) _ h.entries
    (either (bytes_eq t (codes "node")) OneNode None tt tt))))))))))

mode_in_range : (names : Bor (List (Bor Text))) (words : List Text) → fault_of (command_of names) words ≡ [] →
    IfSome (mode_of (matches_of (command_of names) words)) HasNumbersInRange
mode_in_range names words e =
    named_in_range (first_of (codes "mode") (matches_of (command_of names) words)) (options_of (matches_of (command_of names) words))
    (options_in_range names words e)

-- a mode that is answered has numbers in their ranges
pub read_in_range : (words : List Text) (result : Result Mode WordFault) →
    (result ≡ Err OutOfMemory) ⊎ ((names : Bor (List (Bor Text))) × AreModes names × Reads names words result) →
    IfOk result HasNumbersInRange
read_in_range words (Ok mode) (inl memory) = cc
read_in_range words (Ok mode) (inr (names, modes, reads)) =
    subst (λ (o : Option Mode). IfSome o HasNumbersInRange) reads.ok.1 (mode_in_range names words reads.ok.0)
read_in_range words (Err fault) read = tt
