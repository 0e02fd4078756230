-- The walk over plain words, from the first to the last.
use Rattle.std.proofs.Common.{◌≡◌, ◌<◌, ◌^◌, ℕ, ◌∙◌, ap, sym, true, false, refl, List, [], ◌∷◌, ◌++◌, codes, map, Option, Some, None, subst}
use Rattle.std.proofs.Common.{decimal, append_assoc, append-nil, arith}
use Rattle.std.specs.Borrow.{Bor}
use Rattle.std.specs.List.{flat_map}
use Rattle.std.specs.Prelude.{fold}
use Rattle.std.specs.Str.{bytes_eq}
use Rattle.clap.specs.Walk.{Text, Row, Walk, idle, option, walked, has_row}
use Rattle.clap.specs.Simple.{Shape}
use Rattle.clap.specs.Faults.{turn_fault, walk_fault}
use Rattle.clap.specs.ValueTests.{accepts}
use Rattle.cli_words.specs.declared.limits.TheConstants.{FEWEST_MADE_NODES, LEAST_ROOM, MOST_DRAWN, MOST_MADE_NODES, MOST_ROOM, MOST_SIZE}
use Rattle.cli_words.specs.Command.{AreModes}
use Rattle.cli_words.specs.Plain.{Setting, Nodes, Seed, Room, Size, From, Entries, setting_name, InRange, Piece, Names, Apart, Joined, Threads, words_of}
use Rattle.cli_words.specs.Plain.{IsPiece, subject_of}
use Rattle.cli_words.proofs.Rows.{neither, has_row-more}
use Rattle.cli_words.proofs.Steps.{or_true, flag_row, flag_step, flag_turn, top, rules, parser_at, row_at, stand, IsSettled, joined_step, joined_turn}
use Rattle.cli_words.proofs.Steps.{option_walked, option_turn}
use Rattle.cli_words.proofs.Steps.{value_walked}
use Rattle.cli_words.proofs.Steps.{value_turn, pending_settled, all_settled, mode_step, mode_turn, mode_accepted}
use Rattle.cli_words.proofs.Numerals.{decimal_is_plain, decimal_signed, decimal_unsigned}

-- the row that a piece leaves
abbrev pub row_of : Piece → Row
row_of (Names mode) = row_at None mode
row_of (Apart setting number) = row_at (Some setting) (decimal number)
row_of (Joined setting number) = row_at (Some setting) (decimal number)
row_of Threads = flag_row

abbrev pub EachPiece : List Piece → Type 0
EachPiece [] = Unit {0}
EachPiece (piece ∷ pieces) = IsPiece piece × EachPiece pieces

-- each piece is about an argument that has no row yet
abbrev pub Fresh : List Row → List Piece → Type 0
Fresh rows [] = Unit {0}
Fresh rows (piece ∷ pieces) = (has_row (subject_of piece) rows ≡ false) × Fresh (rows ++ row_of piece ∷ []) pieces

-- what an option takes
pub number_accepted : (names : Bor (List (Bor Text))) (s : Setting) (n : ℕ) → InRange s n →
    (n < 2 ^ 64) × (accepts false (parser_at names (Some s)) (decimal n) ≡ true)
number_accepted names Nodes n h = let low = h.0 in let high = h.1 in (omega arith, decimal_signed n FEWEST_MADE_NODES MOST_MADE_NODES low high (omega arith))
number_accepted names Seed n h = (h, decimal_unsigned n h)
number_accepted names Room n h = let low = h.0 in let high = h.1 in (omega arith, decimal_signed n LEAST_ROOM MOST_ROOM low high (omega arith))
number_accepted names Size n h = (omega arith, decimal_signed n 0 MOST_SIZE (omega arith) h (omega arith))
number_accepted names From n h = (h, decimal_unsigned n h)
number_accepted names Entries n h = (omega arith, decimal_signed n 0 MOST_DRAWN (omega arith) h (omega arith))

-- words that a walk goes over without a fault, to rows that are settled
pub record GoesOver (names : Bor (List (Bor Text))) (from : Walk) (words : List Text) (rows : List Row) : Type 0 where
  pub held : List Row
  pub pending : Option (Text × List Text)
  pub position : ℕ
  pub to : fold (walked (rules names) []) from words ≡ stand held pending idle position
  pub fine : walk_fault (top names) [] from words ≡ []
  pub settled : IsSettled names held pending rows

none_left : (s : Shape) (w : Walk) → walk_fault s [] w [] ≡ []
unfolding walk_fault
none_left s w = refl

word_ok : (s : Shape) (w : Walk) (x : Text) (rest : List Text) → turn_fault s [] w x ≡ [] → walk_fault s [] (walked s.rules [] w x) rest ≡ [] →
    walk_fault s [] w (x ∷ rest) ≡ []
unfolding walk_fault
word_ok s w x rest t r = rw t r

-- one word more in front
further : (names : Bor (List (Bor Text))) (from next : Walk) (word : Text) (words : List Text) (rows : List Row) →
    walked (rules names) [] from word ≡ next → turn_fault (top names) [] from word ≡ [] → GoesOver names next words rows →
    GoesOver names from (word ∷ words) rows
further names from next word words rows step turn g = record {
  held = g.held;
  pending = g.pending;
  position = g.position;
  to = ap (λ (w : Walk). fold (walked (rules names) []) w words) step ∙ g.to;
  fine = word_ok (top names) from word words turn (ap (λ (w : Walk). walk_fault (top names) [] w words) step ∙ g.fine);
  settled = g.settled;
}

-- a row of an option is none of the mode
pub option_is_no_mode : (s : Setting) → bytes_eq (setting_name s) (codes "mode") ≡ false
option_is_no_mode Nodes = refl
option_is_no_mode Seed = refl
option_is_no_mode Room = refl
option_is_no_mode Size = refl
option_is_no_mode From = refl
option_is_no_mode Entries = refl

still_first : (r : Row) (rows : List Row) (p : ℕ) → (has_row (codes "mode") rows ≡ false → p ≡ 1) →
    has_row (codes "mode") (rows ++ r ∷ []) ≡ false → p ≡ 1
still_first r rows p h e =
    h (neither (has_row (codes "mode") rows) (bytes_eq r.id (codes "mode")) (sym (has_row-more (codes "mode") rows r) ∙ e)).0

mode_is_there : (m : Text) (rows : List Row) → has_row (codes "mode") (rows ++ row_at None m ∷ []) ≡ false → ⊥
mode_is_there m rows e =
    let yes : has_row (codes "mode") (rows ++ row_at None m ∷ []) ≡ true =
    has_row-more (codes "mode") rows (row_at None m) ∙ or_true (has_row (codes "mode") rows) in
    let both : true ≡ false = sym yes ∙ e in cc

module _ (names : Bor (List (Bor Text))) (modes : AreModes names) where
  pub goes_over : (pieces : List Piece) (held : List Row) (pending : Option (Text × List Text)) (p : ℕ) (rows : List Row) →
      IsSettled names held pending rows → (has_row (codes "mode") rows ≡ false → p ≡ 1) → EachPiece pieces → Fresh rows pieces →
      GoesOver names (stand held pending idle p) (flat_map words_of pieces) (rows ++ map row_of pieces)
  goes_over [] held pending p rows at first each fresh = record {
    held = held;
    pending = pending;
    position = p;
    to = refl;
    fine = none_left (top names) (stand held pending idle p);
    settled = subst (λ (rs : List Row). IsSettled names held pending rs) (sym (append-nil rows)) at;
  }
  goes_over (Names m ∷ pieces) held pending p rows at first each fresh =
      let here : p ≡ 1 = first fresh.0 in
      let next = rows ++ row_at None m ∷ [] in
      let rest = goes_over pieces rows (Some (codes "mode", m ∷ [])) 2 next
      (pending_settled names None m rows fresh.0 (mode_accepted names m modes each.0)) (λ e. absurd (mode_is_there m rows e)) each.1 fresh.1 in
      subst (λ (q : ℕ). GoesOver names (stand held pending idle q) (m ∷ flat_map words_of pieces) (rows ++ row_at None m ∷ map row_of pieces)) (sym here)
      (further names (stand held pending idle 1) (stand rows (Some (codes "mode", m ∷ [])) idle 2) m (flat_map words_of pieces)
      (rows ++ row_at None m ∷ map row_of pieces)
      (mode_step names m held pending rows each.0 at) (mode_turn names m held pending rows each.0 at)
      (subst (λ (rs : List Row). GoesOver names (stand rows (Some (codes "mode", m ∷ [])) idle 2) (flat_map words_of pieces) rs)
      (append_assoc rows (row_at None m ∷ []) (map row_of pieces)) rest))
  goes_over (Joined s n ∷ pieces) held pending p rows at first each fresh =
      let fits = number_accepted names s n each.0 in
      let next = rows ++ row_at (Some s) (decimal n) ∷ [] in
      let rest = goes_over pieces next None p next (all_settled names next) (still_first (row_at (Some s) (decimal n)) rows p first) each.1 fresh.1 in
      further names (stand held pending idle p) (stand next None idle p) _ (flat_map words_of pieces) (rows ++ row_at (Some s) (decimal n) ∷ map row_of pieces)
      (joined_step names s (decimal n) held pending p rows at fresh.0) (joined_turn names s (decimal n) held pending p rows at fresh.0 fits.1)
      (subst (λ (rs : List Row). GoesOver names (stand next None idle p) (flat_map words_of pieces) rs)
      (append_assoc rows (row_at (Some s) (decimal n) ∷ []) (map row_of pieces)) rest)
  goes_over (Apart s n ∷ pieces) held pending p rows at first each fresh =
      let fits = number_accepted names s n each.0 in
      let next = rows ++ row_at (Some s) (decimal n) ∷ [] in
      let rest = goes_over pieces rows (Some (setting_name s, decimal n ∷ [])) p next
      (pending_settled names (Some s) (decimal n) rows fresh.0 fits.1) (still_first (row_at (Some s) (decimal n)) rows p first) each.1 fresh.1 in
      let all : List Row = rows ++ row_at (Some s) (decimal n) ∷ map row_of pieces in
      further names (stand held pending idle p) (stand rows (Some (setting_name s, [])) (option (setting_name s)) p) _
      (decimal n ∷ flat_map words_of pieces) all
      (option_walked names s held pending p ∙ ap (λ (rs : List Row). stand rs (Some (setting_name s, [])) (option (setting_name s)) p) at.rows_are)
      (option_turn names s held pending p rows at)
      (further names (stand rows (Some (setting_name s, [])) (option (setting_name s)) p) (stand rows (Some (setting_name s, decimal n ∷ [])) idle p)
      (decimal n) (flat_map words_of pieces) all
      (value_walked names s (decimal n) rows p (decimal_is_plain n fits.0)) (value_turn names s (decimal n) rows p (decimal_is_plain n fits.0))
      (subst (λ (rs : List Row). GoesOver names (stand rows (Some (setting_name s, decimal n ∷ [])) idle p) (flat_map words_of pieces) rs)
      (append_assoc rows (row_at (Some s) (decimal n) ∷ []) (map row_of pieces)) rest))
  goes_over (Threads ∷ pieces) held pending p rows at first each fresh =
      let next = rows ++ flag_row ∷ [] in
      let rest = goes_over pieces next None p next (all_settled names next) (still_first flag_row rows p first) each.1 fresh.1 in
      further names (stand held pending idle p) (stand next None idle p) _ (flat_map words_of pieces) (rows ++ flag_row ∷ map row_of pieces)
      (flag_step names held pending p rows at fresh.0) (flag_turn names held pending p rows at fresh.0)
      (subst (λ (rs : List Row). GoesOver names (stand next None idle p) (flat_map words_of pieces) rs)
      (append_assoc rows (flag_row ∷ []) (map row_of pieces)) rest)
