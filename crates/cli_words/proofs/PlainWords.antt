-- Plain words are refused for memory alone, and name their mode.
use Rattle.std.proofs.Common.{◌≡◌, ◌≢◌, suc, ◌∙◌, ap, sym, true, false, refl, List, [], ◌∷◌, ◌++◌, All, AllPairs, map, Bool, Option, None, subst, arith}
use Rattle.std.specs.Borrow.{Bor}
use Rattle.std.specs.List.{flat_map}
use Rattle.std.specs.Prelude.{is_some}
use Rattle.std.specs.Str.{bytes_eq}
use Rattle.std.proofs.lemmas.Slice.Eq.{bytes_eq-Decides}
use Rattle.std.proofs.lemmas.List.Elements.{All-head, All-tail}
use Rattle.clap.specs.Walk.{Text, Row, Walk, Held, idle, walk, walk_from, nothing_held, settled, settled_rows, finished, has_row}
use Rattle.clap.specs.Simple.{Shape, built, entered, matches_of}
use Rattle.clap.specs.Faults.{fault_of, level_fault, entered_fault, settle_fault, defaults_fault, check_fault, walk_fault}
use Rattle.clap.specs.Kinds.{Kinds, or_else}
use Rattle.cli_words.specs.Command.{AreModes, command_of, mode_of}
use Rattle.cli_words.specs.Plain.{Piece, Names, Apart, Joined, Threads, words_of, IsPiece, subject_of, mode_by, ArePlain}
use Rattle.cli_words.proofs.Rows.{has_row-more}
use Rattle.cli_words.proofs.Steps.{top, rules, stand, all_settled}
use Rattle.cli_words.proofs.Walking.{row_of, EachPiece, Fresh, GoesOver, goes_over}
use Rattle.cli_words.proofs.Finishing.{whole, defaults_fine, nothing_missing, mode_is}

-- ---- the parts of what is plain

each_piece : (pieces : List Piece) → All IsPiece pieces → EachPiece pieces
each_piece [] h = tt
each_piece (piece ∷ pieces) h = (All-head IsPiece piece pieces h, each_piece pieces (All-tail IsPiece piece pieces h))

-- no row is about this
abbrev Absent : Text → List Row → Type 0
Absent id rows = has_row id rows ≡ false

row_subject : (piece : Piece) → (row_of piece).id ≡ subject_of piece
row_subject (Names m) = refl
row_subject (Apart s n) = refl
row_subject (Joined s n) = refl
row_subject Threads = refl

texts_differ : (s t : Text) → s ≢ t → bytes_eq s t ≡ false
texts_differ s t h = by (bytes_eq s t) refl
  where
    by : (b : Bool) → bytes_eq s t ≡ b → bytes_eq s t ≡ false
    by true e = absurd (h ((bytes_eq-Decides s t).0 e))
    by false e = e

-- the rows so far are about nothing that is to come
abbrev AllAbsent : List Row → List Piece → Type 0
AllAbsent rows [] = Unit {0}
AllAbsent rows (piece ∷ pieces) = Absent (subject_of piece) rows × AllAbsent rows pieces

still_absent : (rows : List Row) (first : Piece) (pieces : List Piece) → AllAbsent rows pieces →
    All (λ (t : Text). subject_of first ≢ t) (map subject_of pieces) → AllAbsent (rows ++ row_of first ∷ []) pieces
still_absent rows first [] h others = tt
still_absent rows first (piece ∷ pieces) h others = (
  has_row-more (subject_of piece) rows (row_of first)
      ∙ rw h.0 (ap (λ (t : Text). bytes_eq t (subject_of piece)) (row_subject first)
      ∙ texts_differ (subject_of first) (subject_of piece) (All-head (λ (t : Text). subject_of first ≢ t) (subject_of piece) (map subject_of pieces) others)),
  still_absent rows first pieces h.1 (All-tail (λ (t : Text). subject_of first ≢ t) (subject_of piece) (map subject_of pieces) others),
)

pairs_head : (x : Text) (xs : List Text) → AllPairs ◌≢◌ (x ∷ xs) → All (λ (t : Text). x ≢ t) xs
pairs_head x xs h k d lt = h 0 (suc k) d (omega arith) (omega arith)

pairs_tail : (x : Text) (xs : List Text) → AllPairs ◌≢◌ (x ∷ xs) → AllPairs ◌≢◌ xs
pairs_tail x xs h i j d lt within = h (suc i) (suc j) d (omega arith) (omega arith)

fresh_pieces : (rows : List Row) (pieces : List Piece) → AllAbsent rows pieces → AllPairs ◌≢◌ (map subject_of pieces) → Fresh rows pieces
fresh_pieces rows [] h once = tt
fresh_pieces rows (piece ∷ pieces) h once = (
  h.0,
  fresh_pieces (rows ++ row_of piece ∷ []) pieces (still_absent rows piece pieces h.1 (pairs_head (subject_of piece) (map subject_of pieces) once))
      (pairs_tail (subject_of piece) (map subject_of pieces) once),
)

none_yet : (pieces : List Piece) → AllAbsent [] pieces
none_yet [] = tt
none_yet (piece ∷ pieces) = (refl, none_yet pieces)

-- ---- behind the walk

abbrev after_walk : Shape → Held → Kinds
after_walk s end = or_else (settle_fault s.rules s.args_override_self end)
    (or_else (defaults_fault (settled s.rules end).rows s.rules) (check_fault s (finished s.rules end) false))

level_fine : (s : Shape) (words : List Text) (end : Walk) → walk s.rules [] nothing_held words ≡ end → walk_fault s [] (walk_from nothing_held) words ≡ [] →
    after_walk s end.held ≡ [] →
    level_fault s [] nothing_held words false [] ≡ []
level_fine s words end is w a = let P : Walk → Type 0 = λ x. after_walk s x.held ≡ [] in rw w (subst P (sym is) a)

-- a walk that stops at no subcommand and fails nothing is no fault
reads_fine : (names : Bor (List (Bor Text))) (first : Text) (words : List Text) (end : Walk) → walk (rules names) [] nothing_held words ≡ end →
    end.stopped ≡ None →
    walk_fault (top names) [] (walk_from nothing_held) words ≡ [] → after_walk (top names) end.held ≡ [] → fault_of (command_of names) (first ∷ words) ≡ []
reads_fine names first words end is none w a =
    let P : Option (Text × List Text) → Type 0 =
    λ stop. level_fault (top names) [] nothing_held words (is_some (entered (built (command_of names)) stop))
    (entered_fault (built (command_of names)) stop) ≡ [] in
    subst P (sym (ap (λ (x : Walk). x.stopped) is ∙ none)) (level_fine (top names) words end is w a)

module _ (names : Bor (List (Bor Text))) (modes : AreModes names) (pieces : List Piece) (words : List Text) (plain : ArePlain pieces words) where
  over : GoesOver names (walk_from nothing_held) (flat_map words_of pieces) (map row_of pieces)
  over = goes_over names modes pieces [] None 1 [] (all_settled names []) (λ h. refl) (each_piece pieces plain.allowed)
      (fresh_pieces [] pieces (none_yet pieces) plain.once)

  abbrev behind : List Row → Kinds
  behind rows = or_else (defaults_fault rows (rules names)) (check_fault (top names) (whole names rows) false)

  ended : after_walk (top names) (record { rows = over.held; pending = over.pending; skip = 0 }) ≡ []
  ended =
      ap (λ (k : Kinds). or_else k (behind (settled_rows (rules names) over.pending over.held))) over.settled.fine ∙
      ap behind over.settled.rows_are ∙
      ap (λ (k : Kinds). or_else k (check_fault (top names) (whole names (map row_of pieces)) false)) (defaults_fine names (map row_of pieces)) ∙
      nothing_missing names pieces plain.mode

  pub plain_passes : fault_of (command_of names) words ≡ []
  plain_passes =
      ap (λ (ws : List Text). fault_of (command_of names) ws) plain.is ∙
      reads_fine names plain.first (flat_map words_of pieces) (stand over.held over.pending idle over.position) over.to refl over.fine ended

  pub plain_mode : mode_of (matches_of (command_of names) words) ≡ mode_by pieces
  plain_mode =
      ap (λ (ws : List Text). mode_of (matches_of (command_of names) ws)) plain.is ∙
      ap (λ (w : Walk). mode_of (finished (rules names) w.held)) over.to ∙
      ap (λ (rows : List Row). mode_of (whole names rows)) over.settled.rows_are ∙
      mode_is names pieces (each_piece pieces plain.allowed) plain.mode
