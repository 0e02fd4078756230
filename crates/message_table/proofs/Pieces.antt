-- Texts that grow by a piece for one element more.
use Rattle.std.proofs.Common.{◌≡◌, ℕ, ◌+◌, ◌<◌, Some, List, [], ◌∷◌, ◌++◌, length, get_or, slice_get, take, drop, sym, ap, ◌∙◌}
use Rattle.std.proofs.Common.{append_assoc}
use Rattle.std.specs.Prelude.{Result, Ok, Err, OnOk}
use Rattle.std.specs.List.{flat_map}
use Rattle.std.proofs.lemmas.Grind.{flat_map-append}
use Rattle.std.proofs.lemmas.List.{append-nil}
use Rattle.overlay_rules.specs.declared.entry.Entry.{Entry}
use Rattle.overlay_rules.proofs.Prefixes.{take-next, drop-got}
use Rattle.wire_msg.specs.Words.{Envelope}
use Rattle.scenario_reader.specs.Plain.{PlainScenario}
use Rattle.message_table.specs.Entries.{entries_text, entry_text}

-- the piece of one element more
pub piece_more : {A : Type 0} (piece : A → List ℕ) (xs : List A) (i : ℕ) (x : A) (old before after : List ℕ) → i < length xs → x ≡ get_or xs i x →
    before ≡ old ++ flat_map piece (take i xs) → after ≡ before ++ piece x → after ≡ old ++ flat_map piece (take (i + 1) xs)
piece_more piece xs i x old before after within at so_far more =
    more ∙ ap (λ t. t ++ piece x) so_far ∙ append_assoc old (flat_map piece (take i xs)) (piece x)
    ∙ ap (λ t. old ++ (flat_map piece (take i xs) ++ t)) (sym (append-nil (piece x)))
    ∙ ap (λ t. old ++ t) (sym (flat_map-append piece (take i xs) (x ∷ [])))
    ∙ ap (λ ys. old ++ flat_map piece ys) (sym (take-next xs i x within at))

-- two pieces, and three, the last of which may be refused
pub two_written : {X E : Type 0} (r : Result X E) (old middle new first second all : List ℕ) → middle ≡ old ++ first → first ++ second ≡ all →
    OnOk r (new ≡ middle ++ second) → OnOk r (new ≡ old ++ all)
two_written (Ok x) old middle new first second all one is two =
    two ∙ ap (λ t. t ++ second) one ∙ append_assoc old first second ∙ ap (λ t. old ++ t) is
two_written (Err e) old middle new first second all one is two = tt

pub three_written : {X E : Type 0} (r : Result X E) (old one two new first second third all : List ℕ) → one ≡ old ++ first → two ≡ one ++ second →
    first ++ (second ++ third) ≡ all → OnOk r (new ≡ two ++ third) → OnOk r (new ≡ old ++ all)
three_written r old one two new first second third all a b is c =
    two_written r old two new (first ++ second) third all
    (b ∙ ap (λ t. t ++ second) a ∙ append_assoc old first second) (append_assoc first second third ∙ is) c

-- a text, the piece that is written next, and what is still to come
pub written-more : (before after piece whole rest all : List ℕ) → after ≡ before ++ piece → whole ≡ piece ++ rest → before ++ whole ≡ all → after ++ rest ≡ all
written-more before after piece whole rest all one more so =
    rw one (append_assoc before piece rest ∙ ap (λ xs. before ++ xs) (sym more) ∙ so)

-- the text of entries from entry i on
pub entries_text-got : (s : PlainScenario) (n : ℕ) (sent : List Envelope) (es : List Entry) (i : ℕ) (e : Entry) → slice_get es i ≡ Some e →
    entries_text s n sent (drop i es) ≡ entry_text s n sent e ++ entries_text s (n + 1) (sent ++ e.messages) (drop (i + 1) es)
entries_text-got s n sent es i e at = ap (entries_text s n sent) (drop-got es i e at)
