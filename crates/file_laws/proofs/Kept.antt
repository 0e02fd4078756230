-- Pieces that were stored and found again have the bytes that they were stored with.
use Rattle.std.proofs.Common.{◌≡◌, ◌≤◌, Some, List, [], ◌∷◌, length, map, refl, ap, ◌∙◌}
use Rattle.ring_math.specs.Names.{Content}
use Rattle.wire_msg.specs.declared.command.Command.TheVariants as command
use Rattle.overlay_rules.specs.declared.entry.Entry.{Entry}
use Rattle.overlay_rules.specs.Laws.{StoredStays}
use Rattle.fragments.specs.declared.piece.Piece.{Piece}
use Rattle.fragments.specs.Joined.{join_fault, joined, all_found}
use Rattle.fragments.specs.Pieces.{LargeFile, fragments_of, index_of, pieces_of}
use Rattle.fragments.proofs.Returning.{comes_back}
use Rattle.file_laws.specs.Stored.{IsKept, AreKept, ComesBackFrom}

one_kept : (es : List Entry) → StoredStays es → (p : Piece) (bytes : Content) → IsKept es p bytes → bytes ≡ p.bytes
one_kept es stays p bytes h =
    (stays h.stored h.found p.file p.bytes h.copies h.holders (command.Fetch p.file) h.was_stored h.later).1 h.finder bytes h.was_found

all_kept : (es : List Entry) → StoredStays es → (pieces : List Piece) (found : List Content) → AreKept es pieces found →
    map (λ bytes. Some bytes) found ≡ map (λ (p : Piece). Some p.bytes) pieces
all_kept es stays [] [] h = refl
all_kept es stays (p ∷ pieces) (bytes ∷ found) h =
    ap (λ (b : Content). Some b ∷ map (λ bytes. Some bytes) found) (one_kept es stays p bytes h.0) ∙
    ap (λ rest. Some p.bytes ∷ rest) (all_kept es stays pieces found h.1)
all_kept es stays [] (bytes ∷ found) h = absurd h
all_kept es stays (p ∷ pieces) [] h = absurd h

pub file_comes_back : (es : List Entry) → StoredStays es → (f : LargeFile) → length f.bytes ≤ 835584 → ComesBackFrom es f
file_comes_back es stays f few index found stored kept =
    let back = comes_back f few in
    let same = all_kept es stays (fragments_of f) found kept in
    record {
      faultless =
          ap (λ found. join_fault index found) same ∙
          ap (λ (said : Content). join_fault said (all_found (pieces_of f))) (one_kept es stays (index_of f) index stored) ∙ back.faultless;
      whole = ap joined same ∙ back.whole;
    }
