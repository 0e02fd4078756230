-- Pieces of a large file that were stored, and found again, in a record.
use Rattle.std.specs.Prelude.{◌≡◌, ◌<◌, ℕ, Some, None, List, [], ◌∷◌, map}
use Rattle.ring_math.specs.Names.{Id, Content}
use Rattle.wire_msg.specs.declared.command.Command.TheVariants as command
use Rattle.wire_msg.specs.declared.reply.Reply.TheVariants as reply
use Rattle.overlay_rules.specs.declared.entry.Entry.{Entry}
use Rattle.overlay_rules.specs.Laws.{AnswersWith}
use Rattle.fragments.specs.declared.piece.Piece.{Piece}
use Rattle.fragments.specs.Joined.{join_fault, joined}
use Rattle.fragments.specs.Pieces.{LargeFile, fragments_of, index_of}

-- an insert of the piece was answered Stored, and later a fetch of it Found, with these bytes
pub record IsKept (es : List Entry) (p : Piece) (bytes : Content) : Type 0 where
  pub stored : ℕ
  pub found : ℕ
  pub copies : ℕ
  pub holders : List Id
  pub finder : Id
  pub was_stored : AnswersWith es stored p.file (command.Insert p.file copies p.bytes) (reply.Stored holders)
  pub later : stored < found
  pub was_found : AnswersWith es found p.file (command.Fetch p.file) (reply.Found finder bytes)

-- each of these pieces, with its bytes
abbrev pub AreKept : List Entry → List Piece → List Content → Type 0
AreKept es [] [] = Unit {0}
AreKept es (p ∷ pieces) (bytes ∷ found) = IsKept es p bytes × AreKept es pieces found
AreKept es [] (bytes ∷ found) = ⊥
AreKept es (p ∷ pieces) [] = ⊥

-- an index and fragments are joined without a fault, to these bytes
pub record AreJoined (index : Content) (found : List Content) (bytes : Content) : Type 0 where
  pub faultless : join_fault index (map (λ fragment. Some fragment) found) ≡ None
  pub whole : joined (map (λ fragment. Some fragment) found) ≡ bytes

-- what was found of a file's pieces, all of which were stored, is joined to the file
abbrev pub ComesBackFrom : List Entry → LargeFile → Type 0
ComesBackFrom es f =
    (index : Content) (found : List Content) → IsKept es (index_of f) index → AreKept es (fragments_of f) found → AreJoined index found f.bytes
