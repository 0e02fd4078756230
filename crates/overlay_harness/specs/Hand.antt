-- Cells that are served by hand: each takes messages that no history took yet, until its history has so many entries.
use Rattle.std.specs.Prelude.{◌≡◌, ◌≤◌, ◌<◌, ◌⊎◌, ℕ, ◌+◌, Option, Some, None, List, [], ◌∷◌, length, map, slice_get}
use Rattle.ring_math.specs.Names.{Id}
use Rattle.wire_codec.specs.Spelling.{Spells}
use Rattle.wire_msg.specs.Words.{Envelope, plain_envelope}
use Rattle.weave_laws.specs.Cells.{Comes, History}
use Rattle.node_cell.specs.Cell.{Cell}
use Rattle.weave.specs.Cells.{histories}
use Rattle.weave.specs.Unread.{AllRead, IsFirstUnread}
use Rattle.weave.specs.declared.waiting.Unread.{Unread}
use Rattle.overlay_harness.specs.Stages.{Stage}
use Rattle.overlay_harness.specs.Work.{ServedStage, with_inputs}

-- how many entries each history has after so many more
abbrev pub ends_after : ℕ → List Cell → List ℕ
ends_after more cells = map (λ (c : Cell). length c.history + more) cells

-- envelopes came to the cell, none if its history had so many entries, and at most until it has
pub record TookUpTo (end : ℕ) (old new : Cell) : Type 0 where
  pub envelopes : List Envelope
  pub took : new ≡ with_inputs old (map Comes envelopes)
  pub few : (length new.history ≤ end) ⊎ (envelopes ≡ [])

abbrev pub AllTookUpTo : List ℕ → List Cell → List Cell → Type 0
AllTookUpTo [] [] [] = Unit {0}
AllTookUpTo [] [] (new ∷ news) = ⊥
AllTookUpTo [] (old ∷ olds) news = ⊥
AllTookUpTo (end ∷ ends) [] news = ⊥
AllTookUpTo (end ∷ ends) (old ∷ olds) [] = ⊥
AllTookUpTo (end ∷ ends) (old ∷ olds) (new ∷ news) = TookUpTo end old new × AllTookUpTo ends olds news

-- the history has so many entries, or nothing is unread that was sent to its node
abbrev pub IsDone : List History → ℕ → Cell → Type 0
IsDone hs end c = (end ≤ length c.history) ⊎ AllRead hs c.node

-- so it is of the cell and the end at this place
pub record IsDoneAt (cells : List Cell) (ends : List ℕ) (place : ℕ) : Type 0 where
  pub done : (c : Cell) (end : ℕ) → slice_get cells place ≡ Some c → slice_get ends place ≡ Some end → IsDone (histories cells) end c

-- the cell at this place has not reached its end, and this is the frame of the first unread envelope for its node
pub record IsNext (cells : List Cell) (ends : List ℕ) (place : ℕ) (frame : List ℕ) : Type 0 where
  pub cell : Cell
  pub there : slice_get cells place ≡ Some cell
  pub end : ℕ
  pub its_end : slice_get ends place ≡ Some end
  pub behind : length cell.history < end
  pub sender : Id
  pub entry : ℕ
  pub envelope : Envelope
  pub first : IsFirstUnread (histories cells) cell.node sender entry envelope
  pub spelled : Spells frame envelope

-- a frame of what was found, and none of nothing
abbrev pub IsFrameOf : Option Unread → Option (List ℕ) → Type 0
IsFrameOf None None = Unit {0}
IsFrameOf None (Some frame) = ⊥
IsFrameOf (Some u) None = ⊥
IsFrameOf (Some u) (Some frame) = Spells frame (plain_envelope u.envelope)

-- the cell was served the stage by hand: it took as many frames as the budget, or nothing is left unread for its node
pub record ServedWhole (stage : Stage) (hs : List History) (old new : Cell) : Type 0 where
  pub work : ServedStage stage old new
  pub whole : (stage.budget ≤ length work.frames) ⊎ AllRead hs new.node
