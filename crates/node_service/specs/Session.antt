-- How far a session is: what came of the line that has not ended, and its process.
use Rattle.std.specs.Prelude.{◌≡◌, ◌+◌, ℕ, take, List, ◌++◌, Option, Some, None}
use Rattle.scenario_reader.specs.Lines.{lines_of}
use Rattle.node_lines.specs.declared.limits.TheConstants.{MOST_FRAME_LINE}
use Rattle.node_process.specs.Talk.{Talk, Process, IsAsFar}
use Rattle.node_service.specs.declared.session.Session.{Session}
use Rattle.node_service.specs.Conversation.{IsLineAnswered, AreLinesAnswered}
use Rattle.node_service.specs.Cut.{HasNoEnd, IsCut}

-- the process that a session has is as far as the talk; None is where no node is named
abbrev pub IsProcessOf : Option Process → Option Talk → Type 0
IsProcessOf None None = Unit {0}
IsProcessOf (Some process) (Some t) = IsAsFar process t
IsProcessOf None (Some t) = ⊥
IsProcessOf (Some process) None = ⊥

-- of a line so much is kept that it is known to be too long, if it is
pub record IsFar (s : Session) (line : List ℕ) (p : Option Talk) : Type 0 where
  pub kept : s.line.items ≡ take (MOST_FRAME_LINE + 1) line
  pub begun : HasNoEnd line
  pub process : IsProcessOf s.process p

-- with these bytes lines came to their end, and were answered; their answers stand behind what the text had
pub record HasTaken (line : List ℕ) (p : Option Talk) (bytes : List ℕ) (after : Session) (before text : List ℕ) : Type 0 where
  pub lines : List (List ℕ)
  pub rest : List ℕ
  pub answers : List ℕ
  pub later : Option Talk
  pub cut : IsCut (line ++ bytes) lines rest
  pub answered : AreLinesAnswered p lines answers later
  pub far : IsFar after rest later
  pub added : text ≡ before ++ answers

-- a line was answered, behind what the text had
pub record HasAnswered (p : Option Talk) (line : List ℕ) (after : Option Process) (before text : List ℕ) : Type 0 where
  pub answer : List ℕ
  pub later : Option Talk
  pub answered : IsLineAnswered p line answer later
  pub far : IsProcessOf after later
  pub added : text ≡ before ++ answer

-- what came of a line was answered, as the last, if it is one
pub record HasEnded (line : List ℕ) (p : Option Talk) (before text : List ℕ) : Type 0 where
  pub answer : List ℕ
  pub later : Option Talk
  pub answered : AreLinesAnswered p (lines_of line) answer later
  pub added : text ≡ before ++ answer
