-- A node is served: lines come from a source, piece by piece, and their answers go to a sink, before the next piece is read.
use Rattle.std.specs.Prelude.{ℕ, List, ◌++◌, Option, Result, Ok, Err}
use Rattle.outside.specs.declared.traits.Piece.{Piece}
use Rattle.outside.specs.declared.traits.Piece.TheVariants.{Failed}
use Rattle.outside.specs.declared.traits.Taken.{Taken}
use Rattle.scenario_reader.specs.Lines.{lines_of}
use Rattle.node_process.specs.Talk.{Talk}
use Rattle.node_service.specs.declared.fault.ServiceFault.{ServiceFault}
use Rattle.node_service.specs.declared.fault.ServiceFault.TheVariants.{Read, Write, OutOfMemory}
use Rattle.node_service.specs.declared.serving.TheConstants.{MOST_PIECE}
use Rattle.node_service.specs.Calls.{Came, IsAtEnd}
use Rattle.node_service.specs.Conversation.{AreLinesAnswered}
use Rattle.node_service.specs.Cut.{IsCut}
use Rattle.node_service.specs.Written.{IsTaken, IsBrokenOff}

-- a piece brought these lines to their end, and this is their answer
pub record IsAnswerTo (line : List ℕ) (p : Option Talk) (bytes : List ℕ) (rest : List ℕ) (later : Option Talk) (text : List ℕ) : Type 0 where
  pub lines : List (List ℕ)
  pub cut : IsCut (line ++ bytes) lines rest
  pub answered : AreLinesAnswered p lines text later

-- from a source and a sink, with what came of a line and how far the node is, to another source and another sink
pub data Serves {S K : Type 0} (gives : S → ℕ → Piece → S → Type 0) (left : S → Option (List ℕ)) (takes : K → List ℕ → Taken → K → Type 0)
    (taken : K → Option (List ℕ)) : List ℕ → Option Talk → S → K → Result Unit ServiceFault → S → K → Type 0 where
  -- bytes came, the answers to the lines that ended with them were taken, and so on
  went_on : (line rest bytes text : List ℕ) (p q : Option Talk) (s t u : S) (k l m : K) (outcome : Result Unit ServiceFault) →
      Came gives left s t bytes → IsAnswerTo line p bytes rest q text → IsTaken takes taken k l text →
      Serves gives left takes taken rest q t l outcome u m → Serves gives left takes taken line p s k outcome u m
  -- the end came; what came of a line is a line, whose answer was taken
  ended : (line text : List ℕ) (p q : Option Talk) (s t : S) (k l : K) →
      IsAtEnd gives left s t → AreLinesAnswered p (lines_of line) text q → IsTaken takes taken k l text →
      Serves gives left takes taken line p s k (Ok tt) t l
  -- a call of the source failed
  unread : (line : List ℕ) (p : Option Talk) (s t : S) (k : K) → gives s MOST_PIECE Failed t →
      Serves gives left takes taken line p s k (Err Read) t k
  -- a call of the sink failed, with answers to a piece or to the last line
  unwritten : (line rest bytes text : List ℕ) (p q : Option Talk) (s t : S) (k l : K) →
      Came gives left s t bytes → IsAnswerTo line p bytes rest q text → IsBrokenOff takes taken k l text →
      Serves gives left takes taken line p s k (Err Write) t l
  unwritten_last : (line text : List ℕ) (p q : Option Talk) (s t : S) (k l : K) →
      IsAtEnd gives left s t → AreLinesAnswered p (lines_of line) text q → IsBrokenOff takes taken k l text →
      Serves gives left takes taken line p s k (Err Write) t l
  -- there was too little memory, before a call or once it was made
  short : (line : List ℕ) (p : Option Talk) (s : S) (k : K) → Serves gives left takes taken line p s k (Err OutOfMemory) s k
  short_of_answers : (line bytes : List ℕ) (p : Option Talk) (s t : S) (k : K) →
      Came gives left s t bytes → Serves gives left takes taken line p s k (Err OutOfMemory) t k
  short_of_last : (line : List ℕ) (p : Option Talk) (s t : S) (k : K) →
      IsAtEnd gives left s t → Serves gives left takes taken line p s k (Err OutOfMemory) t k
