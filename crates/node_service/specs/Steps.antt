-- What was done with one piece of the input, and with its end.
use Rattle.std.specs.Prelude.{◌≡◌, ℕ, List, Option}
use Rattle.outside.specs.declared.traits.Taken.{Taken}
use Rattle.scenario_reader.specs.Lines.{lines_of}
use Rattle.node_process.specs.Talk.{Talk}
use Rattle.node_service.specs.declared.fault.ServiceFault.{ServiceFault}
use Rattle.node_service.specs.declared.fault.ServiceFault.TheVariants.{Read, Write, OutOfMemory}
use Rattle.node_service.specs.declared.session.Session.{Session}
use Rattle.node_service.specs.Conversation.{AreLinesAnswered}
use Rattle.node_service.specs.Serves.{IsAnswerTo}
use Rattle.node_service.specs.Session.{IsFar}
use Rattle.node_service.specs.Written.{IsTaken, IsBrokenOff}

-- the answers to the lines that ended in a piece were taken
pub record IsPieceServed {K : Type 0} (takes : K → List ℕ → Taken → K → Type 0) (taken : K → Option (List ℕ)) (line : List ℕ) (p : Option Talk)
    (bytes : List ℕ) (session : Session) (before after : K) : Type 0 where
  pub rest : List ℕ
  pub text : List ℕ
  pub later : Option Talk
  pub answer : IsAnswerTo line p bytes rest later text
  pub written : IsTaken takes taken before after text
  pub far : IsFar session rest later

-- or they broke off
pub record IsPieceBroken {K : Type 0} (takes : K → List ℕ → Taken → K → Type 0) (taken : K → Option (List ℕ)) (line : List ℕ) (p : Option Talk)
    (bytes : List ℕ) (before after : K) : Type 0 where
  pub rest : List ℕ
  pub text : List ℕ
  pub later : Option Talk
  pub answer : IsAnswerTo line p bytes rest later text
  pub broken : IsBrokenOff takes taken before after text

abbrev pub FailsAtPiece : {K : Type 0} → (K → List ℕ → Taken → K → Type 0) → (K → Option (List ℕ)) → List ℕ → Option Talk → List ℕ → K → K →
    ServiceFault → Type 0
FailsAtPiece takes taken line p bytes before after Read = ⊥
FailsAtPiece takes taken line p bytes before after Write = IsPieceBroken takes taken line p bytes before after
FailsAtPiece takes taken line p bytes before after OutOfMemory = after ≡ before

-- the answer to the last line was taken
pub record IsLastServed {K : Type 0} (takes : K → List ℕ → Taken → K → Type 0) (taken : K → Option (List ℕ)) (line : List ℕ) (p : Option Talk)
    (before after : K) : Type 0 where
  pub text : List ℕ
  pub later : Option Talk
  pub answer : AreLinesAnswered p (lines_of line) text later
  pub written : IsTaken takes taken before after text

-- or it broke off
pub record IsLastBroken {K : Type 0} (takes : K → List ℕ → Taken → K → Type 0) (taken : K → Option (List ℕ)) (line : List ℕ) (p : Option Talk)
    (before after : K) : Type 0 where
  pub text : List ℕ
  pub later : Option Talk
  pub answer : AreLinesAnswered p (lines_of line) text later
  pub broken : IsBrokenOff takes taken before after text

abbrev pub FailsAtLast : {K : Type 0} → (K → List ℕ → Taken → K → Type 0) → (K → Option (List ℕ)) → List ℕ → Option Talk → K → K →
    ServiceFault → Type 0
FailsAtLast takes taken line p before after Read = ⊥
FailsAtLast takes taken line p before after Write = IsLastBroken takes taken line p before after
FailsAtLast takes taken line p before after OutOfMemory = after ≡ before
