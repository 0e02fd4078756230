-- That a node was served: its lines read, and their answers written, until the input ended or something failed.
use Rattle.std.specs.Prelude.{◌≡◌, ℕ, List, [], Option, Some, None, Result, Ok, Err, OnOk, OnErr}
use Rattle.outside.specs.declared.traits.Piece.{Piece}
use Rattle.outside.specs.declared.traits.Taken.{Taken}
use Rattle.node_service.specs.declared.fault.ServiceFault.{ServiceFault}
use Rattle.node_service.specs.declared.fault.ServiceFault.TheVariants as service
use Rattle.node_service.specs.Served.{IsServed, IsServedInPart}
use Rattle.node_service.specs.Serves.{Serves}
use Rattle.pastry.specs.declared.outcome.TopFault.{TopFault}
use Rattle.pastry.specs.declared.outcome.TopFault.TheVariants as fault

-- how a service ends, as a fault of the program
abbrev pub fault_of_service : Result Unit ServiceFault → Option TopFault
fault_of_service (Ok done) = None
fault_of_service (Err service.Read) = Some fault.Read
fault_of_service (Err service.Write) = Some fault.Write
fault_of_service (Err service.OutOfMemory) = Some fault.OutOfMemory

-- A node was served by these calls. With no fault every line was answered; with one, the first of the lines were, and the sink took
-- the first bytes of their answers.
pub record HasServed {S K : Type 0} (gives : S → ℕ → Piece → S → Type 0) (left : S → Option (List ℕ)) (takes : K → List ℕ → Taken → K → Type 0)
    (taken : K → Option (List ℕ)) (source : S) (sink : K) (answered : Option TopFault) (source' : S) (sink' : K) : Type 0 where
  pub outcome : Result Unit ServiceFault
  pub calls : Serves gives left takes taken [] None source sink outcome source' sink'
  pub whole : OnOk outcome (IsServed (left source) (left source') (taken sink) (taken sink'))
  pub part : OnErr outcome (IsServedInPart (left source) (taken sink) (taken sink'))
  pub answer : answered ≡ fault_of_service outcome
