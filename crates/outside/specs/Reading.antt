-- The calls by which a source is read up to a limit.
use Rattle.std.specs.Prelude.{◌≡◌, ℕ, ◌+◌, ◌-◌, ◌<◌, min, Result, Ok, Err}
use Rattle.outside.specs.declared.reading.ReadFault.{ReadFault}
use Rattle.outside.specs.declared.reading.ReadFault.TheVariants.{Read, OutOfMemory}
use Rattle.outside.specs.declared.traits.Piece.{Piece}
use Rattle.outside.specs.declared.traits.Piece.TheVariants.{Got, End, Failed}

-- what a reading came to: how many bytes were read, or the fault
abbrev pub outcome_of : {V : Type 0} → (V → ℕ) → Result V ReadFault → Result ℕ ReadFault
outcome_of size (Ok read) = Ok (size read)
outcome_of size (Err fault) = Err fault

-- with so many bytes read of the most that are wanted, a call has room for those that are wanting, but for 65,536 at most
pub record Offers (read most room : ℕ) : Type 0 where
  pub wants : read < most
  pub asks : room ≡ min 65536 (most - read)

-- from one source, with so many bytes read, to another by calls: until the most that are wanted were read, or to the
-- end, or to a fault; the outcome counts all bytes that were read
pub data Reads {S : Type 0} (gives : S → ℕ → Piece → S → Type 0) (most : ℕ) : S → ℕ → Result ℕ ReadFault → S → Type 0 where
  enough : (s : S) (read : ℕ) → read ≡ most → Reads gives most s read (Ok read) s
  ended : (s t : S) (read room : ℕ) → Offers read most room → gives s room End t → Reads gives most s read (Ok read) t
  failed : (s t : S) (read room : ℕ) → Offers read most room → gives s room Failed t → Reads gives most s read (Err Read) t
  refused : (s t : S) (read room n : ℕ) → Offers read most room → gives s room (Got n) t → Reads gives most s read (Err OutOfMemory) t
  went_on : (s t u : S) (read room n : ℕ) (outcome : Result ℕ ReadFault) → Offers read most room → gives s room (Got n) t →
      Reads gives most t (read + n) outcome u → Reads gives most s read outcome u
