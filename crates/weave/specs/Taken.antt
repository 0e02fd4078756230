-- What histories took in, and what they sent that none took in.
use Rattle.std.specs.Prelude.{◌≡◌, ℕ, Some, List, [], ◌∷◌, Contains, slice_get}
use Rattle.std.specs.List.{flat_map}
use Rattle.wire_msg.specs.Words.{Envelope}
use Rattle.weave_laws.specs.Cells.{CellEntry, CellInput, Command, Comes, Noise, History}

-- the envelope that an input is
abbrev pub envelope_in : CellInput → List Envelope
envelope_in (Command n c) = []
envelope_in (Comes v) = v ∷ []
envelope_in Noise = []

-- the envelopes that entries took in, and that several histories did, in order
abbrev pub came_in : List CellEntry → List Envelope
came_in es = flat_map (λ (e : CellEntry). envelope_in e.input) es

abbrev pub all_came : List History → List Envelope
all_came hs = flat_map (λ (h : History). came_in h.entries) hs

-- one of these is not among those taken
pub record HasMissing (taken vs : List Envelope) : Type 0 where
  pub n : ℕ
  pub envelope : Envelope
  pub there : slice_get vs n ≡ Some envelope
  pub untaken : Contains taken envelope → ⊥

-- one of these entries sent such a one
pub record SentMissing (taken : List Envelope) (es : List CellEntry) : Type 0 where
  pub place : ℕ
  pub entry : CellEntry
  pub there : slice_get es place ≡ Some entry
  pub missing : HasMissing taken entry.sent
