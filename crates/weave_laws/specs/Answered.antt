-- What came to nodes was sent: so no envelope in their histories is stray.
use Rattle.std.specs.Prelude.{◌≡◌, List, Contains}
use Rattle.wire_msg.specs.Words.{Envelope}
use Rattle.weave_laws.specs.Cells.{CellEntry, History, Comes}

-- an entry of one of the histories sent the envelope
pub record IsSentIn (hs : List History) (v : Envelope) : Type 0 where
  pub history : History
  pub among : Contains hs history
  pub entry : CellEntry
  pub there : Contains history.entries entry
  pub sent : Contains entry.sent v

-- each envelope that is an input in one of the histories was sent in one of them
pub record AllSent (hs : List History) : Type 0 where
  pub sent : (h : History) (e : CellEntry) (v : Envelope) → Contains hs h → Contains h.entries e → e.input ≡ Comes v → IsSentIn hs v
