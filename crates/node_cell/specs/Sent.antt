-- What a history sent.
use Rattle.std.specs.Prelude.{List}
use Rattle.std.specs.List.{flat_map}
use Rattle.wire_msg.specs.Words.{Envelope}
use Rattle.weave_laws.specs.Cells.{CellEntry}

-- all envelopes, in order
abbrev pub sent_by : List CellEntry → List Envelope
sent_by es = flat_map (λ (e : CellEntry). e.sent) es
