-- What the fields of a frame are read as.
use Rattle.std.specs.Prelude.{◌≡◌, ◌≢◌, ℕ, ◌+◌, List, [], ◌∷◌, Result, Ok, Err}
use Rattle.std.specs.Int.{w8}
use Rattle.wire_codec.specs.declared.fault.FrameFault.{FrameFault}
use Rattle.wire_codec.specs.declared.fault.FrameFault.TheVariants as fault
use Rattle.wire_codec.specs.declared.kind.Kind.{Kind}
use Rattle.wire_codec.specs.Fields.{Field}
use Rattle.wire_codec.specs.Layouts.{Form, Layout, ◌▸◌, end, tagged, layout}
use Rattle.wire_codec.specs.Spelling.{Contents}
use Rattle.wire_codec.specs.Reading.{◌>>=◌, Reading, number_within, field_at}

-- the fields from the place on
abbrev pub values_at : List ℕ → Layout → ℕ → Reading (List Field)
values_at bytes end place = Ok []
values_at bytes (form ▸ more) place = do
  field ← field_at bytes form place
  others ← values_at bytes more field.1
  Ok (field.0 ∷ others)
values_at bytes (tagged lowest highest behind) place = do
  tag ← number_within bytes w8 lowest highest place
  others ← values_at bytes (behind tag) (place + 1)
  Ok (Field.Tag tag ∷ others)

-- what the fields of a kind say
abbrev pub contents_at : List ℕ → Kind → ℕ → Reading Contents
contents_at bytes k place = do
  fields ← values_at bytes (layout k) place
  Ok (record { kind = k; fields = fields })

-- what a frame of this kind says: sender, receiver and stamp, and the fields of its kind
abbrev pub envelope_at : List ℕ → Kind → Reading Contents
envelope_at bytes k = do
  sender ← field_at bytes Form.Id 6
  receiver ← field_at bytes Form.Id sender.1
  stamp ← field_at bytes Form.Number receiver.1
  message ← contents_at bytes k stamp.1
  Ok (record { kind = message.kind; fields = sender.0 ∷ receiver.0 ∷ stamp.0 ∷ message.fields })

-- The function gave what the definition reads, or it was refused as the definition is, unless for want of memory.
abbrev pub Gives : {X Y : Type 0} → (X → Y) → Result X FrameFault → Reading Y → Type 0
Gives view (Ok x) read = read ≡ Ok (view x)
Gives view (Err e) read = e ≢ fault.OutOfMemory → read ≡ Err e
