-- Which bytes spell an envelope.
use Rattle.std.specs.Prelude.{◌≡◌, ℕ, List, ◌∷◌, ◌++◌, length}
use Rattle.std.specs.List.{flat_map, AllByRecursion}
use Rattle.std.specs.Int.{w32, to_be_bytes}
use Rattle.wire_msg.specs.Words.{Message, Envelope}
use Rattle.wire_codec.specs.declared.kind.Kind.{Kind}
use Rattle.wire_codec.specs.declared.kind.Version.{Version}
use Rattle.wire_codec.specs.declared.kind.Version.TheVariants.{One, Two}
use Rattle.wire_codec.specs.Fields.{Field, spelled, Fits}
use Rattle.wire_codec.specs.Kinds.{number_of, version_of, kind_of, fields_of}

-- what a frame says, or a part of it: the kind, and fields in order
pub record Contents : Type 0 where
  pub kind : Kind
  pub fields : List Field

abbrev pub contents_of_message : Message → Contents
contents_of_message m = record { kind = kind_of m; fields = fields_of m }

abbrev pub contents_of : Envelope → Contents
contents_of e = record {
  kind = kind_of e.message;
  fields = Field.Id e.sender ∷ Field.Id e.receiver ∷ Field.Number e.stamp ∷ fields_of e.message;
}

abbrev pub version_number : Version → ℕ
version_number One = 1
version_number Two = 2

-- the version, the kind, the length of all that follows, and the fields
abbrev pub spelling_of : Contents → List ℕ
spelling_of c =
    let rest = flat_map spelled c.fields in version_number (version_of c.kind) ∷ number_of c.kind ∷ to_be_bytes w32 (length rest) ++ rest

-- the one spelling of an envelope
abbrev pub spelling : Envelope → List ℕ
spelling e = spelling_of (contents_of e)

-- the bytes are a frame of the envelope
pub record Spells (bytes : List ℕ) (e : Envelope) : Type 0 where
  pub bytes_are : bytes ≡ spelling e
  pub fits : AllByRecursion Fits (contents_of e).fields
