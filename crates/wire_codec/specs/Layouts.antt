-- The forms of the fields of each kind, in the order of the frame, for each version.
use Rattle.std.specs.Prelude.{ℕ, ◌==◌, if◌then◌else◌}
use Rattle.wire_codec.specs.declared.kind.Kind.{Kind}
use Rattle.wire_codec.specs.declared.kind.Kind.TheVariants as kind
use Rattle.wire_codec.specs.declared.kind.Version.{Version}
use Rattle.wire_codec.specs.declared.kind.Version.TheVariants.{One, Two}

pub data Form : Type 0 where
  Id : Form
  File : Form
  Number : Form
  Attempt : Form
  Hops : Form
  Copies : Form
  Bytes : Form
  Ids : Form
  Files : Form
  Tombs : Form

infixr 5 ◌▸◌
pub data Layout : Type 0 where
  end : Layout
  ◌▸◌ : Form → Layout → Layout
  -- a tag from the lowest to the highest, and what stands behind each
  tagged : (lowest highest : ℕ) → (ℕ → Layout) → Layout

abbrev pub behind_why : ℕ → Layout
behind_why tag = if tag == 1 then Id ▸ end else (if tag == 2 then Id ▸ Id ▸ end else end)

abbrev pub behind_reply : ℕ → Layout
behind_reply tag =
    if tag == 1 then Id ▸ Hops ▸ end
    else (if tag == 2 then Ids ▸ end
    else (if tag == 3 then Id ▸ Bytes ▸ end
    else (if tag == 6 then Id ▸ Hops ▸ end
    else (if tag == 7 then Id ▸ Id ▸ end
    else Id ▸ end))))

abbrev pub why : Layout
why = tagged 1 3 behind_why

-- the reply to a lookup, an insert or a fetch
abbrev pub reply : Version → Layout
reply One = tagged 1 9 behind_reply
reply Two = tagged 10 11 behind_reply

abbrev pub tombs : Version → Layout
tombs One = end
tombs Two = Tombs ▸ end

abbrev pub layout : Kind → Layout
layout kind.Lookup = Id ▸ Number ▸ Id ▸ Hops ▸ end
layout (kind.LookupReply v) = Number ▸ reply v
layout kind.Insert = Id ▸ Number ▸ Hops ▸ File ▸ Copies ▸ Bytes ▸ end
layout (kind.InsertReply v) = Number ▸ reply v
layout kind.Fetch = Id ▸ Number ▸ Hops ▸ File ▸ end
layout (kind.FetchReply v) = Number ▸ reply v
layout kind.JoinRequest = Id ▸ Attempt ▸ Hops ▸ end
layout kind.JoinReply = Attempt ▸ Ids ▸ end
layout kind.JoinRefuse = Attempt ▸ why
layout kind.Probe = Attempt ▸ end
layout kind.ProbeReply = Attempt ▸ Ids ▸ end
layout kind.LeaseRequest = Attempt ▸ Id ▸ Id ▸ end
layout (kind.Grant v) = Attempt ▸ Files ▸ tombs v
layout kind.Deny = Attempt ▸ why
layout kind.Handover = File ▸ Bytes ▸ end
layout kind.Release = Attempt ▸ end
layout kind.Confirm = Attempt ▸ end
layout kind.Announce = end
layout kind.Replicate = Id ▸ Number ▸ File ▸ Bytes ▸ end
layout kind.ReplicaAck = Id ▸ Number ▸ File ▸ end
layout kind.Reclaim = Id ▸ Number ▸ Hops ▸ File ▸ end
layout kind.ReclaimReply = Number ▸ tagged 1 11 behind_reply
