-- Records in which the same happens at each node, in the same order, but for stamps.
use Rattle.std.specs.Prelude.{◌≡◌, List, map, All}
use Rattle.std.specs.List.{AllZip}
use Rattle.ring_math.specs.Names.{Id}
use Rattle.wire_msg.specs.Words.{Envelope}
use Rattle.overlay_rules.specs.declared.entry.Entry.{Entry}
use Rattle.overlay_rules.specs.Record.{sent_in, unstamped, visit}
use Rattle.weave_laws.specs.AtNode.{entries_at}

-- the same comes to a node, and its step sends and notes the same; these were sent in the two records
pub record IsAlike (sent other : List Envelope) (e f : Entry) : Type 0 where
  pub input : visit sent e.event ≡ visit other f.event
  pub messages : map unstamped e.messages ≡ map unstamped f.messages
  pub notes : e.notes ≡ f.notes

abbrev pub AreAlikeAt : List Entry → List Entry → Id → Type 0
AreAlikeAt es fs x = AllZip (IsAlike (sent_in es) (sent_in fs)) (entries_at x es) (entries_at x fs)

-- at each of these nodes
abbrev pub AreAlike : List Id → List Entry → List Entry → Type 0
AreAlike nodes es fs = All (AreAlikeAt es fs) nodes
