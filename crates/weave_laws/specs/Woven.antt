-- Woven record: all entries of several histories, by stamp and then by node.
use Rattle.std.specs.Prelude.{◌≡◌, ◌≢◌, ◌<◌, ◌⊎◌, ℕ, ◌==◌, if◌then◌else◌, Some, List, [], ◌∷◌, slice_get, All, Contains}
use Rattle.std.specs.List.{AllZip}
use Rattle.ring_math.specs.Names.{Id}
use Rattle.wire_msg.specs.Words.{Envelope}
use Rattle.overlay_rules.specs.declared.entry.Event.{Event}
use Rattle.overlay_rules.specs.declared.entry.Event.TheVariants as event
use Rattle.overlay_rules.specs.declared.entry.Entry.{Entry}
use Rattle.overlay_rules.specs.declared.entry.Record.{Record}
use Rattle.overlay_rules.specs.Record.{sent_in}
use Rattle.weave_laws.specs.Cells.{CellInput, CellEntry, History, Command, Comes, Noise, nodes_of}

-- an entry of the history of a node
pub record Act : Type 0 where
  pub node : Id
  pub entry : CellEntry

-- those of one node
abbrev pub part : Id → List Act → List CellEntry
part x [] = []
part x (a ∷ acts) = if a.node == x then a.entry ∷ part x acts else part x acts

-- by stamp, and then by node
abbrev pub ComesBefore : Act → Act → Type 0
ComesBefore a b = (a.entry.stamp < b.entry.stamp) ⊎ ((a.entry.stamp ≡ b.entry.stamp) × (a.node < b.node))

abbrev pub AreInOrder : List Act → Type 0
AreInOrder [] = Unit {0}
AreInOrder (a ∷ acts) = All (ComesBefore a) acts × AreInOrder acts

-- all entries of the histories and no others, in the woven order
pub record IsWovenOrder (hs : List History) (acts : List Act) : Type 0 where
  pub whole : All (λ h. part h.node acts ≡ h.entries) hs
  pub theirs : All (λ a. Contains (nodes_of hs) a.node) acts
  pub in_order : AreInOrder acts

-- the number of an envelope: the lowest of those that are equal, of all that were sent
pub record IsNumberOf (sent : List Envelope) (v : Envelope) (m : ℕ) : Type 0 where
  pub here : slice_get sent m ≡ Some v
  pub lowest : (k : ℕ) → k < m → slice_get sent k ≢ Some v

-- the event that an input of node x becomes
abbrev pub IsEventOf : List Envelope → Id → CellInput → Event → Type 0
IsEventOf sent x (Command n c) e = e ≡ event.Command x n c
IsEventOf sent x (Comes v) e = (m : ℕ) × (e ≡ event.Deliver m) × IsNumberOf sent v m
IsEventOf sent x Noise e = e ≡ event.Noise x

-- the entry of a record that an entry of a history becomes
pub record IsEntryOf (sent : List Envelope) (a : Act) (e : Entry) : Type 0 where
  pub event : IsEventOf sent a.node a.entry.input e.event
  pub messages : e.messages ≡ a.entry.sent
  pub notes : e.notes ≡ a.entry.notes

-- the woven record of these histories
pub record IsWoven (hs : List History) (r : Record) : Type 0 where
  pub acts : List Act
  pub order : IsWovenOrder hs acts
  pub entries : AllZip (IsEntryOf (sent_in r.entries)) acts r.entries
  pub skipped : r.skipped ≡ 0
