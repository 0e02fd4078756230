-- The entries of histories, each with its node and its place.
use Rattle.std.specs.Prelude.{◌≡◌, ◌<◌, ℕ, suc, Some, List, [], ◌∷◌, map, length, All, Contains, slice_get, slice_index_or}
use Rattle.std.specs.List.{flat_map}
use Rattle.ring_math.specs.Names.{Id, Stamp}
use Rattle.wire_msg.specs.Words.{Envelope}
use Rattle.weave_laws.specs.Cells.{CellEntry, History, Noise}
use Rattle.weave_laws.specs.Woven.{Act}
use Rattle.weave.specs.declared.acts.Act.{Act as CodeAct}

-- the entry stands in the history of this node, at this place from 0
pub record StandsAt (hs : List History) (x : Id) (place : ℕ) (e : CellEntry) : Type 0 where
  pub history : History
  pub among : Contains hs history
  pub node : history.node ≡ x
  pub there : slice_get history.entries place ≡ Some e

-- an entry with what is kept beside it
pub record Placed : Type 0 where
  pub stamp : Stamp
  pub place : ℕ
  pub act : Act

-- nothing that came
abbrev pub no_entry : CellEntry
no_entry = record { stamp = 0; input = Noise; sent = []; notes = [] }

-- the history of this number, and the entry at this place; what is past the end is no matter
abbrev pub history_at : List History → ℕ → History
history_at hs n = slice_index_or hs n (record { node = 0; entries = [] })

abbrev pub entry_at : List CellEntry → ℕ → CellEntry
entry_at es n = slice_index_or es n no_entry

-- the entry that stands there
abbrev pub act_at : List History → CodeAct → Act
act_at hs a = record { node = (history_at hs a.history).node; entry = entry_at (history_at hs a.history).entries a.place }

-- it stands in one of the histories
pub record IsWithin (hs : List History) (a : CodeAct) : Type 0 where
  pub history : a.history < length hs
  pub place : a.place < length (history_at hs a.history).entries

abbrev pub placed : List History → CodeAct → Placed
placed hs a = record { stamp = a.stamp; place = a.place; act = act_at hs a }

abbrev pub acts_in : List Placed → List Act
acts_in ps = map (λ (p : Placed). p.act) ps

-- the entries of a node, placed from a number on
abbrev pub placed_from : Id → ℕ → List CellEntry → List Placed
placed_from x n [] = []
placed_from x n (e ∷ es) = record { stamp = e.stamp; place = n; act = record { node = x; entry = e } } ∷ placed_from x (suc n) es

abbrev pub placed_in : History → List Placed
placed_in h = placed_from h.node 0 h.entries

abbrev pub all_placed : List History → List Placed
all_placed hs = flat_map placed_in hs

-- the entries of the history of this number, from a place on, as they are kept
abbrev pub acts_from : ℕ → ℕ → List CellEntry → List CodeAct
acts_from n place [] = []
acts_from n place (e ∷ es) = record { stamp = e.stamp; history = n; place = place } ∷ acts_from n (suc place) es

-- all that these entries sent, in order
abbrev pub sent_by : List Act → List Envelope
sent_by acts = flat_map (λ (a : Act). a.entry.sent) acts

-- each stands in its history at its place, and beside it is its stamp
pub record IsEntryIn (hs : List History) (p : Placed) : Type 0 where
  pub stands : StandsAt hs p.act.node p.place p.act.entry
  pub stamped : p.stamp ≡ p.act.entry.stamp

abbrev pub AreEntriesOf : List History → List Placed → Type 0
AreEntriesOf hs ps = All (IsEntryIn hs) ps
