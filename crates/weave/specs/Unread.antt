-- Envelopes for a node that no history took.
use Rattle.std.specs.Prelude.{◌≡◌, ◌≢◌, ◌<◌, ℕ, Some, List, All, slice_get}
use Rattle.ring_math.specs.Names.{Id}
use Rattle.wire_msg.specs.Words.{Envelope}
use Rattle.weave_laws.specs.Cells.{CellEntry, History, Comes}
use Rattle.weave_laws.specs.Woven.{ComesBefore}
use Rattle.weave.specs.Placed.{StandsAt}

-- it is no history's input
abbrev pub IsTakenByNone : List History → Envelope → Type 0
IsTakenByNone hs v = All (λ (h : History). All (λ (e : CellEntry). e.input ≢ Comes v) h.entries) hs

-- the entry of node x at this place sent it to the receiver, as its n-th envelope from 0, and no history took it
pub record IsUnread (hs : List History) (receiver x : Id) (place n : ℕ) (v : Envelope) : Type 0 where
  pub entry : CellEntry
  pub stands : StandsAt hs x place entry
  pub sent : slice_get entry.sent n ≡ Some v
  pub addressed : v.receiver ≡ receiver
  pub untaken : IsTakenByNone hs v

-- and no other such one was sent by an entry that comes before, or before it by this entry
pub record IsFirstUnread (hs : List History) (receiver x : Id) (place : ℕ) (v : Envelope) : Type 0 where
  pub n : ℕ
  pub unread : IsUnread hs receiver x place n v
  pub first_entry : (y : Id) (other m : ℕ) (w : Envelope) → (u : IsUnread hs receiver y other m w) →
      ComesBefore (record { node = y; entry = u.entry }) (record { node = x; entry = unread.entry }) → ⊥
  pub first_there : (m : ℕ) (w : Envelope) → m < n → IsUnread hs receiver x place m w → ⊥

-- there is none
pub record AllRead (hs : List History) (receiver : Id) : Type 0 where
  pub none : (x : Id) (place n : ℕ) (v : Envelope) → IsUnread hs receiver x place n v → ⊥

-- there is one, for some node
pub record IsSomeUnread (hs : List History) : Type 0 where
  pub receiver : Id
  pub node : Id
  pub place : ℕ
  pub n : ℕ
  pub envelope : Envelope
  pub unread : IsUnread hs receiver node place n envelope
