-- What the arrows of a course are, for the laws: each is of a message of the record, and each message of the window has its own.
use Rattle.std.specs.Prelude.{◌≡◌, ℕ, ◌+◌, ◌≤◌, ◌⊎◌, true, false, List, Some, length, drop, take, slice_get, Contains}
use Rattle.wire_msg.specs.Words.{Envelope}
use Rattle.overlay_rules.specs.declared.entry.Entry.{Entry}
use Rattle.overlay_rules.specs.declared.entry.Event.TheVariants as event
use Rattle.overlay_rules.specs.Record.{sent_in}
use Rattle.course_picture.specs.declared.fate.Fate.{Fate}
use Rattle.course_picture.specs.declared.fate.Fate.TheVariants as fate
use Rattle.course_picture.specs.Arrows.{Arrow, is_delivered, sent_at}
use Rattle.course_picture.specs.Board.{Board, is_drawn}

-- the entry at place p sends message m, which is v: one of its messages, and as many were sent before as its number says
pub record Sends (es : List Entry) (p m : ℕ) (v : Envelope) : Type 0 where
  pub entry : Entry
  pub nth : ℕ
  pub entry_at : slice_get es p ≡ Some entry
  pub message_at : slice_get entry.messages nth ≡ Some v
  pub number : m ≡ length (sent_in (take p es)) + nth

-- the entry at place p delivers message m
pub record Delivers (es : List Entry) (p m : ℕ) : Type 0 where
  pub entry : Entry
  pub entry_at : slice_get es p ≡ Some entry
  pub event_is : entry.event ≡ event.Deliver m

-- an arrow that has a head ends at an entry of the window that delivers the message, or at the lower edge where one behind the window does
pub record Reaches (b : Board) (es : List Entry) (m p : ℕ) : Type 0 where
  pub there : ((is_drawn b p ≡ true) × Delivers es p m) ⊎ ((p ≡ b.stop) × (is_delivered (drop b.stop es) m ≡ true))

abbrev pub IsFateOf : Board → List Entry → ℕ → ℕ → Fate → Type 0
IsFateOf b es m p fate.First = Reaches b es m p × (is_delivered (take p es) m ≡ false)
IsFateOf b es m p fate.Again = Reaches b es m p × (is_delivered (take p es) m ≡ true)
IsFateOf b es m p fate.Lost = is_delivered es m ≡ false

-- the arrow is of a message of the record: from the entry that sent it to one that delivered it, unless none did
pub record IsOfMessage (b : Board) (es : List Entry) (a : Arrow) : Type 0 where
  pub message : slice_get (sent_in es) a.number ≡ Some a.envelope
  pub sender : Sends es a.sent a.number a.envelope
  pub fared : IsFateOf b es a.number a.reached a.fate

-- no entry delivers a message that only a later one sends: a legal record is so, and so is one of which the last entry is wrong
pub record IsInOrder (es : List Entry) : Type 0 where
  pub after : (p m : ℕ) (v : Envelope) → Delivers es p m → slice_get (sent_in es) m ≡ Some v → sent_at es m ≤ p

-- one of the arrows is of message m
pub record HasArrow (all : List Arrow) (m : ℕ) : Type 0 where
  pub arrow : Arrow
  pub among : Contains all arrow
  pub of : arrow.number ≡ m
