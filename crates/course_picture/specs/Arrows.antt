-- The arrows of a course: which messages they stand for, and from which entry they lead to which.
use Rattle.std.specs.Prelude.{ℕ, ◌+◌, Bool, if◌then◌else◌, List, [], ◌∷◌, ◌++◌, Option, Some, None, length, take, drop, replicate, flat_map}
use Rattle.std.specs.Prelude.{slice_get, slice_index}
use Rattle.std.specs.List.{list_any, range_with_len}
use Rattle.wire_msg.specs.Words.{Envelope, plain_envelope}
use Rattle.overlay_rules.specs.declared.entry.Entry.{Entry}
use Rattle.overlay_rules.specs.declared.entry.Event.{Event}
use Rattle.overlay_rules.specs.declared.entry.Event.TheVariants as event
use Rattle.overlay_rules.specs.Played.{is_delivery_of}
use Rattle.overlay_rules.specs.Record.{sent_in}
use Rattle.course_picture.specs.declared.fate.Fate.{Fate}
use Rattle.course_picture.specs.declared.fate.Fate.TheVariants as fate
use Rattle.course_picture.specs.declared.fate.Arrow.{Arrow as CodeArrow}
use Rattle.course_picture.specs.Board.{Board, is_drawn, places}

-- a message with its number, the place of the entry that sent it, the place where the arrow ends, and how the message fared
pub record Arrow : Type 0 where
  pub number : ℕ
  pub envelope : Envelope
  pub sent : ℕ
  pub reached : ℕ
  pub fate : Fate

abbrev pub arrow_seen : CodeArrow → Arrow
arrow_seen a = record { number = a.number; envelope = plain_envelope a.envelope.now; sent = a.sent; reached = a.reached; fate = a.fate }

-- the place of the entry that sent each message, in the order of the messages
abbrev pub senders_from : ℕ → List Entry → List ℕ
senders_from p [] = []
senders_from p (e ∷ es) = replicate (length e.messages) p ++ senders_from (p + 1) es

abbrev pub sent_at : List Entry → ℕ → ℕ
sent_at es m = slice_index (senders_from 0 es) m

-- whether one of these entries delivers message m
abbrev pub is_delivered : List Entry → ℕ → Bool
is_delivered es m = list_any (λ e. is_delivery_of m e.event) es

-- a delivery at place p is the first one, or one more
abbrev pub fate_at : List Entry → ℕ → ℕ → Fate
fate_at es p m = if is_delivered (take p es) m then fate.Again else fate.First

-- message m, delivered at place p
abbrev pub arrow_to : List Entry → ℕ → Envelope → ℕ → Arrow
arrow_to es m v p = record { number = m; envelope = v; sent = sent_at es m; reached = p; fate = fate_at es p m }

-- message m, which nobody delivers
abbrev pub lost_arrow : List Entry → ℕ → Envelope → Arrow
lost_arrow es m v = record { number = m; envelope = v; sent = sent_at es m; reached = sent_at es m; fate = fate.Lost }

-- the arrow to an entry, where that delivers a message that was sent
abbrev pub arrow_if_sent : List Entry → ℕ → ℕ → Option Envelope → List Arrow
arrow_if_sent es p m None = []
arrow_if_sent es p m (Some v) = arrow_to es m v p ∷ []

abbrev pub arrow_of_event : List Entry → ℕ → Event → List Arrow
arrow_of_event es p (event.Command x n c) = []
arrow_of_event es p (event.Deliver m) = arrow_if_sent es p m (slice_get (sent_in es) m)
arrow_of_event es p (event.Noise x) = []

abbrev pub arrow_at : List Entry → ℕ → Option Entry → List Arrow
arrow_at es p None = []
arrow_at es p (Some e) = arrow_of_event es p e.event

abbrev pub arrow_into : List Entry → ℕ → List Arrow
arrow_into es p = arrow_at es p (slice_get es p)

-- what else is drawn of a message: an arrow to the lower edge where it is delivered behind the window, and one to a cross where it never is
abbrev pub rest_of : Board → List Entry → ℕ → Envelope → List Arrow
rest_of b es m v =
    if is_delivered (drop b.stop es) m then arrow_to es m v b.stop ∷ []
    else (if is_delivered (take b.stop es) m then [] else lost_arrow es m v ∷ [])

abbrev pub rest_if_sent : Board → List Entry → ℕ → Option Envelope → List Arrow
rest_if_sent b es m None = []
rest_if_sent b es m (Some v) = rest_of b es m v

-- that of the messages which entries of the window sent
abbrev pub rest_at : Board → List Entry → ℕ → List Arrow
rest_at b es m = if is_drawn b (sent_at es m) then rest_if_sent b es m (slice_get (sent_in es) m) else []

-- to each entry of the window that delivers a message
abbrev pub deliveries : Board → List Entry → List Arrow
deliveries b es = flat_map (arrow_into es) (places b)

-- and those that end in no entry of the window
abbrev pub rests : Board → List Entry → List Arrow
rests b es = flat_map (rest_at b es) (range_with_len 0 (length (sent_in es)))

abbrev pub arrows : Board → List Entry → List Arrow
arrows b es = deliveries b es ++ rests b es
