-- How often messages were delivered, and how often they may be.
use Rattle.std.specs.Prelude.{◌≡◌, ◌≤◌, ◌<◌, ◌⊎◌, ◌==◌, ℕ, suc, ◌+◌, ◌*◌, Bool, false, Some, List, [], ◌∷◌, ◌++◌}
use Rattle.std.specs.Prelude.{length, option_to_list, set, slice_get, slice_index}
use Rattle.std.specs.List.{count_by, sum_by}
use Rattle.wire_msg.specs.Words.{Envelope}
use Rattle.overlay_rules.specs.declared.entry.Event.{Event}
use Rattle.overlay_rules.specs.declared.entry.Event.TheVariants as event
use Rattle.overlay_rules.specs.declared.entry.Entry.{Entry}

-- the message that an event delivers, of all these
abbrev pub delivered_by : List Envelope → Event → List Envelope
delivered_by sent (event.Command x n c) = []
delivered_by sent (event.Deliver m) = option_to_list (slice_get sent m)
delivered_by sent (event.Noise x) = []

-- the messages that entries deliver, in order
abbrev pub delivered : List Envelope → List Entry → List Envelope
delivered sent [] = []
delivered sent (e ∷ es) = delivered_by sent e.event ++ delivered sent es

-- each message came at most so many times for each time that it was sent: whatever each weighs
abbrev pub CameAtMost : ℕ → List Envelope → List Envelope → Type 0
CameAtMost copies sent came = (weight : Envelope → ℕ) → sum_by weight came ≤ copies * sum_by weight sent

-- the event delivers this message
abbrev pub delivers : ℕ → Event → Bool
delivers m (event.Command x n c) = false
delivers m (event.Deliver n) = n == m
delivers m (event.Noise x) = false

-- how often entries deliver this message
abbrev pub deliveries_of : ℕ → List Entry → ℕ
deliveries_of m es = count_by (λ (e : Entry). delivers m e.event) es

-- a message came more often than this
pub record CameTooOften (copies : ℕ) (es : List Entry) : Type 0 where
  pub message : ℕ
  pub more : copies < deliveries_of message es

-- the message that an event delivers, if it delivers one, is one of so many
abbrev pub IsOfThese : ℕ → Event → Type 0
IsOfThese count (event.Command x n c) = Unit {0}
IsOfThese count (event.Deliver m) = m < count
IsOfThese count (event.Noise x) = Unit {0}

-- ---- counted down

-- what is left of each of these weighs together
abbrev pub remaining : (Envelope → ℕ) → List ℕ → List Envelope → ℕ
remaining weight [] sent = 0
remaining weight (n ∷ left) [] = 0
remaining weight (n ∷ left) (v ∷ sent) = n * weight v + remaining weight left sent

-- one less is left at this place
pub record IsOneLess (old : List ℕ) (place : ℕ) (new : List ℕ) : Type 0 where
  pub n : ℕ
  pub there : slice_get old place ≡ Some (suc n)
  pub less : new ≡ set old place n

-- one less is left of the message that an event delivers
abbrev pub IsCountedDown : List ℕ → Event → List ℕ → Type 0
IsCountedDown old (event.Command x n c) new = new ≡ old
IsCountedDown old (event.Deliver m) new = IsOneLess old m new
IsCountedDown old (event.Noise x) new = new ≡ old

-- what the entries delivered is counted down from what was left of each message
pub record AreCountedDown (old : List ℕ) (sent : List Envelope) (es : List Entry) (new : List ℕ) : Type 0 where
  pub each : length new ≡ length sent
  pub all : (weight : Envelope → ℕ) → sum_by weight (delivered sent es) + remaining weight new sent ≡ remaining weight old sent

-- nothing is left of the message that an event delivers
abbrev pub IsUsedUp : List ℕ → Event → Type 0
IsUsedUp left (event.Command x n c) = ⊥
IsUsedUp left (event.Deliver m) = (length left ≤ m) ⊎ (slice_index left m ≡ 0)
IsUsedUp left (event.Noise x) = ⊥

-- of each message there were so many, and this is left after these entries
pub record AreLeftOf (copies : ℕ) (es : List Entry) (left : List ℕ) : Type 0 where
  pub each : (m : ℕ) → m < length left → slice_index left m + deliveries_of m es ≡ copies
