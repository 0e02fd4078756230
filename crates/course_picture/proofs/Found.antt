-- The arrows that the code makes are those of the definitions.
use Rattle.std.proofs.Common.{◌≡◌, ℕ, ◌<◌, Bool, true, false, Some, List, [], ◌∷◌, length, get_or, slice_get, take, drop, map, refl, sym, ap, ◌∙◌}
use Rattle.std.specs.Prelude.{if◌then◌else◌}
use Rattle.std.specs.Option.{option_map}
use Rattle.std.proofs.lemmas.List.{get_or_read}
use Rattle.std.proofs.lemmas.Option.{slice_get-map, slice_get_read}
use Rattle.wire_msg.specs.declared.message.Envelope.{Envelope as CodeEnvelope}
use Rattle.wire_msg.specs.Words.{Envelope, plain_envelope}
use Rattle.overlay_rules.specs.declared.entry.Entry.{Entry}
use Rattle.overlay_rules.specs.Record.{sent_in}
use Rattle.course_picture.specs.declared.fate.Fate.{Fate}
use Rattle.course_picture.specs.declared.fate.Fate.TheVariants as fate
use Rattle.course_picture.specs.Arrows.{Arrow, arrow_if_sent, arrow_to, fate_at, is_delivered, lost_arrow, rest_at, rest_if_sent, rest_of}
use Rattle.course_picture.specs.Arrows.{senders_from, sent_at}
use Rattle.course_picture.specs.Board.{Board, is_drawn}

abbrev pub arrow_with : ℕ → Envelope → ℕ → ℕ → Fate → Arrow
arrow_with m v sent reached f = record { number = m; envelope = v; sent = sent; reached = reached; fate = f }

-- the message at a place, as the record has it
pub sent_message : (es : List Entry) (messages : List CodeEnvelope) (m : ℕ) (v : CodeEnvelope) → map plain_envelope messages ≡ sent_in es →
    m < length messages → v ≡ get_or messages m v → slice_get (sent_in es) m ≡ Some (plain_envelope v)
sent_message es messages m v all within is =
    ap (λ vs. slice_get vs m) (sym all) ∙ slice_get-map plain_envelope messages m ∙
    ap (option_map plain_envelope) (slice_get_read messages (length messages) m v refl within is)

-- its sender's place
pub sender_read : (es : List Entry) (senders : List ℕ) (m sent : ℕ) → senders ≡ senders_from 0 es → m < length senders → sent ≡ get_or senders m sent →
    sent ≡ sent_at es m
sender_read es senders m sent all within is = get_or_read senders m sent within is 0 ∙ ap (λ ps. get_or ps m 0) all

pub fate_read : (es : List Entry) (p m : ℕ) (f : Fate) (before : Bool) → f ≡ (if before then fate.Again else fate.First) →
    before ≡ is_delivered (take p es) m → f ≡ fate_at es p m
fate_read es p m f before is marked = is ∙ ap (λ (t : Bool). if t then fate.Again else fate.First) marked

pub arrow_made : (es : List Entry) (m sent p q : ℕ) (v : Envelope) (f : Fate) → sent ≡ sent_at es m → q ≡ p → f ≡ fate_at es p m →
    arrow_with m v sent q f ≡ arrow_to es m v p
arrow_made es m sent p q v f place end fared =
    ap (λ s. arrow_with m v s q f) place ∙ ap (λ r. arrow_with m v (sent_at es m) r f) end ∙ ap (arrow_with m v (sent_at es m) p) fared

pub lost_made : (es : List Entry) (m sent : ℕ) (v : Envelope) → sent ≡ sent_at es m → arrow_with m v sent sent fate.Lost ≡ lost_arrow es m v
lost_made es m sent v place = ap (λ s. arrow_with m v s s fate.Lost) place

-- ---- which arrows there are

pub delivery_found : (es : List Entry) (p m : ℕ) (v : Envelope) (a : Arrow) → slice_get (sent_in es) m ≡ Some v → a ≡ arrow_to es m v p →
    a ∷ [] ≡ arrow_if_sent es p m (slice_get (sent_in es) m)
delivery_found es p m v a sent is = ap (λ b. b ∷ []) is ∙ sym (ap (arrow_if_sent es p m) sent)

rest_found : (b : Board) (es : List Entry) (m : ℕ) (v : Envelope) → slice_get (sent_in es) m ≡ Some v → is_drawn b (sent_at es m) ≡ true →
    rest_of b es m v ≡ rest_at b es m
rest_found b es m v sent drawn =
    sym (ap (λ (t : Bool). if t then rest_if_sent b es m (slice_get (sent_in es) m) else []) drawn ∙ ap (rest_if_sent b es m) sent)

pub none_drawn : (b : Board) (es : List Entry) (m : ℕ) → is_drawn b (sent_at es m) ≡ false → rest_at b es m ≡ []
none_drawn b es m hidden = ap (λ (t : Bool). if t then rest_if_sent b es m (slice_get (sent_in es) m) else []) hidden

pub late_found : (b : Board) (es : List Entry) (m : ℕ) (v : Envelope) (a : Arrow) → slice_get (sent_in es) m ≡ Some v → is_drawn b (sent_at es m) ≡ true →
    is_delivered (drop b.stop es) m ≡ true → a ≡ arrow_to es m v b.stop → a ∷ [] ≡ rest_at b es m
late_found b es m v a sent drawn late is =
    ap (λ c. c ∷ []) is ∙ sym (ap (λ (t : Bool). if t then arrow_to es m v b.stop ∷ []
    else (if is_delivered (take b.stop es) m then [] else lost_arrow es m v ∷ [])) late) ∙ rest_found b es m v sent drawn

-- neither late nor early, nor late but early
pub not_late : (b : Board) (es : List Entry) (m : ℕ) (v : Envelope) (early : Bool) → is_delivered (drop b.stop es) m ≡ false →
    is_delivered (take b.stop es) m ≡ early → rest_of b es m v ≡ (if early then [] else lost_arrow es m v ∷ [])
not_late b es m v early late is =
    ap (λ (t : Bool). if t then arrow_to es m v b.stop ∷ [] else (if is_delivered (take b.stop es) m then [] else lost_arrow es m v ∷ [])) late ∙
    ap (λ (t : Bool). if t then [] else lost_arrow es m v ∷ []) is

pub early_found : (b : Board) (es : List Entry) (m : ℕ) (v : Envelope) → slice_get (sent_in es) m ≡ Some v → is_drawn b (sent_at es m) ≡ true →
    is_delivered (drop b.stop es) m ≡ false → is_delivered (take b.stop es) m ≡ true → rest_at b es m ≡ []
early_found b es m v sent drawn late early = sym (rest_found b es m v sent drawn) ∙ not_late b es m v true late early

pub lost_found : (b : Board) (es : List Entry) (m : ℕ) (v : Envelope) (a : Arrow) → slice_get (sent_in es) m ≡ Some v → is_drawn b (sent_at es m) ≡ true →
    is_delivered (drop b.stop es) m ≡ false → is_delivered (take b.stop es) m ≡ false → a ≡ lost_arrow es m v → a ∷ [] ≡ rest_at b es m
lost_found b es m v a sent drawn late early is =
    ap (λ c. c ∷ []) is ∙ sym (not_late b es m v false late early) ∙ rest_found b es m v sent drawn
