-- The beginning of a record: its first entries, what they sent, and the entry that comes next.
use Rattle.std.proofs.Common.{◌≡◌, ℕ, ◌+◌, ◌<◌, ◌≤◌, Some, List, [], ◌∷◌, ◌++◌, length, get_or, slice_get, take, drop, map, sym, ◌∙◌, ap}
use Rattle.std.proofs.Common.{length-append, arith}
use Rattle.std.proofs.Math.Seq.{take-append_seam}
use Rattle.std.proofs.lemmas.List.{at_drop_more, take_more, take-append-drop, take-map, length-map}
use Rattle.std.proofs.lemmas.Option.{slice_get_within, get_or_from_slice_get}
use Rattle.wire_msg.specs.declared.message.Envelope.{Envelope as CodeEnvelope}
use Rattle.wire_msg.specs.Words.{plain_envelope}
use Rattle.overlay_rules.specs.declared.entry.Entry.{Entry}
use Rattle.overlay_rules.specs.Record.{sent_in}
use Rattle.overlay_rules.proofs.Histories.{sent_in-append, sent_in-push}

-- the first i + 1 elements, x being the last of them
pub take-next : {A : Type 0} (xs : List A) (i : ℕ) (x : A) → i < length xs → x ≡ get_or xs i x → take (i + 1) xs ≡ take i xs ++ x ∷ []
take-next xs i x within is = take_more xs i x within ∙ ap (λ y. take i xs ++ y ∷ []) (sym is)

-- ---- the entry at a place

pub take-got : {A : Type 0} (xs : List A) (i : ℕ) (x : A) → slice_get xs i ≡ Some x → take (i + 1) xs ≡ take i xs ++ x ∷ []
take-got xs i x at = take-next xs i x (slice_get_within xs i x at) (sym (get_or_from_slice_get xs i x x at))

pub drop-got : {A : Type 0} (xs : List A) (i : ℕ) (x : A) → slice_get xs i ≡ Some x → drop i xs ≡ x ∷ drop (i + 1) xs
drop-got xs i x at = at_drop_more (λ ys. ys) xs i x (slice_get_within xs i x at) ∙ ap (λ y. y ∷ drop (i + 1) xs) (get_or_from_slice_get xs i x x at)

-- what the first i + 1 entries sent
pub sent_in-got : (es : List Entry) (i : ℕ) (e : Entry) → slice_get es i ≡ Some e → sent_in (take (i + 1) es) ≡ sent_in (take i es) ++ e.messages
sent_in-got es i e at = ap sent_in (take-got es i e at) ∙ sent_in-push (take i es) e

-- ---- what was sent before an entry

-- what the first i entries sent stands at the front of what all sent
sent_front : (es : List Entry) (i : ℕ) → sent_in es ≡ sent_in (take i es) ++ sent_in (drop i es)
sent_front es i = sym (ap sent_in (take-append-drop i es)) ∙ sent_in-append (take i es) (drop i es)

pub sent_before : (es : List Entry) (i n : ℕ) (messages : List CodeEnvelope) → map plain_envelope messages ≡ sent_in es →
    n ≡ length (sent_in (take i es)) → map plain_envelope (take n messages) ≡ sent_in (take i es)
sent_before es i n messages all is =
    sym (take-map plain_envelope n messages) ∙ ap (take n) (all ∙ sent_front es i) ∙
    ap (λ k. take k (sent_in (take i es) ++ sent_in (drop i es))) is ∙ take-append_seam (sent_in (take i es)) (sent_in (drop i es))

pub sent_within : (es : List Entry) (i : ℕ) (messages : List CodeEnvelope) → map plain_envelope messages ≡ sent_in es →
    length (sent_in (take i es)) ≤ length messages
sent_within es i messages all =
    let front = ap length (sent_front es i) in
    let long = length-append (sent_in (take i es)) (sent_in (drop i es)) in
    let same = length-map messages plain_envelope in
    let whole = ap length all in omega arith

pub front_size : (es : List Entry) (i n : ℕ) (messages : List CodeEnvelope) → map plain_envelope messages ≡ sent_in es →
    n ≡ length (sent_in (take i es)) → n ≡ length (take n messages)
front_size es i n messages all is =
    is ∙ ap length (sym (sent_before es i n messages all is)) ∙ length-map (take n messages) plain_envelope

pub sent_more : (es : List Entry) (i : ℕ) (e : Entry) (messages : List CodeEnvelope) → slice_get es i ≡ Some e → e.messages ≡ map plain_envelope messages →
    length (sent_in (take (i + 1) es)) ≡ length (sent_in (take i es)) + length messages
sent_more es i e messages at is =
    ap length (sent_in-got es i e at) ∙ length-append (sent_in (take i es)) e.messages ∙
    ap (λ n. length (sent_in (take i es)) + n) (ap length is ∙ length-map messages plain_envelope)
