-- Notes are told one after another.
use Rattle.std.proofs.Common.{◌≡◌, ◌<◌, ◌≤◌, ℕ, suc, ◌+◌, ◌-◌, Option, Some, None, List, [], ◌∷◌, ◌++◌, length, get_or, slice_get, take, drop, map, refl, sym}
use Rattle.std.proofs.Common.{ap}
use Rattle.std.proofs.Common.{◌∙◌, add-one, drop-cons, length-append, arith}
use Rattle.std.proofs.Math.Seq.{take-append_seam}
use Rattle.std.proofs.lemmas.List.{drop_all, length-map, take_all}
use Rattle.lru.proofs.Pairs.{slice_get-cut}
use Rattle.ring_math.specs.Names.{Id, FileId}
use Rattle.wire_msg.specs.declared.message.Envelope.{Envelope as CodeEnvelope}
use Rattle.wire_msg.specs.declared.note.Note.{Note}
use Rattle.wire_msg.specs.Words.{plain_envelope}
use Rattle.overlay_rules.specs.declared.entry.Entry.{Entry}
use Rattle.overlay_rules.specs.declared.entry.EntryRef.{EntryRef}
use Rattle.overlay_rules.specs.Record.{Visit, sent_in, visit}
use Rattle.overlay_rules.specs.Seen.{entry_seen, event_seen}
use Rattle.overlay_rules.proofs.Prefixes.{sent_before, sent_more}
use Rattle.delivery_report.specs.Deliveries.{node_of}
use Rattle.fetch_cache.specs.Points.{Point}
use Rattle.fetch_cache.specs.Turns.{told_at, told_by, told_by_all}

pub told_next : (fetches : List (Option FileId)) (x : Id) (i : ℕ) (notes : List Note) (d : Note) (points next : List Point) → i < length notes →
    next ≡ told_by fetches x (get_or notes i d) points →
    told_by_all fetches x (drop (i + 1) notes) next ≡ told_by_all fetches x (drop i notes) points
told_next fetches x i notes d points next h is =
    ap (λ n. told_by_all fetches x (drop n notes) next) (add-one i) ∙ ap (λ (ps : List Point). told_by_all fetches x (drop (suc i) notes) ps) is ∙
    ap (λ (ns : List Note). told_by_all fetches x ns points) (sym (drop-cons notes i d h))

pub told_last : (fetches : List (Option FileId)) (x : Id) (i : ℕ) (notes : List Note) (points : List Point) → length notes ≤ i →
    points ≡ told_by_all fetches x (drop i notes) points
told_last fetches x i notes points h = ap (λ (ns : List Note). told_by_all fetches x ns points) (sym (drop_all i notes h))

-- ---- the last entry of a record, as it is read there

-- at a node, if there is one
abbrev pub told_by_node : List (Option FileId) → Option Id → List Note → List Point → List Point
told_by_node fetches None notes points = points
told_by_node fetches (Some x) notes points = told_by_all fetches x notes points

told_by_visit : (fetches : List (Option FileId)) (o : Option Visit) (notes : List Note) (points : List Point) →
    told_at fetches o notes points ≡ told_by_node fetches (node_of o) notes points
told_by_visit fetches None notes points = refl
told_by_visit fetches (Some at) notes points = refl

some_same : {A : Type 0} {x y : A} → Some x ≡ Some y → x ≡ y
some_same e = cc

-- where it stands
last_place : (es before : List Entry) (e : Entry) (place : ℕ) → es ≡ before ++ e ∷ [] → place + 1 ≡ length es → place ≡ length before
last_place es before e place whole last =
    let long = ap length whole in let push = length-append before (e ∷ []) in omega arith

before_is : (es before : List Entry) (e : Entry) (place : ℕ) → es ≡ before ++ e ∷ [] → place ≡ length before → take place es ≡ before
before_is es before e place whole at = ap (take place) whole ∙ ap (λ n. take n (before ++ e ∷ [])) at ∙ take-append_seam before (e ∷ [])

entry_is : (es before : List Entry) (e x : Entry) (place : ℕ) → es ≡ before ++ e ∷ [] → place ≡ length before → slice_get es place ≡ Some x → x ≡ e
entry_is es before e x place whole at got =
    some_same (sym got ∙ ap (λ ds. slice_get ds place) whole ∙ ap (slice_get (before ++ e ∷ [])) at ∙ slice_get-cut before e [])

-- how many messages were sent before it
pub sent_before_last : (es : List Entry) (place : ℕ) (seen : EntryRef) (sent : List CodeEnvelope) → place + 1 ≡ length es →
    slice_get es place ≡ Some (entry_seen seen) → map plain_envelope sent ≡ sent_in es →
    length sent ≡ length (sent_in (take place es)) + length seen.messages.now
sent_before_last es place seen sent last got all =
    let more = sent_more es place (entry_seen seen) seen.messages.now got refl in
    let whole = ap (λ ds. length (sent_in ds)) (take_all (place + 1) es (omega arith)) in
    let long = sym (length-map sent plain_envelope) ∙ ap length all in
    omega arith

-- the points are told what it says, by its node
pub tells_last : (fetches : List (Option FileId)) (es before : List Entry) (e : Entry) (place n : ℕ) (seen : EntryRef) (sent : List CodeEnvelope)
    (points : List Point) → es ≡ before ++ e ∷ [] → place + 1 ≡ length es → slice_get es place ≡ Some (entry_seen seen) →
    map plain_envelope sent ≡ sent_in es → n ≡ length sent - length seen.messages.now →
    told_at fetches (visit (sent_in before) e.event) e.notes points ≡
    told_by_node fetches (node_of (visit (map plain_envelope (take n sent)) (event_seen seen.event))) seen.notes.now points
tells_last fetches es before e place n seen sent points whole last got all is =
    let at = last_place es before e place whole last in
    let same = sym (entry_is es before e (entry_seen seen) place whole at got) in
    let long = sent_before_last es place seen sent last got all in
    let front = sent_before es place n sent all (omega arith) ∙ ap sent_in (before_is es before e place whole at) in
    ap (λ (d : Entry). told_at fetches (visit (sent_in before) d.event) d.notes points) same ∙
    ap (λ ms. told_at fetches (visit ms (event_seen seen.event)) seen.notes.now points) (sym front) ∙
    told_by_visit fetches (visit (map plain_envelope (take n sent)) (event_seen seen.event)) seen.notes.now points
