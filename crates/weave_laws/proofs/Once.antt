-- Histories have one woven record.
use Rattle.std.proofs.Common.{◌≡◌, inl, inr, ℕ, List, [], ◌∷◌, ◌++◌, refl, sym, subst, ap, ◌∙◌}
use Rattle.std.proofs.lemmas.Bool.{cases_order}
use Rattle.std.specs.List.{AllZip}
use Rattle.ring_math.specs.Names.{Id}
use Rattle.wire_msg.specs.declared.note.Note.{Note}
use Rattle.wire_msg.specs.Words.{Envelope}
use Rattle.overlay_rules.specs.declared.entry.Event.{Event}
use Rattle.overlay_rules.specs.declared.entry.Event.TheVariants as event
use Rattle.overlay_rules.specs.declared.entry.Entry.{Entry}
use Rattle.overlay_rules.specs.declared.entry.Record.{Record}
use Rattle.overlay_rules.specs.Record.{sent_in}
use Rattle.weave_laws.specs.Cells.{CellInput, History, Command, Comes, Noise}
use Rattle.weave_laws.specs.Woven.{Act, IsNumberOf, IsEventOf, IsEntryOf, IsWoven}
use Rattle.weave_laws.proofs.Sorted.{one_order}

one_number : (sent : List Envelope) (v : Envelope) (m n : ℕ) → IsNumberOf sent v m → IsNumberOf sent v n → m ≡ n
one_number sent v m n h k =
    elim (cases_order m n) [
      | inl same ↦ same
      | inr (inl lt) ↦ absurd (k.lowest m lt h.here)
      | inr (inr gt) ↦ absurd (h.lowest n gt k.here)
    ]

one_event : (sent : List Envelope) (x : Id) (i : CellInput) (e f : Event) → IsEventOf sent x i e → IsEventOf sent x i f → e ≡ f
one_event sent x (Command n c) e f h k = h ∙ sym k
one_event sent x Noise e f h k = h ∙ sym k
one_event sent x (Comes v) e f (m, is, h) (n, at, k) = is ∙ ap event.Deliver (one_number sent v m n h k) ∙ sym at

abbrev entry : Event → List Envelope → List Note → Entry
entry v messages notes = record { event = v; messages = messages; notes = notes }

one_entry : (sent : List Envelope) (a : Act) (e f : Entry) → IsEntryOf sent a e → IsEntryOf sent a f → e ≡ f
one_entry sent a e f h k =
    let events = one_event sent a.node a.entry.input e.event f.event h.event k.event in
    let messages : e.messages ≡ f.messages = h.messages ∙ sym k.messages in
    let notes : e.notes ≡ f.notes = h.notes ∙ sym k.notes in
    λ j. entry (events j) (messages j) (notes j)

one_list : (sent : List Envelope) (acts : List Act) (es fs : List Entry) → AllZip (IsEntryOf sent) acts es → AllZip (IsEntryOf sent) acts fs → es ≡ fs
one_list sent [] [] [] h k = refl
one_list sent [] [] (f ∷ fs) h k = absurd k
one_list sent [] (e ∷ es) fs h k = absurd h
one_list sent (a ∷ acts) [] fs h k = absurd h
one_list sent (a ∷ acts) (e ∷ es) [] h k = absurd k
one_list sent (a ∷ acts) (e ∷ es) (f ∷ fs) h k =
    ap (λ d. d ∷ es) (one_entry sent a e f h.0 k.0) ∙ ap (λ ds. f ∷ ds) (one_list sent acts es fs h.1 k.1)

abbrev sent_of : List Act → List Envelope
sent_of [] = []
sent_of (a ∷ acts) = a.entry.sent ++ sent_of acts

sent_is : (sent : List Envelope) (acts : List Act) (es : List Entry) → AllZip (IsEntryOf sent) acts es → sent_in es ≡ sent_of acts
sent_is sent [] [] z = refl
sent_is sent [] (e ∷ es) z = absurd z
sent_is sent (a ∷ acts) [] z = absurd z
sent_is sent (a ∷ acts) (e ∷ es) z = ap (λ vs. vs ++ sent_in es) z.0.messages ∙ ap (λ vs. a.entry.sent ++ vs) (sent_is sent acts es z.1)

abbrev recorded : List Entry → ℕ → Record
recorded es skipped = record { entries = es; skipped = skipped }

-- whatever is their woven record is this one
pub one_record : (hs : List History) (r other : Record) → IsWoven hs r → IsWoven hs other → r ≡ other
one_record hs r other v w =
    let order = one_order hs v.acts w.acts v.order w.order in
    let sent : sent_in other.entries ≡ sent_in r.entries =
    sent_is (sent_in other.entries) w.acts other.entries w.entries
    ∙ ap sent_of (sym order)
    ∙ sym (sent_is (sent_in r.entries) v.acts r.entries v.entries) in
    let same : AllZip (IsEntryOf (sent_in r.entries)) v.acts other.entries =
    subst (λ acts. AllZip (IsEntryOf (sent_in r.entries)) acts other.entries) (sym order)
    (subst (λ vs. AllZip (IsEntryOf vs) w.acts other.entries) sent w.entries) in
    let entries = one_list (sent_in r.entries) v.acts r.entries other.entries v.entries same in
    let skips : r.skipped ≡ other.skipped = v.skipped ∙ sym w.skipped in
    λ j. recorded (entries j) (skips j)
