-- In a legal record a message is delivered only after it was sent.
use Rattle.std.proofs.Common.{◌≡◌, ℕ, zero, suc, ◌+◌, ◌<◌, ◌≤◌, inl, inr, Option, Some, None, List, [], ◌∷◌, length, slice_get, take}
use Rattle.std.proofs.Common.{refl, sym, ap, subst, ◌∙◌, arith, length-append}
use Rattle.std.proofs.lemmas.Bool.{cases_lt}
use Rattle.std.proofs.lemmas.List.{take-take}
use Rattle.std.proofs.lemmas.Option.{slice_get_within}
use Rattle.wire_msg.specs.Words.{Envelope}
use Rattle.overlay_rules.specs.declared.entry.Entry.{Entry}
use Rattle.overlay_rules.specs.declared.entry.Event.TheVariants as event
use Rattle.overlay_rules.specs.Record.{Follows, Legal, Setting, Visit, sent_in, visit, visit_of, world_after}
use Rattle.overlay_rules.proofs.Histories.{follows_at, past_after}
use Rattle.course_picture.specs.Arrows.{sent_at}
use Rattle.course_picture.specs.Laws.{Delivers, IsInOrder, Sends}
use Rattle.course_picture.proofs.Sending.{sends_listed}

-- more entries sent no fewer messages
sent-grows : (es : List Entry) (p q : ℕ) → p ≤ q → length (sent_in (take p es)) ≤ length (sent_in (take q es))
sent-grows es zero q l = omega arith
sent-grows [] (suc p) q l = omega arith
sent-grows (e ∷ es) (suc p) zero l = absurd (omega arith)
sent-grows (e ∷ es) (suc p) (suc q) l =
    let more = sent-grows es p q (omega arith) in
    let one = length-append e.messages (sent_in (take p es)) in
    let other = length-append e.messages (sent_in (take q es)) in omega arith

-- who comes to its receiver was sent
visited : (o : Option Envelope) (at : Visit) → visit_of o ≡ Some at → (v : Envelope) × (o ≡ Some v)
visited None at e = cc
visited (Some v) at e = (v, refl)

-- an early entry of a legal record delivers what was sent before it
legal-early : (g : Setting) (es : List Entry) (p m : ℕ) (e : Entry) → Legal g es → slice_get es p ≡ Some e → e.event ≡ event.Deliver m →
    m < length (sent_in (take p es))
legal-early g es p m e legal at is =
    let follows : Follows g (world_after g es p) e = follows_at g es p e legal at in
    let comes : visit (sent_in (take p es)) (event.Deliver m) ≡ Some follows.at =
    ap (visit (sent_in (take p es))) (sym is) ∙ ap (λ (past : List Entry). visit (sent_in past) e.event) (sym (past_after g es p)) ∙ follows.is_at in
    let sent = visited (slice_get (sent_in (take p es)) m) follows.at comes in
    slice_get_within (sent_in (take p es)) m sent.0 sent.1

taken-got : {A : Type 0} (n : ℕ) (xs : List A) (p : ℕ) (x : A) → p < n → slice_get xs p ≡ Some x → slice_get (take n xs) p ≡ Some x
taken-got zero xs p x l e = absurd (omega arith)
taken-got (suc n) [] p x l e = cc
taken-got (suc n) (y ∷ xs) zero x l e = e
taken-got (suc n) (y ∷ xs) (suc p) x l e = taken-got n xs p x (omega arith) e

in-order-at : (g : Setting) (es : List Entry) (n p m : ℕ) (v : Envelope) → Legal g (take n es) → length es ≤ n + 1 → Delivers es p m →
    slice_get (sent_in es) m ≡ Some v → sent_at es m ≤ p
in-order-at g es n p m v legal size d sent =
    let s : Sends es (sent_at es m) m v = sends_listed es m v sent in
    let there = slice_get_within es p d.entry d.entry_at in
    let here = slice_get_within es (sent_at es m) s.entry s.entry_at in
    elim (cases_lt p (sent_at es m)) [
      | inl late ↦
          let early : p < n = omega arith in
          let before = legal-early g (take n es) p m d.entry legal (taken-got n es p d.entry early d.entry_at) d.event_is in
          let same : m < length (sent_in (take p es)) = subst (λ (ys : List Entry). m < length (sent_in ys)) (take-take p n es (omega arith)) before in
          let grows = sent-grows es p (sent_at es m) (omega arith) in
          let number = s.number in absurd (omega arith)
      | inr so ↦ so
    ]

pub in-order : (g : Setting) (es : List Entry) (n : ℕ) → Legal g (take n es) → length es ≤ n + 1 → IsInOrder es
in-order g es n legal size = record { after = λ p m v d sent. in-order-at g es n p m v legal size d sent }
