-- Which entry sent a message: the place that the list of senders has for it.
use Rattle.std.proofs.Common.{◌≡◌, ℕ, zero, suc, ◌+◌, ◌-◌, ◌<◌, ◌≤◌, ◌⊎◌, inl, inr, Some, List, [], ◌∷◌, ◌++◌, length, get_or, slice_get, take, replicate}
use Rattle.std.proofs.Common.{refl, sym, subst, ◌∙◌, arith, length-append}
use Rattle.std.proofs.lemmas.List.{get_or_append_left, get_or-append_right, get_or-replicate, length-replicate}
use Rattle.wire_msg.specs.Words.{Envelope}
use Rattle.overlay_rules.specs.declared.entry.Entry.{Entry}
use Rattle.overlay_rules.specs.Record.{sent_in}
use Rattle.course_picture.specs.Arrows.{senders_from, sent_at}
use Rattle.course_picture.specs.Laws.{Sends}

-- what stands in two lists stands in the first or in the second
pub got_in : {A : Type 0} (xs ys : List A) (m : ℕ) (v : A) → slice_get (xs ++ ys) m ≡ Some v →
    ((m < length xs) × (slice_get xs m ≡ Some v)) ⊎ ((length xs ≤ m) × (slice_get ys (m - length xs) ≡ Some v))
got_in [] ys m v e = let same : m - 0 ≡ m = omega arith in inr (omega arith, rw same e)
got_in (x ∷ xs) ys zero v e = inl (omega arith, e)
got_in (x ∷ xs) ys (suc m) v e =
    elim (got_in xs ys m v e) [
      | inl (l, f) ↦ inl (omega arith, f)
      | inr (l, f) ↦ let same : suc m - suc (length xs) ≡ m - length xs = omega arith in inr (omega arith, rw same f)
    ]

-- the entry that sent message m of es, and that the list says so where the first entry has place p
record SentFrom (p : ℕ) (es : List Entry) (m : ℕ) (v : Envelope) : Type 0 where
  place : ℕ
  listed : get_or (senders_from p es) m 0 ≡ p + place
  sends : Sends es place m v

sent_from : (p : ℕ) (es : List Entry) (m : ℕ) (v : Envelope) → slice_get (sent_in es) m ≡ Some v → SentFrom p es m v
sent_from p [] m v h = cc
sent_from p (e ∷ es) m v h =
    let own = replicate (length e.messages) p in
    let size : length own ≡ length e.messages = length-replicate (length e.messages) p in
    elim (got_in e.messages (sent_in es) m v h) [
      | inl (l, f) ↦
          let within : m < length own = omega arith in
          let here : p ≡ p + 0 = omega arith in
          record {
            place = 0;
            listed = get_or_append_left own (senders_from (p + 1) es) 0 m within ∙ get_or-replicate (length e.messages) m p 0 l ∙ here;
            sends = record { entry = e; nth = m; entry_at = refl; message_at = f; number = omega arith };
          }
      | inr (l, f) ↦
          let rest = sent_from (p + 1) es (m - length e.messages) v f in
          let s = rest.sends in
          let further : p + 1 + rest.place ≡ p + suc rest.place = omega arith in
          let both = length-append e.messages (sent_in (take rest.place es)) in
          let of_rest = s.number in
          record {
            place = suc rest.place;
            listed = get_or-append_right own (senders_from (p + 1) es) (length e.messages) m 0 size l ∙ rest.listed ∙ further;
            sends = record { entry = s.entry; nth = s.nth; entry_at = s.entry_at; message_at = s.message_at; number = omega arith };
          }
    ]

-- a message was sent by the entry at the place that is listed
pub sends_listed : (es : List Entry) (m : ℕ) (v : Envelope) → slice_get (sent_in es) m ≡ Some v → Sends es (sent_at es m) m v
sends_listed es m v h =
    let f = sent_from 0 es m v h in
    let same : f.place ≡ sent_at es m = let none : 0 + f.place ≡ f.place = omega arith in sym (f.listed ∙ none) in
    subst (λ (p : ℕ). Sends es p m v) same f.sends
