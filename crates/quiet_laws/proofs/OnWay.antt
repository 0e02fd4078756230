-- Messages on their way: sent, and not delivered since. A step sends new ones, and the one that comes to it is on its way no more.
use Rattle.std.proofs.Common.{◌≡◌, ◌⊎◌, inl, inr, ◌<◌, ℕ, zero, suc, ◌+◌, Some, List, [], ◌∷◌, ◌++◌, map, slice_get, length}
use Rattle.std.proofs.Common.{refl, sym, subst, ap, ◌∙◌, length-append, arith}
use Rattle.std.proofs.lemmas.Bool.{cases_eq}
use Rattle.std.proofs.lemmas.List.Elements.{Contains-push_cases}
use Rattle.std.proofs.lemmas.Option.{slice_get_within}
use Rattle.ring_math.specs.Names.{Id}
use Rattle.wire_msg.specs.Words.{Envelope, Sent}
use Rattle.overlay_rules.specs.declared.entry.Event.{Event}
use Rattle.overlay_rules.specs.declared.entry.Event.TheVariants as event
use Rattle.overlay_rules.specs.declared.entry.Entry.{Entry}
use Rattle.overlay_rules.specs.Outcome.{Input, Comes}
use Rattle.overlay_rules.specs.Step.{step}
use Rattle.overlay_rules.specs.Record.{Setting, World, sent_in, unstamped, enveloped, world_at_start}
use Rattle.overlay_rules.proofs.Histories.{sent_in-push, IsFrom}
use Rattle.step_facts.proofs.Always.{Arrives, commanded, delivered, noised, Takes, after_step}
use Rattle.quiet_laws.specs.Quiet.{WasDelivered, IsQuiet}
use Rattle.quiet_laws.proofs.Has.{Has}

-- a message of which P holds is on its way
pub record OnWay (P : Envelope → Type 0) (w : World) : Type 0 where
  pub place : ℕ
  pub envelope : Envelope
  pub sent : slice_get (sent_in w.past) place ≡ Some envelope
  pub undelivered : WasDelivered w.past place → ⊥
  pub is : P envelope

-- what was delivered was sent
pub record DeliveriesHold (w : World) : Type 0 where
  pub sent : (m : ℕ) → WasDelivered w.past m → m < length (sent_in w.past)

-- the message that comes to x with this input
pub record Came (P : Envelope → Type 0) (x : Id) (i : Input) : Type 0 where
  pub envelope : Envelope
  pub receiver : envelope.receiver ≡ x
  pub input : i ≡ Comes envelope.sender envelope.message
  pub is : P envelope

pub on_way-weaker : (P Q : Envelope → Type 0) (w : World) → ((v : Envelope) → P v → Q v) → OnWay P w → OnWay Q w
on_way-weaker P Q w f h = record { place = h.place; envelope = h.envelope; sent = h.sent; undelivered = h.undelivered; is = f h.envelope h.is }

-- in a quiet record nothing is on its way
pub none_on_way : (P : Envelope → Type 0) (w : World) → IsQuiet w.past → OnWay P w → ⊥
none_on_way P w q h = h.undelivered (q h.place (slice_get_within (sent_in w.past) h.place h.envelope h.sent))

-- ---- one step

get_left : {A : Type 0} (xs ys : List A) (n : ℕ) (v : A) → slice_get xs n ≡ Some v → slice_get (xs ++ ys) n ≡ Some v
get_left [] ys n v e = cc
get_left (x ∷ xs) ys zero v e = e
get_left (x ∷ xs) ys (suc n) v e = get_left xs ys n v e

get_right : {A : Type 0} (xs ys : List A) (n : ℕ) → slice_get (xs ++ ys) (length xs + n) ≡ slice_get ys n
get_right [] ys n = let same : 0 + n ≡ n = omega arith in ap (slice_get ys) same
get_right (x ∷ xs) ys n =
    let next : suc (length xs) + n ≡ suc (length xs + n) = omega arith in ap (slice_get (x ∷ (xs ++ ys))) next ∙ get_right xs ys n

-- the place of a delivery
delivers : (m n : ℕ) → event.Deliver m ≡ event.Deliver n → m ≡ n
delivers m n e = cc

-- what was on its way is so still, or came to this step
pub still : (P : Envelope → Type 0) (g : Setting) (w : World) (e : Entry) (x : Id) (i : Input) → Takes g w e x i → OnWay P w →
    OnWay P (after_step w e x i) ⊎ Came P x i
still P g w e x i t h = by e.event refl x i t.arrives where
  kept : (e.event ≡ event.Deliver h.place → ⊥) → OnWay P (after_step w e x i)
  kept other = record {
    place = h.place;
    envelope = h.envelope;
    sent = subst (λ vs. slice_get vs h.place ≡ Some h.envelope) (sym (sent_in-push w.past e)) (get_left (sent_in w.past) e.messages h.place h.envelope h.sent);
    undelivered = λ d. elim (Contains-push_cases w.past e d.0 d.1) [
      | inl old ↦ h.undelivered (d.0, old, d.2)
      | inr new ↦ other (ap (λ (f : Entry). f.event) new ∙ d.2)
    ];
    is = h.is;
  }

  by : (f : Event) → e.event ≡ f → (y : Id) (j : Input) → Arrives w f y j → OnWay P (after_step w e x i) ⊎ Came P y j
  by _ at _ _ (commanded y n c fresh) = inl (kept (λ d. let k = sym at ∙ d in cc))
  by _ at _ _ (noised y) = inl (kept (λ d. let k = sym at ∙ d in cc))
  by _ at _ _ (delivered m v f) = elim (cases_eq m h.place) [
    | inl same ↦
        let found : Some v ≡ Some h.envelope = sym f ∙ (ap (slice_get (sent_in w.past)) same ∙ h.sent) in
        let this : v ≡ h.envelope = cc in
        inr (record { envelope = v; receiver = refl; input = refl; is = subst P (sym this) h.is })
    | inr ne ↦ inl (kept (λ d. ne (delivers m h.place (sym at ∙ d))))
  ]

-- what a step sends, at its place in the entry
record Placed (P : Envelope → Type 0) (vs : List Envelope) : Type 0 where
  place : ℕ
  envelope : Envelope
  at : slice_get vs place ≡ Some envelope
  is : P envelope

is_from : (x : Id) (s : Sent) (v : Envelope) → unstamped v ≡ enveloped 0 x s → IsFrom x s v
is_from x s v e = record {
  sender = ap (λ (u : Envelope). u.sender) e;
  receiver = ap (λ (u : Envelope). u.receiver) e;
  message = ap (λ (u : Envelope). u.message) e;
}

placed : (P : Envelope → Type 0) (x : Id) (vs : List Envelope) (ss : List Sent) → map unstamped vs ≡ map (enveloped 0 x) ss →
    Has (λ s. (v : Envelope) → IsFrom x s v → P v) ss → Placed P vs
placed P x vs [] e h = absurd h
placed P x [] (s ∷ ss) e h = cc
placed P x (v ∷ vs) (s ∷ ss) e (inl p) =
    let first : unstamped v ≡ enveloped 0 x s = cc in record { place = 0; envelope = v; at = refl; is = p v (is_from x s v first) }
placed P x (v ∷ vs) (s ∷ ss) e (inr h) =
    let rest : map unstamped vs ≡ map (enveloped 0 x) ss = cc in
    let k = placed P x vs ss rest h in record { place = suc k.place; envelope = k.envelope; at = k.at; is = k.is }

-- what a step sends is on its way
pub fresh : (P : Envelope → Type 0) (g : Setting) (w : World) (e : Entry) (x : Id) (i : Input) → Takes g w e x i → DeliveriesHold w →
    Has (λ s. (v : Envelope) → IsFrom x s v → P v) (step (w.states x) i).sends → OnWay P (after_step w e x i)
fresh P g w e x i t k h =
    let p = placed P x e.messages (step (w.states x) i).sends t.messages h in
    let n : ℕ = length (sent_in w.past) + p.place in record {
      place = n;
      envelope = p.envelope;
      sent = subst (λ vs. slice_get vs n ≡ Some p.envelope) (sym (sent_in-push w.past e)) (get_right (sent_in w.past) e.messages p.place ∙ p.at);
      undelivered = λ d. elim (Contains-push_cases w.past e d.0 d.1) [
        | inl old ↦ let lt = k.sent n (d.0, old, d.2) in absurd (omega arith)
        | inr new ↦ let lt = sent_before n (ap (λ (f : Entry). f.event) new ∙ d.2) in absurd (omega arith)
      ];
      is = p.is;
    } where
      sent_before : (m : ℕ) → e.event ≡ event.Deliver m → m < length (sent_in w.past)
      sent_before m at = by e.event refl x i t.arrives at where
        by : (f : Event) → e.event ≡ f → (y : Id) (j : Input) → Arrives w f y j → f ≡ event.Deliver m → m < length (sent_in w.past)
        by _ is _ _ (commanded y n c fr) d = cc
        by _ is _ _ (noised y) d = cc
        by _ is _ _ (delivered l v f) d = subst (λ z. z < length (sent_in w.past)) (delivers l m d) (slice_get_within (sent_in w.past) l v f)

pub deliveries_keep : (g : Setting) (w : World) (e : Entry) (x : Id) (i : Input) → Takes g w e x i → DeliveriesHold w → DeliveriesHold (after_step w e x i)
deliveries_keep g w e x i t k = record {
  sent = λ m d. let more = longer in elim (Contains-push_cases w.past e d.0 d.1) [
    | inl old ↦ let lt = k.sent m (d.0, old, d.2) in omega arith
    | inr new ↦ let lt = sent_before m (ap (λ (f : Entry). f.event) new ∙ d.2) in omega arith
  ];
} where
  longer : length (sent_in (w.past ++ e ∷ [])) ≡ length (sent_in w.past) + length e.messages
  longer = ap length (sent_in-push w.past e) ∙ length-append (sent_in w.past) e.messages

  sent_before : (m : ℕ) → e.event ≡ event.Deliver m → m < length (sent_in w.past)
  sent_before m at = by e.event refl x i t.arrives at where
    by : (f : Event) → e.event ≡ f → (y : Id) (j : Input) → Arrives w f y j → f ≡ event.Deliver m → m < length (sent_in w.past)
    by _ is _ _ (commanded y n c fr) d = cc
    by _ is _ _ (noised y) d = cc
    by _ is _ _ (delivered l v f) d = subst (λ z. z < length (sent_in w.past)) (delivers l m d) (slice_get_within (sent_in w.past) l v f)

pub deliveries_at_start : (g : Setting) → DeliveriesHold (world_at_start g)
deliveries_at_start g = record { sent = λ m d. let lt = d.1.1 in absurd (omega arith) }
