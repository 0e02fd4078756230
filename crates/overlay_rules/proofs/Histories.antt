-- Records entry by entry: which entry comes where, what the world is after it, and where each message comes from.
use Rattle.std.proofs.Common.{◌≡◌, ◌≢◌, ◌⊎◌, inl, inr, ℕ, zero, suc, ◌+◌, ◌-◌, ◌<◌, ◌≤◌, ◌==◌, Some, None, List, [], ◌∷◌, ◌++◌, map, take, length, slice_get}
use Rattle.std.proofs.Common.{Contains, refl, sym, subst, ap, ◌∙◌, append_assoc, append-nil, length-append, arith}
use Rattle.std.proofs.lemmas.Bool.{cond_both, cond-true}
use Rattle.std.proofs.lemmas.Bool.Decides.{Decides-eqb}
use Rattle.ring_math.specs.Names.{Id}
use Rattle.wire_msg.specs.Words.{Envelope, Sent}
use Rattle.overlay_rules.specs.declared.entry.Entry.{Entry}
use Rattle.overlay_rules.specs.State.{State}
use Rattle.overlay_rules.specs.Record.{Setting, World, sent_in, state_at, after, run, unstamped, enveloped, Follows, LegalFrom, Legal, world_at_start}
use Rattle.overlay_rules.specs.Record.{world_after}
use Rattle.overlay_rules.specs.Rightly.{SentBy}
use Rattle.overlay_rules.proofs.Each.{Each}

-- ---- what was sent

pub sent_in-append : (es fs : List Entry) → sent_in (es ++ fs) ≡ sent_in es ++ sent_in fs
sent_in-append [] fs = refl
sent_in-append (e ∷ es) fs = ap (λ ms. e.messages ++ ms) (sent_in-append es fs) ∙ sym (append_assoc e.messages (sent_in es) (sent_in fs))

pub sent_in-push : (es : List Entry) (e : Entry) → sent_in (es ++ e ∷ []) ≡ sent_in es ++ e.messages
sent_in-push es e = sent_in-append es (e ∷ []) ∙ ap (λ ms. sent_in es ++ ms) (append-nil e.messages)

-- entry `place` sent message m, which is this one
pub record IsSentAt (es : List Entry) (m : ℕ) (v : Envelope) : Type 0 where
  pub place : ℕ
  pub entry : Entry
  pub at : slice_get es place ≡ Some entry
  pub sent : SentBy es m place
  pub has : Contains entry.messages v

get_append : {A : Type 0} (xs ys : List A) (n : ℕ) (v : A) → slice_get (xs ++ ys) n ≡ Some v →
    (Contains xs v × (n < length xs)) ⊎ ((length xs ≤ n) × (slice_get ys (n - length xs) ≡ Some v))
get_append [] ys n v e = inr (omega arith, let same : n - 0 ≡ n = omega arith in rw same e)
get_append (x ∷ xs) ys zero v e = let same : x ≡ v = cc in inl ((0, omega arith, same), omega arith)
get_append (x ∷ xs) ys (suc n) v e =
    elim (get_append xs ys n v e) [
      | inl (c, lt) ↦ inl ((suc c.0, (let inside = c.1 in omega arith), c.2), omega arith)
      | inr (le, f) ↦ inr (omega arith, let same : suc n - suc (length xs) ≡ n - length xs = omega arith in rw same f)
    ]

-- each message that was sent has its entry
pub sent_at : (es : List Entry) (m : ℕ) (v : Envelope) → slice_get (sent_in es) m ≡ Some v → IsSentAt es m v
sent_at [] m v e = cc
sent_at (e ∷ es) m v h =
    elim (get_append e.messages (sent_in es) m v h) [
      | inl (c, lt) ↦ record {
        place = 0;
        entry = e;
        at = refl;
        sent = (omega arith, rw (append-nil e.messages) lt);
        has = c;
      }
      | inr (le, f) ↦
          let rest = sent_at es (m - length e.messages) v f in
          let low = rest.sent.0 in
          let high = rest.sent.1 in
          record {
            place = suc rest.place;
            entry = rest.entry;
            at = rest.at;
            sent = (
              let long = length-append e.messages (sent_in (take rest.place es)) in omega arith,
              let long = length-append e.messages (sent_in (take (rest.place + 1) es)) in let next : suc rest.place + 1 ≡ suc (rest.place + 1) =
                  omega arith in rw next (omega arith),
            );
            has = rest.has;
          }
    ]

take_take : {A : Type 0} (j i : ℕ) (xs : List A) → j ≤ i → take j (take i xs) ≡ take j xs
take_take zero i xs le = refl
take_take (suc j) zero xs le = absurd (omega arith)
take_take (suc j) (suc i) [] le = refl
take_take (suc j) (suc i) (x ∷ xs) le = ap (λ ys. x ∷ ys) (take_take j i xs (omega arith))

get_take : {A : Type 0} (i j : ℕ) (xs : List A) (x : A) → slice_get (take i xs) j ≡ Some x → (j < i) × (slice_get xs j ≡ Some x)
get_take zero j xs x e = cc
get_take (suc i) j [] x e = cc
get_take (suc i) zero (y ∷ ys) x e = (omega arith, e)
get_take (suc i) (suc j) (y ∷ ys) x e = let rest = get_take i j ys x e in let lt = rest.0 in (omega arith, rest.1)

-- what was sent before entry i has its entry before that
pub sent_before : (es : List Entry) (i m : ℕ) (v : Envelope) → slice_get (sent_in (take i es)) m ≡ Some v → IsSentAt es m v
sent_before es i m v e =
    let h = sent_at (take i es) m v e in
    let found = get_take i h.place es h.entry h.at in
    let lt = found.0 in
    record {
      place = h.place;
      entry = h.entry;
      at = found.1;
      sent = (
        subst (λ fs. length (sent_in fs) ≤ m) (take_take h.place i es (omega arith)) h.sent.0,
        subst (λ fs. m < length (sent_in fs)) (take_take (h.place + 1) i es (omega arith)) h.sent.1,
      );
      has = h.has;
    }

-- ---- the worlds of a record

pub run-append : (w : World) (es fs : List Entry) → run w (es ++ fs) ≡ run (run w es) fs
run-append w [] fs = refl
run-append w (e ∷ es) fs = run-append (after w e) es fs

pub run-push : (w : World) (es : List Entry) (e : Entry) → run w (es ++ e ∷ []) ≡ after (run w es) e
run-push w es e = run-append w es (e ∷ [])

pub past_of_run : (w : World) (es : List Entry) → (run w es).past ≡ w.past ++ es
past_of_run w [] = sym (append-nil w.past)
past_of_run w (e ∷ es) = past_of_run (after w e) es ∙ append_assoc w.past (e ∷ []) es

-- the entries so far are the first i
pub past_after : (g : Setting) (es : List Entry) (i : ℕ) → (world_after g es i).past ≡ take i es
past_after g es i = past_of_run (world_at_start g) (take i es)

take_next : {A : Type 0} (es : List A) (i : ℕ) (e : A) → slice_get es i ≡ Some e → take (suc i) es ≡ take i es ++ e ∷ []
take_next [] i e h = cc
take_next (x ∷ xs) zero e h = let same : x ≡ e = cc in rw same refl
take_next (x ∷ xs) (suc i) e h = ap (λ ys. x ∷ ys) (take_next xs i e h)

take_end : {A : Type 0} (es : List A) (i : ℕ) → slice_get es i ≡ None → take (suc i) es ≡ take i es
take_end [] zero h = refl
take_end [] (suc i) h = refl
take_end (x ∷ xs) zero h = cc
take_end (x ∷ xs) (suc i) h = ap (λ ys. x ∷ ys) (take_end xs i h)

-- one entry more
pub world_after-next : (g : Setting) (es : List Entry) (i : ℕ) (e : Entry) → slice_get es i ≡ Some e → world_after g es (i + 1) ≡ after (world_after g es i) e
world_after-next g es i e h =
    let next : i + 1 ≡ suc i = omega arith in
    ap (λ n. world_after g es n) next ∙ ap (λ fs. run (world_at_start g) fs) (take_next es i e h) ∙ run-push (world_at_start g) (take i es) e

-- and where there is none
pub world_after-end : (g : Setting) (es : List Entry) (i : ℕ) → slice_get es i ≡ None → world_after g es (i + 1) ≡ world_after g es i
world_after-end g es i h =
    let next : i + 1 ≡ suc i = omega arith in ap (λ n. world_after g es n) next ∙ ap (λ fs. run (world_at_start g) fs) (take_end es i h)

-- ---- which records are legal

pub LegalFrom-append : (g : Setting) (w : World) (es fs : List Entry) → LegalFrom g w es → LegalFrom g (run w es) fs → LegalFrom g w (es ++ fs)
LegalFrom-append g w [] fs h t = t
LegalFrom-append g w (e ∷ es) fs h t = (h.0, LegalFrom-append g (after w e) es fs h.1 t)

pub LegalFrom-push : (g : Setting) (w : World) (es : List Entry) (e : Entry) → LegalFrom g w es → Follows g (run w es) e → LegalFrom g w (es ++ e ∷ [])
LegalFrom-push g w es e h f = LegalFrom-append g w es (e ∷ []) h (f, tt)

pub LegalFrom-take : (g : Setting) (w : World) (es : List Entry) (i : ℕ) → LegalFrom g w es → LegalFrom g w (take i es)
LegalFrom-take g w es zero h = tt
LegalFrom-take g w [] (suc i) h = tt
LegalFrom-take g w (e ∷ es) (suc i) h = (h.0, LegalFrom-take g (after w e) es i h.1)

follows_from : (g : Setting) (w : World) (es : List Entry) (i : ℕ) (e : Entry) → LegalFrom g w es → slice_get es i ≡ Some e → Follows g (run w (take i es)) e
follows_from g w [] i e l h = cc
follows_from g w (x ∷ xs) zero e l h = let same : x ≡ e = cc in subst (Follows g w) same l.0
follows_from g w (x ∷ xs) (suc i) e l h = follows_from g (after w x) xs i e l.1 h

-- entry i may follow in the world after the first i
pub follows_at : (g : Setting) (es : List Entry) (i : ℕ) (e : Entry) → Legal g es → slice_get es i ≡ Some e → Follows g (world_after g es i) e
follows_at g es i e l h = follows_from g (world_at_start g) es i e l h

-- ---- the states of an entry

-- its node has the new state
pub state_at-itself : (states : Id → State) (x : Id) (s : State) → state_at states x s x ≡ s
state_at-itself states x s = cond-true (x == x) s (states x) ((Decides-eqb x x).1 refl)

pub state_at-other : (states : Id → State) (x : Id) (s : State) (y : Id) → y ≢ x → state_at states x s y ≡ states y
state_at-other states x s y ne = cond_both (y == x) s (states y) (λ t. t ≡ states y) (λ e. absurd (ne ((Decides-eqb y x).0 e))) (λ _. refl)

-- this node or another: what holds of the new state at its node, and of each other state as it was, holds of each
pub state_at-each : (P : Id → State → Type 0) (states : Id → State) (x : Id) (s : State) (y : Id) → P x s → P y (states y) → P y (state_at states x s y)
state_at-each P states x s y here there =
    cond_both (y == x) s (states y) (P y) (λ e. subst (λ z. P z s) (sym ((Decides-eqb y x).0 e)) here) (λ _. there)

-- ---- the messages of an entry, whatever their stamps

-- the envelope is of this message, sent by x
pub record IsFrom (x : Id) (s : Sent) (v : Envelope) : Type 0 where
  pub sender : v.sender ≡ x
  pub receiver : v.receiver ≡ s.receiver
  pub message : v.message ≡ s.message

is_from : (x : Id) (s : Sent) (v : Envelope) → unstamped v ≡ enveloped 0 x s → IsFrom x s v
is_from x s v e = record {
  sender = ap (λ (u : Envelope). u.sender) e;
  receiver = ap (λ (u : Envelope). u.receiver) e;
  message = ap (λ (u : Envelope). u.message) e;
}

-- what holds of each message that a step sends holds of each envelope of its entry
pub each_envelope : (P : Envelope → Type 0) (x : Id) (vs : List Envelope) (ss : List Sent) → map unstamped vs ≡ map (enveloped 0 x) ss →
    Each (λ s. (v : Envelope) → IsFrom x s v → P v) ss → Each P vs
each_envelope P x [] ss e h = tt
each_envelope P x (v ∷ vs) [] e h = cc
each_envelope P x (v ∷ vs) (s ∷ ss) e h =
    let first : unstamped v ≡ enveloped 0 x s = cc in
    let rest : map unstamped vs ≡ map (enveloped 0 x) ss = cc in
    (h.0 v (is_from x s v first), each_envelope P x vs ss rest h.1)
