-- Cells that take each envelope once: what keeps it, and what it comes to.
use Rattle.std.proofs.Common.{◌≡◌, ◌≢◌, ◌≤◌, inl, inr, ℕ, zero, suc, ◌+◌, cond, true, false, List, [], ◌∷◌, ◌++◌, All, Contains, refl, sym, subst, ap, ◌∙◌}
use Rattle.std.proofs.Common.{append-nil, append_assoc, arith}
use Rattle.std.specs.Prelude.{AllPairs}
use Rattle.std.specs.List.{AllZip, count_by, flat_map, sum_by}
use Rattle.std.proofs.lemmas.List.Concat.{flat_map-cons}
use Rattle.std.proofs.lemmas.List.Quantifiers.{all_pairs_push}
use Rattle.std.proofs.lemmas.List.Sums.{sum_by-cons, sum_by-append}
use Rattle.wire_msg.specs.Words.{Envelope}
use Rattle.overlay_rules.proofs.Each.{Each, Each-all}
use Rattle.weave_laws.specs.Answered.{IsSentIn}
use Rattle.weave_laws.specs.Cells.{CellEntry, CellInput, Command, Comes, Noise, History}
use Rattle.node_cell.specs.Sent.{sent_by}
use Rattle.overlay_harness.specs.Inputs.{envelope_in, envelopes_in, is_command, is_noise}
use Rattle.overlay_harness.specs.Ran.{all_sent, inputs_in}
use Rattle.overlay_harness.specs.Once.{TookOnce}
use Rattle.overlay_harness.proofs.Numbering.{Among}

-- ---- each once, and each sent: they weigh no more than all that was sent

among : {A : Type 0} (xs : List A) (x : A) → Contains xs x → Among x xs
among [] x (k, lt, e) = absurd (omega arith)
among (y ∷ ys) x (zero, lt, e) = inl e
among (y ∷ ys) x (suc k, lt, e) = inr (among ys x (k, omega arith, e))

-- the list without one of its items
record IsLeft (f : Envelope → ℕ) (v : Envelope) (vs : List Envelope) : Type 0 where
  rest : List Envelope
  weight : sum_by f vs ≡ f v + sum_by f rest
  others : (w : Envelope) → w ≢ v → Among w vs → Among w rest

left : (f : Envelope → ℕ) (v : Envelope) (vs : List Envelope) → Among v vs → IsLeft f v vs
left f v [] h = absurd h
left f v (u ∷ vs) (inl e) = record {
  rest = vs;
  weight = sum_by-cons f u vs ∙ ap (λ w. f w + sum_by f vs) e;
  others = λ w ne h. elim h [
    | inl same ↦ absurd (ne (sym same ∙ e))
    | inr k ↦ k
  ];
}
left f v (u ∷ vs) (inr h) =
    let own = left f v vs h in record {
      rest = u ∷ own.rest;
      weight = (let one = sum_by-cons f u vs in let two = sum_by-cons f u own.rest in let less = own.weight in omega arith);
      others = λ w ne h. elim h [
        | inl same ↦ inl same
        | inr k ↦ inr (own.others w ne k)
      ];
    }

pub weigh_once : (f : Envelope → ℕ) (vs sent : List Envelope) → AllPairs ◌≢◌ vs → Each (λ v. Among v sent) vs → sum_by f vs ≤ sum_by f sent
weigh_once f [] sent p h = omega arith
weigh_once f (v ∷ vs) sent p h =
    let own = left f v sent h.0 in
    let one = sum_by-cons f v vs in
    let less = own.weight in
    let rest = weigh_once f vs own.rest (λ i j d lt l. p (suc i) (suc j) d (omega arith) (omega arith))
    (others vs (λ j d lt. p 0 (suc j) d (omega arith) (omega arith)) h.1) in
    omega arith where
      others : (ws : List Envelope) → All (λ w. v ≢ w) ws → Each (λ w. Among w sent) ws → Each (λ w. Among w (left f v sent h.0).rest) ws
      others [] n k = tt
      others (w ∷ ws) n k = (
        (left f v sent h.0).others w (λ e. n 0 w (omega arith) (sym e)) k.0,
        others ws (λ j d lt. n (suc j) d (omega arith)) k.1,
      )

-- what one of the histories sent is among all that they sent
among_fronts : (v : Envelope) (xs ys : List Envelope) → Among v xs → Among v (xs ++ ys)
among_fronts v [] ys h = absurd h
among_fronts v (x ∷ xs) ys (inl e) = inl e
among_fronts v (x ∷ xs) ys (inr h) = inr (among_fronts v xs ys h)

among_behind : (v : Envelope) (xs ys : List Envelope) → Among v ys → Among v (xs ++ ys)
among_behind v [] ys h = h
among_behind v (x ∷ xs) ys h = inr (among_behind v xs ys h)

among_parts : {A : Type 0} (g : A → List Envelope) (xs : List A) (x : A) (v : Envelope) → Among x xs → Among v (g x) → Among v (flat_map g xs)
among_parts g [] x v h k = absurd h
among_parts g (y ∷ xs) x v (inl e) k =
    subst (Among v) (sym (flat_map-cons g y xs)) (among_fronts v (g y) (flat_map g xs) (subst (λ z. Among v (g z)) (sym e) k))
among_parts g (y ∷ xs) x v (inr h) k =
    subst (Among v) (sym (flat_map-cons g y xs)) (among_behind v (g y) (flat_map g xs) (among_parts g xs x v h k))

pub sent_among : (hs : List History) (v : Envelope) → IsSentIn hs v → Among v (all_sent hs)
sent_among hs v s =
    among_parts (λ (h : History). sent_by h.entries) hs s.history v (among hs s.history s.among)
    (among_parts (λ (e : CellEntry). e.sent) s.history.entries s.entry v (among s.history.entries s.entry s.there) (among s.entry.sent v s.sent))

-- ---- envelopes of inputs

pub envelopes-append : (xs ys : List CellInput) → envelopes_in (xs ++ ys) ≡ envelopes_in xs ++ envelopes_in ys
envelopes-append [] ys = refl
envelopes-append (i ∷ xs) ys =
    ap (λ vs. envelope_in i ++ vs) (envelopes-append xs ys) ∙ sym (append_assoc (envelope_in i) (envelopes_in xs) (envelopes_in ys))

no_envelopes : (inputs : List CellInput) → Each (λ (i : CellInput). is_command i ≡ true) inputs → envelopes_in inputs ≡ []
no_envelopes [] h = refl
no_envelopes (Command n c ∷ inputs) h = no_envelopes inputs h.1
no_envelopes (Comes v ∷ inputs) h = absurd (let no : false ≡ true = h.0 in cc)
no_envelopes (Noise ∷ inputs) h = absurd (let no : false ≡ true = h.0 in cc)

noise-append : (xs ys : List CellInput) → count_by is_noise (xs ++ ys) ≡ count_by is_noise xs + count_by is_noise ys
noise-append xs ys = sum_by-append (λ (i : CellInput). cond (is_noise i) 1 0) xs ys

noise-cons : (i : CellInput) (inputs : List CellInput) → count_by is_noise (i ∷ inputs) ≡ cond (is_noise i) 1 0 + count_by is_noise inputs
noise-cons i inputs = sum_by-cons (λ (j : CellInput). cond (is_noise j) 1 0) i inputs

no_noise : (inputs : List CellInput) → Each (λ (i : CellInput). is_command i ≡ true) inputs → count_by is_noise inputs ≡ 0
no_noise [] h = refl
no_noise (Command n c ∷ inputs) h = let one = noise-cons (Command n c) inputs in let rest = no_noise inputs h.1 in omega arith
no_noise (Comes v ∷ inputs) h = absurd (let no : false ≡ true = h.0 in cc)
no_noise (Noise ∷ inputs) h = absurd (let no : false ≡ true = h.0 in cc)

-- what isn't among inputs is not among their envelopes
pub none_came : (v : Envelope) (inputs : List CellInput) → Each (λ (i : CellInput). i ≢ Comes v) inputs → Each (λ w. w ≢ v) (envelopes_in inputs)
none_came v [] h = tt
none_came v (Command n c ∷ inputs) h = none_came v inputs h.1
none_came v (Comes w ∷ inputs) h = ((λ e. h.0 (ap Comes e)), none_came v inputs h.1)
none_came v (Noise ∷ inputs) h = none_came v inputs h.1

-- ---- histories that grow

-- the one with more entries at its end
pub record Grew (h k : History) : Type 0 where
  pub node : k.node ≡ h.node
  pub more : List CellEntry
  pub entries : k.entries ≡ h.entries ++ more

zip_there : (hs ks : List History) → AllZip Grew hs ks → (h : History) → Contains hs h → (k : History) × Contains ks k × Grew h k
zip_there [] ks z h (n, lt, e) = absurd (omega arith)
zip_there (i ∷ hs) [] z h c = absurd z
zip_there (i ∷ hs) (k ∷ ks) z h (zero, lt, e) = (k, (0, omega arith, refl), subst (λ j. Grew j k) e z.0)
zip_there (i ∷ hs) (k ∷ ks) z h (suc n, lt, e) =
    let rest = zip_there hs ks z.1 h (n, omega arith, e) in (rest.0, (suc rest.1.0, (let l = rest.1.1 in omega arith), rest.1.2), rest.2)

contains_front : (es more : List CellEntry) (e : CellEntry) → Contains es e → Contains (es ++ more) e
contains_front [] more e (k, lt, is) = absurd (omega arith)
contains_front (d ∷ es) more e (zero, lt, is) = (0, omega arith, is)
contains_front (d ∷ es) more e (suc k, lt, is) =
    let rest = contains_front es more e (k, omega arith, is) in (suc rest.0, (let l = rest.1 in omega arith), rest.2)

pub sent_grows : (hs ks : List History) → AllZip Grew hs ks → (v : Envelope) → IsSentIn hs v → IsSentIn ks v
sent_grows hs ks z v s =
    let own = zip_there hs ks z s.history s.among in record {
      history = own.0;
      among = own.1;
      entry = s.entry;
      there = subst (λ es. Contains es s.entry) (sym own.2.entries) (contains_front s.history.entries own.2.more s.entry s.there);
      sent = s.sent;
    }

-- ---- what keeps it

pub told_once : (h k : History) (inputs : List CellInput) → TookOnce h → inputs_in k ≡ inputs_in h ++ inputs →
    Each (λ (i : CellInput). is_command i ≡ true) inputs → TookOnce k
told_once h k inputs t is commands = record {
  once = subst (AllPairs ◌≢◌) (sym same) t.once;
  no_noise = ap (count_by is_noise) is ∙ noise-append (inputs_in h) inputs
      ∙ (let one = t.no_noise in let two = no_noise inputs commands in omega arith);
} where
  same : envelopes_in (inputs_in k) ≡ envelopes_in (inputs_in h)
  same =
      ap envelopes_in is ∙ envelopes-append (inputs_in h) inputs
      ∙ ap (λ vs. envelopes_in (inputs_in h) ++ vs) (no_envelopes inputs commands)
      ∙ append-nil (envelopes_in (inputs_in h))

pub came_once : (h k : History) (v : Envelope) → TookOnce h → inputs_in k ≡ inputs_in h ++ Comes v ∷ [] →
    Each (λ (i : CellInput). i ≢ Comes v) (inputs_in h) → TookOnce k
came_once h k v t is none = record {
  once = subst (AllPairs ◌≢◌) (sym same)
      (all_pairs_push ◌≢◌ (envelopes_in (inputs_in h)) v t.once
      (λ n d lt. (Each-all (λ w. w ≢ v) (envelopes_in (inputs_in h)) (none_came v (inputs_in h) none)) n d lt));
  no_noise = ap (count_by is_noise) is ∙ noise-append (inputs_in h) (Comes v ∷ []) ∙ (let one = t.no_noise in omega arith);
} where
  same : envelopes_in (inputs_in k) ≡ envelopes_in (inputs_in h) ++ v ∷ []
  same = ap envelopes_in is ∙ envelopes-append (inputs_in h) (Comes v ∷ [])
