-- All that was sent was taken in, or something was not.
use Rattle.std.proofs.Common.{◌≡◌, ◌≢◌, inl, inr, zero, suc, List, [], ◌∷◌, All, Contains, refl, sym, subst, ap, arith}
use Rattle.std.specs.List.{flat_map}
use Rattle.std.proofs.lemmas.List.Concat.{flat_map-cons}
use Rattle.std.proofs.lemmas.List.Elements.{Contains-append_cases, Contains-append_left, Contains-append_right}
use Rattle.ring_math.specs.Names.{Id}
use Rattle.wire_msg.specs.Words.{Envelope}
use Rattle.overlay_rules.proofs.Each.{Each-all, Each-contains, Each-from_all, Each-itself, Each-weaker}
use Rattle.weave_laws.specs.Cells.{CellEntry, CellInput, Command, Comes, Noise, History}
use Rattle.weave.specs.Taken.{SentMissing, all_came, came_in, envelope_in}
use Rattle.weave.specs.Unread.{AllRead, IsSomeUnread, IsTakenByNone}
use Rattle.weave.specs.Wanted.{HasSame}
use Rattle.weave.proofs.Standing.{contains_get}

-- ---- what is among lists put together

in_some : {A B : Type 0} (f : A → List B) (xs : List A) (x : A) (y : B) → Contains xs x → Contains (f x) y → Contains (flat_map f xs) y
in_some f [] x y (k, lt, e) c = absurd (omega arith)
in_some f (w ∷ xs) x y (zero, lt, e) c =
    subst (λ ys. Contains ys y) (sym (flat_map-cons f w xs)) (Contains-append_left (f w) (flat_map f xs) y (subst (λ z. Contains (f z) y) (sym e) c))
in_some f (w ∷ xs) x y (suc k, lt, e) c =
    subst (λ ys. Contains ys y) (sym (flat_map-cons f w xs)) (Contains-append_right (f w) (flat_map f xs) y (in_some f xs x y (k, omega arith, e) c))

from_some : {A B : Type 0} (f : A → List B) (xs : List A) (y : B) → Contains (flat_map f xs) y → (x : A) × Contains xs x × Contains (f x) y
from_some f [] y c = absurd (omega (arith, c.1))
from_some f (w ∷ xs) y c =
    elim (Contains-append_cases (f w) (flat_map f xs) y (subst (λ ys. Contains ys y) (flat_map-cons f w xs) c)) [
      | inl own ↦ (w, (0, omega arith, refl), own)
      | inr others ↦ let rest = from_some f xs y others in (rest.0, (suc rest.1.0, (let lt = rest.1.1 in omega arith), rest.1.2), rest.2)
    ]

-- ---- what was taken in

abbrev came_to : History → List Envelope
came_to h = came_in h.entries

abbrev came_by : CellEntry → List Envelope
came_by e = envelope_in e.input

is_input : (i : CellInput) (v : Envelope) → Contains (envelope_in i) v → i ≡ Comes v
is_input (Command n c) v h = absurd (omega (arith, h.1))
is_input (Comes w) v (zero, lt, e) = ap Comes e
is_input (Comes w) v (suc k, lt, e) = absurd (omega arith)
is_input Noise v h = absurd (omega (arith, h.1))

module _ (hs : List History) (v : Envelope) where
  came : (h : History) (e : CellEntry) → Contains hs h → Contains h.entries e → e.input ≡ Comes v → Contains (all_came hs) v
  came h e ch ce is =
      in_some came_to hs h v ch (in_some came_by h.entries e v ce (subst (λ (i : CellInput). Contains (envelope_in i) v) (sym is) (0, omega arith, refl)))

  -- what none took in did not come
  taken_by_none : IsTakenByNone hs v → Contains (all_came hs) v → ⊥
  taken_by_none none c =
      let h = from_some came_to hs v c in
      let e = from_some came_by h.0.entries v h.2 in
      Each-contains (λ (d : CellEntry). d.input ≢ Comes v) h.0.entries e.0
      (Each-from_all (λ (d : CellEntry). d.input ≢ Comes v) h.0.entries
      (Each-contains (λ (k : History). All (λ (d : CellEntry). d.input ≢ Comes v) k.entries) hs h.0
      (Each-from_all (λ (k : History). All (λ (d : CellEntry). d.input ≢ Comes v) k.entries) hs none) h.1)) e.1 (is_input e.0.input v e.2)

  -- and what did not come none took in
  none_took : (Contains (all_came hs) v → ⊥) → IsTakenByNone hs v
  none_took never =
      Each-all (λ (h : History). All (λ (e : CellEntry). e.input ≢ Comes v) h.entries) hs
      (Each-weaker (Contains hs) (λ (h : History). All (λ (e : CellEntry). e.input ≢ Comes v) h.entries) hs
      (λ h ch. Each-all (λ (e : CellEntry). e.input ≢ Comes v) h.entries
      (Each-weaker (Contains h.entries) (λ (e : CellEntry). e.input ≢ Comes v) h.entries (λ e ce is. never (came h e ch ce is)) (Each-itself h.entries)))
      (Each-itself hs))

-- ---- whether all was taken in

abbrev pub AreAllTaken : List Envelope → List CellEntry → Type 0
AreAllTaken taken es = All (λ (e : CellEntry). All (Contains taken) e.sent) es

pub read_by_all : (hs : List History) (taken : List Envelope) → HasSame (all_came hs) taken → All (λ (h : History). AreAllTaken taken h.entries) hs →
    (receiver : Id) → AllRead hs receiver
read_by_all hs taken same all receiver = record {
  none = λ x place n v u.
      let h : History = u.stands.history in
      let there = contains_get h.entries place u.entry u.stands.there in
      taken_by_none hs v u.untaken
      (same.back v
      (Each-contains (Contains taken) u.entry.sent v
      (Each-from_all (Contains taken) u.entry.sent
      (Each-contains (λ (e : CellEntry). All (Contains taken) e.sent) h.entries u.entry
      (Each-from_all (λ (e : CellEntry). All (Contains taken) e.sent) h.entries
      (Each-contains (λ (k : History). AreAllTaken taken k.entries) hs h
      (Each-from_all (λ (k : History). AreAllTaken taken k.entries) hs all) u.stands.among)) there)) (contains_get u.entry.sent n v u.sent)));
}

pub some_unread : (hs : List History) (taken : List Envelope) (h : History) → HasSame (all_came hs) taken → Contains hs h → SentMissing taken h.entries →
    IsSomeUnread hs
some_unread hs taken h same among m = record {
  receiver = m.missing.envelope.receiver;
  node = h.node;
  place = m.place;
  n = m.missing.n;
  envelope = m.missing.envelope;
  unread = record {
    entry = m.entry;
    stands = record { history = h; among = among; node = refl; there = m.there };
    sent = m.missing.there;
    addressed = refl;
    untaken = none_took hs m.missing.envelope (λ c. m.missing.untaken (same.there m.missing.envelope c));
  };
}
