-- What entries in the woven order sent is in the order of stamps and senders.
use Rattle.std.proofs.Common.{◌≡◌, ◌<◌, ◌≤◌, ◌⊎◌, inl, inr, ℕ, zero, suc, Some, false}
use Rattle.std.proofs.Common.{List, [], ◌∷◌, ◌++◌, map, slice_get, Contains, refl, sym, subst, arith}
use Rattle.std.proofs.lemmas.Bool.Decides.{nat_tests}
use Rattle.std.proofs.lemmas.List.Concat.{flat_map-cons}
use Rattle.ring_math.specs.Names.{Id, Stamp}
use Rattle.wire_msg.specs.Words.{Envelope, Sent}
use Rattle.overlay_rules.specs.State.{State}
use Rattle.overlay_rules.specs.Step.{step}
use Rattle.overlay_rules.specs.Record.{enveloped}
use Rattle.overlay_rules.proofs.Each.{Each, Each-append, Each-weaker, Each-contains, Each-slice_get, Each-from_all}
use Rattle.weave_laws.specs.Cells.{CellEntry, History, input_of, stepped, AreSteps}
use Rattle.weave_laws.specs.Woven.{Act, ComesBefore, AreInOrder, IsWovenOrder}
use Rattle.weave_laws.proofs.Parts.{StandsIn, stand_in}
use Rattle.weave.specs.ByStamp.{AreByStamp, is_earlier}
use Rattle.weave.specs.Cells.{AreKept, IsKept}
use Rattle.weave.specs.Placed.{sent_by}

-- ---- an entry's envelopes have its stamp and its node

pub record IsFrom (x : Id) (stamp : Stamp) (v : Envelope) : Type 0 where
  pub stamped : v.stamp ≡ stamp
  pub sent : v.sender ≡ x

each_from : (stamp : Stamp) (x : Id) (ss : List Sent) → Each (IsFrom x stamp) (map (enveloped stamp x) ss)
each_from stamp x [] = tt
each_from stamp x (s ∷ ss) = (record { stamped = refl; sent = refl }, each_from stamp x ss)

pub sends_own : (x : Id) (s : State) (es : List CellEntry) → AreSteps x s es → Each (λ (e : CellEntry). Each (IsFrom x e.stamp) e.sent) es
sends_own x s [] h = tt
sends_own x s (e ∷ es) h = (
  subst (Each (IsFrom x e.stamp)) (sym h.0.sent) (each_from e.stamp x (step s (input_of e.input)).sends),
  sends_own x (stepped s e) es h.1,
)

-- ---- in order

abbrev AreRising : List Envelope → Type 0
AreRising [] = Unit {0}
AreRising (v ∷ vs) = Each (λ w. is_earlier w v ≡ false) vs × AreRising vs

rising-append : (vs ws : List Envelope) → AreRising vs → AreRising ws → Each (λ v. Each (λ w. is_earlier w v ≡ false) ws) vs → AreRising (vs ++ ws)
rising-append [] ws r s c = s
rising-append (v ∷ vs) ws r s c = (Each-append (λ w. is_earlier w v ≡ false) vs ws r.0 c.0, rising-append vs ws r.1 s c.1)

rising-by_stamp : (vs : List Envelope) → AreRising vs → AreByStamp vs
rising-by_stamp vs r = record { none_behind = at vs r } where
  at : (vs : List Envelope) → AreRising vs → (i j : ℕ) (u v : Envelope) → i < j → slice_get vs i ≡ Some u → slice_get vs j ≡ Some v → is_earlier v u ≡ false
  at [] r i j u v lt a b = cc
  at (w ∷ vs) r i zero u v lt a b = absurd (omega arith)
  at (w ∷ vs) r zero (suc j) u v lt a b =
      let same : w ≡ u = cc in subst (λ x. is_earlier v x ≡ false) same (Each-slice_get (λ x. is_earlier x w ≡ false) vs j v r.0 b)
  at (w ∷ vs) r (suc i) (suc j) u v lt a b = at vs r.1 i j u v (omega arith) a b

-- an envelope of this entry or of a later one
record IsBehind (a : Act) (w : Envelope) : Type 0 where
  pub is : (a.entry.stamp < w.stamp) ⊎ ((a.entry.stamp ≡ w.stamp) × (a.node ≤ w.sender))

not_earlier : (a : Act) (v w : Envelope) → IsFrom a.node a.entry.stamp v → IsBehind a w → is_earlier w v ≡ false
not_earlier a v w f b = let s = f.stamped in let x = f.sent in let h = b.is in grind (arith, nat_tests)

own_rise : (a : Act) (vs : List Envelope) → Each (IsFrom a.node a.entry.stamp) vs → AreRising vs
own_rise a [] h = tt
own_rise a (v ∷ vs) h = (
  Each-weaker (IsFrom a.node a.entry.stamp) (λ w. is_earlier w v ≡ false) vs (λ w f. not_earlier a v w h.0 (own w f)) h.1,
  own_rise a vs h.1,
) where
  own : (w : Envelope) → IsFrom a.node a.entry.stamp w → IsBehind a w
  own w f = let s = f.stamped in let x = f.sent in record { is = inr (sym f.stamped, omega arith) }

abbrev pub SendsOwn : Act → Type 0
SendsOwn a = Each (IsFrom a.node a.entry.stamp) a.entry.sent

behind : (a : Act) (acts : List Act) → Each (ComesBefore a) acts → Each SendsOwn acts → Each (IsBehind a) (sent_by acts)
behind a [] c s = tt
behind a (b ∷ acts) c s =
    subst (Each (IsBehind a)) (sym (flat_map-cons (λ (d : Act). d.entry.sent) b acts))
    (Each-append (IsBehind a) b.entry.sent (sent_by acts)
    (Each-weaker (IsFrom b.node b.entry.stamp) (IsBehind a) b.entry.sent (λ w f. by_order w f c.0) s.0)
    (behind a acts c.1 s.1)) where
      by_order : (w : Envelope) → IsFrom b.node b.entry.stamp w → ComesBefore a b → IsBehind a w
      by_order w f (inl lt) = let s = f.stamped in record { is = inl (omega arith) }
      by_order w f (inr (same, lt)) = let s = f.stamped in let x = f.sent in record { is = inr (omega arith, omega arith) }

sent_rise : (acts : List Act) → AreInOrder acts → Each SendsOwn acts → AreRising (sent_by acts)
sent_rise [] o s = tt
sent_rise (a ∷ acts) o s =
    subst AreRising (sym (flat_map-cons (λ (d : Act). d.entry.sent) a acts))
    (rising-append a.entry.sent (sent_by acts) (own_rise a a.entry.sent s.0) (sent_rise acts o.1 s.1)
    (Each-weaker (IsFrom a.node a.entry.stamp) (λ v. Each (λ w. is_earlier w v ≡ false) (sent_by acts)) a.entry.sent
    (λ v f. Each-weaker (IsBehind a) (λ w. is_earlier w v ≡ false) (sent_by acts) (λ w b. not_earlier a v w f b)
    (behind a acts (Each-from_all (ComesBefore a) acts o.0) s.1)) s.0))

pub sent-by_stamp : (acts : List Act) → AreInOrder acts → Each SendsOwn acts → AreByStamp (sent_by acts)
sent-by_stamp acts o s = rising-by_stamp (sent_by acts) (sent_rise acts o s)

-- ---- of the histories that cells keep

own_history : (hs : List History) → AreKept hs → (h : History) → Contains hs h → Each (λ (e : CellEntry). Each (IsFrom h.node e.stamp) e.sent) h.entries
own_history hs l h c = sends_own h.node _ h.entries (Each-contains IsKept hs h (Each-from_all IsKept hs l) c).history.steps

pub all_send_own : (hs : List History) (acts : List Act) → AreKept hs → IsWovenOrder hs acts → Each SendsOwn acts
all_send_own hs acts l o =
    Each-weaker (λ (a : Act). StandsIn hs a.node a.entry) SendsOwn acts
    (λ a s.
    let own = Each-contains (λ (e : CellEntry). Each (IsFrom s.history.node e.stamp) e.sent) s.history.entries a.entry
    (own_history hs l s.history s.among) s.stands in
    subst (λ x. Each (IsFrom x a.entry.stamp) a.entry.sent) s.node own)
    (stand_in hs acts o)
