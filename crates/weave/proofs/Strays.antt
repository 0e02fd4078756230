-- The first entry that takes in what was sent in no history, and that there is none where all was sent.
use Rattle.std.proofs.Common.{◌≡◌, ◌≢◌, ℕ, List, [], ◌∷◌, ◌++◌, Contains, All, refl, sym, subst, arith}
use Rattle.std.proofs.lemmas.List.Concat.{flat_map-cons}
use Rattle.ring_math.specs.Names.{Id}
use Rattle.wire_msg.specs.Words.{Envelope, plain_envelope}
use Rattle.overlay_rules.proofs.Each.{Each, Each-append, Each-all, Each-contains, Each-from_all, Each-weaker, Each-itself}
use Rattle.weave_laws.specs.Answered.{AllSent, IsSentIn}
use Rattle.weave_laws.specs.Cells.{CellEntry, History}
use Rattle.weave_laws.specs.Woven.{Act, ComesBefore, IsWovenOrder}
use Rattle.weave_laws.proofs.Parts.{StandsIn, stand_in}
use Rattle.weave.specs.declared.fault.WeaveFault.{WeaveFault}
use Rattle.weave.specs.declared.fault.WeaveFault.TheVariants as fault
use Rattle.weave.specs.Placed.{AreEntriesOf, IsEntryIn, Placed, StandsAt, acts_in, sent_by}
use Rattle.weave.specs.Stops.{IsAnswered, StopsAt}
use Rattle.weave.specs.Stray.{IsDueTo, IsSentByNone, IsStray}
use Rattle.weave.proofs.Placing.{later}
use Rattle.weave.proofs.Standing.{act, at_stop, before_stop, contains_get, entry_in_order}

-- ---- what was sent

abbrev sends : Act → List Envelope
sends a = a.entry.sent

-- what each of the entries sent is among all that was sent
in_sent : (acts : List Act) → Each (λ (a : Act). Each (Contains (sent_by acts)) a.entry.sent) acts
in_sent [] = tt
in_sent (a ∷ acts) = (
  subst (λ vs. Each (Contains vs) a.entry.sent) (sym (flat_map-cons sends a acts)) (fronts a.entry.sent (sent_by acts)),
  Each-weaker (λ (b : Act). Each (Contains (sent_by acts)) b.entry.sent) (λ (b : Act). Each (Contains (sent_by (a ∷ acts))) b.entry.sent) acts
      (λ b h. Each-weaker (Contains (sent_by acts)) (Contains (sent_by (a ∷ acts))) b.entry.sent
      (λ v c. subst (λ vs. Contains vs v) (sym (flat_map-cons sends a acts)) (behind a.entry.sent (sent_by acts) v c)) h) (in_sent acts),
) where
  behind : (xs ys : List Envelope) (v : Envelope) → Contains ys v → Contains (xs ++ ys) v
  behind [] ys v c = c
  behind (x ∷ xs) ys v c = later x (xs ++ ys) v (behind xs ys v c)

  fronts : (xs ys : List Envelope) → Each (Contains (xs ++ ys)) xs
  fronts [] ys = tt
  fronts (x ∷ xs) ys =
      ((0, omega arith, refl), Each-weaker (Contains (xs ++ ys)) (Contains (x ∷ (xs ++ ys))) xs (λ v c. later x (xs ++ ys) v c) (fronts xs ys))

-- what no entry sent is not among it
none_among : (acts : List Act) (v : Envelope) → Each (λ (a : Act). Contains a.entry.sent v → ⊥) acts → Each (λ w. w ≢ v) (sent_by acts)
none_among [] v h = tt
none_among (a ∷ acts) v h =
    subst (Each (λ w. w ≢ v)) (sym (flat_map-cons sends a acts))
    (Each-append (λ w. w ≢ v) a.entry.sent (sent_by acts)
    (Each-weaker (Contains a.entry.sent) (λ w. w ≢ v) a.entry.sent (λ w c is. h.0 (subst (Contains a.entry.sent) is c)) (Each-itself a.entry.sent))
    (none_among acts v h.1))

-- what no history sent is not among what entries sent in the woven order
pub none_sent : (hs : List History) (acts : List Act) → IsWovenOrder hs acts → (v : Envelope) → IsSentByNone hs v → Contains (sent_by acts) v → ⊥
none_sent hs acts o v none c =
    Each-contains (λ w. w ≢ v) (sent_by acts) v
    (none_among acts v
    (Each-weaker (λ (a : Act). StandsIn hs a.node a.entry) (λ (a : Act). Contains a.entry.sent v → ⊥) acts
    (λ a s. Each-contains (λ (e : CellEntry). Contains e.sent v → ⊥) s.history.entries a.entry
    (Each-from_all (λ (e : CellEntry). Contains e.sent v → ⊥) s.history.entries
    (Each-contains (λ (h : History). All (λ (e : CellEntry). Contains e.sent v → ⊥) h.entries) hs s.history
    (Each-from_all (λ (h : History). All (λ (e : CellEntry). Contains e.sent v → ⊥) h.entries) hs none) s.among)) s.stands)
    (stand_in hs acts o))) c refl

-- and what isn't among it no history sent
pub sent_by_none : (hs : List History) (acts : List Act) → IsWovenOrder hs acts → (v : Envelope) → (Contains (sent_by acts) v → ⊥) → IsSentByNone hs v
sent_by_none hs acts o v none =
    Each-all (λ (h : History). All (λ (e : CellEntry). Contains e.sent v → ⊥) h.entries) hs
    (Each-weaker (Contains hs) (λ (h : History). All (λ (e : CellEntry). Contains e.sent v → ⊥) h.entries) hs
    (λ h c. Each-all (λ (e : CellEntry). Contains e.sent v → ⊥) h.entries
    (Each-weaker (Contains h.entries) (λ (e : CellEntry). Contains e.sent v → ⊥) h.entries
    (λ e d sent.
    let own = Each-contains (λ (a : Act). Each (Contains (sent_by acts)) a.entry.sent) acts (act h.node e) (in_sent acts) (entry_in_order hs acts o h c e d) in
    none (Each-contains (Contains (sent_by acts)) e.sent v own sent))
    (Each-itself h.entries))) (Each-itself hs))

-- ---- where weaving stops

pub first_stray : (hs : List History) (ps : List Placed) → IsWovenOrder hs (acts_in ps) → AreEntriesOf hs ps → (f : WeaveFault) →
    StopsAt (sent_by (acts_in ps)) ps f → IsDueTo hs f
first_stray hs ps o es fault.OutOfMemory s = tt
first_stray hs ps o es (fault.Stray x place v) s = record { stray = stray; first = first } where
  stop : Placed
  stop = s.stop

  stray : IsStray hs x place (plain_envelope v)
  stray = record {
    entry = stop.act.entry;
    stands = subst (λ y. StandsAt hs y place stop.act.entry) s.named.0.node
        (subst (λ n. StandsAt hs stop.act.node n stop.act.entry) s.named.0.at
        (at_stop ps s.before stop s.behind s.split (IsEntryIn hs) es).stands);
    takes = s.named.1.takes;
    unsent = sent_by_none hs (acts_in ps) o (plain_envelope v) s.named.1.unsent;
  }

  first : (y : Id) (other : ℕ) (w : Envelope) → (t : IsStray hs y other w) → ComesBefore (act y t.entry) (act x stop.act.entry) → ⊥
  first y other w t c =
      let answered : IsAnswered (sent_by (acts_in ps)) t.entry.input =
      before_stop ps s.before stop s.behind s.split hs o (λ (a : Act). IsAnswered (sent_by (acts_in ps)) a.entry.input) s.earlier y other t.entry t.stands
      (subst (λ z. ComesBefore (act y t.entry) (act z stop.act.entry)) (sym s.named.0.node) c) in
      none_sent hs (acts_in ps) o w t.unsent (subst (IsAnswered (sent_by (acts_in ps))) t.takes answered)

-- where what came to nodes was sent, nothing is stray
pub no_stray : (hs : List History) → AllSent hs → (x : Id) (place : ℕ) (v : Envelope) → IsStray hs x place v → ⊥
no_stray hs all x place v s =
    let history : History = s.stands.history in
    let from : IsSentIn hs v = all.sent history s.entry v s.stands.among (contains_get history.entries place s.entry s.stands.there) s.takes in
    Each-contains (λ (e : CellEntry). Contains e.sent v → ⊥) from.history.entries from.entry
    (Each-from_all (λ (e : CellEntry). Contains e.sent v → ⊥) from.history.entries
    (Each-contains (λ (h : History). All (λ (e : CellEntry). Contains e.sent v → ⊥) h.entries) hs from.history
    (Each-from_all (λ (h : History). All (λ (e : CellEntry). Contains e.sent v → ⊥) h.entries) hs s.unsent) from.among)) from.there from.sent

-- so the weaving of such histories wants for memory at most
pub only_memory : (hs : List History) → AllSent hs → (f : WeaveFault) → IsDueTo hs f → f ≡ fault.OutOfMemory
only_memory hs all fault.OutOfMemory d = refl
only_memory hs all (fault.Stray x place v) d = absurd (no_stray hs all x place (plain_envelope v) d.stray)
