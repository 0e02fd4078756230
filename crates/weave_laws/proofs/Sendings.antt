-- Stamps rise along each history and across each message, so the woven order puts every sending before its delivery.
use Rattle.std.proofs.Common.{◌≡◌, ◌<◌, ◌≤◌, ◌⊎◌, inl, inr, ℕ, zero, suc, Bool, Some, List, [], ◌∷◌, ◌++◌, map, slice_get, refl, sym, subst}
use Rattle.std.proofs.Common.{append_assoc, arith}
use Rattle.std.specs.List.{AllZip}
use Rattle.ring_math.specs.Names.{Id, Stamp}
use Rattle.wire_msg.specs.Words.{Envelope, Sent}
use Rattle.overlay_rules.specs.declared.entry.Entry.{Entry}
use Rattle.overlay_rules.specs.State.{State}
use Rattle.overlay_rules.specs.Step.{step}
use Rattle.overlay_rules.specs.Record.{sent_in, enveloped}
use Rattle.overlay_rules.proofs.Each.{Each, Each-append, Each-weaker, Each-slice_get, Each-from_all, Each-both}
use Rattle.overlay_rules.proofs.Histories.{sent_in-append}
use Rattle.weave_laws.specs.Cells.{CellInput, CellEntry, Command, Comes, Noise, input_stamp, input_of, stepped, AreSteps, AreStampedAfter, IsCellHistory}
use Rattle.weave_laws.specs.Woven.{Act, ComesBefore, AreInOrder, IsEventOf, IsEntryOf}
use Rattle.weave_laws.proofs.Interleaved.{IsTaken, AreMade}

-- ---- along a history

-- each later stamp is greater
pub stamps_rise : (last : Stamp) (es : List CellEntry) → AreStampedAfter last es → Each (λ e. last < e.stamp) es
stamps_rise last [] h = tt
stamps_rise last (e ∷ es) h =
    let first = h.0 in
    (omega arith, Each-weaker (λ f. e.stamp < f.stamp) (λ f. last < f.stamp) es (λ f lt. omega arith) (stamps_rise e.stamp es h.1))

-- an envelope's stamp is smaller than that of the entry that takes it
pub takes_earlier : (last : Stamp) (es : List CellEntry) → AreStampedAfter last es → Each (λ e. input_stamp e.input < e.stamp) es
takes_earlier last [] h = tt
takes_earlier last (e ∷ es) h = let first = h.0 in (omega arith, takes_earlier e.stamp es h.1)

enveloped_each : (stamp : Stamp) (x : Id) (ss : List Sent) → Each (λ (v : Envelope). v.stamp ≡ stamp) (map (enveloped stamp x) ss)
enveloped_each stamp x [] = tt
enveloped_each stamp x (s ∷ ss) = (refl, enveloped_each stamp x ss)

-- an envelope has the stamp of the entry that sent it
pub sends_stamped : (x : Id) (s : State) (es : List CellEntry) → AreSteps x s es → Each (λ e. Each (λ (v : Envelope). v.stamp ≡ e.stamp) e.sent) es
sends_stamped x s [] h = tt
sends_stamped x s (e ∷ es) h = (
  subst (Each (λ (v : Envelope). v.stamp ≡ e.stamp)) (sym h.0.sent) (enveloped_each e.stamp x (step s (input_of e.input)).sends),
  sends_stamped x (stepped s e) es h.1,
)

-- an entry that sends with its stamp, and takes what has a smaller one
pub record IsStamped (e : CellEntry) : Type 0 where
  pub sends : Each (λ (v : Envelope). v.stamp ≡ e.stamp) e.sent
  pub takes : input_stamp e.input < e.stamp

pub cell_stamped : (x : Id) (founder : Bool) (es : List CellEntry) → IsCellHistory x founder es → Each IsStamped es
cell_stamped x founder es h =
    Each-both (λ e. Each (λ (v : Envelope). v.stamp ≡ e.stamp) e.sent) (λ e. input_stamp e.input < e.stamp) IsStamped es
    (λ e s t. record { sends = s; takes = t }) (sends_stamped x _ es h.steps) (takes_earlier 0 es h.stamps)

-- ---- in the woven order

-- what entries of at least this stamp sent has at least this stamp
sent_from : (sent : List Envelope) (n : Stamp) (acts : List Act) (es : List Entry) → Each (λ (a : Act). n ≤ a.entry.stamp) acts →
    Each (λ (a : Act). IsStamped a.entry) acts → AllZip (IsEntryOf sent) acts es → Each (λ (v : Envelope). n ≤ v.stamp) (sent_in es)
sent_from sent n [] [] l s z = tt
sent_from sent n [] (e ∷ es) l s z = absurd z
sent_from sent n (a ∷ acts) [] l s z = absurd z
sent_from sent n (a ∷ acts) (e ∷ es) l s z =
    let least = l.0 in
    Each-append (λ (v : Envelope). n ≤ v.stamp) e.messages (sent_in es)
    (subst (Each (λ (v : Envelope). n ≤ v.stamp)) (sym z.0.messages)
    (Each-weaker (λ (v : Envelope). v.stamp ≡ a.entry.stamp) (λ (v : Envelope). n ≤ v.stamp) a.entry.sent (λ v is. omega arith) s.0.sends))
    (sent_from sent n acts es l.1 s.1 z.1)

-- the first in order has the least stamp
least_first : (a : Act) (acts : List Act) → AreInOrder (a ∷ acts) → Each (λ (b : Act). a.entry.stamp ≤ b.entry.stamp) (a ∷ acts)
least_first a acts o = (
  omega arith,
  Each-weaker (ComesBefore a) (λ (b : Act). a.entry.stamp ≤ b.entry.stamp) acts
      (λ b c. elim c [ inl lt ↦ omega arith | inr (same, lt) ↦ omega arith ]) (Each-from_all (ComesBefore a) acts o.0),
)

get_either : {A : Type 0} (xs ys : List A) (m : ℕ) (v : A) → slice_get (xs ++ ys) m ≡ Some v → (slice_get xs m ≡ Some v) ⊎ ((k : ℕ) × (slice_get ys k ≡ Some v))
get_either [] ys m v e = inr (m, e)
get_either (x ∷ xs) ys zero v e = inl e
get_either (x ∷ xs) ys (suc m) v e = get_either xs ys m v e

-- what the next entry takes was sent before
pub sent_before : (past : List Entry) (a : Act) (acts : List Act) (es : List Entry) (m : ℕ) (v : Envelope) → AreInOrder (a ∷ acts) →
    Each (λ (b : Act). IsStamped b.entry) (a ∷ acts) → AllZip (IsEntryOf (sent_in (past ++ es))) (a ∷ acts) es → v.stamp < a.entry.stamp →
    slice_get (sent_in (past ++ es)) m ≡ Some v → slice_get (sent_in past) m ≡ Some v
sent_before past a acts es m v o s z lt is =
    elim (get_either (sent_in past) (sent_in es) m v (subst (λ vs. slice_get vs m ≡ Some v) (sent_in-append past es) is)) [
      | inl e ↦ e
      | inr (k, e) ↦
          let late : a.entry.stamp ≤ v.stamp =
          Each-slice_get (λ (u : Envelope). a.entry.stamp ≤ u.stamp) (sent_in es) k v
          (sent_from (sent_in (past ++ es)) a.entry.stamp (a ∷ acts) es (least_first a acts o) s z) e in
          absurd (omega arith)
    ]

taken : (past : List Entry) (a : Act) (acts : List Act) (e : Entry) (es : List Entry) → AreInOrder (a ∷ acts) →
    Each (λ (b : Act). IsStamped b.entry) (a ∷ acts) → AllZip (IsEntryOf (sent_in (past ++ e ∷ es))) (a ∷ acts) (e ∷ es) →
    IsTaken (sent_in past) a.node a.entry.input e.event
taken past a acts e es o s z = by_input a.entry.input refl z.0.event where
  by_input : (i : CellInput) → a.entry.input ≡ i → IsEventOf (sent_in (past ++ e ∷ es)) a.node i e.event → IsTaken (sent_in past) a.node i e.event
  by_input (Command n c) is h = h
  by_input Noise is h = h
  by_input (Comes v) is (m, at, number) =
      let earlier : v.stamp < a.entry.stamp = subst (λ i. input_stamp i < a.entry.stamp) is s.0.takes in
      (m, at, sent_before past a acts (e ∷ es) m v o s z earlier number.here)

-- in the woven order each envelope that comes in was sent before
pub all_taken : (past : List Entry) (acts : List Act) (es : List Entry) → AreInOrder acts → Each (λ (a : Act). IsStamped a.entry) acts →
    AllZip (IsEntryOf (sent_in (past ++ es))) acts es → AreMade past acts es
all_taken past [] [] o s z = tt
all_taken past [] (e ∷ es) o s z = absurd z
all_taken past (a ∷ acts) [] o s z = absurd z
all_taken past (a ∷ acts) (e ∷ es) o s z = (
  record { event = taken past a acts e es o s z; messages = z.0.messages; notes = z.0.notes },
  all_taken (past ++ e ∷ []) acts es o.1 s.1
      (subst (λ whole. AllZip (IsEntryOf (sent_in whole)) acts es) (sym (append_assoc past (e ∷ []) es)) z.1),
)
