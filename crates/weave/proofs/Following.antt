-- Entries in the woven order follow the sendings of what they take in, and find it among what the entries before them sent.
use Rattle.std.proofs.Common.{◌≡◌, ◌<◌, ◌≤◌, ◌+◌, ◌∙◌, inl, inr, ℕ, List, [], ◌∷◌, ◌++◌}
use Rattle.std.proofs.Common.{map, take, drop, length, get_or, Contains, sym, subst, ap, arith}
use Rattle.std.proofs.lemmas.List.{map-append}
use Rattle.std.proofs.lemmas.List.Concat.{flat_map-append, flat_map-cons}
use Rattle.std.proofs.lemmas.List.Elements.{Contains-append_cases}
use Rattle.std.proofs.lemmas.Option.{slice_get_within}
use Rattle.std.specs.List.{AllZip}
use Rattle.ring_math.specs.Names.{Id, Stamp}
use Rattle.wire_msg.specs.Words.{Envelope}
use Rattle.overlay_rules.specs.declared.entry.Event.{Event}
use Rattle.overlay_rules.specs.declared.entry.Entry.{Entry}
use Rattle.overlay_rules.specs.Record.{sent_in}
use Rattle.overlay_rules.proofs.Each.{Each, Each-append, Each-contains, Each-from_all, Each-weaker}
use Rattle.overlay_rules.proofs.OneMore.{slice_get-more}
use Rattle.weave_laws.specs.Cells.{CellInput, Command, Comes, Noise, History, input_stamp}
use Rattle.weave_laws.specs.Woven.{Act, ComesBefore, AreInOrder, IsEntryOf, IsEventOf, IsNumberOf, IsWovenOrder}
use Rattle.weave_laws.proofs.Parts.{StandsIn, stand_in}
use Rattle.weave_laws.proofs.Sendings.{IsStamped, cell_stamped}
use Rattle.weave.specs.ByStamp.{AreByStamp}
use Rattle.weave.specs.Cells.{AreKept, IsKept}
use Rattle.weave.specs.Follow.{FollowSendings}
use Rattle.weave.specs.declared.acts.Act.{Act as CodeAct}
use Rattle.weave.specs.Placed.{Placed, act_at, acts_in, placed, sent_by}
use Rattle.weave.specs.Stops.{IsStopAt}
use Rattle.weave.specs.declared.fault.WeaveFault.{WeaveFault}
use Rattle.weave.specs.declared.fault.WeaveFault.TheVariants as fault
use Rattle.weave.proofs.Sendings.{IsFrom, SendsOwn, all_send_own, sent-by_stamp}
use Rattle.weave.proofs.Standing.{order_behind}
use Rattle.weave.proofs.Stopping.{split_at}
use Rattle.weave.proofs.Woven.{sent_is}

-- ---- an entry takes in what has a lower stamp than its own

own_stamped : (hs : List History) → AreKept hs → (h : History) → Contains hs h → Each IsStamped h.entries
own_stamped hs l h c = let kept = Each-contains IsKept hs h (Each-from_all IsKept hs l) c in cell_stamped h.node kept.is_founder h.entries kept.history

all_stamped : (hs : List History) (acts : List Act) → AreKept hs → IsWovenOrder hs acts → Each (λ (a : Act). IsStamped a.entry) acts
all_stamped hs acts l o =
    Each-weaker (λ (a : Act). StandsIn hs a.node a.entry) (λ (a : Act). IsStamped a.entry) acts
    (λ a s. Each-contains IsStamped s.history.entries a.entry (own_stamped hs l s.history s.among) s.stands)
    (stand_in hs acts o)

-- ---- and what it and those behind it sent has no lower stamp than its own

least_sent : (n : Stamp) (acts : List Act) → Each (λ (a : Act). n ≤ a.entry.stamp) acts → Each SendsOwn acts →
    Each (λ (v : Envelope). n ≤ v.stamp) (sent_by acts)
least_sent n [] l s = tt
least_sent n (a ∷ acts) l s =
    subst (Each (λ (v : Envelope). n ≤ v.stamp)) (sym (flat_map-cons (λ (d : Act). d.entry.sent) a acts))
    (Each-append (λ (v : Envelope). n ≤ v.stamp) a.entry.sent (sent_by acts)
    (Each-weaker (IsFrom a.node a.entry.stamp) (λ (v : Envelope). n ≤ v.stamp) a.entry.sent
    (λ v f. let is = f.stamped in let least = l.0 in omega arith) s.0)
    (least_sent n acts l.1 s.1))

no_lower : (a : Act) (rest : List Act) → Each (ComesBefore a) rest → Each (λ (b : Act). a.entry.stamp ≤ b.entry.stamp) (a ∷ rest)
no_lower a rest c = (
  omega arith,
  Each-weaker (ComesBefore a) (λ (b : Act). a.entry.stamp ≤ b.entry.stamp) rest
      (λ b k. elim k [ inl lt ↦ omega arith | inr (same, lt) ↦ omega arith ]) c,
)

-- ---- so what it takes in was sent before it

each_behind : (P : Act → Type 0) (before : List Act) (rest : List Act) → Each P (before ++ rest) → Each P rest
each_behind P [] rest h = h
each_behind P (b ∷ before) rest h = each_behind P before rest h.1

sent_before : (before : List Act) (a : Act) (rest : List Act) (v : Envelope) → AreInOrder (before ++ a ∷ rest) → Each SendsOwn (before ++ a ∷ rest) →
    IsStamped a.entry → a.entry.input ≡ Comes v → Contains (sent_by (before ++ a ∷ rest)) v → Contains (sent_by before) v
sent_before before a rest v o s stamped takes c =
    elim (Contains-append_cases (sent_by before) (sent_by (a ∷ rest)) v
    (subst (λ vs. Contains vs v) (flat_map-append (λ (d : Act). d.entry.sent) before (a ∷ rest)) c)) [
      | inl there ↦ there
      | inr behind ↦
          let least : a.entry.stamp ≤ v.stamp =
          Each-contains (λ (w : Envelope). a.entry.stamp ≤ w.stamp) (sent_by (a ∷ rest)) v
          (least_sent a.entry.stamp (a ∷ rest) (no_lower a rest (order_behind before a rest o)) (each_behind SendsOwn before (a ∷ rest) s)) behind in
          let lower : v.stamp < a.entry.stamp = subst (λ (i : CellInput). input_stamp i < a.entry.stamp) takes stamped.takes in
          absurd (omega arith)
    ]

acts_split : (ps before : List Placed) (p : Placed) (rest : List Placed) → ps ≡ before ++ p ∷ rest → acts_in ps ≡ acts_in before ++ p.act ∷ acts_in rest
acts_split ps before p rest is = ap acts_in is ∙ map-append (λ (q : Placed). q.act) before (p ∷ rest)

each_at : (P : Act → Type 0) (before : List Act) (a : Act) (rest : List Act) → Each P (before ++ a ∷ rest) → P a
each_at P before a rest h = (each_behind P before (a ∷ rest) h).0

pub follow_sendings : (hs : List History) (ps : List Placed) → AreKept hs → IsWovenOrder hs (acts_in ps) → FollowSendings ps
follow_sendings hs ps l o =
    let own = all_send_own hs (acts_in ps) l o in
    let stamped = all_stamped hs (acts_in ps) l o in
    record {
      by_stamp = sent-by_stamp (acts_in ps) o.in_order own;
      behind = λ before p rest v is takes c.
          let split = acts_split ps before p rest is in
          sent_before (acts_in before) p.act (acts_in rest) v (subst AreInOrder split o.in_order) (subst (Each SendsOwn) split own)
          (each_at (λ (a : Act). IsStamped a.entry) (acts_in before) p.act (acts_in rest) (subst (Each (λ (a : Act). IsStamped a.entry)) split stamped))
          takes (subst (λ acts. Contains (sent_by acts) v) split c);
    }

-- ---- what is so of the first that were sent

pub first-by_stamp : (vs ws : List Envelope) → AreByStamp (vs ++ ws) → AreByStamp vs
first-by_stamp vs ws s = record {
  none_behind = λ i j u v lt a b.
      s.none_behind i j u v lt (slice_get-more vs ws i (slice_get_within vs i u a) ∙ a) (slice_get-more vs ws j (slice_get_within vs j v b) ∙ b);
}

number-more : (vs ws : List Envelope) (v : Envelope) (m : ℕ) → IsNumberOf vs v m → IsNumberOf (vs ++ ws) v m
number-more vs ws v m n =
    let within : m < length vs = slice_get_within vs m v n.here in
    record {
      here = slice_get-more vs ws m within ∙ n.here;
      lowest = λ k lt e. n.lowest k lt (sym (slice_get-more vs ws k (omega arith)) ∙ e);
    }

event-more : (vs ws : List Envelope) (x : Id) (i : CellInput) (e : Event) → IsEventOf vs x i e → IsEventOf (vs ++ ws) x i e
event-more vs ws x (Command n c) e h = h
event-more vs ws x (Comes v) e (m, is, n) = (m, is, number-more vs ws v m n)
event-more vs ws x Noise e h = h

-- an entry that was found among them is one of a record
pub entry-more : (vs ws : List Envelope) (a : Act) (e : Entry) → IsEntryOf vs a e → IsEntryOf (vs ++ ws) a e
entry-more vs ws a e h =
    record { event = event-more vs ws a.node a.entry.input e.event h.event; messages = h.messages; notes = h.notes }

-- and where one was not found there, weaving stops
pub stop-more : (vs ws : List Envelope) (p : Placed) (f : WeaveFault) → ((v : Envelope) → p.act.entry.input ≡ Comes v → Contains ws v → Contains vs v) →
    IsStopAt vs p f → IsStopAt ws p f
stop-more vs ws p (fault.Stray x place v) found h = (h.0, record { takes = h.1.takes; unsent = λ c. h.1.unsent (found _ h.1.takes c) })
stop-more vs ws p fault.OutOfMemory found h = tt

-- ---- an entry that comes next, behind those that became entries of a record

module _ (hs : List History) (xs : List CodeAct) (i : ℕ) (x : CodeAct) (es : List Entry) (lt : i < length xs) (is : x ≡ get_or xs i x)
    (z : AllZip (IsEntryOf (sent_by (acts_in (map (placed hs) xs)))) (acts_in (map (placed hs) (take i xs))) es) where
  abbrev front : List Placed
  front = map (placed hs) (take i xs)

  abbrev behind : List Placed
  behind = map (placed hs) (drop (i + 1) xs)

  abbrev whole : List Envelope
  whole = sent_by (acts_in (map (placed hs) xs))

  abbrev rest : List Envelope
  rest = sent_by (acts_in (placed hs x ∷ behind))

  places : map (placed hs) xs ≡ front ++ placed hs x ∷ behind
  places = split_at hs xs i (i + 1) x (omega arith) lt is

  so_far : sent_in es ≡ sent_by (acts_in front)
  so_far = sent_is whole (acts_in front) es z

  sent_split : whole ≡ sent_in es ++ rest
  sent_split =
      ap (λ ps. sent_by (acts_in ps)) places
      ∙ ap sent_by (map-append (λ (p : Placed). p.act) front (placed hs x ∷ behind))
      ∙ flat_map-append (λ (a : Act). a.entry.sent) (acts_in front) (acts_in (placed hs x ∷ behind))
      ∙ ap (λ ws. ws ++ rest) (sym so_far)

  pub next-by_stamp : FollowSendings (map (placed hs) xs) → AreByStamp (sent_in es)
  next-by_stamp f = first-by_stamp (sent_in es) rest (subst AreByStamp sent_split f.by_stamp)

  -- what is found among what they sent is found so among all
  pub next-entry : (e : Entry) → IsEntryOf (sent_in es) (act_at hs x) e → IsEntryOf whole (act_at hs x) e
  next-entry e h = subst (λ ws. IsEntryOf ws (act_at hs x) e) (sym sent_split) (entry-more (sent_in es) rest (act_at hs x) e h)

  -- and what is not is nowhere
  pub next-stop : FollowSendings (map (placed hs) xs) → (f : WeaveFault) → IsStopAt (sent_in es) (placed hs x) f → IsStopAt whole (placed hs x) f
  next-stop follow f h =
      stop-more (sent_in es) whole (placed hs x) f
      (λ v takes c. subst (λ ws. Contains ws v) (sym so_far) (follow.behind front (placed hs x) behind v places takes c)) h
