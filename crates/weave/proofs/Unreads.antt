-- The first envelope for a node that no history took.
use Rattle.std.proofs.Common.{◌≡◌, ◌≢◌, ◌<◌, inl, inr, ℕ, zero, suc, ◌==◌, Some, None, IfSome, IfNone, Option, List, [], ◌∷◌, ◌++◌}
use Rattle.std.proofs.Common.{slice_get, Contains, All, refl, sym, subst, ap, arith}
use Rattle.std.proofs.lemmas.Bool.{cond-true, cond-false, cases_Bool}
use Rattle.std.proofs.lemmas.Bool.Decides.{Decides-eqb}
use Rattle.std.proofs.lemmas.List.Concat.{flat_map-cons}
use Rattle.ring_math.specs.Names.{Id}
use Rattle.wire_msg.specs.Words.{Envelope, plain_envelope}
use Rattle.overlay_rules.proofs.Each.{Each, Each-append, Each-all, Each-contains, Each-from_all, Each-weaker, Each-itself}
use Rattle.weave_laws.specs.Cells.{CellInput, CellEntry, History, Command, Comes, Noise}
use Rattle.weave_laws.specs.Woven.{Act, part, ComesBefore, IsWovenOrder}
use Rattle.weave_laws.proofs.Parts.{StandsIn, stand_in}
use Rattle.weave.specs.declared.waiting.Unread.{Unread}
use Rattle.weave.specs.Placed.{AreEntriesOf, IsEntryIn, Placed, StandsAt, acts_in}
use Rattle.weave.specs.Unread.{AllRead, IsFirstUnread, IsTakenByNone, IsUnread}
use Rattle.weave.specs.Wanted.{HasNoWanted, HasSame, IsFound, IsFoundIn, IsWanted, taken_by, taken_in}
use Rattle.weave.proofs.Placing.{later}
use Rattle.weave.proofs.Standing.{act, at_stop, before_stop, each_act, entry_in_order, placed_in_order}

-- ---- what was taken

abbrev takes : Id → Act → List Envelope
takes x a = taken_in x a.entry.input

-- an envelope for the node that an entry took in is among those taken
in_taken : (x : Id) (v : Envelope) → v.receiver ≡ x → (acts : List Act) → Each (λ (a : Act). a.entry.input ≡ Comes v → Contains (taken_by x acts) v) acts
in_taken x v is [] = tt
in_taken x v is (a ∷ acts) = (
  (λ e. subst (λ vs. Contains vs v) (sym (flat_map-cons (takes x) a acts)) (front (taken_in x a.entry.input) (taken_by x acts) (here a.entry.input e))),
  Each-weaker (λ (b : Act). b.entry.input ≡ Comes v → Contains (taken_by x acts) v)
      (λ (b : Act). b.entry.input ≡ Comes v → Contains (taken_by x (a ∷ acts)) v) acts
      (λ b h e. subst (λ vs. Contains vs v) (sym (flat_map-cons (takes x) a acts)) (behind (taken_in x a.entry.input) (taken_by x acts) (h e)))
      (in_taken x v is acts),
) where
  here : (i : CellInput) → i ≡ Comes v → Contains (taken_in x i) v
  here i e =
      let own : taken_in x (Comes v) ≡ v ∷ [] = cond-true (v.receiver == x) (v ∷ []) [] ((Decides-eqb v.receiver x).1 is) in
      subst (λ (j : CellInput). Contains (taken_in x j) v) (sym e) (subst (λ vs. Contains vs v) (sym own) (0, omega arith, refl))

  front : (xs ys : List Envelope) → Contains xs v → Contains (xs ++ ys) v
  front [] ys (k, lt, e) = absurd (omega arith)
  front (w ∷ xs) ys (zero, lt, e) = (0, omega arith, e)
  front (w ∷ xs) ys (suc k, lt, e) = later w (xs ++ ys) v (front xs ys (k, omega arith, e))

  behind : (xs ys : List Envelope) → Contains ys v → Contains (xs ++ ys) v
  behind [] ys c = c
  behind (w ∷ xs) ys c = later w (xs ++ ys) v (behind xs ys c)

-- what no entry took in is not among those taken
none_taken : (x : Id) (v : Envelope) (acts : List Act) → Each (λ (a : Act). a.entry.input ≢ Comes v) acts → Each (λ w. w ≢ v) (taken_by x acts)
none_taken x v [] h = tt
none_taken x v (a ∷ acts) h =
    subst (Each (λ w. w ≢ v)) (sym (flat_map-cons (takes x) a acts))
    (Each-append (λ w. w ≢ v) (taken_in x a.entry.input) (taken_by x acts) (own a.entry.input h.0) (none_taken x v acts h.1)) where
      own : (i : CellInput) → i ≢ Comes v → Each (λ w. w ≢ v) (taken_in x i)
      own (Command n c) ne = tt
      own (Comes w) ne =
          elim (cases_Bool (w.receiver == x)) [
            | inl t ↦ subst (Each (λ u. u ≢ v)) (sym (cond-true (w.receiver == x) (w ∷ []) [] t)) ((λ e. ne (ap Comes e)), tt)
            | inr t ↦ subst (Each (λ u. u ≢ v)) (sym (cond-false (w.receiver == x) (w ∷ []) [] t)) tt
          ]
      own Noise ne = tt

module _ (hs : List History) (acts : List Act) (o : IsWovenOrder hs acts) (taken : List Envelope) (x : Id) (same : HasSame (taken_by x acts) taken) where
  wanted_untaken : (v : Envelope) → IsWanted taken x v → IsTakenByNone hs v
  wanted_untaken v w =
      Each-all (λ (h : History). All (λ (e : CellEntry). e.input ≢ Comes v) h.entries) hs
      (Each-weaker (Contains hs) (λ (h : History). All (λ (e : CellEntry). e.input ≢ Comes v) h.entries) hs
      (λ h c. Each-all (λ (e : CellEntry). e.input ≢ Comes v) h.entries
      (Each-weaker (Contains h.entries) (λ (e : CellEntry). e.input ≢ Comes v) h.entries
      (λ e d is. w.untaken (same.there v
      (Each-contains (λ (a : Act). a.entry.input ≡ Comes v → Contains (taken_by x acts) v) acts (act h.node e) (in_taken x v w.addressed acts)
      (entry_in_order hs acts o h c e d) is)))
      (Each-itself h.entries))) (Each-itself hs))

  untaken_wanted : (v : Envelope) → v.receiver ≡ x → IsTakenByNone hs v → IsWanted taken x v
  untaken_wanted v is none = record { addressed = is; untaken = λ c. never (same.back v c) } where
    each : Each (λ (a : Act). a.entry.input ≢ Comes v) acts
    each =
        Each-weaker (λ (a : Act). StandsIn hs a.node a.entry) (λ (a : Act). a.entry.input ≢ Comes v) acts
        (λ a s. Each-contains (λ (e : CellEntry). e.input ≢ Comes v) s.history.entries a.entry
        (Each-from_all (λ (e : CellEntry). e.input ≢ Comes v) s.history.entries
        (Each-contains (λ (h : History). All (λ (e : CellEntry). e.input ≢ Comes v) h.entries) hs s.history
        (Each-from_all (λ (h : History). All (λ (e : CellEntry). e.input ≢ Comes v) h.entries) hs none) s.among)) s.stands)
        (stand_in hs acts o)

    never : Contains (taken_by x acts) v → ⊥
    never c = Each-contains (λ w. w ≢ v) (taken_by x acts) v (none_taken x v acts each) c refl

-- ---- one entry stands at a place of a node

one_entry : (hs : List History) (acts : List Act) → IsWovenOrder hs acts → (x : Id) (place : ℕ) (e f : CellEntry) → StandsAt hs x place e →
    StandsAt hs x place f → e ≡ f
one_entry hs acts o x place e f s t =
    let whole : (h : History) → Contains hs h → h.node ≡ x → part x acts ≡ h.entries =
    λ h c is. subst (λ y. part y acts ≡ h.entries) is
    (Each-contains (λ (k : History). part k.node acts ≡ k.entries) hs h (Each-from_all (λ (k : History). part k.node acts ≡ k.entries) hs o.whole) c) in
    let one : slice_get (part x acts) place ≡ Some e =
    subst (λ es. slice_get es place ≡ Some e) (sym (whole s.history s.among s.node)) s.there in
    let other : slice_get (part x acts) place ≡ Some f =
    subst (λ es. slice_get es place ≡ Some f) (sym (whole t.history t.among t.node)) t.there in
    cc

-- ---- what is found

module _ (hs : List History) (ps : List Placed) (o : IsWovenOrder hs (acts_in ps)) (es : AreEntriesOf hs ps) (taken : List Envelope) (x : Id)
    (same : HasSame (taken_by x (acts_in ps)) taken) where
  found_some : (u : Unread) → IsFoundIn taken x ps u → IsFirstUnread hs x u.node u.place (plain_envelope u.envelope)
  found_some u f = record { n = f.first.n; unread = unread; first_entry = first_entry; first_there = first_there } where
    stop : Placed
    stop = f.stop

    stands : StandsAt hs u.node u.place stop.act.entry
    stands =
        subst (λ y. StandsAt hs y u.place stop.act.entry) f.named.node
        (subst (λ n. StandsAt hs stop.act.node n stop.act.entry) f.named.at (at_stop ps f.before stop f.behind f.split (IsEntryIn hs) es).stands)

    unread : IsUnread hs x u.node u.place f.first.n (plain_envelope u.envelope)
    unread = record {
      entry = stop.act.entry;
      stands = stands;
      sent = f.first.there;
      addressed = f.first.wanted.addressed;
      untaken = wanted_untaken hs (acts_in ps) o taken x same (plain_envelope u.envelope) f.first.wanted;
    }

    first_entry : (y : Id) (other m : ℕ) (w : Envelope) → (t : IsUnread hs x y other m w) → ComesBefore (act y t.entry) (act u.node stop.act.entry) → ⊥
    first_entry y other m w t c =
        let none : HasNoWanted taken x t.entry.sent =
        before_stop ps f.before stop f.behind f.split hs o (λ (a : Act). HasNoWanted taken x a.entry.sent) f.earlier y other t.entry t.stands
        (subst (λ z. ComesBefore (act y t.entry) (act z stop.act.entry)) (sym f.named.node) c) in
        none.none m w t.sent (untaken_wanted hs (acts_in ps) o taken x same w t.addressed t.untaken)

    first_there : (m : ℕ) (w : Envelope) → m < f.first.n → IsUnread hs x u.node u.place m w → ⊥
    first_there m w lt t =
        let one = one_entry hs (acts_in ps) o u.node u.place t.entry stop.act.entry t.stands stands in
        f.first.earlier m w lt (subst (λ (e : CellEntry). slice_get e.sent m ≡ Some w) one t.sent)
        (untaken_wanted hs (acts_in ps) o taken x same w t.addressed t.untaken)

  found_none : All (λ (p : Placed). HasNoWanted taken x p.act.entry.sent) ps → AllRead hs x
  found_none h = record {
    none = λ y place n v t.
        let none : HasNoWanted taken x t.entry.sent =
        Each-contains (λ (a : Act). HasNoWanted taken x a.entry.sent) (acts_in ps) (act y t.entry)
        (each_act (λ (a : Act). HasNoWanted taken x a.entry.sent) ps (Each-from_all (λ (p : Placed). HasNoWanted taken x p.act.entry.sent) ps h))
        (placed_in_order hs (acts_in ps) o y place t.entry t.stands) in
        none.none n v t.sent (untaken_wanted hs (acts_in ps) o taken x same v t.addressed t.untaken);
  }

  pub first_if_some : (found : Option Unread) → IsFound taken x ps found → IfSome found (λ u. IsFirstUnread hs x u.node u.place (plain_envelope u.envelope))
  first_if_some (Some u) f = found_some u f
  first_if_some None f = tt

  pub read_if_none : (found : Option Unread) → IsFound taken x ps found → IfNone found (AllRead hs x)
  read_if_none (Some u) f = tt
  read_if_none None f = found_none f
