-- The numbers of commands are fresh in the woven order: they rise at each node, and no two nodes share one.
use Rattle.std.proofs.Common.{◌≡◌, ◌≢◌, ◌<◌, ◌⊎◌, inl, inr, ◌==◌, true, false, List, [], ◌∷◌, ◌++◌, Contains, refl, sym, subst, ◌∙◌, arith}
use Rattle.std.proofs.lemmas.Bool.{cases_Bool}
use Rattle.std.proofs.lemmas.Bool.Decides.{Decides-eqb}
use Rattle.std.proofs.lemmas.List.Elements.{All-push}
use Rattle.std.specs.List.{AllZip}
use Rattle.ring_math.specs.Names.{Id}
use Rattle.wire_msg.specs.Words.{Envelope}
use Rattle.overlay_rules.specs.declared.entry.Event.{Event}
use Rattle.overlay_rules.specs.declared.entry.Event.TheVariants as event
use Rattle.overlay_rules.specs.declared.entry.Entry.{Entry}
use Rattle.overlay_rules.specs.Record.{IsFresh, IsFreshAfter}
use Rattle.overlay_rules.proofs.Each.{Each, Each-both, Each-from_all}
use Rattle.weave_laws.specs.Cells.{CellInput, CellEntry, History, Command, Comes, Noise}
use Rattle.weave_laws.specs.Numbers.{IsNumberedAfter, NumbersRise, HasNumber, ShareNoNumber}
use Rattle.weave_laws.specs.Woven.{Act, part, IsWovenOrder, IsEventOf, IsEntryOf}
use Rattle.weave_laws.proofs.Interleaved.{AreFresh, part-here, part-there}
use Rattle.weave_laws.proofs.Parts.{StandsIn, stand_in, part_is}

-- ---- two entries

-- the second, if both are commands, has another number, and at one node a greater one
abbrev IsFresher : Id → CellInput → Id → CellInput → Type 0
IsFresher x (Command m b) y (Command n c) = (n ≢ m) × (y ≡ x → m < n)
IsFresher x (Command m b) y (Comes v) = Unit {0}
IsFresher x (Command m b) y Noise = Unit {0}
IsFresher x (Comes v) y i = Unit {0}
IsFresher x Noise y i = Unit {0}

-- the same of their events
abbrev IsFreshOf : Event → Event → Type 0
IsFreshOf e (event.Command y n c) = IsFreshAfter y n e
IsFreshOf e (event.Deliver m) = Unit {0}
IsFreshOf e (event.Noise y) = Unit {0}

fresh_event : (sent : List Envelope) (x : Id) (i : CellInput) (e : Event) (y : Id) (j : CellInput) (f : Event) → IsEventOf sent x i e → IsEventOf sent y j f →
    IsFresher x i y j → IsFreshOf e f
fresh_event sent x (Command m b) e y (Command n c) f p q h =
    subst (λ k. IsFreshOf k f) (sym p) (subst (λ k. IsFreshOf (event.Command x m b) k) (sym q) h)
fresh_event sent x (Comes v) e y (Command n c) f (m, p, r) q h =
    subst (λ k. IsFreshOf k f) (sym p) (subst (λ k. IsFreshOf (event.Deliver m) k) (sym q) tt)
fresh_event sent x Noise e y (Command n c) f p q h =
    subst (λ k. IsFreshOf k f) (sym p) (subst (λ k. IsFreshOf (event.Noise x) k) (sym q) tt)
fresh_event sent x i e y (Comes v) f p (m, q, r) h = subst (λ k. IsFreshOf e k) (sym q) tt
fresh_event sent x i e y Noise f p q h = subst (λ k. IsFreshOf e k) (sym q) tt

-- ---- all entries

fresh_push : (past : List Entry) (e : Entry) (f : Event) → IsFresh past f → IsFreshOf e.event f → IsFresh (past ++ e ∷ []) f
fresh_push past e (event.Command y n c) h g = All-push (λ (d : Entry). IsFreshAfter y n d.event) past e h g
fresh_push past e (event.Deliver m) h g = tt
fresh_push past e (event.Noise y) h g = tt

abbrev AreFresher : List Act → Type 0
AreFresher [] = Unit {0}
AreFresher (a ∷ acts) = Each (λ (b : Act). IsFresher a.node a.entry.input b.node b.entry.input) acts × AreFresher acts

fresh_each : (sent : List Envelope) (a : Act) (e : Entry) (acts : List Act) (es : List Entry) → IsEntryOf sent a e → AllZip (IsEntryOf sent) acts es →
    Each (λ (b : Act). IsFresher a.node a.entry.input b.node b.entry.input) acts → Each (λ (f : Entry). IsFreshOf e.event f.event) es
fresh_each sent a e [] [] p z h = tt
fresh_each sent a e [] (f ∷ es) p z h = absurd z
fresh_each sent a e (b ∷ acts) [] p z h = absurd z
fresh_each sent a e (b ∷ acts) (f ∷ es) p z h =
    (fresh_event sent a.node a.entry.input e.event b.node b.entry.input f.event p.event z.0.event h.0, fresh_each sent a e acts es p z.1 h.1)

fresh_from : (sent : List Envelope) (past : List Entry) (acts : List Act) (es : List Entry) → AllZip (IsEntryOf sent) acts es → AreFresher acts →
    Each (λ (f : Entry). IsFresh past f.event) es → AreFresh past es
fresh_from sent past [] [] z h p = tt
fresh_from sent past [] (e ∷ es) z h p = absurd z
fresh_from sent past (a ∷ acts) [] z h p = absurd z
fresh_from sent past (a ∷ acts) (e ∷ es) z h p = (
  p.0,
  fresh_from sent (past ++ e ∷ []) acts es z.1 h.1
      (Each-both (λ (f : Entry). IsFresh past f.event) (λ (f : Entry). IsFreshOf e.event f.event) (λ (f : Entry). IsFresh (past ++ e ∷ []) f.event) es
      (λ f q r. fresh_push past e f.event q r) p.1 (fresh_each sent a e acts es z.0 z.1 h.0)),
)

fresh_first : (es : List Entry) → Each (λ (f : Entry). IsFresh [] f.event) es
fresh_first [] = tt
fresh_first (e ∷ es) = (first e.event, fresh_first es) where
  first : (f : Event) → IsFresh [] f
  first (event.Command y n c) = λ k d lt. absurd (omega arith)
  first (event.Deliver m) = tt
  first (event.Noise y) = tt

-- ---- from the histories

-- two commands at different nodes have different numbers
abbrev HaveOthers : CellInput → CellInput → Type 0
HaveOthers (Command m b) (Command n c) = n ≢ m
HaveOthers (Command m b) (Comes v) = Unit {0}
HaveOthers (Command m b) Noise = Unit {0}
HaveOthers (Comes v) i = Unit {0}
HaveOthers Noise i = Unit {0}

fresher_here : (x y : Id) (i j : CellInput) → IsNumberedAfter i j → IsFresher x i y j
fresher_here x y (Command m b) (Command n c) lt = (λ e. omega arith, λ _. lt)
fresher_here x y (Command m b) (Comes v) h = tt
fresher_here x y (Command m b) Noise h = tt
fresher_here x y (Comes v) j h = tt
fresher_here x y Noise j h = tt

fresher_there : (x y : Id) (i j : CellInput) → y ≢ x → HaveOthers i j → IsFresher x i y j
fresher_there x y (Command m b) (Command n c) ne h = (h, λ e. absurd (ne e))
fresher_there x y (Command m b) (Comes v) ne h = tt
fresher_there x y (Command m b) Noise ne h = tt
fresher_there x y (Comes v) j ne h = tt
fresher_there x y Noise j ne h = tt

numbers_of : (hs : List History) → ShareNoNumber hs → (x y : Id) (e f : CellEntry) → StandsIn hs x e → StandsIn hs y f → y ≢ x → (i j : CellInput) →
    e.input ≡ i → f.input ≡ j → HaveOthers i j
numbers_of hs apart x y e f s t ne (Command m b) (Command n c) p q = λ same.
    let at_y : HasNumber t.history.entries n = record { entry = f; command = c; stands = t.stands; is = q } in
    let at_x : HasNumber s.history.entries m = record { entry = e; command = b; stands = s.stands; is = p } in
    ne (sym t.node ∙ apart.one_node t.history s.history n t.among s.among at_y (subst (HasNumber s.history.entries) (sym same) at_x) ∙ s.node)
numbers_of hs apart x y e f s t ne (Command m b) (Comes v) p q = tt
numbers_of hs apart x y e f s t ne (Command m b) Noise p q = tt
numbers_of hs apart x y e f s t ne (Comes v) j p q = tt
numbers_of hs apart x y e f s t ne Noise j p q = tt

fresher_each : (hs : List History) → ShareNoNumber hs → (a : Act) (acts : List Act) → StandsIn hs a.node a.entry →
    Each (λ (b : Act). StandsIn hs b.node b.entry) acts → Each (λ e. IsNumberedAfter a.entry.input e.input) (part a.node acts) →
    Each (λ (b : Act). IsFresher a.node a.entry.input b.node b.entry.input) acts
fresher_each hs apart a [] s t r = tt
fresher_each hs apart a (b ∷ acts) s t r = by_node (fresher_each hs apart a acts s t.1) (cases_Bool (b.node == a.node)) where
  by_node : (Each (λ (d : CellEntry). IsNumberedAfter a.entry.input d.input) (part a.node acts) →
      Each (λ (c : Act). IsFresher a.node a.entry.input c.node c.entry.input) acts) → (b.node == a.node ≡ true) ⊎ (b.node == a.node ≡ false) →
      Each (λ (c : Act). IsFresher a.node a.entry.input c.node c.entry.input) (b ∷ acts)
  by_node rest (inl e) =
      let same : b.node ≡ a.node = (Decides-eqb b.node a.node).0 e in
      let here : part a.node (b ∷ acts) ≡ b.entry ∷ part a.node acts = subst (λ x. part x (b ∷ acts) ≡ b.entry ∷ part x acts) same (part-here b acts) in
      let rises = subst (Each (λ (d : CellEntry). IsNumberedAfter a.entry.input d.input)) here r in
      (fresher_here a.node b.node a.entry.input b.entry.input rises.0, rest rises.1)
  by_node rest (inr e) =
      let other : b.node ≢ a.node = λ f. let g : b.node == a.node ≡ true = (Decides-eqb b.node a.node).1 f in cc in (
        fresher_there a.node b.node a.entry.input b.entry.input other
            (numbers_of hs apart a.node b.node a.entry b.entry s t.0 other a.entry.input b.entry.input refl refl),
        rest (subst (Each (λ (d : CellEntry). IsNumberedAfter a.entry.input d.input)) (part-there a.node b acts e) r),
      )

rise_later : (x : Id) (a : Act) (acts : List Act) → NumbersRise (part x (a ∷ acts)) → NumbersRise (part x acts)
rise_later x a acts h = by_node (cases_Bool (a.node == x)) where
  by_node : (a.node == x ≡ true) ⊎ (a.node == x ≡ false) → NumbersRise (part x acts)
  by_node (inl e) =
      let here : part x (a ∷ acts) ≡ a.entry ∷ part x acts =
      subst (λ y. part y (a ∷ acts) ≡ a.entry ∷ part y acts) ((Decides-eqb a.node x).0 e) (part-here a acts) in
      (subst NumbersRise here h).1
  by_node (inr e) = subst NumbersRise (part-there x a acts e) h

all_fresher : (hs : List History) → ShareNoNumber hs → (acts : List Act) → Each (λ (a : Act). StandsIn hs a.node a.entry) acts →
    ((x : Id) → NumbersRise (part x acts)) → AreFresher acts
all_fresher hs apart [] s r = tt
all_fresher hs apart (a ∷ acts) s r = (
  fresher_each hs apart a acts s.0 s.1
      (Each-from_all (λ (d : CellEntry). IsNumberedAfter a.entry.input d.input) (part a.node acts) (subst NumbersRise (part-here a acts) (r a.node)).0),
  all_fresher hs apart acts s.1 (λ x. rise_later x a acts (r x)),
)

-- each command's number is greater than each earlier one at its node, and no other command's
pub all_fresh : (sent : List Envelope) (hs : List History) (acts : List Act) (es : List Entry) → IsWovenOrder hs acts → ShareNoNumber hs →
    ((h : History) → Contains hs h → NumbersRise h.entries) → AllZip (IsEntryOf sent) acts es → AreFresh [] es
all_fresh sent hs acts es o apart rise z = fresh_from sent [] acts es z (all_fresher hs apart acts (stand_in hs acts o) at) (fresh_first es) where
  at : (x : Id) → NumbersRise (part x acts)
  at x =
      elim (part_is hs acts o x) [
        | inl none ↦ subst NumbersRise (sym none) tt
        | inr p ↦ subst NumbersRise (sym p.is) (rise p.history p.among)
      ]
