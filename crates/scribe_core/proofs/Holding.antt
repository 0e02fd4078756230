-- What every group record keeps, entry by entry: where parents and children come from, that what was sent and seen was published,
-- and that no node notes twice that it heard.
use Rattle.std.proofs.Common.{◌≡◌, ◌≤◌, ◌<◌, ◌+◌, ◌⊎◌, inl, inr, ℕ, zero, suc, Bool, true, false, cond, count_by, Some, None, Option, List, [], ◌∷◌, ◌++◌}
use Rattle.std.proofs.Common.{map, slice_get, Contains, append-nil, append_assoc, refl, sym, subst, ap, ◌∙◌, arith}
use Rattle.std.specs.Prelude.{◌==◌, ◌&&◌, ◌||◌}
use Rattle.std.specs.Str.{bytes_eq}
use Rattle.std.proofs.lemmas.Bool.{and_parts, cases_Bool, cond_both}
use Rattle.std.proofs.lemmas.Bool.Decides.{Decides-eqb}
use Rattle.std.proofs.lemmas.Slice.Eq.{bytes_eq-Decides}
use Rattle.std.proofs.lemmas.List.Elements.{Contains-append_left, Contains-append_right, Contains-append_cases}
use Rattle.std.proofs.lemmas.List.Sums.{sum_by-append, sum_by-cons}
use Rattle.std.proofs.lemmas.Option.{get_or_from_slice_get, slice_get_within}
use Rattle.ring_math.specs.Names.{Id, Number, Content}
use Rattle.ring_math.specs.Ring.{is_nearer}
use Rattle.ring_math.specs.Keys.{id_of}
use Rattle.ring_math.specs.Sides.{is_in}
use Rattle.overlay_rules.specs.declared.request.Way.{Way}
use Rattle.overlay_rules.specs.declared.request.Way.TheVariants as way
use Rattle.overlay_rules.specs.State.{State, Phase, Waiting, Asking, Probing, Leasing, Ready, is_ready}
use Rattle.overlay_rules.specs.Routed.{way_in as way_by_phase}
use Rattle.overlay_rules.specs.Record.{Setting, IsSetting, World}
use Rattle.overlay_rules.specs.Ready.{IsReadyIn}
use Rattle.overlay_rules.proofs.Each.{Each, Each-append, Each-contains, Each-from_all, Each-map, Each-slice_get, Each-weaker}
use Rattle.step_facts.proofs.Messages.{MessagesHold}
use Rattle.ring_laws.proofs.Hops.{hop_goes_nearer}
use Rattle.scribe_core.specs.Entry.{GroupEntry}
use Rattle.scribe_core.specs.declared.entry.GroupEvent.{GroupEvent}
use Rattle.scribe_core.specs.declared.entry.GroupEvent.TheVariants as event
use Rattle.scribe_core.specs.declared.message.GroupCommand.{GroupCommand}
use Rattle.scribe_core.specs.declared.message.GroupCommand.TheVariants as command
use Rattle.scribe_core.specs.declared.message.GroupMessage.{GroupMessage}
use Rattle.scribe_core.specs.declared.message.GroupMessage.TheVariants as message
use Rattle.scribe_core.specs.declared.message.GroupSent.{GroupSent}
use Rattle.scribe_core.specs.declared.note.GroupNote.{GroupNote}
use Rattle.scribe_core.specs.declared.note.GroupNote.TheVariants as note
use Rattle.scribe_core.specs.Parts.{GroupName, Part, Under, Input, Command, Comes, Addressed}
use Rattle.scribe_core.specs.Record.{Groups, Noted, Visit, IsFresh, IsFreshAfter, Follows, after, by, no_groups, noted_by, part_at, parts_after}
use Rattle.scribe_core.specs.Record.{sent_from, sent_in}
use Rattle.scribe_core.specs.Record.{step_at, visit, visit_of, way_in}
use Rattle.scribe_core.specs.Laws.{WasPublished, is_heard, is_heard_at, sent_to}
use Rattle.scribe_core.proofs.Facts.{Brings, Facts, Hears, IsDueNote, IsDueSend, step_facts}
use Rattle.scribe_core.proofs.Keys.{id_of-in_ring}

-- ---- one entry more

last : {A : Type 0} (xs : List A) (x : A) → Contains (xs ++ x ∷ []) x
last xs x = Contains-append_right xs (x ∷ []) x (0, omega arith, refl)

pub sent_in-push : (es : List GroupEntry) (e : GroupEntry) → sent_in (es ++ e ∷ []) ≡ sent_in es ++ e.messages
sent_in-push [] e = append-nil e.messages
sent_in-push (d ∷ es) e = ap (λ (ss : List GroupSent). d.messages ++ ss) (sent_in-push es e) ∙ sym (append_assoc d.messages (sent_in es) e.messages)

sent_more : (es : List GroupEntry) (e : GroupEntry) (s : GroupSent) → Contains (sent_in es) s → Contains (sent_in (es ++ e ∷ [])) s
sent_more es e s c = subst (λ ss. Contains ss s) (sym (sent_in-push es e)) (Contains-append_left (sent_in es) e.messages s c)

published_more : (es : List GroupEntry) (e : GroupEntry) (name : GroupName) (n : Number) (b : Content) → WasPublished es name n b →
    WasPublished (es ++ e ∷ []) name n b
published_more es e name n b h =
    record { node = h.node; entry = h.entry; among = Contains-append_left es (e ∷ []) h.entry h.among; is = h.is }

-- ---- what comes to a node

-- a message of a publication is of one that there was
abbrev pub IsPublished : List GroupEntry → GroupName → GroupMessage → Type 0
IsPublished es name message.Graft = Unit {0}
IsPublished es name message.Prune = Unit {0}
IsPublished es name (message.Publish n b) = WasPublished es name n b
IsPublished es name (message.Cast n b) = WasPublished es name n b

abbrev pub AreAllPublished : List GroupEntry → Type 0
AreAllPublished es = Each (λ (s : GroupSent). IsPublished es s.group s.message) (sent_in es)

pub data Arrives (past : List GroupEntry) : GroupEvent → Visit → Type 0 where
  commanded : (x : Id) (n : Number) (name : GroupName) (c : GroupCommand) →
      Arrives past (event.Command x n name c) (record { node = x; group = name; input = Command n c })
  delivered : (m : ℕ) (s : GroupSent) → slice_get (sent_in past) m ≡ Some s →
      Arrives past (event.Deliver m) (record { node = s.receiver; group = s.group; input = Comes s.sender s.message })

arrives : (past : List GroupEntry) (ev : GroupEvent) (v : Visit) → visit (sent_in past) ev ≡ Some v → Arrives past ev v
arrives past (event.Command x n name c) v e =
    let same : record { node = x; group = name; input = Command n c } ≡ v = cc in
    subst (Arrives past (event.Command x n name c)) same (commanded x n name c)
arrives past (event.Deliver m) v e = found (slice_get (sent_in past) m) refl e where
  found : (o : Option GroupSent) → slice_get (sent_in past) m ≡ o → visit_of o ≡ Some v → Arrives past (event.Deliver m) v
  found None h k = cc
  found (Some s) h k =
      let same : record { node = s.receiver; group = s.group; input = Comes s.sender s.message } ≡ v = cc in
      subst (Arrives past (event.Deliver m)) same (delivered m s h)

contains_get : {A : Type 0} (xs : List A) (n : ℕ) (x : A) → slice_get xs n ≡ Some x → Contains xs x
contains_get xs n x e = (n, slice_get_within xs n x e, get_or_from_slice_get xs n x x e)

-- what is brought was published
module _ (past : List GroupEntry) (e : GroupEntry) (sent : AreAllPublished past) where
  by_command : (x : Id) (n : Number) (name : GroupName) (c : GroupCommand) → e.event ≡ event.Command x n name c → (m : Number) (b : Content) →
      Brings (Command n c) m b → WasPublished (past ++ e ∷ []) name m b
  by_command x n name command.Subscribe is m b h = absurd h
  by_command x n name command.Leave is m b h = absurd h
  by_command x n name (command.Publish bytes) is m b h = record {
    node = x;
    entry = e;
    among = last past e;
    is = is ∙ ap (λ k. event.Command x k name (command.Publish bytes)) h.0 ∙ ap (λ c. event.Command x m name (command.Publish c)) h.1;
  }

  by_message : (s : Id) (name : GroupName) (msg : GroupMessage) → IsPublished past name msg → (m : Number) (b : Content) → Brings (Comes s msg) m b →
      WasPublished (past ++ e ∷ []) name m b
  by_message s name message.Graft h m b k = absurd k
  by_message s name message.Prune h m b k = absurd k
  by_message s name (message.Publish n bytes) h m b k =
      subst (λ (j : ℕ). WasPublished (past ++ e ∷ []) name j b) k.0
      (subst (WasPublished (past ++ e ∷ []) name n) k.1 (published_more past e name n bytes h))
  by_message s name (message.Cast n bytes) h m b k =
      subst (λ (j : ℕ). WasPublished (past ++ e ∷ []) name j b) k.0
      (subst (WasPublished (past ++ e ∷ []) name n) k.1 (published_more past e name n bytes h))

  pub brought : (ev : GroupEvent) (v : Visit) → e.event ≡ ev → Arrives past ev v → (m : Number) (b : Content) → Brings v.input m b →
      WasPublished (past ++ e ∷ []) v.group m b
  brought ev v is (commanded x n name c) m b h = by_command x n name c is m b h
  brought ev v is (delivered k s at) m b h =
      by_message s.sender s.group s.message
      (Each-slice_get (λ (t : GroupSent). IsPublished past t.group t.message) (sent_in past) k s sent at) m b h

-- a Graft that comes was sent
grafted : (past : List GroupEntry) (ev : GroupEvent) (v : Visit) (c : Id) → Arrives past ev v → v.input ≡ Comes c message.Graft →
    Contains (sent_in past) (sent_to c v.node v.group message.Graft)
grafted past ev v c (commanded x n name d) is = cc
grafted past ev v c (delivered k s at) is =
    let sender : s.sender ≡ c = cc in
    let says : s.message ≡ message.Graft = cc in
    subst (λ (y : ℕ). Contains (sent_in past) (sent_to y s.receiver s.group message.Graft)) sender
    (subst (λ (msg : GroupMessage). Contains (sent_in past) (sent_to s.sender s.receiver s.group msg)) says (contains_get (sent_in past) k s at))

-- ---- one part more

pub part_at-each : (P : Id → GroupName → Part → Type 0) (parts : Id → GroupName → Part) (x : Id) (name : GroupName) (p : Part) (y : Id) (other : GroupName) →
    P x name p → P y other (parts y other) → P y other (part_at parts x name p y other)
part_at-each P parts x name p y other here there =
    cond_both ((y == x) && bytes_eq other name) p (parts y other) (P y other)
    (λ e. let both = and_parts (y == x) (bytes_eq other name) e in
    let node : x ≡ y = sym ((Decides-eqb y x).0 both.0) in
    let group : name ≡ other = sym ((bytes_eq-Decides other name).0 both.1) in
    subst (λ (z : ℕ). P z other p) node (subst (λ (k : List ℕ). P x k p) group here))
    (λ _. there)

pub part_at-itself : (parts : Id → GroupName → Part) (x : Id) (name : GroupName) (p : Part) → part_at parts x name p x name ≡ p
part_at-itself parts x name p =
    let node : x == x ≡ true = (Decides-eqb x x).1 refl in
    let group : bytes_eq name name ≡ true = (bytes_eq-Decides name name).1 refl in
    ap (λ (t : Bool). cond (t && bytes_eq name name) p (parts x name)) node ∙ ap (λ (t : Bool). cond (true && t) p (parts x name)) group

-- ---- what is kept

ready_by_way : (s : State) (key : ℕ) (y : Id) (phase : Phase) → way_by_phase s key phase ≡ way.To y → is_ready phase ≡ true
ready_by_way s key y (Ready a l r) e = refl
ready_by_way s key y (Waiting a) e = cc
ready_by_way s key y (Asking a n) e = cc
ready_by_way s key y (Probing a n probed) e = cc
ready_by_way s key y (Leasing a n l r fl fr) e = cc

-- a node and its parent are ready, and the parent is nearer to the key
pub record IsBelow (g : Setting) (overlay : World) (name : GroupName) (x y : Id) : Type 0 where
  pub node : IsReadyIn g overlay x
  pub parent : IsReadyIn g overlay y
  pub nearer : is_nearer y x (id_of name) ≡ true

pub record PartHolds (g : Setting) (overlay : World) (past : List GroupEntry) (x : Id) (name : GroupName) (p : Part) : Type 0 where
  pub parent : (y : Id) → p.place ≡ Under y → IsBelow g overlay name x y
  pub children : (c : Id) → Contains p.children c → Contains (sent_in past) (sent_to c x name message.Graft)
  pub seen : (n : Number) → Contains p.seen n → (b : Content) × WasPublished past name n b

-- a node heard of this publication never, or once in a group where it has seen it
abbrev pub HeardOf : (Id → GroupName → Part) → List Noted → Id → Number → Type 0
HeardOf parts noted x n =
    (count_by (is_heard_at x n) noted ≡ 0) ⊎ ((count_by (is_heard_at x n) noted ≡ 1) × ((name : GroupName) × Contains (parts x name).seen n))

-- what a number publishes is one group's and of one text
abbrev pub IsOne : List GroupEntry → Type 0
IsOne past = (n : Number) (name other : GroupName) (b c : Content) → WasPublished past name n b → WasPublished past other n c → name ≡ other

pub record Holds (g : Setting) (overlay : World) (w : Groups) : Type 0 where
  pub parts : (x : Id) (name : GroupName) → PartHolds g overlay w.past x name (w.parts x name)
  pub sent : AreAllPublished w.past
  pub one : IsOne w.past
  pub heard : (x : Id) (n : Number) → HeardOf w.parts w.noted x n

pub holds_at_first : (g : Setting) (overlay : World) → Holds g overlay no_groups
holds_at_first g overlay = record {
  parts = λ x name. record { parent = λ y e. cc; children = λ c d. absurd (omega (arith, d.1)); seen = λ n d. absurd (omega (arith, d.1)) };
  sent = tt;
  one = λ n name other b c h k. absurd (omega (arith, h.among.1));
  heard = λ x n. inl refl;
}

-- ---- numbers

-- a command is no other's
not_again : (past : List GroupEntry) (e : GroupEntry) (x : Id) (n : Number) (name : GroupName) (c : GroupCommand) → IsFresh past e.event →
    e.event ≡ event.Command x n name c → (other : GroupName) (b : Content) → WasPublished past other n b → ⊥
not_again past e x n name c fresh is other b h =
    let all : IsFresh past (event.Command x n name c) = subst (IsFresh past) is fresh in
    let here : IsFreshAfter x n h.entry.event =
    Each-contains (λ (d : GroupEntry). IsFreshAfter x n d.event) past h.entry (Each-from_all (λ (d : GroupEntry). IsFreshAfter x n d.event) past all) h.among in
    (subst (IsFreshAfter x n) h.is here).0 refl

one_more : (past : List GroupEntry) (e : GroupEntry) → IsFresh past e.event → IsOne past → IsOne (past ++ e ∷ [])
one_more past e fresh one n name other b c h k =
    elim (Contains-append_cases past (e ∷ []) h.entry h.among) [
      | inl h_old ↦ elim (Contains-append_cases past (e ∷ []) k.entry k.among) [
        | inl k_old ↦ one n name other b c (old name b h h_old) (old other c k k_old)
        | inr k_new ↦ absurd (not_again past e k.node n other (command.Publish c) fresh (newest k.entry k_new ∙ k.is) name b (old name b h h_old))
      ]
      | inr h_new ↦ elim (Contains-append_cases past (e ∷ []) k.entry k.among) [
        | inl k_old ↦ absurd (not_again past e h.node n name (command.Publish b) fresh (newest h.entry h_new ∙ h.is) other c (old other c k k_old))
        | inr k_new ↦ named h.node k.node (sym (newest h.entry h_new ∙ h.is) ∙ (newest k.entry k_new ∙ k.is))
      ]
    ] where
      old : (group : GroupName) (bytes : Content) (p : WasPublished (past ++ e ∷ []) group n bytes) → Contains past p.entry → WasPublished past group n bytes
      old group bytes p there = record { node = p.node; entry = p.entry; among = there; is = p.is }

      newest : (d : GroupEntry) → Contains (e ∷ []) d → e.event ≡ d.event
      newest d (zero, lt, is) = ap (λ (f : GroupEntry). f.event) is
      newest d (suc j, lt, is) = absurd (omega arith)

      named : (x y : Id) → event.Command x n name (command.Publish b) ≡ event.Command y n other (command.Publish c) → name ≡ other
      named x y same = cc

-- ---- notes

count-append : {A : Type 0} (t : A → Bool) (xs ys : List A) → count_by t (xs ++ ys) ≡ count_by t xs + count_by t ys
count-append t xs ys = sum_by-append (λ x. cond (t x) 1 0) xs ys

count-cons : {A : Type 0} (t : A → Bool) (x : A) (xs : List A) → count_by t (x ∷ xs) ≡ cond (t x) 1 0 + count_by t xs
count-cons t x xs = sum_by-cons (λ z. cond (t z) 1 0) x xs

-- the notes of one node
count-here : (x y : Id) (n : Number) (notes : List GroupNote) → (y == x) ≡ true → count_by (is_heard_at x n) (map (by y) notes) ≡ count_by (is_heard n) notes
count-here x y n [] e = refl
count-here x y n (a ∷ notes) e =
    count-cons (is_heard_at x n) (by y a) (map (by y) notes)
    ∙ ap (λ (t : Bool). cond (t && is_heard n a) 1 0 + count_by (is_heard_at x n) (map (by y) notes)) e
    ∙ ap (λ k. cond (is_heard n a) 1 0 + k) (count-here x y n notes e)
    ∙ sym (count-cons (is_heard n) a notes)

count-elsewhere : (x y : Id) (n : Number) (notes : List GroupNote) → (y == x) ≡ false → count_by (is_heard_at x n) (map (by y) notes) ≡ 0
count-elsewhere x y n [] e = refl
count-elsewhere x y n (a ∷ notes) e =
    count-cons (is_heard_at x n) (by y a) (map (by y) notes)
    ∙ ap (λ (t : Bool). cond (t && is_heard n a) 1 0 + count_by (is_heard_at x n) (map (by y) notes)) e
    ∙ (let rest = count-elsewhere x y n notes e in omega arith)

-- a hearing that is counted is one
record HeardIn (name : GroupName) (p q : Part) (i : Input) (n : Number) : Type 0 where
  named : GroupName
  bytes : Content
  hears : Hears name p q i named n bytes

heard_in : (w : Way) (name : GroupName) (p q : Part) (i : Input) (n : Number) (notes : List GroupNote) → Each (IsDueNote w name p q i) notes →
    0 < count_by (is_heard n) notes → HeardIn name p q i n
heard_in w name p q i n [] due some = absurd (omega arith)
heard_in w name p q i n (a ∷ notes) due some =
    by_note a due.0 (subst (λ k. 0 < k) (count-cons (is_heard n) a notes) some) (λ more. heard_in w name p q i n notes due.1 more) where
      by_note : (b : GroupNote) → IsDueNote w name p q i b → 0 < cond (is_heard n b) 1 0 + count_by (is_heard n) notes →
          (0 < count_by (is_heard n) notes → HeardIn name p q i n) → HeardIn name p q i n
      by_note (note.Subscribed m) d more rest = rest (omega arith)
      by_note (note.Left m) d more rest = rest (omega arith)
      by_note (note.Published m) d more rest = rest (omega arith)
      by_note (note.Refused m) d more rest = rest (omega arith)
      by_note (note.Heard named m b) d more rest = elim (cases_Bool (m == n)) [
        | inl t ↦
            let same : m ≡ n = (Decides-eqb m n).0 t in
            record { named = named; bytes = b; hears = subst (λ (k : ℕ). Hears name p q i named k b) same d }
        | inr t ↦ let fewer = subst (λ (u : Bool). 0 < cond u 1 0 + count_by (is_heard n) notes) t more in rest (omega arith)
      ]

is_in-contains : (xs : List ℕ) (y : ℕ) → Contains xs y → is_in xs y ≡ true
is_in-contains [] y c = absurd (omega (arith, c.1))
is_in-contains (x ∷ xs) y (zero, lt, is) = first (x == y) (is_in xs y) ((Decides-eqb x y).1 is) where
  first : (a b : Bool) → a ≡ true → (a || b) ≡ true
  first true b e = refl
  first false b e = cc
is_in-contains (x ∷ xs) y (suc k, lt, is) = later (x == y) (is_in xs y) (is_in-contains xs y (k, omega arith, is)) where
  later : (a b : Bool) → b ≡ true → (a || b) ≡ true
  later true b e = refl
  later false b e = e

-- ---- one entry keeps it all

module _ (g : Setting) (overlay : World) (set : IsSetting g) (messages : MessagesHold g overlay) (w : Groups) (e : GroupEntry) (h : Holds g overlay w)
    (f : Follows g overlay w e) where
  abbrev v : Visit
  v = f.at

  abbrev way_here : Way
  way_here = way_in overlay v.node v.group

  abbrev old : Part
  old = w.parts v.node v.group

  abbrev new : Part
  new = (step_at overlay w v).part

  abbrev more : List GroupEntry
  more = w.past ++ e ∷ []

  abbrev parts : Id → GroupName → Part
  parts = part_at w.parts v.node v.group new

  facts : Facts way_here v.group old v.input (step_at overlay w v)
  facts = step_facts way_here v.group old v.input

  comes : Arrives w.past e.event v
  comes = arrives w.past e.event v f.is_at

  pub was_brought : (n : Number) (b : Content) → Brings v.input n b → WasPublished more v.group n b
  was_brought n b k = brought w.past e h.sent e.event v refl comes n b k

  -- a parent is where the key leads
  below : (y : Id) → way_here ≡ way.To y → IsBelow g overlay v.group v.node y
  below y to =
      let goes = hop_goes_nearer g overlay v.node (id_of v.group) y set messages f.member (id_of-in_ring v.group) to in
      record {
        node = (f.member, ready_by_way (overlay.states v.node) (id_of v.group) y (overlay.states v.node).phase to);
        parent = goes.0;
        nearer = goes.1;
      }

  new_part : PartHolds g overlay more v.node v.group new
  new_part = record {
    parent = λ y is. elim (facts.place y is) [
      | inl was ↦ (h.parts v.node v.group).parent y was
      | inr to ↦ below y to
    ];
    children = λ c d. sent_more w.past e (sent_to c v.node v.group message.Graft) (elim (facts.children c d) [
      | inl was ↦ (h.parts v.node v.group).children c was
      | inr graft ↦ grafted w.past e.event v c comes graft
    ]);
    seen = λ n d. elim (facts.seen n d) [
      | inl was ↦ let k = (h.parts v.node v.group).seen n was in (k.0, published_more w.past e v.group n k.0 k.1)
      | inr k ↦ (k.0, was_brought n k.0 k.1)
    ];
  }

  same_part : (x : Id) (name : GroupName) → PartHolds g overlay more x name (w.parts x name)
  same_part x name = record {
    parent = (h.parts x name).parent;
    children = λ c d. sent_more w.past e (sent_to c x name message.Graft) ((h.parts x name).children c d);
    seen = λ n d. let k = (h.parts x name).seen n d in (k.0, published_more w.past e name n k.0 k.1);
  }

  -- what was sent is published
  due_published : (y : Id) (m : GroupMessage) → IsDueSend old v.input y m → IsPublished more v.group m
  due_published y message.Graft d = tt
  due_published y message.Prune d = tt
  due_published y (message.Publish n b) d = was_brought n b d
  due_published y (message.Cast n b) d = was_brought n b d.0

  still_published : (s : GroupSent) → IsPublished w.past s.group s.message → IsPublished more s.group s.message
  still_published s k = by s.message k where
    by : (m : GroupMessage) → IsPublished w.past s.group m → IsPublished more s.group m
    by message.Graft k = tt
    by message.Prune k = tt
    by (message.Publish n b) k = published_more w.past e s.group n b k
    by (message.Cast n b) k = published_more w.past e s.group n b k

  all_published : AreAllPublished more
  all_published =
      subst (Each (λ (s : GroupSent). IsPublished more s.group s.message)) (sym (sent_in-push w.past e))
      (Each-append (λ (s : GroupSent). IsPublished more s.group s.message) (sent_in w.past) e.messages
      (Each-weaker (λ (s : GroupSent). IsPublished w.past s.group s.message) (λ (s : GroupSent). IsPublished more s.group s.message) (sent_in w.past)
      still_published h.sent)
      (subst (Each (λ (s : GroupSent). IsPublished more s.group s.message)) (sym f.messages)
      (Each-map (λ (s : GroupSent). IsPublished more s.group s.message) (sent_from v.node v.group) (step_at overlay w v).sends
      (Each-weaker (λ (a : Addressed). IsDueSend old v.input a.receiver a.message) (λ (a : Addressed). IsPublished more v.group a.message)
      (step_at overlay w v).sends (λ a d. due_published a.receiver a.message d) facts.sends))))

  -- what was seen is still seen
  seen_still : (x : Id) (name : GroupName) (n : Number) → Contains (w.parts x name).seen n → Contains (parts x name).seen n
  seen_still x name n =
      part_at-each (λ y other p. Contains (w.parts y other).seen n → Contains p.seen n) w.parts v.node v.group new x name (facts.kept n) (λ c. c)

  abbrev noted : List Noted
  noted = w.noted ++ map (by v.node) e.notes

  counts : (x : Id) (n : Number) (k : ℕ) → count_by (is_heard_at x n) (map (by v.node) e.notes) ≡ k →
      count_by (is_heard_at x n) noted ≡ count_by (is_heard_at x n) w.noted + k
  counts x n k is = count-append (is_heard_at x n) w.noted (map (by v.node) e.notes) ∙ ap (λ j. count_by (is_heard_at x n) w.noted + j) is

  -- no hearing more
  no_more : (x : Id) (n : Number) → count_by (is_heard_at x n) (map (by v.node) e.notes) ≡ 0 → HeardOf parts noted x n
  no_more x n none = elim (h.heard x n) [
    | inl never ↦ inl (let c = counts x n 0 none in omega arith)
    | inr once ↦ inr ((let c = counts x n 0 none in let k = once.0 in omega arith), (once.1.0, seen_still x once.1.0 n once.1.1))
  ]

  -- a hearing more, of what the node had not seen
  one_heard : (n : Number) → count_by (is_heard n) e.notes ≡ 1 → HeardOf parts noted v.node n
  one_heard n some = elim (h.heard v.node n) [
    | inl never ↦ inr ((let c = counts v.node n 1 here in omega arith), (v.group, seen_here))
    | inr once ↦
        let was = (h.parts v.node once.1.0).seen n once.1.1 in
        let same : once.1.0 ≡ v.group =
        one_more w.past e f.fresh h.one n once.1.0 v.group was.0 hearing.bytes (published_more w.past e once.1.0 n was.0 was.1)
        (was_brought n hearing.bytes hearing.hears.brought) in
        let before : Contains old.seen n = subst (λ (k : List ℕ). Contains (w.parts v.node k).seen n) same once.1.1 in
        let t : is_in old.seen n ≡ true = is_in-contains old.seen n before in
        let u : is_in old.seen n ≡ false = hearing.hears.unseen in
        let clash : true ≡ false = sym t ∙ u in absurd (cc)
  ] where
    here : count_by (is_heard_at v.node n) (map (by v.node) e.notes) ≡ 1
    here = count-here v.node v.node n e.notes ((Decides-eqb v.node v.node).1 refl) ∙ some

    hearing : HeardIn v.group old new v.input n
    hearing =
        let k : count_by (is_heard n) (step_at overlay w v).notes ≡ 1 = sym (ap (count_by (is_heard n)) f.notes) ∙ some in
        heard_in way_here v.group old new v.input n (step_at overlay w v).notes facts.notes (omega arith)

    seen_here : Contains (parts v.node v.group).seen n
    seen_here = subst (λ (p : Part). Contains p.seen n) (sym (part_at-itself w.parts v.node v.group new)) hearing.hears.seen

  heard_of : (x : Id) (n : Number) → HeardOf parts noted x n
  heard_of x n = elim (cases_Bool (v.node == x)) [
    | inl t ↦
        let same : v.node ≡ x = (Decides-eqb v.node x).0 t in
        let few : count_by (is_heard n) e.notes ≤ 1 = subst (λ (ns : List GroupNote). count_by (is_heard n) ns ≤ 1) (sym f.notes) (facts.once n) in
        subst (λ (y : ℕ). HeardOf parts noted y n) same (elim (none_or_one (count_by (is_heard n) e.notes) few) [
          | inl none ↦ no_more v.node n (count-here v.node v.node n e.notes ((Decides-eqb v.node v.node).1 refl) ∙ none)
          | inr some ↦ one_heard n some
        ])
    | inr t ↦ no_more x n (count-elsewhere x v.node n e.notes t)
  ] where
    none_or_one : (k : ℕ) → k ≤ 1 → (k ≡ 0) ⊎ (k ≡ 1)
    none_or_one zero le = inl refl
    none_or_one (suc zero) le = inr refl
    none_or_one (suc (suc k)) le = absurd (omega arith)

  abbrev stepped : Groups
  stepped = record { parts = parts; past = more; noted = noted }

  stepped_is : after overlay w e ≡ stepped
  stepped_is =
      ap (λ (o : Option Visit). record { parts = parts_after overlay w o; past = more; noted = w.noted ++ noted_by o e.notes }) f.is_at

  pub holds_next : Holds g overlay (after overlay w e)
  holds_next = subst (Holds g overlay) (sym stepped_is) (record {
    parts = λ x name. part_at-each (PartHolds g overlay more) w.parts v.node v.group new x name new_part (same_part x name);
    sent = all_published;
    one = one_more w.past e f.fresh h.one;
    heard = heard_of;
  })

  -- the part of the entry's node and group after it
  pub part_there : (after overlay w e).parts v.node v.group ≡ new
  part_there = ap (λ (q : Groups). q.parts v.node v.group) stepped_is ∙ part_at-itself w.parts v.node v.group new

  -- what its notes and casts are
  pub due_note : (a : GroupNote) → Contains e.notes a → IsDueNote way_here v.group old new v.input a
  due_note a c =
      Each-contains (IsDueNote way_here v.group old new v.input) (step_at overlay w v).notes a facts.notes (subst (λ ns. Contains ns a) f.notes c)

  pub due_send : (s : GroupSent) → Contains e.messages s → (s.sender ≡ v.node) × (s.group ≡ v.group) × IsDueSend old v.input s.receiver s.message
  due_send s c =
      Each-contains (λ (t : GroupSent). (t.sender ≡ v.node) × (t.group ≡ v.group) × IsDueSend old v.input t.receiver t.message)
      (map (sent_from v.node v.group) (step_at overlay w v).sends) s
      (Each-map (λ (t : GroupSent). (t.sender ≡ v.node) × (t.group ≡ v.group) × IsDueSend old v.input t.receiver t.message) (sent_from v.node v.group)
      (step_at overlay w v).sends
      (Each-weaker (λ (a : Addressed). IsDueSend old v.input a.receiver a.message)
      (λ (a : Addressed). (v.node ≡ v.node) × (v.group ≡ v.group) × IsDueSend old v.input a.receiver a.message) (step_at overlay w v).sends
      (λ a d. (refl, refl, d)) facts.sends))
      (subst (λ ss. Contains ss s) f.messages c)
