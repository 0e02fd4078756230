-- A legal record that is taken through cells, entry by entry: every event comes to the cell of a node of the setting, which makes
-- of it what the record has there, but for stamps. No stamp exceeds the number of entries so far.
use Rattle.std.proofs.Common.{◌≡◌, ◌≢◌, ◌<◌, ◌≤◌, ◌+◌, ◌==◌, ◌⊎◌, inl, inr, ℕ, true}
use Rattle.std.proofs.Common.{false, Option, Some, None, List, [], ◌∷◌, ◌++◌, map, slice_get, length, Contains}
use Rattle.std.proofs.Common.{refl, sym, subst, ap, ◌∙◌, append-nil, length-append, arith}
use Rattle.std.proofs.lemmas.Bool.{cases_Bool}
use Rattle.std.proofs.lemmas.Bool.Decides.{Decides-eqb}
use Rattle.std.proofs.lemmas.Grind.{flat_map-append}
use Rattle.std.proofs.lemmas.List.{map-append}
use Rattle.std.proofs.lemmas.List.Concat.{flat_map-cons}
use Rattle.std.proofs.lemmas.List.Elements.{Contains-append_left, Contains-push_cases}
use Rattle.std.proofs.lemmas.Option.{slice_get-map, slice_get_within}
use Rattle.std.proofs.lemmas.Slice.Zip.{all_zipped_more}
use Rattle.std.specs.List.{AllZip}
use Rattle.std.specs.Option.{option_map}
use Rattle.ring_math.specs.Names.{Id, Number, Stamp}
use Rattle.wire_msg.specs.declared.command.Command.{Command as NodeCommand}
use Rattle.wire_msg.specs.Words.{Envelope, Sent}
use Rattle.overlay_rules.specs.declared.entry.Event.{Event}
use Rattle.overlay_rules.specs.declared.entry.Event.TheVariants as event
use Rattle.overlay_rules.specs.declared.entry.Entry.{Entry}
use Rattle.overlay_rules.specs.State.{State, start}
use Rattle.overlay_rules.specs.Outcome as outcome
use Rattle.overlay_rules.specs.Step.{step}
use Rattle.overlay_rules.specs.Record.{Setting, World, Visit, IsFresh, IsFreshAfter, Follows, sent_in}
use Rattle.overlay_rules.specs.Record.{visit, visit_of, states_after, state_at, after, unstamped, enveloped}
use Rattle.overlay_rules.proofs.Each.{Each, Each-append, Each-contains, Each-from_all, Each-slice_get, Each-weaker}
use Rattle.overlay_rules.proofs.Histories.{sent_in-push, state_at-itself, state_at-other}
use Rattle.overlay_rules.proofs.OneMore.{slice_get-more}
use Rattle.weave_laws.specs.Cells.{CellInput, CellEntry, Command, Comes, Noise, IsFor, input_of, input_stamp, replay, last_stamp}
use Rattle.weave_laws.specs.Woven.{Act, part}
use Rattle.weave_laws.proofs.Interleaved.{part-here, part-there}
use Rattle.weave_laws.proofs.OneMore.{replay-push}
use Rattle.weave_laws.proofs.Sorted.{part-append}
use Rattle.weave.specs.Placed.{sent_by}
use Rattle.weave.specs.Stops.{IsAnswered}
use Rattle.weave.specs.Through.{Arrival, arrival, delivered, state_by, act_next}
use Rattle.weave.proofs.Standing.{act, contains_get}

-- ---- the part of a node

pub part_each : (Q : Act → Type 0) (x : Id) (acts : List Act) → Each Q acts → Each (λ e. Q (act x e)) (part x acts)
part_each Q x [] h = tt
part_each Q x (a ∷ acts) h = by_node (cases_Bool (a.node == x)) (part_each Q x acts h.1) where
  by_node : (a.node == x ≡ true) ⊎ (a.node == x ≡ false) → Each (λ e. Q (act x e)) (part x acts) → Each (λ e. Q (act x e)) (part x (a ∷ acts))
  by_node (inl t) rest =
      let same : a.node ≡ x = (Decides-eqb a.node x).0 t in
      let own : part x (a ∷ acts) ≡ a.entry ∷ part x acts = subst (λ y. part y (a ∷ acts) ≡ a.entry ∷ part y acts) same (part-here a acts) in
      subst (Each (λ e. Q (act x e))) (sym own) (subst (λ y. Q (act y a.entry)) same h.0, rest)
  by_node (inr t) rest = subst (Each (λ e. Q (act x e))) (sym (part-there x a acts t)) rest

pub part-push : (a : Act) (acts : List Act) → part a.node (acts ++ a ∷ []) ≡ part a.node acts ++ a.entry ∷ []
part-push a acts = part-append a.node acts (a ∷ []) ∙ ap (λ es. part a.node acts ++ es) (part-here a [])

pub part-push_other : (x : Id) (a : Act) (acts : List Act) → a.node == x ≡ false → part x (acts ++ a ∷ []) ≡ part x acts
part-push_other x a acts e = part-append x acts (a ∷ []) ∙ ap (λ es. part x acts ++ es) (part-there x a [] e) ∙ append-nil (part x acts)

-- ---- what an event brings

-- the event brings this, where the cells sent these
pub data Brings (sent : List Envelope) : Event → Arrival → Type 0 where
  commanded : (x : Id) (n : Number) (c : NodeCommand) → Brings sent (event.Command x n c) (record { node = x; input = Command n c })
  handed : (m : ℕ) (v : Envelope) → slice_get sent m ≡ Some v → Brings sent (event.Deliver m) (record { node = v.receiver; input = Comes v })
  noised : (x : Id) → Brings sent (event.Noise x) (record { node = x; input = Noise })

abbrev at_cell : Arrival → Visit
at_cell a = record { node = a.node; input = input_of a.input }

pub brings_is : (sent : List Envelope) (v : Event) (a : Arrival) → Brings sent v a → arrival sent v ≡ Some a
brings_is sent v a (commanded x n c) = refl
brings_is sent v a (handed m u e) = ap delivered e
brings_is sent v a (noised x) = refl

pub brings_for : (sent : List Envelope) (v : Event) (a : Arrival) → Brings sent v a → IsFor a.node a.input
brings_for sent v a (commanded x n c) = tt
brings_for sent v a (handed m u e) = refl
brings_for sent v a (noised x) = tt

pub brings_sent : (sent : List Envelope) (v : Event) (a : Arrival) → Brings sent v a → IsAnswered sent a.input
brings_sent sent v a (commanded x n c) = tt
brings_sent sent v a (handed m u e) = contains_get sent m u e
brings_sent sent v a (noised x) = tt

pub brings_stamp : (sent : List Envelope) (n : Stamp) (v : Event) (a : Arrival) → Each (λ (u : Envelope). u.stamp ≤ n) sent → Brings sent v a →
    input_stamp a.input ≤ n
brings_stamp sent n v a h (commanded x k c) = omega arith
brings_stamp sent n v a h (handed m u e) = Each-slice_get (λ (w : Envelope). w.stamp ≤ n) sent m u h e
brings_stamp sent n v a h (noised x) = omega arith

-- it brings what comes to the node in the record, where the cells sent the record's messages but for stamps
pub record Brought (sent : List Envelope) (v : Event) (at : Visit) : Type 0 where
  pub arrival : Arrival
  pub brings : Brings sent v arrival
  pub same : at_cell arrival ≡ at

pub brought : (us vs : List Envelope) → map unstamped us ≡ map unstamped vs → (v : Event) (at : Visit) → visit us v ≡ Some at → Brought vs v at
brought us vs same (event.Command x n c) at e =
    record { arrival = record { node = x; input = Command n c }; brings = commanded x n c; same = cc }
brought us vs same (event.Noise x) at e = record { arrival = record { node = x; input = Noise }; brings = noised x; same = cc }
brought us vs same (event.Deliver m) at e =
    found (slice_get us m) (slice_get vs m) refl refl
    (sym (slice_get-map unstamped us m) ∙ ap (λ ws. slice_get ws m) same ∙ slice_get-map unstamped vs m) e where
      found : (o p : Option Envelope) → slice_get us m ≡ o → slice_get vs m ≡ p → option_map unstamped o ≡ option_map unstamped p → visit_of o ≡ Some at →
          Brought vs (event.Deliver m) at
      found None p h k alike is = cc
      found (Some u) None h k alike is = cc
      found (Some u) (Some w) h k alike is =
          let one : unstamped u ≡ unstamped w = cc in
          let seen : visit_of (Some u) ≡ visit_of (Some w) = ap (λ z. visit_of (Some z)) one in
          let here : Some (at_cell (record { node = w.receiver; input = Comes w })) ≡ Some at = sym seen ∙ is in
          record { arrival = record { node = w.receiver; input = Comes w }; brings = handed m w k; same = cc }

-- ---- numbers of commands

-- of an input that comes later to a node: its number, if both are commands, is another one, and at one node greater
abbrev pub IsNewer : Id → CellInput → Id → CellInput → Type 0
IsNewer x (Command n c) y (Command m d) = (n ≢ m) × (x ≡ y → m < n)
IsNewer x (Command n c) y (Comes v) = Unit {0}
IsNewer x (Command n c) y Noise = Unit {0}
IsNewer x (Comes v) y j = Unit {0}
IsNewer x Noise y j = Unit {0}

-- what a record has and what a cell made of it are alike
pub record Matches (sent : List Envelope) (e : Entry) (a : Act) : Type 0 where
  pub comes : visit sent e.event ≡ Some (record { node = a.node; input = input_of a.entry.input })
  pub messages : map unstamped e.messages ≡ map unstamped a.entry.sent
  pub notes : e.notes ≡ a.entry.notes

newer_one : (sent : List Envelope) (x : Id) (n : Number) (c : NodeCommand) (u : Event) (y : Id) (j : CellInput) →
    visit sent u ≡ Some (record { node = y; input = input_of j }) → IsFreshAfter x n u → IsNewer x (Command n c) y j
newer_one sent x n c u y (Comes v) e f = tt
newer_one sent x n c u y Noise e f = tt
newer_one sent x n c (event.Noise z) y (Command m d) e f =
    let same : ◌≡◌ {A = Visit} (record { node = z; input = outcome.Noise }) (record { node = y; input = outcome.Command m d }) = cc in
    let input : outcome.Noise ≡ outcome.Command m d = ap (λ (q : Visit). q.input) same in
    cc
newer_one sent x n c (event.Deliver k) y (Command m d) e f = found (slice_get sent k) e where
  found : (o : Option Envelope) → visit_of o ≡ Some (record { node = y; input = outcome.Command m d }) → IsNewer x (Command n c) y (Command m d)
  found None h = cc
  found (Some v) h =
      let same : ◌≡◌ {A = Visit} (record { node = v.receiver; input = outcome.Comes v.sender v.message }) (record { node = y; input = outcome.Command m d }) =
      cc in
      let input : outcome.Comes v.sender v.message ≡ outcome.Command m d = ap (λ (q : Visit). q.input) same in
      cc
newer_one sent x n c (event.Command z k b) y (Command m d) e f =
    let same : ◌≡◌ {A = Visit} (record { node = z; input = outcome.Command k b }) (record { node = y; input = outcome.Command m d }) = cc in
    let node : z ≡ y = ap (λ (q : Visit). q.node) same in
    let input : outcome.Command k b ≡ outcome.Command m d = ap (λ (q : Visit). q.input) same in
    let number : k ≡ m = cc in
    subst (λ i. (n ≢ i) × (x ≡ y → i < n)) number (subst (λ w. (n ≢ k) × (x ≡ w → k < n)) node f)

newer_each : (sent : List Envelope) (x : Id) (n : Number) (c : NodeCommand) (es : List Entry) (acts : List Act) →
    Each (λ (e : Entry). IsFreshAfter x n e.event) es → AllZip (Matches sent) es acts → Each (λ (b : Act). IsNewer x (Command n c) b.node b.entry.input) acts
newer_each sent x n c [] [] f z = tt
newer_each sent x n c [] (b ∷ acts) f z = absurd z
newer_each sent x n c (e ∷ es) [] f z = absurd z
newer_each sent x n c (e ∷ es) (b ∷ acts) f z =
    (newer_one sent x n c e.event b.node b.entry.input z.0.comes f.0, newer_each sent x n c es acts f.1 z.1)

each_newer_comes : (x : Id) (v : Envelope) (acts : List Act) → Each (λ (b : Act). IsNewer x (Comes v) b.node b.entry.input) acts
each_newer_comes x v [] = tt
each_newer_comes x v (b ∷ acts) = (tt, each_newer_comes x v acts)

each_newer_noise : (x : Id) (acts : List Act) → Each (λ (b : Act). IsNewer x Noise b.node b.entry.input) acts
each_newer_noise x [] = tt
each_newer_noise x (b ∷ acts) = (tt, each_newer_noise x acts)

pub brings_newer : (vs us : List Envelope) (past : List Entry) (acts : List Act) (v : Event) (a : Arrival) → Brings vs v a → IsFresh past v →
    AllZip (Matches us) past acts → Each (λ (b : Act). IsNewer a.node a.input b.node b.entry.input) acts
brings_newer vs us past acts v a (commanded x n c) f z =
    newer_each us x n c past acts (Each-from_all (λ (e : Entry). IsFreshAfter x n e.event) past f) z
brings_newer vs us past acts v a (handed m w e) f z = each_newer_comes w.receiver w acts
brings_newer vs us past acts v a (noised x) f z = each_newer_noise x acts

-- no number is that of commands at two nodes
pub record HaveOwnNumbers (acts : List Act) : Type 0 where
  pub one_node : (a b : Act) (n : Number) (c d : NodeCommand) → Contains acts a → Contains acts b → a.entry.input ≡ Command n c → b.entry.input ≡ Command n d →
      a.node ≡ b.node

other_number : (x y : Id) (i j : CellInput) (n : Number) (c d : NodeCommand) → IsNewer x i y j → i ≡ Command n c → j ≡ Command n d → ⊥
other_number x y i j n c d h e f =
    let g : IsNewer x (Command n c) y (Command n d) =
    subst (λ k. IsNewer x (Command n c) y k) f (subst (λ k. IsNewer x k y j) e h) in
    g.0 refl

numbers-push : (acts : List Act) (a : Act) → HaveOwnNumbers acts → Each (λ (b : Act). IsNewer a.node a.entry.input b.node b.entry.input) acts →
    HaveOwnNumbers (acts ++ a ∷ [])
numbers-push acts a h newer = record { one_node = pair } where
  clash : (b : Act) (n : Number) (c d : NodeCommand) → Contains acts b → a.entry.input ≡ Command n c → b.entry.input ≡ Command n d → ⊥
  clash b n c d k e f =
      other_number a.node b.node a.entry.input b.entry.input n c d
      (Each-contains (λ (q : Act). IsNewer a.node a.entry.input q.node q.entry.input) acts b newer k) e f

  pair : (b q : Act) (n : Number) (c d : NodeCommand) → Contains (acts ++ a ∷ []) b → Contains (acts ++ a ∷ []) q → b.entry.input ≡ Command n c →
      q.entry.input ≡ Command n d → b.node ≡ q.node
  pair b q n c d k l e f =
      elim (Contains-push_cases acts a b k) [
        | inl old ↦ elim (Contains-push_cases acts a q l) [
          | inl also ↦ h.one_node b q n c d old also e f
          | inr is ↦ absurd (clash b n d c old (subst (λ (z : Act). z.entry.input ≡ Command n d) (sym is) f) e)
        ]
        | inr is ↦ elim (Contains-push_cases acts a q l) [
          | inl old ↦ absurd (clash q n c d old (subst (λ (z : Act). z.entry.input ≡ Command n c) (sym is) e) f)
          | inr also ↦ ap (λ (z : Act). z.node) (sym is ∙ also)
        ]
      ]

-- ---- what the cells sent

abbrev pub sends : Act → List Envelope
sends a = a.entry.sent

pub sent_by-push : (acts : List Act) (a : Act) → sent_by (acts ++ a ∷ []) ≡ sent_by acts ++ a.entry.sent
sent_by-push acts a =
    flat_map-append sends acts (a ∷ []) ∙ ap (λ vs. sent_by acts ++ vs) (flat_map-cons sends a [] ∙ append-nil a.entry.sent)

sent_alike : (sent : List Envelope) (es : List Entry) (acts : List Act) → AllZip (Matches sent) es acts →
    map unstamped (sent_in es) ≡ map unstamped (sent_by acts)
sent_alike sent [] [] z = refl
sent_alike sent [] (a ∷ acts) z = absurd z
sent_alike sent (e ∷ es) [] z = absurd z
sent_alike sent (e ∷ es) (a ∷ acts) z =
    map-append unstamped e.messages (sent_in es)
    ∙ ap (λ vs. vs ++ map unstamped (sent_in es)) z.0.messages
    ∙ ap (λ vs. map unstamped a.entry.sent ++ vs) (sent_alike sent es acts z.1)
    ∙ sym (map-append unstamped a.entry.sent (sent_by acts))
    ∙ ap (map unstamped) (sym (flat_map-cons sends a acts))

unstamped_each : (stamp : Stamp) (x : Id) (ss : List Sent) → map unstamped (map (enveloped stamp x) ss) ≡ map (enveloped 0 x) ss
unstamped_each stamp x [] = refl
unstamped_each stamp x (s ∷ ss) = ap (λ vs. enveloped 0 x s ∷ vs) (unstamped_each stamp x ss)

stamped_each : (n stamp : Stamp) (x : Id) (ss : List Sent) → stamp ≤ n → Each (λ (v : Envelope). v.stamp ≤ n) (map (enveloped stamp x) ss)
stamped_each n stamp x [] le = tt
stamped_each n stamp x (s ∷ ss) le = (le, stamped_each n stamp x ss le)

-- ---- where more was sent

visit-more : (sent more : List Envelope) (v : Event) (at : Visit) → visit sent v ≡ Some at → visit (sent ++ more) v ≡ Some at
visit-more sent more (event.Command x n c) at e = e
visit-more sent more (event.Noise x) at e = e
visit-more sent more (event.Deliver m) at e = found (slice_get sent m) refl e where
  found : (o : Option Envelope) → slice_get sent m ≡ o → visit_of o ≡ Some at → visit_of (slice_get (sent ++ more) m) ≡ Some at
  found None h is = cc
  found (Some u) h is = ap visit_of (slice_get-more sent more m (slice_get_within sent m u h) ∙ h) ∙ is

matches-more : (sent more : List Envelope) (e : Entry) (a : Act) → Matches sent e a → Matches (sent ++ more) e a
matches-more sent more e a h = record { comes = visit-more sent more e.event _ h.comes; messages = h.messages; notes = h.notes }

all_match-more : (sent more : List Envelope) (es : List Entry) (acts : List Act) → AllZip (Matches sent) es acts → AllZip (Matches (sent ++ more)) es acts
all_match-more sent more [] [] z = tt
all_match-more sent more [] (a ∷ acts) z = absurd z
all_match-more sent more (e ∷ es) [] z = absurd z
all_match-more sent more (e ∷ es) (a ∷ acts) z = (matches-more sent more e a z.0, all_match-more sent more es acts z.1)

answered-more : (sent more : List Envelope) (i : CellInput) → IsAnswered sent i → IsAnswered (sent ++ more) i
answered-more sent more (Command n c) h = tt
answered-more sent more (Comes v) h = Contains-append_left sent more v h
answered-more sent more Noise h = tt

-- ---- stamps

last_below : (n last : Stamp) (es : List CellEntry) → last ≤ n → Each (λ (e : CellEntry). e.stamp ≤ n) es → last_stamp last es ≤ n
last_below n last [] le h = le
last_below n last (e ∷ es) le h = last_below n e.stamp es h.0 h.1

-- ---- after the first entries

-- the cells after the entries of a world's past
pub record HasPassed (g : Setting) (w : World) (acts : List Act) : Type 0 where
  pub alike : AllZip (Matches (sent_in w.past)) w.past acts
  pub states : (x : Id) → state_by g acts x ≡ w.states x
  pub members : Each (λ (a : Act). Contains g.nodes a.node) acts
  pub addressed : Each (λ (a : Act). IsFor a.node a.entry.input) acts
  pub answered : Each (λ (a : Act). IsAnswered (sent_by acts) a.entry.input) acts
  pub stamps : Each (λ (a : Act). a.entry.stamp ≤ length acts) acts
  pub stamped : Each (λ (v : Envelope). v.stamp ≤ length acts) (sent_by acts)
  pub numbers : HaveOwnNumbers acts

-- what the next entry's event brings, and that what the cell makes of it is what the entry has
pub record IsNext (g : Setting) (w : World) (acts : List Act) (e : Entry) : Type 0 where
  pub arrival : Arrival
  pub brings : Brings (sent_by acts) e.event arrival
  pub matches : Matches (sent_in w.past) e (act_next g acts arrival)
  pub member : Contains g.nodes arrival.node
  pub newer : Each (λ (b : Act). IsNewer arrival.node arrival.input b.node b.entry.input) acts

pub last_stamp_below : (g : Setting) (w : World) (acts : List Act) → HasPassed g w acts → (x : Id) → last_stamp 0 (part x acts) ≤ length acts
last_stamp_below g w acts h x =
    last_below (length acts) 0 (part x acts) (omega arith) (part_each (λ (a : Act). a.entry.stamp ≤ length acts) x acts h.stamps)

pub next : (g : Setting) (w : World) (acts : List Act) (e : Entry) → HasPassed g w acts → Follows g w e → IsNext g w acts e
next g w acts e h f = record {
  arrival = a;
  brings = b.brings;
  matches = record {
    comes = f.is_at ∙ ap Some (sym b.same);
    messages = messages ∙ sym (unstamped_each (act_next g acts a).entry.stamp a.node (step (state_by g acts a.node) (input_of a.input)).sends);
    notes = notes;
  };
  member = subst (λ (v : Visit). Contains g.nodes v.node) (sym b.same) f.member;
  newer = brings_newer (sent_by acts) (sent_in w.past) w.past acts e.event a b.brings f.fresh h.alike;
} where
  b : Brought (sent_by acts) e.event f.at
  b = brought (sent_in w.past) (sent_by acts) (sent_alike (sent_in w.past) w.past acts h.alike) e.event f.at f.is_at

  a : Arrival
  a = b.arrival

  messages : map unstamped e.messages ≡ map (enveloped 0 a.node) (step (state_by g acts a.node) (input_of a.input)).sends
  messages = subst (λ (s : State). map unstamped e.messages ≡ map (enveloped 0 a.node) (step s (input_of a.input)).sends) (sym (h.states a.node))
      (subst (λ (v : Visit). map unstamped e.messages ≡ map (enveloped 0 v.node) (step (w.states v.node) v.input).sends) (sym b.same) f.messages)

  notes : e.notes ≡ (step (state_by g acts a.node) (input_of a.input)).notes
  notes = subst (λ (s : State). e.notes ≡ (step s (input_of a.input)).notes) (sym (h.states a.node))
      (subst (λ (v : Visit). e.notes ≡ (step (w.states v.node) v.input).notes) (sym b.same) f.notes)

states-push : (g : Setting) (w : World) (acts : List Act) (a : Arrival) → ((x : Id) → state_by g acts x ≡ w.states x) → (x : Id) →
    state_by g (acts ++ act_next g acts a ∷ []) x ≡ state_at w.states a.node (step (w.states a.node) (input_of a.input)).state x
states-push g w acts a h x = by_node (cases_Bool (a.node == x)) where
  z : Act
  z = act_next g acts a

  ne_of : (y q : Id) → y == q ≡ false → y ≢ q
  ne_of y q t e = let u : y == q ≡ true = (Decides-eqb y q).1 e in cc

  by_node : (a.node == x ≡ true) ⊎ (a.node == x ≡ false) →
      state_by g (acts ++ z ∷ []) x ≡ state_at w.states a.node (step (w.states a.node) (input_of a.input)).state x
  by_node (inl t) =
      subst (λ y. state_by g (acts ++ z ∷ []) y ≡ state_at w.states a.node (step (w.states a.node) (input_of a.input)).state y) ((Decides-eqb a.node x).0 t)
      (ap (replay (start a.node (a.node == g.founder))) (part-push z acts)
      ∙ replay-push (start a.node (a.node == g.founder)) (part a.node acts) z.entry
      ∙ ap (λ (s : State). (step s (input_of a.input)).state) (h a.node)
      ∙ sym (state_at-itself w.states a.node (step (w.states a.node) (input_of a.input)).state))
  by_node (inr t) =
      ap (replay (start x (x == g.founder))) (part-push_other x z acts t)
      ∙ h x
      ∙ sym (state_at-other w.states a.node (step (w.states a.node) (input_of a.input)).state x (λ e. ne_of a.node x t (sym e)))

pub passed-push : (g : Setting) (w : World) (acts : List Act) (e : Entry) → HasPassed g w acts → (n : IsNext g w acts e) →
    HasPassed g (after w e) (acts ++ act_next g acts n.arrival ∷ [])
passed-push g w acts e h n = record {
  alike = subst (λ vs. AllZip (Matches vs) (w.past ++ e ∷ []) (acts ++ z ∷ [])) (sym (sent_in-push w.past e))
      (all_zipped_more (Matches (sent_in w.past ++ e.messages)) w.past acts e z (all_match-more (sent_in w.past) e.messages w.past acts h.alike)
      (matches-more (sent_in w.past) e.messages e z n.matches));
  states = λ x. states-push g w acts a h.states x ∙ sym (ap (λ o. states_after w.states o x) n.matches.comes);
  members = Each-append (λ (b : Act). Contains g.nodes b.node) acts (z ∷ []) h.members (n.member, tt);
  addressed = Each-append (λ (b : Act). IsFor b.node b.entry.input) acts (z ∷ []) h.addressed (brings_for (sent_by acts) e.event a n.brings, tt);
  answered = subst (λ vs. Each (λ (b : Act). IsAnswered vs b.entry.input) (acts ++ z ∷ [])) (sym (sent_by-push acts z))
      (Each-append (λ (b : Act). IsAnswered (sent_by acts ++ z.entry.sent) b.entry.input) acts (z ∷ [])
      (Each-weaker (λ (b : Act). IsAnswered (sent_by acts) b.entry.input) (λ (b : Act). IsAnswered (sent_by acts ++ z.entry.sent) b.entry.input) acts
      (λ b k. answered-more (sent_by acts) z.entry.sent b.entry.input k) h.answered)
      (answered-more (sent_by acts) z.entry.sent a.input (brings_sent (sent_by acts) e.event a n.brings), tt));
  stamps = Each-append (λ (b : Act). b.entry.stamp ≤ length (acts ++ z ∷ [])) acts (z ∷ [])
      (Each-weaker (λ (b : Act). b.entry.stamp ≤ length acts) (λ (b : Act). b.entry.stamp ≤ length (acts ++ z ∷ [])) acts
      (λ b le. omega (arith, long)) h.stamps) (stamp, tt);
  stamped = subst (Each (λ (v : Envelope). v.stamp ≤ length (acts ++ z ∷ []))) (sym (sent_by-push acts z))
      (Each-append (λ (v : Envelope). v.stamp ≤ length (acts ++ z ∷ [])) (sent_by acts) z.entry.sent
      (Each-weaker (λ (v : Envelope). v.stamp ≤ length acts) (λ (v : Envelope). v.stamp ≤ length (acts ++ z ∷ [])) (sent_by acts)
      (λ v le. omega (arith, long)) h.stamped)
      (stamped_each (length (acts ++ z ∷ [])) z.entry.stamp a.node (step (state_by g acts a.node) (input_of a.input)).sends stamp));
  numbers = numbers-push acts z h.numbers n.newer;
} where
  a : Arrival
  a = n.arrival

  z : Act
  z = act_next g acts n.arrival

  long : length (acts ++ z ∷ []) ≡ length acts + 1
  long = length-append acts (z ∷ [])

  stamp : z.entry.stamp ≤ length (acts ++ z ∷ [])
  stamp =
      let last = last_stamp_below g w acts h a.node in
      let own = brings_stamp (sent_by acts) (length acts) e.event a h.stamped n.brings in
      omega (arith, long)
