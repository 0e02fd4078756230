-- Steps of several nodes, in whatever order the nodes are interleaved, are a legal record: where at each node its part are steps
-- from its state, each envelope that comes in was sent before, and each command's number is fresh.
use Rattle.std.proofs.Common.{◌≡◌, ◌≢◌, ◌⊎◌, inl, inr, ℕ, ◌==◌, true, false, Some, List, [], ◌∷◌, ◌++◌, map, slice_get}
use Rattle.std.proofs.Common.{All, Contains, refl, sym, subst, ap, ◌∙◌}
use Rattle.std.proofs.lemmas.Bool.{cond-true, cond-false, cases_Bool}
use Rattle.std.proofs.lemmas.Bool.Decides.{Decides-eqb}
use Rattle.std.proofs.lemmas.List.Elements.{All-head, All-tail}
use Rattle.ring_math.specs.Names.{Id, Stamp}
use Rattle.wire_msg.specs.Words.{Envelope, Sent}
use Rattle.overlay_rules.specs.declared.entry.Event.{Event}
use Rattle.overlay_rules.specs.declared.entry.Event.TheVariants as event
use Rattle.overlay_rules.specs.declared.entry.Entry.{Entry}
use Rattle.overlay_rules.specs.State.{State, start}
use Rattle.overlay_rules.specs.Step.{step}
use Rattle.overlay_rules.specs.Record.{Setting, World, IsFresh, sent_in, visit, visit_of, state_at, states_after, after, unstamped, enveloped, Follows}
use Rattle.overlay_rules.specs.Record.{LegalFrom, Legal, world_at_start}
use Rattle.overlay_rules.proofs.Histories.{state_at-itself, state_at-other}
use Rattle.weave_laws.specs.Cells.{CellInput, Command, Comes, Noise, input_of, IsFor, stepped, IsStep, AreSteps}
use Rattle.weave_laws.specs.Woven.{Act, part}

-- ---- the part of a node

pub part-here : (a : Act) (acts : List Act) → part a.node (a ∷ acts) ≡ a.entry ∷ part a.node acts
part-here a acts = cond-true (a.node == a.node) _ _ ((Decides-eqb a.node a.node).1 refl)

pub part-there : (x : Id) (a : Act) (acts : List Act) → a.node == x ≡ false → part x (a ∷ acts) ≡ part x acts
part-there x a acts e = cond-false (a.node == x) _ _ e

-- ---- what an interleaving is: each envelope that comes in was sent before, and each number is fresh

-- the event takes the input of node x, of what was sent before
abbrev pub IsTaken : List Envelope → Id → CellInput → Event → Type 0
IsTaken sent x (Command n c) e = e ≡ event.Command x n c
IsTaken sent x (Comes v) e = (m : ℕ) × (e ≡ event.Deliver m) × (slice_get sent m ≡ Some v)
IsTaken sent x Noise e = e ≡ event.Noise x

-- entry e, that follows these, is what node x made of its input
pub record IsMade (past : List Entry) (a : Act) (e : Entry) : Type 0 where
  pub event : IsTaken (sent_in past) a.node a.entry.input e.event
  pub messages : e.messages ≡ a.entry.sent
  pub notes : e.notes ≡ a.entry.notes

abbrev pub AreMade : List Entry → List Act → List Entry → Type 0
AreMade past [] [] = Unit {0}
AreMade past [] (e ∷ es) = ⊥
AreMade past (a ∷ acts) [] = ⊥
AreMade past (a ∷ acts) (e ∷ es) = IsMade past a e × AreMade (past ++ e ∷ []) acts es

abbrev pub AreFresh : List Entry → List Entry → Type 0
AreFresh past [] = Unit {0}
AreFresh past (e ∷ es) = IsFresh past e.event × AreFresh (past ++ e ∷ []) es

-- ---- one entry

unstamped_each : (stamp : Stamp) (x : Id) (ss : List Sent) → map unstamped (map (enveloped stamp x) ss) ≡ map (enveloped 0 x) ss
unstamped_each stamp x [] = refl
unstamped_each stamp x (s ∷ ss) = ap (λ vs. enveloped 0 x s ∷ vs) (unstamped_each stamp x ss)

-- the input of an event is that of its node's step
pub visited : (sent : List Envelope) (x : Id) (i : CellInput) (e : Event) → IsFor x i → IsTaken sent x i e →
    visit sent e ≡ Some (record { node = x; input = input_of i })
visited sent x (Command n c) e f t = ap (visit sent) t
visited sent x Noise e f t = ap (visit sent) t
visited sent x (Comes v) e f (m, is, at) = ap (visit sent) is ∙ ap visit_of at ∙ ap (λ y. Some (record { node = y; input = input_of (Comes v) })) f

follows : (g : Setting) (w : World) (a : Act) (e : Entry) → Contains g.nodes a.node → IsStep a.node (w.states a.node) a.entry → IsMade w.past a e →
    IsFresh w.past e.event → Follows g w e
follows g w a e c s h fresh = record {
  at = record { node = a.node; input = input_of a.entry.input };
  is_at = visited (sent_in w.past) a.node a.entry.input e.event s.addressed h.event;
  member = c;
  fresh = fresh;
  messages = ap (map unstamped) (h.messages ∙ s.sent) ∙ unstamped_each a.entry.stamp a.node (step (w.states a.node) (input_of a.entry.input)).sends;
  notes = h.notes ∙ s.notes;
}

-- the states after it
moved : (w : World) (a : Act) (e : Entry) → IsFor a.node a.entry.input → IsTaken (sent_in w.past) a.node a.entry.input e.event →
    (after w e).states ≡ state_at w.states a.node (stepped (w.states a.node) a.entry)
moved w a e f t = ap (states_after w.states) (visited (sent_in w.past) a.node a.entry.input e.event f t)

-- ---- all entries

-- at each node its part are steps from its state
pub record PartsAreSteps (states : Id → State) (acts : List Act) : Type 0 where
  pub at : (x : Id) → AreSteps x (states x) (part x acts)

first_step : (states : Id → State) (a : Act) (acts : List Act) → PartsAreSteps states (a ∷ acts) →
    IsStep a.node (states a.node) a.entry × AreSteps a.node (stepped (states a.node) a.entry) (part a.node acts)
first_step states a acts p = subst (AreSteps a.node (states a.node)) (part-here a acts) (p.at a.node)

later_steps : (states : Id → State) (a : Act) (acts : List Act) → PartsAreSteps states (a ∷ acts) →
    PartsAreSteps (state_at states a.node (stepped (states a.node) a.entry)) acts
later_steps states a acts p = record { at = λ x. by_node x (cases_Bool (a.node == x)) } where
  by_node : (x : Id) → (a.node == x ≡ true) ⊎ (a.node == x ≡ false) → AreSteps x (state_at states a.node (stepped (states a.node) a.entry) x) (part x acts)
  by_node x (inl e) =
      let same : a.node ≡ x = (Decides-eqb a.node x).0 e in
      subst (λ y. AreSteps y (state_at states a.node (stepped (states a.node) a.entry) y) (part y acts)) same
      (subst (λ s. AreSteps a.node s (part a.node acts)) (sym (state_at-itself states a.node (stepped (states a.node) a.entry))) (first_step states a acts p).1)
  by_node x (inr e) =
      let other : x ≢ a.node = λ f. let t : a.node == x ≡ true = (Decides-eqb a.node x).1 (sym f) in cc in
      subst (λ s. AreSteps x s (part x acts)) (sym (state_at-other states a.node (stepped (states a.node) a.entry) x other))
      (subst (AreSteps x (states x)) (part-there x a acts e) (p.at x))

pub legal_from : (g : Setting) (w : World) (acts : List Act) (es : List Entry) → All (λ (a : Act). Contains g.nodes a.node) acts → PartsAreSteps w.states acts →
    AreMade w.past acts es → AreFresh w.past es → LegalFrom g w es
legal_from g w [] [] c p m f = tt
legal_from g w [] (e ∷ es) c p m f = absurd m
legal_from g w (a ∷ acts) [] c p m f = absurd m
legal_from g w (a ∷ acts) (e ∷ es) c p m f =
    let s = (first_step w.states a acts p).0 in (
      follows g w a e (All-head (λ (b : Act). Contains g.nodes b.node) a acts c) s m.0 f.0,
      legal_from g (after w e) acts es (All-tail (λ (b : Act). Contains g.nodes b.node) a acts c)
          (subst (λ states. PartsAreSteps states acts) (sym (moved w a e s.addressed m.0.event)) (later_steps w.states a acts p))
          m.1 f.1,
    )

-- the steps of nodes from their start on are a legal record
pub legal_interleaving : (g : Setting) (acts : List Act) (es : List Entry) → All (λ (a : Act). Contains g.nodes a.node) acts →
    ((x : Id) → AreSteps x (start x (x == g.founder)) (part x acts)) → AreMade [] acts es → AreFresh [] es → Legal g es
legal_interleaving g acts es c p m f = legal_from g (world_at_start g) acts es c (record { at = p }) m f
