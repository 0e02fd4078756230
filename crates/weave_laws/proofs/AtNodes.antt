-- Each history is its node's part of the woven record.
use Rattle.std.proofs.Common.{◌≡◌, ◌⊎◌, inl, inr, ◌==◌, true, false, List, [], ◌∷◌, filter, All, sym, subst, ap, ◌∙◌}
use Rattle.std.proofs.lemmas.Bool.{cond-true, cond-false, cases_Bool}
use Rattle.std.proofs.lemmas.Bool.Decides.{Decides-eqb}
use Rattle.std.specs.List.{AllZip}
use Rattle.ring_math.specs.Names.{Id}
use Rattle.wire_msg.specs.Words.{Envelope}
use Rattle.overlay_rules.specs.declared.entry.Event.{Event}
use Rattle.overlay_rules.specs.declared.entry.Entry.{Entry}
use Rattle.overlay_rules.specs.declared.entry.Record.{Record}
use Rattle.overlay_rules.specs.State.{State}
use Rattle.overlay_rules.specs.Record.{Setting, sent_in, visit}
use Rattle.overlay_rules.proofs.Each.{Each, Each-contains, Each-weaker, Each-from_all, Each-all}
use Rattle.weave_laws.specs.Cells.{CellInput, CellEntry, History, Command, Comes, Noise, IsFor, stepped, AreSteps}
use Rattle.weave_laws.specs.Histories.{AreHistories}
use Rattle.weave_laws.specs.Woven.{Act, part, IsEventOf, IsEntryOf, IsWoven}
use Rattle.weave_laws.specs.AtNode.{is_at, IsPartOf}
use Rattle.weave_laws.proofs.Interleaved.{part-there, IsTaken, visited}
use Rattle.weave_laws.proofs.Parts.{StandsIn, stand_in}
use Rattle.weave_laws.proofs.Lawful.{history_in}

-- ---- where an entry happened

taken_event : (sent : List Envelope) (x : Id) (i : CellInput) (e : Event) → IsEventOf sent x i e → IsTaken sent x i e
taken_event sent x (Command n c) e h = h
taken_event sent x (Comes v) e (m, is, number) = (m, is, number.here)
taken_event sent x Noise e h = h

at_its_node : (sent : List Envelope) (x : Id) (a : Act) (e : Entry) → IsFor a.node a.entry.input → IsEntryOf sent a e →
    is_at x (visit sent e.event) ≡ (a.node == x)
at_its_node sent x a e f h = ap (is_at x) (visited sent a.node a.entry.input e.event f (taken_event sent a.node a.entry.input e.event h.event))

-- ---- all entries of a node

abbrev Becomes : List Envelope → Id → CellEntry → Entry → Type 0
Becomes sent x c = IsEntryOf sent (record { node = x; entry = c })

abbrev at_node : List Envelope → Id → List Entry → List Entry
at_node sent x es = filter (λ e. is_at x (visit sent e.event)) es

part_becomes : (sent : List Envelope) (x : Id) (acts : List Act) (es : List Entry) → Each (λ (a : Act). IsFor a.node a.entry.input) acts →
    AllZip (IsEntryOf sent) acts es → AllZip (Becomes sent x) (part x acts) (at_node sent x es)
part_becomes sent x [] [] f z = tt
part_becomes sent x [] (e ∷ es) f z = absurd z
part_becomes sent x (a ∷ acts) [] f z = absurd z
part_becomes sent x (a ∷ acts) (e ∷ es) f z =
    by_node (cases_Bool (a.node == x)) (at_its_node sent x a e f.0 z.0) (part_becomes sent x acts es f.1 z.1) where
      by_node : (a.node == x ≡ true) ⊎ (a.node == x ≡ false) → is_at x (visit sent e.event) ≡ (a.node == x) →
          AllZip (Becomes sent x) (part x acts) (at_node sent x es) → AllZip (Becomes sent x) (part x (a ∷ acts)) (at_node sent x (e ∷ es))
      by_node (inl t) same rest =
          let here : a.node ≡ x = (Decides-eqb a.node x).0 t in
          let first : at_node sent x (e ∷ es) ≡ e ∷ at_node sent x es = cond-true (is_at x (visit sent e.event)) _ _ (same ∙ t) in
          let own : part x (a ∷ acts) ≡ a.entry ∷ part x acts = cond-true (a.node == x) _ _ t in
          subst (λ cs. AllZip (Becomes sent x) cs (at_node sent x (e ∷ es))) (sym own)
          (subst (λ fs. AllZip (Becomes sent x) (a.entry ∷ part x acts) fs) (sym first)
          (subst (λ y. IsEntryOf sent (record { node = y; entry = a.entry }) e) here z.0, rest))
      by_node (inr t) same rest =
          let first : at_node sent x (e ∷ es) ≡ at_node sent x es = cond-false (is_at x (visit sent e.event)) _ _ (same ∙ t) in
          subst (λ cs. AllZip (Becomes sent x) cs (at_node sent x (e ∷ es))) (sym (part-there x a acts t))
          (subst (λ fs. AllZip (Becomes sent x) (part x acts) fs) (sym first) rest)

-- ---- of the histories

addressed_each : (x : Id) (s : State) (es : List CellEntry) → AreSteps x s es → Each (λ (e : CellEntry). IsFor x e.input) es
addressed_each x s [] h = tt
addressed_each x s (e ∷ es) h = (h.0.addressed, addressed_each x (stepped s e) es h.1)

pub all_addressed : (g : Setting) (hs : List History) (r : Record) → AreHistories g hs → (w : IsWoven hs r) →
    Each (λ (a : Act). IsFor a.node a.entry.input) w.acts
all_addressed g hs r h w =
    Each-weaker (λ (a : Act). StandsIn hs a.node a.entry) (λ (a : Act). IsFor a.node a.entry.input) w.acts
    (λ a s.
    let own = s.history in
    let each = addressed_each own.node _ own.entries (history_in g hs h own s.among).cell.steps in
    subst (λ x. IsFor x a.entry.input) s.node (Each-contains (λ (e : CellEntry). IsFor own.node e.input) own.entries a.entry each s.stands))
    (stand_in hs w.acts w.order)

pub histories_are_parts : (g : Setting) (hs : List History) (r : Record) → AreHistories g hs → IsWoven hs r → All (IsPartOf r.entries) hs
histories_are_parts g hs r h w =
    Each-all (IsPartOf r.entries) hs
    (Each-weaker (λ (k : History). part k.node w.acts ≡ k.entries) (IsPartOf r.entries) hs
    (λ k whole. subst (λ cs. AllZip (Becomes (sent_in r.entries) k.node) cs (at_node (sent_in r.entries) k.node r.entries)) whole
    (part_becomes (sent_in r.entries) k.node w.acts r.entries (all_addressed g hs r h w) w.entries))
    (Each-from_all (λ (k : History). part k.node w.acts ≡ k.entries) hs w.order.whole))
