-- What a woven record brings to a node is what the node's history took in.
use Rattle.std.proofs.Common.{◌≡◌, ◌⊎◌, inl, inr, ◌==◌, if◌then◌else◌, true, false, List, [], ◌∷◌, ◌++◌, Contains, refl, sym, ap, ◌∙◌}
use Rattle.std.proofs.lemmas.Bool.{cond-true, cond-false, cases_Bool}
use Rattle.std.specs.List.{AllZip}
use Rattle.ring_math.specs.Names.{Id}
use Rattle.wire_msg.specs.Words.{Envelope}
use Rattle.overlay_rules.specs.declared.entry.Event.{Event}
use Rattle.overlay_rules.specs.declared.entry.Entry.{Entry}
use Rattle.overlay_rules.specs.declared.entry.Record.{Record}
use Rattle.overlay_rules.specs.Record.{Setting, sent_in}
use Rattle.overlay_rules.proofs.Each.{Each, Each-contains, Each-from_all}
use Rattle.weave_laws.specs.Cells.{CellInput, Command, Comes, Noise, History, IsFor}
use Rattle.weave_laws.specs.Histories.{AreHistories}
use Rattle.weave_laws.specs.Woven.{Act, part, IsEventOf, IsEntryOf, IsWoven}
use Rattle.weave_laws.proofs.AtNodes.{all_addressed}
use Rattle.weave_laws.proofs.Interleaved.{part-there}
use Rattle.weave_laws.proofs.OneMore.{inputs_of}
use Rattle.overlay_harness.specs.Inputs.{all_brought, brought, comes_to, inputs_at}

abbrev if_at : Id → Id → CellInput → List CellInput
if_at x y i = if y == x then i ∷ [] else []

-- an entry brings its input to its own node, and nothing to others
brought_one : (sent : List Envelope) (x y : Id) (i : CellInput) (e : Event) → IsFor y i → IsEventOf sent y i e → brought x sent e ≡ if_at x y i
brought_one sent x y (Command n c) e f h = ap (brought x sent) h
brought_one sent x y (Comes v) e f (m, is, number) =
    ap (brought x sent) is ∙ ap (comes_to x) number.here ∙ ap (λ z. if_at x z (Comes v)) f
brought_one sent x y Noise e f h = ap (brought x sent) h

brought_all : (sent : List Envelope) (x : Id) (acts : List Act) (es : List Entry) → Each (λ (a : Act). IsFor a.node a.entry.input) acts →
    AllZip (IsEntryOf sent) acts es → all_brought x sent es ≡ inputs_of (part x acts)
brought_all sent x [] [] f z = refl
brought_all sent x [] (e ∷ es) f z = absurd z
brought_all sent x (a ∷ acts) [] f z = absurd z
brought_all sent x (a ∷ acts) (e ∷ es) f z =
    by_node (cases_Bool (a.node == x)) (brought_one sent x a.node a.entry.input e.event f.0 z.0.event) (brought_all sent x acts es f.1 z.1) where
      by_node : (a.node == x ≡ true) ⊎ (a.node == x ≡ false) → brought x sent e.event ≡ if_at x a.node a.entry.input →
          all_brought x sent es ≡ inputs_of (part x acts) → all_brought x sent (e ∷ es) ≡ inputs_of (part x (a ∷ acts))
      by_node (inl t) one rest =
          let own : part x (a ∷ acts) ≡ a.entry ∷ part x acts = cond-true (a.node == x) _ _ t in
          ap (λ is. is ++ all_brought x sent es) (one ∙ cond-true (a.node == x) (a.entry.input ∷ []) [] t)
          ∙ ap (λ is. a.entry.input ∷ is) rest
          ∙ sym (ap inputs_of own)
      by_node (inr t) one rest =
          ap (λ is. is ++ all_brought x sent es) (one ∙ cond-false (a.node == x) (a.entry.input ∷ []) [] t)
          ∙ rest
          ∙ sym (ap inputs_of (part-there x a acts t))

-- the inputs at the node of a history are the history's
pub inputs_are : (g : Setting) (hs : List History) (r : Record) → AreHistories g hs → IsWoven hs r → (h : History) → Contains hs h →
    inputs_at h.node r.entries ≡ inputs_of h.entries
inputs_are g hs r own w h c =
    brought_all (sent_in r.entries) h.node w.acts r.entries (all_addressed g hs r own w) w.entries
    ∙ ap inputs_of (Each-contains (λ (k : History). part k.node w.acts ≡ k.entries) hs h
    (Each-from_all (λ (k : History). part k.node w.acts ≡ k.entries) hs w.order.whole) c)
