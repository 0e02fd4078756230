-- Lists that a node's leaves and prefix table can't tell apart.
use Rattle.std.proofs.Common.{◌≡◌, ℕ, List, sym, ap, ◌∙◌, subst}
use Rattle.ring_math.specs.Sides.{also_of, leaves, left_side, right_side, entry_of}
use Rattle.leaf_set.specs.Leaves.{Leaves, StandsFor as LeafSetStandsFor}
use Rattle.lookup_core.specs.Kept.{Kept, StandsFor}
use Rattle.overlay_rules.specs.State.{State}
use Rattle.overlay_rules.specs.Outcome.{nothing}
use Rattle.node_parts.specs.declared.change.Prepared.{Prepared}
use Rattle.node_parts.specs.Plans.{Plans, Prepares}

-- who may have learnt one of them may have learnt the other
pub alike : (a b : Kept) (known others : List ℕ) → a.leafs.me ≡ b.leafs.me → StandsFor a known → StandsFor a others → StandsFor b known → StandsFor b others
alike a b known others me of_known of_others st =
    let tables : a.table.me ≡ b.table.me = of_known.me ∙ me ∙ sym st.me in
    record {
      me = st.me;
      leafs = record {
        right = st.leafs.right ∙ subst (λ m. right_side m known ≡ right_side m others) me (sym of_known.leafs.right ∙ of_others.leafs.right);
        left = st.leafs.left ∙ subst (λ m. left_side m known ≡ left_side m others) me (sym of_known.leafs.left ∙ of_others.leafs.left);
      };
      table = record {
        size = st.table.size;
        entry = λ row col hr hc.
            st.table.entry row col hr hc
            ∙ subst (λ m. entry_of m known row col ≡ entry_of m others row col) tables
            (sym (of_known.table.entry row col hr hc) ∙ of_others.table.entry row col hr hc);
      };
    }

-- they have the same leaves
pub same-leaves : (s : Leaves) (known others : List ℕ) → LeafSetStandsFor s known → LeafSetStandsFor s others → leaves s.me others ≡ leaves s.me known
same-leaves s known others st other =
    ap (λ ys. also_of ys (left_side s.me others)) (sym other.right ∙ st.right) ∙ ap (also_of (right_side s.me known)) (sym other.left ∙ st.left)

-- a step that only changes the state so prepares that it learns a list besides, if whoever may have learnt what it has may have learnt this
pub learnt-besides : (s : State) (p : Prepared) (u : State) (known : List ℕ) → Plans s p (nothing u) →
    ((k : Kept) → k.leafs.me ≡ s.me → StandsFor k u.known → StandsFor k known) → Prepares s p (nothing (record u { known = known }))
learnt-besides s p u known plans more = record {
  state = record {
    same = ap (λ (v : State). record v { known = known }) (sym plans.state);
    known = λ k me st. more k me (subst (λ (v : State). StandsFor k v.known) plans.state st);
  };
  messages = plans.messages;
  notes = plans.notes;
}
