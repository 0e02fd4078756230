-- One node of a world changes: the others stand for what they stood for.
use Rattle.std.proofs.Common.{◌≡◌, ◌≢◌, ◌<◌, ◌==◌, ℕ, zero, suc, Bool, true, false, List, [], ◌∷◌, ◌++◌, length, get_or, refl, sym, ap, subst, ◌∙◌, arith}
use Rattle.std.proofs.Common.{get_or-set_same, get_or-set_other}
use Rattle.std.proofs.Math.ListN.{set, length-set}
use Rattle.std.proofs.lemmas.Bool.Decides.{Decides-eqb}
use Rattle.overlay_rules.specs.State.{State}
use Rattle.overlay_rules.specs.Record.{state_at}
use Rattle.overlay_rules.proofs.Histories.{state_at-itself, state_at-other}
use Rattle.node_parts.specs.declared.node.Node.{Node}
use Rattle.node_parts.specs.Seen.{Stands}
use Rattle.world_model.specs.Cells.{ids_of, id_at, AllStand, AreDifferent}

by_test : {P : Type 0} (b : Bool) → (b ≡ true → P) → (b ≡ false → P) → P
by_test true f g = f refl
by_test false f g = g refl

pub ids-length : (nodes : List Node) → length (ids_of nodes) ≡ length nodes
ids-length [] = refl
ids-length (n ∷ ns) = let i = ids-length ns in omega arith

pub id-read : (nodes : List Node) (i : ℕ) (d : Node) → i < length nodes → id_at nodes i ≡ (get_or nodes i d).me
id-read [] i d l = absurd (omega arith)
id-read (n ∷ ns) zero d l = refl
id-read (n ∷ ns) (suc i) d l = id-read ns i d (omega arith)

pub ids-set : (nodes : List Node) (i : ℕ) (d new : Node) → i < length nodes → new.me ≡ (get_or nodes i d).me → ids_of (set nodes i new) ≡ ids_of nodes
ids-set [] i d new l e = absurd (omega arith)
ids-set (n ∷ ns) zero d new l e = ap (λ (m : ℕ). m ∷ ids_of ns) e
ids-set (n ∷ ns) (suc i) d new l e = ap (λ ms. n.me ∷ ms) (ids-set ns i d new (omega arith) e)

pub ids-push : (nodes : List Node) (n : Node) → ids_of (nodes ++ n ∷ []) ≡ ids_of nodes ++ n.me ∷ []
ids-push [] n = refl
ids-push (m ∷ ms) n = ap (λ ids. m.me ∷ ids) (ids-push ms n)

pub stand-at : (nodes : List Node) (states : ℕ → State) (i : ℕ) (x : Node) → AllStand nodes states → i < length nodes → x ≡ get_or nodes i x →
    Stands x (states x.me)
stand-at nodes states i x a l r = subst (λ (n : Node). Stands n (states n.me)) (sym r) (a.each i x l)

pub all-set : (nodes : List Node) (old states : ℕ → State) (i : ℕ) (new : Node) → AllStand nodes old → i < length nodes → Stands new (states new.me) →
    ((k : ℕ) (d : Node) → k < length nodes → k ≢ i → states (get_or nodes k d).me ≡ old (get_or nodes k d).me) → AllStand (set nodes i new) states
all-set nodes old states i new a l s same =
    record {
      each = λ k d h. by_test (k == i)
          (λ t. let e : k ≡ i = (Decides-eqb k i).0 t in
          subst (λ (n : Node). Stands n (states n.me)) (sym (ap (λ q. get_or (set nodes i new) q d) e ∙ get_or-set_same nodes i new d l)) s)
          (λ t. let ne : k ≢ i = λ e. let f : k == i ≡ true = (Decides-eqb k i).1 e in cc in
          let b : k < length nodes = omega (arith, length-set {A = Node}) in
          subst (λ (n : Node). Stands n (states n.me)) (sym (get_or-set_other nodes i k new d ne))
          (subst (λ (q : State). Stands (get_or nodes k d) q) (sym (same k d b ne)) (a.each k d b)));
    }

-- the node at a place changes, and the world's state of it
pub all-changed : (nodes : List Node) (states : ℕ → State) (i : ℕ) (x new : Node) (t : State) → AreDifferent nodes → AllStand nodes states → i < length nodes →
    x ≡ get_or nodes i x →
    new.me ≡ x.me → Stands new t → AllStand (set nodes i new) (state_at states (id_at nodes i) t)
all-changed nodes states i x new t ds a l r m s =
    let e : id_at nodes i ≡ x.me = id-read nodes i x l ∙ ap (λ (n : Node). n.me) (sym r) in
    let here : state_at states (id_at nodes i) t new.me ≡ t = ap (state_at states (id_at nodes i) t) (m ∙ sym e) ∙ state_at-itself states (id_at nodes i) t in
    all-set nodes states (state_at states (id_at nodes i) t) i new a l
    (subst (λ (q : State). Stands new q) (sym here) s)
    (λ k d h ne. state_at-other states (id_at nodes i) t (get_or nodes k d).me (λ f. ne (ds.each k i d h l (f ∙ id-read nodes i d l))))

-- a node more stands
pub all-push : (nodes : List Node) (states : ℕ → State) (n : Node) → AllStand nodes states → Stands n (states n.me) → AllStand (nodes ++ n ∷ []) states
all-push nodes states n a s = record { each = λ k d h. at nodes k d n states (λ j e l. a.each j e l) s h } where
  at : (ns : List Node) (k : ℕ) (d n : Node) (states : ℕ → State) → ((j : ℕ) (e : Node) → j < length ns → Stands (get_or ns j e) (states (get_or ns j e).me)) →
      Stands n (states n.me) →
      k < length (ns ++ n ∷ []) → Stands (get_or (ns ++ n ∷ []) k d) (states (get_or (ns ++ n ∷ []) k d).me)
  at [] zero d n states a s h = s
  at [] (suc k) d n states a s h = absurd (omega arith)
  at (m ∷ ms) zero d n states a s h = a 0 d (omega arith)
  at (m ∷ ms) (suc k) d n states a s h = at ms k d n states (λ j e l. a (suc j) e (omega arith)) s (omega arith)
