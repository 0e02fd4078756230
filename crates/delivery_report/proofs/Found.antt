-- A map from identifiers to nodes that one node more is put into.
use Rattle.std.proofs.Common.{◌≡◌, ℕ, ◌==◌, Bool, true, false, cond, Option, Some, None, List, [], ◌∷◌, ◌++◌, refl, sym, ◌∙◌, ap, subst}
use Rattle.std.specs.Borrow.{Bor}
use Rattle.std.specs.Option.{option_copied, option_or, is_some}
use Rattle.std.specs.List.{find}
use Rattle.std.specs.Ordering.{nat_cmp}
use Rattle.std.specs.Cmp.{unsigned_tied}
use Rattle.std.specs.BTreeMap.{BTreeMap, get, is_at}
use Rattle.std.proofs.lemmas.Bool.Decides.{Decides-eqb}
use Rattle.std.proofs.lemmas.List.Folds.{find-append}
use Rattle.scenario_reader.specs.declared.node.NodeLine.{NodeLine}
use Rattle.delivery_report.specs.Names.{FindsAll, IsRight}

or_none : {A : Type 0} (o : Option A) → option_or o None ≡ o
or_none None = refl
or_none (Some x) = refl

or_some : {A : Type 0} (o p : Option A) → is_some o ≡ true → option_or o p ≡ o
or_some None p h = cc
or_some (Some x) p h = refl

is_none : {A : Type 0} (o : Option A) → is_some o ≡ false → o ≡ None
is_none None h = refl
is_none (Some x) h = cc

some-copied : {A : Type 0} (o : Option (Bor A)) → is_some (option_copied o) ≡ is_some o
some-copied None = refl
some-copied (Some x) = refl

-- a node whose identifier is there already
pub FindsAll-kept : {by_id : BTreeMap ℕ (Bor NodeLine)} {nodes : List NodeLine} → FindsAll by_id nodes →
    (node : NodeLine) (key : ℕ) → key ≡ node.id → is_some (get nat_cmp by_id key) ≡ true → FindsAll by_id (nodes ++ node ∷ [])
FindsAll-kept {by_id} {nodes} all node key is held = record {
  finds = λ id. all.finds id ∙ sym (find-append (λ (x : NodeLine). x.id == id) nodes (node ∷ []) ∙ either id (node.id == id) refl);
}
  where
    either : (id : ℕ) (b : Bool) → (node.id == id) ≡ b →
        option_or (find (λ (x : NodeLine). x.id == id) nodes) (cond (node.id == id) (Some node) None) ≡ find (λ (x : NodeLine). x.id == id) nodes
    either id true e =
        let same : id ≡ key = sym ((Decides-eqb node.id id).0 e) ∙ sym is in
        or_some _ _ (ap is_some (sym (all.finds id)) ∙ some-copied (get nat_cmp by_id id) ∙ ap (λ k. is_some (get nat_cmp by_id k)) same ∙ held)
    either id false e = rw e (or_none (find (λ (x : NodeLine). x.id == id) nodes))

-- a node whose identifier is new
pub FindsAll-added : {before after : BTreeMap ℕ (Bor NodeLine)} {nodes : List NodeLine} → FindsAll before nodes →
    (node : Bor NodeLine) (key : ℕ) → key ≡ node.now.id → is_some (get nat_cmp before key) ≡ false →
    ((id : ℕ) → get nat_cmp after id ≡ cond (is_at (nat_cmp key) id) (Some node) (get nat_cmp before id)) → FindsAll after (nodes ++ node.now ∷ [])
FindsAll-added {before} {after} {nodes} all node key is new updates = record {
  finds = λ id. ap option_copied (updates id) ∙
      ap (λ b. option_copied (cond b (Some node) (get nat_cmp before id))) (unsigned_tied key id ∙ ap (λ k. k == id) is) ∙
      either id (node.now.id == id) refl ∙ sym (find-append (λ (x : NodeLine). x.id == id) nodes (node.now ∷ []));
}
  where
    either : (id : ℕ) (b : Bool) → (node.now.id == id) ≡ b →
        option_copied (cond (node.now.id == id) (Some node) (get nat_cmp before id)) ≡
        option_or (find (λ (x : NodeLine). x.id == id) nodes) (cond (node.now.id == id) (Some node.now) None)
    either id true e =
        let same : id ≡ key = sym ((Decides-eqb node.now.id id).0 e) ∙ sym is in
        let absent : get nat_cmp before id ≡ None = is_none _ (ap (λ k. is_some (get nat_cmp before k)) same ∙ new) in
        let unknown : find (λ (x : NodeLine). x.id == id) nodes ≡ None = sym (all.finds id) ∙ ap option_copied absent in rw (e, unknown) refl
    either id false e = rw e (all.finds id ∙ sym (or_none (find (λ (x : NodeLine). x.id == id) nodes)))

-- the same map of the same nodes
pub FindsAll-same : {m n : BTreeMap ℕ (Bor NodeLine)} {xs ys : List NodeLine} → FindsAll m xs → m ≡ n → xs ≡ ys → FindsAll n ys
FindsAll-same {m} {n} {xs} {ys} all maps nodes = subst (λ k. FindsAll k ys) maps (subst (λ zs. FindsAll m zs) nodes all)

find-passes : (nodes : List NodeLine) (id : ℕ) (node : NodeLine) → Some node ≡ find (λ (x : NodeLine). x.id == id) nodes → node.id ≡ id
find-passes [] id node e = cc
find-passes (x ∷ xs) id node e = by (x.id == id) refl e (find-passes xs id node) where
  by : (b : Bool) → (x.id == id) ≡ b → Some node ≡ cond b (Some x) (find (λ (y : NodeLine). y.id == id) xs) →
      (Some node ≡ find (λ (y : NodeLine). y.id == id) xs → node.id ≡ id) → node.id ≡ id
  by true same f later = let first : node ≡ x = cc in ap (λ (y : NodeLine). y.id) first ∙ (Decides-eqb x.id id).0 same
  by false other f later = later f

-- who is found by an identifier is the first node with its own
pub found-right : {by_id : BTreeMap ℕ (Bor NodeLine)} {nodes : List NodeLine} → FindsAll by_id nodes → (id : ℕ) (guess : Option (Bor NodeLine)) →
    guess ≡ get nat_cmp by_id id → IsRight nodes guess
found-right {by_id} {nodes} all id None e = tt
found-right {by_id} {nodes} all id (Some guess) e =
    let found : Some guess.now ≡ find (λ (node : NodeLine). node.id == id) nodes = ap option_copied e ∙ all.finds id in
    let same : guess.now.id ≡ id = find-passes nodes id guess.now found in
    ap (λ k. find (λ (node : NodeLine). node.id == k) nodes) same ∙ sym found
