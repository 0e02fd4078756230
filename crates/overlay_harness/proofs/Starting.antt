-- Cells of a run before its first stage, and the passes that they were given.
use Rattle.std.proofs.Common.{◌≡◌, ◌≤◌, ◌<◌, ℕ, zero, suc, ◌-◌, ◌==◌, List, [], ◌∷◌, map, length, All, Contains, refl, sym, subst, ap, ◌∙◌, arith}
use Rattle.std.specs.List.{sum_by}
use Rattle.std.proofs.lemmas.List.{length-map}
use Rattle.std.proofs.lemmas.List.Sums.{sum_by-cons}
use Rattle.ring_math.specs.Names.{Id}
use Rattle.overlay_rules.proofs.Each.{Each, Each-all, Each-itself}
use Rattle.scenario_reader.specs.declared.node.NodeLine.{NodeLine}
use Rattle.scenario_reader.specs.Plain.{PlainScenario, ids}
use Rattle.node_mailbox.specs.Pass.{PassView, after_split, fresh_pass, split_off}
use Rattle.node_mailbox.specs.Post.{PostView, AreOf, pass_at}
use Rattle.node_mailbox.specs.declared.limits.TheConstants.{ALL_PARTS}
use Rattle.node_mailbox.proofs.Posts.{mailboxes-fresh}
use Rattle.node_cell.specs.Cell.{Cell}
use Rattle.node_cell.specs.Equipped.{IsUnused, parts_at}
use Rattle.node_cell.proofs.Owning.{own-unused}
use Rattle.weave.specs.Cells.{nodes}
use Rattle.overlay_harness.specs.Driven.{HaveRunSoFar, RanSoFar, cells_of, fresh_passes, new_worker, new_workers}
use Rattle.overlay_harness.specs.declared.limits.TheConstants.{MOST_RUN_NODES}

-- ---- passes that put and took nothing

abbrev fresh_of : ℕ → List (ℕ × ℕ) → List PassView
fresh_of n ms = map (λ (m : ℕ × ℕ). fresh_pass m n) ms

split_of : (n : ℕ) (ms : List (ℕ × ℕ)) → map after_split (fresh_of n ms) ≡ fresh_of (n - 1) ms
split_of n [] = refl
split_of n (m ∷ ms) = ap (λ (ps : List PassView). fresh_pass m (n - 1) ∷ ps) (split_of n ms)

pub fresh-split : (post : PostView) (n : ℕ) → map after_split (fresh_passes post n) ≡ fresh_passes post (n - 1)
fresh-split post n = split_of n post.mailboxes

given_of : (n : ℕ) (ms : List (ℕ × ℕ)) → map split_off (fresh_of n ms) ≡ fresh_of 1 ms
given_of n [] = refl
given_of n (m ∷ ms) = ap (λ (ps : List PassView). fresh_pass m 1 ∷ ps) (given_of n ms)

pub fresh-given : (post : PostView) (n : ℕ) → map split_off (fresh_passes post n) ≡ fresh_passes post 1
fresh-given post n = given_of n post.mailboxes

two_of : (n : ℕ) (ms : List (ℕ × ℕ)) → 2 ≤ n → Each (λ (p : PassView). 2 ≤ p.parts) (fresh_of n ms)
two_of n [] le = tt
two_of n (m ∷ ms) le = (le, two_of n ms le)

pub fresh_have_two : (post : PostView) (n : ℕ) → 2 ≤ n → All (λ (p : PassView). 2 ≤ p.parts) (fresh_passes post n)
fresh_have_two post n le = Each-all (λ (p : PassView). 2 ≤ p.parts) (fresh_passes post n) (two_of n post.mailboxes le)

pub fresh_are_of : (post : PostView) (m n : ℕ) → AreOf (fresh_passes post m) post → AreOf (fresh_passes post n) post
fresh_are_of post m n of = record {
  mailboxes = mailboxes-fresh n post.mailboxes;
  count = length-map post.mailboxes (λ (b : ℕ × ℕ). fresh_pass b n) ∙ sym (length-map post.mailboxes (λ (b : ℕ × ℕ). fresh_pass b m)) ∙ of.count;
}

unused_of : (n : ℕ) (ms : List (ℕ × ℕ)) → Each IsUnused (fresh_of n ms)
unused_of n [] = tt
unused_of n (m ∷ ms) = (record { put = refl; taken = refl }, unused_of n ms)

pub unused_split : (own : List PassView) → All IsUnused (map split_off own)
unused_split own = Each-all IsUnused (map split_off own) (each own) where
  each : (ps : List PassView) → Each IsUnused (map split_off ps)
  each [] = tt
  each (p ∷ ps) = (record { put = refl; taken = refl }, each ps)

put_of : (n : ℕ) (ms : List (ℕ × ℕ)) (place : ℕ) → (pass_at (fresh_of n ms) place).put ≡ []
put_of n [] place = refl
put_of n (m ∷ ms) zero = refl
put_of n (m ∷ ms) (suc place) = put_of n ms place

parts_of : (n : ℕ) (ms : List (ℕ × ℕ)) (place : ℕ) → place < length ms → (pass_at (fresh_of n ms) place).parts ≡ n
parts_of n [] place lt = absurd (omega arith)
parts_of n (m ∷ ms) zero lt = refl
parts_of n (m ∷ ms) (suc place) lt = parts_of n ms place (omega arith)

none_there : (frame : List ℕ) → Contains [] frame → ⊥
none_there frame has = omega (arith, has.1)

-- ---- cells to which nothing came

new_nodes : (passes : List PassView) (founder : Id) (lines : List NodeLine) →
    nodes (cells_of (map (λ (n : NodeLine). new_worker passes n.id (n.id == founder)) lines)) ≡ ids lines
new_nodes passes founder [] = refl
new_nodes passes founder (n ∷ lines) = ap (λ xs. n.id ∷ xs) (new_nodes passes founder lines)

new_founders : (passes : List PassView) (founder : Id) (lines : List NodeLine) →
    Each (λ (c : Cell). c.is_founder ≡ (c.node == founder)) (cells_of (map (λ (n : NodeLine). new_worker passes n.id (n.id == founder)) lines))
new_founders passes founder [] = tt
new_founders passes founder (n ∷ lines) = (refl, new_founders passes founder lines)

new_parts : (post : PostView) (founder : Id) (place : ℕ) (lines : List NodeLine) → place < length post.mailboxes →
    sum_by (parts_at place) (cells_of (new_workers post founder lines)) ≡ length lines
new_parts post founder place [] lt = refl
new_parts post founder place (n ∷ lines) lt =
    let c : Cell = (new_worker (fresh_passes post 1) n.id (n.id == founder)).cell in
    let one = sum_by-cons (parts_at place) c (cells_of (new_workers post founder lines)) in
    let own : parts_at place c ≡ 1 = parts_of 1 post.mailboxes place lt in
    let rest = new_parts post founder place lines lt in
    omega arith

ran_none : (post : PostView) (x : Id) (founder : Id) → AreOf (fresh_passes post 1) post → Contains post.nodes x →
    RanSoFar post [] (new_worker (fresh_passes post 1) x (x == founder))
ran_none post x founder of has = record {
  at_work = record { passes = own-unused post x (fresh_passes post 1) (Each-all IsUnused (fresh_passes post 1) (unused_of 1 post.mailboxes)) of; node = has };
  along = record { commands = refl; within = tt; few = omega arith };
  within = omega arith;
  full = omega arith;
}

all_ran_none : (post : PostView) (founder : Id) (lines : List NodeLine) → AreOf (fresh_passes post 1) post → Each (Contains post.nodes) (ids lines) →
    Each (RanSoFar post []) (new_workers post founder lines)
all_ran_none post founder [] of has = tt
all_ran_none post founder (n ∷ lines) of has = (ran_none post n.id founder of has.0, all_ran_none post founder lines of has.1)

-- a part of each mailbox for each node, and the rest for the driver
pub new_have_run : (s : PlainScenario) (post : PostView) → post.nodes ≡ ids s.nodes → AreOf (fresh_passes post ALL_PARTS) post →
    length s.nodes ≤ MOST_RUN_NODES → HaveRunSoFar s post [] (fresh_passes post (ALL_PARTS - length s.nodes)) (new_workers post s.founder s.nodes)
new_have_run s post same of few = record {
  nodes = same;
  cells_are = record {
    nodes_are = new_nodes (fresh_passes post 1) s.founder s.nodes;
    founders = Each-all (λ (c : Cell). c.is_founder ≡ (c.node == s.founder)) (cells_of (new_workers post s.founder s.nodes))
        (new_founders (fresh_passes post 1) s.founder s.nodes);
  };
  each = Each-all (RanSoFar post []) (new_workers post s.founder s.nodes)
      (all_ran_none post s.founder s.nodes (fresh_are_of post ALL_PARTS 1 of)
      (subst (λ xs. Each (Contains xs) (ids s.nodes)) (sym same) (Each-itself (ids s.nodes))));
  driven = record {
    of = fresh_are_of post ALL_PARTS (ALL_PARTS - length s.nodes) of;
    noise = record {
      noise = λ place f v has spells.
          none_there f (subst (λ l. Contains l f) (put_of (ALL_PARTS - length s.nodes) post.mailboxes place) has);
    };
    parts = record {
      parts = λ place lt.
          let long : length post.mailboxes ≡ length post.nodes =
          sym (length-map post.mailboxes (λ (b : ℕ × ℕ). fresh_pass b ALL_PARTS)) ∙ of.count in
          let within : place < length post.mailboxes = omega arith in
          let own = parts_of (ALL_PARTS - length s.nodes) post.mailboxes place within in
          let cells = new_parts post s.founder place s.nodes within in
          omega arith;
    };
  };
}
