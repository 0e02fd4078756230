-- The numbers of a scenario's commands: each is that of one command, and they rise.
use Rattle.std.proofs.Common.{◌≡◌, ◌≤◌, ◌<◌, ◌⊎◌, inl, inr, ℕ, ◌+◌, ◌==◌, true, List, [], ◌∷◌, ◌++◌, refl, sym, subst, ap, ◌∙◌, arith}
use Rattle.std.proofs.lemmas.Bool.{cond-true, cond-false, cases_Bool}
use Rattle.std.proofs.lemmas.Bool.Decides.{Decides-eqb}
use Rattle.ring_math.specs.Names.{Id, Number}
use Rattle.wire_msg.specs.declared.command.Command.{Command as NodeCommand}
use Rattle.scenario_reader.specs.declared.action.Action.{Action}
use Rattle.scenario_reader.specs.declared.action.What.{What}
use Rattle.scenario_reader.specs.declared.action.What.TheVariants as what
use Rattle.scenario_reader.specs.declared.node.NodeLine.{NodeLine}
use Rattle.scenario_reader.specs.declared.node.FileLine.{FileLine}
use Rattle.scenario_reader.specs.declared.tally.Tally.{Tally}
use Rattle.scenario_reader.specs.Rules.{AreActions, MayFollow}
use Rattle.scenario_reader.specs.Tallies.{tallied, tally_from}
use Rattle.schedule.proofs.Numbered.{commands_from}
use Rattle.weave_laws.specs.Cells.{Command}
use Rattle.overlay_harness.specs.Stages.{commands_to, said_to}

-- ---- among the items of a list, by cases

abbrev pub Among : {A : Type 0} → A → List A → Type 0
Among x [] = ⊥
Among x (y ∷ ys) = (y ≡ x) ⊎ Among x ys

pub Among-append : {A : Type 0} (x : A) (xs ys : List A) → Among x (xs ++ ys) → Among x xs ⊎ Among x ys
Among-append x [] ys h = inr h
Among-append x (y ∷ xs) ys (inl e) = inl (inl e)
Among-append x (y ∷ xs) ys (inr h) =
    elim (Among-append x xs ys h) [
      | inl k ↦ inl (inr k)
      | inr k ↦ inr k
    ]

-- ---- the commands of actions

-- the action is the command of this number to this node
abbrev pub Says : Id → Number → What → Type 0
Says x n (what.Command number node command) = (number ≡ n) × (node ≡ x)
Says x n (what.Settle count) = ⊥
Says x n (what.Deliver m) = ⊥
Says x n (what.Shuffle seed count) = ⊥
Says x n (what.Dup copies) = ⊥
Says x n (what.Noise node bytes) = ⊥

pub record HasSaid (x : Id) (n : Number) (actions : List Action) : Type 0 where
  pub before : List Action
  pub action : Action
  pub behind : List Action
  pub split : actions ≡ before ++ action ∷ behind
  pub says : Says x n action.what

said_one : (x : Id) (n : Number) (c : NodeCommand) (w : What) → Among (Command n c) (said_to x w) → Says x n w
said_one x n c (what.Command number node command) h =
    elim (cases_Bool (node == x)) [
      | inl t ↦ found t (subst (Among (Command n c)) (cond-true (node == x) (Command number command ∷ []) [] t) h)
      | inr t ↦ absurd (subst (Among (Command n c)) (cond-false (node == x) (Command number command ∷ []) [] t) h)
    ] where
      found : node == x ≡ true → Among (Command n c) (Command number command ∷ []) → (number ≡ n) × (node ≡ x)
      found t (inl e) = (let same : Command number command ≡ Command n c = e in cc, (Decides-eqb node x).0 t)
      found t (inr h) = absurd h
said_one x n c (what.Settle count) h = h
said_one x n c (what.Deliver m) h = h
said_one x n c (what.Shuffle seed count) h = h
said_one x n c (what.Dup copies) h = h
said_one x n c (what.Noise node bytes) h = h

pub said : (x : Id) (n : Number) (c : NodeCommand) (actions : List Action) → Among (Command n c) (commands_to x actions) → HasSaid x n actions
said x n c [] h = absurd h
said x n c (a ∷ actions) h =
    elim (Among-append (Command n c) (said_to x a.what) (commands_to x actions) h) [
      | inl k ↦ record { before = []; action = a; behind = actions; split = refl; says = said_one x n c a.what k }
      | inr k ↦ let rest = said x n c actions k in record {
        before = a ∷ rest.before;
        action = rest.action;
        behind = rest.behind;
        split = ap (λ ds. a ∷ ds) rest.split;
        says = rest.says;
      }
    ]

-- ---- under the rules of a scenario

-- the number is above those before it, and counted behind it
pub record IsCounted (tally : Tally) (w : What) (n : Number) : Type 0 where
  pub next : n ≡ tally.commands + 1
  pub counted : (tallied tally w).commands ≡ n

numbered_one : (nodes : List NodeLine) (files : List FileLine) (tally : Tally) (x : Id) (n : Number) (w : What) → MayFollow nodes files tally w → Says x n w →
    IsCounted tally w n
numbered_one nodes files tally x n (what.Command number node command) m h =
    record { next = sym h.0 ∙ m.allowed.0; counted = sym (m.allowed.0) ∙ h.0 }
numbered_one nodes files tally x n (what.Settle count) m h = absurd h
numbered_one nodes files tally x n (what.Deliver k) m h = absurd h
numbered_one nodes files tally x n (what.Shuffle seed count) m h = absurd h
numbered_one nodes files tally x n (what.Dup copies) m h = absurd h
numbered_one nodes files tally x n (what.Noise node bytes) m h = absurd h

pub rules_front : (nodes : List NodeLine) (files : List FileLine) (tally : Tally) (xs ys : List Action) → AreActions nodes files tally (xs ++ ys) →
    AreActions nodes files tally xs
rules_front nodes files tally [] ys h = tt
rules_front nodes files tally (x ∷ xs) ys h = (h.0, rules_front nodes files (tallied tally x.what) xs ys h.1)

pub rules_behind : (nodes : List NodeLine) (files : List FileLine) (tally : Tally) (xs ys : List Action) → AreActions nodes files tally (xs ++ ys) →
    AreActions nodes files (tally_from tally xs) ys
rules_behind nodes files tally [] ys h = h
rules_behind nodes files tally (x ∷ xs) ys h = rules_behind nodes files (tallied tally x.what) xs ys h.1

pub tally_append : (tally : Tally) (xs ys : List Action) → tally_from tally (xs ++ ys) ≡ tally_from (tally_from tally xs) ys
tally_append tally [] ys = refl
tally_append tally (x ∷ xs) ys = tally_append (tallied tally x.what) xs ys

-- a command's number lies between the counts before its list and behind it
pub record IsBetween (low n high : ℕ) : Type 0 where
  pub above : low < n
  pub within : n ≤ high

pub numbers_between : (nodes : List NodeLine) (files : List FileLine) (tally : Tally) (actions : List Action) (x : Id) (n : Number) →
    AreActions nodes files tally actions → HasSaid x n actions → IsBetween tally.commands n (tally_from tally actions).commands
numbers_between nodes files tally actions x n rules h =
    let whole : AreActions nodes files tally (h.before ++ h.action ∷ h.behind) = subst (AreActions nodes files tally) h.split rules in
    let own = rules_behind nodes files tally h.before (h.action ∷ h.behind) whole in
    let counted = numbered_one nodes files (tally_from tally h.before) x n h.action.what own.0 h.says in
    let next : n ≡ (tally_from tally h.before).commands + 1 = counted.next in
    let here : (tallied (tally_from tally h.before) h.action.what).commands ≡ n = counted.counted in
    let low = commands_from tally h.before in
    let high = commands_from (tallied (tally_from tally h.before) h.action.what) h.behind in
    let end : (tally_from tally actions).commands ≡ (tally_from (tallied (tally_from tally h.before) h.action.what) h.behind).commands =
    ap (λ ds. (tally_from tally ds).commands) h.split ∙ ap (λ (t : Tally). t.commands) (tally_append tally h.before (h.action ∷ h.behind)) in
    record { above = omega arith; within = omega arith }

says_one_node : (x y : Id) (n : Number) (w : What) → Says x n w → Says y n w → x ≡ y
says_one_node x y n (what.Command number node command) h k = sym h.1 ∙ k.1
says_one_node x y n (what.Settle count) h k = absurd h
says_one_node x y n (what.Deliver m) h k = absurd h
says_one_node x y n (what.Shuffle seed count) h k = absurd h
says_one_node x y n (what.Dup copies) h k = absurd h
says_one_node x y n (what.Noise node bytes) h k = absurd h

-- one number is that of one node's command
pub one_node : (nodes : List NodeLine) (files : List FileLine) (tally : Tally) (actions : List Action) (x y : Id) (n : Number) (c d : NodeCommand) →
    AreActions nodes files tally actions → Among (Command n c) (commands_to x actions) → Among (Command n d) (commands_to y actions) → x ≡ y
one_node nodes files tally [] x y n c d rules h k = absurd h
one_node nodes files tally (a ∷ actions) x y n c d rules h k =
    both (one_node nodes files (tallied tally a.what) actions x y n c d rules.1) (Among-append (Command n c) (said_to x a.what) (commands_to x actions) h)
    (Among-append (Command n d) (said_to y a.what) (commands_to y actions) k) where
      apart : (z w : Id) (e f : NodeCommand) → Among (Command n e) (said_to z a.what) → Among (Command n f) (commands_to w actions) → ⊥
      apart z w e f i j =
          let here = numbered_one nodes files tally z n a.what rules.0 (said_one z n e a.what i) in
          let counted : (tallied tally a.what).commands ≡ n = here.counted in
          let later = numbers_between nodes files (tallied tally a.what) actions w n rules.1 (said w n f actions j) in
          let above : (tallied tally a.what).commands < n = later.above in
          omega arith

      both : (Among (Command n c) (commands_to x actions) → Among (Command n d) (commands_to y actions) → x ≡ y) →
          Among (Command n c) (said_to x a.what) ⊎ Among (Command n c) (commands_to x actions) →
          Among (Command n d) (said_to y a.what) ⊎ Among (Command n d) (commands_to y actions) → x ≡ y
      both f (inl i) (inl j) = says_one_node x y n a.what (said_one x n c a.what i) (said_one y n d a.what j)
      both f (inl i) (inr j) = absurd (apart x y c d i j)
      both f (inr i) (inl j) = absurd (apart y x d c j i)
      both f (inr i) (inr j) = f i j
