-- Cells that take in several inputs, and those that are told commands.
use Rattle.std.proofs.Common.{◌≡◌, ◌≢◌, ◌≤◌, inl, inr, ℕ, zero, suc, ◌+◌, ◌==◌, ◌||◌, not, Bool, true, false, Some, List, [], ◌∷◌, ◌++◌, map, set}
use Rattle.std.proofs.Common.{slice_get, All, refl, sym, subst, ap, ◌∙◌, append-nil, append_assoc, arith}
use Rattle.std.proofs.lemmas.List.{map-append}
use Rattle.std.proofs.lemmas.Bool.{cond-true, cond-false, cases_Bool, ne_eqb, and_parts}
use Rattle.std.proofs.lemmas.Bool.Decides.{Decides-eqb}
use Rattle.ring_math.specs.Names.{Id, Number}
use Rattle.ring_math.specs.Sides.{is_in}
use Rattle.wire_msg.specs.declared.command.Command.{Command as NodeCommand}
use Rattle.overlay_rules.specs.Record.{all_differ}
use Rattle.overlay_rules.proofs.Each.{Each, Each-all, Each-append, Each-from_all, Each-slice_get, Each-weaker}
use Rattle.scenario_reader.specs.declared.action.Action.{Action}
use Rattle.scenario_reader.specs.declared.action.What.{What}
use Rattle.scenario_reader.specs.declared.action.What.TheVariants as what
use Rattle.scenario_reader.specs.declared.node.NodeLine.{NodeLine}
use Rattle.scenario_reader.specs.declared.node.FileLine.{FileLine}
use Rattle.scenario_reader.specs.declared.tally.Tally.{Tally}
use Rattle.scenario_reader.specs.Rules.{IsWhat, MayFollow}
use Rattle.scenario_reader.specs.Tallies.{tallied}
use Rattle.weave_laws.specs.Cells.{CellEntry, CellInput, Command, Comes, Noise}
use Rattle.weave_laws.specs.Numbers.{IsNumberedAfter}
use Rattle.node_cell.specs.Cell.{Cell, entry_next, with_input}
use Rattle.weave.specs.Cells.{kept_history, nodes}
use Rattle.overlay_harness.specs.Stages.{commands_to, said_to}
use Rattle.overlay_harness.specs.Ran.{inputs_in}
use Rattle.overlay_harness.specs.Work.{HasNumbersUpTo, IsNumberedUpTo, MayBeTold, told, with_inputs}
use Rattle.overlay_harness.proofs.Along.{commands-append}

pub node_after : (c : Cell) (inputs : List CellInput) → (with_inputs c inputs).node ≡ c.node
node_after c [] = refl
node_after c (i ∷ inputs) = node_after (with_input c i) inputs

pub founder_after : (c : Cell) (inputs : List CellInput) → (with_inputs c inputs).is_founder ≡ c.is_founder
founder_after c [] = refl
founder_after c (i ∷ inputs) = founder_after (with_input c i) inputs

pub inputs_after : (c : Cell) (inputs : List CellInput) → inputs_in (kept_history (with_inputs c inputs)) ≡ inputs_in (kept_history c) ++ inputs
inputs_after c [] = sym (append-nil (inputs_in (kept_history c)))
inputs_after c (i ∷ inputs) =
    inputs_after (with_input c i) inputs
    ∙ ap (λ is. is ++ inputs) (map-append (λ (e : CellEntry). e.input) c.history (entry_next c i ∷ []))
    ∙ append_assoc (inputs_in (kept_history c)) (i ∷ []) inputs

pub inputs-append : (c : Cell) (xs ys : List CellInput) → with_inputs c (xs ++ ys) ≡ with_inputs (with_inputs c xs) ys
inputs-append c [] ys = refl
inputs-append c (i ∷ xs) ys = inputs-append (with_input c i) xs ys

pub nodes_told : (actions : List Action) (cells : List Cell) → nodes (map (told actions) cells) ≡ nodes cells
nodes_told actions [] = refl
nodes_told actions (c ∷ cells) =
    ap (λ x. x ∷ nodes (map (told actions) cells)) (node_after c (commands_to c.node actions)) ∙ ap (λ xs. c.node ∷ xs) (nodes_told actions cells)

pub told-append : (xs ys : List Action) (c : Cell) → told (xs ++ ys) c ≡ told ys (told xs c)
told-append xs ys c =
    ap (with_inputs c) (commands-append c.node xs ys)
    ∙ inputs-append c (commands_to c.node xs) (commands_to c.node ys)
    ∙ ap (λ x. with_inputs (told xs c) (commands_to x ys)) (sym (node_after c (commands_to c.node xs)))

pub all_told-append : (xs ys : List Action) (cells : List Cell) → map (told (xs ++ ys)) cells ≡ map (told ys) (map (told xs) cells)
all_told-append xs ys [] = refl
all_told-append xs ys (c ∷ cells) = ap (λ d. d ∷ map (told (xs ++ ys)) cells) (told-append xs ys c)
    ∙ ap (λ ds. told ys (told xs c) ∷ ds) (all_told-append xs ys cells)

pub told-none : (cells : List Cell) → map (told []) cells ≡ cells
told-none [] = refl
told-none (c ∷ cells) = ap (λ ds. c ∷ ds) (told-none cells)

-- ---- one command is told

-- an action that is no command of the node tells it nothing
pub told-other : (a : Action) (c : Cell) → said_to c.node a.what ≡ [] → told (a ∷ []) c ≡ c
told-other a c e = ap (λ is. with_inputs c (is ++ [])) e

pub all_told-other : (a : Action) (cells : List Cell) → Each (λ (c : Cell). said_to c.node a.what ≡ []) cells → map (told (a ∷ [])) cells ≡ cells
all_told-other a [] h = refl
all_told-other a (c ∷ cells) h = ap (λ d. d ∷ map (told (a ∷ [])) cells) (told-other a c h.0) ∙ ap (λ ds. c ∷ ds) (all_told-other a cells h.1)

-- the action is this command of this node
pub record IsCommandOf (a : Action) (x : Id) (n : Number) (command : NodeCommand) : Type 0 where
  pub is : a.what ≡ what.Command n x command

said_own : (a : Action) (x : Id) (n : Number) (command : NodeCommand) → IsCommandOf a x n command → said_to x a.what ≡ Command n command ∷ []
said_own a x n command h = ap (said_to x) h.is ∙ cond-true (x == x) (Command n command ∷ []) [] ((Decides-eqb x x).1 refl)

pub said_no_other : (a : Action) (x y : Id) (n : Number) (command : NodeCommand) → IsCommandOf a x n command → y ≢ x → said_to y a.what ≡ []
said_no_other a x y n command h ne =
    ap (said_to y) h.is ∙ cond-false (x == y) (Command n command ∷ []) [] (ne_eqb x y (λ e. ne (sym e)))

pub told_own : (a : Action) (c : Cell) (n : Number) (command : NodeCommand) → IsCommandOf a c.node n command →
    told (a ∷ []) c ≡ with_input c (Command n command)
told_own a c n command h = ap (λ is. with_inputs c (is ++ [])) (said_own a c.node n command h)

later_apart : (x : Id) (cells : List Cell) → not (is_in (nodes cells) x) ≡ true → Each (λ (d : Cell). d.node ≢ x) cells
later_apart x [] e = tt
later_apart x (d ∷ cells) e = (
  (λ same. first (d.node == x) (is_in (nodes cells) x) ((Decides-eqb d.node x).1 same) e),
  later_apart x cells (rest (d.node == x) (is_in (nodes cells) x) e),
) where
  first : (b c : Bool) → b ≡ true → not (b || c) ≡ true → ⊥
  first true c t f = cc
  first false c t f = cc

  rest : (b c : Bool) → not (b || c) ≡ true → not c ≡ true
  rest true c f = cc
  rest false c f = f

-- among cells of different nodes, a command is told to the one at its place
pub told_at : (cells : List Cell) (place : ℕ) (c : Cell) (a : Action) (n : Number) (command : NodeCommand) → all_differ (nodes cells) ≡ true →
    slice_get cells place ≡ Some c → IsCommandOf a c.node n command → set cells place (with_input c (Command n command)) ≡ map (told (a ∷ [])) cells
told_at [] place c a n command d at h = refl
told_at (e ∷ cells) zero c a n command d at h =
    let same : e ≡ c = cc in
    let parts = and_parts (not (is_in (nodes cells) e.node)) (all_differ (nodes cells)) d in
    let others = later_apart e.node cells parts.0 in
    ap (λ f. f ∷ cells) (sym (told_own a c n command h) ∙ ap (told (a ∷ [])) (sym same))
    ∙ ap (λ fs. told (a ∷ []) e ∷ fs)
    (sym (all_told-other a cells
    (Each-weaker (λ (f : Cell). f.node ≢ e.node) (λ (f : Cell). said_to f.node a.what ≡ []) cells
    (λ f ne. said_no_other a c.node f.node n command h (λ is. ne (is ∙ ap (λ (g : Cell). g.node) (sym same)))) others)))
told_at (e ∷ cells) (suc place) c a n command d at h =
    let parts = and_parts (not (is_in (nodes cells) e.node)) (all_differ (nodes cells)) d in
    let others = later_apart e.node cells parts.0 in
    let own : c.node ≢ e.node = Each-slice_get (λ (f : Cell). f.node ≢ e.node) cells place c others at in
    ap (λ f. f ∷ set cells place (with_input c (Command n command))) (sym (told-other a e (said_no_other a c.node e.node n command h (λ is. own (sym is)))))
    ∙ ap (λ fs. told (a ∷ []) e ∷ fs) (told_at cells place c a n command parts.1 at h)

pub nodes_at : (cells : List Cell) (place : ℕ) (c : Cell) (i : CellInput) → slice_get cells place ≡ Some c →
    nodes (set cells place (with_input c i)) ≡ nodes cells
nodes_at [] place c i at = refl
nodes_at (d ∷ cells) zero c i at = let same : d ≡ c = cc in ap (λ (e : Cell). e.node ∷ nodes cells) (sym same)
nodes_at (d ∷ cells) (suc place) c i at = ap (λ xs. d.node ∷ xs) (nodes_at cells place c i at)

pub told_nothing : (a : Action) (cells : List Cell) → ((x : Id) → said_to x a.what ≡ []) → cells ≡ map (told (a ∷ [])) cells
told_nothing a cells h = sym (all_told-other a cells (each cells)) where
  each : (cs : List Cell) → Each (λ (c : Cell). said_to c.node a.what ≡ []) cs
  each [] = tt
  each (c ∷ cs) = (h c.node, each cs)

pub told_nowhere : (a : Action) (x : Id) (n : Number) (command : NodeCommand) (cells : List Cell) → IsCommandOf a x n command →
    All (λ (c : Cell). c.node ≢ x) cells → cells ≡ map (told (a ∷ [])) cells
told_nowhere a x n command cells h none =
    sym (all_told-other a cells
    (Each-weaker (λ (c : Cell). c.node ≢ x) (λ (c : Cell). said_to c.node a.what ≡ []) cells (λ c ne. said_no_other a x c.node n command h ne)
    (Each-from_all (λ (c : Cell). c.node ≢ x) cells none)))

-- a command of the rules comes behind those of the history
pub comes_behind : (cells : List Cell) (a : Action) (c : Cell) (place : ℕ) (x : Id) (n : Number) (command : NodeCommand) → MayBeTold cells (a ∷ []) →
    slice_get cells place ≡ Some c → IsCommandOf a x n command → All (λ (e : CellEntry). IsNumberedAfter e.input (Command n command)) c.history
comes_behind cells a c place x n command h at is =
    Each-all (λ (e : CellEntry). IsNumberedAfter e.input (Command n command)) c.history
    (Each-weaker (λ (e : CellEntry). IsNumberedUpTo h.tally.commands e.input) (λ (e : CellEntry). IsNumberedAfter e.input (Command n command)) c.history
    (λ e le. after e.input le)
    (Each-from_all (λ (e : CellEntry). IsNumberedUpTo h.tally.commands e.input) c.history
    (Each-slice_get (HasNumbersUpTo h.tally.commands) cells place c (Each-from_all (HasNumbersUpTo h.tally.commands) cells h.numbers) at))) where
      next : n ≡ h.tally.commands + 1
      next = (subst (λ (w : What). IsWhat h.nodes h.files h.tally w) is.is h.rules.0.allowed).0

      after : (i : CellInput) → IsNumberedUpTo h.tally.commands i → IsNumberedAfter i (Command n command)
      after (Command m d) le = let e = next in omega (arith, le)
      after (Comes v) le = tt
      after Noise le = tt

-- ---- what may be told behind a command

pub first_may : (cells : List Cell) (a : Action) (actions : List Action) → MayBeTold cells (a ∷ actions) → MayBeTold cells (a ∷ [])
first_may cells a actions h =
    record { nodes = h.nodes; files = h.files; tally = h.tally; rules = (h.rules.0, tt); numbers = h.numbers }

one_more : (nodes : List NodeLine) (files : List FileLine) (tally : Tally) (x : Id) (w : What) → MayFollow nodes files tally w →
    (tally.commands ≤ (tallied tally w).commands) × Each (IsNumberedUpTo (tallied tally w).commands) (said_to x w)
one_more nodes files tally x (what.Command number node command) m = (
  omega arith,
  elim (cases_Bool (node == x)) [
    | inl t ↦ subst (Each (IsNumberedUpTo (tally.commands + 1))) (sym (cond-true (node == x) (Command number command ∷ []) [] t))
        ((let next : number ≡ tally.commands + 1 = m.allowed.0 in let le : number ≤ tally.commands + 1 = omega arith in le), tt)
    | inr t ↦ subst (Each (IsNumberedUpTo (tally.commands + 1))) (sym (cond-false (node == x) (Command number command ∷ []) [] t)) tt
  ],
)
one_more nodes files tally x (what.Settle n) m = (omega arith, tt)
one_more nodes files tally x (what.Deliver n) m = (omega arith, tt)
one_more nodes files tally x (what.Shuffle seed count) m = (omega arith, tt)
one_more nodes files tally x (what.Dup n) m = (omega arith, tt)
one_more nodes files tally x (what.Noise node bytes) m = (omega arith, tt)

numbered_weaker : (low high : ℕ) (i : CellInput) → low ≤ high → IsNumberedUpTo low i → IsNumberedUpTo high i
numbered_weaker low high (Command n c) le h = omega (arith, h)
numbered_weaker low high (Comes v) le h = tt
numbered_weaker low high Noise le h = tt

-- the inputs of a history are numbered so where its entries are
numbered_inputs : (most : ℕ) (es : List CellEntry) → Each (λ (e : CellEntry). IsNumberedUpTo most e.input) es →
    Each (IsNumberedUpTo most) (map (λ (e : CellEntry). e.input) es)
numbered_inputs most [] h = tt
numbered_inputs most (e ∷ es) h = (h.0, numbered_inputs most es h.1)

numbered_entries : (most : ℕ) (es : List CellEntry) → Each (IsNumberedUpTo most) (map (λ (e : CellEntry). e.input) es) →
    Each (λ (e : CellEntry). IsNumberedUpTo most e.input) es
numbered_entries most [] h = tt
numbered_entries most (e ∷ es) h = (h.0, numbered_entries most es h.1)

numbered_told : (low high : ℕ) (a : Action) (c : Cell) → low ≤ high → Each (IsNumberedUpTo high) (said_to c.node a.what) → HasNumbersUpTo low c →
    HasNumbersUpTo high (told (a ∷ []) c)
numbered_told low high a c le own h =
    Each-all (λ (e : CellEntry). IsNumberedUpTo high e.input) (told (a ∷ []) c).history
    (numbered_entries high (told (a ∷ []) c).history
    (subst (Each (IsNumberedUpTo high)) (sym (inputs_after c (commands_to c.node (a ∷ []))))
    (Each-append (IsNumberedUpTo high) (inputs_in (kept_history c)) (commands_to c.node (a ∷ []))
    (Each-weaker (IsNumberedUpTo low) (IsNumberedUpTo high) (inputs_in (kept_history c)) (λ i k. numbered_weaker low high i le k)
    (numbered_inputs low c.history (Each-from_all (λ (e : CellEntry). IsNumberedUpTo low e.input) c.history h)))
    (Each-append (IsNumberedUpTo high) (said_to c.node a.what) [] own tt))))

pub others_may : (cells : List Cell) (a : Action) (actions : List Action) → MayBeTold cells (a ∷ actions) → MayBeTold (map (told (a ∷ [])) cells) actions
others_may cells a actions h = record {
  nodes = h.nodes;
  files = h.files;
  tally = tallied h.tally a.what;
  rules = h.rules.1;
  numbers = Each-all (HasNumbersUpTo high) (map (told (a ∷ [])) cells) (each cells (Each-from_all (HasNumbersUpTo h.tally.commands) cells h.numbers));
} where
  high : ℕ
  high = (tallied h.tally a.what).commands

  each : (cs : List Cell) → Each (HasNumbersUpTo h.tally.commands) cs → Each (HasNumbersUpTo high) (map (told (a ∷ [])) cs)
  each [] k = tt
  each (c ∷ cs) k =
      let one = one_more h.nodes h.files h.tally c.node a.what h.rules.0 in
      (numbered_told h.tally.commands high a c one.0 one.1 k.0, each cs k.1)
