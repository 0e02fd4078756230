-- What comes to one cell of a run, one step after another.
use Rattle.std.proofs.Common.{◌≡◌, ◌<◌, ℕ, zero, suc, true, Some, List, [], ◌∷◌, ◌++◌, map, set, get_or, length}
use Rattle.std.proofs.Common.{Contains, refl, sym, subst, ap, ◌∙◌, append-nil, append_assoc, length-append, arith}
use Rattle.std.specs.List.{AllZip}
use Rattle.std.proofs.lemmas.List.{map-append}
use Rattle.overlay_rules.proofs.Each.{Each, Each-all, Each-append, Each-from_all}
use Rattle.scenario_reader.specs.declared.action.Action.{Action}
use Rattle.weave_laws.specs.Cells.{CellEntry, CellInput, Command, Comes, Noise}
use Rattle.node_mailbox.specs.Post.{PostView}
use Rattle.node_cell.specs.Cell.{Cell, entry_next, with_input}
use Rattle.node_cell.specs.Equipped.{GoesOn, HasPassesOf}
use Rattle.node_cell.specs.Posting.{Posted}
use Rattle.node_cell.specs.Reading.{IsInputOf}
use Rattle.node_cell.specs.Serving.{Served, hand_empty}
use Rattle.node_cell.proofs.Serves.{goes_on_refl, goes_on_then}
use Rattle.overlay_harness.specs.declared.worker.Worker.{Worker}
use Rattle.overlay_harness.specs.Inputs.{is_frame}
use Rattle.overlay_harness.specs.Rounds.{CameIn, IsAtWork, Worked, WentOn}
use Rattle.overlay_harness.specs.Stages.{commands_to}
use Rattle.overlay_harness.specs.Work.{told, with_inputs}

-- ---- inputs of a cell

pub came_none : (old new : Cell) → new.history ≡ old.history → CameIn [] old new
came_none old new e = record { more = []; history = e ∙ sym (append-nil old.history); inputs_are = refl }

pub came_then : (xs ys : List CellInput) (a b c : Cell) → CameIn xs a b → CameIn ys b c → CameIn (xs ++ ys) a c
came_then xs ys a b c h k = record {
  more = h.more ++ k.more;
  history = k.history ∙ ap (λ es. es ++ k.more) h.history ∙ append_assoc a.history h.more k.more;
  inputs_are = map-append (λ (e : CellEntry). e.input) h.more k.more
      ∙ ap (λ is. is ++ map (λ (e : CellEntry). e.input) k.more) h.inputs_are
      ∙ ap (λ is. xs ++ is) k.inputs_are;
}

pub came_with : (c : Cell) (inputs : List CellInput) → CameIn inputs c (with_inputs c inputs)
came_with c [] = came_none c c refl
came_with c (i ∷ inputs) =
    came_then (i ∷ []) inputs c (with_input c i) (with_inputs (with_input c i) inputs)
    (record { more = entry_next c i ∷ []; history = refl; inputs_are = refl }) (came_with (with_input c i) inputs)

goes_with : (c : Cell) (inputs : List CellInput) → GoesOn c (with_inputs c inputs)
goes_with c [] = goes_on_refl c
goes_with c (i ∷ inputs) =
    goes_on_then c (with_input c i) (with_inputs (with_input c i) inputs)
    (record { node = refl; made = refl; parts = λ y. refl }) (goes_with (with_input c i) inputs)

passes_with : (post : PostView) (c : Cell) (inputs : List CellInput) → HasPassesOf post c → HasPassesOf post (with_inputs c inputs)
passes_with post c [] h = h
passes_with post c (i ∷ inputs) h = passes_with post (with_input c i) inputs h

-- one frame is served
pub record OneFrame (old new : Cell) : Type 0 where
  pub input : CellInput
  pub is : is_frame input ≡ true
  pub came : CameIn (input ∷ []) old new

pub one_frame : (post : PostView) (old new : Cell) → Served post old new → OneFrame old new
one_frame post old new s = record {
  input = s.took.input;
  is = frame s.took.input s.took.is;
  came = record {
    more = entry_next (record old { carried = Some (hand_empty s.held) }) s.took.input ∷ [];
    history = ap (λ (c : Cell). c.history) s.took.took;
    inputs_are = refl;
  };
} where
  frame : (i : CellInput) → IsInputOf old.node s.frame i → is_frame i ≡ true
  frame (Command n c) h = absurd h
  frame (Comes v) h = refl
  frame Noise h = refl

-- ---- a frame that is put

pub posted-history : (post : PostView) (copies : ℕ) (old new : Cell) → Posted post copies old new → new.history ≡ old.history
posted-history post copies old new p = ap (λ (c : Cell). c.history) p.same

pub posted-less : (post : PostView) (copies : ℕ) (old new : Cell) → Posted post copies old new → length new.unsent < length old.unsent
posted-less post copies old new p =
    let now : length new.unsent ≡ length p.rest = ap (λ (c : Cell). length c.unsent) p.same in
    let before : length old.unsent ≡ suc (length p.rest) = ap length p.unsent in
    omega arith

-- ---- steps of a worker

still_at_work : (post : PostView) (old new : Cell) → GoesOn old new → HasPassesOf post new → IsAtWork post old → IsAtWork post new
still_at_work post old new g h a = record { passes = h; node = subst (Contains post.nodes) (sym g.node) a.node }

-- nothing comes, and as much is left
pub went_nowhere : (post : PostView) (old new : Worker) → IsAtWork post old.cell → GoesOn old.cell new.cell → HasPassesOf post new.cell →
    new.cell.history ≡ old.cell.history → new.left ≡ old.left → WentOn post old new
went_nowhere post old new a g h same left = record {
  at_work = still_at_work post old.cell new.cell g h a;
  goes_on = g;
  frames = [];
  are = λ i d lt. absurd (omega arith);
  came = came_none old.cell new.cell same;
  counted = (let same_left = left in omega arith);
}

pub went_one : (post : PostView) (old new : Worker) → IsAtWork post old.cell → GoesOn old.cell new.cell → HasPassesOf post new.cell →
    Served post old.cell new.cell → suc new.left ≡ old.left → WentOn post old new
went_one post old new a g h s left =
    let one = one_frame post old.cell new.cell s in record {
      at_work = still_at_work post old.cell new.cell g h a;
      goes_on = g;
      frames = one.input ∷ [];
      are = Each-all (λ (i : CellInput). is_frame i ≡ true) (one.input ∷ []) (one.is, tt);
      came = one.came;
      counted = omega arith;
    }

-- the commands of a stage are told, and its budget is given
pub was_told : (post : PostView) (old new : Worker) (actions : List Action) → IsAtWork post old.cell → new.cell ≡ told actions old.cell →
    Worked post (commands_to old.cell.node actions) new.left old new
was_told post old new actions a e =
    subst (λ (c : Cell). Worked post commands new.left old (record new { cell = c })) (sym e) (record {
      at_work = still_at_work post old.cell (told actions old.cell) (goes_with old.cell commands) (passes_with post old.cell commands a.passes) a;
      goes_on = goes_with old.cell commands;
      frames = [];
      are = λ i d lt. absurd (omega arith);
      came = subst (λ is. CameIn is old.cell (told actions old.cell)) (sym (append-nil commands)) (came_with old.cell commands);
      counted = omega arith;
    }) where
      commands : List CellInput
      commands = commands_to old.cell.node actions

abbrev IsFrame : CellInput → Type 0
IsFrame i = is_frame i ≡ true

pub worked_then : (post : PostView) (commands : List CellInput) (most : ℕ) (a b c : Worker) → Worked post commands most a b → WentOn post b c →
    Worked post commands most a c
worked_then post commands most a b c h k = record {
  at_work = k.at_work;
  goes_on = goes_on_then a.cell b.cell c.cell h.goes_on k.goes_on;
  frames = h.frames ++ k.frames;
  are = Each-all IsFrame (h.frames ++ k.frames)
      (Each-append IsFrame h.frames k.frames (Each-from_all IsFrame h.frames h.are) (Each-from_all IsFrame k.frames k.are));
  came = subst (λ is. CameIn is a.cell c.cell) (append_assoc commands h.frames k.frames)
      (came_then (commands ++ h.frames) k.frames a.cell b.cell c.cell h.came k.came);
  counted = (let long = length-append h.frames k.frames in let one = h.counted in let two = k.counted in omega arith);
}

-- a turn more changes nothing else
pub turned_then : (post : PostView) (commands : List CellInput) (most turns : ℕ) (a b : Worker) → Worked post commands most a b →
    Worked post commands most a (record b { turns = turns })
turned_then post commands most turns a b h =
    record { at_work = h.at_work; goes_on = h.goes_on; frames = h.frames; are = h.are; came = h.came; counted = h.counted }

-- ---- steps of all workers

pub zip_refl : {A : Type 0} (R : A → A → Type 0) (xs : List A) → Each (λ x. R x x) xs → AllZip R xs xs
zip_refl R [] h = tt
zip_refl R (x ∷ xs) h = (h.0, zip_refl R xs h.1)

pub zip_then : {A : Type 0} (R S T : A → A → Type 0) → ((a b c : A) → R a b → S b c → T a c) → (xs ys zs : List A) → AllZip R xs ys → AllZip S ys zs →
    AllZip T xs zs
zip_then R S T f [] [] [] h k = tt
zip_then R S T f [] [] (z ∷ zs) h k = absurd k
zip_then R S T f [] (y ∷ ys) zs h k = absurd h
zip_then R S T f (x ∷ xs) [] zs h k = absurd h
zip_then R S T f (x ∷ xs) (y ∷ ys) [] h k = absurd k
zip_then R S T f (x ∷ xs) (y ∷ ys) (z ∷ zs) h k = (f x y z h.0 k.0, zip_then R S T f xs ys zs h.1 k.1)

-- one of the others goes on
pub zip_set : {A : Type 0} (R S : A → A → Type 0) → ((a b c : A) → R a b → S b c → R a c) → (xs ys : List A) (place : ℕ) (d z : A) → AllZip R xs ys →
    S (get_or ys place d) z → AllZip R xs (set ys place z)
zip_set R S f [] [] place d z h k = tt
zip_set R S f [] (y ∷ ys) place d z h k = absurd h
zip_set R S f (x ∷ xs) [] place d z h k = absurd h
zip_set R S f (x ∷ xs) (y ∷ ys) zero d z h k = (f x y z h.0 k, h.1)
zip_set R S f (x ∷ xs) (y ∷ ys) (suc place) d z h k = (h.0, zip_set R S f xs ys place d z h.1 k)

-- what holds of each pair and of each second one
pub zip_with : {A : Type 0} (R S : A → A → Type 0) (P : A → Type 0) → ((a b : A) → R a b → P b → S a b) → (xs ys : List A) → AllZip R xs ys → Each P ys →
    AllZip S xs ys
zip_with R S P f [] [] h k = tt
zip_with R S P f [] (y ∷ ys) h k = absurd h
zip_with R S P f (x ∷ xs) [] h k = absurd h
zip_with R S P f (x ∷ xs) (y ∷ ys) h k = (f x y h.0 k.0, zip_with R S P f xs ys h.1 k.1)

pub zip_second : {A : Type 0} (R : A → A → Type 0) (P : A → Type 0) → ((a b : A) → R a b → P b) → (xs ys : List A) → AllZip R xs ys → Each P ys
zip_second R P f [] [] h = tt
zip_second R P f [] (y ∷ ys) h = absurd h
zip_second R P f (x ∷ xs) [] h = absurd h
zip_second R P f (x ∷ xs) (y ∷ ys) h = (f x y h.0, zip_second R P f xs ys h.1)

-- from what holds at each index
pub zip_from : {A : Type 0} (R : A → A → Type 0) (xs ys : List A) → length ys ≡ length xs →
    ((i : ℕ) (d : A) → i < length xs → R (get_or xs i d) (get_or ys i d)) → AllZip R xs ys
zip_from R [] [] e h = tt
zip_from R [] (y ∷ ys) e h = absurd (omega arith)
zip_from R (x ∷ xs) [] e h = absurd (omega arith)
zip_from R (x ∷ xs) (y ∷ ys) e h = (h 0 x (omega arith), zip_from R xs ys (omega arith) (λ i d lt. h (suc i) d (omega arith)))
