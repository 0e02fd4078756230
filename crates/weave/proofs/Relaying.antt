-- Cells that were given the first entries of a legal record can be given the next one, and then have added what goes with it.
use Rattle.std.proofs.Common.{◌≡◌, ◌≢◌, ◌<◌, ◌+◌, ◌==◌, ◌||◌, not, Bool, true, false, ℕ, zero, suc, max, Some, List, [], ◌∷◌, ◌++◌, map, slice_get}
use Rattle.std.proofs.Common.{length, Contains, All, refl, sym, subst, ap, ◌∙◌, append-nil, append_assoc, arith}
use Rattle.std.proofs.Math.ListN.{set}
use Rattle.std.proofs.lemmas.Bool.{and_parts, ne_eqb}
use Rattle.std.proofs.lemmas.Bool.Decides.{Decides-eqb}
use Rattle.std.proofs.lemmas.List.{map-append, take_all}
use Rattle.std.proofs.lemmas.List.Elements.{All-push, All-set}
use Rattle.ring_math.specs.Names.{Id}
use Rattle.ring_math.specs.Sides.{is_in}
use Rattle.wire_msg.specs.Words.{Envelope}
use Rattle.overlay_rules.specs.declared.entry.Event.{Event}
use Rattle.overlay_rules.specs.declared.entry.Entry.{Entry}
use Rattle.overlay_rules.specs.declared.entry.Record.{Record}
use Rattle.overlay_rules.specs.State.{start}
use Rattle.overlay_rules.specs.Record.{IsSetting, Legal, Setting, World, all_differ, run, world_at_start}
use Rattle.overlay_rules.proofs.Histories.{past_of_run}
use Rattle.overlay_rules.proofs.Each.{Each, Each-all, Each-from_all, Each-slice_get, Each-weaker}
use Rattle.weave_laws.specs.AtNode.{IsPartOf}
use Rattle.weave_laws.specs.Answered.{AllSent}
use Rattle.weave_laws.specs.Cells.{CellInput, CellEntry, History, Command, Comes, Noise, IsFor, input_stamp, replay, last_stamp, nodes_of}
use Rattle.weave_laws.specs.Given.{next_entry}
use Rattle.weave_laws.specs.Numbers.{IsNumberedAfter, ShareNoNumber}
use Rattle.weave_laws.specs.Woven.{Act, IsWoven, part}
use Rattle.node_cell.specs.Cell.{Cell, empty_cell, entry_next, with_input}
use Rattle.node_cell.specs.declared.fault.TheConstants.{LAST_STAMP}
use Rattle.weave.specs.declared.relay.Letter.{Letter}
use Rattle.weave.specs.Cells.{AreOneRing, HasNoPasses, histories, kept_history, nodes, setting_of}
use Rattle.weave.specs.Placed.{sent_by}
use Rattle.weave.specs.Alike.{AreAlike}
use Rattle.weave.specs.Through.{Arrival, act_next, history_by, histories_through, through}
use Rattle.weave.specs.Relayed.{Hold, IsLetter, AreLetters, Kept, CanTake, CanTakeFor, CanHappen, Happened, Relayed, TookAt, TookFor}
use Rattle.weave.proofs.Passing.{Brings, HasPassed, IsNewer, brings_for, brings_stamp, last_stamp_below, part_each, part-push, part-push_other, sent_by-push}
use Rattle.weave.proofs.Passages.{ComesNext, acts_after, all_sent, are_alike, passed_after, share_no_number}

-- ---- lists

get_set : {A : Type 0} (xs : List A) (i : ℕ) (x v : A) → slice_get xs i ≡ Some x → slice_get (set xs i v) i ≡ Some v
get_set [] i x v e = cc
get_set (y ∷ ys) zero x v e = refl
get_set (y ∷ ys) (suc i) x v e = get_set ys i x v e

letters-append : (ls ms : List Letter) (vs ws : List Envelope) → AreLetters ls vs → AreLetters ms ws → AreLetters (ls ++ ms) (vs ++ ws)
letters-append [] ms [] ws h k = k
letters-append [] ms (v ∷ vs) ws h k = absurd h
letters-append (l ∷ ls) ms [] ws h k = absurd h
letters-append (l ∷ ls) ms (v ∷ vs) ws h k = (h.0, letters-append ls ms vs ws h.1 k)

-- the letter of an envelope
record HasLetter (ls : List Letter) (m : ℕ) (v : Envelope) : Type 0 where
  pub letter : Letter
  pub there : slice_get ls m ≡ Some letter
  pub is : IsLetter letter v

letter_at : (ls : List Letter) (vs : List Envelope) (m : ℕ) (v : Envelope) → AreLetters ls vs → slice_get vs m ≡ Some v → HasLetter ls m v
letter_at [] [] m v h e = cc
letter_at [] (w ∷ vs) m v h e = absurd h
letter_at (l ∷ ls) [] m v h e = absurd h
letter_at (l ∷ ls) (w ∷ vs) zero v h e = let same : w ≡ v = cc in record { letter = l; there = refl; is = subst (IsLetter l) same h.0 }
letter_at (l ∷ ls) (w ∷ vs) (suc m) v h e = let rest = letter_at ls vs m v h.1 e in record { letter = rest.letter; there = rest.there; is = rest.is }

-- ---- the cell of a node

record HasCell (acts : List Act) (cells : List Cell) (place : ℕ) (x : Id) : Type 0 where
  pub cell : Cell
  pub there : slice_get cells place ≡ Some cell
  pub keeps : kept_history cell ≡ history_by acts x

cell_at : (acts : List Act) (cells : List Cell) (xs : List Id) (place : ℕ) (x : Id) → histories cells ≡ map (history_by acts) xs →
    slice_get xs place ≡ Some x → HasCell acts cells place x
cell_at acts [] [] place x h e = cc
cell_at acts [] (y ∷ ys) place x h e = cc
cell_at acts (c ∷ cells) [] place x h e = cc
cell_at acts (c ∷ cells) (y ∷ ys) zero x h e =
    let same : y ≡ x = cc in
    let first : kept_history c ≡ history_by acts y = cc in
    record { cell = c; there = refl; keeps = first ∙ ap (history_by acts) same }
cell_at acts (c ∷ cells) (y ∷ ys) (suc place) x h e =
    let others : histories cells ≡ map (history_by acts) ys = cc in
    let rest = cell_at acts cells ys place x others e in
    record { cell = rest.cell; there = rest.there; keeps = rest.keeps }

numbered : (x : Id) (i j : CellInput) → IsNewer x i x j → IsNumberedAfter j i
numbered x (Command n c) (Command m d) h = h.1 refl
numbered x (Command n c) (Comes v) h = tt
numbered x (Command n c) Noise h = tt
numbered x (Comes v) (Command m d) h = tt
numbered x (Comes v) (Comes w) h = tt
numbered x (Comes v) Noise h = tt
numbered x Noise (Command m d) h = tt
numbered x Noise (Comes w) h = tt
numbered x Noise Noise h = tt

-- another node is not among those behind it
absent : (xs : List Id) (y : Id) → not (is_in xs y) ≡ true → Each (λ x. x ≢ y) xs
absent [] y h = tt
absent (x ∷ xs) y h = (first, absent xs y (rest (x == y) (is_in xs y) h)) where
  first : x ≢ y
  first e = let t : x == y ≡ true = (Decides-eqb x y).1 e in let f : not true ≡ true = rw t at h in cc

  rest : (a b : Bool) → not (a || b) ≡ true → not b ≡ true
  rest true b h = cc
  rest false b h = h

-- ---- one cell takes something in

histories_same : (acts others : List Act) (x : Id) (xs : List Id) → ((y : Id) → y ≢ x → part y others ≡ part y acts) → Each (λ y. y ≢ x) xs →
    map (history_by acts) xs ≡ map (history_by others) xs
histories_same acts others x [] f h = refl
histories_same acts others x (y ∷ ys) f h =
    ap (λ (es : List CellEntry). (record { node = y; entries = es }) ∷ map (history_by acts) ys) (sym (f y h.0))
    ∙ ap (λ (hs : List History). history_by others y ∷ hs) (histories_same acts others x ys f h.1)

histories-set : (acts others : List Act) (cells : List Cell) (xs : List Id) (place : ℕ) (x : Id) (c : Cell) → ((y : Id) → y ≢ x → part y others ≡ part y acts) →
    all_differ xs ≡ true → histories cells ≡ map (history_by acts) xs → slice_get xs place ≡ Some x → kept_history c ≡ history_by others x →
    histories (set cells place c) ≡ map (history_by others) xs
histories-set acts others [] [] place x c f d h e k = cc
histories-set acts others [] (y ∷ ys) place x c f d h e k = cc
histories-set acts others (b ∷ cells) [] place x c f d h e k = cc
histories-set acts others (b ∷ cells) (y ∷ ys) zero x c f d h e k =
    let same : y ≡ x = cc in
    let behind : histories cells ≡ map (history_by acts) ys = cc in
    let apart = and_parts (not (is_in ys y)) (all_differ ys) d in
    ap (λ (hs : List History). kept_history c ∷ hs)
    (behind ∙ histories_same acts others x ys f (subst (λ z. Each (λ w. w ≢ z) ys) same (absent ys y apart.0)))
    ∙ ap (λ (q : History). q ∷ map (history_by others) ys) (k ∙ ap (history_by others) (sym same))
histories-set acts others (b ∷ cells) (y ∷ ys) (suc place) x c f d h e k =
    let first : kept_history b ≡ history_by acts y = cc in
    let behind : histories cells ≡ map (history_by acts) ys = cc in
    let apart = and_parts (not (is_in ys y)) (all_differ ys) d in
    let other : y ≢ x = λ s. Each-slice_get (λ w. w ≢ y) ys place x (absent ys y apart.0) e (sym s) in
    ap (λ (hs : List History). kept_history b ∷ hs) (histories-set acts others cells ys place x c f apart.1 behind e k)
    ∙ ap (λ (q : History). q ∷ map (history_by others) ys) (first ∙ ap (λ (es : List CellEntry). record { node = y; entries = es }) (sym (f y other)))

-- ---- the next entry of a record

module _ (g : Setting) (es : List Entry) (i : ℕ) (e : Entry) (n : ComesNext g es i e) (cells : List Cell) (ls : List Letter)
    (held : Hold g (acts_after g es i) cells) (sent : AreLetters ls (sent_by (acts_after g es i))) where
  abbrev acts : List Act
  acts = acts_after g es i

  abbrev a : Arrival
  a = n.next.arrival

  abbrev z : Act
  z = act_next g (acts_after g es i) n.next.arrival

  can_take : i < LAST_STAMP → (c : Cell) → kept_history c ≡ history_by acts a.node → HasNoPasses c → CanTake c a.input
  can_take lt c k without = record {
    addressed = subst (λ x. IsFor x a.input) (sym (ap (λ (h : History). h.node) k)) (brings_for (sent_by acts) e.event a n.next.brings);
    numbered = subst (λ (ds : List CellEntry). All (λ (d : CellEntry). IsNumberedAfter d.input a.input) ds) (sym (ap (λ (h : History). h.entries) k))
        (Each-all (λ (d : CellEntry). IsNumberedAfter d.input a.input) (part a.node acts)
        (Each-weaker (λ (d : CellEntry). IsNewer a.node a.input a.node d.input) (λ (d : CellEntry). IsNumberedAfter d.input a.input) (part a.node acts)
        (λ d h. numbered a.node a.input d.input h)
        (part_each (λ (b : Act). IsNewer a.node a.input b.node b.entry.input) a.node acts n.next.newer)));
    in_time =
        let last = last_stamp_below g _ acts n.passed a.node in
        let own = brings_stamp (sent_by acts) (length acts) e.event a n.passed.stamped n.next.brings in
        let long = n.long in
        subst (λ (ds : List CellEntry). max (last_stamp 0 ds) (input_stamp a.input) < LAST_STAMP) (sym (ap (λ (h : History). h.entries) k)) (omega arith);
    without = without;
  }

  without_at : (place : ℕ) (c : Cell) → slice_get cells place ≡ Some c → HasNoPasses c
  without_at place c there = Each-slice_get HasNoPasses cells place c (Each-from_all HasNoPasses cells held.without) there

  can_take_for : i < LAST_STAMP → CanTakeFor g.nodes cells a.node a.input
  can_take_for lt = record {
    among = n.next.member;
    at = λ place at. let own = cell_at acts cells g.nodes place a.node held.histories_are at in
        record { cell = own.cell; there = own.there; can = can_take lt own.cell own.keeps (without_at place own.cell own.there) };
  }

  happens : (v : Event) (b : Arrival) → Brings (sent_by acts) v b → CanTakeFor g.nodes cells b.node b.input → CanHappen g.nodes cells ls v
  happens v b (Brings.commanded x k c) can = can
  happens v b (Brings.noised x) can = can
  happens v b (Brings.handed m u at) can =
      let own = letter_at ls (sent_by acts) m u sent at in
      record { letter = own.letter; there = own.there; can = record { envelope = u; is = own.is; can = can } }

  pub can_happen : i < LAST_STAMP → CanHappen g.nodes cells ls e.event
  can_happen lt = happens e.event a n.next.brings (can_take_for lt)

  took_for : (place : ℕ) (after : List Cell) (v : Event) (b : Arrival) → Brings (sent_by acts) v b → Happened g.nodes cells ls v place after →
      TookFor g.nodes cells b.node b.input place after
  took_for place after v b (Brings.commanded x k c) h = h
  took_for place after v b (Brings.noised x) h = h
  took_for place after v b (Brings.handed m u at) h = let own = letter_at ls (sent_by acts) m u sent at in h own.letter own.there u own.is

  -- what the cell of the node adds
  entry_is : (c : Cell) → kept_history c ≡ history_by acts a.node → c.is_founder ≡ (c.node == g.founder) → entry_next c a.input ≡ z.entry
  entry_is c k f =
      ap (λ (b : Bool). next_entry c.node (last_stamp 0 c.history) (replay (start c.node b) c.history) a.input) f
      ∙ ap (λ (h : History). next_entry h.node (last_stamp 0 h.entries) (replay (start h.node (h.node == g.founder)) h.entries) a.input) k

  keeps_more : (c : Cell) → kept_history c ≡ history_by acts a.node → entry_next c a.input ≡ z.entry →
      kept_history (with_input c a.input) ≡ history_by (acts ++ z ∷ []) a.node
  keeps_more c k same =
      ap (λ (d : CellEntry). record { node = c.node; entries = c.history ++ d ∷ [] }) same
      ∙ ap (λ (h : History). record { node = h.node; entries = h.entries ++ z.entry ∷ [] }) k
      ∙ ap (λ (ds : List CellEntry). record { node = a.node; entries = ds }) (sym (part-push z acts))

  -- the cells and letters after it
  pub record HoldNext (after : List Cell) (others : List Letter) : Type 0 where
    pub hold : Hold g (acts_after g es (i + 1)) after
    pub letters : AreLetters others (sent_by (acts_after g es (i + 1)))

  pub hold_next : all_differ g.nodes ≡ true → (after : List Cell) (others : List Letter) → Relayed g.nodes cells ls e.event after others → HoldNext after others
  hold_next differ after others r = record {
    hold = record {
      histories_are = ap histories took.after_is
          ∙ histories-set acts (acts ++ z ∷ []) cells g.nodes r.place a.node c
          (λ y ne. part-push_other y z acts (ne_eqb a.node y (λ s. ne (sym s)))) differ held.histories_are t.node (keeps_more took.cell keeps same)
          ∙ ap (λ (bs : List Act). map (history_by bs) g.nodes) (sym n.grows);
      founders = subst (All (λ (b : Cell). b.is_founder ≡ (b.node == g.founder))) (sym took.after_is)
          (All-set (λ (b : Cell). b.is_founder ≡ (b.node == g.founder)) cells r.place c founder held.founders);
      without = subst (All HasNoPasses) (sym took.after_is) (All-set HasNoPasses cells r.place c (without_at r.place took.cell took.there) held.without);
    };
    letters = subst (λ (bs : List Act). AreLetters others (sent_by bs)) (sym n.grows)
        (subst (AreLetters others) (sym (sent_by-push acts z))
        (subst (λ (ms : List Letter). AreLetters ms (sent_by acts ++ z.entry.sent)) (sym kept.all)
        (letters-append ls kept.more (sent_by acts) z.entry.sent sent
        (subst (λ (d : CellEntry). AreLetters kept.more d.sent) same kept.theirs))));
  } where
    t : TookFor g.nodes cells a.node a.input r.place after
    t = took_for r.place after e.event a n.next.brings r.happened

    took : TookAt cells r.place a.input after
    took = t.took

    c : Cell
    c = with_input took.cell a.input

    keeps : kept_history took.cell ≡ history_by acts a.node
    keeps =
        let own = cell_at acts cells g.nodes r.place a.node held.histories_are t.node in
        let one : Some took.cell ≡ Some own.cell = sym took.there ∙ own.there in
        let same : took.cell ≡ own.cell = cc in
        ap kept_history same ∙ own.keeps

    founder : took.cell.is_founder ≡ (took.cell.node == g.founder)
    founder = Each-slice_get (λ (b : Cell). b.is_founder ≡ (b.node == g.founder)) cells r.place took.cell
        (Each-from_all (λ (b : Cell). b.is_founder ≡ (b.node == g.founder)) cells held.founders) took.there

    same : entry_next took.cell a.input ≡ z.entry
    same = entry_is took.cell keeps founder

    kept : Kept ls (entry_next took.cell a.input).sent others
    kept = r.kept c took.cell.history (entry_next took.cell a.input)
        (ap (λ (bs : List Cell). slice_get bs r.place) took.after_is ∙ get_set cells r.place took.cell c took.there) refl

-- ---- the letters of one entry

pub kept_none : (ls : List Letter) → Kept ls [] ls
kept_none ls = record { more = []; all = sym (append-nil ls); theirs = tt }

pub kept-push : (before after : List Letter) (vs : List Envelope) (l : Letter) (v : Envelope) → Kept before vs after → IsLetter l v →
    Kept before (vs ++ v ∷ []) (after ++ l ∷ [])
kept-push before after vs l v k is = record {
  more = k.more ++ l ∷ [];
  all = ap (λ (ls : List Letter). ls ++ l ∷ []) k.all ∙ append_assoc before k.more (l ∷ []);
  theirs = letters-append k.more (l ∷ []) vs (v ∷ []) k.theirs (is, tt);
}

-- ---- in the end

nodes_by : (bs : List Act) (xs : List Id) → nodes_of (map (history_by bs) xs) ≡ xs
nodes_by bs [] = refl
nodes_by bs (x ∷ xs) = ap (λ (ys : List Id). x ∷ ys) (nodes_by bs xs)

pub nodes_are : (g : Setting) (bs : List Act) (cells : List Cell) → Hold g bs cells → nodes cells ≡ g.nodes
nodes_are g bs cells h = ap nodes_of h.histories_are ∙ nodes_by bs g.nodes

pub one_ring : (g : Setting) (w : World) (bs : List Act) (cells : List Cell) → IsSetting g → HasPassed g w bs → Hold g bs cells →
    AreOneRing cells g.founder
one_ring g w bs cells set p h = record {
  there = subst (λ (xs : List Id). Contains xs g.founder) (sym (nodes_are g bs cells h)) set.founder;
  alone = h.founders;
  numbers = subst ShareNoNumber (sym h.histories_are) (share_no_number g w bs p);
}

-- cells that were given all of a legal record
module _ (g : Setting) (es : List Entry) (l : Legal g es) (cells : List Cell) (h : Hold g (through g [] es) cells) where
  passed_whole : HasPassed g (run (world_at_start g) es) (through g [] es)
  passed_whole =
      subst (λ (fs : List Entry). HasPassed g (run (world_at_start g) fs) (through g [] fs)) (take_all (length es) es (omega arith))
      (passed_after g es (length es) l)

  pub whole_ring : IsSetting g → AreOneRing cells g.founder
  whole_ring set = one_ring g (run (world_at_start g) es) (through g [] es) cells set passed_whole h

  pub whole_woven : (r : Record) → IsWoven (histories cells) r → IsWoven (histories_through g es) r
  whole_woven r w = subst (λ (hs : List History). IsWoven hs r) h.histories_are w

  pub whole_legal : (fs : List Entry) → Legal (setting_of cells g.founder) fs → Legal g fs
  whole_legal fs k =
      subst (λ (xs : List Id). Legal (record { nodes = xs; founder = g.founder }) fs) (nodes_are g (through g [] es) cells h) k

  pub whole_alike : (r : Record) → All (IsPartOf r.entries) (histories cells) → AreAlike g.nodes es r.entries
  whole_alike r parts =
      subst (λ (fs : List Entry). AreAlike g.nodes fs r.entries) (past_of_run (world_at_start g) es)
      (are_alike g (run (world_at_start g) es) (through g [] es) r passed_whole
      (subst (All (IsPartOf r.entries)) h.histories_are parts))

  pub whole_sent : AllSent (histories cells)
  whole_sent = subst AllSent (sym h.histories_are) (all_sent g (run (world_at_start g) es) (through g [] es) passed_whole)

-- the cells of a setting's nodes as they begin
pub hold-push : (nodes : List Id) (founder x : Id) (cells : List Cell) → Hold (record { nodes = nodes; founder = founder }) [] cells →
    Hold (record { nodes = nodes ++ x ∷ []; founder = founder }) [] (cells ++ empty_cell x (x == founder) ∷ [])
hold-push nodes founder x cells h = record {
  histories_are = map-append kept_history cells (empty_cell x (x == founder) ∷ [])
      ∙ ap (λ (hs : List History). hs ++ history_by [] x ∷ []) h.histories_are
      ∙ sym (map-append (history_by []) nodes (x ∷ []));
  founders = All-push (λ (c : Cell). c.is_founder ≡ (c.node == founder)) cells (empty_cell x (x == founder)) h.founders refl;
  without = All-push HasNoPasses cells (empty_cell x (x == founder)) h.without refl;
}
