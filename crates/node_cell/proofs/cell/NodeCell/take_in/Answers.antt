use Rattle.std.proofs.Common.{◌≡◌, ◌<◌, ◌∙◌, ◌++◌, ◌∷◌, [], ℕ, max, List, sym, ap, subst}
use Rattle.std.proofs.lemmas.List.{map-append}
use Rattle.node_parts.specs.Seen.{Stands}
use Rattle.weave_laws.specs.Cells.{CellInput, CellEntry, input_stamp, stamp_after, stepped}
use Rattle.node_cell.specs.declared.entry.CellEntry.{CellEntry as CodeEntry}
use Rattle.node_cell.specs.declared.fault.TheConstants.{LAST_STAMP}
use Rattle.node_cell.specs.declared.frames.Addressed.{Addressed}
use Rattle.node_cell.specs.Entries.{plain_entry, plain_history, plain_input_of}
use Rattle.node_cell.specs.Cell.{Cell, cell_seen, state_of, entry_next, with_input}
use Rattle.node_cell.specs.Kept.{IsCell, IsPlanned}
use Rattle.node_cell.proofs.Growing.{cell_grows}
use Rattle.node_cell.proofs.cell.NodeCell.take_in.Goals as goal

-- the cell as it was
kept : (c : goal.After-self-1) → IsCell c.self.inside.node c.self.inside.stamp c.args.self.now
kept c = subst (λ (q : Cell). IsCell c.self.inside.node c.self.inside.stamp q) c.self.view_is c.self.invariant

-- the stamp, as of the cell's own
stamped : (c : goal.After-self-1) → c.in_ok-planned.planned.entry.stamp ≡ (entry_next c.args.self.now (plain_input_of c.args.input)).stamp
stamped c = c.in_ok-planned.ensures.stamp ∙ ap (λ (n : ℕ). stamp_after n (plain_input_of c.args.input)) (kept c).stamped

-- what was planned, as of the cell's own state and stamp
planned : (c : goal.After-self-1) → let i : CellInput = plain_input_of c.args.input in let r : Cell = c.args.self.now in
    IsPlanned r.node (state_of r) (entry_next r i).stamp i c.in_ok-planned.planned
planned c =
    let r : Cell = c.args.self.now in
    let i : CellInput = plain_input_of c.args.input in
    subst (λ (n : ℕ). IsPlanned r.node (state_of r) (stamp_after n i) i c.in_ok-planned.planned) (kept c).stamped
    (subst (λ (x : ℕ). IsPlanned x (state_of r) (stamp_after c.self.inside.stamp i) i c.in_ok-planned.planned)
    (ap (λ (q : Cell). q.node) c.self.view_is) (c.in_ok-planned.ensures.planned (state_of r) (kept c).stands))

longer : (c : goal.After-self-1) → plain_history c.commit.new.history.items ≡ (with_input c.args.self.now (plain_input_of c.args.input)).history
longer c =
    let r : Cell = c.args.self.now in
    let entry : CodeEntry = c.in_ok-planned.planned.entry in
    ap plain_history (c.commit.ensures.history ∙ ap (λ (es : List CodeEntry). es ++ entry ∷ []) c.plan_with_room.ensures.history)
    ∙ map-append plain_entry c.self.inside.history.items (entry ∷ [])
    ∙ ap (λ (es : List CellEntry). es ++ plain_entry entry ∷ []) (ap (λ (q : Cell). q.history) c.self.view_is)
    ∙ ap (λ (e : CellEntry). r.history ++ e ∷ []) (planned c).entry

more_frames : (c : goal.After-self-1) → c.commit.new.unsent.items ≡ (with_input c.args.self.now (plain_input_of c.args.input)).unsent
more_frames c =
    let r : Cell = c.args.self.now in
    let frames : List Addressed = c.in_ok-planned.planned.frames.items in
    c.commit.ensures.unsent
    ∙ ap (λ (us : List Addressed). us ++ frames) (c.plan_with_room.ensures.unsent ∙ ap (λ (q : Cell). q.unsent) c.self.view_is)
    ∙ ap (λ (fs : List Addressed). r.unsent ++ fs) (planned c).frames

same : (c : goal.After-self-1) →
    cell_seen c.commit.new.node c.self.inside.is_founder c.commit.new.history.items c.commit.new.unsent.items c.self.inside.carried
    ≡ with_input c.args.self.now (plain_input_of c.args.input)
same c =
    let history : List CellEntry = plain_history c.commit.new.history.items in
    let unsent : List Addressed = c.commit.new.unsent.items in
    ap (λ (x : ℕ). record { node = x; is_founder = c.self.inside.is_founder; history = history; unsent = unsent; carried = c.self.inside.carried })
    (c.commit.ensures.me ∙ c.plan_with_room.ensures.me)
    ∙ ap (λ (q : Cell). record q { history = history; unsent = unsent }) c.self.view_is
    ∙ ap (λ (es : List CellEntry). record c.args.self.now { history = es; unsent = unsent }) (longer c)
    ∙ ap (λ (us : List Addressed). record c.args.self.now {
      history = (with_input c.args.self.now (plain_input_of c.args.input)).history;
      unsent = us;
    }) (more_frames c)

-- the node stands for the state after the step
stands_after : (c : goal.After-self-1) → let r : Cell = c.args.self.now in
    Stands c.commit.new.node (stepped (state_of r) (entry_next r (plain_input_of c.args.input)))
stands_after c =
    let r : Cell = c.args.self.now in
    c.commit.ensures.stands (state_of r) (stepped (state_of r) (entry_next r (plain_input_of c.args.input)))
    (c.plan_with_room.ensures.stand (state_of r) (kept c).stands) (planned c).state (planned c).sound

pub invariant_of-self-2 : goal.invariant_of-self-2
invariant_of-self-2 c =
    let r : Cell = c.args.self.now in
    let i : CellInput = plain_input_of c.args.input in
    subst (λ (q : Cell). IsCell c.commit.new.node c.in_ok-planned.planned.entry.stamp q) (sym (same c))
    (subst (λ (n : ℕ). IsCell c.commit.new.node n (with_input r i)) (sym (stamped c))
    (cell_grows c.self.inside.node c.commit.new.node c.self.inside.stamp r i (kept c) c.requires.addressed c.requires.numbered c.requires.beside
    (planned c).spelled (stands_after c)))

pub returns-clause-ok : goal.returns-clause-ok
returns-clause-ok c = same c

pub returns-clause-in_time : goal.returns-clause-in_time
returns-clause-in_time c =
    subst (λ (n : ℕ). max n (input_stamp (plain_input_of c.args.input)) < LAST_STAMP) (kept c).stamped c.in_ok-planned.ensures.in_time
