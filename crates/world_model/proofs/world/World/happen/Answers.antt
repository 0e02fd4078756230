use Rattle.std.proofs.Common.{◌≡◌, ◌∙◌, ◌++◌, ◌∷◌, [], ℕ, List, Option, length, map, slice_index, vec_len, refl, sym, ap, subst}
use Rattle.std.proofs.lemmas.List.{length-map}
use Rattle.wire_msg.specs.Words.{plain_sent}
use Rattle.overlay_rules.specs.Flat.{event_kept}
use Rattle.overlay_rules.specs.State.{State}
use Rattle.overlay_rules.specs.Step.{step}
use Rattle.overlay_rules.specs.Record.{IsFresh, enveloped, state_at}
use Rattle.overlay_rules.specs.Played.{entry_of}
use Rattle.overlay_rules.specs.Outcome.{Input}
use Rattle.overlay_rules.specs.declared.entry.Entry.{Entry}
use Rattle.step_facts.specs.Receivers.{ViaIs}
use Rattle.node_parts.specs.declared.change.Change.{Change}
use Rattle.node_parts.specs.Makes.{Makes}
use Rattle.node_parts.specs.Plans.{Prepares}
use Rattle.node_parts.specs.Sound.{IsSound}
use Rattle.node_core.specs.Inputs.{plain_input}
use Rattle.world_model.specs.Recorded.{Recorded, setting_of, world_of, with_event}
use Rattle.world_model.specs.Cells.{ids_of, id_at, AllStand}
use Rattle.world_model.specs.Index.{IsBelow, ListsMessages, delivered_by}
use Rattle.world_model.specs.Worlds.{ComesTo, IsWorld}
use Rattle.world_model.proofs.MoreEvents.{IsWorld-with_event, comes-below}
use Rattle.world_model.proofs.Happening.{IsWorld-kept, entry-made}
use Rattle.world_model.proofs.world.World.happen.Goals as goal
use Rattle.world_model.proofs.world.World.happen.Goals.{After-commit}

pub input_of-input-requires : goal.input_of-input-requires
input_of-input-requires c =
    comes-below (record { nodes = ids_of c.self.inside.cells; founder = c.self.inside.founder; entries = c.self.inside.entries })
    (event_kept c.args.event) c.args.place
    (subst (λ (q : Recorded). ComesTo q (event_kept c.args.event) c.args.place) (sym c.self.view_is) c.requires.comes)

pub invariant_of-self-in_err-reserve : goal.invariant_of-self-in_err-reserve
invariant_of-self-in_err-reserve c =
    IsWorld-kept c.self.inside.cells c.prepare.new.self c.self.inside.messages c.reserve.new.self c.self.inside.founder c.self.inside.entries
    c.self.inside.entries c.self.invariant c.prepare.ensures.ids refl c.prepare.ensures.stand c.reserve.ensures.kept

pub invariant_of-self-in_err-add : goal.invariant_of-self-in_err-add
invariant_of-self-in_err-add c =
    IsWorld-kept c.self.inside.cells c.prepare.new.self c.self.inside.messages c.reserve.new.self c.self.inside.founder c.self.inside.entries
    c.add.new.self c.self.invariant c.prepare.ensures.ids c.in_err-add.ensures.err c.prepare.ensures.stand c.reserve.ensures.kept

-- ---- the record before, and the event that comes to it

abbrev past : (c : After-commit) → Recorded
past c = record { nodes = ids_of c.self.inside.cells; founder = c.self.inside.founder; entries = c.self.inside.entries }

comes : (c : After-commit) → ComesTo (past c) (event_kept c.args.event) c.args.place
comes c = subst (λ (q : Recorded). ComesTo q (event_kept c.args.event) c.args.place) (sym c.self.view_is) c.requires.comes

fresh : (c : After-commit) → IsFresh (past c).entries (event_kept c.args.event)
fresh c = subst (λ (q : Recorded). IsFresh q.entries (event_kept c.args.event)) (sym c.self.view_is) c.requires.fresh

via : (c : After-commit) → ViaIs (setting_of (past c)) (event_kept c.args.event)
via c = subst (λ (q : Recorded). ViaIs (setting_of q) (event_kept c.args.event)) (sym c.self.view_is) c.requires.via

abbrev node : (c : After-commit) → ℕ
node c = slice_index (past c).nodes c.args.place

same_input : (c : After-commit) → plain_input c.input_of-input.result ≡ (comes c).input
same_input c = c.input_of-input.ensures (record { node = node c; input = (comes c).input }) (comes c).is_at

-- ---- what was prepared, and the entry that is made of it

plans : (c : After-commit) →
    Prepares ((world_of (past c)).states (node c)) c.in_ok-messages.field-0 (step ((world_of (past c)).states (node c)) (plain_input c.input_of-input.result))
plans c = c.in_ok-messages.ensures.plans (world_of (past c)).states c.self.invariant.stand

abbrev entry : (c : After-commit) → Entry
entry c =
    record {
      event = event_kept c.args.event;
      messages = map (enveloped c.next_stamp-stamp.result c.id.result) c.in_ok-messages.field-0.messages;
      notes = c.in_ok-messages.field-0.notes;
    }

entry_is : (c : After-commit) → entry c ≡ entry_of (world_of (past c)) (event_kept c.args.event)
entry_is c =
    entry-made (past c) (event_kept c.args.event) c.args.place (comes c) c.in_ok-messages.field-0 (plain_input c.input_of-input.result)
    c.next_stamp-stamp.result c.id.result (same_input c) (plans c) c.next_stamp-stamp.ensures
    (c.id.ensures ∙ ap (λ (ids : List ℕ). slice_index ids c.args.place) c.prepare.ensures.ids)

added : (c : After-commit) → c.add.new.self ≡ (past c).entries ++ entry c ∷ []
added c = c.in_ok-add.ensures.ok

grown : (c : After-commit) → c.add.new.self ≡ (with_event (past c) (event_kept c.args.event)).entries
grown c = added c ∙ ap (λ (e : Entry). (past c).entries ++ e ∷ []) (entry_is c)

nodes_stay : (c : After-commit) → ids_of c.commit.new.self ≡ (past c).nodes
nodes_stay c = c.commit.ensures.ids ∙ c.prepare.ensures.ids

same : (c : After-commit) → (record { nodes = ids_of c.commit.new.self; founder = c.self.inside.founder; entries = c.add.new.self })
    ≡ with_event (past c) (event_kept c.args.event)
same c =
    ap (λ (ids : List ℕ). record { nodes = ids; founder = c.self.inside.founder; entries = c.add.new.self }) (nodes_stay c)
    ∙ ap (λ (es : List Entry). record { nodes = (past c).nodes; founder = c.self.inside.founder; entries = es }) (grown c)

-- ---- the messages, with those of the entry

listed : (c : After-commit) → ListsMessages c.reserve.new.self (past c).entries
listed c = c.reserve.ensures.kept (past c).entries c.self.invariant.listed

pub add-requires-2-clause-room : goal.add-requires-2-clause-room
add-requires-2-clause-room c = c.in_ok-reserve.ensures.room

pub add-requires-2-clause-below : goal.add-requires-2-clause-below
add-requires-2-clause-below c =
    let b : After-commit = (goal.at.add-requires-2-clause-below c).After-commit in
    subst (λ (o : Option ℕ). IsBelow (vec_len c.reserve.new.self.delivered) o) (sym c.delivered_message-delivered.ensures)
    (subst (λ (k : ℕ). IsBelow k (delivered_by (event_kept c.args.event))) (sym (c.reserve.new.self.delivered.ok.0 ∙ (listed b).marks.count))
    (comes-below (past b) (event_kept c.args.event) c.args.place (comes b)))

-- ---- the world after it

stands : (c : After-commit) →
    AllStand c.commit.new.self (state_at (world_of (past c)).states (node c) (step ((world_of (past c)).states (node c)) (comes c).input).state)
stands c =
    let states : ℕ → State = (world_of (past c)).states in
    let t : State = (step (states (node c)) (comes c).input).state in
    let change : Change = c.in_ok-messages.field-0.change in
    let at : id_at c.prepare.new.self c.args.place ≡ node c = ap (λ (ids : List ℕ). slice_index ids c.args.place) c.prepare.ensures.ids in
    subst (λ (y : ℕ). AllStand c.commit.new.self (state_at states y t)) at
    (c.commit.ensures.stand states t (c.prepare.ensures.stand states c.self.invariant.stand)
    (subst (λ (i : Input). Makes change (states (id_at c.prepare.new.self c.args.place)) (step (states (node c)) i).state) (same_input c)
    (subst (λ (y : ℕ). Makes change (states y) (step (states (node c)) (plain_input c.input_of-input.result)).state) (sym at) (plans c).state))
    (subst (λ (i : Input). IsSound (step (states (node c)) i).state) (same_input c) (c.prepare.ensures.sound states c.self.invariant.stand)))

pub invariant_of-self-2 : goal.invariant_of-self-2
invariant_of-self-2 c =
    let b : After-commit = (goal.at.invariant_of-self-2 c).After-commit in
    let count : length c.as_slice-count.result.now ≡ length (entry b).messages =
    sym (length-map c.as_slice-count.result.now plain_sent) ∙ ap length c.as_slice-count.ensures
    ∙ sym (length-map c.in_ok-messages.field-0.messages (enveloped c.next_stamp-stamp.result c.id.result)) in
    let lists : ListsMessages c.add-2.new.self ((past b).entries ++ entry b ∷ []) =
    c.add-2.ensures (past b).entries (entry b) (listed b) c.delivered_message-delivered.ensures count in
    subst (λ (q : Recorded). IsWorld c.commit.new.self c.add-2.new.self q) (sym (same b))
    (IsWorld-with_event c.self.inside.cells c.commit.new.self c.self.inside.messages c.add-2.new.self (past b) (event_kept c.args.event)
    c.args.place c.self.invariant (comes b) (fresh b) c.said_law.ensures (via b) (stands b)
    (subst (λ (e : Entry). ListsMessages c.add-2.new.self ((past b).entries ++ e ∷ [])) (entry_is b) lists))

pub returns-clause-ok : goal.returns-clause-ok
returns-clause-ok c =
    same (goal.at.returns-clause-ok c).After-commit ∙ ap (λ (q : Recorded). with_event q (event_kept c.args.event)) c.self.view_is
