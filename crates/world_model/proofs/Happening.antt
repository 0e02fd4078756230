-- A world before an event, and after it.
use Rattle.std.proofs.Common.{◌≡◌, ◌+◌, ℕ, List, [], length, map, slice_index, sym, ap, subst, ◌∙◌}
use Rattle.std.proofs.lemmas.List.Elements.{All-nil}
use Rattle.ring_math.specs.Names.{Id, Stamp}
use Rattle.wire_msg.specs.declared.note.Note.{Note}
use Rattle.overlay_rules.specs.declared.entry.Event.{Event}
use Rattle.overlay_rules.specs.declared.entry.Entry.{Entry}
use Rattle.overlay_rules.specs.Outcome.{Input, Sent}
use Rattle.overlay_rules.specs.Step.{step}
use Rattle.overlay_rules.specs.Record.{IsSaidBy, IsSetting, enveloped, world_at_start}
use Rattle.overlay_rules.specs.Played.{entry_of}
use Rattle.step_facts.specs.Receivers.{ViaIs}
use Rattle.node_parts.specs.declared.node.Node.{Node}
use Rattle.node_parts.specs.declared.change.Prepared.{Prepared}
use Rattle.node_parts.specs.Plans.{Prepares}
use Rattle.world_model.specs.declared.index.Messages.{Messages}
use Rattle.world_model.specs.Cells.{AllStand, ids_of}
use Rattle.world_model.specs.Index.{ListsMessages}
use Rattle.world_model.specs.Recorded.{Recorded, world_of}
use Rattle.world_model.specs.Worlds.{ComesTo, IsWorld, entry_by}
use Rattle.world_model.proofs.MoreEvents.{entry-of}

-- nothing has happened yet
pub IsWorld-start : (cells : List Node) (a : Messages) (nodes : List Id) (founder : Id) (es : List Entry) →
    IsSetting (record { nodes = nodes; founder = founder }) → ids_of cells ≡ nodes → es ≡ [] →
    AllStand cells (world_at_start (record { nodes = nodes; founder = founder })).states → ListsMessages a [] →
    IsWorld cells a (record { nodes = ids_of cells; founder = founder; entries = es })
IsWorld-start cells a nodes founder es s ids none st l =
    subst (λ (q : List Entry). IsWorld cells a (record { nodes = ids_of cells; founder = founder; entries = q })) (sym none)
    (subst (λ (q : List Id). IsWorld cells a (record { nodes = q; founder = founder; entries = [] })) (sym ids)
    (record {
      legal = record { setting = s; said = All-nil (λ (e : Entry). IsSaidBy e.event); legal = tt };
      vias = All-nil (λ (e : Entry). ViaIs (record { nodes = nodes; founder = founder }) e.event);
      stamps = tt;
      stand = st;
      listed = l;
    }))

-- what was prepared is refused
pub IsWorld-kept : (cells new : List Node) (a b : Messages) (founder : Id) (es others : List Entry) →
    IsWorld cells a (record { nodes = ids_of cells; founder = founder; entries = es }) → ids_of new ≡ ids_of cells → others ≡ es →
    ((states : _) → AllStand cells states → AllStand new states) → ((fs : List Entry) → ListsMessages a fs → ListsMessages b fs) →
    IsWorld new b (record { nodes = ids_of new; founder = founder; entries = others })
IsWorld-kept cells new a b founder es others w ids same st l =
    subst (λ (q : List Entry). IsWorld new b (record { nodes = ids_of new; founder = founder; entries = q })) (sym same)
    (subst (λ (q : List Id). IsWorld new b (record { nodes = q; founder = founder; entries = es })) (sym ids)
    (record {
      legal = w.legal;
      vias = w.vias;
      stamps = w.stamps;
      stand = st (world_of (record { nodes = ids_of cells; founder = founder; entries = es })).states w.stand;
      listed = l es w.listed;
    }))

-- the entry of an event, as it is made of what was prepared
pub entry-made : (r : Recorded) (v : Event) (place : ℕ) (c : ComesTo r v place) (p : Prepared) (i : Input) (stamp : Stamp) (x : Id) → i ≡ c.input →
    Prepares ((world_of r).states (slice_index r.nodes place)) p (step ((world_of r).states (slice_index r.nodes place)) i) →
    stamp ≡ length r.entries + 1 → x ≡ slice_index r.nodes place →
    record { event = v; messages = map (enveloped stamp x) p.messages; notes = p.notes } ≡ entry_of (world_of r) v
entry-made r v place c p i stamp x same plans numbered here =
    let at : Id = slice_index r.nodes place in
    ap (λ (k : ℕ). record { event = v; messages = map (enveloped k x) p.messages; notes = p.notes }) numbered
    ∙ ap (λ (y : ℕ). record { event = v; messages = map (enveloped (length r.entries + 1) y) p.messages; notes = p.notes }) here
    ∙ ap (λ (ss : List Sent). record { event = v; messages = map (enveloped (length r.entries + 1) at) ss; notes = p.notes }) plans.messages
    ∙ ap (λ (ns : List Note). record { event = v; messages = map (enveloped (length r.entries + 1) at) (step ((world_of r).states at) i).sends; notes = ns })
    plans.notes
    ∙ ap (λ (j : Input). entry_by (length r.entries + 1) at v (step ((world_of r).states at) j)) same
    ∙ sym (entry-of r v at c.input c.is_at)
