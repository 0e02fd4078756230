-- One entry more, and what an input changes that comes to no node.
use Rattle.std.proofs.Common.{◌≡◌, ℕ, ◌+◌, ◌<◌, Some, None, List, [], ◌∷◌, zero, suc, length, take, map, slice_get, slice_index_or, Contains}
use Rattle.std.proofs.Common.{refl, sym, subst, ap, ◌∙◌, arith}
use Rattle.std.specs.Option.{option_map}
use Rattle.std.proofs.lemmas.List.Sums.{fold-append}
use Rattle.std.proofs.lemmas.Option.{slice_get-map}
use Rattle.std.proofs.lemmas.Grind.{flat_map-append}
use Rattle.std.proofs.lemmas.List.{append-nil}
use Rattle.ring_math.specs.Names.{Id}
use Rattle.wire_msg.specs.declared.message.Envelope.{Envelope as CodeEnvelope}
use Rattle.wire_msg.specs.Words.{plain_envelope}
use Rattle.overlay_rules.specs.declared.entry.Entry.{Entry}
use Rattle.overlay_rules.specs.declared.entry.Event.TheVariants as event
use Rattle.overlay_rules.specs.State.{State}
use Rattle.overlay_rules.specs.Record.{Setting, sent_in, state_at, states_after, visit, visit_of, world_after}
use Rattle.overlay_rules.specs.Table.{notes_in}
use Rattle.overlay_rules.proofs.Histories.{past_after, state_at-other, world_after-next}
use Rattle.overlay_rules.proofs.Prefixes.{take-got}
use Rattle.node_parts.specs.declared.node.Node.{Node}
use Rattle.node_parts.specs.Seen.{Stands}
use Rattle.world_model.specs.Cells.{AllStand, ids_of}
use Rattle.trace_picture.specs.Keys.{keys_in, with_note, with_notes}

-- the states after one entry more
pub states_next : (g : Setting) (es : List Entry) (i : ℕ) (e : Entry) → slice_get es i ≡ Some e →
    (world_after g es (i + 1)).states ≡ states_after (world_after g es i).states (visit (sent_in (take i es)) e.event)
states_next g es i e at =
    ap (λ w. w.states) (world_after-next g es i e at)
    ∙ ap (λ past. states_after (world_after g es i).states (visit (sent_in past) e.event)) (past_after g es i)

-- the node at a place is among the nodes
pub ids-contain : (nodes : List Node) (k : ℕ) (d : Node) → k < length nodes → Contains (ids_of nodes) (slice_index_or nodes k d).me
ids-contain [] k d l = absurd (omega arith)
ids-contain (n ∷ ns) zero d l = (0, omega arith, refl)
ids-contain (n ∷ ns) (suc k) d l =
    let rest = ids-contain ns k d (omega arith) in (suc rest.0, (let within = rest.1 in omega arith), rest.2)

-- what is no node's changes nothing
pub nowhere : (nodes : List Node) (states : Id → State) (x : Id) (s : State) → ¬ Contains (ids_of nodes) x → AllStand nodes states →
    AllStand nodes (state_at states x s)
nowhere nodes states x s absent stand = record {
  each = λ k d l.
      subst (Stands (slice_index_or nodes k d))
      (sym (state_at-other states x s (slice_index_or nodes k d).me (λ same. absent (subst (Contains (ids_of nodes)) same (ids-contain nodes k d l)))))
      (stand.each k d l);
}

-- where a message comes
pub delivered : (sent : List CodeEnvelope) (past : List Entry) (m : ℕ) (v : CodeEnvelope) → map plain_envelope sent ≡ sent_in past →
    slice_get sent m ≡ Some v → visit (sent_in past) (event.Deliver m) ≡ visit_of (Some (plain_envelope v))
delivered sent past m v all at =
    ap visit_of (ap (λ vs. slice_get vs m) (sym all) ∙ slice_get-map plain_envelope sent m ∙ ap (option_map plain_envelope) at)

pub undelivered : (sent : List CodeEnvelope) (past : List Entry) (m : ℕ) → map plain_envelope sent ≡ sent_in past → slice_get sent m ≡ None →
    visit (sent_in past) (event.Deliver m) ≡ None
undelivered sent past m all at =
    ap visit_of (ap (λ vs. slice_get vs m) (sym all) ∙ slice_get-map plain_envelope sent m ∙ ap (option_map plain_envelope) at)

-- the keys with one entry more
pub keys_next : (es : List Entry) (i : ℕ) (e : Entry) → slice_get es i ≡ Some e → keys_in (take (i + 1) es) ≡ with_notes (keys_in (take i es)) e.notes
keys_next es i e at =
    ap keys_in (take-got es i e at)
    ∙ ap (λ notes. with_notes [] notes) (flat_map-append (λ (f : Entry). f.notes) (take i es) (e ∷ []))
    ∙ fold-append with_note [] (notes_in (take i es)) (notes_in (e ∷ []))
    ∙ ap (with_notes (keys_in (take i es))) (append-nil e.notes)
