-- A record with one event more: it is legal, and the world after it is the world in which the event has happened.
use Rattle.std.proofs.Common.{◌≡◌, ◌<◌, ◌+◌, ℕ, suc, Option, Some, None, List, [], ◌∷◌, ◌++◌, map, All, Contains, length, slice_get, slice_index, refl}
use Rattle.std.proofs.Common.{sym, subst, ap, ◌∙◌, arith}
use Rattle.std.proofs.lemmas.List.Elements.{All-push, All-weaker, All-nil, All-cons}
use Rattle.wire_msg.specs.Words.{Envelope, Sent}
use Rattle.overlay_rules.specs.declared.entry.Event.{Event}
use Rattle.overlay_rules.specs.declared.entry.Event.TheVariants as event
use Rattle.overlay_rules.specs.declared.entry.Entry.{Entry}
use Rattle.overlay_rules.specs.Outcome.{Input, Comes, Command as ToldCommand, Noise as NoFrame}
use Rattle.wire_msg.specs.declared.command.Command.{Command}
use Rattle.overlay_rules.specs.Step.{step}
use Rattle.overlay_rules.specs.Record.{World, visit, visit_of, sent_in, unstamped, enveloped, IsSaidBy, IsFresh, IsFreshAfter, Follows, IsRecord, states_after}
use Rattle.overlay_rules.specs.Record.{state_at, world_at_start}
use Rattle.overlay_rules.specs.Played.{entry_at, entry_of, happened, oldest_undelivered}
use Rattle.overlay_rules.proofs.Histories.{run-push, past_of_run, LegalFrom-push}
use Rattle.world_model.specs.Recorded.{Recorded, setting_of, world_of, with_event}
use Rattle.step_facts.specs.Receivers.{ViaIs, ViasAre}
use Rattle.world_model.specs.Numbers.{IsNumberedBelow, IsNewest}
use Rattle.world_model.specs.Stamps.{AreStamped, AreStampedFrom}
use Rattle.world_model.specs.Worlds.{IsWorld, ComesTo, entry_by}
use Rattle.world_model.specs.Cells.{AllStand}
use Rattle.world_model.specs.Index.{ListsMessages, IsBelow, delivered_by, oldest_of}
use Rattle.world_model.specs.declared.index.Messages.{Messages}
use Rattle.world_model.proofs.Finding.{index-or}
use Rattle.world_model.proofs.Listing.{oldest-listed, get-within}
use Rattle.node_parts.specs.declared.node.Node.{Node}

-- ---- the world after it

pub past-of : (r : Recorded) → (world_of r).past ≡ r.entries
past-of r = past_of_run (world_at_start (setting_of r)) r.entries

pub world-with_event : (r : Recorded) (v : Event) → world_of (with_event r v) ≡ happened (world_of r) v
world-with_event r v = run-push (world_at_start (setting_of r)) r.entries (entry_of (world_of r) v)

-- the entry of an event that comes to node x as this input
pub entry-of : (r : Recorded) (v : Event) (x : ℕ) (i : Input) → visit (sent_in r.entries) v ≡ Some (record { node = x; input = i }) →
    entry_of (world_of r) v ≡ entry_by (length r.entries + 1) x v (step ((world_of r).states x) i)
entry-of r v x i e =
    ap (λ past. entry_at (world_of r) v (visit (sent_in past) v)) (past-of r)
    ∙ ap (entry_at (world_of r) v) e
    ∙ ap (λ past. entry_by (length past + 1) x v (step ((world_of r).states x) i)) (past-of r)

pub states-with_event : (r : Recorded) (v : Event) (x : ℕ) (i : Input) → visit (sent_in r.entries) v ≡ Some (record { node = x; input = i }) →
    (world_of (with_event r v)).states ≡ state_at (world_of r).states x (step ((world_of r).states x) i).state
states-with_event r v x i e =
    ap (λ (w : World). w.states) (world-with_event r v)
    ∙ ap (λ (d : Entry). states_after (world_of r).states (visit (sent_in (world_of r).past) d.event)) (entry-of r v x i e)
    ∙ ap (λ past. states_after (world_of r).states (visit (sent_in past) v)) (past-of r)
    ∙ ap (states_after (world_of r).states) e

-- ---- it is legal

unstamped-all : (n x : ℕ) (ss : List Sent) → map unstamped (map (enveloped n x) ss) ≡ map (enveloped 0 x) ss
unstamped-all n x [] = refl
unstamped-all n x (s ∷ ss) = ap (λ vs. enveloped 0 x s ∷ vs) (unstamped-all n x ss)

follows : (r : Recorded) (v : Event) (x : ℕ) (i : Input) → visit (sent_in r.entries) v ≡ Some (record { node = x; input = i }) → Contains r.nodes x →
    IsFresh r.entries v →
    Follows (setting_of r) (world_of r) (entry_of (world_of r) v)
follows r v x i e c f =
    subst (Follows (setting_of r) (world_of r)) (sym (entry-of r v x i e))
    (record {
      at = record { node = x; input = i };
      is_at = ap (λ past. visit (sent_in past) v) (past-of r) ∙ e;
      member = c;
      fresh = subst (λ past. IsFresh past v) (sym (past-of r)) f;
      messages = unstamped-all (length r.entries + 1) x (step ((world_of r).states x) i).sends;
      notes = refl;
    })

event-of : (r : Recorded) (v : Event) (x : ℕ) (i : Input) → visit (sent_in r.entries) v ≡ Some (record { node = x; input = i }) →
    (entry_of (world_of r) v).event ≡ v
event-of r v x i e = ap (λ (d : Entry). d.event) (entry-of r v x i e)

pub record-with_event : (r : Recorded) (v : Event) (x : ℕ) (i : Input) → visit (sent_in r.entries) v ≡ Some (record { node = x; input = i }) →
    Contains r.nodes x → IsFresh r.entries v → IsSaidBy v →
    IsRecord (setting_of r) r.entries → IsRecord (setting_of r) (with_event r v).entries
record-with_event r v x i e c f s h = record {
  setting = h.setting;
  said = All-push (λ (d : Entry). IsSaidBy d.event) r.entries (entry_of (world_of r) v) h.said (subst IsSaidBy (sym (event-of r v x i e)) s);
  legal = LegalFrom-push (setting_of r) (world_at_start (setting_of r)) r.entries (entry_of (world_of r) v) h.legal (follows r v x i e c f);
}

pub vias-with_event : (r : Recorded) (v : Event) (x : ℕ) (i : Input) → visit (sent_in r.entries) v ≡ Some (record { node = x; input = i }) →
    ViaIs (setting_of r) v →
    ViasAre (setting_of r) r.entries → ViasAre (setting_of r) (with_event r v).entries
vias-with_event r v x i e a h = All-push (λ (d : Entry). ViaIs (setting_of r) d.event) r.entries (entry_of (world_of r) v) h
    (subst (ViaIs (setting_of r)) (sym (event-of r v x i e)) a)

-- the newest number is no other command's
pub IsFresh-newest : (past : List Entry) (x n : ℕ) (c : _) → IsNewest n past → IsFresh past (event.Command x n c)
IsFresh-newest past x n c h = All-weaker (λ (e : Entry). IsNumberedBelow n e.event) (λ (e : Entry). IsFreshAfter x n e.event) (λ e. one e.event) past h where
  one : (v : Event) → IsNumberedBelow n v → IsFreshAfter x n v
  one (event.Command y m d) l = ((λ e. absurd (omega (arith, e, l))), λ e. l)
  one (event.Deliver m) l = tt
  one (event.Noise y) l = tt

-- ---- stamps

stamped-all : (n x : ℕ) (ss : List Sent) → All (λ (v : Envelope). v.stamp ≡ n) (map (enveloped n x) ss)
stamped-all n x [] = All-nil (λ (v : Envelope). v.stamp ≡ n)
stamped-all n x (s ∷ ss) = All-cons (λ (v : Envelope). v.stamp ≡ n) (enveloped n x s) (map (enveloped n x) ss) refl (stamped-all n x ss)

stamped-push : (n : ℕ) (es : List Entry) (e : Entry) → AreStampedFrom n es → All (λ (v : Envelope). v.stamp ≡ n + length es) e.messages →
    AreStampedFrom n (es ++ e ∷ [])
stamped-push n [] e h a = let z : n + 0 ≡ n = omega arith in (subst (λ k. All (λ (v : Envelope). v.stamp ≡ k) e.messages) z a, tt)
stamped-push n (d ∷ es) e h a = let z : n + suc (length es) ≡ suc n + length es =
    omega arith in (h.0, stamped-push (suc n) es e h.1 (subst (λ k. All (λ (v : Envelope). v.stamp ≡ k) e.messages) z a))

pub stamps-with_event : (r : Recorded) (v : Event) (x : ℕ) (i : Input) → visit (sent_in r.entries) v ≡ Some (record { node = x; input = i }) →
    AreStamped r.entries → AreStamped (with_event r v).entries
stamps-with_event r v x i e h =
    subst (λ (d : Entry). AreStamped (r.entries ++ d ∷ [])) (sym (entry-of r v x i e))
    (let n : length r.entries + 1 ≡ 1 + length r.entries = omega arith in
    stamped-push 1 r.entries (entry_by (length r.entries + 1) x v (step ((world_of r).states x) i)) h
    (subst (λ k. All (λ (d : Envelope). d.stamp ≡ k) (map (enveloped (length r.entries + 1) x) (step ((world_of r).states x) i).sends)) n
    (stamped-all (length r.entries + 1) x (step ((world_of r).states x) i).sends)))

-- ---- what a world keeps

pub oldest-of : (r : Recorded) (a : Messages) → ListsMessages a r.entries → oldest_of a ≡ oldest_undelivered (world_of r)
oldest-of r a h = oldest-listed (world_of r) a (subst (ListsMessages a) (sym (past-of r)) h)

-- after the event the record is legal, and its joiners go by nodes
pub legal-with_event : (nodes : List Node) (a : Messages) (r : Recorded) (v : Event) (place : ℕ) → IsWorld nodes a r → ComesTo r v place →
    IsFresh r.entries v → IsSaidBy v → IsRecord (setting_of r) (with_event r v).entries
legal-with_event nodes a r v place w c f s =
    record-with_event r v (slice_index r.nodes place) c.input c.is_at (Contains-index r.nodes place c.within) f s w.legal
  where
    Contains-index : (xs : List ℕ) (k : ℕ) → k < length xs → Contains xs (slice_index xs k)
    Contains-index xs k l = (k, l, index-or xs k (slice_index xs k) l)

pub IsWorld-with_event : (nodes new : List Node) (a b : Messages) (r : Recorded) (v : Event) (place : ℕ) → IsWorld nodes a r → (c : ComesTo r v place) →
    IsFresh r.entries v → IsSaidBy v → ViaIs (setting_of r) v →
    AllStand new (state_at (world_of r).states (slice_index r.nodes place) (step ((world_of r).states (slice_index r.nodes place)) c.input).state) →
    ListsMessages b (with_event r v).entries → IsWorld new b (with_event r v)
IsWorld-with_event nodes new a b r v place w c f s m st l =
    record {
      legal = legal-with_event nodes a r v place w c f s;
      vias = vias-with_event r v (slice_index r.nodes place) c.input c.is_at m w.vias;
      stamps = stamps-with_event r v (slice_index r.nodes place) c.input c.is_at w.stamps;
      stand = subst (AllStand new) (sym (states-with_event r v (slice_index r.nodes place) c.input c.is_at)) st;
      listed = l;
    }

-- an event comes from what was sent
pub comes-below : (r : Recorded) (v : Event) (place : ℕ) → ComesTo r v place → IsBelow (length (sent_in r.entries)) (delivered_by v)
comes-below r (event.Deliver m) place c = found (slice_get (sent_in r.entries) m) refl c.is_at where
  found : (o : Option Envelope) → slice_get (sent_in r.entries) m ≡ o → visit_of o ≡ Some (record { node = slice_index r.nodes place; input = c.input }) →
      m < length (sent_in r.entries)
  found None h k = cc
  found (Some v) h k = get-within (sent_in r.entries) m v h
comes-below r (event.Command x n d) place c = tt
comes-below r (event.Noise x) place c = tt

-- a command and noise come to their node's place
pub command-comes : (r : Recorded) (x n : ℕ) (d : Command) (place : ℕ) → place < length r.nodes → slice_index r.nodes place ≡ x →
    ComesTo r (event.Command x n d) place
command-comes r x n d place l e =
    record { within = l; input = ToldCommand n d; is_at = ap (λ y. Some (record { node = y; input = ToldCommand n d })) (sym e) }

pub noise-comes : (r : Recorded) (x place : ℕ) → place < length r.nodes → slice_index r.nodes place ≡ x → ComesTo r (event.Noise x) place
noise-comes r x place l e = record { within = l; input = NoFrame; is_at = ap (λ y. Some (record { node = y; input = NoFrame })) (sym e) }

-- a message that was sent comes to its receiver's place
pub delivery-comes : (r : Recorded) (m place : ℕ) (v : Envelope) → slice_get (sent_in r.entries) m ≡ Some v → place < length r.nodes →
    slice_index r.nodes place ≡ v.receiver →
    ComesTo r (event.Deliver m) place
delivery-comes r m place v found l e = record {
  within = l;
  input = Comes v.sender v.message;
  is_at = ap visit_of found ∙ ap (λ x. Some (record { node = x; input = Comes v.sender v.message })) (sym e);
}
