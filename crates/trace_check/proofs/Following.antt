-- One entry more: it may follow and is replayed, or which part of it is wrong.
use Rattle.std.proofs.Common.{◌≡◌, ℕ, Bool, Option, Some, None, List, [], ◌∷◌, ◌++◌, zero, suc, ◌<◌, length, map, slice_get, slice_index}
use Rattle.std.proofs.Common.{slice_index_or, arith, Contains, refl, sym, subst, ap, ◌∙◌}
use Rattle.std.specs.Bool.{Decides}
use Rattle.std.specs.Option.{option_map}
use Rattle.std.proofs.lemmas.Bool.Decides.{Decides-like}
use Rattle.std.proofs.lemmas.Option.{slice_get-map}
use Rattle.ring_math.specs.Names.{Id}
use Rattle.wire_msg.specs.declared.message.Envelope.{Envelope as CodeEnvelope}
use Rattle.wire_msg.specs.declared.note.Note.{Note}
use Rattle.wire_msg.specs.Words.{Envelope, Sent, plain, plain_envelope}
use Rattle.overlay_rules.specs.declared.entry.Event.{Event}
use Rattle.overlay_rules.specs.declared.entry.Event.TheVariants as event
use Rattle.overlay_rules.specs.declared.entry.Entry.{Entry}
use Rattle.overlay_rules.specs.Outcome.{Input, Outcome, Comes}
use Rattle.overlay_rules.specs.State.{State}
use Rattle.overlay_rules.specs.Step.{step}
use Rattle.overlay_rules.specs.Record.{Setting, World, Visit, visit, visit_of, sent_in, states_after, state_at, run, world_at_start}
use Rattle.overlay_rules.specs.Record.{unstamped, enveloped, IsFresh, Follows}
use Rattle.overlay_rules.proofs.Histories.{run-push, past_of_run}
use Rattle.node_parts.specs.declared.node.Node.{Node}
use Rattle.node_parts.specs.declared.change.Prepared.{Prepared}
use Rattle.node_parts.specs.Makes.{Makes}
use Rattle.node_parts.specs.Plans.{Prepares}
use Rattle.node_parts.specs.Sound.{IsSound}
use Rattle.world_model.specs.Cells.{AllStand, ids_of}
use Rattle.trace_check.specs.declared.replay.Replay.{Replay}
use Rattle.trace_check.specs.declared.verdict.Part.{Part}
use Rattle.trace_check.specs.declared.verdict.Part.TheVariants as part
use Rattle.trace_check.specs.Numbers.{AreNumbersOf}
use Rattle.trace_check.specs.Verdicts.{MayCome, IsWrongIn}
use Rattle.trace_check.specs.Replays.{AreSent, IsReplay, IsReplayedOrWrong, IsStepped}

abbrev pub world : Setting → List Entry → World
world g past = run (world_at_start g) past

past-of : (g : Setting) (past : List Entry) → (world g past).past ≡ past
past-of g past = past_of_run (world_at_start g) past

-- what stands at a place is in the list
pub contains-at : (xs : List ℕ) (k x : ℕ) → k < length xs → slice_index xs k ≡ x → Contains xs x
contains-at xs k x l e = (k, l, read xs k l ∙ e) where
  read : (ys : List ℕ) (i : ℕ) → i < length ys → slice_index_or ys i x ≡ slice_index ys i
  read [] i h = absurd (omega arith)
  read (y ∷ ys) zero h = refl
  read (y ∷ ys) (suc i) h = read ys i (omega arith)

-- ---- why an event may not come

pub no_message : (g : Setting) (past : List Entry) (v : Event) → visit (sent_in past) v ≡ None → ¬ MayCome g (world g past) v
no_message g past v none = λ h. let is : None ≡ Some h.at = sym none ∙ ap (λ p. visit (sent_in p) v) (sym (past-of g past)) ∙ h.is_at in cc

pub no_node : (g : Setting) (past : List Entry) (v : Event) (x : Id) (i : Input) → visit (sent_in past) v ≡ Some (record { node = x; input = i }) →
    ¬ Contains g.nodes x → ¬ MayCome g (world g past) v
no_node g past v x i is absent = λ h.
    let same : Some (record { node = x; input = i }) ≡ Some h.at = sym is ∙ ap (λ p. visit (sent_in p) v) (sym (past-of g past)) ∙ h.is_at in
    let at : record { node = x; input = i } ≡ h.at = cc in
    absent (subst (Contains g.nodes) (sym (ap (λ (t : Visit). t.node) at)) h.member)

pub no_new_number : (g : Setting) (past : List Entry) (v : Event) → ¬ IsFresh past v → ¬ MayCome g (world g past) v
no_new_number g past v used = λ h. used (subst (λ p. IsFresh p v) (past-of g past) h.fresh)

-- ---- where a message comes

pub delivered : (sent : List CodeEnvelope) (past : List Entry) (m : ℕ) (v : CodeEnvelope) → map plain_envelope sent ≡ sent_in past →
    slice_get sent m ≡ Some v → visit (sent_in past) (event.Deliver m) ≡ Some (record { node = v.receiver; input = Comes v.sender (plain v.message) })
delivered sent past m v all at =
    ap visit_of (ap (λ vs. slice_get vs m) (sym all) ∙ slice_get-map plain_envelope sent m ∙ ap (option_map plain_envelope) at)

pub undelivered : (sent : List CodeEnvelope) (past : List Entry) (m : ℕ) → map plain_envelope sent ≡ sent_in past → slice_get sent m ≡ None →
    visit (sent_in past) (event.Deliver m) ≡ None
undelivered sent past m all at =
    ap visit_of (ap (λ vs. slice_get vs m) (sym all) ∙ slice_get-map plain_envelope sent m ∙ ap (option_map plain_envelope) at)

-- ---- a step that was prepared

pub sent_exactly : (r : Bool) (x y : Id) (o : Outcome) (messages : List Envelope) (sends : List Sent) → y ≡ x → sends ≡ o.sends →
    Decides r (map unstamped messages ≡ map (enveloped 0 y) sends) → Decides r (AreSent x o messages)
sent_exactly r x y o messages sends same is h =
    let e : map (enveloped 0 y) sends ≡ map (enveloped 0 x) o.sends = ap (λ z. map (enveloped 0 z) sends) same ∙ ap (map (enveloped 0 x)) is in
    Decides-like r (λ k. k ∙ e) (λ k. k ∙ sym e) h

pub noted_exactly : (r : Bool) (notes noted due : List Note) → noted ≡ due → Decides r (notes ≡ noted) → Decides r (notes ≡ due)
noted_exactly r notes noted due e h = Decides-like r (λ k. k ∙ e) (λ k. k ∙ sym e) h

-- the change is made at the node that it was prepared for
pub made : (now : List Node) (states : Id → State) (x y : Id) (p : Prepared) (o : Outcome) → y ≡ x → Prepares (states x) p o → IsSound o.state →
    ((t : State) → Makes p.change (states y) t → IsSound t → AllStand now (state_at states y t)) → AllStand now (state_at states x o.state)
made now states x y p o same plans sound commit =
    subst (λ z. AllStand now (state_at states z o.state)) same
    (commit o.state (subst (λ z. Makes p.change (states z) o.state) (sym same) plans.state) sound)

-- ---- an entry that is wrong does not follow

-- what is found at one place is one thing
found_once : {A : Type 0} (P : A → Type 0) (o : Option A) (x y : A) → o ≡ Some x → o ≡ Some y → P x → P y
found_once P o x y e f p = let same : Some x ≡ Some y = sym e ∙ f in let one : x ≡ y = cc in subst P one p

abbrev SentAt : World → Entry → Visit → Type 0
SentAt w e at = map unstamped e.messages ≡ map (enveloped 0 at.node) (step (w.states at.node) at.input).sends

abbrev NotedAt : World → Entry → Visit → Type 0
NotedAt w e at = e.notes ≡ (step (w.states at.node) at.input).notes

pub wrong-follows_not : (g : Setting) (w : World) (e : Entry) (p : Part) → IsWrongIn g w e p → ¬ Follows g w e
wrong-follows_not g w e part.Event never = λ f. never (record { at = f.at; is_at = f.is_at; member = f.member; fresh = f.fresh })
wrong-follows_not g w e part.Sent h = λ f. h.1 (λ at is. found_once (SentAt w e) (visit (sent_in w.past) e.event) f.at at f.is_at is f.messages)
wrong-follows_not g w e part.Notes h = λ f. h.2 (λ at is. found_once (NotedAt w e) (visit (sent_in w.past) e.event) f.at at f.is_at is f.notes)

-- ---- one entry more

pub replayed : (a b : Replay) (g : Setting) (past : List Entry) (e : Entry) (x : Id) (i : Input) (found : Option Part) →
    visit (sent_in past) e.event ≡ Some (record { node = x; input = i }) → Contains g.nodes x → IsFresh past e.event →
    ids_of b.cells ≡ ids_of a.cells → IsReplay a g past → AreNumbersOf b.numbers (past ++ e ∷ []) →
    IsStepped b (world g past).states x i e.messages e.notes found → IsReplayedOrWrong b g past e found
replayed a b g past e x i found is member fresh ids h numbers stepped = by_part found stepped where
  at : Visit
  at = record { node = x; input = i }

  is_at : visit (sent_in (world g past).past) e.event ≡ Some at
  is_at = ap (λ p. visit (sent_in p) e.event) (past-of g past) ∙ is

  may : MayCome g (world g past) e.event
  may = record { at = at; is_at = is_at; member = member; fresh = subst (λ p. IsFresh p e.event) (sym (past-of g past)) fresh }

  states : (world g (past ++ e ∷ [])).states ≡ state_at (world g past).states x (step ((world g past).states x) i).state
  states = ap (λ (w : World). w.states) (run-push (world_at_start g) past e) ∙ ap (states_after (world g past).states) is_at

  by_part : (found : Option Part) → IsStepped b (world g past).states x i e.messages e.notes found → IsReplayedOrWrong b g past e found
  by_part None s = (
    record {
      at = at;
      is_at = is_at;
      member = member;
      fresh = may.fresh;
      messages = s.0;
      notes = s.1;
    },
    record {
      ids = ids ∙ h.ids;
      stand = subst (AllStand b.cells) (sym states) s.2;
      numbers = numbers;
    },
  )
  by_part (Some part.Event) s = absurd s
  by_part (Some part.Sent) s = (may, λ rightly. s (rightly at is_at))
  by_part (Some part.Notes) s = (
    may,
    (λ other same. found_once (SentAt (world g past) e) (visit (sent_in (world g past).past) e.event) at other is_at same s.0),
    λ rightly. s.1 (rightly at is_at),
  )
