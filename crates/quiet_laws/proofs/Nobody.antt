-- In a quiet record nobody is left waiting: whatever is open rests somewhere, nothing is on its way, so it rests where a store is full.
use Rattle.std.proofs.Common.{◌≡◌, ◌⊎◌, inl, inr, ℕ, ◌<◌, Bool, true, false, ◌&&◌, Some, None, List, [], ◌∷◌, length, Contains, take_all, refl, sym, subst}
use Rattle.std.proofs.Common.{ap, ◌∙◌, arith}
use Rattle.std.specs.List.{list_all}
use Rattle.std.proofs.lemmas.Bool.{cases_Bool, and_from}
use Rattle.std.proofs.lemmas.List.Elements.{Contains-push_cases}
use Rattle.ring_math.specs.declared.limits.TheConstants.{MOST_ENTRIES}
use Rattle.ring_math.specs.Names.{Id, Attempt, Number, FileId, Content}
use Rattle.ring_math.specs.Files.{has_room, is_entry, is_tomb, has_entry, has_tomb}
use Rattle.coverage.specs.GapFiles.{Lists}
use Rattle.wire_msg.specs.declared.command.Command.{Command as NodeCommand}
use Rattle.wire_msg.specs.declared.command.Command.TheVariants as command
use Rattle.overlay_rules.specs.declared.entry.Entry.{Entry}
use Rattle.overlay_rules.specs.declared.request.Pending.{Pending}
use Rattle.overlay_rules.specs.State.{Phase, Waiting, Asking, Probing, Leasing, Ready}
use Rattle.overlay_rules.specs.Outcome.{Input}
use Rattle.overlay_rules.specs.ReadyTest.{has_all}
use Rattle.overlay_rules.specs.Record.{Setting, IsSetting, World, IsRecord, world_at_start, world_after}
use Rattle.overlay_rules.specs.Rightly.{WasCommanded}
use Rattle.overlay_rules.proofs.Each.{Each, Each-contains}
use Rattle.overlay_rules.proofs.Histories.{past_after}
use Rattle.step_facts.proofs.Always.{Takes, Keeps, after_step, always}
use Rattle.step_facts.proofs.Learnt.{IsCons}
use Rattle.step_facts.proofs.Requests.{AsksFor}
use Rattle.ring_laws.proofs.Closings.{IsJoinOf}
use Rattle.ring_laws.proofs.Lookups.{nobody_commanded}
use Rattle.ring_laws.proofs.JoinNumbers.{JoinsCommanded, joins_keep_numbers, joins_at_the_start}
use Rattle.ring_laws.proofs.Closed.{join_was}
use Rattle.table_laws.proofs.Rising.{full_length}
use Rattle.table_laws.proofs.Waits.{TableHolds, table_keeps, table_at_start}
use Rattle.quiet_laws.specs.Quiet.{IsQuiet}
use Rattle.quiet_laws.specs.Closed.{IsClosed}
use Rattle.quiet_laws.specs.Excuses.{WaitsForRoom, HasNoRoom, MayWait}
use Rattle.quiet_laws.specs.Laws.{last_world, NobodyWaits, NobodyWaitsWithRoom}
use Rattle.quiet_laws.proofs.Has.{Has, found}
use Rattle.quiet_laws.proofs.OnWay.{DeliveriesHold, deliveries_keep, deliveries_at_start, none_on_way}
use Rattle.quiet_laws.proofs.Going.{Asks, IsAskOf}
use Rattle.quiet_laws.proofs.Ending.{EndsHold, ends_keep, ends_at_start, closed_by, commanded_is}
use Rattle.quiet_laws.proofs.Full.{IsFull}
use Rattle.quiet_laws.proofs.Granted.{Provided, there, coming, no_room, IsHandover, AllProvided, ListsProvided, PhaseProvided, GrantsProvided, provided_keep}
use Rattle.quiet_laws.proofs.Granted.{provided_at_start}
use Rattle.quiet_laws.proofs.Inserts.{IsCopy, IsAck, TargetRests, AsksRest, asks_keep, asks_at_start}
use Rattle.quiet_laws.proofs.Inserts as target
use Rattle.quiet_laws.proofs.Joins.{IsQuestion, IsAnswer, NeedRests, JoinsRest, joins_rest_keep, joins_rest_at_start}
use Rattle.quiet_laws.proofs.Joins as need
use Rattle.quiet_laws.proofs.Needs.{Need, Members, AnswerOf, LeaseOf, IsUnanswered, Needs}
use Rattle.quiet_laws.proofs.Provided.{IsBuried}
use Rattle.quiet_laws.proofs.Resting.{IsReplyTo, Rests, asked, replied, waits, RestsHold, rests_keep, rests_at_start}
use Rattle.quiet_laws.proofs.ToReady.{CopiesGo, copies_go_on, copies_go_at_start}
use Rattle.quiet_laws.proofs.Undone.{Undone, UndoneHolds, undone_keeps, undone_at_start}

-- ---- every invariant

-- who was commanded is a node
record CommandersHold (g : Setting) (w : World) : Type 0 where
  members : (x : Id) (n : Number) (c : NodeCommand) → WasCommanded w x n c → Contains g.nodes x

commanders_keep : (g : Setting) (w : World) (e : Entry) (x : Id) (i : Input) → Takes g w e x i → CommandersHold g w → CommandersHold g (after_step w e x i)
commanders_keep g w e x i t h = record {
  members = λ y n c d. elim (Contains-push_cases w.past e d.0 d.1) [
    | inl old ↦ h.members y n c (d.0, old, d.2)
    | inr new ↦ let this = commanded_is w e.event x i t.arrives y n c (ap (λ (f : Entry). f.event) new ∙ d.2) in
        subst (Contains g.nodes) (sym this.0) t.member
  ];
}

-- those of files and rings, and where everything rests that is open
record QuietHolds (g : Setting) (w : World) : Type 0 where
  table : TableHolds g w
  joins : JoinsCommanded w
  commanders : CommandersHold g w
  deliveries : DeliveriesHold w
  ends : EndsHold w
  requests : RestsHold w
  asks : AsksRest w
  needs : JoinsRest w
  copies : CopiesGo w
  undone : UndoneHolds w
  provided : GrantsProvided w

quiet_keeps : (g : Setting) → IsSetting g → Keeps g (QuietHolds g)
quiet_keeps g set = record {
  keeps = λ w e x i h t. record {
    table = (table_keeps g set).keeps w e x i h.table t;
    joins = joins_keep_numbers g w e x i h.joins t;
    commanders = commanders_keep g w e x i t h.commanders;
    deliveries = deliveries_keep g w e x i t h.deliveries;
    ends = ends_keep g w e x i t h.ends;
    requests = rests_keep g w e x i t h.deliveries h.table.all.joins.messages h.requests;
    asks = asks_keep g w e x i t h.deliveries h.table h.asks;
    needs = joins_rest_keep g w e x i t h.deliveries h.table.all.joins.messages h.needs;
    copies = copies_go_on g w e x i t h.table.all.joins.messages h.copies;
    undone = undone_keeps g w e x i t h.copies h.undone;
    provided = provided_keep g w e x i t h.deliveries h.provided;
  };
}

quiet_at_start : (g : Setting) → IsSetting g → QuietHolds g (world_at_start g)
quiet_at_start g set = record {
  table = table_at_start g set;
  joins = joins_at_the_start g;
  commanders = record { members = λ x n c d. absurd (nobody_commanded g x n c d) };
  deliveries = deliveries_at_start g;
  ends = ends_at_start g;
  requests = rests_at_start g;
  asks = asks_at_start g;
  needs = joins_rest_at_start g;
  copies = copies_go_at_start g;
  undone = undone_at_start g;
  provided = provided_at_start g;
}

quiet_holds : (g : Setting) (es : List Entry) → IsRecord g es → (i : ℕ) → QuietHolds g (world_after g es i)
quiet_holds g es r i = always g (QuietHolds g) (quiet_at_start g r.setting) (quiet_keeps g r.setting) es r i

-- the whole record
all_past : (g : Setting) (es : List Entry) → (last_world g es).past ≡ es
all_past g es = past_after g es (length es) ∙ take_all (length es) es (omega arith)

-- ---- nothing is on its way

module _ (g : Setting) (w : World) (h : QuietHolds g w) (quiet : IsQuiet w.past) where
  -- requests: an insert that waits at a root
  record AtRoot (a : Id) (n : Number) : Type 0 where
    root : Id
    ask : Pending
    inside : Contains (w.states root).pending ask
    is : IsAskOf a n ask

  at_root : (a : Id) (n : Number) → Contains (w.states a).waiting n → AtRoot a n
  at_root a n c = by (h.requests.waiting a n c).rests where
    by : Rests w a n → AtRoot a n
    by (asked o) = absurd (none_on_way (λ v. Asks a n v.message) w quiet o)
    by (replied o) = absurd (none_on_way (IsReplyTo a n) w quiet o)
    by (waits y k) = let f = found (IsAskOf a n) (w.states y).pending k in record { root = y; ask = f.item; inside = f.inside; is = f.is }

  -- that waits for a target which is full
  target_full : (root o : Id) (n : Number) (f : FileId) (t : Id) → TargetRests w root o n f t → IsFull (w.states t).files f
  target_full root o n f t (target.asked u) = absurd (none_on_way (IsCopy root o n f t) w quiet u)
  target_full root o n f t (target.answered u) = absurd (none_on_way (IsAck root o n f t) w quiet u)
  target_full root o n f t (target.full k) = k

  first_of : (ts : List Id) → IsCons ts → (t : Id) × Contains ts t
  first_of [] c = absurd c
  first_of (t ∷ ts) c = (t, (0, omega arith, refl))

  insert_waits : (a : Id) (n : Number) (r : AtRoot a n) → WaitsForRoom g w a n r.ask.file
  insert_waits a n r =
      let rests = h.asks.asks r.root r.ask r.inside in
      let first = first_of r.ask.awaited rests.some in
      record {
        root = r.root;
        ask = r.ask;
        waits = r.inside;
        origin = r.is.0;
        number = r.is.1;
        file = refl;
        target = first.0;
        awaited = first.1;
        full = λ y c.
            let full = target_full r.root r.ask.origin r.ask.number r.ask.file y (rests.targets y c) in
            record {
              member = h.table.all.joins.messages.nodes y (rests.ready y c);
              full = full_length (w.states y).files (h.provided.rooms.room y) full.full;
              none = full.none;
            };
      }

  -- and was commanded
  insert_was : (a : Id) (n : Number) (r : AtRoot a n) → (copies : ℕ) × ((bytes : Content) × WasCommanded w a n (command.Insert r.ask.file copies bytes))
  insert_was a n r =
      let b = Each-contains (AsksFor (WasCommanded w)) (w.states r.root).pending r.ask (h.table.all.requests.pending r.root) r.inside in (
        b.copies,
        (
          b.bytes,
          subst (λ z. WasCommanded w z n (command.Insert r.ask.file b.copies b.bytes)) r.is.0
              (subst (λ z. WasCommanded w r.ask.origin z (command.Insert r.ask.file b.copies b.bytes)) r.is.1 b.asked),
        ),
      )

  -- joins: no need is left
  no_need : (y : Id) (n : Need) → Needs n (w.states y).phase → ⊥
  no_need y n q = by (h.needs.rests y n q) where
    by : NeedRests w y n → ⊥
    by (need.asked o) = none_on_way (IsQuestion y n) w quiet o
    by (need.answered o) = none_on_way (IsAnswer y n) w quiet o

  unanswered : (probed : List (Id × Bool)) → list_all (λ p. p.1) probed ≡ false → (z : Id) × Has (IsUnanswered z) probed
  unanswered [] e = cc
  unanswered (p ∷ ps) e = elim (cases_Bool p.1) [
    | inl answered ↦ let rest = unanswered ps (later p.1 (list_all (λ q. q.1) ps) answered e) in (rest.0, inr rest.1)
    | inr open' ↦ (p.0, inl (refl, open'))
  ] where
    later : (a b : Bool) → a ≡ true → (a && b) ≡ false → b ≡ false
    later true b e f = f
    later false b e f = cc

  -- where there is room, all that the lists name is there
  all_there : (y : Id) (fs : List FileId) → has_room (w.states y).files ≡ true → AllProvided w y fs → list_all (has_entry (w.states y).files) fs ≡ true
  all_there y [] room p = refl
  all_there y (f ∷ fs) room p =
      and_from (has_entry (w.states y).files f) (list_all (has_entry (w.states y).files) fs) (one p.0) (all_there y fs room p.1) where
        one : Provided w y f → has_entry (w.states y).files f ≡ true
        one (there s at) = ap is_entry at
        one (coming o) = absurd (none_on_way (IsHandover y f) w quiet o)
        one (no_room full) = cc

  all_buried : (y : Id) (fs : List FileId) → has_room (w.states y).files ≡ true → Each (IsBuried (w.states y).files) fs →
      list_all (has_tomb (w.states y).files) fs ≡ true
  all_buried y [] room p = refl
  all_buried y (f ∷ fs) room p =
      and_from (has_tomb (w.states y).files f) (list_all (has_tomb (w.states y).files) fs) (one p.0) (all_buried y fs room p.1) where
        one : IsBuried (w.states y).files f → has_tomb (w.states y).files f ≡ true
        one (inl tomb) = ap is_tomb tomb
        one (inr full) = cc

  has_those : (y : Id) (lists : Lists) → has_room (w.states y).files ≡ true → ListsProvided w y (Some lists) → has_all (w.states y) lists ≡ true
  has_those y lists room p =
      and_from (list_all (has_entry (w.states y).files) lists.manifest) (list_all (has_tomb (w.states y).files) lists.tombs)
      (all_there y lists.manifest room p.0) (all_buried y lists.tombs room p.1)

  join_waits : (x : Id) (n : Number) → Contains g.nodes x → IsJoinOf (w.states x).phase n → HasNoRoom g w x n
  join_waits x n member j = by (w.states x).phase refl j where
    leasing : (a : Attempt) (m : Number) (l r : Id) (gl gr : Lists) → (w.states x).phase ≡ Leasing a m l r (Some gl) (Some gr) → m ≡ n → HasNoRoom g w x n
    leasing a m l r gl gr e is = record {
      member = member;
      attempt = a;
      left = l;
      right = r;
      from_left = gl;
      from_right = gr;
      leasing = e ∙ ap (λ z. Leasing a z l r (Some gl) (Some gr)) is;
      lacks = lacks;
      full = full_length (w.states x).files (h.provided.rooms.room x) full;
    } where
      clash : (b : Bool) → b ≡ false → b ≡ true → ⊥
      clash true e f = cc
      clash false e f = cc

      lacks : has_all (w.states x) gl && has_all (w.states x) gr ≡ false
      lacks = subst (λ p. Undone p (w.states x).files) e (h.undone.undone x)

      full : has_room (w.states x).files ≡ false
      full = elim (cases_Bool (has_room (w.states x).files)) [
        | inl room ↦
            let kept : PhaseProvided w x (Leasing a m l r (Some gl) (Some gr)) = subst (PhaseProvided w x) e (h.provided.kept x) in
            let both : has_all (w.states x) gl && has_all (w.states x) gr ≡ true =
            and_from (has_all (w.states x) gl) (has_all (w.states x) gr) (has_those x gl room kept.0) (has_those x gr room kept.1) in
            absurd (clash (has_all (w.states x) gl && has_all (w.states x) gr) lacks both)
        | inr none ↦ none
      ]

    needs : (p : Phase) (m : Need) → (w.states x).phase ≡ p → Needs m p → ⊥
    needs p m e q = no_need x m (subst (Needs m) (sym e) q)

    by : (p : Phase) → (w.states x).phase ≡ p → IsJoinOf p n → HasNoRoom g w x n
    by (Asking a m) e is = absurd (needs (Asking a m) (Members a) e refl)
    by (Probing a m probed) e is =
        let z = unanswered probed (subst (λ p. Undone p (w.states x).files) e (h.undone.undone x)) in
        absurd (needs (Probing a m probed) (AnswerOf a z.0) e (refl, z.1))
    by (Leasing a m l r None fr) e is = absurd (needs (Leasing a m l r None fr) (LeaseOf a l r l) e (refl, refl, refl, inl (refl, refl)))
    by (Leasing a m l r (Some gl) None) e is = absurd (needs (Leasing a m l r (Some gl) None) (LeaseOf a l r r) e (refl, refl, refl, inr (refl, refl)))
    by (Leasing a m l r (Some gl) (Some gr)) e is = leasing a m l r gl gr e is
    by (Waiting a) e is = absurd is
    by (Ready a l r) e is = absurd is

  -- what is open may stay so
  open_waits : (x : Id) (n : Number) (c : NodeCommand) → WasCommanded w x n c → IsJoinOf (w.states x).phase n ⊎ Contains (w.states x).waiting n →
      MayWait g w x n c
  open_waits x n c was (inl j) =
      let b = join_was w x n (w.states x).phase (h.joins.phase x) j in
      subst (MayWait g w x n) (sym (h.table.all.requests.one x x n c (command.Join b.0) was b.1).1) (join_waits x n (h.commanders.members x n c was) j)
  open_waits x n c was (inr waiting) =
      let r = at_root x n waiting in
      let b = insert_was x n r in
      subst (MayWait g w x n) (sym (h.table.all.requests.one x x n c (command.Insert r.ask.file b.0 b.1.0) was b.1.1).1) (insert_waits x n r)

-- ---- the laws

pub nobody_waits : (g : Setting) (es : List Entry) → IsRecord g es → NobodyWaits g es
nobody_waits g es r quiet x n c was = elim (h.ends.ends x n c was) [
  | inl is_open ↦ inr (open_waits g (last_world g es) h (subst IsQuiet (sym (all_past g es)) quiet) x n c was is_open)
  | inr closed ↦ inl (subst (λ fs. IsClosed fs n) (all_past g es) (closed_by (last_world g es).past n closed))
] where
  h : QuietHolds g (last_world g es)
  h = quiet_holds g es r (length es)

-- where every store has room there is no excuse
no_excuse : (g : Setting) (w : World) (x : Id) (n : Number) (c : NodeCommand) →
    ((y : Id) → Contains g.nodes y → length (w.states y).files < MOST_ENTRIES) → MayWait g w x n c → ⊥
no_excuse g w x n (command.Insert f copies b) room h =
    let none = h.full h.target h.awaited in let less = room h.target none.member in let full = none.full in omega arith
no_excuse g w x n (command.Join via) room h = let less = room x h.member in let full = h.full in omega arith
no_excuse g w x n (command.Lookup key) room h = h
no_excuse g w x n (command.Fetch f) room h = h
no_excuse g w x n (command.Reclaim f) room h = h
no_excuse g w x n command.GiveUp room h = h

pub nobody_waits_with_room : (g : Setting) (es : List Entry) → IsRecord g es → NobodyWaitsWithRoom g es
nobody_waits_with_room g es r quiet room x n c was =
    elim (nobody_waits g es r quiet x n c was) [ inl closed ↦ closed | inr excuse ↦ absurd (no_excuse g (last_world g es) x n c room excuse) ]
