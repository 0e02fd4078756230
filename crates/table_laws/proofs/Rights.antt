-- Each answer that a step gives is right in the world that it leads to; of Stored, its holders hold the bytes in that world.
use Rattle.std.proofs.Common.{◌≡◌, ◌≢◌, inl, inr, ◌<◌, ◌^◌, ℕ, suc, true, false, not, ◌==◌, nat_lt, Option, Some, None, List, [], ◌∷◌, ◌++◌, filter, length}
use Rattle.std.proofs.Common.{Contains, refl, sym, subst, ap, ◌∙◌, arith}
use Rattle.std.proofs.lemmas.Bool.{cases_eq}
use Rattle.std.proofs.lemmas.Bool.Decides.{nat_tests}
use Rattle.ring_math.specs.Names.{Id, Key, FileId, Content, Number, Hops}
use Rattle.ring_math.specs.Keys.{key_of}
use Rattle.ring_math.specs.Sides.{leaves}
use Rattle.ring_math.specs.Files.{Slot, slot_of, has_room}
use Rattle.ring_math.proofs.Membership.{Contains-filter, Contains-none}
use Rattle.wire_msg.specs.declared.command.Command.{Command as NodeCommand}
use Rattle.wire_msg.specs.declared.command.Command.TheVariants as command
use Rattle.wire_msg.specs.declared.reply.Reply.{Reply}
use Rattle.wire_msg.specs.declared.reply.Reply.TheVariants as reply
use Rattle.wire_msg.specs.Words.{ReplicaAck}
use Rattle.overlay_rules.specs.declared.entry.Entry.{Entry}
use Rattle.overlay_rules.specs.declared.request.Pending.{Pending}
use Rattle.overlay_rules.specs.declared.request.Way.TheVariants as way
use Rattle.overlay_rules.specs.State.{State, is_ready}
use Rattle.overlay_rules.specs.Outcome.{Outcome, Input, Comes}
use Rattle.overlay_rules.specs.Routed.{way_of}
use Rattle.overlay_rules.specs.Roots.{targets_of, has_too_few, fetched}
use Rattle.overlay_rules.specs.Step.{step}
use Rattle.overlay_rules.specs.Record.{Setting, World, IsSaid, all_differ}
use Rattle.overlay_rules.specs.Ready.{IsReadyIn}
use Rattle.overlay_rules.specs.Laws.{IsOf}
use Rattle.overlay_rules.specs.Moments.{Moment}
use Rattle.overlay_rules.specs.Rightly.{WasCommanded, KeepsFor, RightFetchReply, RightReply}
use Rattle.overlay_rules.specs.Table.{Kept, Keeps, Gone, notes_in, table_of, table}
use Rattle.overlay_rules.proofs.Each.{Each, Each-contains, Each-weaker}
use Rattle.overlay_rules.proofs.Histories.{state_at-itself}
use Rattle.step_facts.proofs.Always.{after_step, step_moment}
use Rattle.step_facts.proofs.Messages.{ReadyIn, ready_stays}
use Rattle.step_facts.proofs.Requests.{InputCarries, IsOfFiles}
use Rattle.ring_laws.proofs.Lookups.{OnTheWay, AllHold, later, input_carries, WasCommanded-later}
use Rattle.table_laws.proofs.Slots.{Each-slot}
use Rattle.table_laws.proofs.Tables.{notes_in-push, reclaims}
use Rattle.table_laws.proofs.FileRules.{Requests, told, lookup_came, insert_came, fetch_came, reclaim_came}
use Rattle.table_laws.proofs.AnswerRules.{Answering, looked_up, not_ready, kept_back, fetched_here, not_there, reclaimed_here, insert_gone, insert_differs}
use Rattle.table_laws.proofs.AnswerRules.{insert_few, insert_full, insert_alone, insert_done, ended_gone, ended_busy}
use Rattle.table_laws.proofs.Targets.{targets_number}
use Rattle.table_laws.proofs.Keys.{key_bound}
use Rattle.table_laws.proofs.Rising.{RoomHolds, full_length, room_kept}
use Rattle.table_laws.proofs.Holding.{RightEntry, Stands, FilesHold, stands_kept}
use Rattle.table_laws.proofs.Filing.{Served, request_served, was_requested, all_said, said_of}
use Rattle.table_laws.proofs.Owners.{Stepping}
use Rattle.table_laws.proofs.Waits.{Asked, PendingHolds, WaitsHold, closest_stays, kept_as, owner_table, has_entry_still, ack_entry, kept_unless}

-- the answer Stored, as the world after its entry shows it
pub record StoredNow (g : Setting) (v : World) (f : FileId) (copies : ℕ) (b : Content) (holders : List Id) : Type 0 where
  pub kept : table v.past f ≡ Keeps b
  pub number : length holders ≡ copies
  pub differ : all_differ holders ≡ true
  pub ready : Each (IsReadyIn g v) holders
  pub hold : Each (λ y. slot_of (v.states y).files f ≡ Some (Some b)) holders

-- an answer is to a lookup, or says Stored, or is right in every record
pub data RightNow (g : Setting) (m : Moment) (from : Id) (n : Number) (r : Reply) : Type 0 where
  to_lookup : (key : Key) → WasCommanded m.world from n (command.Lookup key) → RightNow g m from n r
  stored : (f : FileId) (copies : ℕ) (b : Content) (holders : List Id) → WasCommanded m.world from n (command.Insert f copies b) → r ≡ reply.Stored holders →
      StoredNow g m.world f copies b holders → RightNow g m from n r
  right : (c : NodeCommand) → WasCommanded m.world from n c → ((es : List Entry) → RightReply g es m from n c r) → RightNow g m from n r

same_key : (k key : Key) → command.Lookup k ≡ command.Lookup key → k ≡ key
same_key k key e = cc

requested_lookup : (Q : Id → Number → NodeCommand → Type 0) (L : Id → Id → Number → Key → Hops → Type 0) (me : Id) (i : Input) (o : Id) (n : Number)
    (c : NodeCommand) (key : Key) → c ≡ command.Lookup key → Requests me i o n c → InputCarries Q L me i →
    (hops : Hops) × L me o n key hops
requested_lookup Q L me _ _ _ _ key e (told n (command.Lookup k)) h = (0, subst (λ z. L me me n z 0) (same_key k key e) h)
requested_lookup Q L me _ _ _ _ key e (told n (command.Insert f copies b)) h = cc
requested_lookup Q L me _ _ _ _ key e (told n (command.Fetch f)) h = cc
requested_lookup Q L me _ _ _ _ key e (told n (command.Reclaim f)) h = cc
requested_lookup Q L me _ _ _ _ key e (told n (command.Join via)) h = cc
requested_lookup Q L me _ _ _ _ key e (told n command.GiveUp) h = cc
requested_lookup Q L me _ _ _ _ key e (lookup_came from o n k hops) h = (hops, subst (λ z. L me o n z hops) (same_key k key e) h)
requested_lookup Q L me _ _ _ _ key e (insert_came from o n hops f copies b) h = cc
requested_lookup Q L me _ _ _ _ key e (fetch_came from o n hops f) h = cc
requested_lookup Q L me _ _ _ _ key e (reclaim_came from o n hops f) h = cc

is_of_files : (f : FileId) (c : NodeCommand) → IsOf f c → IsOfFiles c
is_of_files f (command.Insert g copies b) h = tt
is_of_files f (command.Fetch g) h = tt
is_of_files f (command.Reclaim g) h = tt
is_of_files f (command.Lookup key) h = absurd h
is_of_files f (command.Join via) h = absurd h
is_of_files f command.GiveUp h = absurd h

-- a step of a world in which all invariants hold, and those on files afterwards
pub record AtStep (g : Setting) (w : World) (e : Entry) (x : Id) (i : Input) : Type 0 where
  pub stepping : Stepping g w e x i
  pub all : AllHold g w
  pub files : FilesHold g w
  pub waits : WaitsHold g w
  pub room : RoomHolds w
  pub then_all : AllHold g (after_step w e x i)
  pub then_files : FilesHold g (after_step w e x i)

module _ (g : Setting) (w : World) (e : Entry) (x : Id) (i : Input) (z : AtStep g w e x i) where
  -- what the step makes
  abbrev made : Outcome
  made = step (w.states x) i

  me : (w.states x).me ≡ x
  me = z.all.joins.messages.me x

  here : (after_step w e x i).states x ≡ made.state
  here = state_at-itself w.states x made.state

  in_table : (f : FileId) (k : Kept) → table_of (notes_in w.past ++ made.notes) f ≡ k → table (w.past ++ e ∷ []) f ≡ k
  in_table f k is = ap (λ ms. table_of ms f) (notes_in-push w.past e ∙ ap (λ ms. notes_in w.past ++ ms) z.stepping.takes.notes) ∙ is

  tomb_gone : (f : FileId) → slot_of made.state.files f ≡ Some None → table (w.past ++ e ∷ []) f ≡ Gone
  tomb_gone f at = Each-slot (RightEntry (notes_in (w.past ++ e ∷ []))) ((after_step w e x i).states x).files f None (z.then_files.files.entries x)
      (ap (λ (s : State). slot_of s.files f) here ∙ at)

  requested : (o : Id) (n : Number) (c : NodeCommand) → IsOfFiles c → Requests (w.states x).me i o n c → WasCommanded (after_step w e x i) o n c
  requested o n c k q = was_requested g w e x i z.all z.stepping.takes o n c k q

  said : (o : Id) (n : Number) (c : NodeCommand) → IsOfFiles c → Requests (w.states x).me i o n c → IsSaid c
  said o n c k q = said_of (after_step w e x i) o n c (all_said g w e x i z.files.said z.stepping.takes) (requested o n c k q)

  here_served : (o : Id) (n : Number) (c : NodeCommand) (f : FileId) → IsOfFiles c → Requests (w.states x).me i o n c → (IsSaid c → key_of f < 2 ^ 128) →
      way_of (w.states x) (key_of f) ≡ way.Here → Served w x f
  here_served o n c f k q bounded here' = request_served g w e x i z.stepping.setting z.all z.files z.stepping.takes o n c f k q bounded here'

  by_slot : (f : FileId) (o : Option Slot) → Served w x f → slot_of made.state.files f ≡ o →
      table (w.past ++ e ∷ []) f ≡ kept_as g w e x i z.stepping o
  by_slot f o v at = in_table f (kept_as g w e x i z.stepping o) (owner_table g w e x i z.stepping f o v at)

  ready_now : (y : Id) → ReadyIn w.states y → IsReadyIn g (after_step w e x i) y
  ready_now y r = let now = ready_stays w.states x i y r in (z.then_all.joins.messages.nodes y now, now)

  -- ---- each reason

  looked_up_right : (from : Id) (n : Number) (key : Key) (r : Reply) → Requests (w.states x).me i from n (command.Lookup key) →
      RightNow g (step_moment w e x i) from n r
  looked_up_right from n key r q =
      let v : World = after_step w e x i in
      let way' = requested_lookup (WasCommanded v) (OnTheWay g v) (w.states x).me i from n (command.Lookup key) key refl q
      (subst (λ y. InputCarries (WasCommanded v) (OnTheWay g v) y i) (sym me)
      (input_carries g w e x i z.all.requests z.stepping.takes made.state (later g w e x i))) in
      to_lookup key way'.1.commanded

  not_ready_right : (from : Id) (n : Number) (f : FileId) (c : NodeCommand) → IsOf f c → Requests (w.states x).me i from n c →
      is_ready made.state.phase ≡ false →
      RightNow g (step_moment w e x i) from n (reply.NotReady (w.states x).me)
  not_ready_right from n f c is q unready = right c (requested from n c (is_of_files f c is) q) (λ es. by es c is) where
    shown : is_ready ((after_step w e x i).states x).phase ≡ false
    shown = ap (λ (s : State). is_ready s.phase) here ∙ unready

    by : (es : List Entry) (c : NodeCommand) → IsOf f c → RightReply g es (step_moment w e x i) from n c (reply.NotReady (w.states x).me)
    by es (command.Insert h copies b) is = (me, shown)
    by es (command.Fetch h) is = (me, shown)
    by es (command.Reclaim h) is = (me, shown)
    by es (command.Lookup key) is = absurd is
    by es (command.Join via) is = absurd is
    by es command.GiveUp is = absurd is

  kept_back_right : (from : Id) (n : Number) (f : FileId) (c : NodeCommand) (j : Id) → IsOf f c → Requests (w.states x).me i from n c →
      KeepsFor made.state j (key_of f) →
      RightNow g (step_moment w e x i) from n (reply.Busy (w.states x).me j)
  kept_back_right from n f c j is q busy = right c (requested from n c (is_of_files f c is) q) (λ es. by es c is) where
    shown : (h : FileId) → f ≡ h → KeepsFor ((after_step w e x i).states x) j (key_of h)
    shown h same = subst (λ k. KeepsFor ((after_step w e x i).states x) j (key_of k)) same (subst (λ s. KeepsFor s j (key_of f)) (sym here) busy)

    by : (es : List Entry) (c : NodeCommand) → IsOf f c → RightReply g es (step_moment w e x i) from n c (reply.Busy (w.states x).me j)
    by es (command.Insert h copies b) is = (me, shown h is)
    by es (command.Fetch h) is = (me, shown h is)
    by es (command.Reclaim h) is = (me, shown h is)
    by es (command.Lookup key) is = absurd is
    by es (command.Join via) is = absurd is
    by es command.GiveUp is = absurd is

  fetched_right : (from : Id) (n : Number) (f : FileId) (h : Option Slot) → Requests (w.states x).me i from n (command.Fetch f) →
      way_of (w.states x) (key_of f) ≡ way.Here → slot_of made.state.files f ≡ h →
      RightNow g (step_moment w e x i) from n (fetched (w.states x) h)
  fetched_right from n f h q here' at = right (command.Fetch f) (requested from n (command.Fetch f) tt q) (λ es. by h at) where
    served : Served w x f
    served = here_served from n (command.Fetch f) f tt q (λ d. key_bound f d) here'

    by : (h : Option Slot) → slot_of made.state.files f ≡ h → RightFetchReply (step_moment w e x i) f (fetched (w.states x) h)
    by None at = (me, by_slot f None served at)
    by (Some None) at = (me, by_slot f (Some None) served at)
    by (Some (Some b)) at = (me, by_slot f (Some (Some b)) served at)

  insert_few_right : (from : Id) (n : Number) (f : FileId) (copies : ℕ) (b : Content) → Requests (w.states x).me i from n (command.Insert f copies b) →
      has_too_few (w.states x) copies ≡ true → made.state.known ≡ (w.states x).known →
      RightNow g (step_moment w e x i) from n (reply.TooFew (w.states x).me (length (leaves (w.states x).me (w.states x).known)))
  insert_few_right from n f copies b q few same =
      right (command.Insert f copies b) (requested from n (command.Insert f copies b) tt q) (λ es. (me, leaves_same, below _ _ few)) where
        leaves_same : length (leaves x ((after_step w e x i).states x).known) ≡ length (leaves (w.states x).me (w.states x).known)
        leaves_same = ap (λ (s : State). length (leaves x s.known)) here
            ∙ (ap (λ k. length (leaves x k)) same ∙ ap (λ y. length (leaves y (w.states x).known)) (sym me))

        below : (a b : ℕ) → nat_lt a b ≡ true → a < b
        below a b t = grind (arith, nat_tests)

  insert_full_right : (from : Id) (n : Number) (f : FileId) (copies : ℕ) (b : Content) → Requests (w.states x).me i from n (command.Insert f copies b) →
      way_of (w.states x) (key_of f) ≡ way.Here → slot_of made.state.files f ≡ None →
      has_room made.state.files ≡ false → RightNow g (step_moment w e x i) from n (reply.Full (w.states x).me)
  insert_full_right from n f copies b q here' none full =
      right (command.Insert f copies b) (requested from n (command.Insert f copies b) tt q) (λ es. (
        me,
        record {
          full = ap (λ (s : State). length s.files) here ∙ full_length made.state.files (room_kept g w e x i z.room) full;
          none = ap (λ (s : State). slot_of s.files f) here ∙ none;
          nowhere = by_slot f None (here_served from n (command.Insert f copies b) f tt q (λ d. key_bound f d.0) here') none;
        },
      ))

  insert_alone_right : (from : Id) (n : Number) (f : FileId) (copies : ℕ) (b : Content) → Requests (w.states x).me i from n (command.Insert f copies b) →
      way_of (w.states x) (key_of f) ≡ way.Here → slot_of made.state.files f ≡ Some (Some b) →
      has_too_few (w.states x) copies ≡ false → targets_of (w.states x) f copies ≡ [] →
      RightNow g (step_moment w e x i) from n (reply.Stored ((w.states x).me ∷ []))
  insert_alone_right from n f copies b q here' at few none =
      stored f copies b ((w.states x).me ∷ []) (requested from n (command.Insert f copies b) tt q) refl
      (subst (λ y. StoredNow g (after_step w e x i) f copies b (y ∷ [])) (sym me) (record {
        kept = by_slot f (Some (Some b)) served at;
        number = ap (λ ts. suc (length ts)) (sym none) ∙ targets_number (w.states x) f copies (said from n (command.Insert f copies b) tt q).1 few;
        differ = refl;
        ready = (ready_now x served.closest.member, tt);
        hold = (ap (λ (s : State). slot_of s.files f) here ∙ at, tt);
      })) where
        served : Served w x f
        served = here_served from n (command.Insert f copies b) f tt q (λ d. key_bound f d.0) here'

  -- an insert that waited
  waiting : (p : Pending) → Contains (w.states x).pending p → PendingHolds w (notes_in w.past) x p
  waiting p c = Each-contains (PendingHolds w (notes_in w.past) x) (w.states x).pending p (z.waits.pending x) c

  was_asked : (p : Pending) → (k : PendingHolds w (notes_in w.past) x p) →
      WasCommanded (after_step w e x i) p.origin p.number (command.Insert p.file k.copies k.bytes)
  was_asked p k = WasCommanded-later g w (after_step w e x i) (later g w e x i) p.origin p.number (command.Insert p.file k.copies k.bytes) k.commanded_as

  at_origin : (p : Pending) (from : Id) (n : Number) (r : Reply) → from ≡ p.origin → n ≡ p.number → RightNow g (step_moment w e x i) p.origin p.number r →
      RightNow g (step_moment w e x i) from n r
  at_origin p from n r a b h = subst (λ y. RightNow g (step_moment w e x i) y n r) (sym a)
      (subst (λ m. RightNow g (step_moment w e x i) p.origin m r) (sym b) h)

  insert_done_right : (p : Pending) (t : Id) → Contains (w.states x).pending p → i ≡ Comes t (ReplicaAck p.origin p.number p.file) →
      filter (λ y. not (y == t)) p.awaited ≡ [] → reclaims p.file made.notes ≡ 0 →
      RightNow g (step_moment w e x i) p.origin p.number (reply.Stored ((w.states x).me ∷ p.targets))
  insert_done_right p t c is all_come none =
      stored p.file k.copies k.bytes ((w.states x).me ∷ p.targets) (was_asked p k) refl
      (subst (λ y. StoredNow g v p.file k.copies k.bytes (y ∷ p.targets)) (sym me) (record {
        kept = kept;
        number = k.number;
        differ = k.differ;
        ready = (ready_now x k.owned.closest.member, Each-weaker (ReadyIn w.states) (IsReadyIn g v) p.targets (λ y r. ready_now y r) k.ready);
        hold = (
          at_root,
          Each-weaker (Asked w.states p.file p.awaited) (λ y. slot_of (v.states y).files p.file ≡ Some (Some k.bytes)) p.targets
              (λ y a. at_target y a) k.asked,
        );
      })) where
        v : World
        v = after_step w e x i

        k : PendingHolds w (notes_in w.past) x p
        k = waiting p c

        kept : table v.past p.file ≡ Keeps k.bytes
        kept = in_table p.file (Keeps k.bytes) (kept_unless g w e x i z.stepping p.file (λ served lt. absurd (omega arith)) k.bytes k.kept)

        at_root : slot_of (v.states x).files p.file ≡ Some (Some k.bytes)
        at_root = subst (λ t. Stands t (slot_of (v.states x).files p.file)) kept
            (z.then_files.files.owners x p.file k.owned.bound (closest_stays g w e x i z.stepping x (key_of p.file) k.owned))

        entry : (y : Id) → Asked w.states p.file p.awaited y → (s : Slot) × (slot_of (w.states y).files p.file ≡ Some s)
        entry y (inr d) = d
        entry y (inl awaited) = elim (cases_eq y t) [
          | inl same ↦ subst (λ u. (s : Slot) × (slot_of (w.states u).files p.file ≡ Some s)) (sym same)
              (ack_entry g w e x i z.stepping z.files t p.origin p.number p.file is)
          | inr ne ↦ absurd (Contains-none y (subst (λ ys. Contains ys y) all_come (Contains-filter (λ u. not (u == t)) p.awaited y awaited (other y ne))))
        ] where
          other : (y : Id) → y ≢ t → not (y == t) ≡ true
          other y ne = grind (arith, nat_tests)

        at_target : (y : Id) → Asked w.states p.file p.awaited y → slot_of (v.states y).files p.file ≡ Some (Some k.bytes)
        at_target y a =
            let now = has_entry_still g w e x i z.stepping p.file y (entry y a) in
            stands_kept (notes_in v.past) p.file k.bytes (v.states y).files now.0 (z.then_files.files.entries y) kept now.1

  ended_gone_right : (p : Pending) → Contains (w.states x).pending p → slot_of made.state.files p.file ≡ Some None →
      RightNow g (step_moment w e x i) p.origin p.number (reply.Gone (w.states x).me)
  ended_gone_right p c at = let k = waiting p c in right (command.Insert p.file k.copies k.bytes) (was_asked p k) (λ es. (me, tomb_gone p.file at))

  ended_busy_right : (p : Pending) (j : Id) → Contains (w.states x).pending p → KeepsFor made.state j (key_of p.file) →
      RightNow g (step_moment w e x i) p.origin p.number (reply.Busy (w.states x).me j)
  ended_busy_right p j c busy = let k = waiting p c in
      right (command.Insert p.file k.copies k.bytes) (was_asked p k) (λ es. (me, subst (λ s. KeepsFor s j (key_of p.file)) (sym here) busy))

  pub answer_right : (from : Id) (n : Number) (r : Reply) → Answering (w.states x) i made from n r → RightNow g (step_moment w e x i) from n r
  answer_right from n _ (looked_up key r q) = looked_up_right from n key r q
  answer_right from n _ (not_ready f c is q unready) = not_ready_right from n f c is q unready
  answer_right from n _ (kept_back f c j is q busy) = kept_back_right from n f c j is q busy
  answer_right from n _ (fetched_here f h q here' at) = fetched_right from n f h q here' at
  answer_right from n _ (not_there f q here' at) =
      right (command.Reclaim f) (requested from n (command.Reclaim f) tt q)
      (λ es. (me, by_slot f None (here_served from n (command.Reclaim f) f tt q (λ d. key_bound f d) here') at))
  answer_right from n _ (reclaimed_here f q at) = right (command.Reclaim f) (requested from n (command.Reclaim f) tt q) (λ es. (me, tomb_gone f at))
  answer_right from n _ (insert_gone f copies b q at) =
      right (command.Insert f copies b) (requested from n (command.Insert f copies b) tt q) (λ es. (me, tomb_gone f at))
  answer_right from n _ (insert_differs f copies b there q here' at ne) =
      right (command.Insert f copies b) (requested from n (command.Insert f copies b) tt q)
      (λ es. (me, (there, (by_slot f (Some (Some there)) (here_served from n (command.Insert f copies b) f tt q (λ d. key_bound f d.0) here') at, ne))))
  answer_right from n _ (insert_few f copies b q few same) = insert_few_right from n f copies b q few same
  answer_right from n _ (insert_full f copies b q here' none full) = insert_full_right from n f copies b q here' none full
  answer_right from n _ (insert_alone f copies b q here' at few none) = insert_alone_right from n f copies b q here' at few none
  answer_right from n _ (insert_done p t c is a b all_come none) = at_origin p from n _ a b (insert_done_right p t c is all_come none)
  answer_right from n _ (ended_gone p c a b at) = at_origin p from n _ a b (ended_gone_right p c at)
  answer_right from n _ (ended_busy p j c a b busy) = at_origin p from n _ a b (ended_busy_right p j c busy)
