-- The invariant of every legal record on inserts that wait for replicas: the root owns the file against each of its joiners, the table keeps the bytes of the
-- command,
-- and each target is awaited or has an entry for the file.
use Rattle.std.proofs.Common.{◌≡◌, ◌≢◌, ◌⊎◌, inl, inr, ◌<◌, ◌^◌, ℕ, suc, Bool, true, false, not, ◌==◌, Option, Some, None, List, [], ◌∷◌, ◌++◌, filter, length}
use Rattle.std.proofs.Common.{Contains, refl, sym, subst, ap, ◌∙◌, arith}
use Rattle.std.proofs.lemmas.Bool.{cases_eq, false_from_ne_true}
use Rattle.std.proofs.lemmas.Bool.Decides.{nat_tests}
use Rattle.ring_math.specs.Names.{Id, Key, FileId, Content, Number}
use Rattle.ring_math.specs.Ring.{is_nearer}
use Rattle.ring_math.specs.Members.{IsClosest, with}
use Rattle.ring_math.specs.Keys.{key_of}
use Rattle.ring_math.specs.Files.{Slot, slot_of}
use Rattle.ring_math.specs.declared.file.Held.{Held}
use Rattle.ring_math.proofs.Membership.{Contains-filter}
use Rattle.ring_math.proofs.Nearness.{is_nearer-turned, is_nearer-trans}
use Rattle.coverage.specs.Coverage.{in_gap_of}
use Rattle.coverage.specs.GapFiles.{Lists}
use Rattle.wire_msg.specs.declared.command.Command.TheVariants as command
use Rattle.wire_msg.specs.declared.note.Note.{Note}
use Rattle.wire_msg.specs.Words.{Message, ReplicaAck}
use Rattle.overlay_rules.specs.declared.entry.Event.{Event}
use Rattle.overlay_rules.specs.declared.entry.Entry.{Entry}
use Rattle.overlay_rules.specs.declared.request.Pending.{Pending}
use Rattle.overlay_rules.specs.declared.request.Way.TheVariants as way
use Rattle.overlay_rules.specs.State.{State, Lease, is_ready, start, reach}
use Rattle.overlay_rules.specs.Outcome.{Outcome, Input, Comes}
use Rattle.overlay_rules.specs.Routed.{way_of}
use Rattle.overlay_rules.specs.Roots.{targets_of, has_too_few}
use Rattle.overlay_rules.specs.Step.{step}
use Rattle.overlay_rules.specs.Record.{Setting, IsSetting, World, IsSaid, IsRecord, all_differ, sent_in, state_at, world_at_start, world_after}
use Rattle.overlay_rules.specs.Rightly.{WasCommanded}
use Rattle.overlay_rules.specs.Table.{Kept, Nowhere, Keeps, Gone, notes_in, accepted_in, table_of}
use Rattle.overlay_rules.proofs.Each.{Each, Each-both, Each-contains, Each-itself, Each-slice_get, Each-weaker}
use Rattle.overlay_rules.proofs.Histories.{state_at-itself, state_at-other, state_at-each}
use Rattle.overlay_rules.proofs.SeatStep.{step_seat}
use Rattle.step_facts.proofs.Always.{Arrives, commanded, delivered, noised, Keeps as Keeping, after_step, always}
use Rattle.step_facts.proofs.Messages.{ReadyIn, ready_stays, next}
use Rattle.ring_laws.proofs.Leases.{lease_on}
use Rattle.ring_laws.proofs.Grants.{HasLease, unready_with}
use Rattle.ring_laws.proofs.Gates.{brings, unready_before}
use Rattle.ring_laws.proofs.Lookups.{AllHold, later, WasCommanded-later}
use Rattle.table_laws.proofs.Slots.{Lasts, Lasts-same, Each-slot}
use Rattle.table_laws.proofs.Tables.{table-same, notes_in-push, keeps_parts, nowhere_parts, TableCases, table_cases, nowhere, keeps, gone, reclaims}
use Rattle.table_laws.proofs.FileRules.{Requests}
use Rattle.table_laws.proofs.LeaseRules.{IsNew, LeaseRule, stood, is_new, seat_leases, Fills, is_same, fills, seat_fills}
use Rattle.table_laws.proofs.AnswerRules.{PendingRule, waited, acked, asked_now, step_answered}
use Rattle.table_laws.proofs.Targets.{Differ, differ_all, Each-targets, targets_differ, targets_number, seat_differs}
use Rattle.table_laws.proofs.Keys.{key_bound}
use Rattle.table_laws.proofs.Holding.{RightEntry, Stands, Acked, IsFiled, FilesHold}
use Rattle.table_laws.proofs.Filing.{Served, request_served, was_requested, all_said, said_of, NotedOf, unnoted, acceptance, reclaim}
use Rattle.table_laws.proofs.Beside.{not_nearer, in_the_gap, taken_over, nobody_new, one_new}
use Rattle.table_laws.proofs.Owners.{Stepping, one_owner, owns_on}
use Rattle.table_laws.proofs.Stores.{stepping, stores_keep, stores_at_start}

-- y owns the key, and against each joiner of its leases that is not ready
pub record Owned (states : Id → State) (y : Id) (key : Key) : Type 0 where
  pub bound : key < 2 ^ 128
  pub closest : IsClosest (ReadyIn states) key y
  pub apart : (right : Bool) (lease : Lease) → lease_on right (states y) ≡ Some lease → is_ready (states lease.gate.joiner).phase ≡ false →
      is_nearer lease.gate.joiner y key ≡ false

-- a target is awaited, or has an entry for the file
abbrev pub Asked : (Id → State) → FileId → List Id → Id → Type 0
Asked states f awaited t = Contains awaited t ⊎ ((s : Slot) × (slot_of (states t).files f ≡ Some s))

pub record PendingHolds (w : World) (ns : List Note) (y : Id) (p : Pending) : Type 0 where
  pub owned : Owned w.states y (key_of p.file)
  pub copies : ℕ
  pub bytes : Content
  pub commanded_as : WasCommanded w p.origin p.number (command.Insert p.file copies bytes)
  pub kept : table_of ns p.file ≡ Keeps bytes
  pub number : suc (length p.targets) ≡ copies
  pub differ : all_differ (y ∷ p.targets) ≡ true
  pub ready : Each (ReadyIn w.states) p.targets
  pub asked : Each (Asked w.states p.file p.awaited) p.targets

pub record WaitsHold (g : Setting) (w : World) : Type 0 where
  pub pending : (y : Id) → Each (PendingHolds w (notes_in w.past) y) (w.states y).pending
  pub known : (y : Id) → Differ (w.states y).known

-- ---- what a key's owner keeps

nearest_too : (P : Id → Type 0) (x y : Id) (key : Key) → IsClosest P key y → is_nearer x y key ≡ true → IsClosest (with P x) key x
nearest_too P x y key c near = record { member = inr refl; nearest = others } where
  others : (z : Id) → with P x z → (z ≡ x → ⊥) → is_nearer z x key ≡ false
  others z (inr e) ne = absurd (ne e)
  others z (inl p) ne = false_from_ne_true _ (λ closer. elim (cases_eq z y) [
    | inl e ↦ let back : is_nearer y x key ≡ true = subst (λ k. is_nearer k x key ≡ true) e closer in let no' = is_nearer-turned y x key back in cc
    | inr apart ↦ let more = is_nearer-trans z x y key closer near in let no' = c.nearest z p apart in cc
  ])

module _ (g : Setting) (w : World) (e : Entry) (x : Id) (i : Input) (h : Stepping g w e x i) where
  -- what the step makes
  abbrev made : Outcome
  made = step (w.states x) i

  -- who becomes ready is no nearer to a key that is owned
  new_apart : (y : Id) (key : Key) → Owned w.states y key → Fills w.states x (w.states x) made → (z : Id) → ReadyIn (next w.states x i) z →
      z ≢ y → is_nearer z y key ≡ false
  new_apart y key k (is_same same) z r ne = k.closest.nearest z (nobody_new w x i same z r) ne
  new_apart y key k (fills both now all_left all_right) z rz ne =
      elim (one_new w x i z rz) [
        | inl p ↦ k.closest.nearest z p ne
        | inr same ↦ subst (λ v. is_nearer v y key ≡ false) (sym same) (false_from_ne_true _ beaten)
      ] where
        unready : is_ready (w.states x).phase ≡ false
        unready = unready_with w.states x (w.states x) both

        held_by : (side : Bool) (o : Id) (lists : Lists) → HasLease side (w.states o) x both.attempt lists → IsClosest (ReadyIn w.states) key o →
            is_nearer x y key ≡ true → ⊥
        held_by side o lists has c near =
            let at_y : o ≡ y = one_owner g w o y key h.before k.bound c k.closest in
            let far : is_nearer x y key ≡ false = subst (λ j. is_nearer j y key ≡ false) has.joiner
            (k.apart side has.lease (subst (λ v. lease_on side (w.states v) ≡ Some has.lease) at_y has.at)
            (subst (λ j. is_ready (w.states j).phase ≡ false) (sym has.joiner) unready)) in cc

        beaten : is_nearer x y key ≡ true → ⊥
        beaten near =
            elim (taken_over g w x key h.setting h.before h.takes.member k.bound both (nearest_too (ReadyIn w.states) x y key k.closest near)) [
              | inl (c, closer) ↦ held_by true both.left both.left_lists both.has_left c near
              | inr (c, closer) ↦ held_by false both.right both.right_lists both.has_right c near
            ]

  pub closest_stays : (y : Id) (key : Key) → Owned w.states y key → IsClosest (ReadyIn (next w.states x i)) key y
  closest_stays y key k = record {
    member = ready_stays w.states x i y k.closest.member;
    nearest = λ z r ne. new_apart y key k (seat_fills w.states x (w.states x) i made (step_seat (w.states x) i)
        (brings g w e x i h.before.messages h.before.gates h.takes) (h.before.gates.kept x)) z r ne;
  }

  -- who owned a key owns it
  owned_elsewhere : (y : Id) (key : Key) → y ≢ x → Owned w.states y key → Owned (next w.states x i) y key
  owned_elsewhere y key ne k = record {
    bound = k.bound;
    closest = closest_stays y key k;
    apart = λ right lease at unready.
        k.apart right lease (sym (ap (lease_on right) (state_at-other w.states x made.state y ne)) ∙ at)
        (unready_before w.states x i lease.gate.joiner unready);
  }

  -- and at the node of the step where it is in no new gap
  owned_here : (key : Key) → ((right : Bool) (lease : Lease) → (n : IsNew (RightEntry (notes_in w.past)) (w.states x) made lease) →
      in_gap_of (reach made.state n.left n.right) lease.gate.joiner key ≡ false) → Owned w.states x key → Owned (next w.states x i) x key
  owned_here key spared k = record { bound = k.bound; closest = closest_stays x key k; apart = apart } where
    o : Outcome
    o = step (w.states x) i

    v : World
    v = after_step w e x i

    here : v.states x ≡ o.state
    here = state_at-itself w.states x o.state

    apart : (right : Bool) (lease : Lease) → lease_on right (v.states x) ≡ Some lease → is_ready (v.states lease.gate.joiner).phase ≡ false →
        is_nearer lease.gate.joiner x key ≡ false
    apart right lease at unready = by (seat_leases (RightEntry (notes_in w.past)) right (w.states x) i o (step_seat (w.states x) i) (h.files.entries x) lease
        (sym (ap (lease_on right) here) ∙ at)) where
          by : LeaseRule (RightEntry (notes_in w.past)) right (w.states x) o lease → is_nearer lease.gate.joiner x key ≡ false
          by (stood was) = k.apart right lease was (unready_before w.states x i lease.gate.joiner unready)
          by (is_new n) = false_from_ne_true _ (λ near.
              let gap : in_gap_of (reach (v.states x) n.left n.right) lease.gate.joiner key ≡ true =
              in_the_gap g v x key right lease n.attempt n.left n.right h.later k.bound at unready (ap (λ (s : State). s.phase) here ∙ n.phase)
              (closest_stays x key k) near in
              let there : in_gap_of (reach o.state n.left n.right) lease.gate.joiner key ≡ true =
              subst (λ s. in_gap_of (reach s n.left n.right) lease.gate.joiner key ≡ true) here gap in
              let none = spared right lease n in cc)

  -- ---- what stands for a file that is served here

  -- what the table says, by what stands at the owner afterwards
  abbrev pub kept_as : Option Slot → Kept
  kept_as None = Nowhere
  kept_as (Some (Some b)) = Keeps b
  kept_as (Some None) = Gone

  pub owner_table : (f : FileId) (o : Option Slot) → Served w x f → slot_of made.state.files f ≡ o →
      table_of (notes_in w.past ++ made.notes) f ≡ kept_as o
  owner_table f o v at = by (table_cases f ns') where
    ns' : List Note
    ns' = notes_in w.past ++ made.notes

    files : List Held
    files = made.state.files

    stands : Stands (table_of ns' f) (slot_of files f)
    stands = subst (λ (s : State). Stands (table_of ns' f) (slot_of s.files f)) (state_at-itself w.states x made.state)
        (owns_on g w e x i h x f v.bound v.closest)

    absent : (o : Option Slot) → slot_of files f ≡ o → accepted_in f ns' ≡ None → table_of ns' f ≡ Nowhere → table_of ns' f ≡ kept_as o
    absent None at' none is = is
    absent (Some (Some b)) at' none is = let held : accepted_in f ns' ≡ Some b = Each-slot (RightEntry ns') files f (Some b) h.entries at' in cc
    absent (Some None) at' none is = let tomb : table_of ns' f ≡ Gone = Each-slot (RightEntry ns') files f None h.entries at' in cc

    by : TableCases f ns' → table_of ns' f ≡ kept_as o
    by (nowhere is) = absent o at (nowhere_parts f ns' is) is
    by (keeps b is) = is ∙ ap kept_as (sym (subst (λ t. Stands t (slot_of files f)) is stands) ∙ at)
    by (gone is) = is ∙ ap kept_as (sym (subst (λ t. Stands t (slot_of files f)) is stands) ∙ at)

  -- ---- inserts that waited

  pub lasting : (y : Id) → Lasts (w.states y).files (state_at w.states x made.state y).files
  lasting y = state_at-each (λ z (s : State). Lasts (w.states z).files s.files) w.states x made.state y h.lasts
      (Lasts-same (w.states y).files (w.states y).files refl)

  pub has_entry_still : (f : FileId) (t : Id) → ((s : Slot) × (slot_of (w.states t).files f ≡ Some s)) →
      (s : Slot) × (slot_of (state_at w.states x made.state t).files f ≡ Some s)
  has_entry_still f t k = elim ((lasting t).lasts f k.0 k.1) [ inl d ↦ (k.0, d) | inr d ↦ (None, d) ]

  asked_still : (f : FileId) (awaited : List Id) (ts : List Id) → Each (Asked w.states f awaited) ts → Each (Asked (next w.states x i) f awaited) ts
  asked_still f awaited ts k = Each-weaker (Asked w.states f awaited) (Asked (next w.states x i) f awaited) ts
      (λ t a. elim a [ inl c ↦ inl c | inr d ↦ inr (has_entry_still f t d) ]) k

  -- a pending insert with what was there, and new proofs of what may have gone
  pending_still : (y : Id) (p : Pending) → PendingHolds w (notes_in w.past) y p → Owned (next w.states x i) y (key_of p.file) →
      ((b : Content) → table_of (notes_in w.past) p.file ≡ Keeps b → table_of (notes_in w.past ++ made.notes) p.file ≡ Keeps b) →
      PendingHolds (after_step w e x i) (notes_in w.past ++ made.notes) y p
  pending_still y p k owned kept = record {
    owned = owned;
    copies = k.copies;
    bytes = k.bytes;
    commanded_as = WasCommanded-later g w (after_step w e x i) (later g w e x i) p.origin p.number (command.Insert p.file k.copies k.bytes) k.commanded_as;
    kept = kept k.bytes k.kept;
    number = k.number;
    differ = k.differ;
    ready = Each-weaker (ReadyIn w.states) (ReadyIn (next w.states x i)) p.targets (λ t r. ready_stays w.states x i t r) k.ready;
    asked = asked_still p.file p.awaited p.targets k.asked;
  }

  -- what the table keeps it keeps, but where x reclaims it
  pub kept_unless : (f : FileId) → (Served w x f → 0 < reclaims f made.notes → ⊥) → (b : Content) → table_of (notes_in w.past) f ≡ Keeps b →
      table_of (notes_in w.past ++ made.notes) f ≡ Keeps b
  kept_unless f none b is = by (h.noted f) where
    by : NotedOf w x made.state (notes_in w.past) made.notes f →
        table_of (notes_in w.past ++ made.notes) f ≡ Keeps b
    by (unnoted q) = table-same f (notes_in w.past) made.notes q ∙ is
    by (acceptance c v now absent kept one no') = let some = (keeps_parts f b (notes_in w.past) is).accepted in cc
    by (reclaim c v now was gone' no' one) = absurd (none v (omega arith))

  pending_elsewhere : (y : Id) → y ≢ x → (p : Pending) → PendingHolds w (notes_in w.past) y p →
      PendingHolds (after_step w e x i) (notes_in w.past ++ made.notes) y p
  pending_elsewhere y ne p k =
      pending_still y p k (owned_elsewhere y (key_of p.file) ne k.owned)
      (kept_unless p.file (λ v lt. ne (sym (one_owner g w x y (key_of p.file) h.before k.owned.bound v.closest k.owned.closest))))

  -- ---- inserts that wait at the node of the step

  pub ack_entry : FilesHold g w → (t o : Id) (n : Number) (f : FileId) → i ≡ Comes t (ReplicaAck o n f) → (s : Slot) × (slot_of (w.states t).files f ≡ Some s)
  ack_entry k t o n f is = by e.event x i h.takes.arrives is where
    by : (v : Event) (y : Id) (j : Input) → Arrives w v y j → j ≡ Comes t (ReplicaAck o n f) → (s : Slot) × (slot_of (w.states t).files f ≡ Some s)
    by _ _ _ (commanded y m c fresh) at = cc
    by _ _ _ (noised y) at = cc
    by _ _ _ (delivered m u found) at =
        let from : u.sender ≡ t = cc in
        let what : u.message ≡ ReplicaAck o n f = cc in
        let filed = Each-slice_get (IsFiled w.states (notes_in w.past)) (sent_in w.past) m u k.sent found in
        shown (w.states t).files u.message what (subst (λ z. Acked (w.states z).files u.message) from filed.acked) where
          shown : (files : List Held) (m : Message) → m ≡ ReplicaAck o n f → Acked files m → (s : Slot) × (slot_of files f ≡ Some s)
          shown files m what a = subst (Acked files) what a

  -- the target that acknowledged has an entry now
  acked_now : (f : FileId) (awaited : List Id) (t : Id) → ((s : Slot) × (slot_of (state_at w.states x made.state t).files f ≡ Some s)) →
      (ts : List Id) →
      Each (Asked (next w.states x i) f awaited) ts → Each (Asked (next w.states x i) f (filter (λ y. not (y == t)) awaited)) ts
  acked_now f awaited t entry ts k = Each-weaker (Asked after f awaited) (Asked after f (filter (λ y. not (y == t)) awaited)) ts one k where
    after : Id → State
    after = state_at w.states x made.state

    one : (z : Id) → Asked after f awaited z → Asked after f (filter (λ y. not (y == t)) awaited) z
    one z (inr d) = inr d
    one z (inl c) = elim (cases_eq z t) [
      | inl same ↦ inr (entry.0, subst (λ y. slot_of (after y).files f ≡ Some entry.0) (sym same) entry.1)
      | inr ne ↦ inl (Contains-filter (λ y. not (y == t)) awaited z c (other z ne))
    ] where
      other : (z : Id) → z ≢ t → not (z == t) ≡ true
      other z ne = grind (arith, nat_tests)

  pending_here : AllHold g w → FilesHold g w → WaitsHold g w → (p : Pending) → Contains made.state.pending p →
      PendingRule (w.states x) i made p →
      PendingHolds (after_step w e x i) (notes_in w.past ++ made.notes) x p
  pending_here a kf k p c r = by r c where
    s : State
    s = w.states x

    o : Outcome
    o = step s i

    v : World
    v = after_step w e x i

    ns' : List Note
    ns' = notes_in w.past ++ o.notes

    old : (q : Pending) → Contains s.pending q → PendingHolds w (notes_in w.past) x q
    old q c = Each-contains (PendingHolds w (notes_in w.past) x) s.pending q (k.pending x) c

    own : (q : Pending) → Contains o.state.pending q → Owned w.states x (key_of q.file) → Owned v.states x (key_of q.file)
    own q c was = owned_here (key_of q.file)
        (λ right lease n. Each-contains (λ (z : Pending). in_gap_of (reach o.state n.left n.right) lease.gate.joiner (key_of z.file) ≡ false) o.state.pending q
        n.spares c) was

    unreclaimed : (f : FileId) → reclaims f o.notes ≡ 0 → Served w x f → 0 < reclaims f o.notes → ⊥
    unreclaimed f none served lt = absurd (omega arith)

    new : (from : Id) (n : Number) (f : FileId) (copies : ℕ) (b : Content) → Requests s.me i from n (command.Insert f copies b) →
        way_of s (key_of f) ≡ way.Here → slot_of o.state.files f ≡ Some (Some b) → has_too_few s copies ≡ false →
        Contains o.state.pending (record { origin = from; number = n; file = f; targets = targets_of s f copies; awaited = targets_of s f copies }) →
        PendingHolds v ns' x (record { origin = from; number = n; file = f; targets = targets_of s f copies; awaited = targets_of s f copies })
    new from n f copies b q here at few c = record {
      owned = own _ c (record {
        bound = served'.bound;
        closest = served'.closest;
        apart = λ right lease at unready. not_nearer g w x (key_of f) right lease h.before served'.bound at unready served'.covers;
      });
      copies = copies;
      bytes = b;
      commanded_as = was;
      kept = owner_table f (Some (Some b)) served' at;
      number = targets_number s f copies said.1 few;
      differ = subst (λ y. all_differ (y ∷ targets_of s f copies) ≡ true) (h.before.messages.me x)
          (differ_all (s.me ∷ targets_of s f copies) (targets_differ s f copies (k.known x) (h.before.messages.linked x).unknown));
      ready = Each-targets (ReadyIn v.states) s f copies
          (Each-weaker (ReadyIn w.states) (ReadyIn v.states) s.known (λ t r. ready_stays w.states x i t r) (h.before.messages.knows x).known);
      asked = Each-weaker (Contains (targets_of s f copies)) (Asked v.states f (targets_of s f copies)) (targets_of s f copies) (λ t c. inl c)
          (Each-itself (targets_of s f copies));
    } where
      was : WasCommanded v from n (command.Insert f copies b)
      was = was_requested g w e x i a h.takes from n (command.Insert f copies b) tt q

      said : IsSaid (command.Insert f copies b)
      said = said_of v from n (command.Insert f copies b) (all_said g w e x i kf.said h.takes) was

      served' : Served w x f
      served' = request_served g w e x i h.setting a kf h.takes from n (command.Insert f copies b) f tt q (λ d. key_bound f d.0) here

    by : {q : Pending} → PendingRule s i o q → Contains o.state.pending q → PendingHolds v ns' x q
    by (waited q was none) c = pending_still x q (old q was) (own q c (old q was).owned) (kept_unless q.file (unreclaimed q.file none))
    by (acked q t was is none) c =
        let b = pending_still x q (old q was) (own (record q { awaited = filter (λ y. not (y == t)) q.awaited }) c (old q was).owned)
        (kept_unless q.file (unreclaimed q.file none)) in
        record {
          owned = b.owned;
          copies = b.copies;
          bytes = b.bytes;
          commanded_as = b.commanded_as;
          kept = b.kept;
          number = b.number;
          differ = b.differ;
          ready = b.ready;
          asked = acked_now q.file q.awaited t (has_entry_still q.file t (ack_entry kf t q.origin q.number q.file is)) q.targets b.asked;
        }
    by (asked_now from n f copies b q here at few) c = new from n f copies b q here at few c

  waits_keep : AllHold g w → FilesHold g w → WaitsHold g w → WaitsHold g (after_step w e x i)
  waits_keep a kf k = record {
    pending = λ y. subst (λ ms. Each (PendingHolds v ms y) (v.states y).pending) (sym all) (pending y);
    known = λ y. state_at-each (λ z (s : State). Differ s.known) w.states x o.state y (seat_differs (w.states x) i o (step_seat (w.states x) i) (k.known x))
        (k.known y);
  } where
    o : Outcome
    o = step (w.states x) i

    v : World
    v = after_step w e x i

    ns' : List Note
    ns' = notes_in w.past ++ o.notes

    all : notes_in (w.past ++ e ∷ []) ≡ ns'
    all = notes_in-push w.past e ∙ ap (λ ms. notes_in w.past ++ ms) h.takes.notes

    here : Each (PendingHolds v ns' x) o.state.pending
    here = Each-both (Contains o.state.pending) (PendingRule (w.states x) i o) (PendingHolds v ns' x) o.state.pending (λ p c r. pending_here a kf k p c r)
        (Each-itself o.state.pending) (step_answered (w.states x) i).pending

    pending : (y : Id) → Each (PendingHolds v ns' y) (v.states y).pending
    pending y = elim (cases_eq y x) [
      | inl same ↦ subst (λ z. Each (PendingHolds v ns' z) (v.states z).pending) (sym same)
          (subst (λ (s : State). Each (PendingHolds v ns' x) s.pending) (sym (state_at-itself w.states x o.state)) here)
      | inr ne ↦ subst (λ (s : State). Each (PendingHolds v ns' y) s.pending) (sym (state_at-other w.states x o.state y ne))
          (Each-weaker (PendingHolds w (notes_in w.past) y) (PendingHolds v ns' y) (w.states y).pending (λ p b. pending_elsewhere y ne p b) (k.pending y))
    ]

-- ---- at the start, and over every legal record

start_waits : (P : Pending → Type 0) (y : Id) (b : Bool) → Each P (start y b).pending
start_waits P y b = tt

start_known : (y : Id) (b : Bool) → Differ (start y b).known
start_known y b = tt

waits_at_start : (g : Setting) → WaitsHold g (world_at_start g)
waits_at_start g = record {
  pending = λ y. start_waits (PendingHolds (world_at_start g) [] y) y (y == g.founder);
  known = λ y. start_known y (y == g.founder);
}

-- the invariants of the ring, of files and of pending inserts
pub record TableHolds (g : Setting) (w : World) : Type 0 where
  pub all : AllHold g w
  pub files : FilesHold g w
  pub waits : WaitsHold g w

pub table_keeps : (g : Setting) → IsSetting g → Keeping g (TableHolds g)
table_keeps g set = record {
  keeps = λ w e x i h t. let stores = (stores_keep g set).keeps w e x i (record { all = h.all; files = h.files }) t in record {
    all = stores.all;
    files = stores.files;
    waits = waits_keep g w e x i (stepping g w e x i set h.all stores.all h.files t) h.all h.files h.waits;
  };
}

pub table_at_start : (g : Setting) → IsSetting g → TableHolds g (world_at_start g)
table_at_start g set = let stores = stores_at_start g set in record { all = stores.all; files = stores.files; waits = waits_at_start g }

pub table_holds : (g : Setting) (es : List Entry) → IsRecord g es → (i : ℕ) → TableHolds g (world_after g es i)
table_holds g es r i = always g (TableHolds g) (table_at_start g r.setting) (table_keeps g r.setting) es r i
