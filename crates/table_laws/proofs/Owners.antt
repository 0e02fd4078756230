-- One step keeps what owners hold and what lists name.
use Rattle.std.proofs.Common.{◌≡◌, inl, inr, ◌<◌, ◌^◌, Bool, true, false, Option, Some, None, List, [], ◌∷◌, ◌++◌, refl, sym, subst, ap, ◌∙◌}
use Rattle.std.specs.List.{list_all}
use Rattle.std.proofs.lemmas.Bool.{cases_eq, and_parts}
use Rattle.ring_math.specs.Names.{Id, Key, FileId}
use Rattle.ring_math.specs.Ring.{is_nearer}
use Rattle.ring_math.specs.Members.{IsClosest}
use Rattle.ring_math.specs.Keys.{key_of}
use Rattle.ring_math.specs.Files.{Slot, slot_of, is_entry, is_tomb, has_entry, has_tomb}
use Rattle.ring_math.specs.declared.file.Held.{Held}
use Rattle.ring_math.proofs.Neighbours.{closest_one}
use Rattle.coverage.specs.Coverage.{in_gap_of}
use Rattle.coverage.specs.GapFiles.{Lists}
use Rattle.wire_msg.specs.declared.note.Note.{Note}
use Rattle.overlay_rules.specs.declared.entry.Entry.{Entry}
use Rattle.overlay_rules.specs.State.{State, Lease, is_ready, reach}
use Rattle.overlay_rules.specs.Outcome.{Outcome, Input}
use Rattle.overlay_rules.specs.ReadyTest.{has_all}
use Rattle.overlay_rules.specs.Step.{step}
use Rattle.overlay_rules.specs.Record.{Setting, IsSetting, World, state_at}
use Rattle.overlay_rules.specs.Table.{Kept, Nowhere, Keeps, Gone, notes_in, table_of}
use Rattle.overlay_rules.proofs.Each.{Each, Each-contains}
use Rattle.overlay_rules.proofs.Histories.{state_at-itself, state_at-other, state_at-each}
use Rattle.overlay_rules.proofs.SeatStep.{step_seat}
use Rattle.step_facts.proofs.Always.{Takes, after_step}
use Rattle.step_facts.proofs.Messages.{ReadyIn, next}
use Rattle.ring_laws.proofs.Leases.{lease_on}
use Rattle.ring_laws.proofs.Grants.{HasLease, HasBoth, unready_with}
use Rattle.ring_laws.proofs.Gates.{brings, unready_before}
use Rattle.ring_laws.proofs.Ring.{JoinsHold}
use Rattle.table_laws.proofs.Slots.{Lasts}
use Rattle.table_laws.proofs.Tables.{SaysNothing, quiet_nothing, table-same}
use Rattle.table_laws.proofs.LeaseRules.{IsNew, LeaseRule, stood, is_new, seat_leases, Fills, is_same, fills, seat_fills}
use Rattle.table_laws.proofs.Holding.{RightEntry, AllGone, Stands, Listed, IsToGo, OwnersHold, ListsHold, FilesIn, stands_kept, stands_on, all_gone-more}
use Rattle.table_laws.proofs.Filing.{Served, NotedOf, unnoted, acceptance, reclaim}
use Rattle.table_laws.proofs.Beside.{lease_ready, not_nearer, in_the_gap, taken_over, nobody_new, one_new, closest_before, closest_with}

-- ---- who was ready

table_if : (ns ms : List Note) (f : FileId) (o : Option Slot) → SaysNothing f ms → Stands (table_of ns f) o → Stands (table_of (ns ++ ms) f) o
table_if ns ms f o q s = subst (λ k. Stands k o) (sym (table-same f ns ms q)) s

-- what a step of x makes of the files: all that the lemmas below go by
pub record Stepping (g : Setting) (w : World) (e : Entry) (x : Id) (i : Input) : Type 0 where
  pub setting : IsSetting g
  pub takes : Takes g w e x i
  pub before : JoinsHold g w
  pub later : JoinsHold g (after_step w e x i)
  pub files : FilesIn w.states (notes_in w.past)
  pub lasts : Lasts (w.states x).files (step (w.states x) i).state.files
  pub entries : Each (RightEntry (notes_in w.past ++ (step (w.states x) i).notes)) (step (w.states x) i).state.files
  pub noted : (f : FileId) → NotedOf w x (step (w.states x) i).state (notes_in w.past) (step (w.states x) i).notes f

pub one_owner : (g : Setting) (w : World) (x y : Id) (key : Key) → JoinsHold g w → key < 2 ^ 128 → IsClosest (ReadyIn w.states) key x →
    IsClosest (ReadyIn w.states) key y → x ≡ y
one_owner g w x y key h hk a b = closest_one (ReadyIn w.states) key x y h.ring.holds.in_ring hk a b

-- ---- the lists that the ready test has gone through

all_pass : {A : Type 0} (test : A → Bool) (xs : List A) → list_all test xs ≡ true → Each (λ z. test z ≡ true) xs
all_pass test [] e = tt
all_pass test (z ∷ zs) e = let p = and_parts (test z) (list_all test zs) e in (p.0, all_pass test zs p.1)

entry_some : (o : Option Slot) → is_entry o ≡ true → (s : Slot) × (o ≡ Some s)
entry_some (Some s) e = (s, refl)
entry_some None e = cc

tomb_is : (o : Option Slot) → is_tomb o ≡ true → o ≡ Some None
tomb_is (Some None) e = refl
tomb_is (Some (Some b)) e = cc
tomb_is None e = cc

-- who has gone through lists with a file of the table holds it
listed_stands : (ns : List Note) (f : FileId) (s : State) (lists : Lists) → Each (RightEntry ns) s.files → has_all s lists ≡ true →
    Listed (table_of ns f) lists f → Stands (table_of ns f) (slot_of s.files f)
listed_stands ns f s lists h all k = by (table_of ns f) refl k where
  parts : (list_all (has_entry s.files) lists.manifest ≡ true) × (list_all (has_tomb s.files) lists.tombs ≡ true)
  parts = and_parts (list_all (has_entry s.files) lists.manifest) (list_all (has_tomb s.files) lists.tombs) all

  by : (t : Kept) → table_of ns f ≡ t → Listed t lists f → Stands t (slot_of s.files f)
  by Nowhere e k = tt
  by (Keeps b) e k =
      let some = entry_some (slot_of s.files f)
      (Each-contains (λ d. has_entry s.files d ≡ true) lists.manifest f (all_pass (has_entry s.files) lists.manifest parts.0) k) in
      stands_kept ns f b s.files some.0 h e some.1
  by Gone e k = tomb_is (slot_of s.files f) (Each-contains (λ d. has_tomb s.files d ≡ true) lists.tombs f (all_pass (has_tomb s.files) lists.tombs parts.1) k)

-- ---- owners

module _ (g : Setting) (w : World) (e : Entry) (x : Id) (i : Input) (h : Stepping g w e x i) where
  -- what the step makes
  abbrev made : Outcome
  made = step (w.states x) i

  -- who was ready and the closest holds the file still
  pub owns_on : (y : Id) (f : FileId) → key_of f < 2 ^ 128 → IsClosest (ReadyIn w.states) (key_of f) y →
      Stands (table_of (notes_in w.past ++ made.notes) f) (slot_of (state_at w.states x made.state y).files f)
  owns_on y f hk c = by (h.noted f) where
    ns : List Note
    ns = notes_in w.past

    o : Outcome
    o = step (w.states x) i

    at_owner : (k : Kept) (s : Option Slot) → Served w x f → slot_of o.state.files f ≡ s → Stands k s →
        Stands k (slot_of (state_at w.states x o.state y).files f)
    at_owner k s v now st =
        let same : x ≡ y = one_owner g w x y (key_of f) h.before hk v.closest c in
        subst (λ z. Stands k (slot_of (state_at w.states x o.state z).files f)) same
        (subst (λ (t : State). Stands k (slot_of t.files f)) (sym (state_at-itself w.states x o.state)) (subst (Stands k) (sym now) st))

    by : NotedOf w x o.state ns o.notes f → Stands (table_of (ns ++ o.notes) f) (slot_of (state_at w.states x o.state y).files f)
    by (unnoted q) =
        state_at-each (λ z (s : State). IsClosest (ReadyIn w.states) (key_of f) z → Stands (table_of (ns ++ o.notes) f) (slot_of s.files f)) w.states x o.state
        y
        (λ d. stands_on (ns ++ o.notes) f (w.states x).files o.state.files h.lasts h.entries
        (table_if ns o.notes f (slot_of (w.states x).files f) q (h.files.owners x f hk d)))
        (λ d. table_if ns o.notes f (slot_of (w.states y).files f) q (h.files.owners y f hk d)) c
    by (acceptance b v now none kept one no') =
        at_owner (table_of (ns ++ o.notes) f) (Some (Some b)) v now (subst (λ k. Stands k (Some (Some b))) (sym kept) refl)
    by (reclaim b v now was gone' no' one) = at_owner (table_of (ns ++ o.notes) f) (Some None) v now (subst (λ k. Stands k (Some None)) (sym gone') refl)

  -- and so does who becomes ready
  new_owner : (f : FileId) → key_of f < 2 ^ 128 → (has : HasBoth w.states x (w.states x)) → has_all made.state has.left_lists ≡ true →
      has_all made.state has.right_lists ≡ true → IsClosest (ReadyIn (next w.states x i)) (key_of f) x →
      Stands (table_of (notes_in w.past ++ made.notes) f) (slot_of made.state.files f)
  new_owner f hk both all_left all_right c = by (h.noted f) where
    ns : List Note
    ns = notes_in w.past

    o : Outcome
    o = step (w.states x) i

    K : Kept
    K = table_of (ns ++ o.notes) f

    unready : is_ready (w.states x).phase ≡ false
    unready = unready_with w.states x (w.states x) both

    listed : (side : Bool) (y : Id) (lists : Lists) → (has : HasLease side (w.states y) x both.attempt lists) → SaysNothing f o.notes →
        IsClosest (ReadyIn w.states) (key_of f) y → is_nearer x y (key_of f) ≡ true → Listed K lists f
    listed side y lists has q d near =
        subst (λ k. Listed k lists f) (sym (table-same f ns o.notes q)) (subst (λ z. Listed (table_of ns f) z f) has.same
        (h.files.lists y side has.lease f has.at (record {
          unready = subst (λ z. is_ready (w.states z).phase ≡ false) (sym has.joiner) unready;
          bound = hk;
          closest = d;
          nearer = subst (λ z. is_nearer z y (key_of f) ≡ true) (sym has.joiner) near;
        })))

    by : NotedOf w x o.state ns o.notes f → Stands K (slot_of o.state.files f)
    by (unnoted q) =
        elim (taken_over g w x (key_of f) h.setting h.before h.takes.member hk both (closest_with w x i (key_of f) c)) [
          | inl (d, near) ↦ listed_stands (ns ++ o.notes) f o.state both.left_lists h.entries all_left
              (listed true both.left both.left_lists both.has_left q d near)
          | inr (d, near) ↦ listed_stands (ns ++ o.notes) f o.state both.right_lists h.entries all_right
              (listed false both.right both.right_lists both.has_right q d near)
        ]
    by (acceptance b v now none kept one no') = let ready = v.closest.member in let not_ready = unready in cc
    by (reclaim b v now was' gone' no' one) = let ready = v.closest.member in let not_ready = unready in cc

  pub owners_keep : OwnersHold (next w.states x i) (notes_in w.past ++ made.notes)
  owners_keep y f hk c =
      elim (one_new w x i y c.member) [
        | inl was ↦ owns_on y f hk (closest_before w x i (key_of f) y was c)
        | inr same ↦ subst (λ z. Stands K (slot_of (after z).files f)) (sym same) (at_x (subst (IsClosest (ReadyIn after) (key_of f)) same c))
      ] where
        o : Outcome
        o = step (w.states x) i

        K : Kept
        K = table_of (notes_in w.past ++ o.notes) f

        after : Id → State
        after = state_at w.states x o.state

        at_x : IsClosest (ReadyIn after) (key_of f) x → Stands K (slot_of (after x).files f)
        at_x d = by (seat_fills w.states x (w.states x) i o (step_seat (w.states x) i) (brings g w e x i h.before.messages h.before.gates h.takes)
            (h.before.gates.kept x)) where
              by : Fills w.states x (w.states x) o → Stands K (slot_of (after x).files f)
              by (is_same s) = owns_on x f hk (closest_before w x i (key_of f) x (nobody_new w x i s x d.member) d)
              by (fills has now all_left all_right) =
                  subst (λ (t : State). Stands K (slot_of t.files f)) (sym (state_at-itself w.states x o.state)) (new_owner f hk has all_left all_right d)

  -- ---- lists

  -- what was to go to a joiner that is not ready was so before
  to_go_before : (y : Id) (lease : Lease) (f : FileId) → ReadyIn w.states y → IsToGo (next w.states x i) y lease f → IsToGo w.states y lease f
  to_go_before y lease f ready t = record {
    unready = unready_before w.states x i lease.gate.joiner t.unready;
    bound = t.bound;
    closest = closest_before w x i (key_of f) y ready t.closest;
    nearer = t.nearer;
  }

  old_lease : (y : Id) (right : Bool) (lease : Lease) (f : FileId) → lease_on right (w.states y) ≡ Some lease → IsToGo (next w.states x i) y lease f →
      Listed (table_of (notes_in w.past ++ made.notes) f) lease.lists f
  old_lease y right lease f at t = by (h.noted f) where
    ns : List Note
    ns = notes_in w.past

    o : Outcome
    o = step (w.states x) i

    b : IsToGo w.states y lease f
    b = to_go_before y lease f (lease_ready g w y right lease h.before at) t

    apart : {A : Type 0} → Served w x f → A
    apart v =
        let same : x ≡ y = one_owner g w x y (key_of f) h.before b.bound v.closest b.closest in
        let here : lease_on right (w.states x) ≡ Some lease = subst (λ z. lease_on right (w.states z) ≡ Some lease) (sym same) at in
        let far : is_nearer lease.gate.joiner x (key_of f) ≡ false = not_nearer g w x (key_of f) right lease h.before b.bound here b.unready v.covers in
        let near : is_nearer lease.gate.joiner x (key_of f) ≡ true =
        subst (λ z. is_nearer lease.gate.joiner z (key_of f) ≡ true) (sym same) b.nearer in absurd (cc)

    by : NotedOf w x o.state ns o.notes f → Listed (table_of (ns ++ o.notes) f) lease.lists f
    by (unnoted q) = subst (λ k. Listed k lease.lists f) (sym (table-same f ns o.notes q)) (h.files.lists y right lease f at b)
    by (acceptance c v now none kept one no') = apart v
    by (reclaim c v now was gone' no' one) = apart v

  new_lease : (right : Bool) (lease : Lease) (f : FileId) (P : Held → Type 0) → lease_on right made.state ≡ Some lease →
      IsNew P (w.states x) made lease →
      IsToGo (next w.states x i) x lease f → Listed (table_of (notes_in w.past ++ made.notes) f) lease.lists f
  new_lease right lease f P at n t =
      subst (λ k. Listed k lease.lists f) (sym (table-same f ns o.notes (quiet_nothing f o.notes n.quiet)))
      (by (table_of ns f) refl (h.files.owners x f t.bound before)) where
        ns : List Note
        ns = notes_in w.past

        o : Outcome
        o = step (w.states x) i

        v : World
        v = after_step w e x i

        here : v.states x ≡ o.state
        here = state_at-itself w.states x o.state

        before : IsClosest (ReadyIn w.states) (key_of f) x
        before = closest_before w x i (key_of f) x (ap is_ready n.was) t.closest

        gap : in_gap_of (reach o.state n.left n.right) lease.gate.joiner (key_of f) ≡ true
        gap = subst (λ s. in_gap_of (reach s n.left n.right) lease.gate.joiner (key_of f) ≡ true) here
            (in_the_gap g v x (key_of f) right lease n.attempt n.left n.right h.later t.bound (ap (lease_on right) here ∙ at) t.unready
            (ap (λ (s : State). s.phase) here ∙ n.phase) t.closest t.nearer)

        by : (k : Kept) → table_of ns f ≡ k → Stands k (slot_of (w.states x).files f) → Listed k lease.lists f
        by Nowhere is s = tt
        by (Keeps b) is s = n.manifest f b s gap
        by Gone is s = n.tombs f s gap

  pub lists_keep : ListsHold (next w.states x i) (notes_in w.past ++ made.notes)
  lists_keep y right lease f at t =
      elim (cases_eq y x) [
        | inl same ↦
            let here : lease_on right o.state ≡ Some lease =
            sym (ap (lease_on right) (state_at-itself w.states x o.state)) ∙ subst (λ z. lease_on right (after z) ≡ Some lease) same at in
            at_x here (subst (λ z. IsToGo after z lease f) same t)
            (seat_leases (RightEntry ns) right (w.states x) i o (step_seat (w.states x) i) (h.files.entries x) lease here)
        | inr ne ↦ old_lease y right lease f (sym (ap (lease_on right) (state_at-other w.states x o.state y ne)) ∙ at) t
      ] where
        ns : List Note
        ns = notes_in w.past

        o : Outcome
        o = step (w.states x) i

        after : Id → State
        after = state_at w.states x o.state

        at_x : lease_on right o.state ≡ Some lease → IsToGo after x lease f → LeaseRule (RightEntry ns) right (w.states x) o lease →
            Listed (table_of (ns ++ o.notes) f) lease.lists f
        at_x here t' (stood was) = old_lease x right lease f was t'
        at_x here t' (is_new n) = new_lease right lease f (RightEntry ns) here n t'

  -- what the lists of leases bury is Gone
  pub tombs_keep : (y : Id) (right : Bool) (lease : Lease) → lease_on right (state_at w.states x made.state y) ≡ Some lease →
      AllGone (notes_in w.past ++ made.notes) lease.lists.tombs
  tombs_keep y right lease at =
      state_at-each (λ z s. lease_on right s ≡ Some lease → AllGone (ns ++ o.notes) lease.lists.tombs) w.states x o.state y
      (λ here. by (seat_leases (RightEntry ns) right (w.states x) i o (step_seat (w.states x) i) (h.files.entries x) lease here))
      (λ there. all_gone-more ns o.notes lease.lists.tombs (h.files.tombs y right lease there)) at where
        ns : List Note
        ns = notes_in w.past

        o : Outcome
        o = step (w.states x) i

        by : LeaseRule (RightEntry ns) right (w.states x) o lease → AllGone (ns ++ o.notes) lease.lists.tombs
        by (stood was) = all_gone-more ns o.notes lease.lists.tombs (h.files.tombs x right lease was)
        by (is_new n) = all_gone-more ns o.notes lease.lists.tombs n.buried
