-- The invariant on files holds after every entry of a legal record; and what it says in the words of the laws.
use Rattle.std.proofs.Common.{◌≡◌, ◌≤◌, ◌<◌, ◌^◌, ℕ, ◌+◌, Bool, true, false, ◌==◌, Some, List, [], ◌∷◌, ◌++◌, length, take, refl, sym, subst, ap, ◌∙◌, arith}
use Rattle.std.proofs.lemmas.List.{take_all}
use Rattle.ring_math.specs.Names.{Id, FileId, Content}
use Rattle.ring_math.specs.Members.{IsClosest}
use Rattle.ring_math.specs.Keys.{key_of}
use Rattle.ring_math.specs.Files.{slot_of}
use Rattle.ring_math.specs.declared.file.Held.{Held}
use Rattle.coverage.specs.GapFiles.{Lists}
use Rattle.wire_msg.specs.declared.note.Note.{Note}
use Rattle.wire_msg.specs.Words.{Message, Envelope, Grant, Handover, Replicate, ReplicaAck}
use Rattle.overlay_rules.specs.declared.entry.Entry.{Entry}
use Rattle.overlay_rules.specs.State.{State, Lease, start}
use Rattle.overlay_rules.specs.Outcome.{Outcome, Input}
use Rattle.overlay_rules.specs.Step.{step}
use Rattle.overlay_rules.specs.Record.{Setting, IsSetting, World, IsRecord, sent_in, state_at, world_at_start, world_after}
use Rattle.overlay_rules.specs.Table.{notes_in, accepted_in}
use Rattle.overlay_rules.specs.Laws.{OwnerHolds, HeldIsAccepted, NotedOnce}
use Rattle.overlay_rules.proofs.Each.{Each, Each-append, Each-both, Each-weaker}
use Rattle.overlay_rules.proofs.Histories.{sent_in-push, state_at-itself, state_at-each, past_after, IsFrom, each_envelope}
use Rattle.overlay_rules.proofs.SeatStep.{step_seat}
use Rattle.step_facts.proofs.Always.{Takes, Keeps as Keeping, after_step, always}
use Rattle.step_facts.proofs.Messages.{ReadyIn}
use Rattle.ring_laws.proofs.Leases.{lease_on}
use Rattle.ring_laws.proofs.Grants.{GrantedBy, seat_grants}
use Rattle.ring_laws.proofs.Lookups.{AllHold, all_keep, all_at_start}
use Rattle.table_laws.proofs.Slots.{Lasts, Lasts-same, Each-slot}
use Rattle.table_laws.proofs.Tables.{notes_in-push, is_reclaimed, acceptances, reclaims, acceptances-append, reclaims-append, accepted-same, reclaimed-same}
use Rattle.table_laws.proofs.Tables.{accepted-more, never_accepted, never_reclaimed, keeps_parts, gone_parts}
use Rattle.table_laws.proofs.FileRules.{Shown, step_filed}
use Rattle.table_laws.proofs.Holding.{RightEntry, AllGone, Stands, MessageRight, Acked, IsFiled, FilesIn, FilesHold, entries-more, MessageRight-more}
use Rattle.table_laws.proofs.Holding.{Acked-lasts}
use Rattle.table_laws.proofs.Filing.{all_said, NotedOf, unnoted, acceptance, reclaim, noted, rule_lasts, entries_right, to_ready}
use Rattle.table_laws.proofs.Owners.{Stepping, owners_keep, lists_keep, tombs_keep}

-- ---- one step keeps it

-- how a message is right that is sent from these files and leases
shown_right : (ns : List Note) (s : State) (to : Id) (m : Message) → Each (RightEntry ns) s.files →
    ((right : Bool) (lease : Lease) → lease_on right s ≡ Some lease → AllGone ns lease.lists.tombs) → Shown s.files m → GrantedBy s to m →
    MessageRight ns m
shown_right ns s to (Handover f b) h t shown grant = Each-slot (RightEntry ns) s.files f (Some b) h shown
shown_right ns s to (Replicate o n f b) h t shown grant = Each-slot (RightEntry ns) s.files f (Some b) h shown
shown_right ns s to (Grant a manifest tombs) h t shown (right, has) = subst (λ (l : Lists). AllGone ns l.tombs) has.same (t right has.lease has.at)
shown_right ns s to _ h t shown grant = tt

shown_acked : (files : List Held) (m : Message) → Shown files m → Acked files m
shown_acked files (ReplicaAck o n f) shown = (Some shown.0, shown.1)
shown_acked files _ shown = tt

module _ (g : Setting) (w : World) (e : Entry) (x : Id) (i : Input) (h : Stepping g w e x i) (k : FilesHold g w) where
  -- what the step makes
  abbrev made : Outcome
  made = step (w.states x) i

  bound_keeps : (f : FileId) (b : Content) → accepted_in f (notes_in w.past ++ made.notes) ≡ Some b → key_of f < 2 ^ 128
  bound_keeps f b is = by (h.noted f) where
    by : NotedOf w x made.state (notes_in w.past) made.notes f → key_of f < 2 ^ 128
    by (unnoted q) = h.files.bound f b (sym (accepted-same f (notes_in w.past) made.notes q) ∙ is)
    by (acceptance c v now none kept one no') = v.bound
    by (reclaim c v now was gone' no' one) = v.bound

  reclaimed_keeps : (f : FileId) → is_reclaimed f (notes_in w.past ++ made.notes) ≡ true →
      (b : Content) × (accepted_in f (notes_in w.past ++ made.notes) ≡ Some b)
  reclaimed_keeps f is = by (h.noted f) where
    ms : List Note
    ms = made.notes

    by : NotedOf w x made.state (notes_in w.past) ms f → (b : Content) × (accepted_in f (notes_in w.past ++ ms) ≡ Some b)
    by (unnoted q) = let old = h.files.reclaimed f (sym (reclaimed-same f (notes_in w.past) ms q) ∙ is) in
        (old.0, accepted-more f old.0 (notes_in w.past) ms old.1)
    by (acceptance c v now none kept one no') = (c, (keeps_parts f c (notes_in w.past ++ ms) kept).accepted)
    by (reclaim c v now was gone' no' one) = let p = gone_parts f (notes_in w.past ++ ms) gone' in (p.bytes, p.accepted)

  once_keeps : (f : FileId) → (acceptances f (notes_in w.past ++ made.notes) ≤ 1)
      × (reclaims f (notes_in w.past ++ made.notes) ≤ 1)
  once_keeps f = by (h.noted f) where
    ms : List Note
    ms = made.notes

    old : (acceptances f (notes_in w.past) ≤ 1) × (reclaims f (notes_in w.past) ≤ 1)
    old = h.files.once f

    sums : (acceptances f (notes_in w.past ++ ms) ≡ acceptances f (notes_in w.past) + acceptances f ms)
        × (reclaims f (notes_in w.past ++ ms) ≡ reclaims f (notes_in w.past) + reclaims f ms)
    sums = (acceptances-append f (notes_in w.past) ms, reclaims-append f (notes_in w.past) ms)

    adds : (a b c x y : ℕ) → c ≡ a + b → a ≡ x → b ≡ y → x + y ≤ 1 → c ≤ 1
    adds a b c x y e p q le = omega arith

    keeps_on : (a b c : ℕ) → c ≡ a + b → a ≤ 1 → b ≡ 0 → c ≤ 1
    keeps_on a b c e le z = omega arith

    by : NotedOf w x made.state (notes_in w.past) ms f → (acceptances f (notes_in w.past ++ ms) ≤ 1) × (reclaims f (notes_in w.past ++ ms) ≤ 1)
    by (unnoted q) = (keeps_on _ _ _ sums.0 old.0 q.acceptances_none, keeps_on _ _ _ sums.1 old.1 q.reclaims_none)
    by (acceptance c v now none kept one no') =
        (adds _ _ _ 0 1 sums.0 (never_accepted f (notes_in w.past) none) one (omega arith), keeps_on _ _ _ sums.1 old.1 no')
    by (reclaim c v now was gone' no' one) = (
      keeps_on _ _ _ sums.0 old.0 no',
      adds _ _ _ 0 1 sums.1 (never_reclaimed f (notes_in w.past) (keeps_parts f c (notes_in w.past) was).unreclaimed) one
          (omega arith),
    )

  files_keep : FilesIn (state_at w.states x made.state) (notes_in w.past ++ made.notes)
  files_keep = record {
    entries = λ y. state_at-each (λ z (s : State). Each (RightEntry (notes_in w.past ++ made.notes)) s.files) w.states x
        made.state y h.entries
        (entries-more (notes_in w.past) made.notes (w.states y).files (h.files.entries y));
    tombs = tombs_keep g w e x i h;
    owners = owners_keep g w e x i h;
    lists = lists_keep g w e x i h;
    bound = bound_keeps;
    reclaimed = reclaimed_keeps;
    once = once_keeps;
  }

  sent_keeps : Each (IsFiled (state_at w.states x made.state) (notes_in w.past ++ made.notes)) (sent_in (w.past ++ e ∷ []))
  sent_keeps = subst (Each (IsFiled after all)) (sym (sent_in-push w.past e)) (Each-append (IsFiled after all) (sent_in w.past) e.messages old fresh) where
    o : Outcome
    o = step (w.states x) i

    after : Id → State
    after = state_at w.states x o.state

    all : List Note
    all = notes_in w.past ++ o.notes

    here : after x ≡ o.state
    here = state_at-itself w.states x o.state

    lasting : (y : Id) → Lasts (w.states y).files (after y).files
    lasting y = state_at-each (λ z (s : State). Lasts (w.states z).files s.files) w.states x o.state y h.lasts
        (Lasts-same (w.states y).files (w.states y).files refl)

    old : Each (IsFiled after all) (sent_in w.past)
    old = Each-weaker (IsFiled w.states (notes_in w.past)) (IsFiled after all) (sent_in w.past) (λ v b. record {
      right = MessageRight-more (notes_in w.past) o.notes v.message b.right;
      acked = Acked-lasts (w.states v.sender).files (after v.sender).files v.message (lasting v.sender) b.acked;
    }) k.sent

    tombs : (right : Bool) (lease : Lease) → lease_on right o.state ≡ Some lease → AllGone all lease.lists.tombs
    tombs right lease at = tombs_keep g w e x i h x right lease (ap (lease_on right) here ∙ at)

    fresh : Each (IsFiled after all) e.messages
    fresh = each_envelope (IsFiled after all) x e.messages o.sends h.takes.messages
        (Each-both (λ m. Shown o.state.files m.message) (λ m. GrantedBy o.state m.receiver m.message)
        (λ m. (v : Envelope) → IsFrom x m v → IsFiled after all v) o.sends
        (λ m shown grant v f. record {
          right = subst (MessageRight all) (sym f.message) (shown_right all o.state m.receiver m.message h.entries tombs shown grant);
          acked = subst (λ y. Acked (after y).files v.message) (sym f.sender)
              (subst (λ (s : State). Acked s.files v.message) (sym here)
              (subst (Acked o.state.files) (sym f.message) (shown_acked o.state.files m.message shown)));
        }) (step_filed (w.states x) i).shows (seat_grants (w.states x) i o (step_seat (w.states x) i)).each)

-- the step of a world in which the invariants hold
pub stepping : (g : Setting) (w : World) (e : Entry) (x : Id) (i : Input) → IsSetting g → AllHold g w → AllHold g (after_step w e x i) → FilesHold g w →
    Takes g w e x i → Stepping g w e x i
stepping g w e x i set h h' k t = record {
  setting = set;
  takes = t;
  before = h.joins;
  later = h'.joins;
  files = k.files;
  lasts = rule_lasts (w.states x) i (step (w.states x) i) (step_filed (w.states x) i).does;
  entries = entries_right g w e x i (step (w.states x) i) k t (step_filed (w.states x) i).does
      (noted g w e x i (step (w.states x) i) set h k t (step_filed (w.states x) i).does);
  noted = noted g w e x i (step (w.states x) i) set h k t (step_filed (w.states x) i).does;
}

keeps : (g : Setting) → IsSetting g → (w : World) (e : Entry) (x : Id) (i : Input) → AllHold g w → AllHold g (after_step w e x i) → FilesHold g w →
    Takes g w e x i →
    FilesHold g (after_step w e x i)
keeps g set w e x i h h' k t = record {
  said = all_said g w e x i k.said t;
  sent = subst (λ ms. Each (IsFiled after ms) (sent_in (w.past ++ e ∷ []))) (sym all) (sent_keeps g w e x i s k);
  files = subst (FilesIn after) (sym all) (files_keep g w e x i s k);
} where
  after : Id → State
  after = state_at w.states x (step (w.states x) i).state

  s : Stepping g w e x i
  s = stepping g w e x i set h h' k t

  all : notes_in (w.past ++ e ∷ []) ≡ notes_in w.past ++ (step (w.states x) i).notes
  all = notes_in-push w.past e ∙ ap (λ ms. notes_in w.past ++ ms) t.notes

-- ---- at the start

start_entries : (P : Held → Type 0) (y : Id) (b : Bool) → Each P (start y b).files
start_entries P y b = tt

start_leases : (y : Id) (b : Bool) (right : Bool) (lease : Lease) → lease_on right (start y b) ≡ Some lease → ⊥
start_leases y b true lease e = cc
start_leases y b false lease e = cc

files_at_start : (g : Setting) → FilesHold g (world_at_start g)
files_at_start g = record {
  said = tt;
  sent = tt;
  files = record {
    entries = λ y. start_entries (RightEntry []) y (y == g.founder);
    tombs = λ y right lease at. absurd (start_leases y (y == g.founder) right lease at);
    owners = λ x f hk c. tt;
    lists = λ y right lease f at t. tt;
    bound = λ f b e. cc;
    reclaimed = λ f e. cc;
    once = λ f. (omega arith, omega arith);
  };
}

-- ---- over every legal record

-- the invariants of the ring and of files
pub record StoresHold (g : Setting) (w : World) : Type 0 where
  pub all : AllHold g w
  pub files : FilesHold g w

pub stores_keep : (g : Setting) → IsSetting g → Keeping g (StoresHold g)
stores_keep g set = record {
  keeps = λ w e x i h t. let all = (all_keep g set).keeps w e x i h.all t in record { all = all; files = keeps g set w e x i h.all all h.files t };
}

pub stores_at_start : (g : Setting) → IsSetting g → StoresHold g (world_at_start g)
stores_at_start g set = record { all = all_at_start g set; files = files_at_start g }

pub stores_hold : (g : Setting) (es : List Entry) → IsRecord g es → (i : ℕ) → StoresHold g (world_after g es i)
stores_hold g es r i = always g (StoresHold g) (stores_at_start g r.setting) (stores_keep g r.setting) es r i

-- ---- the laws

-- the invariant on files, in the words of a record's first entries
pub files_hold : (g : Setting) (es : List Entry) → IsRecord g es → (i : ℕ) → FilesIn (world_after g es i).states (notes_in (take i es))
files_hold g es r i = subst (λ past. FilesIn (world_after g es i).states (notes_in past)) (past_after g es i) (stores_hold g es r i).files.files

pub owner_holds : (g : Setting) (es : List Entry) → IsRecord g es → OwnerHolds g es
owner_holds g es r i x f c = (
  λ b e. let hk = k.bound f b (keeps_parts f b ns e).accepted in subst (λ t. Stands t (slot_of (w.states x).files f)) e (k.owners x f hk ready),
  λ e. let p = gone_parts f ns e in let hk = k.bound f p.bytes p.accepted in subst (λ t. Stands t (slot_of (w.states x).files f)) e (k.owners x f hk ready),
) where
  w : World
  w = world_after g es i

  ns : List Note
  ns = notes_in (take i es)

  k : FilesIn w.states ns
  k = files_hold g es r i

  ready : IsClosest (ReadyIn w.states) (key_of f) x
  ready = to_ready g w (key_of f) x (stores_hold g es r i).all.joins.messages c

pub held_is_accepted : (g : Setting) (es : List Entry) → IsRecord g es → HeldIsAccepted g es
held_is_accepted g es r i x f b c at = Each-slot (RightEntry (notes_in (take i es))) ((world_after g es i).states x).files f (Some b)
    ((files_hold g es r i).entries x) at

pub noted_once : (g : Setting) (es : List Entry) → IsRecord g es → NotedOnce es
noted_once g es r f =
    subst (λ fs. (acceptances f (notes_in fs) ≤ 1) × (reclaims f (notes_in fs) ≤ 1)) (take_all (length es) es (omega arith))
    ((files_hold g es r (length es)).once f)
