-- The invariant of every legal record on files: what is held, handed over and copied is what was accepted, what is a tombstone is Gone; the owner of a file
-- holds it;
-- and the lists of a lease have each file that its node owns and its joiner will.
use Rattle.std.proofs.Common.{◌≡◌, inl, inr, ◌≤◌, ◌<◌, ◌^◌, Bool, true, false, Option, Some, None, List, ◌++◌, Contains, refl, sym, ap, ◌∙◌}
use Rattle.ring_math.specs.Names.{Id, FileId, Content}
use Rattle.ring_math.specs.Ring.{is_nearer}
use Rattle.ring_math.specs.Members.{IsClosest}
use Rattle.ring_math.specs.Keys.{key_of}
use Rattle.ring_math.specs.Files.{Slot, slot_of}
use Rattle.ring_math.specs.declared.file.Held.{Held}
use Rattle.coverage.specs.GapFiles.{Lists}
use Rattle.wire_msg.specs.declared.note.Note.{Note}
use Rattle.wire_msg.specs.Words.{Message, Envelope, Lookup, LookupReply, Insert, InsertReply, Fetch, FetchReply, JoinRequest, JoinReply, JoinRefuse, Probe}
use Rattle.wire_msg.specs.Words.{ProbeReply, LeaseRequest, Grant, Deny, Handover, Release, Confirm, Announce, Replicate, ReplicaAck, Reclaim, ReclaimReply}
use Rattle.overlay_rules.specs.declared.entry.Entry.{Entry}
use Rattle.overlay_rules.specs.State.{State, Lease, is_ready}
use Rattle.overlay_rules.specs.Record.{Setting, World, IsSaidBy, sent_in}
use Rattle.overlay_rules.specs.Table.{Kept, Nowhere, Keeps, Gone, notes_in, accepted_in, table_of}
use Rattle.overlay_rules.proofs.Each.{Each, Each-weaker}
use Rattle.step_facts.proofs.Messages.{ReadyIn}
use Rattle.ring_laws.proofs.Leases.{lease_on}
use Rattle.table_laws.proofs.Slots.{Lasts, Each-slot}
use Rattle.table_laws.proofs.Tables.{is_reclaimed, acceptances, reclaims, accepted-more, gone-more, keeps_parts}

-- bytes are the accepted ones, a tombstone is of what is Gone
abbrev pub RightSlot : List Note → FileId → Slot → Type 0
RightSlot ns f (Some b) = accepted_in f ns ≡ Some b
RightSlot ns f None = table_of ns f ≡ Gone

abbrev pub RightEntry : List Note → Held → Type 0
RightEntry ns h = RightSlot ns h.file h.slot

abbrev pub AllGone : List Note → List FileId → Type 0
AllGone ns fs = Each (λ f. table_of ns f ≡ Gone) fs

-- what stands for a file of the table
abbrev pub Stands : Kept → Option Slot → Type 0
Stands Nowhere o = Unit {0}
Stands (Keeps b) o = o ≡ Some (Some b)
Stands Gone o = o ≡ Some None

-- a file of the table is on one of the lists
abbrev pub Listed : Kept → Lists → FileId → Type 0
Listed Nowhere lists f = Unit {0}
Listed (Keeps b) lists f = Contains lists.manifest f
Listed Gone lists f = Contains lists.tombs f

abbrev pub MessageRight : List Note → Message → Type 0
MessageRight ns (Handover f b) = accepted_in f ns ≡ Some b
MessageRight ns (Replicate o n f b) = accepted_in f ns ≡ Some b
MessageRight ns (Grant a manifest tombs) = AllGone ns tombs
MessageRight ns (ReplicaAck o n f) = Unit {0}
MessageRight ns (Lookup origin number key hops) = Unit {0}
MessageRight ns (LookupReply number r) = Unit {0}
MessageRight ns (Insert origin number hops f copies b) = Unit {0}
MessageRight ns (InsertReply number r) = Unit {0}
MessageRight ns (Fetch origin number hops f) = Unit {0}
MessageRight ns (FetchReply number r) = Unit {0}
MessageRight ns (JoinRequest joiner a hops) = Unit {0}
MessageRight ns (JoinReply a members) = Unit {0}
MessageRight ns (JoinRefuse a w) = Unit {0}
MessageRight ns (Probe a) = Unit {0}
MessageRight ns (ProbeReply a members) = Unit {0}
MessageRight ns (LeaseRequest a l r) = Unit {0}
MessageRight ns (Deny a w) = Unit {0}
MessageRight ns (Release a) = Unit {0}
MessageRight ns (Confirm a) = Unit {0}
MessageRight ns Announce = Unit {0}
MessageRight ns (Reclaim origin number hops f) = Unit {0}
MessageRight ns (ReclaimReply number r) = Unit {0}

-- who acknowledged a file has an entry for it
abbrev pub Acked : List Held → Message → Type 0
Acked files (ReplicaAck o n f) = (s : Slot) × (slot_of files f ≡ Some s)
Acked files (Handover f b) = Unit {0}
Acked files (Replicate o n f b) = Unit {0}
Acked files (Grant a manifest tombs) = Unit {0}
Acked files (Lookup origin number key hops) = Unit {0}
Acked files (LookupReply number r) = Unit {0}
Acked files (Insert origin number hops f copies b) = Unit {0}
Acked files (InsertReply number r) = Unit {0}
Acked files (Fetch origin number hops f) = Unit {0}
Acked files (FetchReply number r) = Unit {0}
Acked files (JoinRequest joiner a hops) = Unit {0}
Acked files (JoinReply a members) = Unit {0}
Acked files (JoinRefuse a w) = Unit {0}
Acked files (Probe a) = Unit {0}
Acked files (ProbeReply a members) = Unit {0}
Acked files (LeaseRequest a l r) = Unit {0}
Acked files (Deny a w) = Unit {0}
Acked files (Release a) = Unit {0}
Acked files (Confirm a) = Unit {0}
Acked files Announce = Unit {0}
Acked files (Reclaim origin number hops f) = Unit {0}
Acked files (ReclaimReply number r) = Unit {0}

pub record IsFiled (states : Id → State) (ns : List Note) (v : Envelope) : Type 0 where
  pub right : MessageRight ns v.message
  pub acked : Acked (states v.sender).files v.message

-- the owner of a file holds it
abbrev pub OwnersHold : (Id → State) → List Note → Type 0
OwnersHold states ns = (x : Id) (f : FileId) → key_of f < 2 ^ 128 → IsClosest (ReadyIn states) (key_of f) x →
    Stands (table_of ns f) (slot_of (states x).files f)

-- a file is closest to y, and the joiner of y's lease, who is not ready, is nearer
pub record IsToGo (states : Id → State) (y : Id) (lease : Lease) (f : FileId) : Type 0 where
  pub unready : is_ready (states lease.gate.joiner).phase ≡ false
  pub bound : key_of f < 2 ^ 128
  pub closest : IsClosest (ReadyIn states) (key_of f) y
  pub nearer : is_nearer lease.gate.joiner y (key_of f) ≡ true

-- the lists of a lease have each file that is to go to its joiner
abbrev pub ListsHold : (Id → State) → List Note → Type 0
ListsHold states ns = (y : Id) (right : Bool) (lease : Lease) (f : FileId) → lease_on right (states y) ≡ Some lease → IsToGo states y lease f →
    Listed (table_of ns f) lease.lists f

pub record FilesIn (states : Id → State) (ns : List Note) : Type 0 where
  pub entries : (y : Id) → Each (RightEntry ns) (states y).files
  pub tombs : (y : Id) (right : Bool) (lease : Lease) → lease_on right (states y) ≡ Some lease → AllGone ns lease.lists.tombs
  pub owners : OwnersHold states ns
  pub lists : ListsHold states ns
  pub bound : (f : FileId) (b : Content) → accepted_in f ns ≡ Some b → key_of f < 2 ^ 128
  pub reclaimed : (f : FileId) → is_reclaimed f ns ≡ true → (b : Content) × (accepted_in f ns ≡ Some b)
  pub once : (f : FileId) → (acceptances f ns ≤ 1) × (reclaims f ns ≤ 1)

pub record FilesHold (g : Setting) (w : World) : Type 0 where
  pub said : Each (λ (e : Entry). IsSaidBy e.event) w.past
  pub sent : Each (IsFiled w.states (notes_in w.past)) (sent_in w.past)
  pub files : FilesIn w.states (notes_in w.past)

-- ---- what lasts when there are more notes

pub RightSlot-more : (ns ms : List Note) (f : FileId) (s : Slot) → RightSlot ns f s → RightSlot (ns ++ ms) f s
RightSlot-more ns ms f (Some b) h = accepted-more f b ns ms h
RightSlot-more ns ms f None h = gone-more f ns ms h

pub entries-more : (ns ms : List Note) (hs : List Held) → Each (RightEntry ns) hs → Each (RightEntry (ns ++ ms)) hs
entries-more ns ms hs h = Each-weaker (RightEntry ns) (RightEntry (ns ++ ms)) hs (λ e r. RightSlot-more ns ms e.file e.slot r) h

pub all_gone-more : (ns ms : List Note) (fs : List FileId) → AllGone ns fs → AllGone (ns ++ ms) fs
all_gone-more ns ms fs h = Each-weaker (λ f. table_of ns f ≡ Gone) (λ f. table_of (ns ++ ms) f ≡ Gone) fs (λ f e. gone-more f ns ms e) h

pub MessageRight-more : (ns ms : List Note) (m : Message) → MessageRight ns m → MessageRight (ns ++ ms) m
MessageRight-more ns ms (Handover f b) h = accepted-more f b ns ms h
MessageRight-more ns ms (Replicate o n f b) h = accepted-more f b ns ms h
MessageRight-more ns ms (Grant a manifest tombs) h = all_gone-more ns ms tombs h
MessageRight-more ns ms _ h = tt

pub Acked-lasts : (xs ys : List Held) (m : Message) → Lasts xs ys → Acked xs m → Acked ys m
Acked-lasts xs ys (ReplicaAck o n f) l h = elim (l.lasts f h.0 h.1) [ inl e ↦ (h.0, e) | inr e ↦ (None, e) ]
Acked-lasts xs ys _ l h = tt

-- ---- what stands for a file of the table

-- bytes that stand for what the table keeps are the table's
pub stands_kept : (ns : List Note) (f : FileId) (b : Content) (hs : List Held) (s : Slot) → Each (RightEntry ns) hs → table_of ns f ≡ Keeps b →
    slot_of hs f ≡ Some s → slot_of hs f ≡ Some (Some b)
stands_kept ns f b hs (Some c) h e at =
    let held : accepted_in f ns ≡ Some c = Each-slot (RightEntry ns) hs f (Some c) h at in
    let kept = keeps_parts f b ns e in
    let same : Some c ≡ Some b = sym held ∙ kept.accepted in at ∙ ap Some same
stands_kept ns f b hs None h e at = let tomb : table_of ns f ≡ Gone = Each-slot (RightEntry ns) hs f None h at in cc

-- what stood for a file of the table stands
pub stands_on : (ns : List Note) (f : FileId) (xs ys : List Held) → Lasts xs ys → Each (RightEntry ns) ys → Stands (table_of ns f) (slot_of xs f) →
    Stands (table_of ns f) (slot_of ys f)
stands_on ns f xs ys l h s = by (table_of ns f) refl s where
  by : (k : Kept) → table_of ns f ≡ k → Stands k (slot_of xs f) → Stands k (slot_of ys f)
  by Nowhere e s = tt
  by (Keeps b) e s = elim (l.lasts f (Some b) s) [ inl d ↦ d | inr d ↦ stands_kept ns f b ys None h e d ]
  by Gone e s = elim (l.lasts f None s) [ inl d ↦ d | inr d ↦ d ]
