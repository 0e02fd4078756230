-- Every note of a legal record is right: those of lookups and closings by the ring laws, the answers to commands on files by the reason that each has.
use Rattle.std.proofs.Common.{◌≡◌, ◌≤◌, ◌<◌, ℕ, ◌+◌, Some, List, length, Contains, sym, subst, ap, ◌∙◌, arith}
use Rattle.std.proofs.lemmas.List.{length-take-le}
use Rattle.std.proofs.lemmas.Option.{slice_get_within}
use Rattle.ring_math.specs.Names.{Id, FileId, Content, Number}
use Rattle.ring_math.specs.Files.{slot_of}
use Rattle.wire_msg.specs.declared.command.Command.TheVariants as command
use Rattle.wire_msg.specs.declared.note.Note.{Note}
use Rattle.wire_msg.specs.declared.note.Note.TheVariants as note
use Rattle.wire_msg.specs.declared.reply.Reply.{Reply}
use Rattle.overlay_rules.specs.declared.entry.Entry.{Entry}
use Rattle.overlay_rules.specs.Outcome.{Input}
use Rattle.overlay_rules.specs.Step.{step}
use Rattle.overlay_rules.specs.Record.{Setting, World, IsRecord, world_after}
use Rattle.overlay_rules.specs.Ready.{IsReadyIn}
use Rattle.overlay_rules.specs.Moments.{Moment, moment_of, EachNote}
use Rattle.overlay_rules.specs.Rightly.{RightlyStored, RightInsertReply, RightlyAnswered, RightLookupNote, RightNote, NotesAreRight}
use Rattle.overlay_rules.proofs.Each.{Each-all, Each-contains, Each-weaker}
use Rattle.overlay_rules.proofs.Histories.{past_after}
use Rattle.ring_laws.specs.Closings.{RightClosing}
use Rattle.step_facts.proofs.Always.{Takes, after_step, step_moment}
use Rattle.ring_laws.proofs.Lookups.{AllHold}
use Rattle.ring_laws.proofs.Notes.{each_note, lookups_are_right, closings_are_right}
use Rattle.table_laws.proofs.AnswerRules.{NoteRule, step_answered}
use Rattle.table_laws.proofs.Rising.{room_holds}
use Rattle.table_laws.proofs.Stores.{stepping}
use Rattle.table_laws.proofs.Waits.{TableHolds, table_keeps, table_holds}
use Rattle.table_laws.proofs.Lasting.{holds_on}
use Rattle.table_laws.proofs.Rights.{StoredNow, RightNow, to_lookup, stored, right, AtStep, answer_right}

-- of an answer: it is right, but that Stored says nothing of later entries
abbrev NowNote : Setting → Moment → Note → Type 0
NowNote g m (note.Answered from n r) = RightNow g m from n r
NowNote g m (note.Delivered from n key hops) = Unit {0}
NowNote g m (note.Closed n a) = Unit {0}
NowNote g m (note.Accepted f b) = Unit {0}
NowNote g m (note.Reclaimed f) = Unit {0}

now_note : (g : Setting) (w : World) (e : Entry) (x : Id) (i : Input) → AtStep g w e x i → (n : Note) → NoteRule (w.states x) i (step (w.states x) i) n →
    NowNote g (step_moment w e x i) n
now_note g w e x i z (note.Answered from n r) a = answer_right g w e x i z from n r a
now_note g w e x i z (note.Delivered from n key hops) a = tt
now_note g w e x i z (note.Closed n c) a = tt
now_note g w e x i z (note.Accepted f b) a = tt
now_note g w e x i z (note.Reclaimed f) a = tt

at_step : (g : Setting) (es : List Entry) → IsRecord g es → (i : ℕ) (e : Entry) (x : Id) (j : Input) → AllHold g (world_after g es i) →
    AllHold g (after_step (world_after g es i) e x j) →
    Takes g (world_after g es i) e x j → AtStep g (world_after g es i) e x j
at_step g es r i e x j h h' t = record {
  stepping = stepping g w e x j r.setting h h' before.files t;
  all = h;
  files = before.files;
  waits = before.waits;
  room = room_holds g es r i;
  then_all = h';
  then_files = after.files;
} where
  w : World
  w = world_after g es i

  before : TableHolds g w
  before = table_holds g es r i

  after : TableHolds g (after_step w e x j)
  after = (table_keeps g r.setting).keeps w e x j before t

now_notes : (g : Setting) (es : List Entry) → IsRecord g es → EachNote g (NowNote g) es
now_notes g es r = each_note g es (NowNote g) r (λ i e x j h h' t n c.
    now_note g (world_after g es i) e x j (at_step g es r i e x j h h' t) n
    (Each-contains (NoteRule ((world_after g es i).states x) j (step ((world_after g es i).states x) j)) _ n
    (step_answered ((world_after g es i).states x) j).notes (subst (λ ns. Contains ns n) t.notes c)))

-- the holders hold on
stored_right : (g : Setting) (es : List Entry) → IsRecord g es → (i : ℕ) → i < length es → (f : FileId) (copies : ℕ) (b : Content) (holders : List Id) →
    StoredNow g (world_after g es (i + 1)) f copies b holders →
    RightlyStored g es (world_after g es (i + 1)) f copies b holders
stored_right g es r i lt f copies b holders k = record {
  kept = k.kept;
  number = k.number;
  differ = k.differ;
  ready = Each-all (IsReadyIn g v) holders k.ready;
  hold = λ j le ne. Each-all (λ y. slot_of ((world_after g es j).states y).files f ≡ Some (Some b)) holders
      (Each-weaker (λ y. slot_of (v.states y).files f ≡ Some (Some b)) (λ y. slot_of ((world_after g es j).states y).files f ≡ Some (Some b)) holders
      (λ y at. holds_on g es r (i + 1) j y f b (subst (λ m. m ≤ j) long le) ne at) k.hold);
} where
  v : World
  v = world_after g es (i + 1)

  long : length v.past ≡ i + 1
  long = ap length (past_after g es (i + 1)) ∙ length-take-le (i + 1) es (omega arith)

answered_right : (g : Setting) (es : List Entry) → IsRecord g es → (i : ℕ) → i < length es → (e : Entry) (x from : Id) (n : Number) (r : Reply) →
    RightLookupNote g (moment_of g es i e x) (note.Answered from n r) → RightNow g (moment_of g es i e x) from n r →
    RightlyAnswered g es (moment_of g es i e x) from n r
answered_right g es rec i lt e x from n r of_lookup (to_lookup key was) = (command.Lookup key, (was, of_lookup key was))
answered_right g es rec i lt e x from n r of_lookup (stored f copies b holders was is now) = (
  command.Insert f copies b,
  (
    was,
    subst (RightInsertReply g es (moment_of g es i e x) f copies b) (sym is)
        (stored_right g es rec i lt f copies b holders now),
  ),
)
answered_right g es rec i lt e x from n r of_lookup (right c was f) = (c, (was, f es))

note_right : (g : Setting) (es : List Entry) → IsRecord g es → (i : ℕ) → i < length es → (e : Entry) (x : Id) (n : Note) →
    RightLookupNote g (moment_of g es i e x) n →
    RightClosing g es (moment_of g es i e x) n → NowNote g (moment_of g es i e x) n → RightNote g es (moment_of g es i e x) n
note_right g es r i lt e x (note.Delivered from n key hops) a b c = a
note_right g es r i lt e x (note.Answered from n rep) a b c = answered_right g es r i lt e x from n rep a c
note_right g es r i lt e x (note.Closed n answer) a b c = b
note_right g es r i lt e x (note.Accepted f bytes) a b c = tt
note_right g es r i lt e x (note.Reclaimed f) a b c = tt

pub notes_are_right : (g : Setting) (es : List Entry) → IsRecord g es → NotesAreRight g es
notes_are_right g es r i e at n is_entry is_at c =
    note_right g es r i (slice_get_within es i e is_entry) e at.node n (lookups_are_right g es r i e at n is_entry is_at c)
    (closings_are_right g es r i e at n is_entry is_at c)
    (now_notes g es r i e at n is_entry is_at c)
