-- What answers say of each other: Stored stays stored until the file is reclaimed, and after that nothing of it is found.
use Rattle.std.proofs.Common.{◌≡◌, inl, inr, ◌≤◌, ℕ, zero, suc, ◌+◌, Bool, true, false, ◌||◌, Some, List, [], ◌∷◌, ◌++◌, length, take, drop, Contains, refl}
use Rattle.std.proofs.Common.{sym, subst, ap, ◌∙◌, arith}
use Rattle.std.proofs.lemmas.Bool.{or_cases}
use Rattle.std.proofs.lemmas.List.{take_all}
use Rattle.std.proofs.lemmas.List.Elements.{Contains-append_left}
use Rattle.std.proofs.lemmas.List.Concat.{flat_map-append}
use Rattle.std.proofs.Common.{take-append-drop}
use Rattle.ring_math.specs.Names.{Id, FileId, Content, Number}
use Rattle.wire_msg.specs.declared.command.Command.{Command as NodeCommand}
use Rattle.wire_msg.specs.declared.command.Command.TheVariants as command
use Rattle.wire_msg.specs.declared.note.Note.{Note}
use Rattle.wire_msg.specs.declared.note.Note.TheVariants as note
use Rattle.wire_msg.specs.declared.reply.Reply.{Reply}
use Rattle.wire_msg.specs.declared.reply.Reply.TheVariants as reply
use Rattle.overlay_rules.specs.declared.entry.Entry.{Entry}
use Rattle.overlay_rules.specs.Record.{Setting, Follows, IsRecord, sent_in, visit, world_after}
use Rattle.overlay_rules.specs.Table.{Kept, Nowhere, Keeps, Gone, notes_in, accepted_in, is_reclaim_of, table}
use Rattle.overlay_rules.specs.Laws.{IsOf, AnswersWith, StoredStays, GoneIsReclaimed, ReclaimedIsLast}
use Rattle.overlay_rules.specs.Moments.{Moment, moment_of}
use Rattle.overlay_rules.specs.Rightly.{WasCommanded, RightlyAnswered, RightReply}
use Rattle.overlay_rules.proofs.Histories.{follows_at, past_after}
use Rattle.ring_laws.proofs.Lookups.{all_hold}
use Rattle.table_laws.proofs.Slots.{same-is, same-itself}
use Rattle.table_laws.proofs.Tables.{is_reclaimed, accepted-more, reclaimed-more, keeps_parts, gone_parts, nowhere_parts}
use Rattle.table_laws.proofs.Rightness.{notes_are_right}

-- ---- the first entries and more of them

take_take : {A : Type 0} (j i : ℕ) (xs : List A) → j ≤ i → take j (take i xs) ≡ take j xs
take_take zero i xs le = refl
take_take (suc j) zero xs le = absurd (omega arith)
take_take (suc j) (suc i) [] le = refl
take_take (suc j) (suc i) (x ∷ xs) le = ap (λ ys. x ∷ ys) (take_take j i xs (omega arith))

-- the notes of more entries are those of fewer, and then more
notes_later : (es : List Entry) (i j : ℕ) → i ≤ j → notes_in (take j es) ≡ notes_in (take i es) ++ notes_in (drop i (take j es))
notes_later es i j le =
    ap notes_in (sym (take-append-drop i (take j es))) ∙ (flat_map-append (λ (d : Entry). d.notes) (take i (take j es)) (drop i (take j es))
    ∙ ap (λ fs. notes_in fs ++ notes_in (drop i (take j es))) (take_take i j es le))

accepted_later : (es : List Entry) (i j : ℕ) (f : FileId) (b : Content) → i ≤ j → accepted_in f (notes_in (take i es)) ≡ Some b →
    accepted_in f (notes_in (take j es)) ≡ Some b
accepted_later es i j f b le e = ap (accepted_in f) (notes_later es i j le) ∙ accepted-more f b (notes_in (take i es)) (notes_in (drop i (take j es))) e

reclaimed_later : (es : List Entry) (i j : ℕ) (f : FileId) → i ≤ j → is_reclaimed f (notes_in (take i es)) ≡ true → is_reclaimed f (notes_in (take j es)) ≡ true
reclaimed_later es i j f le e = ap (is_reclaimed f) (notes_later es i j le) ∙ reclaimed-more f (notes_in (take i es)) (notes_in (drop i (take j es))) e

-- ---- a note Reclaimed, and what the table sees of it

reclaims_it : (f : FileId) (n : Note) → is_reclaim_of f n ≡ true → n ≡ note.Reclaimed f
reclaims_it f (note.Reclaimed g) e = ap note.Reclaimed (sym (same-is f g e))
reclaims_it f (note.Accepted g b) e = cc
reclaims_it f (note.Delivered o n key hops) e = cc
reclaims_it f (note.Answered o n r) e = cc
reclaims_it f (note.Closed n a) e = cc

note_there : (f : FileId) (ns : List Note) → is_reclaimed f ns ≡ true → Contains ns (note.Reclaimed f)
note_there f [] e = cc
note_there f (n ∷ ns) e = elim (or_cases (is_reclaim_of f n) (is_reclaimed f ns) e) [
  | inl d ↦ (0, omega arith, reclaims_it f n d)
  | inr d ↦ let rest = note_there f ns d in let lt = rest.1 in (suc rest.0, omega arith, rest.2)
]

reclaimed_there : (f : FileId) (ns : List Note) → Contains ns (note.Reclaimed f) → is_reclaimed f ns ≡ true
reclaimed_there f [] (i, lt, e) = absurd (omega arith)
reclaimed_there f (n ∷ ns) (zero, lt, e) = ap (λ m. is_reclaim_of f m || is_reclaimed f ns) e ∙ ap (λ b. b || is_reclaimed f ns) (same-itself f)
reclaimed_there f (n ∷ ns) (suc i, lt, e) = ap (λ b. is_reclaim_of f n || b) (reclaimed_there f ns (i, omega arith, e)) ∙ or_true (is_reclaim_of f n) where
  or_true : (b : Bool) → b || true ≡ true
  or_true true = refl
  or_true false = refl

-- ---- the answer of an entry is right of its command

some_same : {A : Type 0} (x y : A) → Some x ≡ Some y → x ≡ y
some_same x y e = cc

-- what was commanded before an entry is a command of the record
commanded_in : (g : Setting) (es : List Entry) (i : ℕ) (o : Id) (n : Number) (c : NodeCommand) → WasCommanded (world_after g es i) o n c →
    WasCommanded (world_after g es (length es)) o n c
commanded_in g es i o n c was = (
  was.0,
  subst (λ past. Contains past was.0) (sym whole)
      (subst (λ fs. Contains fs was.0) (take-append-drop i es)
      (Contains-append_left (take i es) (drop i es) was.0 (subst (λ past. Contains past was.0) (past_after g es i) was.1))),
  was.2,
) where
  whole : (world_after g es (length es)).past ≡ es
  whole = past_after g es (length es) ∙ take_all (length es) es (omega arith)

record RightAt (g : Setting) (es : List Entry) (i : ℕ) (f : FileId) (c : NodeCommand) (r : Reply) : Type 0 where
  entry : Entry
  node : Id
  origin : Id
  number : Number
  about : IsOf f c
  right : RightReply g es (moment_of g es i entry node) origin number c r

right_at : (g : Setting) (es : List Entry) → IsRecord g es → (i : ℕ) (f : FileId) (c : NodeCommand) (r : Reply) → AnswersWith es i f c r → RightAt g es i f c r
right_at g es rec i f c r (e, (d, (o, (n, (is_entry, has, there, is, about))))) =
    record { entry = e; node = follows.at.node; origin = o; number = n; about = about; right = subst (λ k. RightReply g es m o n k r) same answered.1.1 } where
      follows : Follows g (world_after g es i) e
      follows = follows_at g es i e rec.legal is_entry

      m : Moment
      m = moment_of g es i e follows.at.node

      answered : RightlyAnswered g es m o n r
      answered = notes_are_right g es rec i e follows.at (note.Answered o n r) is_entry
          (ap (λ past. visit (sent_in past) e.event) (sym (past_after g es i)) ∙ follows.is_at) has

      whole : (world_after g es (length es)).past ≡ es
      whole = past_after g es (length es) ∙ take_all (length es) es (omega arith)

      same : answered.0 ≡ c
      same = ((all_hold g es rec (length es)).requests.one o o n answered.0 c (commanded_in g es (i + 1) o n answered.0 answered.1.0)
          (d, subst (λ past. Contains past d) (sym whole) there, is)).1

-- ---- what an answer says of the table

module _ (g : Setting) (es : List Entry) (m : Moment) (o : Id) (n : Number) (f : FileId) where
  says_not_found : (c : NodeCommand) (y : Id) → IsOf f c → RightReply g es m o n c (reply.NotFound y) → table m.world.past f ≡ Nowhere
  says_not_found (command.Fetch h) y is r = subst (λ k. table m.world.past k ≡ Nowhere) (sym is) r.1
  says_not_found (command.Reclaim h) y is r = subst (λ k. table m.world.past k ≡ Nowhere) (sym is) r.1
  says_not_found (command.Insert h copies b) y is r = absurd r
  says_not_found (command.Lookup key) y is r = absurd is
  says_not_found (command.Join via) y is r = absurd is
  says_not_found command.GiveUp y is r = absurd is

  says_found : (c : NodeCommand) (y : Id) (b : Content) → IsOf f c → RightReply g es m o n c (reply.Found y b) → table m.world.past f ≡ Keeps b
  says_found (command.Fetch h) y b is r = subst (λ k. table m.world.past k ≡ Keeps b) (sym is) r.1
  says_found (command.Reclaim h) y b is r = absurd r
  says_found (command.Insert h copies c) y b is r = absurd r
  says_found (command.Lookup key) y b is r = absurd is
  says_found (command.Join via) y b is r = absurd is
  says_found command.GiveUp y b is r = absurd is

  says_gone : (c : NodeCommand) (y : Id) → IsOf f c → RightReply g es m o n c (reply.Gone y) → table m.world.past f ≡ Gone
  says_gone (command.Fetch h) y is r = subst (λ k. table m.world.past k ≡ Gone) (sym is) r.1
  says_gone (command.Insert h copies b) y is r = subst (λ k. table m.world.past k ≡ Gone) (sym is) r.1
  says_gone (command.Reclaim h) y is r = absurd r
  says_gone (command.Lookup key) y is r = absurd is
  says_gone (command.Join via) y is r = absurd is
  says_gone command.GiveUp y is r = absurd is

  says_reclaimed : (c : NodeCommand) (y : Id) → IsOf f c → RightReply g es m o n c (reply.Reclaimed y) → table m.world.past f ≡ Gone
  says_reclaimed (command.Reclaim h) y is r = subst (λ k. table m.world.past k ≡ Gone) (sym is) r.1
  says_reclaimed (command.Fetch h) y is r = absurd r
  says_reclaimed (command.Insert h copies b) y is r = absurd r
  says_reclaimed (command.Lookup key) y is r = absurd is
  says_reclaimed (command.Join via) y is r = absurd is
  says_reclaimed command.GiveUp y is r = absurd is

  says_stored : (c : NodeCommand) (holders : List Id) → IsOf f c → RightReply g es m o n c (reply.Stored holders) →
      (b : Content) × (table m.world.past f ≡ Keeps b)
  says_stored (command.Insert h copies b) holders is r = (b, subst (λ k. table m.world.past k ≡ Keeps b) (sym is) r.kept)
  says_stored (command.Fetch h) holders is r = absurd r
  says_stored (command.Reclaim h) holders is r = absurd r
  says_stored (command.Lookup key) holders is r = absurd is
  says_stored (command.Join via) holders is r = absurd is
  says_stored command.GiveUp holders is r = absurd is

-- the table after entry i
at_entry : (g : Setting) (es : List Entry) (i : ℕ) (f : FileId) (k : Kept) → table (world_after g es (i + 1)).past f ≡ k → table (take (i + 1) es) f ≡ k
at_entry g es i f k e = ap (λ past. table past f) (sym (past_after g es (i + 1))) ∙ e

-- ---- the laws

pub stored_stays : (g : Setting) (es : List Entry) → IsRecord g es → StoredStays es
stored_stays g es r i j f b copies holders c at lt = (
  λ y later.
      let k = right_at g es r j f c (reply.NotFound y) later in
      let none = nowhere_parts f (notes_in (take (j + 1) es))
      (at_entry g es j f Nowhere (says_not_found g es (moment_of g es j k.entry k.node) k.origin k.number f c y k.about k.right)) in
      let some = still in cc,
  λ y found later.
      let k = right_at g es r j f c (reply.Found y found) later in
      let kept = (keeps_parts f found (notes_in (take (j + 1) es))
      (at_entry g es j f (Keeps found) (says_found g es (moment_of g es j k.entry k.node) k.origin k.number f c y found k.about k.right))).accepted in
      some_same found b (sym kept ∙ still),
) where
  now : RightAt g es i f (command.Insert f copies b) (reply.Stored holders)
  now = right_at g es r i f (command.Insert f copies b) (reply.Stored holders) at

  still : accepted_in f (notes_in (take (j + 1) es)) ≡ Some b
  still = accepted_later es (i + 1) (j + 1) f b (omega arith)
      (keeps_parts f b (notes_in (take (i + 1) es)) (at_entry g es i f (Keeps b) now.right.kept)).accepted

pub gone_is_reclaimed : (g : Setting) (es : List Entry) → IsRecord g es → GoneIsReclaimed es
gone_is_reclaimed g es r i y f c (inl at) =
    let k = right_at g es r i f c (reply.Gone y) at in
    note_there f (notes_in (take (i + 1) es))
    (gone_parts f (notes_in (take (i + 1) es))
    (at_entry g es i f Gone (says_gone g es (moment_of g es i k.entry k.node) k.origin k.number f c y k.about k.right))).reclaimed
gone_is_reclaimed g es r i y f c (inr at) =
    let k = right_at g es r i f c (reply.Reclaimed y) at in
    note_there f (notes_in (take (i + 1) es))
    (gone_parts f (notes_in (take (i + 1) es))
    (at_entry g es i f Gone (says_reclaimed g es (moment_of g es i k.entry k.node) k.origin k.number f c y k.about k.right))).reclaimed

pub reclaimed_is_last : (g : Setting) (es : List Entry) → IsRecord g es → ReclaimedIsLast es
reclaimed_is_last g es r i j f c was lt = (
  λ y b later.
      let k = right_at g es r j f c (reply.Found y b) later in
      kept_no_more b (at_entry g es j f (Keeps b) (says_found g es (moment_of g es j k.entry k.node) k.origin k.number f c y b k.about k.right)),
  λ holders later.
      let k = right_at g es r j f c (reply.Stored holders) later in
      let kept = says_stored g es (moment_of g es j k.entry k.node) k.origin k.number f c holders k.about k.right in
      kept_no_more kept.0 (at_entry g es j f (Keeps kept.0) kept.1),
) where
  reclaimed : is_reclaimed f (notes_in (take (j + 1) es)) ≡ true
  reclaimed = reclaimed_later es (i + 1) (j + 1) f (omega arith) (reclaimed_there f (notes_in (take (i + 1) es)) was)

  kept_no_more : (b : Content) → table (take (j + 1) es) f ≡ Keeps b → ⊥
  kept_no_more b e = let not' = (keeps_parts f b (notes_in (take (j + 1) es)) e).unreclaimed in let yes' = reclaimed in cc
