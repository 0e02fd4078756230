-- What one step notes of a file: nothing, or the node accepts or reclaims it, and then it is the file's owner and covers its key.
-- And what the node holds afterwards is right.
use Rattle.std.proofs.Common.{◌≡◌, inl, inr, ◌<◌, ◌^◌, false, Some, None, List, [], ◌∷◌, ◌++◌, Contains, refl, sym, subst, ap, ◌∙◌}
use Rattle.std.proofs.lemmas.Bool.{cases_Bool}
use Rattle.ring_math.specs.Names.{Id, Key, FileId, Content, Attempt, Number, Hops}
use Rattle.ring_math.specs.Members.{IsClosest}
use Rattle.ring_math.specs.Keys.{key_of}
use Rattle.ring_math.specs.Files.{Slot, slot_of, with_slot, buried_all}
use Rattle.ring_math.specs.declared.file.Held.{Held}
use Rattle.wire_msg.specs.declared.command.Command.{Command as NodeCommand}
use Rattle.wire_msg.specs.declared.command.Command.TheVariants as command
use Rattle.wire_msg.specs.declared.note.Note.{Note}
use Rattle.wire_msg.specs.declared.note.Note.TheVariants as note
use Rattle.wire_msg.specs.Words.{Grant}
use Rattle.overlay_rules.specs.declared.entry.Event.{Event}
use Rattle.overlay_rules.specs.declared.entry.Entry.{Entry}
use Rattle.overlay_rules.specs.declared.request.Way.TheVariants as way
use Rattle.overlay_rules.specs.State.{State}
use Rattle.overlay_rules.specs.Outcome.{Outcome, Input, Command, Comes, Noise}
use Rattle.overlay_rules.specs.Routed.{way_of}
use Rattle.overlay_rules.specs.Step.{step}
use Rattle.overlay_rules.specs.Record.{Setting, IsSetting, World, IsSaid, IsSaidBy, sent_in}
use Rattle.overlay_rules.specs.Rightly.{WasCommanded}
use Rattle.overlay_rules.specs.Ready.{IsReadyIn}
use Rattle.overlay_rules.specs.Laws.{Covers}
use Rattle.overlay_rules.specs.Table.{Keeps, Gone, notes_in, accepted_in, table_of}
use Rattle.overlay_rules.proofs.Each.{Each, Each-append, Each-contains, Each-slice_get}
use Rattle.step_facts.proofs.Always.{Arrives, commanded, delivered, noised, Takes, after_step}
use Rattle.step_facts.proofs.Messages.{ReadyIn, MessagesHold}
use Rattle.ring_laws.proofs.Ring.{JoinsHold}
use Rattle.ring_laws.proofs.Owner.{covers_right}
use Rattle.ring_laws.proofs.Notes.{here_covers}
use Rattle.step_facts.proofs.Requests.{InputCarries, IsOfFiles}
use Rattle.ring_laws.proofs.Lookups.{OnTheWay, AllHold, later, input_carries}
use Rattle.table_laws.proofs.Slots.{Lasts, Lasts-same, Lasts-put, Lasts-tomb, Lasts-buried_all, Each-slot, Each-with_slot, Each-buried_all, slot-itself}
use Rattle.table_laws.proofs.Slots.{cases_bytes}
use Rattle.table_laws.proofs.Tables.{AllQuiet, SaysNothing, quiet_nothing, acceptance_other, reclaim_other, is_reclaimed, acceptances, reclaims}
use Rattle.table_laws.proofs.Tables.{acceptance_once, reclaim_once, accepted-new, accepted-more, reclaimed-new, acceptance-unreclaimed, reclaim-accepted}
use Rattle.table_laws.proofs.Tables.{from_keeps, from_gone, keeps_parts, nowhere_parts, TableCases, table_cases, nowhere, keeps, gone}
use Rattle.table_laws.proofs.FileRules.{Requests, told, lookup_came, insert_came, fetch_came, reclaim_came, Carries, handed, copied, FileRule, same, accepts}
use Rattle.table_laws.proofs.FileRules.{reclaims as reclaims_rule, puts, buries}
use Rattle.table_laws.proofs.Keys.{key_bound}
use Rattle.table_laws.proofs.Holding.{RightSlot, RightEntry, AllGone, Stands, MessageRight, IsFiled, FilesIn, FilesHold, entries-more, all_gone-more}

-- ---- the request behind an input

requested_by : (Q : Id → Number → NodeCommand → Type 0) (L : Id → Id → Number → Key → Hops → Type 0) (me : Id) (i : Input) (o : Id) (n : Number)
    (c : NodeCommand) → IsOfFiles c → Requests me i o n c → InputCarries Q L me i → Q o n c
requested_by Q L me _ _ _ _ k (told n (command.Insert f copies b)) h = h
requested_by Q L me _ _ _ _ k (told n (command.Fetch f)) h = h
requested_by Q L me _ _ _ _ k (told n (command.Reclaim f)) h = h
requested_by Q L me _ _ _ _ k (told n (command.Lookup key)) h = absurd k
requested_by Q L me _ _ _ _ k (told n (command.Join via)) h = absurd k
requested_by Q L me _ _ _ _ k (told n command.GiveUp) h = absurd k
requested_by Q L me _ _ _ _ k (lookup_came from o n key hops) h = absurd k
requested_by Q L me _ _ _ _ k (insert_came from o n hops f copies b) h = h
requested_by Q L me _ _ _ _ k (fetch_came from o n hops f) h = h
requested_by Q L me _ _ _ _ k (reclaim_came from o n hops f) h = h

-- the entries so far and this one are of commands as they can be said
pub all_said : (g : Setting) (w : World) (e : Entry) (x : Id) (i : Input) → Each (λ (d : Entry). IsSaidBy d.event) w.past → Takes g w e x i →
    Each (λ (d : Entry). IsSaidBy d.event) (w.past ++ e ∷ [])
all_said g w e x i h t = Each-append (λ (d : Entry). IsSaidBy d.event) w.past (e ∷ []) h (t.said, tt)

pub said_of : (w : World) (o : Id) (n : Number) (c : NodeCommand) → Each (λ (d : Entry). IsSaidBy d.event) w.past → WasCommanded w o n c → IsSaid c
said_of w o n c h was = subst IsSaidBy was.2 (Each-contains (λ (d : Entry). IsSaidBy d.event) w.past was.0 h was.1)

pub was_requested : (g : Setting) (w : World) (e : Entry) (x : Id) (i : Input) → AllHold g w → Takes g w e x i → (o : Id) (n : Number) (c : NodeCommand) →
    IsOfFiles c → Requests (w.states x).me i o n c →
    WasCommanded (after_step w e x i) o n c
was_requested g w e x i h t o n c k q =
    requested_by (WasCommanded v) (OnTheWay g v) (w.states x).me i o n c k q
    (subst (λ y. InputCarries (WasCommanded v) (OnTheWay g v) y i) (sym (h.joins.messages.me x))
    (input_carries g w e x i h.requests t (step (w.states x) i).state (later g w e x i))) where
      v : World
      v = after_step w e x i

-- ---- a file that is served here

-- x owns the file, and covers its key
pub record Served (w : World) (x : Id) (f : FileId) : Type 0 where
  pub bound : key_of f < 2 ^ 128
  pub covers : Covers (w.states x) (key_of f)
  pub closest : IsClosest (ReadyIn w.states) (key_of f) x

pub to_ready : (g : Setting) (w : World) (key : Key) (x : Id) → MessagesHold g w → IsClosest (IsReadyIn g w) key x → IsClosest (ReadyIn w.states) key x
to_ready g w key x h c = record { member = c.member.1; nearest = λ z r ne. c.nearest z (h.nodes z r, r) ne }

pub from_ready : (g : Setting) (w : World) (key : Key) (x : Id) → MessagesHold g w → IsClosest (ReadyIn w.states) key x → IsClosest (IsReadyIn g w) key x
from_ready g w key x h c = record { member = (h.nodes x c.member, c.member); nearest = λ z r ne. c.nearest z r.1 ne }

pub served : (g : Setting) (w : World) (x : Id) (f : FileId) → IsSetting g → JoinsHold g w → Contains g.nodes x → key_of f < 2 ^ 128 →
    way_of (w.states x) (key_of f) ≡ way.Here → Served w x f
served g w x f set h member hk e =
    let c = here_covers g w x (key_of f) set h.messages member hk (w.states x).phase refl e in
    record { bound = hk; covers = c; closest = to_ready g w (key_of f) x h.messages (covers_right g w x (key_of f) h hk c) }

-- ---- what is noted of each file

-- s is the state that the step leads to, ns the notes before it and ms its own
pub data NotedOf (w : World) (x : Id) (s : State) (ns ms : List Note) (f : FileId) : Type 0 where
  unnoted : SaysNothing f ms → NotedOf w x s ns ms f
  acceptance : (b : Content) → Served w x f → slot_of s.files f ≡ Some (Some b) → accepted_in f ns ≡ None → table_of (ns ++ ms) f ≡ Keeps b →
      acceptances f ms ≡ 1 → reclaims f ms ≡ 0 →
      NotedOf w x s ns ms f
  reclaim : (b : Content) → Served w x f → slot_of s.files f ≡ Some None → table_of ns f ≡ Keeps b → table_of (ns ++ ms) f ≡ Gone → acceptances f ms ≡ 0 →
      reclaims f ms ≡ 1 →
      NotedOf w x s ns ms f

-- what the owner has no entry for is not in the table
pub absent_nowhere : (w : World) (x : Id) (ns : List Note) (f : FileId) → FilesIn w.states ns → Served w x f → slot_of (w.states x).files f ≡ None →
    accepted_in f ns ≡ None
absent_nowhere w x ns f k v none = by (table_cases f ns) where
  by : TableCases f ns → accepted_in f ns ≡ None
  by (nowhere e) = nowhere_parts f ns e
  by (keeps b e) = let s : slot_of (w.states x).files f ≡ Some (Some b) =
      subst (λ t. Stands t (slot_of (w.states x).files f)) e (k.owners x f v.bound v.closest) in cc
  by (gone e) = let s : slot_of (w.states x).files f ≡ Some None = subst (λ t. Stands t (slot_of (w.states x).files f)) e (k.owners x f v.bound v.closest) in cc

-- what the owner holds is what the table keeps
pub held_kept : (w : World) (x : Id) (ns : List Note) (f : FileId) (b : Content) → FilesIn w.states ns → Served w x f →
    slot_of (w.states x).files f ≡ Some (Some b) → table_of ns f ≡ Keeps b
held_kept w x ns f b k v at = by (table_cases f ns) where
  accepted : accepted_in f ns ≡ Some b
  accepted = Each-slot (RightEntry ns) (w.states x).files f (Some b) (k.entries x) at

  by : TableCases f ns → table_of ns f ≡ Keeps b
  by (nowhere e) = let none = nowhere_parts f ns e in let some = accepted in cc
  by (keeps c e) =
      let s : slot_of (w.states x).files f ≡ Some (Some c) = subst (λ t. Stands t (slot_of (w.states x).files f)) e (k.owners x f v.bound v.closest) in
      let same : c ≡ b = cc in e ∙ ap Keeps same
  by (gone e) = let s : slot_of (w.states x).files f ≡ Some None = subst (λ t. Stands t (slot_of (w.states x).files f)) e (k.owners x f v.bound v.closest) in cc

unreclaimed : (states : Id → State) (ns : List Note) (f : FileId) → FilesIn states ns → accepted_in f ns ≡ None → is_reclaimed f ns ≡ false
unreclaimed states ns f k none = elim (cases_Bool (is_reclaimed f ns)) [ inl e ↦ let some = (k.reclaimed f e).1 in cc | inr e ↦ e ]

accepted_noted : (w : World) (x : Id) (s : State) (ns : List Note) (f : FileId) (b : Content) (rest : List Note) → FilesIn w.states ns → Served w x f →
    slot_of (w.states x).files f ≡ None →
    s.files ≡ with_slot (w.states x).files f (Some b) → AllQuiet rest → NotedOf w x s ns (note.Accepted f b ∷ rest) f
accepted_noted w x s ns f b rest k v none is q =
    let absent = absent_nowhere w x ns f k v none in
    let counts = acceptance_once f b rest q in
    acceptance b v (ap (λ hs. slot_of hs f) is ∙ slot-itself (w.states x).files f (Some b)) absent
    (from_keeps f b (ns ++ note.Accepted f b ∷ rest)
    (record { accepted = accepted-new f b ns rest absent; unreclaimed = acceptance-unreclaimed f b ns rest q ∙ unreclaimed w.states ns f k absent }))
    counts.0 counts.1

reclaimed_noted : (w : World) (x : Id) (s : State) (ns : List Note) (f : FileId) (b : Content) (rest : List Note) → FilesIn w.states ns → Served w x f →
    slot_of (w.states x).files f ≡ Some (Some b) →
    s.files ≡ with_slot (w.states x).files f None → AllQuiet rest → NotedOf w x s ns (note.Reclaimed f ∷ rest) f
reclaimed_noted w x s ns f b rest k v at is q =
    let kept = held_kept w x ns f b k v at in
    let counts = reclaim_once f rest q in
    reclaim b v (ap (λ hs. slot_of hs f) is ∙ slot-itself (w.states x).files f None) kept
    (from_gone f (ns ++ note.Reclaimed f ∷ rest)
    (record { bytes = b; accepted = reclaim-accepted f ns rest q ∙ (keeps_parts f b ns kept).accepted; reclaimed = reclaimed-new f ns rest })) counts.0
    counts.1

-- the file of a request that is served here
pub request_served : (g : Setting) (w : World) (e : Entry) (x : Id) (i : Input) → IsSetting g → AllHold g w → FilesHold g w → Takes g w e x i →
    (from : Id) (n : Number) (c : NodeCommand) (f : FileId) → IsOfFiles c →
    Requests (w.states x).me i from n c → (IsSaid c → key_of f < 2 ^ 128) → way_of (w.states x) (key_of f) ≡ way.Here → Served w x f
request_served g w e x i set h k t from n c f of q bounded here =
    served g w x f set h.joins t.member
    (bounded (said_of (after_step w e x i) from n c (all_said g w e x i k.said t) (was_requested g w e x i h t from n c of q))) here

pub noted : (g : Setting) (w : World) (e : Entry) (x : Id) (i : Input) (o : Outcome) → IsSetting g → AllHold g w → FilesHold g w → Takes g w e x i →
    FileRule (w.states x) i o → (f : FileId) →
    NotedOf w x o.state (notes_in w.past) o.notes f
noted g w e x i o set h k t r f = by r refl refl refl where
  ns : List Note
  ns = notes_in w.past

  by : {s : State} {j : Input} {u : Outcome} → FileRule s j u → s ≡ w.states x → j ≡ i → u ≡ o → NotedOf w x o.state ns o.notes f
  by (same s j u d q) is at out = unnoted (quiet_nothing f o.notes (subst (λ (z : Outcome). AllQuiet z.notes) out q))
  by (accepts s j u from n a copies b rest req here none room d noted' q) is at out = elim (cases_bytes f a) [
    | inl eq ↦
        subst (λ c. NotedOf w x o.state ns o.notes c) (sym eq)
        (subst (λ ms. NotedOf w x o.state ns ms a) (sym (ap (λ (z : Outcome). z.notes) (sym out) ∙ noted'))
        (accepted_noted w x o.state ns a b rest k.files v (subst (λ (z : State). slot_of z.files a ≡ None) is none)
        (ap (λ (z : Outcome). z.state.files) (sym out) ∙ (d ∙ ap (λ (z : State). with_slot z.files a (Some b)) is)) q))
    | inr ne ↦ unnoted (subst (SaysNothing f) (sym (ap (λ (z : Outcome). z.notes) (sym out) ∙ noted')) (acceptance_other f a b rest ne q))
  ] where
    v : Served w x a
    v = request_served g w e x i set h k t from n (command.Insert a copies b) a tt
        (subst (λ z. Requests (w.states x).me z from n (command.Insert a copies b)) at
        (subst (λ (z : State). Requests z.me j from n (command.Insert a copies b)) is req)) (λ said. key_bound a said.0)
        (subst (λ z. way_of z (key_of a) ≡ way.Here) is here)
  by (reclaims_rule s j u from n a b rest req here held' d noted' q) is at out = elim (cases_bytes f a) [
    | inl eq ↦
        subst (λ c. NotedOf w x o.state ns o.notes c) (sym eq)
        (subst (λ ms. NotedOf w x o.state ns ms a) (sym (ap (λ (z : Outcome). z.notes) (sym out) ∙ noted'))
        (reclaimed_noted w x o.state ns a b rest k.files v (subst (λ (z : State). slot_of z.files a ≡ Some (Some b)) is held')
        (ap (λ (z : Outcome). z.state.files) (sym out) ∙ (d ∙ ap (λ (z : State). with_slot z.files a None) is)) q))
    | inr ne ↦ unnoted (subst (SaysNothing f) (sym (ap (λ (z : Outcome). z.notes) (sym out) ∙ noted')) (reclaim_other f a rest ne q))
  ] where
    v : Served w x a
    v = request_served g w e x i set h k t from n (command.Reclaim a) a tt (subst (λ z. Requests (w.states x).me z from n (command.Reclaim a)) at
        (subst (λ (z : State). Requests z.me j from n (command.Reclaim a)) is req)) (λ said. key_bound a said)
        (subst (λ z. way_of z (key_of a) ≡ way.Here) is here)
  by (puts s j u a b c none room d q) is at out = unnoted (quiet_nothing f o.notes (subst (λ (z : Outcome). AllQuiet z.notes) out q))
  by (buries s u from a manifest tombs d q) is at out = unnoted (quiet_nothing f o.notes (subst (λ (z : Outcome). AllQuiet z.notes) out q))

-- ---- what the node holds

pub rule_lasts : (s : State) (i : Input) (o : Outcome) → FileRule s i o → Lasts s.files o.state.files
rule_lasts _ _ _ (same s i o d q) = Lasts-same s.files o.state.files d
rule_lasts _ _ _ (accepts s i o from n f copies b rest req here none room d noted' q) = subst (Lasts s.files) (sym d) (Lasts-put s.files f (Some b) none)
rule_lasts _ _ _ (reclaims_rule s i o from n f b rest req here held' d noted' q) = subst (Lasts s.files) (sym d) (Lasts-tomb s.files f)
rule_lasts _ _ _ (puts s i o f b c none room d q) = subst (Lasts s.files) (sym d) (Lasts-put s.files f (Some b) none)
rule_lasts _ _ _ (buries s o from a manifest tombs d q) = subst (Lasts s.files) (sym d) (Lasts-buried_all s.files tombs)

-- what an input brings is right
abbrev InputRight : List Note → Input → Type 0
InputRight ns (Comes from m) = MessageRight ns m
InputRight ns (Command n c) = Unit {0}
InputRight ns Noise = Unit {0}

input_right : (g : Setting) (w : World) (v : Event) (x : Id) (i : Input) → FilesHold g w → Arrives w v x i → InputRight (notes_in w.past) i
input_right g w _ _ _ k (commanded x n c f) = tt
input_right g w _ _ _ k (noised x) = tt
input_right g w _ _ _ k (delivered m u f) = (Each-slice_get (IsFiled w.states (notes_in w.past)) (sent_in w.past) m u k.sent f).right

carries_right : (ns : List Note) (i : Input) (f : FileId) (b : Content) → Carries i f b → InputRight ns i → accepted_in f ns ≡ Some b
carries_right ns _ _ _ (handed from f b) h = h
carries_right ns _ _ _ (copied from o n f b) h = h

grant_right : (ns : List Note) (from : Id) (a : Attempt) (manifest tombs : List FileId) (i : Input) → Comes from (Grant a manifest tombs) ≡ i →
    InputRight ns i → AllGone ns tombs
grant_right ns from a manifest tombs i e h = subst (InputRight ns) (sym e) h

-- the entry that is written
written_right : (w : World) (x : Id) (s : State) (ns ms : List Note) (f : FileId) (slot : Slot) → slot_of s.files f ≡ Some slot →
    (SaysNothing f ms → RightSlot (ns ++ ms) f slot) → NotedOf w x s ns ms f →
    RightSlot (ns ++ ms) f slot
written_right w x s ns ms f slot at f' (unnoted q) = f' q
written_right w x s ns ms f slot at f' (acceptance b v now none kept one no') =
    let is : Some b ≡ slot = cc in subst (RightSlot (ns ++ ms) f) is (keeps_parts f b (ns ++ ms) kept).accepted
written_right w x s ns ms f slot at f' (reclaim b v now was gone' no' one) = let is : None ≡ slot = cc in subst (RightSlot (ns ++ ms) f) is gone'

first_noted : (f : FileId) (b : Content) (rest ms : List Note) → ms ≡ note.Accepted f b ∷ rest → AllQuiet rest → SaysNothing f ms → ⊥
first_noted f b rest ms is q none' = let zero = none'.acceptances_none in let one = ap (acceptances f) is ∙ (acceptance_once f b rest q).0 in cc

first_reclaimed : (f : FileId) (rest ms : List Note) → ms ≡ note.Reclaimed f ∷ rest → AllQuiet rest → SaysNothing f ms → ⊥
first_reclaimed f rest ms is q none' = let zero = none'.reclaims_none in let one = ap (reclaims f) is ∙ (reclaim_once f rest q).1 in cc

-- all that x holds afterwards
pub entries_right : (g : Setting) (w : World) (e : Entry) (x : Id) (i : Input) (o : Outcome) → FilesHold g w → Takes g w e x i → FileRule (w.states x) i o →
    ((f : FileId) → NotedOf w x o.state (notes_in w.past) o.notes f) → Each (RightEntry (notes_in w.past ++ o.notes)) o.state.files
entries_right g w e x i o k t r n = by r refl refl refl where
  ns : List Note
  ns = notes_in w.past

  P : Held → Type 0
  P = RightEntry (ns ++ o.notes)

  old : Each P (w.states x).files
  old = entries-more ns o.notes (w.states x).files (k.files.entries x)

  by : {s : State} {j : Input} {u : Outcome} → FileRule s j u → s ≡ w.states x → j ≡ i → u ≡ o → Each P o.state.files
  by (same s j u d q) is at out = subst (Each P) (ap (λ (z : State). z.files) (sym is) ∙ (sym d ∙ ap (λ (z : Outcome). z.state.files) out)) old
  by (accepts s j u from m f copies b rest req here none room d noted' q) is at out =
      let files : with_slot (w.states x).files f (Some b) ≡ o.state.files =
      ap (λ (z : State). with_slot z.files f (Some b)) (sym is) ∙ (sym d ∙ ap (λ (z : Outcome). z.state.files) out) in
      let now : slot_of o.state.files f ≡ Some (Some b) = ap (λ hs. slot_of hs f) (sym files) ∙ slot-itself (w.states x).files f (Some b) in
      subst (Each P) files (Each-with_slot P (w.states x).files f (Some b)
      (written_right w x o.state ns o.notes f (Some b) now
      (λ none'. absurd (first_noted f b rest o.notes (ap (λ (z : Outcome). z.notes) (sym out) ∙ noted') q none')) (n f)) old)
  by (reclaims_rule s j u from m f b rest req here held' d noted' q) is at out =
      let files : with_slot (w.states x).files f None ≡ o.state.files =
      ap (λ (z : State). with_slot z.files f None) (sym is) ∙ (sym d ∙ ap (λ (z : Outcome). z.state.files) out) in
      let now : slot_of o.state.files f ≡ Some None = ap (λ hs. slot_of hs f) (sym files) ∙ slot-itself (w.states x).files f None in
      subst (Each P) files (Each-with_slot P (w.states x).files f None
      (written_right w x o.state ns o.notes f None now
      (λ none'. absurd (first_reclaimed f rest o.notes (ap (λ (z : Outcome). z.notes) (sym out) ∙ noted') q none')) (n f)) old)
  by (puts s j u f b c none room d q) is at out =
      let files : with_slot (w.states x).files f (Some b) ≡ o.state.files =
      ap (λ (z : State). with_slot z.files f (Some b)) (sym is) ∙ (sym d ∙ ap (λ (z : Outcome). z.state.files) out) in
      subst (Each P) files (Each-with_slot P (w.states x).files f (Some b)
      (accepted-more f b ns o.notes (carries_right ns i f b (subst (λ z. Carries z f b) at c) (input_right g w e.event x i k t.arrives))) old)
  by (buries s u from a manifest tombs d q) is at out =
      let files : buried_all (w.states x).files tombs ≡ o.state.files =
      ap (λ (z : State). buried_all z.files tombs) (sym is) ∙ (sym d ∙ ap (λ (z : Outcome). z.state.files) out) in
      subst (Each P) files (Each-buried_all P (w.states x).files tombs
      (all_gone-more ns o.notes tombs (grant_right ns from a manifest tombs i at (input_right g w e.event x i k t.arrives))) old)
