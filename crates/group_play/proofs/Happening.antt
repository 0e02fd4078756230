-- A play to which one more event happened.
use Rattle.std.proofs.Common.{◌≡◌, ◌<◌, ◌≤◌, ◌+◌, ℕ, zero, suc, nat_lt, cond, Bool, true, false, Option, Some, None, List, [], ◌∷◌, ◌++◌, map, length}
use Rattle.std.proofs.Common.{refl, sym, ap, subst, ◌∙◌, arith, Contains, drop, get_or}
use Rattle.std.proofs.lemmas.List.{drop_more}
use Rattle.std.proofs.lemmas.Bool.Decides.{nat_tests}
use Rattle.std.proofs.lemmas.List.Elements.{All-push, All-weaker}
use Rattle.overlay_rules.specs.Record.{Setting, World}
use Rattle.ring_math.specs.Names.{Id, Number}
use Rattle.scribe_core.specs.declared.action.GroupAction.{GroupAction}
use Rattle.scribe_core.specs.declared.action.GroupWhat.{GroupWhat}
use Rattle.scribe_core.specs.declared.action.GroupWhat.TheVariants as what
use Rattle.scribe_core.specs.Entry.{GroupEntry, Written}
use Rattle.scribe_core.specs.declared.entry.GroupEvent.{GroupEvent}
use Rattle.scribe_core.specs.declared.entry.GroupEvent.TheVariants as event
use Rattle.scribe_core.specs.Actions.{AreActionsFrom, MayFollow, counted}
use Rattle.scribe_core.specs.Laws.{groups_in}
use Rattle.scribe_core.specs.Parts.{GroupName}
use Rattle.scribe_core.specs.Played.{acted, acted_all, delivered_oldest, delivered_once, entry_at, happened, oldest_undelivered, settled}
use Rattle.scribe_core.specs.Played.{undelivered_from, was_delivered}
use Rattle.scribe_core.specs.Record.{Groups, Visit, Follows, IsFresh, IsFreshAfter, IsGroupRecord, LegalFrom, after, no_groups, part_at, parts_after, run}
use Rattle.scribe_core.specs.Record.{sent_from, sent_in, step_at, visit}
use Rattle.scribe_core.proofs.Kept.{past_of_run, run_push}
use Rattle.world_model.specs.Recorded.{Recorded, setting_of, world_of}
use Rattle.group_play.specs.declared.play.Play.{Play}
use Rattle.group_play.specs.Messages.{ListsMessages}
use Rattle.group_play.specs.Playing.{CanAct, IsNewest, IsNumberedBelow, IsPlay}
use Rattle.group_play.specs.Seats.{AreSeats, ShowParts, StepsTo}

-- ---- one entry more

legal_push : (g : Setting) (overlay : World) (w : Groups) (es : List GroupEntry) (e : GroupEntry) → LegalFrom g overlay w es →
    Follows g overlay (run overlay w es) e → LegalFrom g overlay w (es ++ e ∷ [])
legal_push g overlay w [] e l f = (f, tt)
legal_push g overlay w (d ∷ es) e l f = (l.0, legal_push g overlay (after overlay w d) es e l.1 f)

past_of : (overlay : World) (es : List GroupEntry) → (groups_in overlay es).past ≡ es
past_of overlay es = past_of_run overlay no_groups es

-- where nothing was said before
said_now : {A : Type 0} (before more now : List A) → now ≡ before ++ more → before ≡ [] → now ≡ more
said_now before more now is none = is ∙ ap (λ xs. xs ++ more) none

abbrev pub entry_said : GroupEvent → Written → GroupEntry
entry_said v said = record { event = v; messages = said.messages; notes = said.notes }

module _ (r : Recorded) (a b : Play) (v : GroupEvent) (at : Visit) (said : Written) (h : IsPlay r a) (comes : visit (sent_in a.writer.entries) v ≡ Some at)
    (steps : StepsTo (world_of r) b.seats (groups_in (world_of r) a.writer.entries).parts at a.writer said)
    (closes : b.writer.entries ≡ said.entries ++ entry_said v said ∷ []) where
  abbrev under : World
  under = world_of r

  abbrev w : Groups
  w = groups_in under a.writer.entries

  there : visit (sent_in w.past) v ≡ Some at
  there = ap (λ past. visit (sent_in past) v) (past_of under a.writer.entries) ∙ comes

  more : b.writer.entries ≡ a.writer.entries ++ entry_said v said ∷ []
  more = closes ∙ ap (λ (es : List GroupEntry). es ++ entry_said v said ∷ []) steps.entries

  sent_now : said.messages ≡ map (sent_from at.node at.group) (step_at under w at).sends
  sent_now = said_now a.writer.messages _ said.messages steps.messages h.nothing_sent

  noted_now : said.notes ≡ (step_at under w at).notes
  noted_now = said_now a.writer.notes _ said.notes steps.notes h.nothing_noted

  is_due : entry_said v said ≡ entry_at under a.writer.entries v (visit (sent_in a.writer.entries) v)
  is_due =
      ap (λ ms. record { event = v; messages = ms; notes = said.notes }) sent_now
      ∙ ap (λ ns. record { event = v; messages = map (sent_from at.node at.group) (step_at under w at).sends; notes = ns }) noted_now
      ∙ ap (entry_at under a.writer.entries v) (sym comes)

  -- the record is the one in which the event happened
  pub is_happened : b.writer.entries ≡ happened under a.writer.entries v
  is_happened = more ∙ ap (λ d. a.writer.entries ++ d ∷ []) is_due

  parts_now : (groups_in under b.writer.entries).parts ≡ part_at w.parts at.node at.group (step_at under w at).part
  parts_now =
      ap (λ es. (groups_in under es).parts) more ∙ ap (λ (q : Groups). q.parts) (run_push under no_groups a.writer.entries (entry_said v said))
      ∙ ap (parts_after under w) there

  follows : Contains r.nodes at.node → IsFresh a.writer.entries v → Follows (setting_of r) under w (entry_said v said)
  follows member fresh = record {
    at = at;
    is_at = there;
    member = member;
    fresh = subst (λ past. IsFresh past v) (sym (past_of under a.writer.entries)) fresh;
    messages = sent_now;
    notes = noted_now;
  }

  pub still_plays : Contains r.nodes at.node → IsFresh a.writer.entries v → AreSeats b.seats → ListsMessages b.messages b.writer.entries →
      b.writer.messages ≡ [] → b.writer.notes ≡ [] → IsPlay r b
  still_plays member fresh seats messages nothing_sent nothing_noted = record {
    seats = seats;
    parts = subst (ShowParts b.seats) (sym parts_now) steps.shown;
    messages = messages;
    legal = subst (IsGroupRecord (setting_of r) under) (sym more)
        (legal_push (setting_of r) under no_groups a.writer.entries (entry_said v said) h.legal (follows member fresh));
    nothing_sent = nothing_sent;
    nothing_noted = nothing_noted;
  }

-- ---- numbers

-- the newest number is no other command's
pub fresh_newest : (es : List GroupEntry) (x : Id) (n : Number) (name : GroupName) (c : _) → IsNewest n es → IsFresh es (event.Command x n name c)
fresh_newest es x n name c h =
    All-weaker (λ (e : GroupEntry). IsNumberedBelow n e.event) (λ (e : GroupEntry). IsFreshAfter x n e.event) (λ e. one e.event) es h where
      one : (v : GroupEvent) → IsNumberedBelow n v → IsFreshAfter x n v
      one (event.Command y m other d) l = ((λ e. absurd (omega (arith, e, l))), λ e. l)
      one (event.Deliver m) l = tt

below_more : (n m : ℕ) (v : GroupEvent) → n < m → IsNumberedBelow n v → IsNumberedBelow m v
below_more n m (event.Command x k name c) lt h = omega arith
below_more n m (event.Deliver k) lt h = tt

newest_more : (n m : ℕ) (es : List GroupEntry) → n < m → IsNewest n es → IsNewest m es
newest_more n m es lt h =
    All-weaker (λ (e : GroupEntry). IsNumberedBelow n e.event) (λ (e : GroupEntry). IsNumberedBelow m e.event) (λ e. below_more n m e.event lt) es h

newest_push : (n : ℕ) (overlay : World) (es : List GroupEntry) (v : GroupEvent) → IsNewest n es → IsNumberedBelow n v → IsNewest n (happened overlay es v)
newest_push n overlay es v h below =
    All-push (λ (e : GroupEntry). IsNumberedBelow n e.event) es (entry_at overlay es v (visit (sent_in es) v)) h
    (subst (IsNumberedBelow n) (sym (event_of (visit (sent_in es) v))) below) where
      event_of : (o : Option Visit) → (entry_at overlay es v o).event ≡ v
      event_of None = refl
      event_of (Some at) = refl

newest_settled : (n : ℕ) (overlay : World) (count : ℕ) (es : List GroupEntry) → IsNewest n es → IsNewest n (settled overlay count es)
newest_settled n overlay zero es h = h
newest_settled n overlay (suc count) es h =
    newest_settled n overlay count (delivered_oldest overlay (oldest_undelivered es) es) (one (oldest_undelivered es)) where
      one : (o : Option ℕ) → IsNewest n (delivered_oldest overlay o es)
      one None = h
      one (Some m) = newest_push n overlay es (event.Deliver m) h tt

newest_once : (n : ℕ) (overlay : World) (m : ℕ) (es : List GroupEntry) → IsNewest n es → IsNewest n (delivered_once overlay m es)
newest_once n overlay m es h = by_test (nat_lt m (length (sent_in es))) where
  by_test : (t : Bool) → IsNewest n (cond t (happened overlay es (event.Deliver m)) es)
  by_test true = newest_push n overlay es (event.Deliver m) h tt
  by_test false = h

-- ---- settles

-- where nothing waits, a settle does nothing
pub settled_idle : (overlay : World) (n : ℕ) (es : List GroupEntry) → oldest_undelivered es ≡ None → settled overlay n es ≡ es
settled_idle overlay zero es h = refl
settled_idle overlay (suc n) es h = ap (λ o. settled overlay n (delivered_oldest overlay o es)) h ∙ settled_idle overlay n es h

pub settled_next : (overlay : World) (n m : ℕ) (es : List GroupEntry) → oldest_undelivered es ≡ Some m →
    settled overlay (suc n) es ≡ settled overlay n (happened overlay es (event.Deliver m))
settled_next overlay n m es h = ap (λ o. settled overlay n (delivered_oldest overlay o es)) h

undelivered_below : (es : List GroupEntry) (k n m : ℕ) → undelivered_from es k n ≡ Some m → m < k + n
undelivered_below es k zero m h = cc
undelivered_below es k (suc n) m h = here (was_delivered es k) (λ e. undelivered_below es (suc k) n m e) h where
  here : (b : Bool) → (undelivered_from es (suc k) n ≡ Some m → m < suc k + n) → cond b (undelivered_from es (suc k) n) (Some k) ≡ Some m → m < k + suc n
  here true later e = let below = later e in omega arith
  here false later e = let same : k ≡ m = cc in omega arith

-- the oldest undelivered message was sent
pub oldest_was_sent : (es : List GroupEntry) (m : ℕ) → oldest_undelivered es ≡ Some m → m < length (sent_in es)
oldest_was_sent es m h = let below = undelivered_below es 0 (length (sent_in es)) m h in omega arith

pub once_is : (overlay : World) (m : ℕ) (es : List GroupEntry) → m < length (sent_in es) → delivered_once overlay m es ≡ happened overlay es (event.Deliver m)
once_is overlay m es lt = let yes : nat_lt m (length (sent_in es)) ≡ true = grind (arith, nat_tests) in rw yes refl

pub once_not : (overlay : World) (m : ℕ) (es : List GroupEntry) → length (sent_in es) ≤ m → delivered_once overlay m es ≡ es
once_not overlay m es le = let no : nat_lt m (length (sent_in es)) ≡ false = grind (arith, nat_tests) in rw no refl

-- ---- how far actions are played

-- these actions are left, and lead on to the record of all
pub record IsPlayedTo (r : Recorded) (all left : List GroupAction) (es : List GroupEntry) : Type 0 where
  pub commands : ℕ
  pub may : AreActionsFrom r.nodes commands left
  pub newest : IsNewest (commands + 1) es
  pub ends : acted_all (world_of r) left es ≡ acted_all (world_of r) all []

pub played_at_start : (r : Recorded) (all : List GroupAction) (es : List GroupEntry) → AreActionsFrom r.nodes 0 all → es ≡ [] → IsPlayedTo r all all es
played_at_start r all es may none =
    subst (IsPlayedTo r all all) (sym none) (record { commands = 0; may = may; newest = λ k d l. absurd (omega arith); ends = refl })

-- the next action is the first of those that are left
pub played_here : (r : Recorded) (all : List GroupAction) (es : List GroupEntry) (i : ℕ) (a : GroupAction) → i < length all → a ≡ get_or all i a →
    IsPlayedTo r all (drop i all) es → IsPlayedTo r all (a ∷ drop (i + 1) all) es
played_here r all es i a lt is h =
    subst (λ (rest : List GroupAction). IsPlayedTo r all rest es)
    (drop_more all i a lt ∙ ap (λ (b : GroupAction). b ∷ drop (i + 1) all) (sym is)) h

pub can_act : (r : Recorded) (all left : List GroupAction) (a : GroupAction) (es : List GroupEntry) → IsPlayedTo r all (a ∷ left) es →
    CanAct r.nodes es a.what
can_act r all left a es h = by_what a.what h.may.0 where
  by_what : (w : GroupWhat) → MayFollow r.nodes h.commands w → CanAct r.nodes es w
  by_what (what.Command n x name c) m = (m.1, subst (λ k. IsNewest k es) (sym m.0) h.newest)
  by_what (what.Settle n) m = tt
  by_what (what.Deliver n) m = tt

pub played_next : (r : Recorded) (all left : List GroupAction) (a : GroupAction) (es : List GroupEntry) → IsPlayedTo r all (a ∷ left) es →
    IsPlayedTo r all left (acted (world_of r) a.what es)
played_next r all left a es h = record {
  commands = counted h.commands a.what;
  may = h.may.1;
  newest = by_what a.what h.may.0;
  ends = h.ends;
} where
  by_what : (w : GroupWhat) → MayFollow r.nodes h.commands w → IsNewest (counted h.commands w + 1) (acted (world_of r) w es)
  by_what (what.Command n x name c) m =
      newest_push (h.commands + 1 + 1) (world_of r) es (event.Command x n name c)
      (newest_more (h.commands + 1) (h.commands + 1 + 1) es (omega arith) h.newest) (let is = m.0 in omega arith)
  by_what (what.Settle n) m = newest_settled (h.commands + 1) (world_of r) n es h.newest
  by_what (what.Deliver n) m = newest_once (h.commands + 1) (world_of r) n es h.newest
