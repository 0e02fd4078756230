-- The hits of a play with access points are right: what was found is what was first accepted.
use Rattle.std.proofs.Common.{◌≡◌, ℕ, Option, Some, List, [], ◌∷◌, Contains, take, refl, sym, subst, ap, ◌∙◌, arith}
use Rattle.ring_math.specs.Names.{Id, Number, FileId, Content}
use Rattle.wire_msg.specs.declared.command.Command.{Command as NodeCommand}
use Rattle.wire_msg.specs.declared.command.Command.TheVariants as command
use Rattle.wire_msg.specs.declared.reply.Reply.TheVariants as reply
use Rattle.overlay_rules.specs.declared.entry.Entry.{Entry}
use Rattle.overlay_rules.specs.Played.{Action as Act}
use Rattle.overlay_rules.specs.Record.{Setting, IsRecord}
use Rattle.overlay_rules.specs.Rightly.{NotesAreRight, RightReply}
use Rattle.overlay_rules.specs.Table.{Keeps, accepted_in, notes_in, table}
use Rattle.overlay_rules.proofs.Each.{Each, Each-all, Each-contains, Each-weaker}
use Rattle.scenario_reader.specs.Plain.{PlainScenario, ids}
use Rattle.scenario_reader.specs.Rules.{KeepsRules}
use Rattle.schedule.specs.Schedule.{acts_of, setting_of}
use Rattle.fetch_cache.specs.declared.hit.Hit.{Hit}
use Rattle.fetch_cache.specs.Points.{points_at_start}
use Rattle.fetch_cache.specs.Run.{IsPointRun, start_of}
use Rattle.fetch_cache.specs.Turns.{fetched, fetched_by, fetches_of}
use Rattle.file_laws.specs.Hits.{AreRightHits, FindsAt, IsRight}
use Rattle.file_laws.proofs.Fetched.{scenario_numbered}
use Rattle.file_laws.proofs.Hitting.{Holds, HoldsAtEnd, IsHit, IsListed, Remembers, run_holds}
use Rattle.file_laws.proofs.Told.{IsTold, accepted_whole, in_whole, noted_tells}

-- ---- at the start nothing is remembered

module _ (fetches : List (Option FileId)) (all : List Act) where
  nothing_yet : (room : ℕ) (nodes : List Id) → Each (Remembers fetches all []) (points_at_start room nodes)
  nothing_yet room [] = tt
  nothing_yet room (x ∷ nodes) = (λ pair c. absurd (let inside = c.1 in omega arith), nothing_yet room nodes)

  start_holds : (s : PlainScenario) (room : ℕ) → Holds fetches all 1 (start_of s room)
  start_holds s room = record { past = tt; points = nothing_yet room (ids s.nodes); hits = tt }

-- ---- what was found was accepted

module _ (g : Setting) (es : List Entry) (legal : IsRecord g es) (notes : NotesAreRight g es) (fetches : List (Option FileId)) (all : List Act) (k : ℕ)
    (listed : Each (λ (e : Entry). IsListed fetches all k e.event) es) where
  some_same : {a b : FileId} → Some a ≡ Some b → a ≡ b
  some_same e = cc

  -- a reply Found is to a fetch, of the file that its command's number stands for
  found_of : (n : Number) (y : Id) (file : FileId) (bytes : Content) (t : IsTold g es n (reply.Found y bytes)) → fetched_by fetches n ≡ Some file →
      accepted_in file (notes_in es) ≡ Some bytes
  found_of n y file bytes t is = by t.command refl t.right
    where
      e : Entry
      e = t.commanded.0

      lists : fetched_by fetches n ≡ fetched t.command
      lists =
          (subst (IsListed fetches all k) t.commanded.2
          (Each-contains (λ (d : Entry). IsListed fetches all k d.event) es e listed
          (in_whole es t.upto e (subst (λ past. Contains past e) t.past t.commanded.1)))).1

      by : (c : NodeCommand) → t.command ≡ c → RightReply g es t.moment t.origin n c (reply.Found y bytes) → accepted_in file (notes_in es) ≡ Some bytes
      by (command.Fetch f) same right =
          let file_is : f ≡ file = some_same (sym (lists ∙ ap fetched same) ∙ is) in
          accepted_whole es t.upto file bytes
          (subst (λ h. table (take t.upto es) h ≡ Keeps bytes) file_is (subst (λ past. table past f ≡ Keeps bytes) t.past right.1))
      by (command.Lookup key) same right = absurd right
      by (command.Insert f copies b) same right = absurd right
      by (command.Reclaim f) same right = absurd right
      by (command.Join via) same right = absurd right
      by command.GiveUp same right = absurd right

  accepted : (place : ℕ) (x : Id) (file : FileId) (bytes : Content) → FindsAt fetches es place x file bytes → accepted_in file (notes_in es) ≡ Some bytes
  accepted place x file bytes h =
      found_of h.number h.finder file bytes
      (noted_tells g es legal notes h.number (reply.Found h.finder bytes) (record { place = place; entry = h.entry; there = h.there; has = h.closed }))
      h.fetched

-- of a play with access points
pub hits_right : (s : PlainScenario) (room : ℕ) (es : List Entry) (skipped : ℕ) (hits : List Hit) → KeepsRules s → IsPointRun s room es skipped hits →
    IsRecord (setting_of s) es → NotesAreRight (setting_of s) es → AreRightHits s es hits
hits_right s room es skipped hits rules run legal notes =
    Each-all (IsRight s es) hits
    (Each-weaker (IsHit fetches all es) (IsRight s es) hits (λ hit h. record {
      node = h.node;
      file = h.file;
      fetch = h.fetch;
      place = h.place;
      found = h.found;
      before = h.before;
      accepted = accepted (setting_of s) es legal notes fetches all at_end.upto listed h.place h.node h.file hit.bytes h.found;
    }) found)
  where
    fetches : List (Option FileId)
    fetches = fetches_of s.actions

    all : List Act
    all = acts_of s.actions

    at_end : HoldsAtEnd fetches all run.end
    at_end = run_holds fetches all run.end 1 all (start_of s room) run.plays (scenario_numbered s rules) (start_holds fetches all s room)

    listed : Each (λ (e : Entry). IsListed fetches all at_end.upto e.event) es
    listed = subst (Each (λ (e : Entry). IsListed fetches all at_end.upto e.event)) (sym run.entries) at_end.holds.past

    found : Each (IsHit fetches all es) hits
    found =
        subst (λ hs. Each (IsHit fetches all es) hs) (sym run.hits_are)
        (subst (λ (ds : List Entry). Each (IsHit fetches all ds) run.end.hits) (sym run.entries) at_end.holds.hits)
