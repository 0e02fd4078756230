-- Turns that were taken one after another lead to the end of the play.
use Rattle.std.proofs.Common.{◌≡◌, ◌<◌, ℕ, Option, Some, None, List, [], length, refl, sym, subst, ap, ◌∙◌}
use Rattle.ring_math.specs.Names.{FileId, Content}
use Rattle.overlay_rules.specs.declared.entry.Entry.{Entry}
use Rattle.overlay_rules.specs.Played.{Action as Act, oldest_undelivered}
use Rattle.overlay_rules.specs.Record.{sent_in}
use Rattle.scenario_reader.specs.Plain.{PlainScenario, ids}
use Rattle.schedule.specs.Schedule.{acts_of}
use Rattle.schedule.specs.Turns.{Ends, Turned}
use Rattle.schedule.proofs.Ending.{work, turns_end}
use Rattle.world_model.specs.Recorded.{world_of}
use Rattle.play_engine.specs.Advance.{next_turn}
use Rattle.play_engine.specs.Progress.{left_in, progress_at_start}
use Rattle.play_engine.proofs.Going.{past_of}
use Rattle.fetch_cache.specs.declared.fetch.Fetch.{Fetch}
use Rattle.fetch_cache.specs.declared.hit.Hit.{Hit}
use Rattle.fetch_cache.specs.Points.{points_at_start, remembered}
use Rattle.fetch_cache.specs.Turns.{PointPlay, fetch_in, fetches_of, point_turn, turn_by, answered_turn}
use Rattle.fetch_cache.specs.Going.{PointProgress, point_play_in, TakesTurn}
use Rattle.fetch_cache.specs.Run.{LeadsTo, AtEnd, Onward, start_of, IsPointRun}

-- a scenario's play has come so far: what leads from here to an end leads there from the start
pub record HasCome (s : PlainScenario) (room : ℕ) (a : PointProgress) : Type 0 where
  pub fetches : a.fetches ≡ fetches_of s.actions
  pub leads : (end : PointPlay) → LeadsTo a.fetches end (left_in s a.progress) (point_play_in a) →
      LeadsTo (fetches_of s.actions) end (acts_of s.actions) (start_of s room)

abbrev pub at_start : PlainScenario → ℕ → PointProgress
at_start s room = record { progress = progress_at_start s; points = points_at_start room (ids s.nodes); hits = []; fetches = fetches_of s.actions }

pub come_at_start : (s : PlainScenario) (room : ℕ) (a : PointProgress) → a ≡ at_start s room → HasCome s room a
come_at_start s room a is =
    subst (λ (b : PointProgress). HasCome s room b) (sym is) (record { fetches = refl; leads = λ end leads. leads })

pub come_further : (s : PlainScenario) (room : ℕ) (a b : PointProgress) → HasCome s room a → TakesTurn s a b → HasCome s room b
come_further s room a b h turn = record {
  fetches = turn.fetches ∙ h.fetches;
  leads = λ end leads. h.leads end (Onward (left_in s a.progress) (point_play_in a) turn.some
      (subst (λ fs. LeadsTo fs end (next_turn s a.progress).left (point_turn a.fetches (next_turn s a.progress) (point_play_in a))) turn.fetches
      (subst (λ acts. LeadsTo b.fetches end acts (point_turn a.fetches (next_turn s a.progress) (point_play_in a))) turn.left
      (subst (λ p. LeadsTo b.fetches end (left_in s b.progress) p) turn.play leads))));
}

pub comes_to_end : (s : PlainScenario) (room : ℕ) (a : PointProgress) (es : List Entry) (skipped : ℕ) (hits : List Hit) → HasCome s room a →
    (next_turn s a.progress).step ≡ Ends → es ≡ a.progress.recorded.entries → skipped ≡ a.progress.skipped → hits ≡ a.hits → IsPointRun s room es skipped hits
comes_to_end s room a es skipped hits h ends entries skips same = record {
  end = point_play_in a;
  plays = h.leads (point_play_in a) (AtEnd (left_in s a.progress) (point_play_in a) ends refl);
  entries = entries ∙ sym (past_of a.progress.recorded);
  skips = skips;
  hits_are = same;
}

-- ---- each turn takes one from those that are left

copies_of : (fetches : List (Option FileId)) (t : Turned) (p : PointPlay) → (point_turn fetches t p).play.copies ≡ t.copies
copies_of fetches t p = by (fetch_in t.step)
  where
    found : (fetch : Fetch) (o : Option Content) → (answered_turn fetches t fetch o p).play.copies ≡ t.copies
    found fetch None = refl
    found fetch (Some bytes) = refl

    by : (o : Option Fetch) → (turn_by fetches t o p).play.copies ≡ t.copies
    by None = refl
    by (Some fetch) = found fetch (remembered fetch.node fetch.file p.points)

pub less_left : (s : PlainScenario) (a b : PointProgress) → TakesTurn s a b →
    work b.progress.spot.copies (left_in s b.progress) < work a.progress.spot.copies (left_in s a.progress)
less_left s a b h =
    let copies : b.progress.spot.copies ≡ (next_turn s a.progress).copies =
    ap (λ (p : PointPlay). p.play.copies) h.play ∙ copies_of a.fetches (next_turn s a.progress) (point_play_in a) in
    subst (λ n. work n (left_in s b.progress) < work a.progress.spot.copies (left_in s a.progress)) (sym copies)
    (subst (λ (acts : List Act). work (next_turn s a.progress).copies acts < work a.progress.spot.copies (left_in s a.progress)) (sym h.left)
    (turns_end (left_in s a.progress) a.progress.spot.copies (length (sent_in (world_of a.progress.recorded).past))
    (oldest_undelivered (world_of a.progress.recorded)) h.some))
