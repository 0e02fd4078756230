-- A turn that was taken with access points: the play has come as far as the cursor behind it.
use Rattle.std.proofs.Common.{◌≡◌, ◌≢◌, ◌≤◌, inl, inr, ◌+◌, Bool, true, false, Result, Ok, Err, IfOk, OnOk, Option, Some, None, List, [], ◌∷◌, ◌++◌, refl}
use Rattle.std.proofs.Common.{sym, subst, ap, ◌∙◌, arith}
use Rattle.ring_math.specs.Names.{FileId, Content}
use Rattle.overlay_rules.specs.declared.entry.Entry.{Entry}
use Rattle.overlay_rules.specs.declared.entry.Event.{Event}
use Rattle.overlay_rules.specs.declared.entry.Event.TheVariants as event
use Rattle.overlay_rules.specs.Record.{sent_in, visit}
use Rattle.overlay_rules.specs.Played.{Play, entry_of}
use Rattle.scenario_reader.specs.Plain.{PlainScenario}
use Rattle.scenario_reader.specs.Rules.{KeepsRules}
use Rattle.scenario_reader.specs.Tallies.{start}
use Rattle.schedule.specs.declared.turn.Turn.{Turn}
use Rattle.schedule.specs.declared.turn.Turn.TheVariants as turn
use Rattle.scenario_reader.specs.declared.action.Action.{Action}
use Rattle.schedule.specs.Cursors.{Spot, left_at, step_of, IsAtPlace}
use Rattle.schedule.proofs.Numbered.{event_at}
use Rattle.schedule.specs.Turns.{Step, Happens, Skips, Ends, Turned, skipped_after}
use Rattle.world_model.specs.Recorded.{world_of}
use Rattle.world_model.proofs.Newest.{newest_more}
use Rattle.play_engine.specs.Advance.{next_turn, IsNext, moved_to, progress_after}
use Rattle.play_engine.specs.Coming.{is_some}
use Rattle.play_engine.specs.Progress.{Progress, PlaysOn, play_in, draws, commands_before}
use Rattle.play_engine.proofs.Going.{past_of, plays_on_after, play_goes, skips_after}
use Rattle.play_engine.proofs.Numbers.{commands_rise}
use Rattle.play_engine.proofs.Wholes.{not_ends as turn_not_ends, ends as turn_ends}
use Rattle.fetch_cache.specs.declared.fetch.Fetch.{Fetch}
use Rattle.fetch_cache.specs.Points.{Point, remembered}
use Rattle.fetch_cache.specs.Turns.{PointPlay, fetch_in, point_turn, turn_by, answered_turn, made_turn, hit_turn, told_at, told_step}
use Rattle.fetch_cache.specs.Going.{PointProgress, point_play_in, Hits, IsUnknown, Took, TakesTurn, made_of}

abbrev pub moved : Spot → PointProgress → PointProgress
moved spot a = record a { progress = moved_to spot a.progress }

pub record Goes (s : PlainScenario) (a b : PointProgress) : Type 0 where
  pub on : PlaysOn s b.progress
  pub turn : TakesTurn s a b

-- ---- what a turn comes to

turn_hit : (fetches : List (Option FileId)) (t : Turned) (p : PointPlay) (fetch : Fetch) (bytes : Content) → fetch_in t.step ≡ Some fetch →
    remembered fetch.node fetch.file p.points ≡ Some bytes → point_turn fetches t p ≡ hit_turn t fetch bytes p
turn_hit fetches t p fetch bytes is known =
    ap (λ (o : Option Fetch). turn_by fetches t o p) is ∙ ap (λ (o : Option Content). answered_turn fetches t fetch o p) known

turn_made : (fetches : List (Option FileId)) (t : Turned) (p : PointPlay) → IsUnknown (fetch_in t.step) p.points →
    point_turn fetches t p ≡ made_turn fetches t p
turn_made fetches t p h = by (fetch_in t.step) h
  where
    by : (o : Option Fetch) → IsUnknown o p.points → turn_by fetches t o p ≡ made_turn fetches t p
    by None h = refl
    by (Some fetch) h = ap (λ (o : Option Content). answered_turn fetches t fetch o p) h

-- ---- a hit

pub record IsHappening (step : Step) : Type 0 where
  pub event : Event
  pub is : step ≡ Happens event

fetch_happens : (step : Step) (fetch : Fetch) → fetch_in step ≡ Some fetch → IsHappening step
fetch_happens (Happens v) fetch h = record { event = v; is = refl }
fetch_happens Skips fetch h = cc
fetch_happens Ends fetch h = cc

goes_behind : (old new : Spot) (t : Turn) → IsAtPlace old new t → old.place ≤ new.place
goes_behind old new (turn.Action place) h = let low = h.0 in let next = h.1 in omega arith
goes_behind old new (turn.Deliver m) h = h
goes_behind old new turn.Skip h = h
goes_behind old new turn.Finished h = h

-- an event that is passed over
passed_over : (s : PlainScenario) (a : Progress) (spot : Spot) (t : Turn) (v : Event) → PlaysOn s a → IsNext s a spot t → (next_turn s a).step ≡ Happens v →
    PlaysOn s (moved_to spot a)
passed_over s a spot t v h next is = record {
  nodes = h.nodes;
  founder = h.founder;
  newest =
      let le = goes_behind a.spot spot t next.place in
      let rise = commands_rise start s.actions a.spot.place spot.place le in
      newest_more (commands_before s.actions a.spot.place + 1) (commands_before s.actions spot.place + 1) a.recorded.entries (omega arith) h.newest;
  skips = subst (λ step. skipped_after step a.skipped + draws spot.copies (left_at s.actions spot) ≤ 1000000) is (skips_after s a spot t h next);
}

not_ends : (step : Step) → IsHappening step → step ≢ Ends
not_ends step h ends = let named = sym h.is ∙ ends in cc

pub hit_goes : (s : PlainScenario) (a b : PointProgress) (spot : Spot) (t : Turn) → PlaysOn s a.progress → IsNext s a.progress spot t →
    Hits (next_turn s a.progress).step a b → Goes s a (moved spot b)
hit_goes s a b spot t h next hit =
    let happens = fetch_happens (next_turn s a.progress).step hit.fetch hit.is in
    subst (λ (c : PointProgress). Goes s a (moved spot c)) (sym hit.made)
    (record {
      on = passed_over s a.progress spot t happens.event h next happens.is;
      turn = record {
        some = not_ends (next_turn s a.progress).step happens;
        play =
            ap (λ n. record (hit_turn (next_turn s a.progress) hit.fetch hit.bytes (point_play_in a)) { play = record (play_in a.progress) { copies = n } })
            next.copies ∙
            sym (turn_hit a.fetches (next_turn s a.progress) (point_play_in a) hit.fetch hit.bytes hit.is hit.known);
        left = next.left;
        fetches = refl;
      };
    })

-- ---- any other turn

pub made_goes : (s : PlainScenario) (a b : PointProgress) (spot : Spot) (t : Turn) → KeepsRules s → PlaysOn s a.progress → IsNext s a.progress spot t →
    IsUnknown (fetch_in (next_turn s a.progress).step) a.points → (next_turn s a.progress).step ≢ Ends → b ≡ made_of (next_turn s a.progress).step a →
    Goes s a (moved spot b)
made_goes s a b spot t rules h next unknown some made =
    subst (λ (c : PointProgress). Goes s a (moved spot c)) (sym made)
    (record {
      on = plays_on_after s a.progress spot t rules h next;
      turn = record {
        some = some;
        play =
            ap (λ (p : Play). record {
              play = p;
              points = told_step a.fetches (world_of a.progress.recorded) (next_turn s a.progress).step a.points;
              hits = a.hits;
            })
            (play_goes s a.progress spot t next) ∙ sym (turn_made a.fetches (next_turn s a.progress) (point_play_in a) unknown);
        left = next.left;
        fetches = refl;
      };
    })

-- ---- whichever it was

pub took_goes : (s : PlainScenario) (a b : PointProgress) (spot : Spot) (t : Turn) → KeepsRules s → PlaysOn s a.progress → IsNext s a.progress spot t →
    Took t (next_turn s a.progress).step true a b → Goes s a (moved spot b)
took_goes s a b spot t rules h next (inl hit) = hit_goes s a b spot t h next hit.0
took_goes s a b spot t rules h next (inr made) =
    made_goes s a b spot t rules h next made.0 (turn_not_ends s.actions t (next_turn s a.progress).step (sym made.1) next.step) made.2

-- a turn that is none changes nothing
nothing_made : (step : Step) (a : PointProgress) → step ≡ Ends → made_of step a ≡ a
nothing_made step a is = ap (λ st. made_of st a) is

pub took_none : (s : PlainScenario) (a b : PointProgress) (spot : Spot) (t : Turn) → IsNext s a.progress spot t →
    Took t (next_turn s a.progress).step false a b → ((next_turn s a.progress).step ≡ Ends) × (b ≡ a)
took_none s a b spot t next (inl hit) = let said = hit.1 in cc
took_none s a b spot t next (inr made) =
    let ended = turn_ends s.actions t (next_turn s a.progress).step (sym made.1) next.step in
    (ended, made.2 ∙ nothing_made (next_turn s a.progress).step a ended)

-- ---- a turn that is made, with what its entry tells the points

happens_by : (actions : List Action) (t : Turn) (step : Step) → step_of actions t ≡ Some step → t ≢ turn.Skip → is_some t ≡ true → IsHappening step
happens_by actions (turn.Action place) step is skip some = let at = event_at actions place step is in record { event = at.event; is = at.happens }
happens_by actions (turn.Deliver m) step is skip some = record { event = event.Deliver m; is = some_step (sym is) }
  where
    some_step : {a b : Step} → Some a ≡ Some b → a ≡ b
    some_step e = cc
happens_by actions turn.Skip step is skip some = absurd (skip refl)
happens_by actions turn.Finished step is skip some = cc

pub made_told : (actions : List Action) (t : Turn) (step : Step) (a : PointProgress) (now : Progress) (entries : List Entry) (points : List Point) →
    step_of actions t ≡ Some step → t ≢ turn.Skip → is_some t ≡ true → now ≡ progress_after step a.progress → entries ≡ now.recorded.entries →
    ((before : List Entry) (e : Entry) → entries ≡ before ++ e ∷ [] → points ≡ told_at a.fetches (visit (sent_in before) e.event) e.notes a.points) →
    record a { progress = now; points = points } ≡ made_of step a
made_told actions t step a now entries points is skip some made same told = by step (happens_by actions t step is skip some) made
  where
    by : (st : Step) → IsHappening st → now ≡ progress_after st a.progress → record a { progress = now; points = points } ≡ made_of st a
    by st h made =
        let w = world_of a.progress.recorded in
        let e : Entry = entry_of w h.event in
        let whole : entries ≡ a.progress.recorded.entries ++ e ∷ [] =
        same ∙ ap (λ (p : Progress). p.recorded.entries) (made ∙ ap (λ (s : Step). progress_after s a.progress) h.is) in
        let now_told = told a.progress.recorded.entries e whole ∙
        ap (λ es. told_at a.fetches (visit (sent_in es) e.event) e.notes a.points) (sym (past_of a.progress.recorded)) ∙
        ap (λ (s : Step). told_step a.fetches w s a.points) (sym h.is) in
        ap (λ (p : Progress). record a { progress = p; points = points }) made ∙
        ap (λ (ps : List Point). record a { progress = progress_after st a.progress; points = ps }) now_told

-- what was asked first, and found nothing
pub took_made : {E : Type 0} (actions : List Action) (t : Turn) (r : Result Bool E) (a b : PointProgress) →
    ((step : Step) → step_of actions t ≡ Some step → IsUnknown (fetch_in step) a.points) → IfOk r (λ more. more ≡ is_some t) →
    OnOk r ((step : Step) → step_of actions t ≡ Some step → b ≡ made_of step a) →
    IfOk r (λ more. (step : Step) → step_of actions t ≡ Some step → Took t step more a b)
took_made actions t (Ok more) a b unknown answer made = λ step is. inr (unknown step is, answer, made step is)
took_made actions t (Err error) a b unknown answer made = tt

-- the next turn, as it was taken of these actions
pub took_next : (s : PlainScenario) (a old b : PointProgress) (spot : Spot) (t : Turn) (actions : List Action) (more : Bool) → actions ≡ s.actions →
    old ≡ a → IsNext s a.progress spot t → ((step : Step) → step_of actions t ≡ Some step → Took t step more old b) →
    Took t (next_turn s a.progress).step more a b
took_next s a old b spot t actions more listed same next took =
    subst (λ (o : PointProgress). Took t (next_turn s a.progress).step more o b) same
    (took (next_turn s a.progress).step (ap (λ xs. step_of xs t) listed ∙ next.step))
