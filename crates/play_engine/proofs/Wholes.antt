-- What a made turn comes to. A player has no turn left exactly where its record is the played record.
use Rattle.std.proofs.Common.{◌≡◌, ◌≢◌, ◌<◌, ◌≤◌, ℕ, ◌+◌, Bool, true, false, MatchBool, Some, List, [], ◌∷◌, length, refl, sym, subst, ap, ◌∙◌, arith}
use Rattle.std.proofs.Common.{length-append}
use Rattle.overlay_rules.specs.declared.entry.Entry.{Entry}
use Rattle.overlay_rules.specs.Record.{Setting, World, IsRecord, sent_in}
use Rattle.overlay_rules.specs.Played.{Play, entry_of, oldest_undelivered}
use Rattle.scenario_reader.specs.declared.action.Action.{Action}
use Rattle.scenario_reader.specs.Plain.{PlainScenario}
use Rattle.scenario_reader.specs.Rules.{KeepsRules}
use Rattle.schedule.specs.declared.turn.Turn.{Turn}
use Rattle.schedule.specs.declared.turn.Turn.TheVariants as turn
use Rattle.schedule.specs.Cursors.{Spot, step_of}
use Rattle.schedule.specs.Playing.{IsBeginning}
use Rattle.schedule.specs.Schedule.{play_of}
use Rattle.schedule.specs.Turns.{Step, Happens, Skips, Ends, play_after, world_after, skipped_after}
use Rattle.schedule.proofs.Beginnings.{played_so_far}
use Rattle.schedule.proofs.Playing.{played_whole}
use Rattle.world_model.specs.Recorded.{world_of}
use Rattle.schedule.specs.Schedule.{setting_of}
use Rattle.schedule.proofs.Ending.{work, turns_end}
use Rattle.world_model.specs.Recorded.{setting_of as setting_in}
use Rattle.play_engine.specs.Advance.{next_turn, TakesTurn, IsNext, progress_after, moved_to}
use Rattle.play_engine.specs.Coming.{is_some}
use Rattle.play_engine.specs.Progress.{Progress, PlaysOn, Plays, IsWhole, play_in, left_in}
use Rattle.play_engine.proofs.Going.{past_of, played_after, plays_after, takes_turn, begins, advanced}
use Rattle.play_engine.proofs.Starting.{same_setting}
use Rattle.play_engine.proofs.Numbers.{event_at}

-- the entries and skips of a play, counted
abbrev size : Play → ℕ
size p = length p.world.past + p.skipped

beginning_is_smaller : (p q : Play) → IsBeginning p q → size p ≤ size q
beginning_is_smaller p q h =
    let all = ap (λ (es : List Entry). length es) h.entries in
    let long = length-append p.world.past h.more in
    let skips = h.skips in omega arith

step_grows : (step : Step) (p : Play) → step ≢ Ends →
    length (world_after step p.world).past + skipped_after step p.skipped ≡ size p + 1
step_grows (Happens v) p some = let long = length-append p.world.past (entry_of p.world v ∷ []) in omega arith
step_grows Skips p some = omega arith
step_grows Ends p some = absurd (some refl)

-- ---- turns that say whether one is left

some_same : {a b : Step} → Some a ≡ Some b → a ≡ b
some_same e = cc

happens_not_ends : (actions : List Action) (place : ℕ) (step : Step) → step_of actions (turn.Action place) ≡ Some step → step ≢ Ends
happens_not_ends actions place step is ends = let there = event_at actions place step is in let named = there.happens ∙ ends in cc

pub not_ends : (actions : List Action) (t : Turn) (step : Step) → is_some t ≡ true → step_of actions t ≡ Some step → step ≢ Ends
not_ends actions (turn.Action place) step some is = happens_not_ends actions place step is
not_ends actions (turn.Deliver m) step some is = λ ends. let named = some_same is ∙ ends in cc
not_ends actions turn.Skip step some is = λ ends. let named = some_same is ∙ ends in cc
not_ends actions turn.Finished step some is = cc

pub ends : (actions : List Action) (t : Turn) (step : Step) → is_some t ≡ false → step_of actions t ≡ Some step → step ≡ Ends
ends actions (turn.Action place) step none is = cc
ends actions (turn.Deliver m) step none is = cc
ends actions turn.Skip step none is = cc
ends actions turn.Finished step none is = sym (some_same is)

-- ---- the whole record

pub whole : (s : PlainScenario) (a : Progress) → Plays s a → (next_turn s a).step ≡ Ends → IsWhole s a.recorded.entries a.skipped
whole s a h ended =
    let all = played_whole s a.spot (play_in a) (length (sent_in (world_of a.recorded).past))
    (oldest_undelivered (world_of a.recorded)) refl refl ended h.played in
    record { entries = sym (past_of a.recorded) ∙ ap (λ (w : World). w.past) all.0; skips = all.1 }

pub not_whole : (s : PlainScenario) (a : Progress) (spot : Spot) (t : Turn) → KeepsRules s → Plays s a → IsNext s a spot t → (next_turn s a).step ≢ Ends →
    IsWhole s a.recorded.entries a.skipped → ⊥
not_whole s a spot t rules h next some all =
    let grown = step_grows (next_turn s a).step (play_in a) some in
    let small = beginning_is_smaller (play_after (next_turn s a) (play_in a)) (play_of s)
    (played_so_far s spot (play_after (next_turn s a) (play_in a)) (played_after s a spot t h next)) in
    let entries = ap (λ (es : List Entry). length es) (past_of a.recorded ∙ all.entries) in
    let skips = all.skips in absurd (omega arith)

-- where a turn is left, made or refused, the record is not complete
pub not_complete : (s : PlainScenario) (a : Progress) (spot : Spot) (t : Turn) → KeepsRules s → Plays s a → IsNext s a spot t → is_some t ≡ true →
    IsWhole s a.recorded.entries a.skipped → ⊥
not_complete s a spot t rules h next some =
    not_whole s a spot t rules h next (not_ends s.actions t (next_turn s a).step some next.step)

-- ---- a turn that was made

-- what was made of a turn among these actions, in the words of its step
abbrev pub IsMade : List Action → Turn → Progress → Progress → Type 0
IsMade actions t old new = (step : Step) → step_of actions t ≡ Some step → new ≡ progress_after step old

made_next : (s : PlainScenario) (a b : Progress) (spot : Spot) (t : Turn) (actions : List Action) → actions ≡ s.actions → IsNext s a spot t →
    IsMade actions t a b →
    b ≡ progress_after (next_turn s a).step a
made_next s a b spot t actions same next made = made (next_turn s a).step (ap (λ (xs : List Action). step_of xs t) same ∙ next.step)

-- no turn was left
pub record Stays (s : PlainScenario) (a b : Progress) : Type 0 where
  pub same : b ≡ a
  pub plays : Plays s b
  pub so_far : IsBeginning (play_in b) (play_of s)
  pub whole : IsWhole s a.recorded.entries a.skipped

pub stays : (s : PlainScenario) (a b : Progress) (spot : Spot) (t : Turn) (actions : List Action) → actions ≡ s.actions → Plays s a → IsNext s a spot t →
    IsMade actions t a b → is_some t ≡ false → Stays s a b
stays s a b spot t actions listed h next made none =
    let ended = ends s.actions t (next_turn s a).step none next.step in
    let same : b ≡ a = made_next s a b spot t actions listed next made ∙ ap (λ step. progress_after step a) ended in
    record {
      same = same;
      plays = subst (λ (p : Progress). Plays s p) (sym same) h;
      so_far = subst (λ (p : Progress). IsBeginning (play_in p) (play_of s)) (sym same) (begins s a h);
      whole = whole s a h ended;
    }

-- the next turn was taken
pub record Goes (s : PlainScenario) (a b : Progress) : Type 0 where
  pub plays : Plays s b
  pub so_far : IsBeginning (play_in b) (play_of s)
  pub turn : TakesTurn s a b
  pub not_whole : IsWhole s a.recorded.entries a.skipped → ⊥

pub goes : (s : PlainScenario) (a b : Progress) (spot : Spot) (t : Turn) (actions : List Action) → KeepsRules s → actions ≡ s.actions → Plays s a →
    IsNext s a spot t →
    IsMade actions t a b → is_some t ≡ true → Goes s a (moved_to spot b)
goes s a b spot t actions rules listed h next made some =
    let left = not_ends s.actions t (next_turn s a).step some next.step in
    let after = plays_after s a spot t rules h next in
    subst (λ (p : Progress). Goes s a p) (sym (ap (moved_to spot) (made_next s a b spot t actions listed next made)))
    (record {
      plays = after;
      so_far = begins s (advanced s a spot) after;
      turn = takes_turn s a spot t next left;
      not_whole = not_complete s a spot t rules h next some;
    })

-- ---- a whole play

pub when_true : (P Q : Type 0) (b : Bool) → b ≡ true → MatchBool b P Q → P
when_true P Q true is h = h
when_true P Q false is h = cc

pub when_false : (P Q : Type 0) (b : Bool) → b ≡ false → MatchBool b P Q → Q
when_false P Q true is h = cc
when_false P Q false is h = h

pub less_left : (s : PlainScenario) (a b : Progress) → TakesTurn s a b → work b.spot.copies (left_in s b) < work a.spot.copies (left_in s a)
less_left s a b h =
    let copies : b.spot.copies ≡ (next_turn s a).copies = ap (λ (p : Play). p.copies) h.play in
    subst (λ n. work n (left_in s b) < work a.spot.copies (left_in s a)) (sym copies)
    (subst (λ acts. work (next_turn s a).copies acts < work a.spot.copies (left_in s a)) (sym h.left)
    (turns_end (left_in s a) a.spot.copies (length (sent_in (world_of a.recorded).past)) (oldest_undelivered (world_of a.recorded)) h.some))

pub whole_record : (s : PlainScenario) (es fs : List Entry) (n m : ℕ) → IsWhole s es n → fs ≡ es → m ≡ n → IsWhole s fs m
whole_record s es fs n m h entries skips = record { entries = entries ∙ h.entries; skips = skips ∙ h.skips }

pub legal_record : (s : PlainScenario) (a : Progress) (es : List Entry) → PlaysOn s a → IsRecord (setting_in a.recorded) a.recorded.entries →
    es ≡ a.recorded.entries →
    IsRecord (setting_of s) es
legal_record s a es h legal same =
    subst (λ (xs : List Entry). IsRecord (setting_of s) xs) (sym same)
    (subst (λ (g : Setting). IsRecord g a.recorded.entries) (same_setting s a h) legal)
