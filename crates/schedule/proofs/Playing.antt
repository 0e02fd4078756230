-- A play turn by turn is the play of its schedule.
use Rattle.std.proofs.Common.{◌≡◌, ℕ, zero, suc, ◌+◌, Bool, true, false, nat_lt, if◌then◌else◌, Option, Some, None, List, [], ◌∷◌, length, refl, sym, ap, ◌∙◌}
use Rattle.std.proofs.Common.{arith}
use Rattle.overlay_rules.specs.declared.entry.Event.TheVariants as event
use Rattle.overlay_rules.specs.Record.{sent_in}
use Rattle.overlay_rules.specs.Played.{Action as Act, Command, Settle, Deliver, Shuffle, Dup, Noise, Play, happened, oldest_undelivered, delivered_oldest}
use Rattle.overlay_rules.specs.Played.{settled, in_world, delivered_once, drawn, acted_all, play_at_start}
use Rattle.scenario_reader.specs.Plain.{PlainScenario}
use Rattle.schedule.specs.Cursors.{Spot, spot_at_start, left_at, turn_at}
use Rattle.schedule.specs.Playing.{PlaysOn, IsPlayedTo}
use Rattle.schedule.specs.Schedule.{setting_of, play_of}
use Rattle.schedule.specs.Turns.{Happens, Skips, Ends, Turned, delivery, turned, turn_in, play_after, world_after, skipped_after}
use Rattle.schedule.proofs.Settling.{sent_count, sent_grows, oldest_was_sent, settled_idle, settled_without_copies, copies_are_delivered}

-- a schedule plays on by this turn
abbrev Plays : List Act → Play → Turned → Type 0
Plays acts p t = acted_all acts p ≡ acted_all t.left (play_after t p)

-- a delivery of one message, or a skip
one_delivery : (m : ℕ) (left : List Act) (p : Play) →
    acted_all left (delivered_once m p) ≡ acted_all left (play_after (record { step = delivery m (sent_count p.world); left = left; copies = p.copies }) p)
one_delivery m left p = ap (λ (q : Play). acted_all left q) (by (nat_lt m (sent_count p.world)))
  where
    by : (b : Bool) → (if b then in_world p (happened p.world (event.Deliver m)) else record p { skipped = p.skipped + 1 }) ≡
        play_after (record { step = if b then Happens (event.Deliver m) else Skips; left = left; copies = p.copies }) p
    by true = refl
    by false = refl

-- a settle, by the oldest message that waits
settle_plays : (n : ℕ) (acts : List Act) (p : Play) (o : Option ℕ) (copies : ℕ) → oldest_undelivered p.world ≡ o → p.copies ≡ copies →
    Plays acts p (turned acts copies (sent_count p.world) o) → Plays (Settle (suc n) ∷ acts) p (turned (Settle (suc n) ∷ acts) copies (sent_count p.world) o)
settle_plays n acts p None copies is at h = ap (λ w. acted_all acts (in_world p w)) (settled_idle (suc n) p.copies p.world is) ∙ h
settle_plays n acts p (Some m) zero is at h =
    ap (λ c. acted_all acts (in_world p (settled (suc n) c p.world))) at ∙
    ap (λ w. acted_all acts (in_world p w)) (settled_without_copies (suc n) p.world) ∙ h
settle_plays n acts p (Some m) (suc more) is at h =
    ap (λ c. acted_all acts (record { world = settled (suc n) c p.world; copies = c; skipped = p.skipped })) at ∙
    ap (λ o. acted_all acts (record { world = settled n (suc more) (delivered_oldest (suc more) o p.world); copies = suc more; skipped = p.skipped })) is ∙
    sym (copies_are_delivered more m (Settle n ∷ acts) (record { world = happened p.world (event.Deliver m); copies = suc more; skipped = p.skipped })
    (let sent = oldest_was_sent p.world m is in let grown = sent_grows p.world (event.Deliver m) in omega arith))

pub plays_on : (acts : List Act) (p : Play) → PlaysOn acts p
plays_on [] p = refl
plays_on (Command node number command ∷ acts) p = refl
plays_on (Settle zero ∷ acts) p = plays_on acts p
plays_on (Settle (suc n) ∷ acts) p = settle_plays n acts p (oldest_undelivered p.world) p.copies refl refl (plays_on acts p)
plays_on (Deliver m ∷ acts) p = one_delivery m acts p
plays_on (Shuffle [] ∷ acts) p = plays_on acts p
plays_on (Shuffle (word ∷ words) ∷ acts) p = one_delivery (drawn word (sent_count p.world)) (Shuffle words ∷ acts) p
plays_on (Dup n ∷ acts) p = plays_on acts (record p { copies = n })
plays_on (Noise node ∷ acts) p = refl

-- ---- a cursor beside a play

pub played_at_start : (s : PlainScenario) → IsPlayedTo s spot_at_start (play_at_start (setting_of s))
played_at_start s = record { copies = refl; ends = refl }

-- the play after a turn has come as far as the cursor after it
pub played_on : (s : PlainScenario) (old new : Spot) (p : Play) (sent : ℕ) (oldest : Option ℕ) →
    sent ≡ length (sent_in p.world.past) → oldest ≡ oldest_undelivered p.world →
    left_at s.actions new ≡ (turn_at s.actions old sent oldest).left → new.copies ≡ (turn_at s.actions old sent oldest).copies →
    IsPlayedTo s old p → IsPlayedTo s new (play_after (turn_at s.actions old sent oldest) p)
played_on s old new p sent oldest is_sent is_oldest left copies h = record {
  copies = sym copies;
  ends =
      ap (λ acts. acted_all acts (play_after (turn_at s.actions old sent oldest) p)) left ∙
      ap (λ (t : Turned). acted_all t.left (play_after t p)) same ∙
      sym (plays_on (left_at s.actions old) p) ∙ h.ends;
}
  where
    same : turn_at s.actions old sent oldest ≡ turn_in (left_at s.actions old) p
    same =
        ap (λ c. turned (left_at s.actions old) c sent oldest) (sym h.copies) ∙
        ap (λ n. turned (left_at s.actions old) p.copies n oldest) is_sent ∙
        ap (λ o. turned (left_at s.actions old) p.copies (sent_count p.world) o) is_oldest

no_end : (b : Bool) (m : ℕ) → (if b then Happens (event.Deliver m) else Skips) ≡ Ends → ⊥
no_end true m h = cc
no_end false m h = cc

-- where a schedule ends, nothing of it happens any more
ended : (acts : List Act) (copies sent : ℕ) (oldest : Option ℕ) → (turned acts copies sent oldest).step ≡ Ends →
    (turned acts copies sent oldest).left ≡ []
ended [] copies sent oldest h = refl
ended (Command node number command ∷ acts) copies sent oldest h = cc
ended (Settle zero ∷ acts) copies sent oldest h = ended acts copies sent oldest h
ended (Settle (suc n) ∷ acts) copies sent None h = ended acts copies sent None h
ended (Settle (suc n) ∷ acts) zero sent (Some m) h = ended acts zero sent (Some m) h
ended (Settle (suc n) ∷ acts) (suc more) sent (Some m) h = cc
ended (Deliver m ∷ acts) copies sent oldest h = absurd (no_end (nat_lt m sent) m h)
ended (Shuffle [] ∷ acts) copies sent oldest h = ended acts copies sent oldest h
ended (Shuffle (word ∷ words) ∷ acts) copies sent oldest h = absurd (no_end (nat_lt (drawn word sent) sent) (drawn word sent) h)
ended (Dup n ∷ acts) copies sent oldest h = ended acts n sent oldest h
ended (Noise node ∷ acts) copies sent oldest h = cc

-- with no turn left, the play is the played record's
pub played_whole : (s : PlainScenario) (spot : Spot) (p : Play) (sent : ℕ) (oldest : Option ℕ) →
    sent ≡ length (sent_in p.world.past) → oldest ≡ oldest_undelivered p.world →
    (turn_at s.actions spot sent oldest).step ≡ Ends → IsPlayedTo s spot p →
    (p.world ≡ (play_of s).world) × (p.skipped ≡ (play_of s).skipped)
played_whole s spot p sent oldest is_sent is_oldest ends h = (ap (λ (q : Play). q.world) whole, ap (λ (q : Play). q.skipped) whole)
  where
    same : turn_in (left_at s.actions spot) p ≡ turn_at s.actions spot sent oldest
    same =
        ap (λ c. turned (left_at s.actions spot) c (sent_count p.world) (oldest_undelivered p.world)) h.copies ∙
        ap (λ n. turned (left_at s.actions spot) spot.copies n (oldest_undelivered p.world)) (sym is_sent) ∙
        ap (λ o. turned (left_at s.actions spot) spot.copies sent o) (sym is_oldest)

    whole : record { world = p.world; copies = (turn_at s.actions spot sent oldest).copies; skipped = p.skipped } ≡ play_of s
    whole =
        ap (λ step. record { world = world_after step p.world; copies = (turn_at s.actions spot sent oldest).copies; skipped = skipped_after step p.skipped })
        (sym ends) ∙
        ap (λ acts. acted_all acts (play_after (turn_at s.actions spot sent oldest) p)) (sym (ended (left_at s.actions spot) spot.copies sent oldest ends)) ∙
        ap (λ (t : Turned). acted_all t.left (play_after t p)) (sym same) ∙
        sym (plays_on (left_at s.actions spot) p) ∙ h.ends
