-- The turns of a schedule: what is the next to happen in it, and the schedule that is left behind that.
use Rattle.std.specs.Prelude.{ℕ, zero, suc, ◌+◌, nat_lt, if◌then◌else◌, Option, Some, None, List, [], ◌∷◌, ◌++◌, length, replicate}
use Rattle.overlay_rules.specs.declared.entry.Event.{Event}
use Rattle.overlay_rules.specs.declared.entry.Event.TheVariants as event
use Rattle.overlay_rules.specs.Record.{World, sent_in}
use Rattle.overlay_rules.specs.Played.{Action as Act, Command, Settle, Deliver, Shuffle, Dup, Noise, Play, happened, oldest_undelivered, drawn}

-- an event comes, a delivery finds no message, or nothing is left
pub data Step : Type 0 where
  Happens : (event : Event) → Step
  Skips : Step
  Ends : Step

-- a step, the schedule that is left behind it, and the copies that are then in force
pub record Turned : Type 0 where
  pub step : Step
  pub left : List Act
  pub copies : ℕ

-- a delivery of this message, where so many were sent
abbrev pub delivery : ℕ → ℕ → Step
delivery message sent = if nat_lt message sent then Happens (event.Deliver message) else Skips

-- The next step of a schedule, with so many copies in force, so many messages sent, and this the oldest that was never
-- delivered. The further copies of a delivery are deliveries of that message, ahead of what is left of the settle.
abbrev pub turned : List Act → ℕ → ℕ → Option ℕ → Turned
turned [] copies sent oldest = record { step = Ends; left = []; copies = copies }
turned (Command node number command ∷ acts) copies sent oldest =
    record { step = Happens (event.Command node number command); left = acts; copies = copies }
turned (Settle zero ∷ acts) copies sent oldest = turned acts copies sent oldest
turned (Settle (suc n) ∷ acts) copies sent None = turned acts copies sent None
turned (Settle (suc n) ∷ acts) zero sent (Some m) = turned acts zero sent (Some m)
turned (Settle (suc n) ∷ acts) (suc more) sent (Some m) =
    record { step = Happens (event.Deliver m); left = replicate more (Deliver m) ++ Settle n ∷ acts; copies = suc more }
turned (Deliver m ∷ acts) copies sent oldest = record { step = delivery m sent; left = acts; copies = copies }
turned (Shuffle [] ∷ acts) copies sent oldest = turned acts copies sent oldest
turned (Shuffle (word ∷ words) ∷ acts) copies sent oldest =
    record { step = delivery (drawn word sent) sent; left = Shuffle words ∷ acts; copies = copies }
turned (Dup n ∷ acts) copies sent oldest = turned acts n sent oldest
turned (Noise node ∷ acts) copies sent oldest =
    record { step = Happens (event.Noise node); left = acts; copies = copies }

-- what a step makes of a world, and of the number of skips
abbrev pub world_after : Step → World → World
world_after (Happens v) w = happened w v
world_after Skips w = w
world_after Ends w = w

abbrev pub skipped_after : Step → ℕ → ℕ
skipped_after (Happens v) skipped = skipped
skipped_after Skips skipped = skipped + 1
skipped_after Ends skipped = skipped

-- the next turn of a schedule in a play, and the play after it
abbrev pub turn_in : List Act → Play → Turned
turn_in acts p = turned acts p.copies (length (sent_in p.world.past)) (oldest_undelivered p.world)

abbrev pub play_after : Turned → Play → Play
play_after t p =
    record { world = world_after t.step p.world; copies = t.copies; skipped = skipped_after t.step p.skipped }
