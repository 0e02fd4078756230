-- A turn delivers only what was sent, and a scenario has few skips.
use Rattle.std.proofs.Common.{◌≡◌, ◌<◌, ◌≤◌, ℕ, zero, suc, ◌+◌, ◌*◌, Bool, true, false, nat_lt, if◌then◌else◌, Option, Some, None, List, [], ◌∷◌, ◌++◌}
use Rattle.std.proofs.Common.{length, replicate, refl}
use Rattle.std.proofs.Common.{ap, arith}
use Rattle.std.proofs.lemmas.Bool.{ltb-true}
use Rattle.overlay_rules.specs.declared.entry.Event.TheVariants as event
use Rattle.overlay_rules.specs.Played.{Action as Act, Command, Settle, Deliver, Shuffle, Dup, Noise, drawn}
use Rattle.scenario_reader.specs.declared.action.Action.{Action}
use Rattle.scenario_reader.specs.declared.action.What.{What}
use Rattle.scenario_reader.specs.declared.action.What.TheVariants as what
use Rattle.scenario_reader.specs.declared.node.NodeLine.{NodeLine}
use Rattle.scenario_reader.specs.declared.node.FileLine.{FileLine}
use Rattle.scenario_reader.specs.declared.tally.Tally.{Tally}
use Rattle.scenario_reader.specs.Plain.{PlainScenario}
use Rattle.scenario_reader.specs.Rules.{AreActions, KeepsRules}
use Rattle.scenario_reader.specs.Tallies.{start, tallied}
use Rattle.schedule.specs.Schedule.{act_of, acts_of}
use Rattle.schedule.specs.Turns.{Happens, Skips, Turned, delivery, turned, skipped_after}
use Rattle.schedule.specs.Words.{words_from}
use Rattle.play_engine.specs.Progress.{draws}

-- ---- what a turn delivers

delivery_sent : (n sent m : ℕ) → delivery n sent ≡ Happens (event.Deliver m) → m < sent
delivery_sent n sent m h = by (nat_lt n sent) refl h
  where
    by : (b : Bool) → nat_lt n sent ≡ b → (if b then Happens (event.Deliver n) else Skips) ≡ Happens (event.Deliver m) → m < sent
    by true is same = let named : n ≡ m = cc in let below = ltb-true n sent is in omega arith
    by false is same = cc

pub delivers_sent : (acts : List Act) (copies sent : ℕ) (oldest : Option ℕ) (m : ℕ) → ((o : ℕ) → oldest ≡ Some o → o < sent) →
    (turned acts copies sent oldest).step ≡ Happens (event.Deliver m) → m < sent
delivers_sent [] copies sent oldest m below h = cc
delivers_sent (Command node number command ∷ acts) copies sent oldest m below h = cc
delivers_sent (Settle zero ∷ acts) copies sent oldest m below h = delivers_sent acts copies sent oldest m below h
delivers_sent (Settle (suc n) ∷ acts) copies sent None m below h = delivers_sent acts copies sent None m below h
delivers_sent (Settle (suc n) ∷ acts) zero sent (Some o) m below h = delivers_sent acts zero sent (Some o) m below h
delivers_sent (Settle (suc n) ∷ acts) (suc more) sent (Some o) m below h =
    let named : o ≡ m = cc in let inside = below o refl in omega arith
delivers_sent (Deliver n ∷ acts) copies sent oldest m below h = delivery_sent n sent m h
delivers_sent (Shuffle [] ∷ acts) copies sent oldest m below h = delivers_sent acts copies sent oldest m below h
delivers_sent (Shuffle (word ∷ words) ∷ acts) copies sent oldest m below h = delivery_sent (drawn word sent) sent m h
delivers_sent (Dup n ∷ acts) copies sent oldest m below h = delivers_sent acts n sent oldest m below h
delivers_sent (Noise node ∷ acts) copies sent oldest m below h = cc

-- ---- how many skips there can be

copies_drawn : (k m copies : ℕ) (acts : List Act) → draws copies (replicate k (Deliver m) ++ acts) ≡ k + draws copies acts
copies_drawn zero m copies acts = omega arith
copies_drawn (suc k) m copies acts = let more = copies_drawn k m copies acts in omega arith

-- a skip is one of the deliveries that were left
abbrev IsDrawn : ℕ → List Act → ℕ → Turned → Type 0
IsDrawn copies acts skipped t = skipped_after t.step skipped + draws t.copies t.left ≤ skipped + draws copies acts

once_drawn : (n sent skipped : ℕ) → skipped_after (delivery n sent) skipped ≤ skipped + 1
once_drawn n sent skipped = by (nat_lt n sent)
  where
    by : (b : Bool) → skipped_after (if b then Happens (event.Deliver n) else Skips) skipped ≤ skipped + 1
    by true = omega arith
    by false = omega arith

-- a settle has the deliveries of the rest, and its own
behind_settle : (n copies skipped : ℕ) (acts : List Act) (t : Turned) → IsDrawn copies acts skipped t → IsDrawn copies (Settle n ∷ acts) skipped t
behind_settle n copies skipped acts t h = let product : 0 ≤ n * copies = omega arith in omega arith

pub turns_drawn : (acts : List Act) (copies sent : ℕ) (oldest : Option ℕ) (skipped : ℕ) → IsDrawn copies acts skipped (turned acts copies sent oldest)
turns_drawn [] copies sent oldest skipped = omega arith
turns_drawn (Command node number command ∷ acts) copies sent oldest skipped = omega arith
turns_drawn (Settle zero ∷ acts) copies sent oldest skipped =
    behind_settle 0 copies skipped acts (turned acts copies sent oldest) (turns_drawn acts copies sent oldest skipped)
turns_drawn (Settle (suc n) ∷ acts) copies sent None skipped =
    behind_settle (suc n) copies skipped acts (turned acts copies sent None) (turns_drawn acts copies sent None skipped)
turns_drawn (Settle (suc n) ∷ acts) zero sent (Some m) skipped =
    behind_settle (suc n) 0 skipped acts (turned acts 0 sent (Some m)) (turns_drawn acts 0 sent (Some m) skipped)
turns_drawn (Settle (suc n) ∷ acts) (suc more) sent (Some m) skipped =
    let rest = copies_drawn more m (suc more) (Settle n ∷ acts) in
    let one : suc n * suc more ≡ n * suc more + suc more = omega arith in omega arith
turns_drawn (Deliver m ∷ acts) copies sent oldest skipped = let once = once_drawn m sent skipped in omega arith
turns_drawn (Shuffle [] ∷ acts) copies sent oldest skipped = let rest = turns_drawn acts copies sent oldest skipped in omega arith
turns_drawn (Shuffle (word ∷ words) ∷ acts) copies sent oldest skipped = let once = once_drawn (drawn word sent) sent skipped in omega arith
turns_drawn (Dup n ∷ acts) copies sent oldest skipped = turns_drawn acts n sent oldest skipped
turns_drawn (Noise node ∷ acts) copies sent oldest skipped = omega arith

word_count : (seed t count : ℕ) → length (words_from seed t count) ≡ count
unfolding words_from
word_count seed t zero = refl
word_count seed t (suc count) = ap suc (word_count seed (suc t) count)

draws_few : (nodes : List NodeLine) (files : List FileLine) (tally : Tally) (actions : List Action) → AreActions nodes files tally actions →
    tally.deliveries ≤ 1000000 → tally.deliveries + draws tally.copies (acts_of actions) ≤ 1000000
draws_few nodes files tally [] rules few = omega arith
draws_few nodes files tally (action ∷ actions) rules few = by action.what (draws_few nodes files (tallied tally action.what) actions rules.1 rules.0.deliveries)
  where
    by : (w : What) → (tallied tally w).deliveries + draws (tallied tally w).copies (acts_of actions) ≤ 1000000 →
        tally.deliveries + draws tally.copies (act_of w ∷ acts_of actions) ≤ 1000000
    by (what.Command number node command) rest = rest
    by (what.Settle n) rest = omega arith
    by (what.Deliver m) rest = omega arith
    by (what.Shuffle seed count) rest = let words = word_count seed 0 count in omega arith
    by (what.Dup n) rest = rest
    by (what.Noise node bytes) rest = rest

-- of a scenario that nothing was played of
pub skips_few : (s : PlainScenario) → KeepsRules s → 0 + draws 1 (acts_of s.actions) ≤ 1000000
skips_few s rules = draws_few s.nodes s.files start s.actions rules.actions (omega arith)
