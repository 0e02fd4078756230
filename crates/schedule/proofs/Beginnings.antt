-- Whatever is acted on a play adds to it, and takes nothing back.
use Rattle.std.proofs.Common.{ℕ, zero, suc, ◌+◌, Bool, true, false, nat_lt, if◌then◌else◌, Option, Some, None, List, [], ◌∷◌, ◌++◌, length, refl, sym, subst}
use Rattle.std.proofs.Common.{ap, ◌∙◌, arith, append_assoc, append-nil}
use Rattle.overlay_rules.specs.declared.entry.Event.{Event}
use Rattle.overlay_rules.specs.declared.entry.Event.TheVariants as event
use Rattle.overlay_rules.specs.Record.{sent_in}
use Rattle.overlay_rules.specs.Played.{Action as Act, Command, Settle, Deliver, Shuffle, Dup, Noise, Play, entry_of, happened, oldest_undelivered, delivered}
use Rattle.overlay_rules.specs.Played.{delivered_oldest, settled, in_world, delivered_once, drawn, shuffled, acted, acted_all}
use Rattle.scenario_reader.specs.Plain.{PlainScenario}
use Rattle.schedule.specs.Cursors.{Spot, left_at}
use Rattle.schedule.specs.Playing.{IsBeginning, IsPlayedTo}
use Rattle.schedule.specs.Schedule.{play_of}

all_of : (p : Play) → IsBeginning p p
all_of p = record { more = []; entries = sym (append-nil p.world.past); skips = omega arith }

further : (p q r : Play) → IsBeginning p q → IsBeginning q r → IsBeginning p r
further p q r a b = record {
  more = a.more ++ b.more;
  entries = b.entries ∙ ap (λ es. es ++ b.more) a.entries ∙ append_assoc p.world.past a.more b.more;
  skips = let low = a.skips in let high = b.skips in omega arith;
}

one_event : (p : Play) (v : Event) → IsBeginning p (in_world p (happened p.world v))
one_event p v = record { more = entry_of p.world v ∷ []; entries = refl; skips = omega arith }

copies_begin : (n m : ℕ) (p : Play) → IsBeginning p (in_world p (delivered n m p.world))
copies_begin zero m p = all_of p
copies_begin (suc n) m p =
    let next : Play = in_world p (happened p.world (event.Deliver m)) in
    further p next (in_world p (delivered n m next.world)) (one_event p (event.Deliver m)) (copies_begin n m next)

oldest_begins : (copies : ℕ) (o : Option ℕ) (p : Play) → IsBeginning p (in_world p (delivered_oldest copies o p.world))
oldest_begins copies None p = all_of p
oldest_begins copies (Some m) p = copies_begin copies m p

settle_begins : (n copies : ℕ) (p : Play) → IsBeginning p (in_world p (settled n copies p.world))
settle_begins zero copies p = all_of p
settle_begins (suc n) copies p =
    let next : Play = in_world p (delivered_oldest copies (oldest_undelivered p.world) p.world) in
    further p next (in_world p (settled n copies next.world)) (oldest_begins copies (oldest_undelivered p.world) p) (settle_begins n copies next)

once_begins : (m : ℕ) (p : Play) → IsBeginning p (delivered_once m p)
once_begins m p = by (nat_lt m (length (sent_in p.world.past)))
  where
    by : (b : Bool) → IsBeginning p (if b then in_world p (happened p.world (event.Deliver m)) else record p { skipped = p.skipped + 1 })
    by true = one_event p (event.Deliver m)
    by false = record { more = []; entries = sym (append-nil p.world.past); skips = omega arith }

shuffle_begins : (words : List ℕ) (p : Play) → IsBeginning p (shuffled words p)
shuffle_begins [] p = all_of p
shuffle_begins (word ∷ words) p =
    let next : Play = delivered_once (drawn word (length (sent_in p.world.past))) p in
    further p next (shuffled words next) (once_begins (drawn word (length (sent_in p.world.past))) p) (shuffle_begins words next)

act_begins : (act : Act) (p : Play) → IsBeginning p (acted act p)
act_begins (Command node number command) p = one_event p (event.Command node number command)
act_begins (Settle n) p = settle_begins n p.copies p
act_begins (Deliver m) p = once_begins m p
act_begins (Shuffle words) p = shuffle_begins words p
act_begins (Dup n) p = record { more = []; entries = sym (append-nil p.world.past); skips = omega arith }
act_begins (Noise node) p = one_event p (event.Noise node)

pub schedule_begins : (acts : List Act) (p : Play) → IsBeginning p (acted_all acts p)
schedule_begins [] p = all_of p
schedule_begins (act ∷ acts) p = further p (acted act p) (acted_all acts (acted act p)) (act_begins act p) (schedule_begins acts (acted act p))

-- what is played so far is a beginning of the played record
pub played_so_far : (s : PlainScenario) (spot : Spot) (p : Play) → IsPlayedTo s spot p → IsBeginning p (play_of s)
played_so_far s spot p h =
    let P : Play → Type 0 = λ q. IsBeginning p q in subst P h.ends (schedule_begins (left_at s.actions spot) p)
