-- Deliveries of a settle: what they are as single deliveries, and where they do nothing.
use Rattle.std.proofs.Common.{◌≡◌, ◌<◌, ◌≤◌, ℕ, zero, suc, ◌+◌, Bool, true, false, nat_lt, if◌then◌else◌, Option, Some, None, List, ◌++◌, length, replicate}
use Rattle.std.proofs.Common.{refl, ap, ◌∙◌, arith, length-append}
use Rattle.std.proofs.lemmas.Bool.Decides.{nat_tests}
use Rattle.overlay_rules.specs.declared.entry.Event.{Event}
use Rattle.overlay_rules.specs.declared.entry.Event.TheVariants as event
use Rattle.overlay_rules.specs.Record.{World, sent_in}
use Rattle.overlay_rules.specs.Played.{Action as Act, Deliver, Play, entry_of, happened, was_delivered, oldest_undelivered, undelivered_from, delivered}
use Rattle.overlay_rules.specs.Played.{delivered_oldest, settled, in_world, delivered_once, acted_all}
use Rattle.overlay_rules.proofs.Histories.{sent_in-push}

-- how many messages were sent
abbrev pub sent_count : World → ℕ
sent_count w = length (sent_in w.past)

-- an event takes nothing back that was sent
pub sent_grows : (w : World) (v : Event) → sent_count w ≤ sent_count (happened w v)
sent_grows w v =
    let all = ap (λ ms. length ms) (sent_in-push w.past (entry_of w v)) in
    let long = length-append (sent_in w.past) (entry_of w v).messages in omega arith

-- the oldest undelivered message is one that was sent
undelivered_is_below : (w : World) (k n m : ℕ) → undelivered_from w k n ≡ Some m → m < k + n
undelivered_is_below w k zero m h = cc
undelivered_is_below w k (suc n) m h = here (was_delivered w k) (λ e. undelivered_is_below w (suc k) n m e) h
  where
    here : (b : Bool) → (undelivered_from w (suc k) n ≡ Some m → m < suc k + n) → (if b then undelivered_from w (suc k) n else Some k) ≡ Some m → m < k + suc n
    here true later e = let below = later e in omega arith
    here false later e = let same : k ≡ m = cc in omega arith

pub oldest_was_sent : (w : World) (m : ℕ) → oldest_undelivered w ≡ Some m → m < sent_count w
oldest_was_sent w m h = let below = undelivered_is_below w 0 (sent_count w) m h in omega arith

-- where nothing waits, a settle does nothing; nor does it without copies
pub settled_idle : (n copies : ℕ) (w : World) → oldest_undelivered w ≡ None → settled n copies w ≡ w
settled_idle zero copies w h = refl
settled_idle (suc n) copies w h = ap (λ o. settled n copies (delivered_oldest copies o w)) h ∙ settled_idle n copies w h

not_delivered : (o : Option ℕ) (w : World) → delivered_oldest 0 o w ≡ w
not_delivered None w = refl
not_delivered (Some m) w = refl

pub settled_without_copies : (n : ℕ) (w : World) → settled n 0 w ≡ w
settled_without_copies zero w = refl
settled_without_copies (suc n) w = ap (λ v. settled n 0 v) (not_delivered (oldest_undelivered w) w) ∙ settled_without_copies n w

-- a message that was sent is delivered
delivered_once_is : (m : ℕ) (p : Play) → m < sent_count p.world → delivered_once m p ≡ in_world p (happened p.world (event.Deliver m))
delivered_once_is m p h =
    let yes : nat_lt m (sent_count p.world) ≡ true = grind (arith, nat_tests) in rw yes refl

-- copies of a delivery are single deliveries
pub copies_are_delivered : (n m : ℕ) (acts : List Act) (p : Play) → m < sent_count p.world →
    acted_all (replicate n (Deliver m) ++ acts) p ≡ acted_all acts (in_world p (delivered n m p.world))
copies_are_delivered zero m acts p h = refl
copies_are_delivered (suc n) m acts p h =
    ap (λ (q : Play). acted_all (replicate n (Deliver m) ++ acts) q) (delivered_once_is m p h) ∙
    copies_are_delivered n m acts (in_world p (happened p.world (event.Deliver m)))
    (let more = sent_grows p.world (event.Deliver m) in omega arith)
