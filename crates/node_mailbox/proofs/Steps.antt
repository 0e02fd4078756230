-- Each step keeps the rule of one mailbox, and what a pass with all the parts learns from the rule. The queue's calls ask for
-- these facts of whatever the queue holds and the other passes did.
use Rattle.std.proofs.Common.{◌≡◌, ◌≤◌, ◌<◌, ℕ, ◌+◌, List, [], ◌∷◌, ◌++◌, set, sym, refl, ap, ◌∙◌, subst, Some, None, arith}
use Rattle.std.specs.Prelude.{All, IfNone, MatchOption, Option}
use Rattle.std.specs.Str.{bytes_eq}
use Rattle.std.proofs.lemmas.List.Elements.{All-set, All-push}
use Rattle.std.proofs.lemmas.List.Sums.{sum_by-cons, sum_by-append, sum_by_push}
use mathlib.Core.Bool.{cond}
use mathlib.Core.Option.{some}
use lib.ListN.{get_elem?}
use Rattle.crossbeam_queue.specs.Fifo.{Pushes, Pops, Forks, Merges, Learns, Held}
use Rattle.node_mailbox.specs.declared.hand.Hand.{Hand}
use Rattle.node_mailbox.specs.Times.{times}
use Rattle.node_mailbox.specs.Rule.{all_parts, KeepsRule, IsIdle, KnowsTaken, KnowsQueue, hand, pushed, popped, one_less, joined}
use Rattle.node_mailbox.specs.Pass.{TookAllPut, pass_view}
use Rattle.node_mailbox.proofs.Totals.{at-set, total-set, total-alone}

abbrev Holds : List (List ℕ) → List Hand → Type 0
Holds queue passes = KeepsRule queue passes

-- a frame counts once where it is the one that is looked for
abbrev hit : List ℕ → List ℕ → ℕ
hit frame x = cond (bytes_eq frame x) 1 0

times_push : (frame x : List ℕ) (xs : List (List ℕ)) → times frame (xs ++ x ∷ []) ≡ times frame xs + hit frame x
times_push frame x xs = sum_by_push (hit frame) xs x

times-cons : (frame x : List ℕ) (xs : List (List ℕ)) → times frame (x ∷ xs) ≡ hit frame x + times frame xs
times-cons frame x xs = sum_by-cons (hit frame) x xs

times-append : (frame : List ℕ) (xs ys : List (List ℕ)) → times frame (xs ++ ys) ≡ times frame xs + times frame ys
times-append frame xs ys = sum_by-append (hit frame) xs ys

idle_put : (frame : List ℕ) (passes : List Hand) → All IsIdle passes → All (λ (p : Hand). p.parts ≡ 0 → times frame p.put ≡ 0) passes
idle_put frame passes idle = λ k d lt none. ap (times frame) (idle k d lt none).0

idle_taken : (frame : List ℕ) (passes : List Hand) → All IsIdle passes → All (λ (p : Hand). p.parts ≡ 0 → times frame p.taken ≡ 0) passes
idle_taken frame passes idle = λ k d lt none. ap (times frame) (idle k d lt none).1

-- a pass with all the parts put what all put, and took what all took
knows : (queue : List (List ℕ)) (passes : List Hand) (port : ℕ) (v : Hand) → KeepsRule queue passes → get_elem? passes port ≡ some v → KnowsQueue v queue
knows queue passes port v rule at = record {
  whole = λ all frame.
      let parts : all_parts passes ≡ v.parts = rule.parts ∙ sym all in
      let put = total-alone (λ (p : Hand). times frame p.put) passes port v (idle_put frame passes rule.idle) refl at parts in
      let taken = total-alone (λ (p : Hand). times frame p.taken) passes port v (idle_taken frame passes rule.idle) refl at parts in
      let frames = rule.frames frame in
      omega arith;
}

took_only_put : (queue : List (List ℕ)) (v : Hand) → KnowsQueue v queue → KnowsTaken v
took_only_put queue v known = record { whole = λ all frame. let e = known.whole all frame in omega arith }

pub pushes : (n port : ℕ) (v : Hand) (x : List ℕ) → 0 < v.parts → Pushes Holds n port v x (λ w. w ≡ pushed v x)
pushes n port v x some_part queue passes room rule at = let w = pushed v x in (
  w,
  record {
    frames = λ frame.
        let put = total-set (λ (p : Hand). times frame p.put) passes port v w at in
        let taken = total-set (λ (p : Hand). times frame p.taken) passes port v w at in
        let frames = rule.frames frame in
        omega (arith, times_push frame x v.put, times_push frame x queue);
    parts = let parts = total-set (λ (p : Hand). p.parts) passes port v w at in omega (arith, rule.parts);
    idle = All-set IsIdle passes port w (λ none. absurd (omega arith)) rule.idle;
  },
  refl,
)

pub pops : (port : ℕ) (v : Hand) → 0 < v.parts → Pops Holds port v (λ x w. (w ≡ popped v x) × KnowsTaken w)
pops port v some_part x queue passes rule at =
    let w = popped v x in
    let here = at-set passes port v w at in
    let kept : KeepsRule queue (set passes port w) = record {
      frames = λ frame.
          let put = total-set (λ (p : Hand). times frame p.put) passes port v w at in
          let taken = total-set (λ (p : Hand). times frame p.taken) passes port v w at in
          let frames = rule.frames frame in
          omega (arith, times_push frame x v.taken, times-cons frame x queue);
      parts = let parts = total-set (λ (p : Hand). p.parts) passes port v w at in omega (arith, rule.parts);
      idle = All-set IsIdle passes port w (λ none. absurd (omega arith)) rule.idle;
    } in
    (w, kept, (refl, took_only_put queue w (knows queue (set passes port w) port w kept here)))

pub forks : (port : ℕ) (v : Hand) → 2 ≤ v.parts → Forks Holds port v (one_less v) (hand 1 [] [])
forks port v two queue passes rule at = let old = one_less v in let new = hand 1 [] [] in let rest = set passes port old in record {
  frames = λ frame.
      let put = total-set (λ (p : Hand). times frame p.put) passes port v old at in
      let taken = total-set (λ (p : Hand). times frame p.taken) passes port v old at in
      let frames = rule.frames frame in
      omega (arith, sum_by_push (λ (p : Hand). times frame p.put) rest new, sum_by_push (λ (p : Hand). times frame p.taken) rest new);
  parts =
      let parts = total-set (λ (p : Hand). p.parts) passes port v old at in
      omega (arith, rule.parts, sum_by_push (λ (p : Hand). p.parts) rest new);
  idle = All-push IsIdle rest new (All-set IsIdle passes port old (λ none. absurd (omega arith)) rule.idle) (λ none. absurd (omega arith));
}

pub merges : (port : ℕ) (v : Hand) (other : ℕ) (w : Hand) → 0 < v.parts → Merges Holds port v other w (joined v w) (hand 0 [] [])
merges port v other w some_part queue passes rule at apart at_other = let both = joined v w in let spent = hand 0 [] [] in
    let next = set passes port both in record {
      frames = λ frame.
          let put = total-set (λ (p : Hand). times frame p.put) passes port v both at in
          let put_other = total-set (λ (p : Hand). times frame p.put) next other w spent at_other in
          let taken = total-set (λ (p : Hand). times frame p.taken) passes port v both at in
          let taken_other = total-set (λ (p : Hand). times frame p.taken) next other w spent at_other in
          let frames = rule.frames frame in
          omega (arith, times-append frame v.put w.put, times-append frame v.taken w.taken);
      parts =
          let parts = total-set (λ (p : Hand). p.parts) passes port v both at in
          let parts_other = total-set (λ (p : Hand). p.parts) next other w spent at_other in
          omega (arith, rule.parts);
      idle = All-set IsIdle next other spent (λ none. (refl, refl)) (All-set IsIdle passes port both (λ none. absurd (omega arith)) rule.idle);
    }

pub learns : (port : ℕ) (v : Hand) → Learns Holds port v (λ queue. KnowsQueue v queue)
learns port v queue passes rule at = knows queue passes port v rule at

-- whatever a pop answers, the pass took only what was put
pub pop_only_put : (result : Option (List ℕ)) (old new : Hand) (Rest : List ℕ → Type 0)
    → MatchOption result ((new ≡ old) × KnowsQueue old []) (λ x. ((new ≡ popped old x) × KnowsTaken new) × Rest x) → KnowsTaken new
pop_only_put None old new Rest says = subst KnowsTaken (sym says.0) (took_only_put [] old says.1)
pop_only_put (Some x) old new Rest says = says.0.1

-- and where it answers None, all that was put
pub pop_all_put : (mailbox : ℕ × ℕ) (result : Option (List ℕ)) (old new : Hand) (Rest : List ℕ → Type 0)
    → MatchOption result ((new ≡ old) × KnowsQueue old []) (λ x. ((new ≡ popped old x) × KnowsTaken new) × Rest x)
    → IfNone result (TookAllPut (pass_view mailbox new.parts new.put new.taken))
pop_all_put mailbox None old new Rest says =
    let known : KnowsQueue new [] = subst (λ p. KnowsQueue p []) (sym says.0) says.1 in
    record { whole = λ all frame. let e = known.whole all frame in omega arith }
pop_all_put mailbox (Some x) old new Rest says = tt

-- a look at the queue tells it too
pub look_only_put : (v : Hand) (n : ℕ) → Held n (λ queue. KnowsQueue v queue) → KnowsTaken v
look_only_put v n held = took_only_put held.0 v held.2
