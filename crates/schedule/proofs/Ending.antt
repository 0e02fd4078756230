-- A schedule has so many turns and no more: each takes at least one from the work that is left.
use Rattle.std.proofs.Common.{◌≡◌, ◌≢◌, ◌<◌, ◌≤◌, ℕ, zero, suc, ◌+◌, ◌*◌, Option, Some, None, List, [], ◌∷◌, ◌++◌, length, replicate, refl, arith}
use Rattle.overlay_rules.specs.Played.{Action as Act, Command, Settle, Deliver, Shuffle, Dup, Noise}
use Rattle.schedule.specs.Turns.{Ends, Turned, turned}

-- the turns that a schedule has at most, with so many copies in force
abbrev pub work : ℕ → List Act → ℕ
work copies [] = 0
work copies (Command node number command ∷ acts) = 1 + work copies acts
work copies (Settle n ∷ acts) = n * copies + work copies acts
work copies (Deliver m ∷ acts) = 1 + work copies acts
work copies (Shuffle words ∷ acts) = length words + work copies acts
work copies (Dup n ∷ acts) = work n acts
work copies (Noise node ∷ acts) = 1 + work copies acts

copies_work : (k m copies : ℕ) (acts : List Act) → work copies (replicate k (Deliver m) ++ acts) ≡ k + work copies acts
copies_work zero m copies acts = omega arith
copies_work (suc k) m copies acts = let more = copies_work k m copies acts in omega arith

abbrev IsLess : ℕ → List Act → Turned → Type 0
IsLess copies acts t = t.step ≢ Ends → work t.copies t.left < work copies acts

-- a turn before a settle's end leaves less
further : (n copies : ℕ) (acts : List Act) (t : Turned) → IsLess copies acts t → t.step ≢ Ends → work t.copies t.left < n * copies + work copies acts
further n copies acts t h some = let less = h some in let product : 0 ≤ n * copies = omega arith in omega arith

pub turns_end : (acts : List Act) (copies sent : ℕ) (oldest : Option ℕ) → (turned acts copies sent oldest).step ≢ Ends →
    work (turned acts copies sent oldest).copies (turned acts copies sent oldest).left < work copies acts
turns_end [] copies sent oldest some = absurd (some refl)
turns_end (Command node number command ∷ acts) copies sent oldest some = omega arith
turns_end (Settle zero ∷ acts) copies sent oldest some = further 0 copies acts (turned acts copies sent oldest) (turns_end acts copies sent oldest) some
turns_end (Settle (suc n) ∷ acts) copies sent None some = further (suc n) copies acts (turned acts copies sent None) (turns_end acts copies sent None) some
turns_end (Settle (suc n) ∷ acts) zero sent (Some m) some = further (suc n) 0 acts (turned acts 0 sent (Some m)) (turns_end acts 0 sent (Some m)) some
turns_end (Settle (suc n) ∷ acts) (suc more) sent (Some m) some =
    let rest = copies_work more m (suc more) (Settle n ∷ acts) in
    let one : suc n * suc more ≡ n * suc more + suc more = omega arith in omega arith
turns_end (Deliver m ∷ acts) copies sent oldest some = omega arith
turns_end (Shuffle [] ∷ acts) copies sent oldest some = let less = turns_end acts copies sent oldest some in omega arith
turns_end (Shuffle (word ∷ words) ∷ acts) copies sent oldest some = omega arith
turns_end (Dup n ∷ acts) copies sent oldest some = turns_end acts n sent oldest some
turns_end (Noise node ∷ acts) copies sent oldest some = omega arith
