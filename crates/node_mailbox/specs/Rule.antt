-- The rule of one mailbox, over its queue and what each of its passes put and took, and the four steps that keep it.
use Rattle.std.specs.Prelude.{◌≡◌, ◌≤◌, ℕ, ◌+◌, ◌-◌, List, [], ◌∷◌, ◌++◌, All}
use Rattle.std.specs.List.{sum_by}
use Rattle.node_mailbox.specs.declared.hand.Hand.{Hand}
use Rattle.node_mailbox.specs.declared.limits.TheConstants.{ALL_PARTS}
use Rattle.node_mailbox.specs.Times.{times}

-- how often the frame stands in the put lists of all passes together
abbrev pub times_put : List ℕ → List Hand → ℕ
times_put frame passes = sum_by (λ (p : Hand). times frame p.put) passes

-- how often the frame stands in the taken lists of all passes together
abbrev pub times_taken : List ℕ → List Hand → ℕ
times_taken frame passes = sum_by (λ (p : Hand). times frame p.taken) passes

abbrev pub all_parts : List Hand → ℕ
all_parts passes = sum_by (λ (p : Hand). p.parts) passes

-- a pass without parts has two empty lists
abbrev pub IsIdle : Hand → Type 0
IsIdle p = p.parts ≡ 0 → (p.put ≡ []) × (p.taken ≡ [])

-- Each frame stands in the queue and in the taken lists of all passes together as often as in the put lists of all passes
-- together. The passes have all the parts, and each part once. A pass without parts has two empty lists.
pub record KeepsRule (queue : List (List ℕ)) (passes : List Hand) : Type 0 where
  pub frames : (frame : List ℕ) → times frame queue + times_taken frame passes ≡ times_put frame passes
  pub parts : all_parts passes ≡ ALL_PARTS
  pub idle : All IsIdle passes

-- what a pass with all the parts knows of what it took: each frame was put at least as often
pub record KnowsTaken (p : Hand) : Type 0 where
  pub whole : p.parts ≡ ALL_PARTS → (frame : List ℕ) → times frame p.taken ≤ times frame p.put

-- what it knows of the queue: each frame that it put stands there or was taken
pub record KnowsQueue (p : Hand) (queue : List (List ℕ)) : Type 0 where
  pub whole : p.parts ≡ ALL_PARTS → (frame : List ℕ) → times frame queue + times frame p.taken ≡ times frame p.put

abbrev pub hand : ℕ → List (List ℕ) → List (List ℕ) → Hand
hand parts put taken = record { parts = parts; put = put; taken = taken }

abbrev pub pushed : Hand → List ℕ → Hand
pushed p frame = hand p.parts (p.put ++ frame ∷ []) p.taken

abbrev pub popped : Hand → List ℕ → Hand
popped p frame = hand p.parts p.put (p.taken ++ frame ∷ [])

abbrev pub one_less : Hand → Hand
one_less p = hand (p.parts - 1) p.put p.taken

abbrev pub joined : Hand → Hand → Hand
joined p q = hand (p.parts + q.parts) (p.put ++ q.put) (p.taken ++ q.taken)
