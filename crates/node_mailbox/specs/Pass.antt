-- What contracts see of a pass, what each step makes of it, and what a pass with all the parts knows.
use Rattle.std.specs.Prelude.{◌≡◌, ◌≤◌, ℕ, ◌+◌, ◌-◌, List, [], ◌∷◌, ◌++◌}
use Rattle.node_mailbox.specs.declared.limits.TheConstants.{ALL_PARTS}
use Rattle.node_mailbox.specs.Times.{times}

-- the mailbox that it is of, its parts, and the frames that it put and took, each list in the order of its steps
pub record PassView : Type 0 where
  pub mailbox : ℕ × ℕ
  pub parts : ℕ
  pub put : List (List ℕ)
  pub taken : List (List ℕ)

abbrev pub pass_view : ℕ × ℕ → ℕ → List (List ℕ) → List (List ℕ) → PassView
pass_view mailbox parts put taken = record { mailbox = mailbox; parts = parts; put = put; taken = taken }

-- a pass that has put and taken nothing
abbrev pub fresh_pass : ℕ × ℕ → ℕ → PassView
fresh_pass mailbox parts = pass_view mailbox parts [] []

abbrev pub after_put : PassView → List ℕ → PassView
after_put p frame = pass_view p.mailbox p.parts (p.put ++ frame ∷ []) p.taken

abbrev pub after_take : PassView → List ℕ → PassView
after_take p frame = pass_view p.mailbox p.parts p.put (p.taken ++ frame ∷ [])

-- one part went to a new pass
abbrev pub after_split : PassView → PassView
after_split p = pass_view p.mailbox (p.parts - 1) p.put p.taken

-- and this is the new pass
abbrev pub split_off : PassView → PassView
split_off p = fresh_pass p.mailbox 1

-- the other pass was joined into it
abbrev pub after_join : PassView → PassView → PassView
after_join p other = pass_view p.mailbox (p.parts + other.parts) (p.put ++ other.put) (p.taken ++ other.taken)

-- of a pass with all the parts: each frame stands in its taken list at most as often as in its put list
pub record TookOnlyPut (p : PassView) : Type 0 where
  pub whole : p.parts ≡ ALL_PARTS → (frame : List ℕ) → times frame p.taken ≤ times frame p.put

-- of a pass with all the parts: each frame stands in both lists equally often
pub record TookAllPut (p : PassView) : Type 0 where
  pub whole : p.parts ≡ ALL_PARTS → (frame : List ℕ) → times frame p.taken ≡ times frame p.put
