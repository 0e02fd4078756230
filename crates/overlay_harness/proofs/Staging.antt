-- Stages are found from the front: those that have ended, and the actions of the one that has begun.
use Rattle.std.proofs.Common.{◌≡◌, ◌≤◌, ◌<◌, ℕ, suc, ◌+◌, true, false, List, [], ◌∷◌, ◌++◌, drop, get_or, length, slice_range, refl, sym, subst, ap, ◌∙◌}
use Rattle.std.proofs.Common.{append-nil, append_assoc, arith}
use Rattle.std.proofs.Math.Seq.{drop-cons}
use Rattle.std.proofs.lemmas.Bool.{cond-true, cond-false}
use Rattle.std.proofs.lemmas.List.{append_cancel_right, drop_all}
use Rattle.std.proofs.lemmas.List.Folds.{drop_split}
use Rattle.scenario_reader.specs.declared.action.Action.{Action}
use Rattle.overlay_harness.specs.Stages.{Stage, budget_in, copies_behind, followed_by, is_settle, stages_from, with_first}

-- the stages to come, where these actions have already begun the first of them
abbrev pub begun : List Action → ℕ → List Stage → List Stage
begun [] copies stages = stages
begun (a ∷ actions) copies [] = record { actions = a ∷ actions; budget = 0; copies = copies } ∷ []
begun (a ∷ actions) copies (stage ∷ stages) = record stage { actions = (a ∷ actions) ++ stage.actions } ∷ stages

abbrev pub ended : List Action → ℕ → ℕ → Stage
ended actions budget copies = record { actions = actions; budget = budget; copies = copies }

-- a settle ends the stage that has begun
pub begun-settle : (actions : List Action) (a : Action) (before copies : ℕ) (stages : List Stage) → is_settle a.what ≡ true →
    begun actions before (followed_by a copies stages) ≡ ended (actions ++ a ∷ []) (budget_in a.what) copies ∷ stages
begun-settle [] a before copies stages e = cond-true (is_settle a.what) _ _ e
begun-settle (b ∷ actions) a before copies stages e = ap (begun (b ∷ actions) before) (cond-true (is_settle a.what) _ _ e)

-- any other action goes on with it
pub begun-other : (actions : List Action) (a : Action) (before copies : ℕ) (stages : List Stage) → is_settle a.what ≡ false →
    begun actions before (followed_by a copies stages) ≡ begun (actions ++ a ∷ []) copies stages
begun-other actions a before copies stages e = ap (begun actions before) (cond-false (is_settle a.what) _ _ e) ∙ going_on actions stages where
  going_on : (actions : List Action) (stages : List Stage) → begun actions before (with_first a copies stages) ≡ begun (actions ++ a ∷ []) copies stages
  going_on [] [] = refl
  going_on [] (stage ∷ stages) = refl
  going_on (b ∷ actions) [] = refl
  going_on (b ∷ actions) (stage ∷ stages) =
      ap (λ xs. ended (b ∷ xs) stage.budget stage.copies ∷ stages) (sym (append_assoc actions (a ∷ []) stage.actions))

-- ---- parts of a list

pub slice-none : {A : Type 0} (xs : List A) (i : ℕ) → slice_range xs i i ≡ []
slice-none xs i = append_cancel_right (slice_range xs i i) [] (drop i xs) (sym (drop_split xs i i (omega arith)))

pub slice-more : {A : Type 0} (xs : List A) (begin i : ℕ) (d : A) → begin ≤ i → i < length xs →
    slice_range xs begin (suc i) ≡ slice_range xs begin i ++ get_or xs i d ∷ []
slice-more xs begin i d le lt =
    append_cancel_right (slice_range xs begin (suc i)) (slice_range xs begin i ++ get_or xs i d ∷ []) (drop (suc i) xs)
    (sym (drop_split xs begin (suc i) (omega arith))
    ∙ drop_split xs begin i le
    ∙ ap (λ ys. slice_range xs begin i ++ ys) (drop-cons xs i d lt)
    ∙ sym (append_assoc (slice_range xs begin i) (get_or xs i d ∷ []) (drop (suc i) xs)))

-- ---- how far actions are staged

-- the stages that have ended are these; those to come begin with the actions from one place on, up to another
pub record IsStagedTo (actions : List Action) (begin place copies : ℕ) (stages : List Stage) : Type 0 where
  pub in_order : begin ≤ place
  pub all : stages ++ begun (slice_range actions begin place) copies (stages_from copies (drop place actions)) ≡ stages_from 1 actions

pub staged_at_start : (actions : List Action) → IsStagedTo actions 0 0 1 []
staged_at_start actions = record { in_order = omega arith; all = ap (λ ds. begun ds 1 (stages_from 1 actions)) (slice-none actions 0) }

-- the next action ends the stage
pub staged-settle : (actions : List Action) (begin place copies : ℕ) (stages : List Stage) (d : Action) → IsStagedTo actions begin place copies stages →
    place < length actions → is_settle (get_or actions place d).what ≡ true →
    IsStagedTo actions (suc place) (suc place) (copies_behind copies (get_or actions place d).what)
    (stages ++ ended (slice_range actions begin (suc place)) (budget_in (get_or actions place d).what) (copies_behind copies
    (get_or actions place d).what) ∷ [])
staged-settle actions begin place copies stages d h lt e = record {
  in_order = omega arith;
  all = append_assoc stages (ended (slice_range actions begin (suc place)) (budget_in a.what) behind ∷ []) _
      ∙ ap (λ ds. stages ++ (ended (slice_range actions begin (suc place)) (budget_in a.what) behind ∷ begun ds behind rest)) (slice-none actions (suc place))
      ∙ ap (λ ds. stages ++ (ended ds (budget_in a.what) behind ∷ rest)) (slice-more actions begin place d h.in_order lt)
      ∙ ap (λ ss. stages ++ ss) (sym (begun-settle (slice_range actions begin place) a copies behind rest e))
      ∙ ap (λ ds. stages ++ begun (slice_range actions begin place) copies (stages_from copies ds)) (sym (drop-cons actions place d lt))
      ∙ h.all;
} where
  a : Action
  a = get_or actions place d

  behind : ℕ
  behind = copies_behind copies a.what

  rest : List Stage
  rest = stages_from behind (drop (suc place) actions)

-- the next action goes on with the stage
pub staged-other : (actions : List Action) (begin place copies : ℕ) (stages : List Stage) (d : Action) → IsStagedTo actions begin place copies stages →
    place < length actions → is_settle (get_or actions place d).what ≡ false →
    IsStagedTo actions begin (suc place) (copies_behind copies (get_or actions place d).what) stages
staged-other actions begin place copies stages d h lt e = record {
  in_order = (let le = h.in_order in omega arith);
  all = ap (λ ds. stages ++ begun ds behind rest) (slice-more actions begin place d h.in_order lt)
      ∙ ap (λ ss. stages ++ ss) (sym (begun-other (slice_range actions begin place) a copies behind rest e))
      ∙ ap (λ ds. stages ++ begun (slice_range actions begin place) copies (stages_from copies ds)) (sym (drop-cons actions place d lt))
      ∙ h.all;
} where
  a : Action
  a = get_or actions place d

  behind : ℕ
  behind = copies_behind copies a.what

  rest : List Stage
  rest = stages_from behind (drop (suc place) actions)

-- ---- as the code goes on

-- the next action, and what is found of it
pub record IsNextAction (actions : List Action) (place copies : ℕ) (a : Action) (now : ℕ) : Type 0 where
  pub within : place < length actions
  pub there : a ≡ get_or actions place a
  pub in_force : now ≡ copies_behind copies a.what

next : (place : ℕ) → suc place ≡ place + 1
next place = omega arith

pub settle_found : (actions : List Action) (begin place copies : ℕ) (stages : List Stage) (a : Action) (now : ℕ) →
    IsStagedTo actions begin place copies stages →
    IsNextAction actions place copies a now → is_settle a.what ≡ true →
    IsStagedTo actions (place + 1) (place + 1) now (stages ++ ended (slice_range actions begin (place + 1)) (budget_in a.what) now ∷ [])
settle_found actions begin place copies stages a now h n e =
    subst (λ m. IsStagedTo actions m m now (stages ++ ended (slice_range actions begin m) (budget_in a.what) now ∷ [])) (next place)
    (subst (λ m. IsStagedTo actions (suc place) (suc place) m (stages ++ ended (slice_range actions begin (suc place)) (budget_in a.what) m ∷ []))
    (sym n.in_force)
    (subst
    (λ b.
    IsStagedTo actions (suc place) (suc place) (copies_behind copies b.what)
    (stages ++ ended (slice_range actions begin (suc place)) (budget_in b.what) (copies_behind copies b.what) ∷ [])) (sym n.there)
    (staged-settle actions begin place copies stages a h n.within (subst (λ b. is_settle b.what ≡ true) n.there e))))

pub other_found : (actions : List Action) (begin place copies : ℕ) (stages : List Stage) (a : Action) (now : ℕ) → IsStagedTo actions begin place copies stages →
    IsNextAction actions place copies a now → is_settle a.what ≡ false → IsStagedTo actions begin (place + 1) now stages
other_found actions begin place copies stages a now h n e =
    subst (λ m. IsStagedTo actions begin m now stages) (next place)
    (subst (λ m. IsStagedTo actions begin (suc place) m stages) (sym n.in_force)
    (subst (λ (b : Action). IsStagedTo actions begin (suc place) (copies_behind copies b.what) stages) (sym n.there)
    (staged-other actions begin place copies stages a h n.within (subst (λ b. is_settle b.what ≡ false) n.there e))))

-- where all actions are staged, those from the beginning on are the last stage
left_is : (actions : List Action) (begin place : ℕ) → begin ≤ place → length actions ≤ place → slice_range actions begin place ≡ drop begin actions
left_is actions begin place le end =
    sym (append-nil (slice_range actions begin place))
    ∙ ap (λ ds. slice_range actions begin place ++ ds) (sym (drop_all place actions end))
    ∙ sym (drop_split actions begin place le)

all_left : (actions : List Action) (begin place copies : ℕ) (stages : List Stage) → IsStagedTo actions begin place copies stages → length actions ≤ place →
    stages ++ begun (drop begin actions) copies [] ≡ stages_from 1 actions
all_left actions begin place copies stages h le =
    ap (λ ds. stages ++ begun ds copies []) (sym (left_is actions begin place h.in_order le))
    ∙ ap (λ ds. stages ++ begun (slice_range actions begin place) copies (stages_from copies ds)) (sym (drop_all place actions le))
    ∙ h.all

begun-last : (actions left : List Action) (a : Action) (copies : ℕ) → left ≡ a ∷ actions → begun left copies [] ≡ ended left 0 copies ∷ []
begun-last actions left a copies e = subst (λ ds. begun ds copies [] ≡ ended ds 0 copies ∷ []) (sym e) refl

pub staged_some : (actions : List Action) (begin place copies : ℕ) (stages : List Stage) (d : Action) → IsStagedTo actions begin place copies stages →
    length actions ≤ place → begin < length actions → stages ++ ended (drop begin actions) 0 copies ∷ [] ≡ stages_from 1 actions
staged_some actions begin place copies stages d h le lt =
    ap (λ ss. stages ++ ss) (sym (begun-last (drop (suc begin) actions) (drop begin actions) (get_or actions begin d) copies (drop-cons actions begin d lt)))
    ∙ all_left actions begin place copies stages h le

pub staged_none : (actions : List Action) (begin place copies : ℕ) (stages : List Stage) → IsStagedTo actions begin place copies stages →
    length actions ≤ place →
    length actions ≤ begin → stages ≡ stages_from 1 actions
staged_none actions begin place copies stages h le lt =
    sym (append-nil stages)
    ∙ ap (λ ds. stages ++ begun ds copies []) (sym (drop_all begin actions lt))
    ∙ all_left actions begin place copies stages h le
