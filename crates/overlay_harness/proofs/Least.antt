-- The first of several lines, found one line after another.
use Rattle.std.proofs.Common.{◌≡◌, ◌≤◌, ℕ, zero, suc, ◌+◌, min, Bool, true, false, Option, Some, None, slice_get, List, [], ◌∷◌, ◌++◌, map, filter}
use Rattle.std.proofs.Common.{take, get_or, length, refl, ap, ◌∙◌}
use Rattle.std.proofs.Common.{append-nil, arith}
use Rattle.std.specs.Prelude.{option_to_list}
use Rattle.std.specs.List.{fold}
use Rattle.std.proofs.lemmas.Bool.{cond-true, cond-false}
use Rattle.std.proofs.lemmas.List.{map-append}
use Rattle.std.proofs.lemmas.List.Elements.{filter_more}
use Rattle.std.proofs.lemmas.List.Sums.{fold-append}
use Rattle.scenario_reader.specs.declared.action.Action.{Action}
use Rattle.scenario_reader.specs.declared.node.NodeLine.{NodeLine}
use Rattle.scenario_reader.specs.Plain.{PlainScenario}
use Rattle.overlay_harness.specs.Fault.{choosing_lines, chooses_messages, first_of, first_unfit_line, least, lines_too_many, unfit_lines}
use Rattle.overlay_harness.specs.declared.limits.TheConstants.{MOST_RUN_NODES}

pub least-push : (lines : List ℕ) (line : ℕ) → least (lines ++ line ∷ []) ≡ Some (first_of (least lines) line)
least-push [] line = refl
least-push (first ∷ lines) line = ap Some (fold-append min first lines (line ∷ []))

abbrev chooses : Action → Bool
chooses a = chooses_messages a.what

pub lines-chosen : (actions : List Action) (i : ℕ) (d : Action) → suc i ≤ length actions → chooses_messages (get_or actions i d).what ≡ true →
    choosing_lines (take (i + 1) actions) ≡ choosing_lines (take i actions) ++ (get_or actions i d).line ∷ []
lines-chosen actions i d lt e =
    ap (map (λ (a : Action). a.line)) (filter_more chooses actions i d lt
    ∙ ap (λ ds. filter chooses (take i actions) ++ ds) (cond-true (chooses (get_or actions i d)) _ _ e))
    ∙ map-append (λ (a : Action). a.line) (filter chooses (take i actions)) (get_or actions i d ∷ [])

pub lines-other : (actions : List Action) (i : ℕ) (d : Action) → suc i ≤ length actions → chooses_messages (get_or actions i d).what ≡ false →
    choosing_lines (take (i + 1) actions) ≡ choosing_lines (take i actions)
lines-other actions i d lt e =
    ap (map (λ (a : Action). a.line))
    (filter_more chooses actions i d lt
    ∙ ap (λ ds. filter chooses (take i actions) ++ ds) (cond-false (chooses (get_or actions i d)) _ _ e)
    ∙ append-nil (filter chooses (take i actions)))

-- ---- a scenario without such a line

least_none : (lines : List ℕ) → least lines ≡ None → lines ≡ []
least_none [] e = refl
least_none (line ∷ lines) e = absurd (let some : Some (fold min line lines) ≡ None = e in cc)

none_behind : {A : Type 0} (xs ys : List A) → xs ++ ys ≡ [] → ys ≡ []
none_behind [] ys e = e
none_behind (x ∷ xs) ys e = absurd (let some : x ∷ (xs ++ ys) ≡ [] = e in cc)

none_there : (o : Option NodeLine) → map (λ (n : NodeLine). n.line) (option_to_list o) ≡ [] → o ≡ None
none_there None e = refl
none_there (Some n) e = absurd (let some : n.line ∷ [] ≡ [] = e in cc)

-- what stands at no place is past the end
pub none_past : {A : Type 0} (xs : List A) (k : ℕ) → slice_get xs k ≡ None → length xs ≤ k
none_past [] k e = omega arith
none_past (x ∷ xs) zero e = absurd (let some : Some x ≡ None = e in cc)
none_past (x ∷ xs) (suc k) e = let rest = none_past xs k e in omega arith

-- has no more nodes than a run has
pub few_nodes : (s : PlainScenario) → first_unfit_line s ≡ None → length s.nodes ≤ MOST_RUN_NODES
few_nodes s e =
    none_past s.nodes MOST_RUN_NODES
    (none_there (slice_get s.nodes MOST_RUN_NODES)
    (none_behind (choosing_lines s.actions) (lines_too_many s.nodes) (least_none (unfit_lines s) e)))
