-- A scenario's commands are numbered, and the list of what they fetch has each at its number.
use Rattle.std.proofs.Common.{◌≡◌, suc, ◌+◌, Option, Some, None, List, [], ◌∷◌, ◌++◌, Contains, length, option_and_then, refl, sym, subst}
use Rattle.std.proofs.Common.{ap, ◌∙◌, append_assoc, length-append, arith}
use Rattle.std.proofs.lemmas.List.Elements.{Contains-append_right}
use Rattle.lru.proofs.Pairs.{slice_get-cut}
use Rattle.ring_math.specs.Names.{FileId}
use Rattle.overlay_rules.specs.Played.{Action as Act, Command}
use Rattle.scenario_reader.specs.declared.action.Action.{Action}
use Rattle.scenario_reader.specs.declared.action.What.{What}
use Rattle.scenario_reader.specs.declared.action.What.TheVariants as what
use Rattle.scenario_reader.specs.declared.node.FileLine.{FileLine}
use Rattle.scenario_reader.specs.declared.node.NodeLine.{NodeLine}
use Rattle.scenario_reader.specs.declared.tally.Tally.{Tally}
use Rattle.scenario_reader.specs.Plain.{PlainScenario}
use Rattle.scenario_reader.specs.Rules.{AreActions, IsWhat, KeepsRules}
use Rattle.scenario_reader.specs.Tallies.{start, tallied}
use Rattle.schedule.specs.Schedule.{act_of, acts_of}
use Rattle.fetch_cache.specs.Turns.{fetched, fetched_by, fetches_in, fetches_of}
use Rattle.file_laws.proofs.Hitting.{AreNumbered}

-- the list has the next command behind those before it
listed_next : (before behind : List (Option FileId)) (o : Option FileId) → fetched_by (before ++ o ∷ behind) (length before + 1) ≡ o
listed_next before behind o =
    let next : length before + 1 ≡ suc (length before) = omega arith in
    ap (fetched_by (before ++ o ∷ behind)) next ∙ ap (option_and_then (λ file. file)) (slice_get-cut before o behind) ∙ same o
  where
    same : (o : Option FileId) → option_and_then (λ file. file) (Some o) ≡ o
    same None = refl
    same (Some file) = refl

here : {A : Type 0} (before : List A) (x : A) (behind : List A) → Contains (before ++ x ∷ behind) x
here before x behind = Contains-append_right before (x ∷ behind) x (0, omega arith, refl)

-- of actions that keep the rules behind others, whose fetches and acts are these
numbered_from : (nodes : List NodeLine) (files : List FileLine) (tally : Tally) (actions : List Action) (fetches before : List (Option FileId))
    (all acts : List Act) → AreActions nodes files tally actions → tally.commands ≡ length before → fetches ≡ before ++ fetches_of actions →
    all ≡ acts ++ acts_of actions → AreNumbered fetches all (tally.commands + 1) (acts_of actions)
numbered_from nodes files tally [] fetches before all acts rules count is are = tt
numbered_from nodes files tally (action ∷ actions) fetches before all acts rules count is are =
    by action.what rules.0.allowed is are
    (λ now next c a b. numbered_from nodes files (tallied tally action.what) actions fetches next all now rules.1 c a b)
  where
    moved : (w : What) (next : List (Option FileId)) → all ≡ acts ++ act_of w ∷ acts_of actions → all ≡ (acts ++ act_of w ∷ []) ++ acts_of actions
    moved w next are = are ∙ sym (append_assoc acts (act_of w ∷ []) (acts_of actions))

    by : (w : What) → IsWhat nodes files tally w → fetches ≡ before ++ (fetches_in w ++ fetches_of actions) → all ≡ acts ++ act_of w ∷ acts_of actions →
        ((now : List Act) (next : List (Option FileId)) → (tallied tally w).commands ≡ length next → fetches ≡ next ++ fetches_of actions →
        all ≡ now ++ acts_of actions → AreNumbered fetches all ((tallied tally w).commands + 1) (acts_of actions)) →
        AreNumbered fetches all (tally.commands + 1) (act_of w ∷ acts_of actions)
    by (what.Command number node c) allowed is are rest =
        let place : tally.commands + 1 ≡ length before + 1 = omega arith in
        let longer : tally.commands + 1 ≡ length (before ++ fetched c ∷ []) = let long = length-append before (fetched c ∷ []) in omega arith in (
          allowed.0,
          (
            ap (fetched_by fetches) place ∙ ap (λ fs. fetched_by fs (length before + 1)) is ∙ listed_next before (fetches_of actions) (fetched c),
            (
              subst (λ xs. Contains xs (Command node number c)) (sym are) (here acts (Command node number c) (acts_of actions)),
              rest (acts ++ Command node number c ∷ []) (before ++ fetched c ∷ []) longer
                  (is ∙ sym (append_assoc before (fetched c ∷ []) (fetches_of actions))) (moved (what.Command number node c) before are),
            ),
          ),
        )
    by (what.Settle n) allowed is are rest = rest (acts ++ act_of (what.Settle n) ∷ []) before count is (moved (what.Settle n) before are)
    by (what.Deliver m) allowed is are rest = rest (acts ++ act_of (what.Deliver m) ∷ []) before count is (moved (what.Deliver m) before are)
    by (what.Shuffle seed n) allowed is are rest = rest (acts ++ act_of (what.Shuffle seed n) ∷ []) before count is (moved (what.Shuffle seed n) before are)
    by (what.Dup n) allowed is are rest = rest (acts ++ act_of (what.Dup n) ∷ []) before count is (moved (what.Dup n) before are)
    by (what.Noise node bytes) allowed is are rest =
        rest (acts ++ act_of (what.Noise node bytes) ∷ []) before count is (moved (what.Noise node bytes) before are)

pub scenario_numbered : (s : PlainScenario) → KeepsRules s → AreNumbered (fetches_of s.actions) (acts_of s.actions) 1 (acts_of s.actions)
scenario_numbered s rules =
    numbered_from s.nodes s.files start s.actions (fetches_of s.actions) [] (acts_of s.actions) [] rules.actions refl refl refl
