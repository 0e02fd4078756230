-- A scenario's nodes and founder are a setting, and nothing of it is played at the start.
use Rattle.std.proofs.Common.{◌≡◌, ◌≢◌, inl, inr, ◌<◌, ℕ, suc, true, false, not, List, [], ◌∷◌, length, slice_index_or, AllPairs, refl, sym, subst, ap, arith}
use Rattle.std.proofs.lemmas.Bool.{cases_Bool, and_from}
use Rattle.ring_math.specs.Sides.{is_in}
use Rattle.ring_math.proofs.Membership.{Contains-is_in}
use Rattle.overlay_rules.specs.Record.{IsSetting, all_differ}
use Rattle.scenario_reader.specs.Plain.{PlainScenario, ids}
use Rattle.scenario_reader.specs.Rules.{KeepsRules}
use Rattle.schedule.specs.Schedule.{setting_of}
use Rattle.schedule.proofs.Playing.{played_at_start}
use Rattle.world_model.specs.Recorded.{setting_of as setting_in}
use Rattle.play_engine.specs.Progress.{Progress, PlaysOn, Plays, progress_at_start}
use Rattle.play_engine.proofs.Deliveries.{skips_few}

not_in : (xs : List ℕ) (x : ℕ) → ((j d : ℕ) → j < length xs → x ≢ slice_index_or xs j d) → is_in xs x ≡ false
not_in xs x h = elim (cases_Bool (is_in xs x)) [ inl e ↦ (let c = Contains-is_in xs x e in absurd (h c.0 x c.1 (sym c.2))) | inr e ↦ e ]

differ : (xs : List ℕ) → AllPairs ◌≢◌ xs → all_differ xs ≡ true
differ [] h = refl
differ (x ∷ xs) h =
    and_from (not (is_in xs x)) (all_differ xs)
    (ap not (not_in xs x (λ j d lt. h 0 (suc j) d (omega arith) (omega arith))))
    (differ xs (λ i j d lt inside. h (suc i) (suc j) d (omega arith) (omega arith)))

pub is_setting : (s : PlainScenario) → KeepsRules s → IsSetting (setting_of s)
is_setting s rules = record { in_ring = rules.nodes.range; differ = differ (ids s.nodes) rules.nodes.ids_differ; founder = rules.founder }

pub is_setting_of : (s : PlainScenario) (nodes : List ℕ) (founder : ℕ) → nodes ≡ ids s.nodes → founder ≡ s.founder → KeepsRules s →
    IsSetting (record { nodes = nodes; founder = founder })
is_setting_of s nodes founder listed founded rules =
    subst (λ ns. IsSetting (record { nodes = ns; founder = founder })) (sym listed)
    (subst (λ x. IsSetting (record { nodes = ids s.nodes; founder = x })) (sym founded) (is_setting s rules))

pub plays_at_start : (s : PlainScenario) → KeepsRules s → Plays s (progress_at_start s)
plays_at_start s rules = record {
  on = record { nodes = refl; founder = refl; newest = λ k d inside. absurd (omega arith); skips = skips_few s rules };
  played = played_at_start s;
}

-- the setting of a player's world is the scenario's
pub same_setting : (s : PlainScenario) (a : Progress) → PlaysOn s a → setting_in a.recorded ≡ setting_of s
same_setting s a h =
    let founded = ap (λ founder. record { nodes = a.recorded.nodes; founder = founder }) h.founder in
    subst (λ nodes. setting_in a.recorded ≡ record { nodes = nodes; founder = s.founder }) h.nodes founded
