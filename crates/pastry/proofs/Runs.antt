-- How a run by threads can end: by its causes, what a source has is run, or its first line that a run can't have is named.
use Rattle.std.proofs.Common.{◌≡◌, ℕ, List, take, Option, Some, None, IfSome, Result, Ok, Err, refl, subst, ap, ◌∙◌, inl, inr}
use Rattle.scenario_reader.specs.declared.fault.LineFault.{LineFault}
use Rattle.scenario_reader.specs.Plain.{PlainScenario}
use Rattle.scenario_reader.specs.Grammar.{scenario_of}
use Rattle.overlay_harness.specs.declared.fault.RunFault.{RunFault}
use Rattle.overlay_harness.specs.declared.fault.RunFault.TheVariants as run_fault
use Rattle.overlay_harness.specs.Fault.{first_unfit_line}
use Rattle.pastry.specs.declared.reading.TheConstants.{INPUT_LIMIT}
use Rattle.pastry.specs.declared.outcome.TopFault.{TopFault}
use Rattle.pastry.specs.declared.outcome.TopFault.TheVariants as fault
use Rattle.pastry.specs.Faults.{IsRunningFault}
use Rattle.pastry.specs.Reading.{IsRefused, IsScenario}
use Rattle.pastry.specs.Unfit.{HasUnfitLine, IsUnfit}
use Rattle.pastry.specs.Due.{DoneOr, IsRunRightly}
use Rattle.pastry.proofs.Endings.{not_refused, read_bytes, refused_bytes, same_fault, whole_scenario}

-- what was read is a scenario that can be run
pub record WasFit (left left_after : Option (List ℕ)) : Type 0 where
  pub scenario : PlainScenario
  pub read : IsScenario left left_after scenario
  pub fit : first_unfit_line scenario ≡ None

-- what the clauses of a run by threads say of its fault
pub record Causes (left left_after : Option (List ℕ)) (rose_source rose_sink : Type 0) (answered : Option TopFault) : Type 0 where
  pub kind : IfSome answered IsRunningFault
  pub done : answered ≡ None → WasFit left left_after
  pub refused : (f : LineFault) → answered ≡ Some (fault.Scenario f) → IsRefused left left_after f
  pub unfit : (f : RunFault) → answered ≡ Some (fault.Run f) → IsUnfit left left_after f
  pub unread : answered ≡ Some fault.Read → rose_source
  pub unwritten : answered ≡ Some fault.Write → rose_sink

-- how it ended, where no device failed
data Ended (left left_after : Option (List ℕ)) (answered : Option TopFault) : Type 0 where
  Run : (read : WasFit left left_after) (is : answered ≡ None) → Ended left left_after answered
  Refused : (f : LineFault) (read : IsRefused left left_after f) (is : answered ≡ Some (fault.Scenario f)) → Ended left left_after answered
  Unfit : (line : ℕ) (read : HasUnfitLine left left_after line) (is : answered ≡ Some (fault.Run (run_fault.NotForRun line))) → Ended left left_after answered
  Short : (is : answered ≡ Some fault.OutOfMemory) → Ended left left_after answered

-- what is said of languages, said of scenarios
no_refusal : (xs : List ℕ) (s : PlainScenario) (f : LineFault) → scenario_of xs ≡ Ok s → scenario_of (take INPUT_LIMIT xs) ≡ Err f → ⊥
no_refusal xs s f is refused = not_refused scenario_of INPUT_LIMIT whole_scenario xs s f is refused

was_there : (xs : List ℕ) (left left_after : Option (List ℕ)) (s : PlainScenario) → left ≡ Some xs → IsScenario left left_after s → scenario_of xs ≡ Ok s
was_there xs left left_after s e read = read_bytes scenario_of INPUT_LIMIT xs left left_after s e read

was_refused : (xs : List ℕ) (left left_after : Option (List ℕ)) (f : LineFault) → left ≡ Some xs → IsRefused left left_after f →
    scenario_of (take INPUT_LIMIT xs) ≡ Err f
was_refused xs left left_after f e read = refused_bytes scenario_of INPUT_LIMIT xs left left_after f e read

same : {f g : LineFault} {r : Result PlainScenario LineFault} → r ≡ Err f → r ≡ Err g → f ≡ g
same e h = same_fault scenario_of INPUT_LIMIT e h

same_scenario : (s t : PlainScenario) (xs : List ℕ) → scenario_of xs ≡ Ok s → scenario_of xs ≡ Ok t → s ≡ t
same_scenario s t xs e h = cc

same_line : {m n : ℕ} {found : Option ℕ} → found ≡ Some m → found ≡ Some n → m ≡ n
same_line e h = cc

none_is_some : {n : ℕ} {found : Option ℕ} → found ≡ None → found ≡ Some n → ⊥
none_is_some e h = cc

module _ (left left_after : Option (List ℕ)) (rose_source rose_sink : Type 0) where
  ended : (answered : Option TopFault) → Causes left left_after rose_source rose_sink answered → (rose_source → ⊥) → (rose_sink → ⊥) →
      Ended left left_after answered
  ended None c source sink = Run (c.done refl) refl
  ended (Some (fault.Scenario f)) c source sink = Refused f (c.refused f refl) refl
  ended (Some (fault.Run (run_fault.NotForRun line))) c source sink = Unfit line (c.unfit (run_fault.NotForRun line) refl) refl
  ended (Some (fault.Run run_fault.OutOfMemory)) c source sink = absurd (c.unfit run_fault.OutOfMemory refl)
  ended (Some fault.Read) c source sink = absurd (source (c.unread refl))
  ended (Some fault.Write) c source sink = absurd (sink (c.unwritten refl))
  ended (Some fault.OutOfMemory) c source sink = Short refl
  ended (Some fault.Usage) c source sink = absurd c.kind
  ended (Some (fault.Trace f)) c source sink = absurd c.kind
  ended (Some (fault.Wrong entry part)) c source sink = absurd c.kind

  -- the unfit line of what was read is that of what was there
  line_of_read : (xs : List ℕ) (s : PlainScenario) (line : ℕ) → left ≡ Some xs → scenario_of xs ≡ Ok s → HasUnfitLine left left_after line →
      first_unfit_line s ≡ Some line
  line_of_read xs s line e is read =
      subst (λ (t : PlainScenario). first_unfit_line t ≡ Some line)
      (same_scenario read.scenario s xs (was_there xs left left_after read.scenario e read.read) is) read.first

  fit_as_read : (xs : List ℕ) (s : PlainScenario) → left ≡ Some xs → scenario_of xs ≡ Ok s → WasFit left left_after → first_unfit_line s ≡ None
  fit_as_read xs s e is read =
      subst (λ (t : PlainScenario). first_unfit_line t ≡ None)
      (same_scenario read.scenario s xs (was_there xs left left_after read.scenario e read.read) is) read.fit

  runs : (answered : Option TopFault) → Ended left left_after answered → (xs : List ℕ) (s : PlainScenario) → left ≡ Some xs → scenario_of xs ≡ Ok s →
      first_unfit_line s ≡ None → DoneOr answered None
  runs answered (Run read is) xs s e scenario fit = inl is
  runs answered (Refused f read is) xs s e scenario fit = absurd (no_refusal xs s f scenario (was_refused xs left left_after f e read))
  runs answered (Unfit line read is) xs s e scenario fit = absurd (none_is_some fit (line_of_read xs s line e scenario read))
  runs answered (Short is) xs s e scenario fit = inr is

  names : (answered : Option TopFault) → Ended left left_after answered → (xs : List ℕ) (s : PlainScenario) (line : ℕ) → left ≡ Some xs →
      scenario_of xs ≡ Ok s → first_unfit_line s ≡ Some line → DoneOr answered (Some (fault.Run (run_fault.NotForRun line)))
  names answered (Run read is) xs s line e scenario unfit = absurd (none_is_some (fit_as_read xs s e scenario read) unfit)
  names answered (Refused f read is) xs s line e scenario unfit = absurd (no_refusal xs s f scenario (was_refused xs left left_after f e read))
  names answered (Unfit other read is) xs s line e scenario unfit =
      inl (is ∙ ap (λ n. Some (fault.Run (run_fault.NotForRun n))) (same_line (line_of_read xs s other e scenario read) unfit))
  names answered (Short is) xs s line e scenario unfit = inr is

  refuses : (answered : Option TopFault) → Ended left left_after answered → (xs : List ℕ) (f : LineFault) → left ≡ Some xs →
      scenario_of (take INPUT_LIMIT xs) ≡ Err f → DoneOr answered (Some (fault.Scenario f))
  refuses answered (Run read is) xs f e none =
      absurd (no_refusal xs read.scenario f (was_there xs left left_after read.scenario e read.read) none)
  refuses answered (Refused g read is) xs f e none =
      inl (is ∙ ap (λ (h : LineFault). Some (fault.Scenario h)) (same (was_refused xs left left_after g e read) none))
  refuses answered (Unfit line read is) xs f e none =
      absurd (no_refusal xs read.scenario f (was_there xs left left_after read.scenario e read.read) none)
  refuses answered (Short is) xs f e none = inr is

  -- what a source has is run, or it is told why not
  pub is_run_rightly : (answered : Option TopFault) → Causes left left_after rose_source rose_sink answered → (rose_source → ⊥) → (rose_sink → ⊥) →
      IsRunRightly left answered
  is_run_rightly answered c source sink = let end = ended answered c source sink in
      record { run = runs answered end; unfit = names answered end; refused = refuses answered end }
