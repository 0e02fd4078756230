-- What holds in the mode that a run is in.
use Rattle.std.proofs.Common.{◌≡◌, ◌⊎◌, inl, inr, ℕ, List, Option, Some, IfSome, subst, sym}
use Rattle.overlay_rules.specs.declared.entry.Record.{Record}
use Rattle.cli_words.specs.declared.mode.Mode.{Mode}
use Rattle.cli_words.specs.declared.mode.Mode.TheVariants.{Play, Run, Big, Trace, TraceRun, Check, Points, Large, Messages, Groups, Draw, OneNode}
use Rattle.pastry.specs.declared.outcome.TopFault.{TopFault}
use Rattle.pastry.specs.Due.{IsDue}
use Rattle.pastry.specs.Runs.{IsAtItsText, IsDone, IsFoundWrongIn, IsRefusedIn, ReadsInput}
use Rattle.scenario_reader.specs.declared.fault.LineFault.{LineFault}
use Rattle.trace_check.specs.declared.verdict.Part.{Part}

-- what is done in one mode is done in that which is the same
pub done_in : {S : Type 0} (mode named : Mode) → mode ≡ named → (left : S → Option (List ℕ)) (before after : S) (W : List ℕ → Type 0)
    (told : Option Record) → IsDone named left before after W told → IsDone mode left before after W told
done_in mode named is left before after W told done = subst (λ (m : Mode). IsDone m left before after W told) (sym is) done

pub due_in : (mode named : Mode) → mode ≡ named → (source_fails sink_fails : Type 0) (left : Option (List ℕ)) (answered : Option TopFault) →
    IsDue named source_fails sink_fails left answered → IsDue mode source_fails sink_fails left answered
due_in mode named is source sink left answered due = subst (λ (m : Mode). IsDue m source sink left answered) (sym is) due

-- and the same of its text
pub at_its_text_in : {S : Type 0} (mode named : Mode) → mode ≡ named → (left : S → Option (List ℕ)) (before after : S) (W : List ℕ → Type 0)
    (told : Option Record) → IsAtItsText named left before after W told → IsAtItsText mode left before after W told
at_its_text_in mode named is left before after W told done = subst (λ (m : Mode). IsAtItsText m left before after W told) (sym is) done

pub refused_in : (mode named : Mode) → mode ≡ named → (before after : Option (List ℕ)) (f : LineFault) → IsRefusedIn named before after f →
    IsRefusedIn mode before after f
refused_in mode named is before after f refused = subst (λ (m : Mode). IsRefusedIn m before after f) (sym is) refused

pub found_wrong_in : (mode named : Mode) → mode ≡ named → (before after : Option (List ℕ)) (W : List ℕ → Type 0) (told : Option Record) (entry : ℕ) (p : Part) →
    IsFoundWrongIn named before after W told entry p → IsFoundWrongIn mode before after W told entry p
found_wrong_in mode named is before after W told entry p wrong =
    subst (λ (m : Mode). IsFoundWrongIn m before after W told entry p) (sym is) wrong

-- a fault that came is of the kind that can
pub of_kind : (K : TopFault → Type 0) (answered : Option TopFault) (f : TopFault) → answered ≡ Some f → IfSome answered K → K f
of_kind K answered f e kind = subst (λ (a : Option TopFault). IfSome a K) e kind

-- a mode reads its input, or has none
pub reads_or_not : (mode : Mode) → ReadsInput mode ⊎ (ReadsInput mode → ⊥)
reads_or_not Play = inl tt
reads_or_not Run = inl tt
reads_or_not (Big nodes seed) = inr (λ h. h)
reads_or_not Trace = inl tt
reads_or_not TraceRun = inl tt
reads_or_not Check = inl tt
reads_or_not (Points room) = inl tt
reads_or_not (Large nodes seed size) = inr (λ h. h)
reads_or_not Messages = inl tt
reads_or_not Groups = inl tt
reads_or_not (Draw from entries) = inl tt
reads_or_not OneNode = inl tt
