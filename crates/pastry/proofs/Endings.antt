-- How a run that reads a scenario or a script of groups can end: by its causes, what a source has is answered; and a scenario that
-- is made is played.
use Rattle.std.proofs.Common.{◌≡◌, ℕ, List, take, Option, Some, None, IfSome, Result, Ok, Err, refl, subst, ap, ◌∙◌, inl, inr, arith}
use Rattle.std.proofs.lemmas.List.{take_all}
use Rattle.scenario_reader.specs.declared.fault.LineFault.{LineFault}
use Rattle.scenario_reader.specs.Plain.{PlainScenario}
use Rattle.scenario_reader.specs.Grammar.{scenario_of}
use Rattle.scenario_reader.proofs.Sizes.{scenario-sized}
use Rattle.group_reader.specs.Grammar.{groups_of}
use Rattle.group_reader.specs.Plain.{PlainScript}
use Rattle.group_reader.proofs.Sizes.{script-sized}
use Rattle.pastry.specs.declared.reading.TheConstants.{INPUT_LIMIT, SCRIPT_LIMIT}
use Rattle.pastry.specs.declared.outcome.TopFault.{TopFault}
use Rattle.pastry.specs.declared.outcome.TopFault.TheVariants as fault
use Rattle.pastry.specs.Faults.{IsMakingFault, IsPlayingFault, IsServingFault}
use Rattle.pastry.specs.Reading.{IsReadAs, IsRefusedBy}
use Rattle.pastry.specs.Due.{DoneOr, IsAnsweredBy}

-- ---- what was read, and what the source had

-- in a language, of which the first bytes up to a limit are read
module _ {A : Type 0} (language : List ℕ → Result A LineFault) (limit : ℕ) where
  -- the bytes that were read and refused are the first of those that were there
  pub refused_bytes : (xs : List ℕ) (left left_after : Option (List ℕ)) (f : LineFault) → left ≡ Some xs →
      IsRefusedBy language limit left left_after f → language (take limit xs) ≡ Err f
  refused_bytes xs None after f e r = cc
  refused_bytes xs (Some ys) None f e r = absurd r.read.told.bytes
  refused_bytes xs (Some ys) (Some zs) f e r =
      let same : ys ≡ xs = cc in
      subst (λ (bs : List ℕ). language bs ≡ Err f) (r.read.told.bytes.0 ∙ ap (take limit) same) r.refused

  -- what was read is that which was there
  pub read_bytes : (xs : List ℕ) (left left_after : Option (List ℕ)) (s : A) → left ≡ Some xs → IsReadAs language left left_after s → language xs ≡ Ok s
  read_bytes xs None after s e r = cc
  read_bytes xs (Some ys) None s e r = absurd r.read.told.bytes
  read_bytes xs (Some ys) (Some zs) s e r =
      let same : ys ≡ xs = cc in
      subst (λ (bs : List ℕ). language bs ≡ Ok s) (r.read.told.bytes.0 ∙ same) r.is

  -- what the language has is no longer than what is read
  abbrev pub IsShort : Type 0
  IsShort = (xs : List ℕ) (s : A) → language xs ≡ Ok s → take limit xs ≡ xs

  not_both : {s : A} {f : LineFault} {r : Result A LineFault} → r ≡ Ok s → r ≡ Err f → ⊥
  not_both e g = cc

  -- what is in the language is not refused
  pub not_refused : IsShort → (xs : List ℕ) (s : A) (f : LineFault) → language xs ≡ Ok s → language (take limit xs) ≡ Err f → ⊥
  not_refused short xs s f is refused = not_both (ap language (short xs s is) ∙ is) refused

  pub same_fault : {f g : LineFault} {r : Result A LineFault} → r ≡ Err f → r ≡ Err g → f ≡ g
  same_fault e h = cc

-- a scenario is no longer than what is read
pub whole_scenario : (xs : List ℕ) (s : PlainScenario) → scenario_of xs ≡ Ok s → take INPUT_LIMIT xs ≡ xs
whole_scenario xs s e = let size = scenario-sized xs s e in take_all INPUT_LIMIT xs (omega arith)

-- and neither is a script of groups
pub whole_script : (xs : List ℕ) (s : PlainScript) → groups_of xs ≡ Ok s → take SCRIPT_LIMIT xs ≡ xs
whole_script xs s e = let size = script-sized xs s e in take_all SCRIPT_LIMIT xs (omega arith)

-- ---- what is read and played

-- what the clauses of such a run say of its fault
pub record Causes {A : Type 0} (language : List ℕ → Result A LineFault) (limit : ℕ) (left left_after : Option (List ℕ)) (rose_source rose_sink : Type 0)
    (answered : Option TopFault) : Type 0 where
  pub kind : IfSome answered IsPlayingFault
  pub done : answered ≡ None → (s : A) × IsReadAs language left left_after s
  pub refused : (f : LineFault) → answered ≡ Some (fault.Scenario f) → IsRefusedBy language limit left left_after f
  pub unread : answered ≡ Some fault.Read → rose_source
  pub unwritten : answered ≡ Some fault.Write → rose_sink

-- how it ended, where no device failed
data Ended {A : Type 0} (language : List ℕ → Result A LineFault) (limit : ℕ) (left left_after : Option (List ℕ)) (answered : Option TopFault) : Type 0 where
  Played : (s : A) (read : IsReadAs language left left_after s) (is : answered ≡ None) → Ended language limit left left_after answered
  Refused : (f : LineFault) (read : IsRefusedBy language limit left left_after f) (is : answered ≡ Some (fault.Scenario f)) →
      Ended language limit left left_after answered
  Short : (is : answered ≡ Some fault.OutOfMemory) → Ended language limit left left_after answered

module _ {A : Type 0} (language : List ℕ → Result A LineFault) (limit : ℕ) (short : IsShort language limit) (left left_after : Option (List ℕ))
    (rose_source rose_sink : Type 0) where
  ended : (answered : Option TopFault) → Causes language limit left left_after rose_source rose_sink answered → (rose_source → ⊥) → (rose_sink → ⊥) →
      Ended language limit left left_after answered
  ended None c source sink = let done = c.done refl in Played done.0 done.1 refl
  ended (Some (fault.Scenario f)) c source sink = Refused f (c.refused f refl) refl
  ended (Some fault.Read) c source sink = absurd (source (c.unread refl))
  ended (Some fault.Write) c source sink = absurd (sink (c.unwritten refl))
  ended (Some fault.OutOfMemory) c source sink = Short refl
  ended (Some fault.Usage) c source sink = absurd c.kind
  ended (Some (fault.Trace f)) c source sink = absurd c.kind
  ended (Some (fault.Run f)) c source sink = absurd c.kind
  ended (Some (fault.Wrong entry part)) c source sink = absurd c.kind

  plays : (answered : Option TopFault) → Ended language limit left left_after answered → (xs : List ℕ) → left ≡ Some xs →
      (s : A) → language xs ≡ Ok s → DoneOr answered None
  plays answered (Played r read is) xs e s has = inl is
  plays answered (Refused f read is) xs e s has =
      absurd (not_refused language limit short xs s f has (refused_bytes language limit xs left left_after f e read))
  plays answered (Short is) xs e s has = inr is

  refuses : (answered : Option TopFault) → Ended language limit left left_after answered → (xs : List ℕ) → left ≡ Some xs →
      (f : LineFault) → language (take limit xs) ≡ Err f → DoneOr answered (Some (fault.Scenario f))
  refuses answered (Played s read is) xs e f none =
      absurd (not_refused language limit short xs s f (read_bytes language limit xs left left_after s e read) none)
  refuses answered (Refused g read is) xs e f none =
      inl (is ∙ ap (λ (h : LineFault). Some (fault.Scenario h))
      (same_fault language limit (refused_bytes language limit xs left left_after g e read) none))
  refuses answered (Short is) xs e f none = inr is

  -- what a source has is answered
  pub answers : (answered : Option TopFault) → Causes language limit left left_after rose_source rose_sink answered → (rose_source → ⊥) → (rose_sink → ⊥) →
      IsAnsweredBy language limit left answered
  answers answered c source sink xs e = let end = ended answered c source sink in (plays answered end xs e, refuses answered end xs e)

-- ---- a scenario that is made

-- where no sink fails, what is made is played
pub made_is_played : (rose_sink : Type 0) (answered : Option TopFault) → IfSome answered IsMakingFault → (answered ≡ Some fault.Write → rose_sink) →
    (rose_sink → ⊥) → DoneOr answered None
made_is_played rose_sink None kind unwritten sink = inl refl
made_is_played rose_sink (Some fault.Write) kind unwritten sink = absurd (sink (unwritten refl))
made_is_played rose_sink (Some fault.OutOfMemory) kind unwritten sink = inr refl
made_is_played rose_sink (Some fault.Usage) kind unwritten sink = absurd kind
made_is_played rose_sink (Some (fault.Scenario f)) kind unwritten sink = absurd kind
made_is_played rose_sink (Some (fault.Trace f)) kind unwritten sink = absurd kind
made_is_played rose_sink (Some fault.Read) kind unwritten sink = absurd kind
made_is_played rose_sink (Some (fault.Run f)) kind unwritten sink = absurd kind
made_is_played rose_sink (Some (fault.Wrong entry part)) kind unwritten sink = absurd kind

-- ---- a node that is served

-- where no device fails, a node is served to the end of its input
pub service_is_done : (rose_source rose_sink : Type 0) (answered : Option TopFault) → IfSome answered IsServingFault →
    (answered ≡ Some fault.Read → rose_source) → (answered ≡ Some fault.Write → rose_sink) → (rose_source → ⊥) → (rose_sink → ⊥) → DoneOr answered None
service_is_done rose_source rose_sink None kind unread unwritten source sink = inl refl
service_is_done rose_source rose_sink (Some fault.Read) kind unread unwritten source sink = absurd (source (unread refl))
service_is_done rose_source rose_sink (Some fault.Write) kind unread unwritten source sink = absurd (sink (unwritten refl))
service_is_done rose_source rose_sink (Some fault.OutOfMemory) kind unread unwritten source sink = inr refl
service_is_done rose_source rose_sink (Some fault.Usage) kind unread unwritten source sink = absurd kind
service_is_done rose_source rose_sink (Some (fault.Scenario f)) kind unread unwritten source sink = absurd kind
service_is_done rose_source rose_sink (Some (fault.Trace f)) kind unread unwritten source sink = absurd kind
service_is_done rose_source rose_sink (Some (fault.Run f)) kind unread unwritten source sink = absurd kind
service_is_done rose_source rose_sink (Some (fault.Wrong entry part)) kind unread unwritten source sink = absurd kind
