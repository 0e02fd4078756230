-- How a run that checks a trace can end: by its causes, of what a source has the verdict is told.
use Rattle.std.proofs.Common.{◌≡◌, ◌≤◌, ℕ, List, length, take, Option, Some, None, IfSome, refl, sym, subst, ap, ◌∙◌, inl, inr, arith}
use Rattle.std.proofs.lemmas.List.{take_all}
use Rattle.overlay_rules.specs.declared.entry.Record.{Record}
use Rattle.overlay_rules.specs.Record.{world_after}
use Rattle.step_facts.specs.ReadyCount.{ready_count}
use Rattle.trace_text.specs.declared.fault.TraceFault.{TraceFault}
use Rattle.trace_text.specs.declared.fault.TraceFault.TheVariants as trace_fault
use Rattle.trace_text.specs.declared.limits.TheConstants.{MOST_TRACE_BYTES}
use Rattle.trace_text.specs.Traces.{IsTraceOf, PlainTrace, setting_of}
use Rattle.trace_text.proofs.Unique.{no_fault, one_fault, one_trace}
use Rattle.trace_check.specs.declared.verdict.Part.{Part}
use Rattle.trace_check.specs.declared.verdict.Verdict.{Verdict}
use Rattle.trace_check.specs.declared.verdict.Verdict.TheVariants as verdict
use Rattle.trace_check.specs.Verdicts.{IsVerdict}
use Rattle.trace_check.proofs.Reaching.{one_verdict}
use Rattle.pastry.specs.declared.checking.TheConstants.{TRACE_LIMIT}
use Rattle.pastry.specs.declared.outcome.TopFault.{TopFault}
use Rattle.pastry.specs.declared.outcome.TopFault.TheVariants as fault
use Rattle.pastry.specs.Faults.{IsCheckingFault}
use Rattle.pastry.specs.Checked.{HasChecked, HasFoundWrong, HasJudged, IsFaultOf, IsNoTrace, IsReadTrace}
use Rattle.pastry.specs.Judged.{IsJudged, handed_out}
use Rattle.pastry.specs.Due.{DoneOr, IsJudgedRightly, fault_of}

-- a trace was read, and this is the verdict on it
pub record WasJudged (left left_after : Option (List ℕ)) (v : Verdict) : Type 0 where
  pub trace : PlainTrace
  pub read : IsReadTrace left left_after trace
  pub is : IsVerdict (setting_of trace.nodes trace.founder) trace.entries v

pub judged_legal : (told : PlainTrace → Verdict → List ℕ) (left left_after : Option (List ℕ)) (W : List ℕ → Type 0) (checked : Option Record) →
    HasChecked told left left_after W checked →
    (ready : ℕ) × WasJudged left left_after (verdict.Legal ready)
judged_legal told left left_after W checked h =
    let g = setting_of h.trace.nodes h.trace.founder in
    (ready_count g (world_after g h.trace.entries (length h.trace.entries)), record { trace = h.trace; read = h.read; is = (h.legal.legal, refl) })

pub judged_wrong : (told : PlainTrace → Verdict → List ℕ) (left left_after : Option (List ℕ)) (W : List ℕ → Type 0) (checked : Option Record) (entry : ℕ)
    (p : Part) → HasFoundWrong told left left_after W checked entry p → WasJudged left left_after (verdict.Wrong entry p)
judged_wrong told left left_after W checked entry p h = record { trace = h.trace; read = h.read; is = h.wrong }

-- what was judged is told, and W says what became of the text
pub has_judged : (told : PlainTrace → Verdict → List ℕ) (left left_after : Option (List ℕ)) (W : List ℕ → Type 0) (checked : Option Record) (t : PlainTrace)
    (v : Verdict) (r : Record) (text : List ℕ) → IsReadTrace left left_after t → IsJudged told t v r text → checked ≡ handed_out v r → W text →
    HasJudged told left left_after W checked
has_judged told left left_after W checked t (verdict.Legal ready) r text read j same w = inl (record {
  trace = t;
  record_of = r;
  read = read;
  entries = j.entries;
  skipped = j.skipped;
  legal = j.headed.0;
  headline = j.headed.1;
  same = same;
  written = subst W (j.is_text ∙ ap (λ (n : ℕ). told t (verdict.Legal n)) j.is_verdict.1) w;
})
has_judged told left left_after W checked t (verdict.Wrong entry p) r text read j same w =
    inr (entry, (p, record { trace = t; read = read; wrong = j.is_verdict; none = same; written = subst W j.is_text w }))

-- what the clauses of a run that checks a trace say of its fault
pub record Causes (left left_after : Option (List ℕ)) (rose_source rose_sink : Type 0) (answered : Option TopFault) : Type 0 where
  pub kind : IfSome answered IsCheckingFault
  pub legal : answered ≡ None → (ready : ℕ) × WasJudged left left_after (verdict.Legal ready)
  pub wrong : (entry : ℕ) (p : Part) → answered ≡ Some (fault.Wrong entry p) → WasJudged left left_after (verdict.Wrong entry p)
  pub refused : (f : TraceFault) → answered ≡ Some (fault.Trace f) → IsNoTrace left left_after f
  pub unread : answered ≡ Some fault.Read → rose_source
  pub unwritten : answered ≡ Some fault.Write → rose_sink

-- the bytes that were read to the end are those that were there
all_read : (xs : List ℕ) (left left_after : Option (List ℕ)) (t : PlainTrace) → left ≡ Some xs → IsReadTrace left left_after t →
    (length xs ≤ MOST_TRACE_BYTES) × IsTraceOf xs t
all_read xs None after t e r = cc
all_read xs (Some ys) None t e r = absurd r.read.told.bytes
all_read xs (Some ys) (Some zs) t e r =
    let same : ys ≡ xs = cc in
    subst (λ (bs : List ℕ). (length bs ≤ MOST_TRACE_BYTES) × IsTraceOf bs t) (r.read.told.bytes.0 ∙ same) (r.few, r.is)

-- the bytes that were refused are the first of those that were there
first_read : (xs : List ℕ) (left left_after : Option (List ℕ)) (f : TraceFault) → left ≡ Some xs → IsNoTrace left left_after f →
    IsFaultOf (take TRACE_LIMIT xs) f
first_read xs None after f e r = cc
first_read xs (Some ys) None f e r = absurd r.read.told.bytes
first_read xs (Some ys) (Some zs) f e r =
    let same : ys ≡ xs = cc in
    subst (λ (bs : List ℕ). IsFaultOf bs f) (r.read.told.bytes.0 ∙ ap (take TRACE_LIMIT) same) r.refused

-- ---- what excludes what

-- a text within the limit is read whole
within : (xs : List ℕ) → length xs ≤ MOST_TRACE_BYTES → take TRACE_LIMIT xs ≡ xs
within xs h = take_all TRACE_LIMIT xs (omega arith)

-- a trace within the limit has no fault
faultless : (xs : List ℕ) (t : PlainTrace) (f : TraceFault) → length xs ≤ MOST_TRACE_BYTES → IsTraceOf xs t → IsFaultOf xs f → ⊥
faultless xs t (trace_fault.TooLong found) few is h = omega (arith, few, h.0)
faultless xs t (trace_fault.Line line) few is h = no_fault xs line t is h.1
faultless xs t trace_fault.OutOfMemory few is h = h

one_cause : (xs : List ℕ) (f g : TraceFault) → IsFaultOf xs f → IsFaultOf xs g → f ≡ g
one_cause xs (trace_fault.TooLong m) (trace_fault.TooLong n) h k = ap trace_fault.TooLong (h.1 ∙ sym k.1)
one_cause xs (trace_fault.TooLong m) (trace_fault.Line n) h k = absurd (omega (arith, h.0, k.0))
one_cause xs (trace_fault.Line m) (trace_fault.TooLong n) h k = absurd (omega (arith, h.0, k.0))
one_cause xs (trace_fault.Line m) (trace_fault.Line n) h k = ap trace_fault.Line (one_fault xs m n h.1 k.1)
one_cause xs f trace_fault.OutOfMemory h k = absurd k
one_cause xs trace_fault.OutOfMemory g h k = absurd h

-- the verdict that was told is that of the trace
same_verdict : (xs : List ℕ) (left left_after : Option (List ℕ)) (t : PlainTrace) (v w : Verdict) → left ≡ Some xs → IsTraceOf xs t →
    IsVerdict (setting_of t.nodes t.founder) t.entries v → WasJudged left left_after w → w ≡ v
same_verdict xs left after t v w e is h j =
    let same : j.trace ≡ t = one_trace xs j.trace t (all_read xs left after j.trace e j.read).1 is in
    one_verdict (setting_of t.nodes t.founder) t.entries w v
    (subst (λ (u : PlainTrace). IsVerdict (setting_of u.nodes u.founder) u.entries w) same j.is) h

-- ---- the ends

-- how it ended, where no device failed
data Ended (left left_after : Option (List ℕ)) (answered : Option TopFault) : Type 0 where
  Judged : (v : Verdict) (read : WasJudged left left_after v) (is : answered ≡ fault_of v) → Ended left left_after answered
  Refused : (f : TraceFault) (read : IsNoTrace left left_after f) (is : answered ≡ Some (fault.Trace f)) → Ended left left_after answered
  Short : (is : answered ≡ Some fault.OutOfMemory) → Ended left left_after answered

module _ (left left_after : Option (List ℕ)) (rose_source rose_sink : Type 0) where
  ended : (answered : Option TopFault) → Causes left left_after rose_source rose_sink answered → (rose_source → ⊥) → (rose_sink → ⊥) →
      Ended left left_after answered
  ended None c source sink = let legal = c.legal refl in Judged (verdict.Legal legal.0) legal.1 refl
  ended (Some (fault.Wrong entry p)) c source sink = Judged (verdict.Wrong entry p) (c.wrong entry p refl) refl
  ended (Some (fault.Trace f)) c source sink = Refused f (c.refused f refl) refl
  ended (Some fault.Read) c source sink = absurd (source (c.unread refl))
  ended (Some fault.Write) c source sink = absurd (sink (c.unwritten refl))
  ended (Some fault.OutOfMemory) c source sink = Short refl
  ended (Some fault.Usage) c source sink = absurd c.kind
  ended (Some (fault.Scenario f)) c source sink = absurd c.kind
  ended (Some (fault.Run f)) c source sink = absurd c.kind

  tells : (answered : Option TopFault) → Ended left left_after answered → (xs : List ℕ) (t : PlainTrace) (v : Verdict) → left ≡ Some xs →
      length xs ≤ MOST_TRACE_BYTES → IsTraceOf xs t → IsVerdict (setting_of t.nodes t.founder) t.entries v → DoneOr answered (fault_of v)
  tells answered (Judged w read is) xs t v e few trace h = inl (is ∙ ap fault_of (same_verdict xs left left_after t v w e trace h read))
  tells answered (Refused f read is) xs t v e few trace h =
      absurd (faultless xs t f few trace (subst (λ (bs : List ℕ). IsFaultOf bs f) (within xs few) (first_read xs left left_after f e read)))
  tells answered (Short is) xs t v e few trace h = inr is

  -- what was judged has no fault
  judged_faultless : (xs : List ℕ) (v : Verdict) (f : TraceFault) → left ≡ Some xs → WasJudged left left_after v → IsFaultOf (take TRACE_LIMIT xs) f → ⊥
  judged_faultless xs v f e j h =
      let read = all_read xs left left_after j.trace e j.read in
      faultless xs j.trace f read.0 read.1 (subst (λ (bs : List ℕ). IsFaultOf bs f) (within xs read.0) h)

  refuses : (answered : Option TopFault) → Ended left left_after answered → (xs : List ℕ) (f : TraceFault) → left ≡ Some xs →
      IsFaultOf (take TRACE_LIMIT xs) f → DoneOr answered (Some (fault.Trace f))
  refuses answered (Judged v read is) xs f e h = absurd (judged_faultless xs v f e read h)
  refuses answered (Refused g read is) xs f e h =
      inl (is ∙ ap (λ (k : TraceFault). Some (fault.Trace k)) (one_cause (take TRACE_LIMIT xs) g f (first_read xs left left_after g e read) h))
  refuses answered (Short is) xs f e h = inr is

  -- the verdict on what a source has is told
  pub judges : (answered : Option TopFault) → Causes left left_after rose_source rose_sink answered → (rose_source → ⊥) → (rose_sink → ⊥) →
      IsJudgedRightly left answered
  judges answered c source sink = let end = ended answered c source sink in record { told = tells answered end; refused = refuses answered end }
