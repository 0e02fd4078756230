-- Reading a text line by line: what was read is a front of a trace, and the text goes on with the rest.
use Rattle.std.proofs.Common.{◌≡◌, ℕ, ◌+◌, ◌^◌, ◌<◌, ◌⊎◌, inl, inr, true, List, [], ◌∷◌, ◌++◌, length, map, Option, Some, None, Result, Ok, Err, refl}
use Rattle.std.proofs.Common.{sym, ap, subst, ◌∙◌, arith, append_assoc, length-append}
use Rattle.std.specs.Prelude.{All, IfOk, IfErr}
use Rattle.std.specs.List.{AllByRecursion}
use Rattle.std.proofs.lemmas.Grind.{flat_map-append}
use Rattle.std.proofs.lemmas.List.{append-nil}
use Rattle.std.proofs.lemmas.List.Elements.{All-cons, All-nil}
use Rattle.wire_codec.proofs.Lists.{AllByRecursion-append}
use Rattle.ring_math.proofs.Membership.{Contains-is_in}
use Rattle.trace_text.specs.declared.fault.Refusal.{Refusal}
use Rattle.trace_text.specs.declared.fault.Refusal.TheVariants as refusal
use Rattle.trace_text.specs.declared.fault.TraceFault.{TraceFault}
use Rattle.trace_text.specs.declared.fault.TraceFault.TheVariants as fault
use Rattle.trace_text.specs.Answers.{Fails, Finds, Gives}
use Rattle.trace_text.specs.Digits.{lacks}
use Rattle.trace_text.specs.Fronts.{Front, Nothing, End, lines_of, after, IsNext, Begins, AreFounded, IsWhole, IsFault}
use Rattle.trace_text.specs.Fronts.{IsLineFault, fault_at}
use Rattle.trace_text.specs.Lines.{Line, Node, FitsLine, IsLine, line_text, ended, text_of_lines}
use Rattle.trace_text.specs.declared.trace.Trace.{Trace as CodeTrace}
use Rattle.trace_text.specs.Traces.{PlainTrace, plain_trace, trace_lines, node_lines, setting_lines, IsTrace, IsTraceOf}
use Rattle.trace_text.proofs.Cuts.{cut_told, uncut}
use Rattle.trace_text.proofs.Fronts.{after_lines, after_keeps}
use Rattle.trace_text.proofs.Spelled.{line_lacks, line_told}

-- ---- the next line

pub next_found : {X : Type 0} (view : X → Front) (f : Front) (text : List ℕ) (l : Line) (r : Result X Refusal) → IsLine text l →
    Gives view r (after f l) → Finds view (IsNext f text) r
next_found view f text l (Ok g) is given = record { line_is = l; is = is; after_is = given }
next_found view f text l (Err refusal.NotAllowed) is given = λ g next.
    let same : after f l ≡ Some g = ap (after f) (line_told text l next.line_is is next.is) ∙ next.after_is in
    let both : None ≡ (Some g) = sym given ∙ same in
    cc
next_found view f text l (Err refusal.OutOfMemory) is given = tt

-- ---- a front and the rest

ended_then : (l : Line) (behind : List ℕ) → ended l ++ behind ≡ line_text l ++ 10 ∷ behind
ended_then l behind = append_assoc (line_text l) (10 ∷ []) behind

more_text : (ls : List Line) (l : Line) (behind : List ℕ) → text_of_lines (ls ++ l ∷ []) ++ behind ≡ text_of_lines ls ++ (line_text l ++ 10 ∷ behind)
more_text ls l behind =
    ap (λ (t : List ℕ). t ++ behind) (flat_map-append ended ls (l ∷ []) ∙ ap (λ (t : List ℕ). text_of_lines ls ++ t) (append-nil (ended l)))
    ∙ append_assoc (text_of_lines ls) (ended l) behind
    ∙ ap (λ (t : List ℕ). text_of_lines ls ++ t) (ended_then l behind)

pub begins_next : (bytes : List ℕ) (f g : Front) (text behind rest : List ℕ) → Begins bytes f rest → rest ≡ text ++ 10 ∷ behind → IsNext f text g →
    Begins bytes g behind
begins_next bytes f g text behind rest begins cut next =
    let l = next.line_is in
    let lines : lines_of g ≡ lines_of f ++ l ∷ [] = after_lines f l g next.after_is in
    record {
      text = begins.text ∙ ap (λ (t : List ℕ). text_of_lines (lines_of f) ++ t) (cut ∙ ap (λ (t : List ℕ). t ++ 10 ∷ behind) next.is.text_is)
          ∙ sym (more_text (lines_of f) l behind) ∙ ap (λ (ls : List Line). text_of_lines ls ++ behind) (sym lines);
      fits = subst (AllByRecursion FitsLine) (sym lines) (AllByRecursion-append FitsLine (lines_of f) (l ∷ []) begins.fits (next.is.fits, tt));
      setting = after_keeps f l g begins.setting next.after_is;
    }

pub size_next : (f g : Front) (text : List ℕ) → IsNext f text g → length (lines_of g) ≡ length (lines_of f) + 1
size_next f g text next =
    ap length (after_lines f next.line_is g next.after_is) ∙ length-append (lines_of f) (next.line_is ∷ [])

-- ---- the fault

none_or : {X : Type 0} (o : Option X) → ((x : X) → o ≡ Some x → ⊥) → o ≡ None
none_or None never = refl
none_or (Some x) never = absurd (never x refl)

cut_whole : (f : Front) (text behind rest : List ℕ) → rest ≡ text ++ 10 ∷ behind → IsWhole f rest → ⊥
cut_whole (End t) text behind rest cut none = absurd (omega (arith, ap length (sym cut ∙ none), length-append text (10 ∷ behind)))
cut_whole Nothing text behind rest cut none = none
cut_whole f text behind rest cut none = none

pub line_refused : (bytes : List ℕ) (f : Front) (n : ℕ) (text behind rest : List ℕ) → Begins bytes f rest → n ≡ length (lines_of f) + 1 →
    rest ≡ text ++ 10 ∷ behind → lacks 10 text ≡ true → ((g : Front) → IsNext f text g → ⊥) → IsFault bytes n
line_refused bytes f n text behind rest begins number cut none refused = record {
  front = f;
  rest = rest;
  begins = begins;
  number = number;
  none_follows = λ l more fits is.
      let same = cut_told 10 text (line_text l) behind more none (line_lacks l fits) (sym cut ∙ is ∙ ended_then l more) in
      none_or (after f l) (λ g after_is. refused g (record { line_is = l; is = record { text_is = same.before; fits = fits }; after_is = after_is }));
  unfinished = cut_whole f text behind rest cut;
}

pub end_refused : (bytes : List ℕ) (f : Front) (n : ℕ) (rest : List ℕ) → Begins bytes f rest → n ≡ length (lines_of f) + 1 → lacks 10 rest ≡ true →
    (IsWhole f rest → ⊥) → IsFault bytes n
end_refused bytes f n rest begins number none unfinished = record {
  front = f;
  rest = rest;
  begins = begins;
  number = number;
  none_follows = λ l more fits is. absurd (uncut 10 rest (line_text l) more none (is ∙ ended_then l more));
  unfinished = unfinished;
}

pub fault_told : (bytes : List ℕ) (f : Front) (n : ℕ) (text behind rest : List ℕ) (e : Refusal) → Begins bytes f rest → n ≡ length (lines_of f) + 1 →
    rest ≡ text ++ 10 ∷ behind → lacks 10 text ≡ true → Fails (IsNext f text) e → (fault_at n e ≡ fault.OutOfMemory) ⊎ IsLineFault bytes (fault_at n e)
fault_told bytes f n text behind rest refusal.NotAllowed begins number cut none fails =
    inr (line_refused bytes f n text behind rest begins number cut none fails)
fault_told bytes f n text behind rest refusal.OutOfMemory begins number cut none fails = inl refl

-- ---- the trace

nodes_fit : (nodes : List ℕ) → AllByRecursion FitsLine (map Node nodes) → All (λ x. x < 2 ^ 128) nodes
nodes_fit [] fits = All-nil (λ x. x < 2 ^ 128)
nodes_fit (x ∷ xs) fits = All-cons (λ y. y < 2 ^ 128) x xs fits.0 (nodes_fit xs fits.1)

front_fit : {X : Type 0} (P : X → Type 0) (xs ys : List X) → AllByRecursion P (xs ++ ys) → AllByRecursion P xs
front_fit P [] ys fits = tt
front_fit P (x ∷ xs) ys fits = (fits.0, front_fit P xs ys fits.1)

-- a front that is a whole trace is one
pub trace_is : (t : PlainTrace) → AreFounded t.nodes t.founder → AllByRecursion FitsLine (trace_lines t) → IsTrace t
trace_is t founded fits =
    let settings = front_fit FitsLine (setting_lines t.nodes t.founder) _ fits in
    let heads = front_fit FitsLine (node_lines t.nodes) _ settings in
    record {
      setting = record {
        in_ring = nodes_fit t.nodes heads.1;
        differ = founded.nodes_are.differ;
        founder = Contains-is_in t.nodes t.founder founded.member;
      };
      few = founded.nodes_are.few;
      fits = fits;
    }

pub whole_read : (bytes : List ℕ) (f : Front) (t : PlainTrace) (rest : List ℕ) → Begins bytes f rest → f ≡ End t → rest ≡ [] → IsTraceOf bytes t
whole_read bytes f t rest begins is none =
    let whole : Begins bytes (End t) rest = subst (λ (g : Front). Begins bytes g rest) is begins in
    record {
      text = whole.text ∙ ap (λ (r : List ℕ). text_of_lines (trace_lines t) ++ r) none ∙ append-nil (text_of_lines (trace_lines t));
      is = trace_is t whole.setting whole.fits;
    }

pub finished_read : (bytes : List ℕ) (f : Front) (rest : List ℕ) (r : Result CodeTrace TraceFault) → Begins bytes f rest →
    IfOk r (λ t. (f ≡ End (plain_trace t)) × (rest ≡ [])) → IfOk r (λ t. IsTraceOf bytes (plain_trace t))
finished_read bytes f rest (Ok t) begins whole = whole_read bytes f (plain_trace t) rest begins whole.0 whole.1
finished_read bytes f rest (Err e) begins whole = tt

pub finished_refused : (bytes : List ℕ) (f : Front) (n : ℕ) (rest : List ℕ) (r : Result CodeTrace TraceFault) → Begins bytes f rest →
    n ≡ length (lines_of f) + 1 → lacks 10 rest ≡ true → IfErr r (λ e. (e ≡ fault.Line n) × (IsWhole f rest → ⊥)) →
    IfErr r (λ e. (e ≡ fault.OutOfMemory) ⊎ IsLineFault bytes e)
finished_refused bytes f n rest (Ok t) begins number none refused = tt
finished_refused bytes f n rest (Err e) begins number none refused =
    inr (subst (IsLineFault bytes) (sym refused.0) (end_refused bytes f n rest begins number none refused.1))
