-- A text has at most one reading, and one fault.
use Rattle.std.proofs.Common.{◌≡◌, ℕ, ◌+◌, ◌⊎◌, inl, inr, List, [], ◌∷◌, ◌++◌, length, Option, Some, None, Result, Ok, Err, refl, sym, ap, subst, ◌∙◌}
use Rattle.std.proofs.Common.{append_assoc}
use Rattle.std.specs.Prelude.{MatchResult, IfOk, IfErr}
use Rattle.std.specs.List.{AllByRecursion}
use Rattle.std.proofs.lemmas.List.{append-nil}
use Rattle.trace_text.specs.declared.fault.TraceFault.{TraceFault}
use Rattle.trace_text.specs.declared.fault.TraceFault.TheVariants as fault
use Rattle.trace_text.specs.declared.trace.Trace.{Trace as CodeTrace}
use Rattle.trace_text.specs.Fronts.{Front, Nothing, End, lines_of, after, KeepsSetting, Begins, NoneFollows, IsWhole, IsFault, IsLineFault}
use Rattle.trace_text.specs.Lines.{Line, FitsLine, line_text, ended, text_of_lines}
use Rattle.trace_text.specs.Traces.{PlainTrace, plain_trace, trace_lines, IsTrace, IsTraceOf}
use Rattle.trace_text.proofs.Cuts.{cut_told}
use Rattle.trace_text.proofs.Leading.{then, follows, front_lead, front_again, passes}
use Rattle.trace_text.proofs.Spelled.{line_lacks, line_told}

-- ---- one text cut into lines

-- these lines are the first of those
pub record AreFirst (ls ms : List Line) (r s : List ℕ) : Type 0 where
  pub more : List Line
  pub lines_are : ms ≡ ls ++ more
  pub rest_is : r ≡ text_of_lines more ++ s
  pub fits : AllByRecursion FitsLine more

spread : (l : Line) (t r : List ℕ) → (ended l ++ t) ++ r ≡ line_text l ++ 10 ∷ (t ++ r)
spread l t r = append_assoc (ended l) t r ∙ append_assoc (line_text l) (10 ∷ []) (t ++ r)

first_lines : (ls ms : List Line) (r s : List ℕ) → AllByRecursion FitsLine ls → AllByRecursion FitsLine ms → text_of_lines ls ++ r ≡ text_of_lines ms ++ s →
    AreFirst ls ms r s ⊎ AreFirst ms ls s r
first_lines [] ms r s fits fits_too same = inl (record { more = ms; lines_are = refl; rest_is = same; fits = fits_too })
first_lines (l ∷ ls) [] r s fits fits_too same = inr (record { more = l ∷ ls; lines_are = refl; rest_is = sym same; fits = fits })
first_lines (l ∷ ls) (m ∷ ms) r s fits fits_too same =
    let cut = cut_told 10 (line_text l) (line_text m) (text_of_lines ls ++ r) (text_of_lines ms ++ s) (line_lacks l fits.0) (line_lacks m fits_too.0)
    (sym (spread l (text_of_lines ls) r) ∙ same ∙ spread m (text_of_lines ms) s) in
    let first : l ≡ m = line_told (line_text l) l m (record { text_is = refl; fits = fits.0 }) (record { text_is = cut.before; fits = fits_too.0 }) in
    elim (first_lines ls ms r s fits.1 fits_too.1 cut.behind) [
      | inl f ↦ inl (record {
        more = f.more;
        lines_are = ap (λ (ks : List Line). m ∷ ks) f.lines_are ∙ ap (λ (k : Line). k ∷ ls ++ f.more) (sym first);
        rest_is = f.rest_is;
        fits = f.fits;
      })
      | inr f ↦ inr (record {
        more = f.more;
        lines_are = ap (λ (ks : List Line). l ∷ ks) f.lines_are ∙ ap (λ (k : Line). k ∷ ms ++ f.more) first;
        rest_is = f.rest_is;
        fits = f.fits;
      })
    ]

-- ---- a line that follows is no fault

-- what comes behind a front that is at fault is not a front
goes_on : (f g : Front) (more : List Line) (r s : List ℕ) → KeepsSetting f → KeepsSetting g → NoneFollows f r → lines_of g ≡ lines_of f ++ more →
    r ≡ text_of_lines more ++ s → AllByRecursion FitsLine more → (f ≡ g) × (more ≡ [])
goes_on f g [] r s keeps keeps_too none lines rest fits =
    let here : Some f ≡ Some g = sym (front_lead f [] keeps) ∙ ap (follows Nothing) (sym lines) ∙ front_again g keeps_too in
    (cc, refl)
goes_on f g (l ∷ more) r s keeps keeps_too none lines rest fits =
    let led : follows f (l ∷ more) ≡ Some g = sym (front_lead f (l ∷ more) keeps) ∙ ap (follows Nothing) (sym lines) ∙ front_again g keeps_too in
    let stops : after f l ≡ None = none l (text_of_lines more ++ s) fits.0 (rest ∙ append_assoc (ended l) (text_of_lines more) s) in
    let nothing : None ≡ Some g = sym (ap (λ (o : Option Front). then o (λ (h : Front). follows h more)) stops) ∙ led in
    absurd cc

pub keeps_of : (t : PlainTrace) → IsTrace t → KeepsSetting (End t)
keeps_of t is = record {
  nodes_are = record { few = is.few; differ = is.setting.differ };
  member = passes t.nodes t.founder is.setting.founder;
}

begins_whole : (bytes : List ℕ) (t : PlainTrace) → IsTraceOf bytes t → Begins bytes (End t) []
begins_whole bytes t of_bytes = record {
  text = of_bytes.text ∙ sym (append-nil (text_of_lines (trace_lines t)));
  fits = of_bytes.is.fits;
  setting = keeps_of t of_bytes.is;
}

none_behind : (t : PlainTrace) → NoneFollows (End t) []
none_behind t l more fits is = refl

abbrev trace_in : Front → PlainTrace → PlainTrace
trace_in (End t) other = t
trace_in f other = other

pub one_trace : (bytes : List ℕ) (t u : PlainTrace) → IsTraceOf bytes t → IsTraceOf bytes u → t ≡ u
one_trace bytes t u of_bytes of_bytes_too =
    let b = begins_whole bytes t of_bytes in
    let d = begins_whole bytes u of_bytes_too in
    elim (first_lines (trace_lines t) (trace_lines u) [] [] b.fits d.fits (sym b.text ∙ d.text)) [
      | inl f ↦ ap (λ (g : Front). trace_in g t)
          (goes_on (End t) (End u) f.more [] [] b.setting d.setting (none_behind t) f.lines_are f.rest_is f.fits).0
      | inr f ↦ sym (ap (λ (g : Front). trace_in g t)
          (goes_on (End u) (End t) f.more [] [] d.setting b.setting (none_behind u) f.lines_are f.rest_is f.fits).0)
    ]

pub no_fault : (bytes : List ℕ) (n : ℕ) (t : PlainTrace) → IsTraceOf bytes t → IsFault bytes n → ⊥
no_fault bytes n t of_bytes wrong =
    let d = begins_whole bytes t of_bytes in
    elim (first_lines (lines_of wrong.front) (trace_lines t) wrong.rest [] wrong.begins.fits d.fits (sym wrong.begins.text ∙ d.text)) [
      | inl f ↦
          let same = goes_on wrong.front (End t) f.more wrong.rest [] wrong.begins.setting d.setting wrong.none_follows f.lines_are f.rest_is f.fits in
          let nothing : wrong.rest ≡ [] = f.rest_is ∙ ap (λ (ls : List Line). text_of_lines ls ++ []) same.1 in
          wrong.unfinished (subst (λ (g : Front). IsWhole g wrong.rest) (sym same.0) nothing)
      | inr f ↦
          let same = goes_on (End t) wrong.front f.more [] wrong.rest d.setting wrong.begins.setting (none_behind t) f.lines_are f.rest_is f.fits in
          let nothing : [] ≡ wrong.rest = f.rest_is ∙ ap (λ (ls : List Line). text_of_lines ls ++ wrong.rest) same.1 in
          wrong.unfinished (subst (λ (g : Front). IsWhole g wrong.rest) same.0 (sym nothing))
    ]

pub one_fault : (bytes : List ℕ) (m n : ℕ) → IsFault bytes m → IsFault bytes n → m ≡ n
one_fault bytes m n one two =
    elim (first_lines (lines_of one.front) (lines_of two.front) one.rest two.rest one.begins.fits two.begins.fits (sym one.begins.text ∙ two.begins.text)) [
      | inl f ↦
          let same = goes_on one.front two.front f.more one.rest two.rest one.begins.setting two.begins.setting one.none_follows f.lines_are f.rest_is f.fits in
          one.number ∙ ap (λ (g : Front). length (lines_of g) + 1) same.0 ∙ sym two.number
      | inr f ↦
          let same = goes_on two.front one.front f.more two.rest one.rest two.begins.setting one.begins.setting two.none_follows f.lines_are f.rest_is f.fits in
          one.number ∙ ap (λ (g : Front). length (lines_of g) + 1) (sym same.0) ∙ sym two.number
    ]

-- ---- what the reader answers of a trace's text

fault_excluded : (bytes : List ℕ) (e : TraceFault) (t : PlainTrace) → IsLineFault bytes e → IsTraceOf bytes t → ⊥
fault_excluded bytes (fault.Line n) t wrong of_bytes = no_fault bytes n t of_bytes wrong
fault_excluded bytes (fault.TooLong n) t wrong of_bytes = wrong
fault_excluded bytes fault.OutOfMemory t wrong of_bytes = wrong

pub spelled_err : (bytes : List ℕ) (e : TraceFault) (t : PlainTrace) → (e ≡ fault.OutOfMemory) ⊎ IsLineFault bytes e → IsTraceOf bytes t →
    e ≡ fault.OutOfMemory
spelled_err bytes e t (inl memory) of_bytes = memory
spelled_err bytes e t (inr wrong) of_bytes = absurd (fault_excluded bytes e t wrong of_bytes)

pub spelled_read : (bytes : List ℕ) (r : Result CodeTrace TraceFault) (t : PlainTrace) → IfOk r (λ x. IsTraceOf bytes (plain_trace x)) →
    IfErr r (λ e. (e ≡ fault.OutOfMemory) ⊎ IsLineFault bytes e) → IsTraceOf bytes t → MatchResult r (λ x. plain_trace x ≡ t) (λ e. e ≡ fault.OutOfMemory)
spelled_read bytes (Ok x) t read refused of_bytes = one_trace bytes (plain_trace x) t read of_bytes
spelled_read bytes (Err e) t read refused of_bytes = spelled_err bytes e t refused of_bytes
