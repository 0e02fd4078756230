-- Each front is the beginning of a trace, and what may follow it is what traces have there.
use Rattle.std.proofs.Common.{◌≡◌, List, [], ◌∷◌, ◌++◌, ◌↔◌, Option, Some, None, refl, sym, ap, subst, ◌∙◌, append_assoc, arith}
use Rattle.std.specs.Prelude.{IsSome}
use Rattle.std.specs.List.{flat_map, AllByRecursion}
use Rattle.std.proofs.lemmas.List.{append-nil}
use Rattle.wire_codec.proofs.Lists.{AllByRecursion-append}
use Rattle.ring_math.proofs.Membership.{Contains-here}
use Rattle.trace_text.specs.Fronts.{Front, Nothing, Nodes, Founder, Entries, End, lines_of, after, AreFounded, KeepsSetting, GoesOn}
use Rattle.trace_text.specs.Lines.{Line, FitsLine}
use Rattle.trace_text.specs.Lines as line
use Rattle.trace_text.specs.Traces.{PlainTrace, trace_of, node_lines, setting_lines, entry_lines, trace_lines, IsTrace}
use Rattle.trace_text.proofs.Fronts.{after_lines, after_keeps, whole_lines}
use Rattle.trace_text.proofs.Leading.{then, follows, front_lead, front_again, passes}
use Rattle.trace_text.proofs.Reading.{trace_is}
use Rattle.trace_text.proofs.Unique.{keeps_of}

-- a trace that begins with the front
record Completed (f : Front) : Type 0 where
  trace : PlainTrace
  more : List Line
  is : IsTrace trace
  lines : trace_lines trace ≡ lines_of f ++ more

completed : (f : Front) (t : PlainTrace) (more : List Line) → trace_lines t ≡ lines_of f ++ more → AreFounded t.nodes t.founder →
    AllByRecursion FitsLine (lines_of f) → AllByRecursion FitsLine more → Completed f
completed f t more lines founded fits fits_more = record {
  trace = t;
  more = more;
  is = trace_is t founded (subst (AllByRecursion FitsLine) (sym lines) (AllByRecursion-append FitsLine (lines_of f) more fits fits_more));
  lines = lines;
}

-- a ring of one node
least_founded : AreFounded (0 ∷ []) 0
least_founded = record { nodes_are = record { few = omega arith; differ = refl }; member = refl }

complete : (f : Front) → KeepsSetting f → AllByRecursion FitsLine (lines_of f) → Completed f
complete Nothing keeps fits =
    completed Nothing (trace_of (0 ∷ []) 0 [] 0) (line.Trace ∷ line.Node 0 ∷ line.Founder 0 ∷ line.End 0 ∷ []) refl least_founded fits
    (tt, (omega arith, (omega arith, (omega arith, tt))))
complete (Nodes []) keeps fits =
    completed (Nodes []) (trace_of (0 ∷ []) 0 [] 0) (line.Node 0 ∷ line.Founder 0 ∷ line.End 0 ∷ []) refl least_founded fits
    (omega arith, (omega arith, (omega arith, tt)))
complete (Nodes (x ∷ xs)) keeps fits =
    completed (Nodes (x ∷ xs)) (trace_of (x ∷ xs) x [] 0) (line.Founder x ∷ line.End 0 ∷ [])
    (append_assoc (node_lines (x ∷ xs)) (line.Founder x ∷ []) (line.End 0 ∷ []))
    (record { nodes_are = keeps; member = passes (x ∷ xs) x (Contains-here x xs) }) fits (fits.1.0, (omega arith, tt))
complete (Founder nodes founder) keeps fits =
    completed (Founder nodes founder) (trace_of nodes founder [] 0) (line.End 0 ∷ []) refl keeps fits (omega arith, tt)
complete (Entries nodes founder whole last) keeps fits =
    completed (Entries nodes founder whole last) (trace_of nodes founder (whole ++ last ∷ []) 0) (line.End 0 ∷ [])
    (ap (λ (ls : List Line). setting_lines nodes founder ++ (ls ++ line.End 0 ∷ [])) (whole_lines whole last)
    ∙ sym (append_assoc (setting_lines nodes founder) (flat_map entry_lines whole ++ entry_lines last) (line.End 0 ∷ [])))
    keeps fits (omega arith, tt)
complete (End t) keeps fits = completed (End t) t [] (sym (append-nil (trace_lines t))) keeps fits tt

-- ---- both ways

goes_by : (f : Front) (l : Line) (o : Option Front) → after f l ≡ o → KeepsSetting f → AllByRecursion FitsLine (lines_of f) → FitsLine l → IsSome o →
    GoesOn f l
goes_by f l None is keeps fits fits_too some = cc
goes_by f l (Some g) is keeps fits fits_too some =
    let lines : lines_of g ≡ lines_of f ++ l ∷ [] = after_lines f l g is in
    let all = complete g (after_keeps f l g keeps is)
    (subst (AllByRecursion FitsLine) (sym lines) (AllByRecursion-append FitsLine (lines_of f) (l ∷ []) fits (fits_too, tt))) in
    record {
      trace = all.trace;
      more = all.more;
      is = all.is;
      lines = all.lines ∙ ap (λ (ls : List Line). ls ++ all.more) lines ∙ append_assoc (lines_of f) (l ∷ []) all.more;
    }

some_by : (o : Option Front) (next : Front → Option Front) (g : Front) → then o next ≡ Some g → IsSome o
some_by None next g e = absurd cc
some_by (Some f) next g e = refl

goes_from : (f : Front) (l : Line) → KeepsSetting f → GoesOn f l → IsSome (after f l)
goes_from f l keeps goes =
    let led : follows f (l ∷ goes.more) ≡ Some (End goes.trace) =
    sym (front_lead f (l ∷ goes.more) keeps) ∙ ap (follows Nothing) (sym goes.lines) ∙ front_again (End goes.trace) (keeps_of goes.trace goes.is) in
    some_by (after f l) (λ g. follows g goes.more) (End goes.trace) led

pub follows_where : (f : Front) (l : Line) → KeepsSetting f → AllByRecursion FitsLine (lines_of f) → FitsLine l → (IsSome (after f l) ↔ GoesOn f l)
follows_where f l keeps fits fits_too = (goes_by f l (after f l) refl keeps fits fits_too, goes_from f l keeps)
