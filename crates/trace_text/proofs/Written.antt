-- Lines written one behind another.
use Rattle.std.proofs.Common.{◌≡◌, ℕ, ◌+◌, ◌<◌, Some, List, [], ◌∷◌, ◌++◌, length, get_or, slice_get, take, map, refl, sym, ap, subst, ◌∙◌}
use Rattle.std.proofs.Common.{append_assoc}
use Rattle.std.specs.Prelude.{codes, Result, Ok, Err, OnOk}
use Rattle.std.specs.List.{flat_map}
use Rattle.std.proofs.lemmas.Grind.{flat_map-append}
use Rattle.std.proofs.lemmas.List.{append-nil, map-append, take_more}
use Rattle.std.proofs.lemmas.Option.{slice_get_within, get_or_from_slice_get}
use Rattle.wire_codec.proofs.Lists.{AllByRecursion-append}
use Rattle.overlay_rules.specs.declared.entry.Entry.{Entry}
use Rattle.trace_text.specs.Lines.{Line, FitsLine, ended, text_of_lines}
use Rattle.trace_text.specs.Traces.{entry_lines}
use Rattle.trace_text.specs.Writing.{WritesLines}

pub lines_then : {a b c : List ℕ} {xs ys : List Line} → WritesLines a b xs → WritesLines b c ys → WritesLines a c (xs ++ ys)
lines_then {a} {b} {c} {xs} {ys} first others = record {
  text = others.text ∙ ap (λ (t : List ℕ). t ++ text_of_lines ys) first.text ∙ append_assoc a (text_of_lines xs) (text_of_lines ys)
      ∙ ap (λ (t : List ℕ). a ++ t) (sym (flat_map-append ended xs ys));
  fits = AllByRecursion-append FitsLine xs ys first.fits others.fits;
}

-- one line
pub line_written : {old new : List ℕ} (l : Line) (text : List ℕ) → new ≡ old ++ text → text ≡ ended l → FitsLine l → WritesLines old new (l ∷ [])
line_written {old} {new} l text is same fits = record {
  text = is ∙ ap (λ (t : List ℕ). old ++ t) (same ∙ sym (append-nil (ended l)));
  fits = (fits, tt);
}

-- a line more for one element more
pub lines_more : {A : Type 0} (g : A → Line) (xs : List A) (i : ℕ) (x : A) (a b c : List ℕ) → i < length xs → x ≡ get_or xs i x →
    WritesLines a b (map g (take i xs)) → WritesLines b c (g x ∷ []) → WritesLines a c (map g (take (i + 1) xs))
lines_more g xs i x a b c within is before one =
    let next : take (i + 1) xs ≡ take i xs ++ x ∷ [] = take_more xs i x within ∙ ap (λ y. take i xs ++ y ∷ []) (sym is) in
    subst (WritesLines a c) (sym (ap (map g) next ∙ map-append g (take i xs) (x ∷ []))) (lines_then before one)

pub entries_more : (es : List Entry) (i : ℕ) (e : Entry) (a b c : List ℕ) → slice_get es i ≡ Some e →
    WritesLines a b (flat_map entry_lines (take i es)) → WritesLines b c (entry_lines e) → WritesLines a c (flat_map entry_lines (take (i + 1) es))
entries_more es i e a b c at before one =
    let next : take (i + 1) es ≡ take i es ++ e ∷ [] =
    take_more es i e (slice_get_within es i e at) ∙ ap (λ y. take i es ++ y ∷ []) (get_or_from_slice_get es i e e at) in
    subst (WritesLines a c)
    (sym (ap (flat_map entry_lines) next ∙ flat_map-append entry_lines (take i es) (e ∷ [])
    ∙ ap (λ (ls : List Line). flat_map entry_lines (take i es) ++ ls) (append-nil (entry_lines e))))
    (lines_then before one)

-- a node, a number and a command, each behind a space
pub command_spelled : (node number command : List ℕ) → codes "command " ++ (node ++ 32 ∷ (number ++ 32 ∷ (command ++ 10 ∷ [])))
    ≡ codes "command " ++ ((node ++ 32 ∷ (number ++ 32 ∷ command)) ++ 10 ∷ [])
command_spelled node number command =
    ap (λ (t : List ℕ). codes "command " ++ t)
    (sym (append_assoc node (32 ∷ (number ++ 32 ∷ command)) (10 ∷ [])
    ∙ ap (λ (t : List ℕ). node ++ 32 ∷ t) (append_assoc number (32 ∷ command) (10 ∷ []))))

-- three texts one behind another
pub three_written : (old a b c first second new : List ℕ) → first ≡ old ++ a → second ≡ first ++ b → new ≡ second ++ c → new ≡ old ++ (a ++ (b ++ c))
three_written old a b c first second new one two three =
    three ∙ ap (λ (t : List ℕ). t ++ c) (two ∙ ap (λ (t : List ℕ). t ++ b) one ∙ append_assoc old a b) ∙ append_assoc old (a ++ b) c
    ∙ ap (λ (t : List ℕ). old ++ t) (append_assoc a b c)

pub on_ok : {X E : Type 0} (r : Result X E) {P Q : Type 0} → OnOk r P → (P → Q) → OnOk r Q
on_ok (Ok x) first then = then first
on_ok (Err e) first then = tt

pub map_twice : {A B C : Type 0} (f : A → B) (g : B → C) (xs : List A) → map g (map f xs) ≡ map (λ x. g (f x)) xs
map_twice f g [] = refl
map_twice f g (x ∷ xs) = ap (λ ys. g (f x) ∷ ys) (map_twice f g xs)
