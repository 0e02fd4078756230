-- How commands are closed by one list of notes after another, and their lines one by one.
use Rattle.std.proofs.Common.{◌≡◌, ℕ, suc, ◌+◌, ◌-◌, ◌<◌, ◌==◌, Bool, true, false, if◌then◌else◌, Option, Some, None, List, [], ◌∷◌, ◌++◌, length, get_or}
use Rattle.std.proofs.Common.{take, drop, replicate, refl, sym, ◌∙◌, ap, map, add-zero, arith}
use Rattle.std.specs.Borrow.{Bor}
use Rattle.std.specs.Option.{option_or, option_copied}
use Rattle.std.proofs.lemmas.List.{take-append-le, take_all, at_drop_more}
use Rattle.wire_msg.specs.declared.note.Note.{Note}
use Rattle.wire_msg.specs.declared.note.Note.TheVariants as note
use Rattle.wire_msg.specs.declared.reply.Answer.{Answer}
use Rattle.scenario_reader.specs.declared.node.NodeLine.{NodeLine}
use Rattle.delivery_report.specs.Report.{closing_of, closings_from, command_line, lines_from}
use Rattle.overlay_rules.proofs.Prefixes.{take-next}

pub option_or_assoc : {A : Type 0} (a b c : Option A) → option_or (option_or a b) c ≡ option_or a (option_or b c)
option_or_assoc None b c = refl
option_or_assoc (Some x) b c = refl

or_if : (b : Bool) (a : Answer) (x y : Option Answer) → (if b then Some a else option_or x y) ≡ option_or (if b then Some a else x) y
or_if true a x y = refl
or_if false a x y = refl

-- the first of two lists of notes that closes the command
pub closing_of-append : (n : ℕ) (xs ys : List Note) → closing_of n (xs ++ ys) ≡ option_or (closing_of n xs) (closing_of n ys)
closing_of-append n [] ys = refl
closing_of-append n (note.Closed m a ∷ xs) ys =
    ap (λ o. if m == n then Some a else o) (closing_of-append n xs ys) ∙ or_if (m == n) a (closing_of n xs) (closing_of n ys)
closing_of-append n (note.Accepted file bytes ∷ xs) ys = closing_of-append n xs ys
closing_of-append n (note.Delivered origin m key hops ∷ xs) ys = closing_of-append n xs ys
closing_of-append n (note.Answered origin m r ∷ xs) ys = closing_of-append n xs ys
closing_of-append n (note.Reclaimed file ∷ xs) ys = closing_of-append n xs ys

-- one note more
pub closing_of-more : (n : ℕ) (notes : List Note) (i : ℕ) (last : Note) → i < length notes → last ≡ get_or notes i last →
    closing_of n (take (i + 1) notes) ≡ option_or (closing_of n (take i notes)) (closing_of n (last ∷ []))
closing_of-more n notes i last within is =
    ap (closing_of n) (take-next notes i last within is) ∙ closing_of-append n (take i notes) (last ∷ [])

-- so many slots, none of them filled
pub unfilled : {A : Type 0} (before items : List (Option A)) (len n : ℕ) → before ≡ [] → len ≡ 0 → items ≡ take n before ++ replicate (n - len) None →
    items ≡ replicate n None
unfilled before items len n none short is =
    let rest : n - len ≡ n = omega arith in
    is ∙ ap (λ xs. take n xs ++ replicate (n - len) None) none ∙ ap (λ xs. xs ++ replicate (n - len) None) (take_all n [] (omega arith)) ∙
    ap (λ k. replicate k None) rest

-- slots that say of each command how it was closed
pub closings-by_slots : (notes : List Note) (slots : List (Option (Bor Answer))) (n : ℕ) →
    ((k : ℕ) → k < length slots → option_copied (get_or slots k None) ≡ closing_of (n + k) notes) →
    map option_copied slots ≡ closings_from notes n (length slots)
closings-by_slots notes [] n at = refl
closings-by_slots notes (slot ∷ slots) n at =
    let here : option_copied slot ≡ closing_of n notes = at 0 (omega arith) ∙ ap (λ m. closing_of m notes) (add-zero n) in
    let later = closings-by_slots notes slots (suc n) (λ k within. at (suc k) (omega arith) ∙ ap (λ m. closing_of m notes) (omega arith)) in
    ap (λ c. c ∷ map option_copied slots) here ∙ ap (λ cs. closing_of n notes ∷ cs) later

-- the line of the next command
pub lines_from-next : (nodes : List NodeLine) (slots : List (Option (Bor Answer))) (i : ℕ) (slot : Option (Bor Answer)) → i < length slots →
    slot ≡ get_or slots i slot →
    lines_from nodes (i + 1) (map option_copied (drop i slots)) ≡
    command_line nodes (i + 1) (option_copied slot) ++ lines_from nodes (i + 1 + 1) (map option_copied (drop (i + 1) slots))
lines_from-next nodes slots i slot within is =
    let next : suc (i + 1) ≡ i + 1 + 1 = omega arith in
    at_drop_more (λ xs. lines_from nodes (i + 1) (map option_copied xs)) slots i slot within ∙
    ap (λ x. command_line nodes (i + 1) (option_copied x) ++ lines_from nodes (suc (i + 1)) (map option_copied (drop (i + 1) slots))) (sym is) ∙
    ap (λ m. command_line nodes (i + 1) (option_copied slot) ++ lines_from nodes m (map option_copied (drop (i + 1) slots))) next

-- a slice of a vector that was written, seen again as the vector
pub written_back : {A : Type 0} (old new : List A) (n : ℕ) → n ≡ length old → length new ≡ length old → take n (new ++ drop (length new) old) ≡ new
written_back old new n is same = take-append-le n new (drop (length new) old) (omega arith) ∙ take_all n new (omega arith)
