-- The first answers to commands, in notes that come one after another.
use Rattle.std.proofs.Common.{◌≡◌, ◌<◌, ◌≤◌, ◌+◌, ◌==◌, ℕ, Bool, true, false, cond, Option, Some, None, List, [], ◌∷◌, ◌++◌, length, take, get_or, refl}
use Rattle.std.proofs.Common.{sym, ap, ◌∙◌, All, arith}
use Rattle.std.proofs.lemmas.List.{take_more}
use Rattle.std.proofs.lemmas.List.Elements.{All-nil, All-cons}
use Rattle.scribe_core.specs.declared.action.GroupAction.{GroupAction}
use Rattle.scribe_core.specs.declared.action.GroupWhat.{GroupWhat}
use Rattle.scribe_core.specs.declared.action.GroupWhat.TheVariants as what
use Rattle.scribe_core.specs.declared.note.GroupNote.{GroupNote}
use Rattle.scribe_core.specs.Actions.{AreActionsFrom, MayFollow, counted}
use Rattle.group_report.specs.declared.answers.Answer.{Answer}
use Rattle.group_report.specs.Answers.{IsNumberedUpTo, answer_by, answer_in, answer_to, or_later}

answer_by-later : (n : ℕ) (o : Option (ℕ × Answer)) (x y : Option Answer) → answer_by n o (or_later x y) ≡ or_later (answer_by n o x) y
answer_by-later n None x y = refl
answer_by-later n (Some a) x y = by_test (a.0 == n) where
  by_test : (t : Bool) → cond t (Some a.1) (or_later x y) ≡ or_later (cond t (Some a.1) x) y
  by_test true = refl
  by_test false = refl

-- the first answer in notes and then others
pub answer_to-append : (n : ℕ) (xs ys : List GroupNote) → answer_to n (xs ++ ys) ≡ or_later (answer_to n xs) (answer_to n ys)
answer_to-append n [] ys = refl
answer_to-append n (x ∷ xs) ys = ap (answer_by n (answer_in x)) (answer_to-append n xs ys) ∙ answer_by-later n (answer_in x) (answer_to n xs) (answer_to n ys)

-- one note more
pub answer_to-more : (n : ℕ) (notes : List GroupNote) (i : ℕ) (a : GroupNote) → i < length notes → a ≡ get_or notes i a →
    answer_to n (take (i + 1) notes) ≡ or_later (answer_to n (take i notes)) (answer_by n (answer_in a) None)
answer_to-more n notes i a l is =
    ap (λ ns. answer_to n ns) (take_more notes i a l ∙ ap (λ (b : GroupNote). take i notes ++ b ∷ []) (sym is))
    ∙ answer_to-append n (take i notes) (a ∷ [])

-- ---- the numbers of commands

-- behind so many commands, none of these actions has a greater number than there are with them
pub numbered : (nodes : List ℕ) (commands most : ℕ) (actions : List GroupAction) → commands + length actions ≤ most → AreActionsFrom nodes commands actions →
    All (λ (a : GroupAction). IsNumberedUpTo most a.what) actions
numbered nodes commands most [] le h = All-nil (λ (a : GroupAction). IsNumberedUpTo most a.what)
numbered nodes commands most (a ∷ actions) le h =
    All-cons (λ (b : GroupAction). IsNumberedUpTo most b.what) a actions (one a.what h.0)
    (numbered nodes (counted commands a.what) most actions (rest a.what) h.1)
  where
    one : (w : GroupWhat) → MayFollow nodes commands w → IsNumberedUpTo most w
    one (what.Command n x name c) may = let is = may.0 in omega (arith, is, le)
    one (what.Settle n) may = tt
    one (what.Deliver m) may = tt

    rest : (w : GroupWhat) → counted commands w + length actions ≤ most
    rest (what.Command n x name c) = omega (arith, le)
    rest (what.Settle n) = omega (arith, le)
    rest (what.Deliver m) = omega (arith, le)
