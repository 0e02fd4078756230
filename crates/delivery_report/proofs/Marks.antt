-- Marks of the messages that were delivered: what unset ones count.
use Rattle.std.proofs.Common.{◌≡◌, ℕ, suc, ◌+◌, ◌<◌, ◌||◌, Bool, true, false, not, if◌then◌else◌, Some, List, [], ◌∷◌, length, get_or, slice_get, take, refl}
use Rattle.std.proofs.Common.{◌∙◌, ap, zero-add, one-add, add-zero, arith}
use Rattle.std.specs.List.{list_any, count_by}
use Rattle.std.proofs.lemmas.List.Folds.{list_any-append}
use Rattle.std.proofs.lemmas.List.Sums.{sum_by-cons}
use Rattle.overlay_rules.specs.declared.entry.Entry.{Entry}
use Rattle.overlay_rules.specs.Played.{is_delivery_of}
use Rattle.delivery_report.specs.Report.{undelivered_among}
use Rattle.overlay_rules.proofs.Prefixes.{take-got}

count_unset-cons : (mark : Bool) (marks : List Bool) → count_by not (mark ∷ marks) ≡ (if mark then count_by not marks else suc (count_by not marks))
count_unset-cons true marks = sum_by-cons _ true marks ∙ zero-add _
count_unset-cons false marks = sum_by-cons _ false marks ∙ one-add _

-- marks of the messages from m on, each set where an entry delivered its message
pub undelivered-by_marks : (es : List Entry) (marks : List Bool) (m : ℕ) →
    ((k : ℕ) → k < length marks → get_or marks k false ≡ list_any (λ e. is_delivery_of (m + k) e.event) es) →
    count_by not marks ≡ undelivered_among es m (length marks)
undelivered-by_marks es [] m at = refl
undelivered-by_marks es (mark ∷ marks) m at =
    let here : mark ≡ list_any (λ e. is_delivery_of m e.event) es = at 0 (omega arith) ∙ ap (λ n. list_any (λ e. is_delivery_of n e.event) es) (add-zero m) in
    let later = undelivered-by_marks es marks (suc m)
    (λ k within. at (suc k) (omega arith) ∙ ap (λ n. list_any (λ e. is_delivery_of n e.event) es) (omega arith)) in
    count_unset-cons mark marks ∙ ap (λ b. if b then count_by not marks else suc (count_by not marks)) here ∙
    ap (λ n. if list_any (λ e. is_delivery_of m e.event) es then n else suc n) later

-- one entry more that may have delivered the message
pub any-got : (es : List Entry) (i : ℕ) (e : Entry) (k : ℕ) → slice_get es i ≡ Some e →
    list_any (λ x. is_delivery_of k x.event) (take (i + 1) es) ≡ (list_any (λ x. is_delivery_of k x.event) (take i es) || is_delivery_of k e.event)
any-got es i e k at =
    ap (list_any (λ x. is_delivery_of k x.event)) (take-got es i e at) ∙ list_any-append (λ x. is_delivery_of k x.event) (take i es) (e ∷ []) ∙
    ap (λ b. list_any (λ x. is_delivery_of k x.event) (take i es) || b) (or_false (is_delivery_of k e.event))
  where
    or_false : (b : Bool) → (b || false) ≡ b
    or_false true = refl
    or_false false = refl
