-- Counts of a record's messages.
use Rattle.std.proofs.Common.{◌≡◌, ◌<◌, ◌+◌, ◌||◌, ℕ, suc, Bool, true, false, cond, not, count_by, Some, List, [], ◌∷◌, length, get_or}
use Rattle.std.proofs.Common.{slice_get, take, refl, sym, ap}
use Rattle.std.proofs.Common.{◌∙◌, arith, add-zero, zero-add}
use Rattle.std.proofs.lemmas.List.Folds.{list_any-append}
use Rattle.std.proofs.lemmas.List.Sums.{sum_by-cons}
use Rattle.scribe_core.specs.Entry.{GroupEntry}
use Rattle.scribe_core.specs.Played.{is_delivery_of, was_delivered}
use Rattle.scribe_core.specs.Record.{sent_in}
use Rattle.scribe_core.proofs.Kept.{take_next}
use Rattle.group_report.specs.Counts.{undelivered_among}

-- marks that say which messages were delivered count those that were not
pub unmarked_are_undelivered : (es : List GroupEntry) (marks : List Bool) (m : ℕ) →
    ((k : ℕ) → k < length marks → get_or marks k false ≡ was_delivered es (m + k)) → count_by not marks ≡ undelivered_among es m (length marks)
unmarked_are_undelivered es [] m h = refl
unmarked_are_undelivered es (mark ∷ marks) m h =
    sum_by-cons (λ t. cond (not t) 1 0) mark marks
    ∙ ap (λ k. cond (not mark) 1 0 + k) (unmarked_are_undelivered es marks (suc m) (λ k lt.
    let e : m + suc k ≡ suc m + k = omega arith in h (suc k) (omega arith) ∙ ap (was_delivered es) e))
    ∙ ap (λ t. cond (not t) 1 0 + undelivered_among es (suc m) (length marks)) (h 0 (omega arith) ∙ ap (was_delivered es) (add-zero m))
    ∙ by_test (was_delivered es m) where
      by_test : (t : Bool) → cond (not t) 1 0 + undelivered_among es (suc m) (length marks)
          ≡ cond t (undelivered_among es (suc m) (length marks)) (suc (undelivered_among es (suc m) (length marks)))
      by_test true = omega arith
      by_test false = omega arith

or_false : (b : Bool) → (b || false) ≡ b
or_false true = refl
or_false false = refl

-- one entry more
pub delivered_more : (es : List GroupEntry) (i m : ℕ) (e : GroupEntry) → slice_get es i ≡ Some e →
    was_delivered (take (i + 1) es) m ≡ (was_delivered (take i es) m || is_delivery_of m e.event)
delivered_more es i m e is =
    ap (λ xs. was_delivered xs m) (take_next es i e is) ∙ list_any-append (λ (d : GroupEntry). is_delivery_of m d.event) (take i es) (e ∷ [])
    ∙ ap (λ t. was_delivered (take i es) m || t) (or_false (is_delivery_of m e.event))

-- marks of all messages count those that were not delivered
pub all_undelivered : (es : List GroupEntry) (marks : List Bool) → length marks ≡ length (sent_in es) →
    ((m : ℕ) → m < length marks → get_or marks m false ≡ was_delivered es m) → count_by not marks ≡ undelivered_among es 0 (length (sent_in es))
all_undelivered es marks count h =
    unmarked_are_undelivered es marks 0 (λ k lt. h k lt ∙ ap (was_delivered es) (sym (zero-add k))) ∙ ap (undelivered_among es 0) count
