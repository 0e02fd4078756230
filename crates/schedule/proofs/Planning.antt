-- A plan that grows task by task.
use Rattle.std.proofs.Common.{◌≡◌, ◌<◌, ◌≤◌, ℕ, zero, suc, ◌+◌, ◌-◌, min, List, [], ◌∷◌, ◌++◌, map, refl, sym, ap, ◌∙◌, arith, append_assoc, append-nil}
use Rattle.std.specs.List.{flat_map, range_with_len}
use Rattle.std.proofs.lemmas.Grind.{flat_map-append}
use Rattle.std.proofs.lemmas.List.{map-append}
use Rattle.schedule.specs.declared.task.Task.{Task}
use Rattle.schedule.specs.declared.task.Task.TheVariants.{Join}
use Rattle.schedule.specs.Plan.{in_threes, group_tasks}

-- numbers from a on, with one more behind them
range_more : (a n : ℕ) → range_with_len a (suc n) ≡ range_with_len a n ++ (a + n) ∷ []
range_more a zero = ap (λ k. k ∷ []) (sym same) where
  same : a + 0 ≡ a
  same = omega arith
range_more a (suc n) =
    ap (λ ns. a ∷ ns) (range_more (a + 1) n) ∙ ap (λ k. a ∷ (range_with_len (a + 1) n ++ k ∷ [])) same
  where
    same : a + 1 + n ≡ a + suc n
    same = omega arith

pub range_to : (a k : ℕ) → a ≤ k → range_with_len a (k + 1 - a) ≡ range_with_len a (k - a) ++ k ∷ []
range_to a k h =
    ap (λ n. range_with_len a n) size ∙ range_more a (k - a) ∙ ap (λ n. range_with_len a (k - a) ++ n ∷ []) last
  where
    size : k + 1 - a ≡ suc (k - a)
    size = omega arith

    last : a + (k - a) ≡ k
    last = omega arith

-- tasks of each number of a range, with one more behind them
pub tasks_more : (f : ℕ → List Task) (before now next : List Task) (a k : ℕ) → a ≤ k →
    now ≡ before ++ flat_map f (range_with_len a (k - a)) → next ≡ now ++ f k → next ≡ before ++ flat_map f (range_with_len a (k + 1 - a))
tasks_more f before now next a k h at is =
    is ∙ ap (λ ts. ts ++ f k) at ∙ append_assoc before (flat_map f (range_with_len a (k - a))) (f k) ∙
    ap (λ ts. before ++ (flat_map f (range_with_len a (k - a)) ++ ts)) (sym (append-nil (f k))) ∙
    ap (λ ts. before ++ ts) (sym (flat_map-append f (range_with_len a (k - a)) (k ∷ [])) ∙ ap (λ ns. flat_map f ns) (sym (range_to a k h)))

pub joins_more : (before now next : List Task) (a k : ℕ) → a ≤ k →
    now ≡ before ++ map (λ node. Join node) (range_with_len a (k - a)) → next ≡ now ++ Join k ∷ [] →
    next ≡ before ++ map (λ node. Join node) (range_with_len a (k + 1 - a))
joins_more before now next a k h at is =
    is ∙ ap (λ ts. ts ++ Join k ∷ []) at ∙ append_assoc before (map (λ node. Join node) (range_with_len a (k - a))) (Join k ∷ []) ∙
    ap (λ ts. before ++ ts) (sym (map-append (λ node. Join node) (range_with_len a (k - a)) (k ∷ []))
    ∙ ap (λ ns. map (λ node. Join node) ns) (sym (range_to a k h)))

-- the same of the numbers from 0 on
pub tasks_counted : (f : ℕ → List Task) (before now next : List Task) (k : ℕ) →
    now ≡ before ++ flat_map f (range_with_len 0 k) → next ≡ now ++ f k → next ≡ before ++ flat_map f (range_with_len 0 (k + 1))
tasks_counted f before now next k at is =
    tasks_more f before now next 0 k (omega arith) (at ∙ ap (λ n. before ++ flat_map f (range_with_len 0 n)) (sym same)) is ∙
    ap (λ n. before ++ flat_map f (range_with_len 0 n)) after
  where
    same : k - 0 ≡ k
    same = omega arith

    after : k + 1 - 0 ≡ k + 1
    after = omega arith

-- the first group of the nodes that are left
group_of_three : (a n : ℕ) → in_threes (range_with_len a (suc (suc (suc n)))) ≡ range_with_len a 3 ∷ in_threes (range_with_len (a + 3) n)
group_of_three a n = ap (λ k. (a ∷ (a + 1) ∷ (a + 1 + 1) ∷ []) ∷ in_threes (range_with_len k n)) same where
  same : a + 1 + 1 + 1 ≡ a + 3
  same = omega arith

pub first_group : (first nodes end : ℕ) → first < nodes → end ≡ min nodes (first + 3) →
    in_threes (range_with_len first (nodes - first)) ≡ range_with_len first (end - first) ∷ in_threes (range_with_len end (nodes - end))
first_group first nodes end h is = by (nodes - first) refl
  where
    last : (n : ℕ) → nodes - first ≡ n → n ≤ 3 → in_threes (range_with_len first n) ≡ range_with_len first n ∷ [] →
        in_threes (range_with_len first n) ≡ range_with_len first (end - first) ∷ in_threes (range_with_len end (nodes - end))
    last n size few one =
        let none : 0 ≡ nodes - end = omega arith in
        let whole : n ≡ end - first = omega arith in
        one ∙ ap (λ k. range_with_len first n ∷ in_threes (range_with_len end k)) none
        ∙ ap (λ k. range_with_len first k ∷ in_threes (range_with_len end (nodes - end))) whole

    by : (n : ℕ) → nodes - first ≡ n → in_threes (range_with_len first n) ≡ range_with_len first (end - first) ∷ in_threes (range_with_len end (nodes - end))
    by zero size = absurd (omega arith)
    by (suc zero) size = last 1 size (omega arith) refl
    by (suc (suc zero)) size = last 2 size (omega arith) refl
    by (suc (suc (suc n))) size =
        let three : 3 ≡ end - first = omega arith in
        let next : first + 3 ≡ end = omega arith in
        let more : n ≡ nodes - end = omega arith in
        group_of_three first n ∙ ap (λ k. range_with_len first k ∷ in_threes (range_with_len (first + 3) n)) three ∙
        ap (λ k. range_with_len first (end - first) ∷ in_threes (range_with_len k n)) next ∙
        ap (λ k. range_with_len first (end - first) ∷ in_threes (range_with_len end k)) more

-- with that group planned, the groups behind it are left
pub group_planned : (all now next : List Task) (first nodes end : ℕ) → first < nodes → end ≡ min nodes (first + 3) →
    now ++ flat_map group_tasks (in_threes (range_with_len first (nodes - first))) ≡ all →
    next ≡ now ++ group_tasks (range_with_len first (end - first)) →
    next ++ flat_map group_tasks (in_threes (range_with_len end (nodes - end))) ≡ all
group_planned all now next first nodes end h is at planned =
    ap (λ ts. ts ++ flat_map group_tasks (in_threes (range_with_len end (nodes - end)))) planned ∙
    append_assoc now (group_tasks (range_with_len first (end - first))) (flat_map group_tasks (in_threes (range_with_len end (nodes - end)))) ∙
    ap (λ groups. now ++ flat_map group_tasks groups) (sym (first_group first nodes end h is)) ∙ at

pub all_planned : (all now : List Task) (first nodes : ℕ) → nodes ≤ first →
    now ++ flat_map group_tasks (in_threes (range_with_len first (nodes - first))) ≡ all → now ≡ all
all_planned all now first nodes h at =
    let none : nodes - first ≡ 0 = omega arith in
    sym (append-nil now) ∙ ap (λ k. now ++ flat_map group_tasks (in_threes (range_with_len first k))) (sym none) ∙ at
