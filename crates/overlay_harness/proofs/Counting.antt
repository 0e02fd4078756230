-- Messages that are counted down as they are delivered: what came weighs no more than what was sent, each so many times.
use Rattle.std.proofs.Common.{◌≡◌, ◌≤◌, inl, inr, ℕ, zero, suc, ◌+◌, ◌-◌, ◌*◌, ◌==◌, cond, max, map, take, Option, Some, None, List, [], ◌∷◌, ◌++◌}
use Rattle.std.proofs.Common.{length, set, slice_get, replicate}
use Rattle.std.proofs.Common.{refl, sym, ap, ◌∙◌, append_assoc, arith}
use Rattle.std.specs.Prelude.{option_to_list}
use Rattle.std.specs.List.{count_by, sum_by}
use Rattle.std.proofs.Math.ListN.{length-set}
use Rattle.std.proofs.Math.Nat.{add-mul, mul-add}
use Rattle.std.proofs.lemmas.Bool.{cond-true, cond-false, cases_Bool}
use Rattle.std.proofs.lemmas.List.{take_all}
use Rattle.std.proofs.lemmas.List.Sums.{sum_by-cons, sum_by-append, sum_by_push}
use Rattle.std.proofs.lemmas.Option.{slice_get_within}
use Rattle.ring_math.specs.Names.{Id}
use Rattle.wire_msg.specs.Words.{Envelope}
use Rattle.overlay_rules.specs.declared.entry.Event.{Event}
use Rattle.overlay_rules.specs.declared.entry.Event.TheVariants as event
use Rattle.overlay_rules.specs.declared.entry.Entry.{Entry}
use Rattle.scenario_reader.specs.declared.action.Action.{Action}
use Rattle.node_cell.specs.declared.entry.CellEntry.{CellEntry as CodeEntry}
use Rattle.node_cell.specs.Entries.{plain_history, plain_input_of}
use Rattle.weave_laws.specs.Cells.{CellEntry, CellInput, Command, Comes, Noise}
use Rattle.overlay_harness.specs.Enough.{AreCountedDown, CameAtMost, IsCountedDown, delivered, delivered_by, remaining}
use Rattle.overlay_harness.specs.Inputs.{all_brought, brought, comes_to, envelopes_in, is_noise}
use Rattle.overlay_harness.specs.Stages.{Stage, is_noise_for, most_copies, noise_for}
use Rattle.overlay_harness.proofs.Hands.{envelopes-append}
use Rattle.overlay_harness.proofs.Least.{none_past}

-- ---- what is left of each

remaining-all : (weight : Envelope → ℕ) (n : ℕ) (sent : List Envelope) → remaining weight (replicate (length sent) n) sent ≡ n * sum_by weight sent
remaining-all weight n [] = omega arith
remaining-all weight n (v ∷ sent) =
    ap (λ m. n * weight v + m) (remaining-all weight n sent)
    ∙ sym (mul-add n (weight v) (sum_by weight sent))
    ∙ ap (λ m. n * m) (sym (sum_by-cons weight v sent))

remaining-less : (weight : Envelope → ℕ) (left : List ℕ) (sent : List Envelope) (place n : ℕ) (v : Envelope) → slice_get left place ≡ Some (suc n) →
    slice_get sent place ≡ Some v → remaining weight left sent ≡ weight v + remaining weight (set left place n) sent
remaining-less weight [] sent place n v at there = absurd (let no : None ≡ Some (suc n) = at in cc)
remaining-less weight (m ∷ left) [] place n v at there = absurd (let no : None ≡ Some v = there in cc)
remaining-less weight (m ∷ left) (w ∷ sent) zero n v at there =
    let is : m ≡ suc n = cc in
    let more : m ≡ 1 + n = omega arith in
    let same : w ≡ v = cc in
    let whole : m * weight w ≡ 1 * weight w + n * weight w = ap (λ k. k * weight w) more ∙ add-mul 1 n (weight w) in
    let own : weight w ≡ weight v = ap weight same in
    omega arith
remaining-less weight (m ∷ left) (w ∷ sent) (suc place) n v at there = let rest = remaining-less weight left sent place n v at there in omega arith

delivered-append : (sent : List Envelope) (xs ys : List Entry) → delivered sent (xs ++ ys) ≡ delivered sent xs ++ delivered sent ys
delivered-append sent [] ys = refl
delivered-append sent (x ∷ xs) ys =
    ap (λ vs. delivered_by sent x.event ++ vs) (delivered-append sent xs ys)
    ∙ sym (append_assoc (delivered_by sent x.event) (delivered sent xs) (delivered sent ys))

-- one event is counted down
record IsOneCounted (left new : List ℕ) (sent : List Envelope) (e : Event) : Type 0 where
  each : length new ≡ length left
  one : (weight : Envelope → ℕ) → sum_by weight (delivered_by sent e) + remaining weight new sent ≡ remaining weight left sent

same_left : (left new : List ℕ) (sent : List Envelope) (e : Event) → delivered_by sent e ≡ [] → new ≡ left → IsOneCounted left new sent e
same_left left new sent e none same = record {
  each = ap length same;
  one = λ weight.
      let nothing : sum_by weight (delivered_by sent e) ≡ 0 = ap (sum_by weight) none in
      let is : remaining weight new sent ≡ remaining weight left sent = ap (λ ns. remaining weight ns sent) same in
      omega arith;
}

counted_one : (left new : List ℕ) (sent : List Envelope) (e : Event) → length left ≡ length sent → IsCountedDown left e new → IsOneCounted left new sent e
counted_one left new sent (event.Command x n c) long h = same_left left new sent (event.Command x n c) refl h
counted_one left new sent (event.Noise x) long h = same_left left new sent (event.Noise x) refl h
counted_one left new sent (event.Deliver m) long h = by (slice_get sent m) refl where
  by : (o : Option Envelope) → slice_get sent m ≡ o → IsOneCounted left new sent (event.Deliver m)
  by None e = absurd (let within = slice_get_within left m (suc h.n) h.there in let past = none_past sent m e in omega arith)
  by (Some v) e = record {
    each = ap length h.less ∙ length-set left m h.n;
    one = λ weight.
        let came : sum_by weight (option_to_list (slice_get sent m)) ≡ sum_by weight (v ∷ []) = ap (λ o. sum_by weight (option_to_list o)) e in
        let own = sum_by-cons weight v [] in
        let is : remaining weight new sent ≡ remaining weight (set left m h.n) sent = ap (λ ns. remaining weight ns sent) h.less in
        let less = remaining-less weight left sent m h.n v h.there e in
        omega arith;
  }

pub counted_none : (left : List ℕ) (sent : List Envelope) → length left ≡ length sent → AreCountedDown left sent [] left
counted_none left sent long = record { each = long; all = λ weight. omega arith }

pub counted_more : (old left new : List ℕ) (sent : List Envelope) (es : List Entry) (e : Entry) → AreCountedDown old sent es left →
    IsCountedDown left e.event new → AreCountedDown old sent (es ++ e ∷ []) new
counted_more old left new sent es e k h =
    let one = counted_one left new sent e.event k.each h in record {
      each = one.each ∙ k.each;
      all = λ weight.
          let whole : sum_by weight (delivered sent (es ++ e ∷ [])) ≡ sum_by weight (delivered sent es) + sum_by weight (delivered_by sent e.event ++ []) =
          ap (sum_by weight) (delivered-append sent es (e ∷ [])) ∙ sum_by-append weight (delivered sent es) (delivered_by sent e.event ++ []) in
          let last : sum_by weight (delivered_by sent e.event ++ []) ≡ sum_by weight (delivered_by sent e.event) + sum_by weight [] =
          sum_by-append weight (delivered_by sent e.event) [] in
          let before = k.all weight in
          let now = one.one weight in
          omega arith;
    }

-- from so many of each on
pub came_at_most : (n : ℕ) (sent : List Envelope) (es : List Entry) (new : List ℕ) → AreCountedDown (replicate (length sent) n) sent es new →
    CameAtMost n sent (delivered sent es)
came_at_most n sent es new k = λ weight.
    let start = remaining-all weight n sent in
    let all = k.all weight in
    omega arith

-- ---- what is brought to a node is delivered

brought_one : (weight : Envelope → ℕ) (x : Id) (sent : List Envelope) (e : Event) →
    sum_by weight (envelopes_in (brought x sent e)) ≤ sum_by weight (delivered_by sent e)
brought_one weight x sent (event.Command y n c) =
    elim (cases_Bool (y == x)) [
      | inl t ↦ let e : envelopes_in (brought x sent (event.Command y n c)) ≡ [] = ap envelopes_in (cond-true (y == x) (Command n c ∷ []) [] t) in
          let f : sum_by weight (envelopes_in (brought x sent (event.Command y n c))) ≡ 0 = ap (sum_by weight) e in omega arith
      | inr t ↦ let e : envelopes_in (brought x sent (event.Command y n c)) ≡ [] = ap envelopes_in (cond-false (y == x) (Command n c ∷ []) [] t) in
          let f : sum_by weight (envelopes_in (brought x sent (event.Command y n c))) ≡ 0 = ap (sum_by weight) e in omega arith
    ]
brought_one weight x sent (event.Noise y) =
    elim (cases_Bool (y == x)) [
      | inl t ↦ let e : envelopes_in (brought x sent (event.Noise y)) ≡ [] = ap envelopes_in (cond-true (y == x) (Noise ∷ []) [] t) in
          let f : sum_by weight (envelopes_in (brought x sent (event.Noise y))) ≡ 0 = ap (sum_by weight) e in omega arith
      | inr t ↦ let e : envelopes_in (brought x sent (event.Noise y)) ≡ [] = ap envelopes_in (cond-false (y == x) (Noise ∷ []) [] t) in
          let f : sum_by weight (envelopes_in (brought x sent (event.Noise y))) ≡ 0 = ap (sum_by weight) e in omega arith
    ]
brought_one weight x sent (event.Deliver m) = by (slice_get sent m) where
  by : (o : Option Envelope) → sum_by weight (envelopes_in (comes_to x o)) ≤ sum_by weight (option_to_list o)
  by None = omega arith
  by (Some v) =
      elim (cases_Bool (v.receiver == x)) [
        | inl t ↦ let e : sum_by weight (envelopes_in (comes_to x (Some v))) ≡ sum_by weight (v ∷ []) =
            ap (λ is. sum_by weight (envelopes_in is)) (cond-true (v.receiver == x) (Comes v ∷ []) [] t) in omega arith
        | inr t ↦ let e : sum_by weight (envelopes_in (comes_to x (Some v))) ≡ 0 =
            ap (λ is. sum_by weight (envelopes_in is)) (cond-false (v.receiver == x) (Comes v ∷ []) [] t) in omega arith
      ]

-- what comes to a node weighs no more than all that was delivered
pub brought_weigh : (weight : Envelope → ℕ) (x : Id) (sent : List Envelope) (es : List Entry) →
    sum_by weight (envelopes_in (all_brought x sent es)) ≤ sum_by weight (delivered sent es)
brought_weigh weight x sent [] = omega arith
brought_weigh weight x sent (e ∷ es) =
    let left : sum_by weight (envelopes_in (brought x sent e.event ++ all_brought x sent es)) ≡
    sum_by weight (envelopes_in (brought x sent e.event)) + sum_by weight (envelopes_in (all_brought x sent es)) =
    ap (sum_by weight) (envelopes-append (brought x sent e.event) (all_brought x sent es))
    ∙ sum_by-append weight (envelopes_in (brought x sent e.event)) (envelopes_in (all_brought x sent es)) in
    let right : sum_by weight (delivered_by sent e.event ++ delivered sent es) ≡ sum_by weight (delivered_by sent e.event) + sum_by weight (delivered sent es) =
    sum_by-append weight (delivered_by sent e.event) (delivered sent es) in
    let one = brought_one weight x sent e.event in
    let rest = brought_weigh weight x sent es in
    omega arith

-- ---- copies and noise of stages

pub most_copies-push : (stages : List Stage) (s : Stage) → most_copies (stages ++ s ∷ []) ≡ max s.copies (most_copies stages)
most_copies-push [] s = refl
most_copies-push (t ∷ stages) s = let rest = most_copies-push stages s in omega arith

pub noise_for-push : (x : Id) (stages : List Stage) (s : Stage) →
    noise_for x (stages ++ s ∷ []) ≡ noise_for x stages + s.copies * count_by (λ (a : Action). is_noise_for x a.what) s.actions
noise_for-push x stages s = sum_by_push (λ (t : Stage). t.copies * count_by (λ (a : Action). is_noise_for x a.what) t.actions) stages s

-- what a list of no items is filled with
pub filled_with : (before items : List ℕ) (len n x : ℕ) → before ≡ [] → len ≡ 0 → items ≡ take n before ++ replicate (n - len) x → items ≡ replicate n x
filled_with before items len n x none short is =
    let rest : n - len ≡ n = omega arith in
    is
    ∙ ap (λ xs. take n xs ++ replicate (n - len) x) none
    ∙ ap (λ xs. xs ++ replicate (n - len) x) (take_all n [] (omega arith))
    ∙ ap (λ k. replicate k x) rest

-- noise is counted in a history as it is in its inputs
pub noise_counted : (es : List CodeEntry) →
    count_by (λ (e : CodeEntry). is_noise (plain_input_of e.input)) es ≡ count_by is_noise (map (λ (e : CellEntry). e.input) (plain_history es))
noise_counted [] = refl
noise_counted (e ∷ es) =
    let one = sum_by-cons (λ (d : CodeEntry). cond (is_noise (plain_input_of d.input)) 1 0) e es in
    let two = sum_by-cons (λ (i : CellInput). cond (is_noise i) 1 0) (plain_input_of e.input) (map (λ (d : CellEntry). d.input) (plain_history es)) in
    let rest = noise_counted es in
    omega arith
