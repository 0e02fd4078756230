-- What was served stays served: in a stage with a budget each node is served anew, and in one without none takes a frame.
use Rattle.std.proofs.Common.{◌≡◌, ◌≢◌, ◌≤◌, ◌<◌, ◌⊎◌, inl, inr, zero, suc, ◌||◌, nat_lt, Bool, true, false, if◌then◌else◌, List, [], ◌∷◌, ◌++◌, All}
use Rattle.std.proofs.Common.{Contains, refl, sym, subst, ap, ◌∙◌, arith}
use Rattle.std.specs.List.{AllZip, list_any}
use Rattle.std.proofs.lemmas.Bool.{cond-true, cond-false, cases_Bool}
use Rattle.std.proofs.lemmas.Bool.Decides.{Decides-ltb}
use Rattle.ring_math.specs.Names.{Id, Number}
use Rattle.wire_msg.specs.Words.{Envelope}
use Rattle.overlay_rules.proofs.Each.{Each, Each-all, Each-contains, Each-from_all}
use Rattle.weave_laws.specs.Cells.{CellEntry, CellInput, Command, Comes, Noise, History}
use Rattle.overlay_harness.specs.Stages.{Stage, has_budget, has_command, last_budget, stages_behind}
use Rattle.overlay_harness.specs.Inputs.{frames_in}
use Rattle.overlay_harness.specs.Clauses.{IsMissing, IsServed, is_late}
use Rattle.overlay_harness.specs.Ran.{SentInTime}
use Rattle.overlay_harness.proofs.Along.{frames-append}
use Rattle.overlay_harness.proofs.Hands.{Grew}

-- ---- the last budget

any-append : {A : Type 0} (p : A → Bool) (xs ys : List A) → list_any p (xs ++ ys) ≡ list_any p xs || list_any p ys
any-append p [] ys = refl
any-append p (x ∷ xs) ys = grind (arith, any-append p xs ys)

has_some : (s : Stage) → 0 < s.budget → has_budget s ≡ true
has_some s lt = (Decides-ltb 0 s.budget).1 lt

has_no : (s : Stage) → s.budget ≡ 0 → has_budget s ≡ false
has_no s e = ap (nat_lt 0) e

any_last : (stages : List Stage) (s : Stage) → has_budget s ≡ true → list_any has_budget (stages ++ s ∷ []) ≡ true
any_last stages s e = any-append has_budget stages (s ∷ []) ∙ grind (arith, e)

any_same : (stages : List Stage) (s : Stage) → has_budget s ≡ false → list_any has_budget (stages ++ s ∷ []) ≡ list_any has_budget stages
any_same stages s e = any-append has_budget stages (s ∷ []) ∙ grind (arith, e)

pub last-more : (stages : List Stage) (s : Stage) → has_budget s ≡ true → last_budget (stages ++ s ∷ []) ≡ s.budget
last-more [] s e = refl
last-more (t ∷ stages) s e = cond-true (list_any has_budget (stages ++ s ∷ [])) _ _ (any_last stages s e) ∙ last-more stages s e

pub last-same : (stages : List Stage) (s : Stage) → s.budget ≡ 0 → last_budget (stages ++ s ∷ []) ≡ last_budget stages
last-same [] s e = e
last-same (t ∷ stages) s e =
    ap (λ b. if b then last_budget (stages ++ s ∷ []) else t.budget) (any_same stages s (has_no s e))
    ∙ ap (λ n. if list_any has_budget stages then n else t.budget) (last-same stages s e)

-- ---- what is late

-- a stage without a budget is behind all that have one
pub behind-more : (n : Number) (stages : List Stage) (s : Stage) → s.budget ≡ 0 →
    list_any (has_command n) (stages_behind (stages ++ s ∷ [])) ≡ list_any (has_command n) (stages_behind stages) || has_command n s
behind-more n [] s e =
    ap (list_any (has_command n)) (cond-false (list_any has_budget (s ∷ [])) (stages_behind []) (s ∷ []) (any_same [] s (has_no s e)))
    ∙ grind arith
behind-more n (t ∷ stages) s e = by (cases_Bool (list_any has_budget (t ∷ stages))) (behind-more n stages s e) where
  by : (list_any has_budget (t ∷ stages) ≡ true) ⊎ (list_any has_budget (t ∷ stages) ≡ false) →
      list_any (has_command n) (stages_behind (stages ++ s ∷ [])) ≡ list_any (has_command n) (stages_behind stages) || has_command n s →
      list_any (has_command n) (stages_behind (t ∷ (stages ++ s ∷ []))) ≡ list_any (has_command n) (stages_behind (t ∷ stages)) || has_command n s
  by (inl some) rest =
      ap (list_any (has_command n)) (cond-true (list_any has_budget (t ∷ (stages ++ s ∷ []))) _ _ (any_same (t ∷ stages) s (has_no s e) ∙ some))
      ∙ rest
      ∙ ap (λ ss. list_any (has_command n) ss || has_command n s) (sym (cond-true (list_any has_budget (t ∷ stages)) _ _ some))
  by (inr none) rest =
      ap (list_any (has_command n)) (cond-false (list_any has_budget (t ∷ (stages ++ s ∷ []))) _ _ (any_same (t ∷ stages) s (has_no s e) ∙ none))
      ∙ any-append (has_command n) (t ∷ stages) (s ∷ [])
      ∙ ap (λ b. list_any (has_command n) (t ∷ stages) || b) (one (has_command n s))
      ∙ ap (λ ss. list_any (has_command n) ss || has_command n s) (sym (cond-false (list_any has_budget (t ∷ stages)) _ _ none)) where
        one : (b : Bool) → b || false ≡ b
        one true = refl
        one false = refl

-- a command of the stage
abbrev pub IsOfStage : Stage → CellInput → Type 0
IsOfStage s (Command n c) = has_command n s ≡ true
IsOfStage s (Comes v) = ⊥
IsOfStage s Noise = ⊥

-- what is in time with the stage was in time before, and is none of its commands
in_time_before : (stages : List Stage) (s : Stage) (i : CellInput) → s.budget ≡ 0 → is_late (stages ++ s ∷ []) i ≡ false →
    (is_late stages i ≡ false) × (IsOfStage s i → ⊥)
in_time_before stages s (Command n c) e h =
    split (list_any (has_command n) (stages_behind stages)) (has_command n s) (sym (behind-more n stages s e) ∙ h) where
      split : (a b : Bool) → a || b ≡ false → (a ≡ false) × (b ≡ true → ⊥)
      split true b f = absurd (let no : true ≡ false = f in cc)
      split false true f = absurd (let no : true ≡ false = f in cc)
      split false false f = (refl, λ no. let same : false ≡ true = no in cc)
in_time_before stages s (Comes v) e h = (refl, λ no. no)
in_time_before stages s Noise e h = (refl, λ no. no)

-- ---- a stage without a budget

-- the history grew by commands of the stage
pub record WasTold (s : Stage) (h k : History) : Type 0 where
  pub grew : Grew h k
  pub theirs : Each (λ (e : CellEntry). IsOfStage s e.input) grew.more

back : (s : Stage) (hs ks : List History) → AllZip (WasTold s) hs ks → (k : History) → Contains ks k → (h : History) × Contains hs h × WasTold s h k
back s [] [] z k (n, lt, e) = absurd (omega arith)
back s [] (j ∷ ks) z k c = absurd z
back s (h ∷ hs) [] z k c = absurd z
back s (h ∷ hs) (j ∷ ks) z k (zero, lt, e) = (h, (0, omega arith, refl), subst (WasTold s h) e z.0)
back s (h ∷ hs) (j ∷ ks) z k (suc n, lt, e) =
    let rest = back s hs ks z.1 k (n, omega arith, e) in (rest.0, (suc rest.1.0, (let l = rest.1.1 in omega arith), rest.1.2), rest.2)

either_part : (es more : List CellEntry) (e : CellEntry) → Contains (es ++ more) e → Contains es e ⊎ Contains more e
either_part [] more e c = inr c
either_part (d ∷ es) more e (zero, lt, is) = inl (0, omega arith, is)
either_part (d ∷ es) more e (suc k, lt, is) =
    elim (either_part es more e (k, omega arith, is)) [
      | inl c ↦ inl (suc c.0, (let l = c.1 in omega arith), c.2)
      | inr c ↦ inr c
    ]

sent_before : (stages : List Stage) (s : Stage) (hs ks : List History) → s.budget ≡ 0 → AllZip (WasTold s) hs ks → (v : Envelope) →
    SentInTime (stages ++ s ∷ []) ks v → SentInTime stages hs v
sent_before stages s hs ks e z v t =
    let own = back s hs ks z t.history t.among in
    let time = in_time_before stages s t.entry.input e t.in_time in
    elim (either_part own.0.entries own.2.grew.more t.entry (subst (λ es. Contains es t.entry) own.2.grew.entries t.stands)) [
      | inl c ↦ record { history = own.0; among = own.1; entry = t.entry; stands = c; in_time = time.0; sent = t.sent }
      | inr c ↦ absurd (time.1 (Each-contains (λ (d : CellEntry). IsOfStage s d.input) own.2.grew.more t.entry own.2.theirs c))
    ]

front_never : (v : Envelope) (xs ys : List CellInput) → All (λ (i : CellInput). i ≢ Comes v) (xs ++ ys) → All (λ (i : CellInput). i ≢ Comes v) xs
front_never v xs ys h = Each-all (λ (i : CellInput). i ≢ Comes v) xs (front xs (Each-from_all (λ (i : CellInput). i ≢ Comes v) (xs ++ ys) h)) where
  front : (xs : List CellInput) → Each (λ (i : CellInput). i ≢ Comes v) (xs ++ ys) → Each (λ (i : CellInput). i ≢ Comes v) xs
  front [] k = tt
  front (x ∷ xs) k = (k.0, front xs k.1)

pub served_before : (stages : List Stage) (s : Stage) (hs ks : List History) (x : Id) (inputs more : List CellInput) → s.budget ≡ 0 → AllZip (WasTold s) hs ks →
    IsServed stages (SentInTime stages hs) x inputs → IsServed (stages ++ s ∷ []) (SentInTime (stages ++ s ∷ []) ks) x (inputs ++ more)
served_before stages s hs ks x inputs more e z (inl full) =
    inl (let same = last-same stages s e in let all = frames-append inputs more in omega arith)
served_before stages s hs ks x inputs more e z (inr none) =
    inr (λ v t m. none v (sent_before stages s hs ks e z v t) (record { addressed = m.addressed; never = front_never v inputs more m.never }))

-- ---- a stage with a budget

pub served_anew : (stages : List Stage) (s : Stage) (ks : List History) (x : Id) (inputs : List CellInput) → 0 < s.budget →
    ((s.budget ≤ frames_in inputs) ⊎ ((v : Envelope) → SentInTime (stages ++ s ∷ []) ks v → IsMissing x inputs v → ⊥)) →
    IsServed (stages ++ s ∷ []) (SentInTime (stages ++ s ∷ []) ks) x inputs
served_anew stages s ks x inputs lt (inl full) = inl (let same = last-more stages s (has_some s lt) in omega arith)
served_anew stages s ks x inputs lt (inr none) = inr none
