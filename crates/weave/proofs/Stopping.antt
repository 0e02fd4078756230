-- Where the weaving of entries goes on, and where it stops.
use Rattle.std.proofs.Common.{◌≡◌, ◌<◌, ◌+◌, ◌∙◌, ℕ, zero, suc, List, [], ◌∷◌, ◌++◌}
use Rattle.std.proofs.Common.{map, take, drop, length, get_or, sym, ap, subst, arith}
use Rattle.std.proofs.lemmas.List.{get_or_default, map-append, take_more}
use Rattle.std.proofs.lemmas.Option.{get_or_from_slice_get, slice_get_within}
use Rattle.std.specs.List.{AllZip}
use Rattle.wire_msg.specs.Words.{Envelope}
use Rattle.overlay_rules.specs.declared.entry.Event.{Event}
use Rattle.overlay_rules.specs.declared.entry.Entry.{Entry}
use Rattle.overlay_rules.proofs.Each.{Each, Each-all}
use Rattle.weave_laws.specs.Cells.{CellInput, Command, Comes, History, Noise}
use Rattle.weave_laws.specs.Woven.{Act, IsEntryOf, IsEventOf}
use Rattle.weave.specs.declared.acts.Act.{Act as CodeAct}
use Rattle.weave.specs.declared.fault.WeaveFault.{WeaveFault}
use Rattle.weave.specs.declared.fault.WeaveFault.TheVariants as fault
use Rattle.weave.specs.Placed.{Placed, act_at, acts_in, placed}
use Rattle.weave.specs.Stops.{IsAnswered, IsStopAt, StopsAt}

-- ---- one more

-- the entry that a turn of a loop takes up
abbrev pub at_turn : List CodeAct → ℕ → CodeAct
at_turn xs i = get_or xs i (record { stamp = 0; history = 0; place = 0 })

pub is_at_turn : (xs : List CodeAct) (i : ℕ) → i < length xs → at_turn xs i ≡ get_or xs i (at_turn xs i)
is_at_turn xs i lt = get_or_default xs i (record { stamp = 0; history = 0; place = 0 }) (at_turn xs i) lt

zip-push : {A B : Type 0} (R : A → B → Type 0) (xs : List A) (ys : List B) (x : A) (y : B) → AllZip R xs ys → R x y → AllZip R (xs ++ x ∷ []) (ys ++ y ∷ [])
zip-push R [] [] x y z r = (r, tt)
zip-push R [] (b ∷ ys) x y z r = absurd z
zip-push R (a ∷ xs) [] x y z r = absurd z
zip-push R (a ∷ xs) (b ∷ ys) x y z r = (z.0, zip-push R xs ys x y z.1 r)

-- the first so many of a list, and one more
pub placed_more : (hs : List History) (xs : List CodeAct) (i : ℕ) (x : CodeAct) → i < length xs → x ≡ get_or xs i x →
    map (placed hs) (take (i + 1) xs) ≡ map (placed hs) (take i xs) ++ placed hs x ∷ []
placed_more hs xs i x lt is =
    ap (map (placed hs)) (take_more xs i x lt ∙ ap (λ (y : CodeAct). take i xs ++ y ∷ []) (sym is)) ∙ map-append (placed hs) (take i xs) (x ∷ [])

pub entries-push : (hs : List History) (sent : List Envelope) (xs : List CodeAct) (i : ℕ) (x : CodeAct) (es : List Entry) (e : Entry) →
    i < length xs → x ≡ get_or xs i x →
    AllZip (IsEntryOf sent) (acts_in (map (placed hs) (take i xs))) es → IsEntryOf sent (act_at hs x) e →
    AllZip (IsEntryOf sent) (acts_in (map (placed hs) (take (i + 1) xs))) (es ++ e ∷ [])
entries-push hs sent xs i x es e lt is z r =
    subst (λ acts. AllZip (IsEntryOf sent) acts (es ++ e ∷ []))
    (sym (ap acts_in (placed_more hs xs i x lt is) ∙ map-append (λ (p : Placed). p.act) (map (placed hs) (take i xs)) (placed hs x ∷ [])))
    (zip-push (IsEntryOf sent) (acts_in (map (placed hs) (take i xs))) es (act_at hs x) e z r)

-- ---- what became entries took in what was sent

answered : (sent : List Envelope) (a : Act) (i : CellInput) (e : Event) → IsEventOf sent a.node i e → IsAnswered sent i
answered sent a (Command n c) e h = tt
answered sent a (Comes v) e (m, is, number) =
    (m, slice_get_within sent m v number.here, get_or_from_slice_get sent m v v number.here)
answered sent a Noise e h = tt

pub all_answered : (sent : List Envelope) (ps : List Placed) (es : List Entry) → AllZip (IsEntryOf sent) (acts_in ps) es →
    Each (λ (p : Placed). IsAnswered sent p.act.entry.input) ps
all_answered sent [] es z = tt
all_answered sent (p ∷ ps) [] z = absurd z
all_answered sent (p ∷ ps) (e ∷ es) z = (answered sent p.act p.act.entry.input e.event z.0.event, all_answered sent ps es z.1)

-- ---- where it stops

pub split_at : (hs : List History) (xs : List CodeAct) (i n : ℕ) (x : CodeAct) → n ≡ suc i → i < length xs → x ≡ get_or xs i x →
    map (placed hs) xs ≡ map (placed hs) (take i xs) ++ placed hs x ∷ map (placed hs) (drop n xs)
split_at hs [] i n x next lt is = absurd (omega arith)
split_at hs (y ∷ xs) i zero x next lt is = absurd (omega arith)
split_at hs (y ∷ xs) zero (suc n) x next lt is =
    let none : 0 ≡ n = omega arith in
    ap (λ k. placed hs y ∷ map (placed hs) (drop k xs)) none ∙ ap (λ (p : CodeAct). placed hs p ∷ map (placed hs) (drop n xs)) (sym is)
split_at hs (y ∷ xs) (suc i) (suc n) x next lt is = ap (λ ps. placed hs y ∷ ps) (split_at hs xs i n x (omega arith) (omega arith) is)

pub stops : (hs : List History) (sent : List Envelope) (xs : List CodeAct) (i : ℕ) (x : CodeAct) (es : List Entry) (f : WeaveFault) →
    i < length xs → x ≡ get_or xs i x →
    AllZip (IsEntryOf sent) (acts_in (map (placed hs) (take i xs))) es → IsStopAt sent (placed hs x) f → StopsAt sent (map (placed hs) xs) f
stops hs sent xs i x es fault.OutOfMemory lt is z h = tt
stops hs sent xs i x es (fault.Stray node place v) lt is z h = record {
  before = map (placed hs) (take i xs);
  stop = placed hs x;
  behind = map (placed hs) (drop (i + 1) xs);
  split = split_at hs xs i (i + 1) x (omega arith) lt is;
  earlier = Each-all (λ (p : Placed). IsAnswered sent p.act.entry.input) (map (placed hs) (take i xs)) (all_answered sent (map (placed hs) (take i xs)) es z);
  named = h;
}
