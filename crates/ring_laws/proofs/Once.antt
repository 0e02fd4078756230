-- The sixth invariant of every legal record: no command is closed twice. A command that is open has no note Closed yet, and what is closed was given.
use Rattle.std.proofs.Common.{◌≡◌, ◌≢◌, ◌⊎◌, inl, inr, ◌<◌, ◌≤◌, ℕ, ◌+◌, Bool, ◌==◌, List, [], ◌∷◌, ◌++◌, length, Contains, take_all, append-nil, refl, sym}
use Rattle.std.proofs.Common.{subst, ap, ◌∙◌, arith}
use Rattle.std.proofs.lemmas.Bool.{cases_eq, cases_lt}
use Rattle.std.proofs.lemmas.List.Elements.{Contains-push}
use Rattle.std.proofs.lemmas.List.Concat.{flat_map-append}
use Rattle.ring_math.specs.Names.{Id, Number}
use Rattle.wire_msg.specs.declared.command.Command.{Command as NodeCommand}
use Rattle.wire_msg.specs.declared.command.Command.TheVariants as command
use Rattle.overlay_rules.specs.declared.entry.Entry.{Entry}
use Rattle.overlay_rules.specs.State.{State, start}
use Rattle.overlay_rules.specs.Outcome.{Outcome, Input, Command, Comes, Noise}
use Rattle.overlay_rules.specs.Step.{step}
use Rattle.overlay_rules.specs.Record.{Setting, IsSetting, World, IsRecord, world_at_start}
use Rattle.overlay_rules.specs.Table.{notes_in}
use Rattle.overlay_rules.specs.Rightly.{WasCommanded, ClosedOnce}
use Rattle.overlay_rules.proofs.Histories.{state_at-itself, state_at-other, state_at-each, past_after}
use Rattle.overlay_rules.proofs.SeatStep.{step_seat}
use Rattle.step_facts.proofs.Always.{Takes, Keeps, after_step, always}
use Rattle.ring_laws.proofs.Lookups.{RequestsHold, AllHold, arrives_fresh, all_keep, all_at_start}
use Rattle.ring_laws.proofs.JoinNumbers.{JoinsCommanded, was_commanded, was_commanded_later, joins_keep_numbers, joins_at_the_start}
use Rattle.ring_laws.proofs.Closed.{join_was}
use Rattle.ring_laws.proofs.Numbers.{closings, closings-append, IsGiven, IsRequest, IsAsked, asked_given, IsOpen, IsApart, Counted, seat_counted}

-- a request of the node that waits for its reply
pub record Waits (w : World) (x : Id) (n : Number) : Type 0 where
  pub what : NodeCommand
  pub request : IsRequest what
  pub commanded_here : WasCommanded w x n what

pub record NumbersHold (w : World) : Type 0 where
  pub waiting : (y : Id) (n : Number) → Contains (w.states y).waiting n → Waits w y n
  pub unclosed : (y : Id) (n : Number) → IsOpen (w.states y) n → closings n (notes_in w.past) ≡ 0
  pub given : (n : Number) → 0 < closings n (notes_in w.past) → (y : Id) × ((c : NodeCommand) × WasCommanded w y n c)
  pub once : (n : Number) → closings n (notes_in w.past) ≤ 1

-- ---- what is open was commanded

open_commanded : (w : World) (y : Id) (n : Number) → JoinsCommanded w → NumbersHold w → IsOpen (w.states y) n → (c : NodeCommand) × WasCommanded w y n c
open_commanded w y n j k (inl h) = let b = join_was w y n (w.states y).phase (j.phase y) h in (command.Join b.0, b.1)
open_commanded w y n j k (inr c) = let b = k.waiting y n c in (b.what, b.commanded_here)

-- what an input gives is new
given_fresh : (g : Setting) (w : World) (e : Entry) (x : Id) (i : Input) → Takes g w e x i → (n : Number) (y : Id) (c : NodeCommand) → IsGiven i n →
    WasCommanded w y n c → ⊥
given_fresh g w e x i t n y c h was = by i refl h where
  by : (j : Input) → i ≡ j → IsGiven j n → ⊥
  by (Command m d) is f = arrives_fresh w e.event x x n i d c t.arrives (was_commanded g w e x i t n d (is ∙ ap (λ z. Command z d) f)) y was
  by (Comes from m) is f = absurd f
  by Noise is f = absurd f

no_request : (via : Id) (c : NodeCommand) → IsRequest c → command.Join via ≡ c → ⊥
no_request via c r e = subst IsRequest (sym e) r

apart : (g : Setting) (w : World) (e : Entry) (x : Id) (i : Input) → RequestsHold g w → JoinsCommanded w → NumbersHold w → Takes g w e x i →
    IsApart (w.states x) i
apart g w e x i q j k t = record {
  fresh = λ n f open'. let b = open_commanded w x n j k open' in given_fresh g w e x i t n x b.0 f b.1;
  apart = λ n f c.
      let join = join_was w x n (w.states x).phase (j.phase x) f in
      let b = k.waiting x n c in
      no_request join.0 b.what b.request (q.one x x n (command.Join join.0) b.what join.1 b.commanded_here).1;
}

-- ---- one step keeps it

-- the command that an input gives, in the world after
given_after : (g : Setting) (w : World) (e : Entry) (x : Id) (i : Input) → Takes g w e x i → (s : Id → State) (n : Number) → IsGiven i n →
    (c : NodeCommand) × WasCommanded (record { states = s; past = w.past ++ e ∷ [] }) x n c
given_after g w e x i t s n h = by i refl h where
  by : (j : Input) → i ≡ j → IsGiven j n → (c : NodeCommand) × WasCommanded (record { states = s; past = w.past ++ e ∷ [] }) x n c
  by (Command m d) is f = (d, (e, Contains-push w.past e, was_commanded g w e x i t n d (is ∙ ap (λ z. Command z d) f)))
  by (Comes from m) is f = absurd f
  by Noise is f = absurd f

asked_after : (g : Setting) (w : World) (e : Entry) (x : Id) (i : Input) → Takes g w e x i → (s : Id → State) (n : Number) → IsAsked i n →
    Waits (record { states = s; past = w.past ++ e ∷ [] }) x n
asked_after g w e x i t s n h = by i refl h where
  by : (j : Input) → i ≡ j → IsAsked j n → Waits (record { states = s; past = w.past ++ e ∷ [] }) x n
  by (Command m d) is f = record {
    what = d;
    request = f.1;
    commanded_here = (e, Contains-push w.past e, was_commanded g w e x i t n d (is ∙ ap (λ z. Command z d) f.0));
  }
  by (Comes from m) is f = absurd f
  by Noise is f = absurd f

later_waits : (w : World) (e : Entry) (s : Id → State) (y : Id) (n : Number) → Waits w y n → Waits (record { states = s; past = w.past ++ e ∷ [] }) y n
later_waits w e s y n b = record { what = b.what; request = b.request; commanded_here = was_commanded_later w e s y n b.what b.commanded_here }

notes_after : (past : List Entry) (e : Entry) → notes_in (past ++ e ∷ []) ≡ notes_in past ++ e.notes
notes_after past e = flat_map-append (λ (d : Entry). d.notes) past (e ∷ []) ∙ ap (λ ns. notes_in past ++ ns) (append-nil e.notes)

keeps : (g : Setting) (w : World) (e : Entry) (x : Id) (i : Input) → RequestsHold g w → JoinsCommanded w → NumbersHold w → Takes g w e x i →
    NumbersHold (after_step w e x i)
keeps g w e x i q j k t = record {
  waiting = λ y n c. state_at-each (λ z (s : State). Contains s.waiting n → Waits v z n) w.states x o.state y
      (λ d. elim ((counted n).waits d) [ inl b ↦ later_waits w e v.states x n (k.waiting x n b) | inr b ↦ asked_after g w e x i t v.states n b ])
      (λ d. later_waits w e v.states y n (k.waiting y n d)) c;
  unclosed = λ y n is_open. elim (cases_eq y x) [
    | inl same ↦ at_x n (subst (λ (s : State). IsOpen s n) (ap v.states same ∙ here) is_open)
    | inr ne ↦ elsewhere y n ne (subst (λ (s : State). IsOpen s n) (state_at-other w.states x o.state y ne) is_open)
  ];
  given = λ n lt. given n lt;
  once = λ n. once n;
} where
  o : Outcome
  o = step (w.states x) i

  v : World
  v = after_step w e x i

  here : v.states x ≡ o.state
  here = state_at-itself w.states x o.state

  counted : (n : Number) → Counted (w.states x) i o n
  counted n = seat_counted (w.states x) i o (step_seat (w.states x) i) refl (apart g w e x i q j k t) n

  before : Number → ℕ
  before n = closings n (notes_in w.past)

  sum : (n : Number) → closings n (notes_in v.past) ≡ before n + closings n o.notes
  sum n = ap (closings n) (notes_after w.past e ∙ ap (λ ns. notes_in w.past ++ ns) t.notes) ∙ closings-append n (notes_in w.past) o.notes

  -- what was open or is given had no closing before
  none_before : (n : Number) → IsOpen (w.states x) n ⊎ IsGiven i n → before n ≡ 0
  none_before n (inl b) = k.unclosed x n b
  none_before n (inr b) = elim (cases_lt 0 (before n)) [
    | inl lt ↦ let was = k.given n lt in absurd (given_fresh g w e x i t n was.0 was.1.0 b was.1.1)
    | inr le ↦ omega arith
  ]

  opened : (n : Number) → IsOpen o.state n → IsOpen (w.states x) n ⊎ IsGiven i n
  opened n (inl b) = elim ((counted n).joins b) [ inl c ↦ inl (inl c) | inr c ↦ inr c ]
  opened n (inr b) = elim ((counted n).waits b) [ inl c ↦ inl (inr c) | inr c ↦ inr (asked_given i n c) ]

  at_x : (n : Number) → IsOpen o.state n → closings n (notes_in v.past) ≡ 0
  at_x n b = elim (cases_lt 0 (closings n o.notes)) [
    | inl lt ↦ absurd ((counted n).shut lt b)
    | inr le ↦ let zero = none_before n (opened n b) in sum n ∙ (ap (λ z. z + closings n o.notes) zero ∙ nothing (closings n o.notes) le)
  ] where
    nothing : (m : ℕ) → m ≤ 0 → 0 + m ≡ 0
    nothing m le = omega arith

  elsewhere : (y : Id) (n : Number) → y ≢ x → IsOpen (w.states y) n → closings n (notes_in v.past) ≡ 0
  elsewhere y n ne b = elim (cases_lt 0 (closings n o.notes)) [
    | inl lt ↦ elim ((counted n).source lt) [
      | inl c ↦ let p = open_commanded w y n j k b in let r = open_commanded w x n j k c in absurd (ne (q.one y x n p.0 r.0 p.1 r.1).0)
      | inr c ↦ let p = open_commanded w y n j k b in absurd (given_fresh g w e x i t n y p.0 c p.1)
    ]
    | inr le ↦ sum n ∙ (ap (λ z. z + closings n o.notes) (k.unclosed y n b) ∙ nothing (closings n o.notes) le)
  ] where
    nothing : (m : ℕ) → m ≤ 0 → 0 + m ≡ 0
    nothing m le = omega arith

  given : (n : Number) → 0 < closings n (notes_in v.past) → (y : Id) × ((c : NodeCommand) × WasCommanded v y n c)
  given n lt = elim (cases_lt 0 (before n)) [
    | inl was ↦ let b = k.given n was in (b.0, (b.1.0, was_commanded_later w e v.states b.0 n b.1.0 b.1.1))
    | inr le ↦ elim ((counted n).source (more (closings n (notes_in v.past)) (before n) (closings n o.notes) (sum n) lt le)) [
      | inl c ↦ let b = open_commanded w x n j k c in (x, (b.0, was_commanded_later w e v.states x n b.0 b.1))
      | inr c ↦ (x, given_after g w e x i t v.states n c)
    ]
  ] where
    more : (a b c : ℕ) → a ≡ b + c → 0 < a → b ≤ 0 → 0 < c
    more a b c e lt le = omega arith

  once : (n : Number) → closings n (notes_in v.past) ≤ 1
  once n = elim (cases_lt 0 (closings n o.notes)) [
    | inl lt ↦ first (closings n (notes_in v.past)) (before n) (closings n o.notes) (sum n) (none_before n ((counted n).source lt)) (counted n).closes
    | inr le ↦ second (closings n (notes_in v.past)) (before n) (closings n o.notes) (sum n) (k.once n) le
  ] where
    first : (a b c : ℕ) → a ≡ b + c → b ≡ 0 → c ≤ 1 → a ≤ 1
    first a b c e f le = omega arith

    second : (a b c : ℕ) → a ≡ b + c → b ≤ 1 → c ≤ 0 → a ≤ 1
    second a b c e f le = omega arith

-- ---- over every legal record

start_waits : (y : Id) (b : Bool) (n : Number) → Contains (start y b).waiting n → ⊥
start_waits y b n c = let lt = c.1 in absurd (omega arith)

numbers_at_start : (g : Setting) → NumbersHold (world_at_start g)
numbers_at_start g = record {
  waiting = λ y n c. absurd (start_waits y (y == g.founder) n c);
  unclosed = λ y n b. refl;
  given = λ n lt. absurd (omega arith);
  once = λ n. omega arith;
}

-- the invariants on numbers, with those that they go by
record ClosingsHold (g : Setting) (w : World) : Type 0 where
  all : AllHold g w
  joins : JoinsCommanded w
  numbers : NumbersHold w

closings_keep : (g : Setting) → IsSetting g → Keeps g (ClosingsHold g)
closings_keep g set = record {
  keeps = λ w e x i h t. record {
    all = (all_keep g set).keeps w e x i h.all t;
    joins = joins_keep_numbers g w e x i h.joins t;
    numbers = keeps g w e x i h.all.requests h.joins h.numbers t;
  };
}

closings_at_start : (g : Setting) → IsSetting g → ClosingsHold g (world_at_start g)
closings_at_start g set = record { all = all_at_start g set; joins = joins_at_the_start g; numbers = numbers_at_start g }

pub closed_once : (g : Setting) (es : List Entry) → IsRecord g es → ClosedOnce es
closed_once g es r n =
    subst (λ fs. closings n (notes_in fs) ≤ 1) (past_after g es (length es) ∙ take_all (length es) es (omega arith))
    ((always g (ClosingsHold g) (closings_at_start g r.setting) (closings_keep g r.setting) es r (length es)).numbers.once n)
