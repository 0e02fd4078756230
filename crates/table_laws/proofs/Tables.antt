-- The table of a record that grows: what more notes make of it.
use Rattle.std.proofs.Common.{◌≡◌, ◌≢◌, inl, inr, ℕ, ◌+◌, Bool, true, false, ◌||◌, cond, Option, Some, None, List, [], ◌∷◌, ◌++◌, count_by, refl, sym, ap, ◌∙◌}
use Rattle.std.proofs.Common.{append-nil}
use Rattle.std.specs.List.{list_any}
use Rattle.std.proofs.lemmas.Bool.{cases_Bool, cond-true, cond-false}
use Rattle.std.proofs.lemmas.List.Concat.{flat_map-append}
use Rattle.std.proofs.lemmas.List.Folds.{list_any-append}
use Rattle.std.proofs.lemmas.List.Sums.{sum_by-cons, sum_by-append}
use Rattle.ring_math.specs.Names.{FileId, Content}
use Rattle.ring_math.specs.Bytewise.{same_bytes}
use Rattle.wire_msg.specs.declared.note.Note.{Note}
use Rattle.wire_msg.specs.declared.note.Note.TheVariants as note
use Rattle.overlay_rules.specs.declared.entry.Entry.{Entry}
use Rattle.overlay_rules.specs.Table.{Kept, Nowhere, Keeps, Gone, notes_in, accepted_in, is_acceptance_of, is_reclaim_of, kept_with, table_of}
use Rattle.overlay_rules.proofs.Each.{Each}
use Rattle.table_laws.proofs.Slots.{same-itself, same-other}

pub notes_in-push : (past : List Entry) (e : Entry) → notes_in (past ++ e ∷ []) ≡ notes_in past ++ e.notes
notes_in-push past e = flat_map-append (λ (d : Entry). d.notes) past (e ∷ []) ∙ ap (λ ns. notes_in past ++ ns) (append-nil e.notes)

abbrev pub is_reclaimed : FileId → List Note → Bool
is_reclaimed f ns = list_any (is_reclaim_of f) ns

-- the first, else the second
abbrev pub or_next : Option Content → Option Content → Option Content
or_next (Some b) o = Some b
or_next None o = o

pub accepted-append : (f : FileId) (ns ms : List Note) → accepted_in f (ns ++ ms) ≡ or_next (accepted_in f ns) (accepted_in f ms)
accepted-append f [] ms = refl
accepted-append f (note.Accepted g b ∷ ns) ms =
    elim (cases_Bool (same_bytes f g)) [
      | inl e ↦ cond-true (same_bytes f g) (Some b) (accepted_in f (ns ++ ms)) e
          ∙ ap (λ o. or_next o (accepted_in f ms)) (sym (cond-true (same_bytes f g) (Some b) (accepted_in f ns) e))
      | inr e ↦ cond-false (same_bytes f g) (Some b) (accepted_in f (ns ++ ms)) e
          ∙ (accepted-append f ns ms ∙ ap (λ o. or_next o (accepted_in f ms)) (sym (cond-false (same_bytes f g) (Some b) (accepted_in f ns) e)))
    ]
accepted-append f (note.Delivered o n key hops ∷ ns) ms = accepted-append f ns ms
accepted-append f (note.Answered o n r ∷ ns) ms = accepted-append f ns ms
accepted-append f (note.Closed n a ∷ ns) ms = accepted-append f ns ms
accepted-append f (note.Reclaimed g ∷ ns) ms = accepted-append f ns ms

pub reclaimed-append : (f : FileId) (ns ms : List Note) → is_reclaimed f (ns ++ ms) ≡ is_reclaimed f ns || is_reclaimed f ms
reclaimed-append f ns ms = list_any-append (is_reclaim_of f) ns ms

-- ---- what lasts

pub accepted-more : (f : FileId) (b : Content) (ns ms : List Note) → accepted_in f ns ≡ Some b → accepted_in f (ns ++ ms) ≡ Some b
accepted-more f b ns ms e = accepted-append f ns ms ∙ ap (λ o. or_next o (accepted_in f ms)) e

pub reclaimed-more : (f : FileId) (ns ms : List Note) → is_reclaimed f ns ≡ true → is_reclaimed f (ns ++ ms) ≡ true
reclaimed-more f ns ms e = reclaimed-append f ns ms ∙ ap (λ b. b || is_reclaimed f ms) e

-- ---- the table, by what was accepted and reclaimed

pub record IsKept (f : FileId) (b : Content) (ns : List Note) : Type 0 where
  pub accepted : accepted_in f ns ≡ Some b
  pub unreclaimed : is_reclaimed f ns ≡ false

pub record IsGone (f : FileId) (ns : List Note) : Type 0 where
  pub bytes : Content
  pub accepted : accepted_in f ns ≡ Some bytes
  pub reclaimed : is_reclaimed f ns ≡ true

pub keeps_parts : (f : FileId) (b : Content) (ns : List Note) → table_of ns f ≡ Keeps b → IsKept f b ns
keeps_parts f b ns e = by (is_reclaimed f ns) (accepted_in f ns) refl refl e where
  by : (r : Bool) (a : Option Content) → is_reclaimed f ns ≡ r → accepted_in f ns ≡ a → kept_with r a ≡ Keeps b → IsKept f b ns
  by true None d c h = cc
  by false None d c h = cc
  by true (Some x) d c h = cc
  by false (Some x) d c h = let is : x ≡ b = cc in record { accepted = c ∙ ap Some is; unreclaimed = d }

pub gone_parts : (f : FileId) (ns : List Note) → table_of ns f ≡ Gone → IsGone f ns
gone_parts f ns e = by (is_reclaimed f ns) (accepted_in f ns) refl refl e where
  by : (r : Bool) (a : Option Content) → is_reclaimed f ns ≡ r → accepted_in f ns ≡ a → kept_with r a ≡ Gone → IsGone f ns
  by true None d c h = cc
  by false None d c h = cc
  by true (Some x) d c h = record { bytes = x; accepted = c; reclaimed = d }
  by false (Some x) d c h = cc

pub nowhere_parts : (f : FileId) (ns : List Note) → table_of ns f ≡ Nowhere → accepted_in f ns ≡ None
nowhere_parts f ns e = by (is_reclaimed f ns) (accepted_in f ns) refl e where
  by : (r : Bool) (a : Option Content) → accepted_in f ns ≡ a → kept_with r a ≡ Nowhere → accepted_in f ns ≡ None
  by true None c h = c
  by false None c h = c
  by true (Some x) c h = cc
  by false (Some x) c h = cc

pub from_keeps : (f : FileId) (b : Content) (ns : List Note) → IsKept f b ns → table_of ns f ≡ Keeps b
from_keeps f b ns k = ap (λ r. kept_with r (accepted_in f ns)) k.unreclaimed ∙ ap (kept_with false) k.accepted

pub from_gone : (f : FileId) (ns : List Note) → IsGone f ns → table_of ns f ≡ Gone
from_gone f ns k = ap (λ r. kept_with r (accepted_in f ns)) k.reclaimed ∙ ap (kept_with true) k.accepted

pub from_nowhere : (f : FileId) (ns : List Note) → accepted_in f ns ≡ None → table_of ns f ≡ Nowhere
from_nowhere f ns e = ap (kept_with (is_reclaimed f ns)) e

pub data TableCases (f : FileId) (ns : List Note) : Type 0 where
  nowhere : table_of ns f ≡ Nowhere → TableCases f ns
  keeps : (b : Content) → table_of ns f ≡ Keeps b → TableCases f ns
  gone : table_of ns f ≡ Gone → TableCases f ns

pub table_cases : (f : FileId) (ns : List Note) → TableCases f ns
table_cases f ns = by (table_of ns f) refl where
  by : (k : Kept) → table_of ns f ≡ k → TableCases f ns
  by Nowhere e = nowhere e
  by (Keeps b) e = keeps b e
  by Gone e = gone e

-- what is Gone stays Gone
pub gone-more : (f : FileId) (ns ms : List Note) → table_of ns f ≡ Gone → table_of (ns ++ ms) f ≡ Gone
gone-more f ns ms e =
    let k = gone_parts f ns e in
    from_gone f (ns ++ ms) (record { bytes = k.bytes; accepted = accepted-more f k.bytes ns ms k.accepted; reclaimed = reclaimed-more f ns ms k.reclaimed })

-- ---- notes that change nothing

abbrev pub IsQuiet : Note → Type 0
IsQuiet (note.Accepted f b) = ⊥
IsQuiet (note.Reclaimed f) = ⊥
IsQuiet (note.Delivered o n key hops) = Unit {0}
IsQuiet (note.Answered o n r) = Unit {0}
IsQuiet (note.Closed n a) = Unit {0}

pub record AllQuiet (ns : List Note) : Type 0 where
  pub each : Each IsQuiet ns

abbrev pub acceptances : FileId → List Note → ℕ
acceptances f ns = count_by (is_acceptance_of f) ns

abbrev pub reclaims : FileId → List Note → ℕ
reclaims f ns = count_by (is_reclaim_of f) ns

pub acceptances-append : (f : FileId) (ns ms : List Note) → acceptances f (ns ++ ms) ≡ acceptances f ns + acceptances f ms
acceptances-append f ns ms = sum_by-append (λ n. cond (is_acceptance_of f n) 1 0) ns ms

pub reclaims-append : (f : FileId) (ns ms : List Note) → reclaims f (ns ++ ms) ≡ reclaims f ns + reclaims f ms
reclaims-append f ns ms = sum_by-append (λ n. cond (is_reclaim_of f n) 1 0) ns ms

acceptances-cons : (f : FileId) (n : Note) (ns : List Note) → acceptances f (n ∷ ns) ≡ cond (is_acceptance_of f n) 1 0 + acceptances f ns
acceptances-cons f n ns = sum_by-cons (λ k. cond (is_acceptance_of f k) 1 0) n ns

reclaims-cons : (f : FileId) (n : Note) (ns : List Note) → reclaims f (n ∷ ns) ≡ cond (is_reclaim_of f n) 1 0 + reclaims f ns
reclaims-cons f n ns = sum_by-cons (λ k. cond (is_reclaim_of f k) 1 0) n ns

-- notes say nothing of this file
pub record SaysNothing (f : FileId) (ns : List Note) : Type 0 where
  pub accepted : accepted_in f ns ≡ None
  pub reclaimed : is_reclaimed f ns ≡ false
  pub acceptances_none : acceptances f ns ≡ 0
  pub reclaims_none : reclaims f ns ≡ 0

nothing_here : (f : FileId) (n : Note) (ns : List Note) → accepted_in f (n ∷ ns) ≡ accepted_in f ns → is_acceptance_of f n ≡ false → is_reclaim_of f n ≡ false →
    SaysNothing f ns → SaysNothing f (n ∷ ns)
nothing_here f n ns e a r h = record {
  accepted = e ∙ h.accepted;
  reclaimed = ap (λ b. b || is_reclaimed f ns) r ∙ h.reclaimed;
  acceptances_none = acceptances-cons f n ns ∙ (ap (λ b. cond b 1 0 + acceptances f ns) a ∙ ap (λ k. 0 + k) h.acceptances_none);
  reclaims_none = reclaims-cons f n ns ∙ (ap (λ b. cond b 1 0 + reclaims f ns) r ∙ ap (λ k. 0 + k) h.reclaims_none);
}

says_nothing : (f : FileId) (ns : List Note) → Each IsQuiet ns → SaysNothing f ns
says_nothing f [] h = record { accepted = refl; reclaimed = refl; acceptances_none = refl; reclaims_none = refl }
says_nothing f (note.Accepted g b ∷ ns) h = absurd h.0
says_nothing f (note.Reclaimed g ∷ ns) h = absurd h.0
says_nothing f (note.Delivered o n key hops ∷ ns) h = nothing_here f _ ns refl refl refl (says_nothing f ns h.1)
says_nothing f (note.Answered o n r ∷ ns) h = nothing_here f _ ns refl refl refl (says_nothing f ns h.1)
says_nothing f (note.Closed n a ∷ ns) h = nothing_here f _ ns refl refl refl (says_nothing f ns h.1)

pub quiet_nothing : (f : FileId) (ns : List Note) → AllQuiet ns → SaysNothing f ns
quiet_nothing f ns h = says_nothing f ns h.each

-- one acceptance or reclaim says nothing of other files
pub acceptance_other : (f g : FileId) (b : Content) (ns : List Note) → f ≢ g → AllQuiet ns → SaysNothing f (note.Accepted g b ∷ ns)
acceptance_other f g b ns ne h = nothing_here f _ ns (cond-false (same_bytes f g) (Some b) (accepted_in f ns) (same-other f g ne)) (same-other f g ne) refl
    (quiet_nothing f ns h)

pub reclaim_other : (f g : FileId) (ns : List Note) → f ≢ g → AllQuiet ns → SaysNothing f (note.Reclaimed g ∷ ns)
reclaim_other f g ns ne h = nothing_here f _ ns refl refl (same-other f g ne) (quiet_nothing f ns h)

-- ---- a file of which nothing is said stays as it is

or_none : (o : Option Content) → or_next o None ≡ o
or_none None = refl
or_none (Some b) = refl

or_false : (b : Bool) → b || false ≡ b
or_false true = refl
or_false false = refl

pub accepted-same : (f : FileId) (ns ms : List Note) → SaysNothing f ms → accepted_in f (ns ++ ms) ≡ accepted_in f ns
accepted-same f ns ms h = accepted-append f ns ms ∙ (ap (or_next (accepted_in f ns)) h.accepted ∙ or_none (accepted_in f ns))

pub reclaimed-same : (f : FileId) (ns ms : List Note) → SaysNothing f ms → is_reclaimed f (ns ++ ms) ≡ is_reclaimed f ns
reclaimed-same f ns ms h = reclaimed-append f ns ms ∙ (ap (λ b. is_reclaimed f ns || b) h.reclaimed ∙ or_false (is_reclaimed f ns))

pub table-same : (f : FileId) (ns ms : List Note) → SaysNothing f ms → table_of (ns ++ ms) f ≡ table_of ns f
table-same f ns ms h = ap (λ r. kept_with r (accepted_in f (ns ++ ms))) (reclaimed-same f ns ms h)
    ∙ ap (kept_with (is_reclaimed f ns)) (accepted-same f ns ms h)

-- ---- a file that is accepted, and one that is reclaimed

pub accepted-new : (f : FileId) (b : Content) (ns ms : List Note) → accepted_in f ns ≡ None → accepted_in f (ns ++ note.Accepted f b ∷ ms) ≡ Some b
accepted-new f b ns ms e =
    accepted-append f ns (note.Accepted f b ∷ ms)
    ∙ (ap (λ o. or_next o (accepted_in f (note.Accepted f b ∷ ms))) e ∙ cond-true (same_bytes f f) (Some b) (accepted_in f ms) (same-itself f))

pub reclaimed-new : (f : FileId) (ns ms : List Note) → is_reclaimed f (ns ++ note.Reclaimed f ∷ ms) ≡ true
reclaimed-new f ns ms = reclaimed-append f ns (note.Reclaimed f ∷ ms)
    ∙ (ap (λ b. is_reclaimed f ns || (b || is_reclaimed f ms)) (same-itself f) ∙ or_true (is_reclaimed f ns)) where
      or_true : (b : Bool) → b || true ≡ true
      or_true true = refl
      or_true false = refl

pub acceptance-unreclaimed : (f : FileId) (b : Content) (ns ms : List Note) → AllQuiet ms → is_reclaimed f (ns ++ note.Accepted f b ∷ ms) ≡ is_reclaimed f ns
acceptance-unreclaimed f b ns ms h = reclaimed-append f ns (note.Accepted f b ∷ ms)
    ∙ (ap (λ r. is_reclaimed f ns || r) (quiet_nothing f ms h).reclaimed ∙ or_false (is_reclaimed f ns))

pub reclaim-accepted : (f : FileId) (ns ms : List Note) → AllQuiet ms → accepted_in f (ns ++ note.Reclaimed f ∷ ms) ≡ accepted_in f ns
reclaim-accepted f ns ms h = accepted-append f ns (note.Reclaimed f ∷ ms)
    ∙ (ap (or_next (accepted_in f ns)) (quiet_nothing f ms h).accepted ∙ or_none (accepted_in f ns))

-- ---- how often

pub acceptance_once : (f : FileId) (b : Content) (ms : List Note) → AllQuiet ms →
    (acceptances f (note.Accepted f b ∷ ms) ≡ 1) × (reclaims f (note.Accepted f b ∷ ms) ≡ 0)
acceptance_once f b ms h =
    let none = quiet_nothing f ms h in (
      acceptances-cons f (note.Accepted f b) ms ∙ (ap (λ t. cond t 1 0 + acceptances f ms) (same-itself f) ∙ ap (λ k. 1 + k) none.acceptances_none),
      reclaims-cons f (note.Accepted f b) ms ∙ ap (λ k. 0 + k) none.reclaims_none,
    )

pub reclaim_once : (f : FileId) (ms : List Note) → AllQuiet ms → (acceptances f (note.Reclaimed f ∷ ms) ≡ 0) × (reclaims f (note.Reclaimed f ∷ ms) ≡ 1)
reclaim_once f ms h =
    let none = quiet_nothing f ms h in (
      acceptances-cons f (note.Reclaimed f) ms ∙ ap (λ k. 0 + k) none.acceptances_none,
      reclaims-cons f (note.Reclaimed f) ms ∙ (ap (λ t. cond t 1 0 + reclaims f ms) (same-itself f) ∙ ap (λ k. 1 + k) none.reclaims_none),
    )

-- what was never accepted was never noted, and so with what was never reclaimed
pub never_accepted : (f : FileId) (ns : List Note) → accepted_in f ns ≡ None → acceptances f ns ≡ 0
never_accepted f [] e = refl
never_accepted f (note.Accepted g b ∷ ns) e =
    elim (cases_Bool (same_bytes f g)) [
      | inl d ↦ let some : accepted_in f (note.Accepted g b ∷ ns) ≡ Some b = cond-true (same_bytes f g) (Some b) (accepted_in f ns) d in cc
      | inr d ↦ acceptances-cons f (note.Accepted g b) ns
          ∙ (ap (λ t. cond t 1 0 + acceptances f ns) d
          ∙ ap (λ k. 0 + k) (never_accepted f ns (sym (cond-false (same_bytes f g) (Some b) (accepted_in f ns) d) ∙ e)))
    ]
never_accepted f (note.Delivered o n key hops ∷ ns) e = acceptances-cons f (note.Delivered o n key hops) ns ∙ ap (λ k. 0 + k) (never_accepted f ns e)
never_accepted f (note.Answered o n r ∷ ns) e = acceptances-cons f (note.Answered o n r) ns ∙ ap (λ k. 0 + k) (never_accepted f ns e)
never_accepted f (note.Closed n a ∷ ns) e = acceptances-cons f (note.Closed n a) ns ∙ ap (λ k. 0 + k) (never_accepted f ns e)
never_accepted f (note.Reclaimed g ∷ ns) e = acceptances-cons f (note.Reclaimed g) ns ∙ ap (λ k. 0 + k) (never_accepted f ns e)

pub never_reclaimed : (f : FileId) (ns : List Note) → is_reclaimed f ns ≡ false → reclaims f ns ≡ 0
never_reclaimed f [] e = refl
never_reclaimed f (n ∷ ns) e =
    elim (cases_Bool (is_reclaim_of f n)) [
      | inl d ↦ let some : is_reclaimed f (n ∷ ns) ≡ true = ap (λ b. b || is_reclaimed f ns) d in cc
      | inr d ↦ reclaims-cons f n ns ∙ (ap (λ t. cond t 1 0 + reclaims f ns) d
          ∙ ap (λ k. 0 + k) (never_reclaimed f ns (sym (ap (λ b. b || is_reclaimed f ns) d) ∙ e)))
    ]

-- an acceptance reclaims nothing
pub not_reclaimed : (g f : FileId) (b : Content) (ms : List Note) → Each IsQuiet ms → reclaims g (note.Accepted f b ∷ ms) ≡ 0
not_reclaimed g f b ms h = reclaims-cons g (note.Accepted f b) ms ∙ ap (λ k. 0 + k) (says_nothing g ms h).reclaims_none
