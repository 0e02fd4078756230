-- The verdict on a record: one entry more that follows, the first that does not, and that there is one verdict.
use Rattle.std.proofs.Common.{◌≡◌, ◌≤◌, ◌+◌, ℕ, suc, Some, List, [], ◌∷◌, ◌++◌, take, slice_get, sym, subst, ap, ◌∙◌, arith}
use Rattle.std.proofs.Common.{inl, inr, refl, ◌<◌, zero, None, length, length-append}
use Rattle.std.proofs.lemmas.Bool.{cases_order}
use Rattle.std.proofs.lemmas.List.{take-take}
use Rattle.overlay_rules.specs.declared.entry.Entry.{Entry}
use Rattle.overlay_rules.specs.Record.{Setting, World, Follows, LegalFrom, Legal, after, run, sent_in, world_at_start, world_after}
use Rattle.overlay_rules.proofs.Histories.{LegalFrom-push, LegalFrom-take}
use Rattle.overlay_rules.proofs.Prefixes.{take-got, sent_in-got}
use Rattle.trace_check.specs.declared.verdict.Part.{Part}
use Rattle.trace_check.specs.declared.verdict.Part.TheVariants as part
use Rattle.trace_check.specs.declared.verdict.Verdict.{Verdict}
use Rattle.trace_check.specs.declared.verdict.Verdict.TheVariants as verdict
use Rattle.trace_check.specs.declared.replay.Replay.{Replay}
use Rattle.trace_check.specs.Replays.{IsReplay, IsReplayedOrWrong}
use Rattle.trace_check.specs.Verdicts.{IsWrongIn, IsFirstWrong, IsVerdict}
use Rattle.trace_check.proofs.Following.{wrong-follows_not}

-- ---- one entry more

pub Legal-more : (g : Setting) (es : List Entry) (i : ℕ) (e : Entry) → slice_get es i ≡ Some e → Legal g (take i es) →
    Follows g (world_after g es i) e → Legal g (take (i + 1) es)
Legal-more g es i e at h f = subst (Legal g) (sym (take-got es i e at)) (LegalFrom-push g (world_at_start g) (take i es) e h f)

LegalFrom-rest : (g : Setting) (w : World) (es fs : List Entry) → LegalFrom g w (es ++ fs) → LegalFrom g (run w es) fs
LegalFrom-rest g w [] fs h = h
LegalFrom-rest g w (e ∷ es) fs h = LegalFrom-rest g (after w e) es fs h.1

Legal-last : (g : Setting) (es : List Entry) (i : ℕ) (e : Entry) → slice_get es i ≡ Some e → Legal g (take (i + 1) es) → Follows g (world_after g es i) e
Legal-last g es i e at h = (LegalFrom-rest g (world_at_start g) (take i es) (e ∷ []) (subst (Legal g) (take-got es i e at) h)).0

-- ---- the first that does not follow

pub first_wrong : (g : Setting) (es : List Entry) (i : ℕ) (e : Entry) (p : Part) (n : ℕ) → n ≡ i + 1 → slice_get es i ≡ Some e → Legal g (take i es) →
    IsWrongIn g (world_after g es i) e p → IsFirstWrong g es n p
first_wrong g es i e p n is at before wrong = record {
  place = i;
  entry = e;
  last = omega arith;
  stands = at;
  before = before;
  here = λ h. wrong-follows_not g (world_after g es i) e p wrong (Legal-last g es i e at (subst (λ k. Legal g (take k es)) is h));
  wrong = wrong;
}

pub FirstWrong-illegal : (g : Setting) (es : List Entry) (n : ℕ) (p : Part) → IsFirstWrong g es n p → ¬ Legal g es
FirstWrong-illegal g es n p w = λ h. w.here (LegalFrom-take g (world_at_start g) es n h)

-- ---- how far the check has come

-- the first i entries are legal and replayed, and so many messages were sent
pub record IsReached (g : Setting) (es : List Entry) (i : ℕ) (a : Replay) (sent : ℕ) : Type 0 where
  pub legal : Legal g (take i es)
  pub replay : IsReplay a g (take i es)
  pub sent_so_far : sent ≡ length (sent_in (take i es))

pub entry-at : (es : List Entry) (i : ℕ) → i < length es → (e : Entry) × (slice_get es i ≡ Some e)
entry-at [] i l = absurd (omega arith)
entry-at (e ∷ es) zero l = (e, refl)
entry-at (e ∷ es) (suc i) l = entry-at es i (omega arith)

pub sent-more : (es : List Entry) (i : ℕ) (e : Entry) (sent n : ℕ) → slice_get es i ≡ Some e → sent ≡ length (sent_in (take i es)) → n ≡ length e.messages →
    sent + n ≡ length (sent_in (take (i + 1) es))
sent-more es i e sent n at so_far more =
    let all : length (sent_in (take (i + 1) es)) ≡ length (sent_in (take i es) ++ e.messages) = ap length (sent_in-got es i e at) in
    let long = length-append (sent_in (take i es)) e.messages in omega arith

pub IsReached-more : (g : Setting) (es : List Entry) (i : ℕ) (e : Entry) (a b : Replay) (sent n : ℕ) → slice_get es i ≡ Some e →
    IsReached g es i a sent → IsReplayedOrWrong b g (take i es) e None → n ≡ length e.messages → IsReached g es (i + 1) b (sent + n)
IsReached-more g es i e a b sent n at h s more = record {
  legal = Legal-more g es i e at h.legal s.0;
  replay = subst (IsReplay b g) (sym (take-got es i e at)) s.1;
  sent_so_far = sent-more es i e sent n at h.sent_so_far more;
}

-- ---- there is one verdict

not_before : (g : Setting) (es : List Entry) (n m : ℕ) (p q : Part) → IsFirstWrong g es n p → IsFirstWrong g es m q → ¬ (n < m)
not_before g es n m p q h k = λ l.
    let last : m ≡ suc k.place = k.last in
    let within : n ≤ k.place = omega arith in
    h.here (subst (Legal g) (take-take n k.place es within) (LegalFrom-take g (world_at_start g) (take k.place es) n k.before))

one_place : (g : Setting) (es : List Entry) (n m : ℕ) (p q : Part) → IsFirstWrong g es n p → IsFirstWrong g es m q → n ≡ m
one_place g es n m p q h k =
    elim (cases_order n m) [
      | inl e ↦ e
      | inr (inl l) ↦ absurd (not_before g es n m p q h k l)
      | inr (inr l) ↦ absurd (not_before g es m n q p k h l)
    ]

one_part : (g : Setting) (w : World) (e : Entry) (p q : Part) → IsWrongIn g w e p → IsWrongIn g w e q → p ≡ q
one_part g w e part.Event part.Event h k = refl
one_part g w e part.Event part.Sent h k = absurd (h k.0)
one_part g w e part.Event part.Notes h k = absurd (h k.0)
one_part g w e part.Sent part.Event h k = absurd (k h.0)
one_part g w e part.Sent part.Sent h k = refl
one_part g w e part.Sent part.Notes h k = absurd (h.1 k.1)
one_part g w e part.Notes part.Event h k = absurd (k h.0)
one_part g w e part.Notes part.Sent h k = absurd (k.1 h.1)
one_part g w e part.Notes part.Notes h k = refl

-- what stands at one place is one entry
one_entry : (es : List Entry) (i j : ℕ) (d e : Entry) → i ≡ j → slice_get es i ≡ Some d → slice_get es j ≡ Some e → d ≡ e
one_entry es i j d e same at there =
    let both : Some d ≡ Some e = sym at ∙ ap (λ k. slice_get es k) same ∙ there in cc

same_part : (g : Setting) (es : List Entry) (n m : ℕ) (p q : Part) → n ≡ m → IsFirstWrong g es n p → IsFirstWrong g es m q → p ≡ q
same_part g es n m p q same h k =
    let first : n ≡ suc h.place = h.last in
    let second : m ≡ suc k.place = k.last in
    let place : k.place ≡ h.place = omega arith in
    let entry : k.entry ≡ h.entry = one_entry es k.place h.place k.entry h.entry place k.stands h.stands in
    one_part g (world_after g es h.place) h.entry p q h.wrong
    (subst (λ i. IsWrongIn g (world_after g es i) h.entry q) place (subst (λ d. IsWrongIn g (world_after g es k.place) d q) entry k.wrong))

pub one_verdict : (g : Setting) (es : List Entry) (v w : Verdict) → IsVerdict g es v → IsVerdict g es w → v ≡ w
one_verdict g es (verdict.Legal r) (verdict.Legal q) h k = ap verdict.Legal (h.1 ∙ sym k.1)
one_verdict g es (verdict.Legal r) (verdict.Wrong n p) h k = absurd (FirstWrong-illegal g es n p k h.0)
one_verdict g es (verdict.Wrong n p) (verdict.Legal r) h k = absurd (FirstWrong-illegal g es n p h k.0)
one_verdict g es (verdict.Wrong n p) (verdict.Wrong m q) h k =
    let place : n ≡ m = one_place g es n m p q h k in
    ap (λ i. verdict.Wrong i p) place ∙ ap (λ r. verdict.Wrong m r) (same_part g es n m p q place h k)
