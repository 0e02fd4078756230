-- The row of an acknowledgement, by the insert that it is for.
use Rattle.std.proofs.Common.{◌≡◌, ◌<◌, ℕ, Bool, true, false, ◌&&◌, not, ◌==◌, Option, Some, List, [], ◌∷◌, length, filter, position, get_or, slice_get, refl}
use Rattle.std.proofs.Common.{sym, ap, ◌∙◌, arith}
use Rattle.std.proofs.lemmas.List.Quantifiers.{position-Some}
use Rattle.std.proofs.lemmas.Option.{slice_get-get_or}
use Rattle.std.proofs.lemmas.Bool.Decides.{Decides-eqb}
use Rattle.overlay_rules.specs.declared.request.Pending.{Pending}
use Rattle.overlay_rules.specs.State.{State}
use Rattle.overlay_rules.specs.Outcome.{nothing}
use Rattle.overlay_rules.specs.Replicas.{awaits, ack_at, ack_of, ack_taken, on_replica_ack}
use Rattle.past_core.specs.Waits.{heard_in, heard_at}
use Rattle.past_core.specs.Acks.{stored_at}

both : (a b : Bool) → a && b ≡ true → (a ≡ true) × (b ≡ true)
both true b e = (refl, e)
both false b e = cc

-- what is known of the insert at the place that an acknowledgement is for
pub record IsAt (ps : List Pending) (from origin number : ℕ) (file : List ℕ) (place : ℕ) (p : Pending) : Type 0 where
  pub found : position (awaits from origin number file) ps ≡ Some place
  pub read : slice_get ps place ≡ Some p
  pub of_origin : p.origin ≡ origin
  pub of_number : p.number ≡ number

pub is_at : (ps : List Pending) (from origin number : ℕ) (file : List ℕ) (place : ℕ) (p : Pending) → Some place ≡ position (awaits from origin number file) ps →
    p ≡ get_or ps place p → IsAt ps from origin number file place p
is_at ps from origin number file place p e r =
    let q = position-Some (awaits from origin number file) ps place p (sym e) in
    let passes : awaits from origin number file p ≡ true = ap (λ (x : Pending). awaits from origin number file x) r ∙ q.1 in
    let ask = both _ _ (both _ _ passes).0 in
    record {
      found = sym e;
      read = slice_get-get_or ps place p q.0 ∙ ap (λ (x : Pending). Some x) (sym r);
      of_origin = (Decides-eqb p.origin origin).0 ask.0;
      of_number = (Decides-eqb p.number number).0 ask.1;
    }

-- the row, at that place
taken : (s : State) (from origin number : ℕ) (file : List ℕ) (place : ℕ) (p : Pending) → IsAt s.pending from origin number file place p →
    on_replica_ack s from origin number file ≡ ack_taken s place p (filter (λ y. not (y == from)) p.awaited)
taken s from origin number file place p at =
    ap (ack_at s from) at.found ∙ ap (ack_of s from place) at.read

last : (s : State) (place : ℕ) (p : Pending) → ack_taken s place p [] ≡ stored_at s p.origin p.number place (Some p)
last s place p = refl

pub ack-last : (s : State) (from origin number : ℕ) (file : List ℕ) (place : ℕ) (p : Pending) → IsAt s.pending from origin number file place p →
    filter (λ y. not (y == from)) p.awaited ≡ [] → on_replica_ack s from origin number file ≡ stored_at s origin number place (slice_get s.pending place)
ack-last s from origin number file place p at none =
    taken s from origin number file place p at
    ∙ ap (ack_taken s place p) none
    ∙ ap (λ (o : ℕ). stored_at s o p.number place (Some p)) at.of_origin
    ∙ ap (λ (n : ℕ). stored_at s origin n place (Some p)) at.of_number
    ∙ ap (stored_at s origin number place) (sym at.read)

some-left : (s : State) (place : ℕ) (p : Pending) (awaited : List ℕ) → (awaited ≡ [] → ⊥) →
    ack_taken s place p awaited ≡ nothing (record s { pending = heard_in s.pending place awaited (Some p) })
some-left s place p [] some = absurd (some refl)
some-left s place p (y ∷ ys) some = refl

pub ack-heard : (s : State) (from origin number : ℕ) (file : List ℕ) (place : ℕ) (p : Pending) (awaited : List ℕ) →
    IsAt s.pending from origin number file place p →
    awaited ≡ filter (λ y. not (y == from)) p.awaited → (awaited ≡ [] → ⊥) →
    on_replica_ack s from origin number file ≡ nothing (record s { pending = heard_at s.pending place awaited })
ack-heard s from origin number file place p awaited at is some =
    taken s from origin number file place p at
    ∙ ap (ack_taken s place p) (sym is)
    ∙ some-left s place p awaited some
    ∙ ap (λ (o : Option Pending). nothing (record s { pending = heard_in s.pending place awaited o })) (sym at.read)

pub none-long : (xs : List ℕ) → length xs ≡ 0 → xs ≡ []
none-long [] e = refl
none-long (x ∷ xs) e = absurd (omega arith)

pub none-short : (xs : List ℕ) → 0 < length xs → xs ≡ [] → ⊥
none-short [] l e = omega arith
none-short (x ∷ xs) l e = cc
