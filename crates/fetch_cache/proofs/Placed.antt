-- The place of a node's point: what is remembered there, and what a change there makes of all points.
use Rattle.std.proofs.Common.{◌≡◌, ℕ, zero, suc, Option, Some, None, MatchOption, List, [], ◌∷◌}
use Rattle.std.proofs.Common.{get_or, set, refl, ap, ◌∙◌, arith, eq-eqb}
use Rattle.std.proofs.lemmas.Bool.{ne_eqb}
use Rattle.std.specs.Map.{lookup}
use Rattle.ring_math.specs.Names.{Id, FileId, Content}
use Rattle.fetch_cache.specs.Points.{Point, same_file, remembered, changed_at, asked, IsPlace, IsNowhere}

behind : (x : Id) (p : Point) (points : List Point) (i : ℕ) → IsPlace x (p ∷ points) (suc i) → IsPlace x points i
behind x p points i h = record {
  within = let inside = h.within in omega arith;
  there = λ d. h.there d;
  first = λ k d lt. h.first (suc k) d (omega arith);
}

pub remembered_there : (x : Id) (f : FileId) (points : List Point) (i : ℕ) (d : Point) → IsPlace x points i →
    remembered x f points ≡ lookup (same_file f) (get_or points i d).pairs
remembered_there x f [] i d h = let inside = h.within in absurd (omega arith)
remembered_there x f (p ∷ points) zero d h = rw (eq-eqb p.node x (h.there d)) refl
remembered_there x f (p ∷ points) (suc i) d h =
    rw (ne_eqb p.node x (h.first 0 d (omega arith))) (remembered_there x f points i d (behind x p points i h))

pub changed_there : (x : Id) (change : Point → Point) (points : List Point) (i : ℕ) (d : Point) → IsPlace x points i →
    set points i (change (get_or points i d)) ≡ changed_at x change points
changed_there x change [] i d h = let inside = h.within in absurd (omega arith)
changed_there x change (p ∷ points) zero d h = rw (eq-eqb p.node x (h.there d)) refl
changed_there x change (p ∷ points) (suc i) d h =
    rw (ne_eqb p.node x (h.first 0 d (omega arith))) (ap (λ (ps : List Point). p ∷ ps) (changed_there x change points i d (behind x p points i h)))

none_behind : (x : Id) (p : Point) (points : List Point) → IsNowhere x (p ∷ points) → IsNowhere x points
none_behind x p points h = record { none = λ k d lt. h.none (suc k) d (omega arith) }

pub remembered_nowhere : (x : Id) (f : FileId) (points : List Point) → IsNowhere x points → remembered x f points ≡ None
remembered_nowhere x f [] h = refl
remembered_nowhere x f (p ∷ points) h =
    rw (ne_eqb p.node x (h.none 0 p (omega arith))) (remembered_nowhere x f points (none_behind x p points h))

pub changed_nowhere : (x : Id) (change : Point → Point) (points : List Point) → IsNowhere x points → changed_at x change points ≡ points
changed_nowhere x change [] h = refl
changed_nowhere x change (p ∷ points) h =
    rw (ne_eqb p.node x (h.none 0 p (omega arith))) (ap (λ (ps : List Point). p ∷ ps) (changed_nowhere x change points (none_behind x p points h)))

-- ---- what a call on the point at a place makes of all points

-- the point that was there, at its place again
set_there : {A : Type 0} (xs : List A) (i : ℕ) (d : A) → set xs i (get_or xs i d) ≡ xs
set_there [] i d = refl
set_there (x ∷ xs) zero d = refl
set_there (x ∷ xs) (suc i) d = ap (λ ys. x ∷ ys) (set_there xs i d)

pub changed_at_place : (x : Id) (change : Point → Point) (points : List Point) (i : ℕ) (d next : Point) → IsPlace x points i →
    next ≡ change (get_or points i d) → set points i next ≡ changed_at x change points
changed_at_place x change points i d next place is = ap (set points i) is ∙ changed_there x change points i d place

pub asked_at_place : (x : Id) (file : FileId) (points : List Point) (i : ℕ) (d next : Point) (found : Option Content) → IsPlace x points i →
    MatchOption found (next ≡ get_or points i d) (λ bytes. next ≡ asked file (get_or points i d)) →
    MatchOption found (set points i next ≡ points) (λ bytes. set points i next ≡ changed_at x (asked file) points)
asked_at_place x file points i d next None place h = ap (set points i) h ∙ set_there points i d
asked_at_place x file points i d next (Some bytes) place h = changed_at_place x (asked file) points i d next place h
