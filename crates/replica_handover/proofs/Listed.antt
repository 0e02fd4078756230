-- The files of the entries that pass a test, one entry more at a time.
use Rattle.std.proofs.Common.{◌≡◌, ℕ, ◌+◌, ◌<◌, Bool, true, false, List, [], ◌∷◌, ◌++◌, length, get_or, take, map, filter, refl, sym, ◌∙◌, ap}
use Rattle.std.proofs.Common.{append-nil}
use Rattle.std.proofs.lemmas.List.{take_more}
use Rattle.ring_math.specs.declared.file.Held.{Held}

abbrev pub passed : (Held → Bool) → List Held → List (List ℕ)
passed p hs = map (λ h. h.file) (filter p hs)

passed-append : (p : Held → Bool) (xs ys : List Held) → passed p (xs ++ ys) ≡ passed p xs ++ passed p ys
passed-append p [] ys = refl
passed-append p (x ∷ xs) ys = by_test (p x) (λ e. rw (e, passed-append p xs ys) refl) (λ e. rw (e, passed-append p xs ys) refl) where
  by_test : {P : Type 0} (b : Bool) → (b ≡ true → P) → (b ≡ false → P) → P
  by_test true f g = f refl
  by_test false f g = g refl

pub passed-more : (p : Held → Bool) (hs : List Held) (i : ℕ) (h : Held) → i < length hs → h ≡ get_or hs i h → p h ≡ true →
    passed p (take (i + 1) hs) ≡ passed p (take i hs) ++ h.file ∷ []
passed-more p hs i h l e t =
    ap (passed p) (take_more hs i h l) ∙ passed-append p (take i hs) (get_or hs i h ∷ [])
    ∙ ap (λ ys. passed p (take i hs) ++ ys) (ap (λ g. passed p (g ∷ [])) (sym e) ∙ rw t refl)

pub passed-kept : (p : Held → Bool) (hs : List Held) (i : ℕ) (h : Held) → i < length hs → h ≡ get_or hs i h → p h ≡ false →
    passed p (take (i + 1) hs) ≡ passed p (take i hs)
passed-kept p hs i h l e t =
    ap (passed p) (take_more hs i h l) ∙ passed-append p (take i hs) (get_or hs i h ∷ [])
    ∙ ap (λ ys. passed p (take i hs) ++ ys) (ap (λ g. passed p (g ∷ [])) (sym e) ∙ rw t refl) ∙ append-nil (passed p (take i hs))
