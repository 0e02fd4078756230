-- How the texts of arrows and rows stand behind one another.
use Rattle.std.proofs.Common.{◌≡◌, ℕ, List, [], ◌∷◌, ◌++◌, sym, ap, ◌∙◌, append_assoc}
use Rattle.std.specs.Prelude.{Result, Ok, Err, OnOk}
use Rattle.std.specs.List.{flat_map}
use Rattle.std.proofs.lemmas.Grind.{flat_map-append}
use Rattle.std.proofs.lemmas.List.{append-nil}
use Rattle.svg_text.specs.Picture.{Picture, text_of, each_of}
use Rattle.svg_text.proofs.Pieces.{each-append}

-- a list of one
pub one_drawn : {A X E : Type 0} (draw : A → Picture) (r : Result X E) (old new : List ℕ) (xs : List A) (x : A) → x ∷ [] ≡ xs →
    OnOk r (new ≡ old ++ text_of (draw x)) → OnOk r (new ≡ old ++ text_of (each_of draw xs))
one_drawn draw (Ok u) old new xs x is one =
    one ∙ ap (λ t. old ++ t) (sym (append-nil (text_of (draw x)))) ∙ ap (λ ys. old ++ text_of (each_of draw ys)) is
one_drawn draw (Err e) old new xs x is one = tt

-- those so far, and more
pub more_drawn : {A : Type 0} (draw : A → Picture) (old before after : List ℕ) (xs ys all : List A) → before ≡ old ++ text_of (each_of draw xs) →
    after ≡ before ++ text_of (each_of draw ys) → all ≡ xs ++ ys → after ≡ old ++ text_of (each_of draw all)
more_drawn draw old before after xs ys all first then is =
    then ∙ ap (λ t. t ++ text_of (each_of draw ys)) first ∙ append_assoc old (text_of (each_of draw xs)) (text_of (each_of draw ys)) ∙
    ap (λ t. old ++ t) (sym (each-append draw xs ys)) ∙ ap (λ zs. old ++ text_of (each_of draw zs)) (sym is)

-- and one more
pub next_drawn : {A : Type 0} (draw : A → Picture) (old before after : List ℕ) (xs : List A) (x : A) (all : List A) →
    before ≡ old ++ text_of (each_of draw xs) → after ≡ before ++ text_of (draw x) → all ≡ xs ++ x ∷ [] → after ≡ old ++ text_of (each_of draw all)
next_drawn draw old before after xs x all first then is =
    more_drawn draw old before after xs (x ∷ []) all first (then ∙ ap (λ t. before ++ t) (sym (append-nil (text_of (draw x))))) is

-- what is made of one number more
pub made-next : {A : Type 0} (f : ℕ → List A) (ks all : List ℕ) (k : ℕ) → all ≡ ks ++ k ∷ [] → flat_map f all ≡ flat_map f ks ++ f k
made-next f ks all k is =
    ap (flat_map f) is ∙ flat_map-append f ks (k ∷ []) ∙ ap (λ ys. flat_map f ks ++ ys) (append-nil (f k))

pub both_drawn : {A X E : Type 0} (draw : A → Picture) (r : Result X E) (old middle new : List ℕ) (xs ys : List A) →
    middle ≡ old ++ text_of (each_of draw xs) → OnOk r (new ≡ middle ++ text_of (each_of draw ys)) →
    OnOk r (new ≡ old ++ text_of (each_of draw (xs ++ ys)))
both_drawn draw (Ok u) old middle new xs ys first last =
    last ∙ ap (λ t. t ++ text_of (each_of draw ys)) first ∙ append_assoc old (text_of (each_of draw xs)) (text_of (each_of draw ys)) ∙
    ap (λ t. old ++ t) (sym (each-append draw xs ys))
both_drawn draw (Err e) old middle new xs ys first last = tt

-- two pieces, the last of which may be refused
pub two_written : {X E : Type 0} (r : Result X E) (old middle new first second all : List ℕ) → middle ≡ old ++ first → first ++ second ≡ all →
    OnOk r (new ≡ middle ++ second) → OnOk r (new ≡ old ++ all)
two_written (Ok x) old middle new first second all one is two =
    two ∙ ap (λ t. t ++ second) one ∙ append_assoc old first second ∙ ap (λ t. old ++ t) is
two_written (Err e) old middle new first second all one is two = tt

-- a group that ends
pub group_written : {X E : Type 0} (r : Result X E) (old one two new head inner end : List ℕ) → one ≡ old ++ head → two ≡ one ++ inner →
    OnOk r (new ≡ two ++ end) → OnOk r (new ≡ old ++ (head ++ (inner ++ end)))
group_written r old one two new head inner end a b c =
    two_written r old two new (head ++ inner) end (head ++ (inner ++ end)) (b ∙ ap (λ t. t ++ inner) a ∙ append_assoc old head inner)
    (append_assoc head inner end) c
