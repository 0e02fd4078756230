-- A split of many passes, from the first to the last, and that it can be joined back.
use Rattle.std.proofs.Common.{◌≡◌, ◌<◌, ◌≤◌, ◌+◌, ◌-◌, ℕ, zero, suc, List, [], ◌∷◌, ◌++◌, length, map, set, get_or, sym, refl, ap, ap₂, ◌∙◌, subst, arith}
use Rattle.std.specs.Prelude.{All}
use Rattle.std.proofs.lemmas.List.{append-nil, get_or-map, length-map}
use Rattle.std.proofs.lemmas.List.Elements.{All-head, All-tail}
use Rattle.node_mailbox.specs.Pass.{PassView, pass_view, fresh_pass, after_join, after_split, split_off}
use Rattle.node_mailbox.specs.Post.{PostView, AreOf, AreOfFirst, pass_at, after_joins}
use Rattle.node_mailbox.proofs.Joins.{joins-nil}

-- the first n gave a part away
abbrev pub split_first : ℕ → List PassView → List PassView
split_first zero passes = passes
split_first (suc n) [] = []
split_first (suc n) (p ∷ ps) = after_split p ∷ split_first n ps

-- what the first n gave away
abbrev pub given_first : ℕ → List PassView → List PassView
given_first zero passes = []
given_first (suc n) [] = []
given_first (suc n) (p ∷ ps) = split_off p ∷ given_first n ps

abbrev pub HasTwo : PassView → Type 0
HasTwo p = 2 ≤ p.parts

-- those from n on are as they were
at-split_first : (n : ℕ) (passes : List PassView) → pass_at (split_first n passes) n ≡ pass_at passes n
at-split_first zero passes = refl
at-split_first (suc n) [] = refl
at-split_first (suc n) (p ∷ ps) = at-split_first n ps

split_first-more : (n : ℕ) (passes : List PassView) → n < length passes
    → set (split_first n passes) n (after_split (pass_at (split_first n passes) n)) ≡ split_first (suc n) passes
split_first-more n [] lt = absurd (omega arith)
split_first-more zero (p ∷ ps) lt = refl
split_first-more (suc n) (p ∷ ps) lt = ap (λ rest. after_split p ∷ rest) (split_first-more n ps (omega arith))

given_first-more : (n : ℕ) (passes : List PassView) → n < length passes → given_first n passes ++ split_off (pass_at passes n) ∷ [] ≡ given_first (suc n) passes
given_first-more n [] lt = absurd (omega arith)
given_first-more zero (p ∷ ps) lt = refl
given_first-more (suc n) (p ∷ ps) lt = ap (λ rest. split_off p ∷ rest) (given_first-more n ps (omega arith))

split_first-all : (passes : List PassView) → split_first (length passes) passes ≡ map after_split passes
split_first-all [] = refl
split_first-all (p ∷ ps) = ap (λ rest. after_split p ∷ rest) (split_first-all ps)

given_first-all : (passes : List PassView) → given_first (length passes) passes ≡ map split_off passes
given_first-all [] = refl
given_first-all (p ∷ ps) = ap (λ rest. split_off p ∷ rest) (given_first-all ps)

-- what was given away is of the same mailboxes
length-given_first : (n : ℕ) (passes : List PassView) → n ≤ length passes → length (given_first n passes) ≡ n
length-given_first zero passes le = refl
length-given_first (suc n) [] le = absurd (omega arith)
length-given_first (suc n) (p ∷ ps) le = let rest = length-given_first n ps (omega arith) in omega arith

mailbox-given_first : (n : ℕ) (passes : List PassView) (place : ℕ) → place < n → (pass_at (given_first n passes) place).mailbox ≡ (pass_at passes place).mailbox
mailbox-given_first zero passes place lt = absurd (omega arith)
mailbox-given_first (suc n) [] place lt = refl
mailbox-given_first (suc n) (p ∷ ps) zero lt = refl
mailbox-given_first (suc n) (p ∷ ps) (suc place) lt = mailbox-given_first n ps place (omega arith)

-- a pass that gave a part away and took it back
given_back : (p : PassView) → HasTwo p → after_join (after_split p) (split_off p) ≡ p
given_back p two =
    let parts : p.parts - 1 + 1 ≡ p.parts = omega arith in
    ap (λ n. pass_view p.mailbox n (p.put ++ []) (p.taken ++ [])) parts
    ∙ ap₂ (λ put taken. pass_view p.mailbox p.parts put taken) (append-nil p.put) (append-nil p.taken)

-- joined back, all are as before
joined_back : (n : ℕ) (passes : List PassView) → All HasTwo passes → after_joins (split_first n passes) (given_first n passes) ≡ passes
joined_back zero passes two = joins-nil passes
joined_back (suc n) [] two = refl
joined_back (suc n) (p ∷ ps) two = ap₂ (λ first rest. first ∷ rest) (given_back p (All-head HasTwo p ps two)) (joined_back n ps (All-tail HasTwo p ps two))

-- the first n of those at the start gave a part away, and this is what they gave
pub record Splitting (n : ℕ) (start now given : List PassView) : Type 0 where
  pub rest : now ≡ split_first n start
  pub parts : given ≡ given_first n start

pub splitting-two : (n : ℕ) (start now given : List PassView) → Splitting n start now given → n < length start → All HasTwo start
    → HasTwo (pass_at now n)
splitting-two n start now given s lt two =
    subst HasTwo (sym (ap (λ l. pass_at l n) s.rest ∙ at-split_first n start)) (two n (fresh_pass (0, 0) 0) lt)

pub splitting-more : (n : ℕ) (start now given next : List PassView) (new : PassView) → Splitting n start now given → n < length start
    → next ≡ set now n (after_split (pass_at now n)) → new ≡ split_off (pass_at now n) → Splitting (n + 1) start next (given ++ new ∷ [])
splitting-more n start now given next new s lt made is =
    let at : pass_at now n ≡ pass_at start n = ap (λ l. pass_at l n) s.rest ∙ at-split_first n start in
    let more : suc n ≡ n + 1 = omega arith in
    record {
      rest = made ∙ ap (λ l. set l n (after_split (pass_at l n))) s.rest ∙ split_first-more n start lt ∙ ap (λ k. split_first k start) more;
      parts =
          ap₂ (λ l p. l ++ p ∷ []) s.parts (is ∙ ap split_off at) ∙ given_first-more n start lt ∙ ap (λ k. given_first k start) more;
    }

-- what was given is of the first mailboxes
pub splitting-of : (n : ℕ) (start now given : List PassView) (post : PostView) → Splitting n start now given → n ≤ length start
    → AreOf start post → AreOfFirst given post
splitting-of n start now given post s le of =
    let long : length given ≡ n = ap length s.parts ∙ length-given_first n start le in
    record {
      few = omega (arith, of.count);
      each = λ place lt.
          ap (λ l. (pass_at l place).mailbox) s.parts ∙ mailbox-given_first n start place (omega arith)
          ∙ sym (get_or-map (λ (p : PassView). p.mailbox) start place (fresh_pass (0, 0) 0) (0, 0) (omega arith))
          ∙ ap (λ l. get_or l place (0, 0)) of.mailboxes;
    }

pub splitting-back : (n : ℕ) (start now given : List PassView) → Splitting n start now given → All HasTwo start → after_joins now given ≡ start
splitting-back n start now given s two = ap₂ after_joins s.rest s.parts ∙ joined_back n start two

-- at the end all gave a part away
pub splitting-all : (n : ℕ) (start now given : List PassView) → Splitting n start now given → n ≡ length start → now ≡ map after_split start
splitting-all n start now given s all = s.rest ∙ ap (λ k. split_first k start) all ∙ split_first-all start

pub splitting-given : (n : ℕ) (start now given : List PassView) → Splitting n start now given → n ≡ length start → given ≡ map split_off start
splitting-given n start now given s all = s.parts ∙ ap (λ k. given_first k start) all ∙ given_first-all start

-- what all gave away is of the same post
mailboxes-given : (passes : List PassView) → map (λ (p : PassView). p.mailbox) (map split_off passes)
    ≡ map (λ (p : PassView). p.mailbox) passes
mailboxes-given [] = refl
mailboxes-given (p ∷ ps) = ap (λ rest. p.mailbox ∷ rest) (mailboxes-given ps)

pub are_of-given : (start given : List PassView) (post : PostView) → given ≡ map split_off start → AreOf start post → AreOf given post
are_of-given start given post is of = record {
  mailboxes = ap (map (λ (p : PassView). p.mailbox)) is ∙ mailboxes-given start ∙ of.mailboxes;
  count = ap length is ∙ length-map start split_off ∙ of.count;
}
