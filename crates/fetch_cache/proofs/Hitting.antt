-- The bytes that commands hit, by one list of hits after another, and the lines of commands one by one.
use Rattle.std.proofs.Common.{◌≡◌, ℕ, suc, ◌+◌, ◌<◌, ◌==◌, Bool, true, false, if◌then◌else◌, Option, Some, None, List, [], ◌∷◌, ◌++◌, length, get_or, take}
use Rattle.std.proofs.Common.{drop, map}
use Rattle.std.proofs.Common.{refl, sym, ◌∙◌, ap, arith}
use Rattle.std.specs.Borrow.{Bor}
use Rattle.std.specs.Option.{option_or, option_copied}
use Rattle.std.proofs.lemmas.List.{at_drop_more}
use Rattle.ring_math.specs.Names.{Content}
use Rattle.wire_msg.specs.declared.reply.Answer.{Answer}
use Rattle.scenario_reader.specs.declared.node.NodeLine.{NodeLine}
use Rattle.overlay_rules.proofs.Prefixes.{take-next}
use Rattle.fetch_cache.specs.declared.hit.Hit.{Hit}
use Rattle.fetch_cache.specs.Text.{hit_of, point_line, point_lines}

or_if : (b : Bool) (a : Content) (x y : Option Content) → (if b then Some a else option_or x y) ≡ option_or (if b then Some a else x) y
or_if true a x y = refl
or_if false a x y = refl

pub option_or_assoc : {A : Type 0} (a b c : Option A) → option_or (option_or a b) c ≡ option_or a (option_or b c)
option_or_assoc None b c = refl
option_or_assoc (Some x) b c = refl

-- the first of two lists of hits that has the command
hit_of-append : (n : ℕ) (xs ys : List Hit) → hit_of n (xs ++ ys) ≡ option_or (hit_of n xs) (hit_of n ys)
hit_of-append n [] ys = refl
hit_of-append n (hit ∷ xs) ys =
    ap (λ (o : Option Content). if hit.number == n then Some hit.bytes else o) (hit_of-append n xs ys) ∙
    or_if (hit.number == n) hit.bytes (hit_of n xs) (hit_of n ys)

-- one hit more
pub hit_of-more : (n : ℕ) (hits : List Hit) (i : ℕ) (last : Hit) → i < length hits → last ≡ get_or hits i last →
    hit_of n (take (i + 1) hits) ≡ option_or (hit_of n (take i hits)) (hit_of n (last ∷ []))
hit_of-more n hits i last within is =
    ap (hit_of n) (take-next hits i last within is) ∙ hit_of-append n (take i hits) (last ∷ [])

-- the line of the next command
pub point_lines-next : (nodes : List NodeLine) (hits : List Hit) (slots : List (Option (Bor Answer))) (i : ℕ) (slot : Option (Bor Answer))
    (hit : Option Content) →
    i < length slots → slot ≡ get_or slots i slot → hit ≡ hit_of (i + 1) hits →
    point_lines nodes hits (i + 1) (map option_copied (drop i slots)) ≡
    point_line nodes (i + 1) hit (option_copied slot) ++ point_lines nodes hits (i + 1 + 1) (map option_copied (drop (i + 1) slots))
point_lines-next nodes hits slots i slot hit within is known =
    let next : suc (i + 1) ≡ i + 1 + 1 = omega arith in
    at_drop_more (λ xs. point_lines nodes hits (i + 1) (map option_copied xs)) slots i slot within ∙
    ap (λ (x : Option (Bor Answer)). point_line nodes (i + 1) (hit_of (i + 1) hits) (option_copied x) ++ point_lines nodes hits (suc (i + 1))
    (map option_copied (drop (i + 1) slots))) (sym is) ∙
    ap (λ m. point_line nodes (i + 1) (hit_of (i + 1) hits) (option_copied slot) ++ point_lines nodes hits m (map option_copied (drop (i + 1) slots))) next ∙
    ap (λ (o : Option Content). point_line nodes (i + 1) o (option_copied slot) ++ point_lines nodes hits (i + 1 + 1)
    (map option_copied (drop (i + 1) slots))) (sym known)
