-- The part that is kept: how it stands for a plain part, and what the definitions make of its place and of what it has seen.
use Rattle.std.proofs.Common.{◌≡◌, ◌<◌, ◌+◌, ℕ, List, [], ◌∷◌, ◌++◌, length, map, take, get_or, append_assoc, refl, sym, ap, subst, ◌∙◌}
use Rattle.std.proofs.lemmas.List.{map_push, take_more}
use Rattle.ring_math.specs.Names.{Id, Number}
use Rattle.scribe_core.specs.declared.message.GroupMessage.{GroupMessage}
use Rattle.scribe_core.specs.declared.message.GroupSent.{GroupSent}
use Rattle.scribe_core.specs.Parts.{Addressed, GroupName, Part, to, to_each}
use Rattle.scribe_core.specs.Record.{sent_from}
use Rattle.group_play.specs.declared.part.Part.{Part as KeptPart}
use Rattle.group_play.specs.Shown.{HasSeen, Stands, part_of}

-- it stands for what it is with the numbers that it has seen
pub stands_by : (a : KeptPart) (seen : List Number) (p : Part) → HasSeen a.seen seen → part_of a seen ≡ p → Stands a p
stands_by a seen p h e = subst (Stands a) e (record { seen = h; is = refl })

-- ---- casts

to_each-append : (xs ys : List Id) (m : GroupMessage) → to_each (xs ++ ys) m ≡ to_each xs m ++ to_each ys m
to_each-append [] ys m = refl
to_each-append (x ∷ xs) ys m = ap (λ (rest : List Addressed). to x m ∷ rest) (to_each-append xs ys m)

-- a child more was sent it
pub cast_next : (x : Id) (name : GroupName) (m : GroupMessage) (before : List GroupSent) (children : List Id) (i : ℕ) (y : Id) →
    i < length children → y ≡ get_or children i y →
    (before ++ map (sent_from x name) (to_each (take i children) m)) ++ sent_from x name (to y m) ∷ []
    ≡ before ++ map (sent_from x name) (to_each (take (i + 1) children) m)
cast_next x name m before children i y l is =
    append_assoc before (map f (to_each (take i children) m)) (f (to y m) ∷ [])
    ∙ ap (λ ms. before ++ ms) (sym (map_push f (to_each (take i children) m) (to y m)) ∙ ap (map f) (sym (to_each-append (take i children) (y ∷ []) m))
    ∙ ap (λ ys. map f (to_each ys m)) (sym (take_more children i y l ∙ ap (λ z. take i children ++ z ∷ []) (sym is)))) where
      f : Addressed → GroupSent
      f = sent_from x name
