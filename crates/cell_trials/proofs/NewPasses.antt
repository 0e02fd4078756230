-- Passes of a new post, of which a cell was given its part: as cells begin to serve.
use Rattle.std.proofs.Common.{◌≡◌, ◌≤◌, ◌<◌, ◌+◌, ℕ, zero, suc, Option, Some, List, [], ◌∷◌, map, length, refl, sym, subst, ap, ◌∙◌, arith}
use Rattle.std.specs.Prelude.{All, Contains}
use Rattle.std.proofs.lemmas.List.{length-map}
use Rattle.std.proofs.lemmas.List.Sums.{sum_by-cons}
use Rattle.overlay_rules.proofs.Each.{Each, Each-all}
use Rattle.node_mailbox.specs.Pass.{PassView, after_split, fresh_pass, split_off}
use Rattle.node_mailbox.specs.Post.{PostView, AreOf, pass_at}
use Rattle.node_mailbox.specs.declared.limits.TheConstants.{ALL_PARTS}
use Rattle.node_cell.specs.declared.carried.Carried.{Carried}
use Rattle.node_cell.specs.Carried.{just_given}
use Rattle.node_cell.specs.Cell.{Cell}
use Rattle.node_cell.specs.Equipped.{IsUnused, parts_at, passes_in}
use Rattle.node_cell.specs.Gathering.{HaveAllParts, PutNoiseAlone}

abbrev pub all_fresh : List (ℕ × ℕ) → List PassView
all_fresh mailboxes = map (λ mailbox. fresh_pass mailbox ALL_PARTS) mailboxes

abbrev HasTwo : PassView → Type 0
HasTwo p = 2 ≤ p.parts

fresh_two : (mailboxes : List (ℕ × ℕ)) → Each HasTwo (all_fresh mailboxes)
fresh_two [] = tt
fresh_two (m ∷ ms) = (omega arith, fresh_two ms)

-- they can be split, and then once more
pub can_split : (mailboxes : List (ℕ × ℕ)) (own : List PassView) → own ≡ all_fresh mailboxes → All (λ (p : PassView). 2 ≤ p.parts) own
can_split mailboxes own is = subst (All HasTwo) (sym is) (Each-all HasTwo (all_fresh mailboxes) (fresh_two mailboxes))

pub can_split_again : (mailboxes : List (ℕ × ℕ)) (start own : List PassView) → start ≡ all_fresh mailboxes → own ≡ map after_split start →
    All (λ (p : PassView). 2 ≤ p.parts) own
can_split_again mailboxes start own fresh left = subst (All HasTwo) (sym (left ∙ ap (map after_split) fresh))
    (Each-all HasTwo (map after_split (all_fresh mailboxes)) (each mailboxes)) where
      each : (ms : List (ℕ × ℕ)) → Each HasTwo (map after_split (all_fresh ms))
      each [] = tt
      each (m ∷ ms) = (omega arith, each ms)

-- what was split off has put and taken nothing
pub split_unused : (own passes : List PassView) → passes ≡ map split_off own → All IsUnused passes
split_unused own passes is = subst (All IsUnused) (sym is) (Each-all IsUnused (map split_off own) (each own)) where
  each : (ps : List PassView) → Each IsUnused (map split_off ps)
  each [] = tt
  each (p ∷ ps) = (record { put = refl; taken = refl }, each ps)

-- ---- where one cell was given its part

two_parts : (mailboxes : List (ℕ × ℕ)) (place : ℕ) → place < length mailboxes →
    (pass_at (map after_split (all_fresh mailboxes)) place).parts + (pass_at (map split_off (all_fresh mailboxes)) place).parts ≡ ALL_PARTS
two_parts [] place lt = absurd (omega arith)
two_parts (m ∷ ms) zero lt = refl
two_parts (m ∷ ms) (suc place) lt = two_parts ms place (omega arith)

-- the post, its passes as they began, what is left of them, and the cell
pub one_has_all : (post : PostView) (mailboxes : List (ℕ × ℕ)) (start own : List PassView) (c : Cell) → AreOf start post → start ≡ all_fresh mailboxes →
    own ≡ map after_split start → c.carried ≡ Some (just_given (map split_off start)) → HaveAllParts post own (c ∷ [])
one_has_all post mailboxes start own c of fresh left given = record {
  parts = λ place lt.
      let own_parts : (pass_at own place).parts ≡ (pass_at (map after_split (all_fresh mailboxes)) place).parts =
      ap (λ (ps : List PassView). (pass_at ps place).parts) (left ∙ ap (map after_split) fresh) in
      let cell_parts : parts_at place c ≡ (pass_at (map split_off (all_fresh mailboxes)) place).parts =
      ap (λ (o : Option Carried). (pass_at (passes_in o) place).parts) given
      ∙ ap (λ (ps : List PassView). (pass_at (map split_off ps) place).parts) fresh in
      let long : length start ≡ length mailboxes = ap (λ (ps : List PassView). length ps) fresh ∙
      length-map mailboxes (λ mailbox. fresh_pass mailbox ALL_PARTS) in
      let count = of.count in
      omega (arith, two_parts mailboxes place (omega arith), sum_by-cons (parts_at place) c []);
}

pub none_put : (mailboxes : List (ℕ × ℕ)) (start own : List PassView) → start ≡ all_fresh mailboxes → own ≡ map after_split start → PutNoiseAlone own
none_put mailboxes start own fresh left = subst PutNoiseAlone (sym (left ∙ ap (map after_split) fresh))
    (record { noise = λ place frame v c spells. nothing mailboxes place frame c }) where
      nothing : (ms : List (ℕ × ℕ)) (place : ℕ) (frame : List ℕ) → Contains (pass_at (map after_split (all_fresh ms)) place).put frame → ⊥
      nothing [] place frame c = omega (arith, c.1)
      nothing (m ∷ ms) zero frame c = omega (arith, c.1)
      nothing (m ∷ ms) (suc place) frame c = nothing ms place frame c

-- a node that is among these has a mailbox of the post
pub has_mailbox : (nodes others : List ℕ) (x : ℕ) (c : Cell) → nodes ≡ others → Contains others x → c.node ≡ x → Contains nodes c.node
has_mailbox nodes others x c are has is = subst (Contains nodes) (sym is) (subst (λ (xs : List ℕ). Contains xs x) (sym are) has)
