-- A store that is full and has no entry for a file stays so: what is put needs room, and what is written over was there.
use Rattle.std.proofs.Common.{◌≡◌, ◌≤◌, suc, false, Option, Some, None, List, [], ◌∷◌, length, refl, sym, subst, ◌∙◌, arith}
use Rattle.std.proofs.lemmas.Bool.{cond_both}
use Rattle.std.proofs.lemmas.Bool.Decides.{nat_tests}
use Rattle.ring_math.specs.Names.{FileId}
use Rattle.ring_math.specs.Bytewise.{same_bytes, is_before}
use Rattle.ring_math.specs.Files.{Slot, slot_of, with_slot, has_room, buried_at, buried, buried_all}
use Rattle.ring_math.specs.declared.file.Held.{Held}
use Rattle.overlay_rules.specs.State.{State}
use Rattle.overlay_rules.specs.Outcome.{Outcome, Input}
use Rattle.table_laws.proofs.Slots.{slot-other}
use Rattle.table_laws.proofs.FileRules.{FileRule, same, accepts, reclaims, puts, buries}

pub record IsFull (files : List Held) (f : FileId) : Type 0 where
  pub full : has_room files ≡ false
  pub none : slot_of files f ≡ None

pub longer : (hs : List Held) (f : FileId) (s : Slot) → length hs ≤ length (with_slot hs f s)
longer [] f s = omega arith
longer (h ∷ hs) f s =
    cond_both (same_bytes h.file f) _ _ (λ (zs : List Held). suc (length hs) ≤ length zs) (λ _. omega arith)
    (λ _. cond_both (is_before f h.file) _ _ (λ (zs : List Held). suc (length hs) ≤ length zs) (λ _. omega arith)
    (λ _. let rest = longer hs f s in omega arith))

pub no_room : (xs ys : List Held) → length xs ≤ length ys → has_room xs ≡ false → has_room ys ≡ false
no_room xs ys le e = grind (arith, nat_tests)

written_full : (hs : List Held) (f g : FileId) (s t : Slot) → slot_of hs g ≡ Some t → IsFull hs f → IsFull (with_slot hs g s) f
written_full hs f g s t at k = record {
  full = no_room hs (with_slot hs g s) (longer hs g s) k.full;
  none = slot-other hs g f s (λ same. let there : slot_of hs f ≡ Some t = subst (λ z. slot_of hs z ≡ Some t) same at in let none = k.none in cc) ∙ k.none;
}

buried_full : (hs : List Held) (f g : FileId) (o : Option Slot) → slot_of hs g ≡ o → IsFull hs f → IsFull (buried_at hs g o) f
buried_full hs f g None e k = cond_both (has_room hs) (with_slot hs g None) hs (λ zs. IsFull zs f) (λ room. let full = k.full in cc) (λ _. k)
buried_full hs f g (Some s) e k = written_full hs f g None s e k

buried_all_full : (hs : List Held) (f : FileId) (tombs : List FileId) → IsFull hs f → IsFull (buried_all hs tombs) f
buried_all_full hs f [] k = k
buried_all_full hs f (g ∷ gs) k = buried_all_full (buried hs g) f gs (buried_full hs f g (slot_of hs g) refl k)

-- one step keeps it
pub rule_full : (s : State) (i : Input) (o : Outcome) (f : FileId) → FileRule s i o → IsFull s.files f → IsFull o.state.files f
rule_full _ _ _ f (same s i o d q) k = subst (λ hs. IsFull hs f) (sym d) k
rule_full _ _ _ f (accepts s i o from n g copies b rest req here none room d noted q) k = let full = k.full in cc
rule_full _ _ _ f (reclaims s i o from n g b rest req here at d noted q) k = subst (λ hs. IsFull hs f) (sym d) (written_full s.files f g None (Some b) at k)
rule_full _ _ _ f (puts s i o g b c none room d q) k = let full = k.full in cc
rule_full _ _ _ f (buries s o from a manifest tombs d q) k = subst (λ hs. IsFull hs f) (sym d) (buried_all_full s.files f tombs k)
