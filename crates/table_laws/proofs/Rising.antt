-- A node's files stand by rising identifier, and at most 4,096 entries stand.
use Rattle.std.proofs.Common.{◌≡◌, ◌≢◌, ◌≤◌, ◌<◌, ℕ, suc, Bool, true, false, ◌==◌, if◌then◌else◌, Option, Some, None, List, [], ◌∷◌, length, refl, sym, subst}
use Rattle.std.proofs.Common.{ap, ◌∙◌, arith}
use Rattle.std.proofs.lemmas.Bool.{cond_both, cond-false}
use Rattle.std.proofs.lemmas.Bool.Decides.{nat_tests}
use Rattle.ring_math.specs.declared.limits.TheConstants.{MOST_ENTRIES}
use Rattle.ring_math.specs.Names.{Id, FileId}
use Rattle.ring_math.specs.Bytewise.{same_bytes, is_before}
use Rattle.ring_math.specs.Files.{Slot, slot_of, with_slot, has_room, buried_at, buried, buried_all}
use Rattle.ring_math.specs.declared.file.Held.{Held}
use Rattle.overlay_rules.specs.declared.entry.Entry.{Entry}
use Rattle.overlay_rules.specs.State.{State, start}
use Rattle.overlay_rules.specs.Outcome.{Outcome, Input}
use Rattle.overlay_rules.specs.Step.{step}
use Rattle.overlay_rules.specs.Record.{Setting, World, IsRecord, world_after}
use Rattle.overlay_rules.proofs.Each.{Each, Each-weaker}
use Rattle.overlay_rules.proofs.Histories.{state_at-each}
use Rattle.step_facts.proofs.Always.{Takes, after_step, always}
use Rattle.table_laws.proofs.Slots.{held, same-is, same-other, same-differs, Each-with_slot}
use Rattle.table_laws.proofs.FileRules.{FileRule, same, accepts, reclaims, puts, buries, step_filed}

-- ---- the order of identifiers

before-trans : (a b c : List ℕ) → is_before a b ≡ true → is_before b c ≡ true → is_before a c ≡ true
before-trans [] (y ∷ ys) (z ∷ zs) e f = refl
before-trans [] (y ∷ ys) [] e f = cc
before-trans [] [] c e f = cc
before-trans (x ∷ xs) [] c e f = cc
before-trans (x ∷ xs) (y ∷ ys) [] e f = cc
before-trans (x ∷ xs) (y ∷ ys) (z ∷ zs) e f = let h = before-trans xs ys zs in grind (arith, nat_tests, h)

before-else : (a b : List ℕ) → is_before a b ≡ false → same_bytes a b ≡ false → is_before b a ≡ true
before-else [] (y ∷ ys) e f = cc
before-else [] [] e f = cc
before-else (x ∷ xs) [] e f = refl
before-else (x ∷ xs) (y ∷ ys) e f = let h = before-else xs ys in grind (arith, nat_tests, h)

before-itself : (a : List ℕ) → is_before a a ≡ false
before-itself [] = refl
before-itself (x ∷ xs) = let h = before-itself xs in grind (arith, nat_tests, h)

pub before-differs : (a b : List ℕ) → is_before a b ≡ true → b ≢ a
before-differs a b e f = let no' : is_before a b ≡ false = subst (λ c. is_before a c ≡ false) (sym f) (before-itself a) in cc

-- ---- rising lists

abbrev pub IsRising : List Held → Type 0
IsRising [] = Unit {0}
IsRising (h ∷ hs) = Each (λ (k : Held). is_before h.file k.file ≡ true) hs × IsRising hs

-- the three ways in which a slot is written
written : (P : List Held → Type 0) (h : Held) (hs : List Held) (f : FileId) (s : Slot) → (h.file ≡ f → P (held f s ∷ hs)) →
    (is_before f h.file ≡ true → P (held f s ∷ (h ∷ hs))) →
    (is_before f h.file ≡ false → h.file ≢ f → P (h ∷ with_slot hs f s)) → P (with_slot (h ∷ hs) f s)
written P h hs f s here before later =
    cond_both (same_bytes h.file f) (held f s ∷ hs) (if is_before f h.file then held f s ∷ (h ∷ hs) else h ∷ with_slot hs f s) P
    (λ e. here (same-is h.file f e))
    (λ e. cond_both (is_before f h.file) (held f s ∷ (h ∷ hs)) (h ∷ with_slot hs f s) P before (λ d. later d (same-differs h.file f e)))

rising_with : (hs : List Held) (f : FileId) (s : Slot) → IsRising hs → IsRising (with_slot hs f s)
rising_with [] f s r = (tt, tt)
rising_with (h ∷ hs) f s r =
    written IsRising h hs f s (λ e. (subst (λ g. Each (λ (k : Held). is_before g k.file ≡ true) hs) e r.0, r.1))
    (λ b. (
      (
        b,
        Each-weaker (λ (k : Held). is_before h.file k.file ≡ true) (λ (k : Held). is_before f k.file ≡ true) hs
            (λ k c. before-trans f h.file k.file b c) r.0,
      ),
      r,
    ))
    (λ d ne. (
      Each-with_slot (λ (k : Held). is_before h.file k.file ≡ true) hs f s (before-else f h.file d (same-other f h.file (λ e. ne (sym e)))) r.0,
      rising_with hs f s r.1,
    ))

-- a file before all has no entry
none_before : (hs : List Held) (f : FileId) → Each (λ (k : Held). is_before f k.file ≡ true) hs → slot_of hs f ≡ None
none_before [] f h = refl
none_before (k ∷ hs) f h = cond-false (same_bytes k.file f) (Some k.slot) (slot_of hs f) (same-other k.file f (before-differs f k.file h.0))
    ∙ none_before hs f h.1

-- ---- how many stand

length_put : (hs : List Held) (f : FileId) (s : Slot) → length (with_slot hs f s) ≤ suc (length hs)
length_put [] f s = omega arith
length_put (h ∷ hs) f s = let rest = length_put hs f s in
    written (λ zs. length zs ≤ suc (suc (length hs))) h hs f s (λ _. omega arith) (λ _. omega arith) (λ _ _. omega arith)

length_written : (hs : List Held) (f : FileId) (s t : Slot) → IsRising hs → slot_of hs f ≡ Some t → length (with_slot hs f s) ≡ length hs
length_written [] f s t r e = cc
length_written (h ∷ hs) f s t r e =
    written (λ zs. length zs ≡ suc (length hs)) h hs f s (λ _. refl)
    (λ b. let none : slot_of (h ∷ hs) f ≡ None = none_before (h ∷ hs) f (
      b,
      Each-weaker (λ (k : Held). is_before h.file k.file ≡ true) (λ (k : Held). is_before f k.file ≡ true) hs
          (λ k c. before-trans f h.file k.file b c) r.0,
    ) in absurd (cc))
    (λ d ne. ap suc (length_written hs f s t r.1 (sym (cond-false (same_bytes h.file f) (Some h.slot) (slot_of hs f) (same-other h.file f ne)) ∙ e)))

pub record Room (hs : List Held) : Type 0 where
  pub rising : IsRising hs
  pub few : length hs ≤ MOST_ENTRIES

room_less : (hs : List Held) → has_room hs ≡ true → length hs < MOST_ENTRIES
room_less hs e = grind (arith, nat_tests)

pub full_length : (hs : List Held) → Room hs → has_room hs ≡ false → length hs ≡ MOST_ENTRIES
full_length hs r e = let le = r.few in let more = not_less hs e in omega arith where
  not_less : (hs : List Held) → has_room hs ≡ false → MOST_ENTRIES ≤ length hs
  not_less hs e = grind (arith, nat_tests)

room_put : (hs : List Held) (f : FileId) (s : Slot) → has_room hs ≡ true → Room hs → Room (with_slot hs f s)
room_put hs f s e r = record { rising = rising_with hs f s r.rising; few = let a = length_put hs f s in let b = room_less hs e in omega arith }

room_written : (hs : List Held) (f : FileId) (s t : Slot) → slot_of hs f ≡ Some t → Room hs → Room (with_slot hs f s)
room_written hs f s t e r = record { rising = rising_with hs f s r.rising; few = let a = length_written hs f s t r.rising e in let b = r.few in omega arith }

room_buried_at : (hs : List Held) (f : FileId) (o : Option Slot) → slot_of hs f ≡ o → Room hs → Room (buried_at hs f o)
room_buried_at hs f None e r = cond_both (has_room hs) (with_slot hs f None) hs Room (λ room. room_put hs f None room r) (λ _. r)
room_buried_at hs f (Some s) e r = room_written hs f None s e r

room_buried_all : (hs : List Held) (tombs : List FileId) → Room hs → Room (buried_all hs tombs)
room_buried_all hs [] r = r
room_buried_all hs (f ∷ fs) r = room_buried_all (buried hs f) fs (room_buried_at hs f (slot_of hs f) refl r)

-- ---- one step, and every legal record

rule_room : (s : State) (i : Input) (o : Outcome) → FileRule s i o → Room s.files → Room o.state.files
rule_room _ _ _ (same s i o d q) r = subst Room (sym d) r
rule_room _ _ _ (accepts s i o from n f copies b rest req here none room d noted' q) r = subst Room (sym d) (room_put s.files f (Some b) room r)
rule_room _ _ _ (reclaims s i o from n f b rest req here at d noted' q) r = subst Room (sym d) (room_written s.files f None (Some b) at r)
rule_room _ _ _ (puts s i o f b c none room d q) r = subst Room (sym d) (room_put s.files f (Some b) room r)
rule_room _ _ _ (buries s o from a manifest tombs d q) r = subst Room (sym d) (room_buried_all s.files tombs r)

pub record RoomHolds (w : World) : Type 0 where
  pub room : (y : Id) → Room (w.states y).files

room_keeps : (g : Setting) (w : World) (e : Entry) (x : Id) (i : Input) → RoomHolds w → Takes g w e x i → RoomHolds (after_step w e x i)
room_keeps g w e x i k t = record {
  room = λ y. state_at-each (λ z (s : State). Room s.files) w.states x (step (w.states x) i).state y
      (rule_room (w.states x) i (step (w.states x) i) (step_filed (w.states x) i).does (k.room x)) (k.room y);
}

start_room : (y : Id) (b : Bool) → Room (start y b).files
start_room y b = record { rising = tt; few = omega arith }

pub room_holds : (g : Setting) (es : List Entry) → IsRecord g es → (i : ℕ) → RoomHolds (world_after g es i)
room_holds g es r i = always g RoomHolds (record { room = λ y. start_room y (y == g.founder) })
    (record { keeps = λ w e x j k t. room_keeps g w e x j k t }) es r i

pub room_kept : (g : Setting) (w : World) (e : Entry) (x : Id) (i : Input) → RoomHolds w → Room (step (w.states x) i).state.files
room_kept g w e x i k = rule_room (w.states x) i (step (w.states x) i) (step_filed (w.states x) i).does (k.room x)
