-- A joiner does not stop where it could go on: who probes has a leaf that has not answered, and who has both leases lacks something of their lists.
-- After each answer and each file the test is made, and nothing else gives a file to a node that is not ready.
use Rattle.std.proofs.Common.{◌≡◌, inl, inr, Bool, true, false, not, ◌&&◌, ◌||◌, ◌==◌, nat_lt, Option, Some, None, is_none, List, ◌++◌, map}
use Rattle.std.proofs.Common.{filter, refl, sym, subst}
use Rattle.std.specs.List.{list_all, list_any}
use Rattle.std.proofs.lemmas.Bool.{cases_Bool, cond_both}
use Rattle.ring_math.specs.Names.{Id, Key, FileId, Content, Attempt, Number}
use Rattle.ring_math.specs.Keys.{key_of}
use Rattle.ring_math.specs.Sides.{leaves, learn_all}
use Rattle.ring_math.specs.Files.{Slot, slot_of, has_room, has_lists}
use Rattle.ring_math.specs.declared.file.Held.{Held}
use Rattle.coverage.specs.GapFiles.{Lists}
use Rattle.wire_msg.specs.Words.{Grant, Handover, Replicate}
use Rattle.overlay_rules.specs.declared.entry.Entry.{Entry}
use Rattle.overlay_rules.specs.declared.request.Way.TheVariants as way
use Rattle.overlay_rules.specs.State.{State, Phase, Waiting, Asking, Probing, Leasing, Ready, is_ready, start}
use Rattle.overlay_rules.specs.Outcome.{Outcome, Input, Command, Comes, Noise}
use Rattle.overlay_rules.specs.Routed.{way_in}
use Rattle.overlay_rules.specs.Replicas.{holding, handover_at}
use Rattle.overlay_rules.specs.Joining.{unanswered, answered_by, is_unanswered, was_probed, kept_first, with_grant, probe_reply_in}
use Rattle.overlay_rules.specs.Joining.{older_grant, grant_in}
use Rattle.overlay_rules.specs.ReadyTest.{ready_test_in, has_all}
use Rattle.overlay_rules.specs.Step.{step}
use Rattle.overlay_rules.specs.Record.{Setting, World, world_at_start}
use Rattle.overlay_rules.proofs.Histories.{state_at-each}
use Rattle.overlay_rules.proofs.Seat.{Seat}
use Rattle.overlay_rules.proofs.Seat as rule
use Rattle.overlay_rules.proofs.SeatStep.{step_seat}
use Rattle.step_facts.proofs.Always.{Takes, after_step}
use Rattle.step_facts.proofs.Phases.{seat_moves, Moves-ready}
use Rattle.table_laws.proofs.FileRules.{FileRule, same, accepts, reclaims, puts, buries, Carries, handed, copied, step_filed}
use Rattle.quiet_laws.proofs.ToReady.{CopiesGo, input_goes}

abbrev pub Undone : Phase → List Held → Type 0
Undone (Probing a n probed) files = list_all (λ p. p.1) probed ≡ false
Undone (Leasing a n l r (Some gl) (Some gr)) files = has_lists files gl.manifest gl.tombs && has_lists files gr.manifest gr.tombs ≡ false
Undone (Leasing a n l r (Some gl) None) files = Unit {0}
Undone (Leasing a n l r None gr) files = Unit {0}
Undone (Waiting a) files = Unit {0}
Undone (Asking a n) files = Unit {0}
Undone (Ready a l r) files = Unit {0}

abbrev pub IsUndone : State → Type 0
IsUndone s = Undone s.phase s.files

ready_undone : (p : Phase) (files : List Held) → is_ready p ≡ true → Undone p files
ready_undone (Ready a l r) files e = tt
ready_undone (Waiting a) files e = cc
ready_undone (Asking a n) files e = cc
ready_undone (Probing a n probed) files e = cc
ready_undone (Leasing a n l r fl fr) files e = cc

-- ---- where the test is made

tested : (t : State) (p : Phase) → t.phase ≡ p → ((files : List Held) → (a : Attempt) (n : Number) (probed : List (Id × Bool)) → p ≡ Probing a n probed →
    Undone p files) → IsUndone (ready_test_in t p).state
tested t (Leasing a n l r (Some gl) (Some gr)) e q =
    cond_both (has_all t gl && has_all t gr) _ _ (λ (o : Outcome). IsUndone o.state) (λ _. tt) (λ f. subst (λ p. Undone p t.files) (sym e) f)
tested t (Leasing a n l r (Some gl) None) e q = subst (λ p. Undone p t.files) (sym e) tt
tested t (Leasing a n l r None gr) e q = subst (λ p. Undone p t.files) (sym e) tt
tested t (Waiting a) e q = subst (λ p. Undone p t.files) (sym e) tt
tested t (Asking a n) e q = subst (λ p. Undone p t.files) (sym e) tt
tested t (Probing a n probed) e q = subst (λ p. Undone p t.files) (sym e) (q t.files a n probed refl)
tested t (Ready a l r) e q = subst (λ p. Undone p t.files) (sym e) tt

-- who probes needs no files
probes_still : (p : Phase) (xs ys : List Held) → Undone p xs → (a : Attempt) (n : Number) (probed : List (Id × Bool)) → p ≡ Probing a n probed → Undone p ys
probes_still (Probing b m ps) xs ys h a n probed e = h
probes_still (Waiting b) xs ys h a n probed e = cc
probes_still (Asking b m) xs ys h a n probed e = cc
probes_still (Leasing b m l r fl fr) xs ys h a n probed e = cc
probes_still (Ready b l r) xs ys h a n probed e = cc

handover_undone : (s : State) (f : FileId) (b : Content) (h : Option Slot) → IsUndone s → IsUndone (handover_at s f b h).state
handover_undone s f b None q =
    cond_both (has_room s.files) _ _ (λ (o : Outcome). IsUndone o.state)
    (λ _. tested (holding s f b) s.phase refl (λ files a n probed e. probes_still s.phase s.files files q a n probed e)) (λ _. q)
handover_undone s f b (Some slot) q = q

grant_undone : (s : State) (from : Id) (a : Attempt) (lists : Lists) (p : Phase) → IsUndone s → IsUndone (grant_in s from a lists p).state
grant_undone s from a lists p q = by p where
  older : (b : Attempt) → IsUndone (older_grant s from a b).state
  older b = cond_both (nat_lt a b) _ _ (λ (o : Outcome). IsUndone o.state) (λ _. q) (λ _. q)

  by : (p : Phase) → IsUndone (grant_in s from a lists p).state
  by (Leasing b m l r fl fr) =
      cond_both (a == b) _ _ (λ (o : Outcome). IsUndone o.state)
      (λ _. cond_both (((from == l) && is_none fl) || ((from == r) && is_none fr)) _ _ (λ (o : Outcome). IsUndone o.state)
      (λ _. tested (with_grant s from lists (Leasing b m l r fl fr)) (Leasing b m l r (kept_first (from == l) fl lists) (kept_first (from == r) fr lists)) refl
      (λ files c n probed e. cc)) (λ _. q)) (λ _. older b)
  by (Ready b l r) = cond_both (a == b) _ _ (λ (o : Outcome). IsUndone o.state) (λ _. q) (λ _. older b)
  by (Waiting b) = older b
  by (Asking b m) = older b
  by (Probing b m probed) = older b

probe_undone : (s : State) (from : Id) (a : Attempt) (known : List Id) (p : Phase) → IsUndone s → IsUndone (probe_reply_in s from a known p).state
probe_undone s from a known (Probing b m probed) q =
    cond_both ((a == b) && list_any (is_unanswered from) probed) _ _ (λ (o : Outcome). IsUndone o.state)
    (λ _. cond_both (list_all (λ p. p.1) (map (answered_by from) probed ++ map unanswered (filter (λ y. not (was_probed probed y)) (leaves s.me known)))) _ _
    (λ (o : Outcome). IsUndone o.state) (λ _. tt) (λ e. e)) (λ _. q)
probe_undone s from a known (Waiting b) q = q
probe_undone s from a known (Asking b m) q = q
probe_undone s from a known (Leasing b m l r fl fr) q = q
probe_undone s from a known (Ready b l r) q = q

-- ---- nothing else gives a file to a node that is not ready

unready_way : (s : State) (key : Key) (p : Phase) → is_ready p ≡ false → way_in s key p ≡ way.Here → ⊥
unready_way s key (Ready a l r) e w = cc
unready_way s key (Waiting a) e w = cc
unready_way s key (Asking a n) e w = cc
unready_way s key (Probing a n probed) e w = cc
unready_way s key (Leasing a n l r fl fr) e w = cc

-- an input that brings a file, or lists of tombs
abbrev Brings : Input → Type 0
Brings (Comes from (Handover f b)) = ⊥
Brings (Comes from (Grant a manifest tombs)) = ⊥
Brings (Comes from m) = Unit {0}
Brings (Command n c) = Unit {0}
Brings Noise = Unit {0}

unready_files : (s : State) (i : Input) (o : Outcome) → FileRule s i o → is_ready s.phase ≡ false → Brings i →
    ((from o : Id) (n : Number) (f : FileId) (b : Content) → i ≡ Comes from (Replicate o n f b) → ⊥) → o.state.files ≡ s.files
unready_files _ _ _ (same s i o d q) e h c = d
unready_files _ _ _ (accepts s i o from n f copies b rest req here none room d noted q) e h c = absurd (unready_way s (key_of f) s.phase e here)
unready_files _ _ _ (reclaims s i o from n f b rest req here at d noted q) e h c = absurd (unready_way s (key_of f) s.phase e here)
unready_files _ _ _ (puts s i o f b k none room d q) e h c = absurd (by i f b k refl h) where
  by : (j : Input) (f : FileId) (b : Content) → Carries j f b → i ≡ j → Brings i → ⊥
  by _ _ _ (handed from f b) is h = subst Brings is h
  by _ _ _ (copied from o n f b) is h = c from o n f b is
unready_files _ _ _ (buries s o from a manifest tombs d q) e h c = absurd h

-- ---- one step

seat_undone : (s : State) (i : Input) (o : Outcome) → Seat s i o → o ≡ step s i → o.state.files ≡ s.files → IsUndone s → IsUndone o.state
seat_undone _ _ _ (rule.serves s i o e f g q) is d h = subst (λ p. Undone p o.state.files) (sym e.phase) (subst (Undone s.phase) (sym d) h)
seat_undone _ _ _ (rule.begins s n via b e f) is d h = tt
seat_undone _ _ _ (rule.stops_asking s n b m e) is d h = tt
seat_undone _ _ _ (rule.stops_probing s n b m probed e) is d h = tt
seat_undone _ _ _ (rule.stops_leasing s n b m l r fl fr e) is d h = tt
seat_undone _ _ _ (rule.refused s from b m w e) is d h = tt
seat_undone _ _ _ (rule.probes s from b m heard known y ys e f g) is d h = refl
seat_undone _ _ _ (rule.probes_on s from b m heard known old probed new e f g k) is d h =
    subst (λ (z : Outcome). IsUndone z.state) (sym is) (probe_undone s from b (learn_all s.me s.known heard) s.phase h)
seat_undone _ _ _ (rule.leases s from b m heard known old e f) is d h = tt
seat_undone _ _ _ (rule.denied s from b m l r fl fr w e) is d h = tt
seat_undone _ _ _ (rule.grant_kept s from b m l r fl fr manifest tombs e w) is d h =
    subst (λ (z : Outcome). IsUndone z.state) (sym is) (grant_undone s from b (record { manifest = manifest; tombs = tombs }) s.phase h)
seat_undone _ _ _ (rule.grant_readies s t from b m l r fl fr left right manifest tombs e f g k i) is d h = tt
seat_undone _ _ _ (rule.file_readies s from b m l r left right file bytes e f g k) is d h = tt
seat_undone _ _ _ (rule.confirms s from b c x y e f) is d h = tt
seat_undone s _ _ m is d h = h

step_undone : (s : State) (i : Input) → ((from o : Id) (n : Number) (f : FileId) (b : Content) → i ≡ Comes from (Replicate o n f b) → is_ready s.phase ≡ true) →
    IsUndone s → IsUndone (step s i).state
step_undone s i c h = elim (cases_Bool (is_ready s.phase)) [
  | inl ready ↦ ready_undone (step s i).state.phase (step s i).state.files (Moves-ready _ _ (seat_moves s i _ (step_seat s i)) ready)
  | inr unready ↦ by i (λ from o n f b is. let ready = c from o n f b is in cc) unready
] where
  still : (j : Input) → Brings j → ((from o : Id) (n : Number) (f : FileId) (b : Content) → j ≡ Comes from (Replicate o n f b) → ⊥) → is_ready s.phase ≡ false →
      IsUndone (step s j).state
  still j q none unready = seat_undone s j _ (step_seat s j) refl (unready_files s j _ (step_filed s j).does unready q none) h

  by : (j : Input) → ((from o : Id) (n : Number) (f : FileId) (b : Content) → j ≡ Comes from (Replicate o n f b) → ⊥) → is_ready s.phase ≡ false →
      IsUndone (step s j).state
  by (Comes from (Handover f b)) none unready = handover_undone s f b (slot_of s.files f) h
  by (Comes from (Grant a manifest tombs)) none unready = grant_undone s from a (record { manifest = manifest; tombs = tombs }) s.phase h
  by (Comes from m) none unready = still (Comes from m) tt none unready
  by (Command n d) none unready = still (Command n d) tt none unready
  by Noise none unready = still Noise tt none unready

-- ---- in every world

pub record UndoneHolds (w : World) : Type 0 where
  pub undone : (y : Id) → IsUndone (w.states y)

pub undone_keeps : (g : Setting) (w : World) (e : Entry) (x : Id) (i : Input) → Takes g w e x i → CopiesGo w → UndoneHolds w → UndoneHolds (after_step w e x i)
undone_keeps g w e x i t k h = record {
  undone = λ y. state_at-each (λ z (s : State). IsUndone s) w.states x (step (w.states x) i).state y
      (step_undone (w.states x) i (λ from o n f b is. input_goes g w e x i t k from (Replicate o n f b) is) (h.undone x)) (h.undone y);
}

start_undone : (y : Id) (b : Bool) → IsUndone (start y b)
start_undone y true = tt
start_undone y false = tt

pub undone_at_start : (g : Setting) → UndoneHolds (world_at_start g)
undone_at_start g = record { undone = λ y. start_undone y (y == g.founder) }
