-- The ready nodes of a legal record: the founder, and one for each closing with Joined. A step that notes such a closing readies its node, and no other step
-- does.
use Rattle.std.proofs.Common.{◌≡◌, ◌≢◌, inl, inr, ℕ, ◌+◌, Bool, true, false, ◌==◌, cond, List, [], ◌∷◌, ◌++◌, length, take, refl, sym, subst, ap, ◌∙◌}
use Rattle.std.proofs.Common.{append-nil, zero-add, arith}
use Rattle.std.specs.List.{count_by}
use Rattle.std.proofs.lemmas.Bool.{cases_Bool}
use Rattle.std.proofs.lemmas.Bool.Decides.{Decides-eqb}
use Rattle.std.proofs.lemmas.Grind.{flat_map-append}
use Rattle.std.proofs.lemmas.List.{take_all}
use Rattle.std.proofs.lemmas.List.Sums.{sum_by-append}
use Rattle.wire_msg.specs.declared.note.Note.{Note}
use Rattle.wire_msg.specs.declared.note.Note.TheVariants as note
use Rattle.wire_msg.specs.declared.reply.Answer.{Answer}
use Rattle.wire_msg.specs.declared.reply.Answer.TheVariants as answer
use Rattle.wire_msg.specs.declared.reply.Reply.{Reply}
use Rattle.overlay_rules.specs.declared.entry.Entry.{Entry}
use Rattle.overlay_rules.specs.declared.request.Pending.{Pending}
use Rattle.overlay_rules.specs.State.{State, is_ready, start}
use Rattle.overlay_rules.specs.Outcome.{Outcome, Input}
use Rattle.overlay_rules.specs.Roots.{replied_each}
use Rattle.overlay_rules.specs.Step.{step}
use Rattle.overlay_rules.specs.Record.{Setting, IsSetting, IsRecord, World, state_at, run, world_at_start}
use Rattle.overlay_rules.specs.Table.{notes_in}
use Rattle.overlay_rules.proofs.Each.{Each}
use Rattle.overlay_rules.proofs.Histories.{state_at-itself, state_at-other, past_of_run}
use Rattle.overlay_rules.proofs.Seat.{Seat, IsReply, IsServiceNote}
use Rattle.overlay_rules.proofs.Seat as row
use Rattle.overlay_rules.proofs.SeatStep.{step_seat}
use Rattle.step_facts.specs.ReadyCount.{ready_count}
use Rattle.step_facts.proofs.Always.{Takes, Keeps, stepped, always}
use Rattle.delivery_report.specs.Report.{is_joining_note}
use Rattle.delivery_report.proofs.Counted.{count_by-cons, count_by-one}

-- ---- one step

abbrev pub joinings : List Note → ℕ
joinings notes = count_by is_joining_note notes

-- 1 where the node is ready
abbrev readiness : State → ℕ
readiness s = cond (is_ready s.phase) 1 0

reply_joins : (n : ℕ) (a : Answer) → IsReply a → is_joining_note (note.Closed n a) ≡ false
reply_joins n (answer.Reply r) h = refl
reply_joins n (answer.Joined l r) h = absurd h
reply_joins n (answer.Denied y w) h = refl
reply_joins n (answer.Stopped y w) h = refl
reply_joins n answer.GaveUp h = refl
reply_joins n answer.NothingToGiveUp h = refl

service_joins : (n : Note) → IsServiceNote n → is_joining_note n ≡ false
service_joins (note.Closed n a) h = reply_joins n a h
service_joins (note.Delivered o n key hops) h = refl
service_joins (note.Answered o n r) h = refl
service_joins (note.Accepted file bytes) h = refl
service_joins (note.Reclaimed file) h = refl

services_join : (notes : List Note) → Each IsServiceNote notes → joinings notes ≡ 0
services_join [] h = refl
services_join (n ∷ ns) h = count_by-cons is_joining_note n ns ∙ ap (λ b. cond b 1 0 + joinings ns) (service_joins n h.0) ∙ zero-add _ ∙ services_join ns h.1

replies_join : (t : State) (r : Reply) (ps : List Pending) → joinings (replied_each t r ps).notes ≡ 0
replies_join t r [] = refl
replies_join t r (p ∷ ps) = count_by-cons is_joining_note (note.Answered p.origin p.number r) (replied_each t r ps).notes ∙ zero-add _ ∙ replies_join t r ps

-- a step readies its node where it notes a closing with Joined, and else leaves it ready or not
seat_joins : (s : State) (i : Input) (o : Outcome) → Seat s i o → joinings o.notes + readiness s ≡ readiness o.state
seat_joins _ _ _ (row.serves s i o e f g q) = rw (services_join o.notes g.each, e.phase) (zero-add _)
seat_joins _ _ _ (row.begins s n via a e f) = rw e refl
seat_joins _ _ _ (row.stops_asking s n a m e) = rw e refl
seat_joins _ _ _ (row.stops_probing s n a m probed e) = rw e refl
seat_joins _ _ _ (row.stops_leasing s n a m l r fl fr e) = rw e refl
seat_joins _ _ _ (row.refused s from a m w e) = rw e refl
seat_joins _ _ _ (row.probes s from a m heard known y ys e f g) = rw e refl
seat_joins _ _ _ (row.probes_on s from a m heard known old probed new e f g h) = rw e refl
seat_joins _ _ _ (row.leases s from a m heard known old e f) = rw e refl
seat_joins _ _ _ (row.denied s from a m l r fl fr w e) = rw e refl
seat_joins _ _ _ (row.grant_kept s from a m l r fl fr manifest tombs e w) = rw e refl
seat_joins _ _ _ (row.grant_readies s t from a m l r fl fr left right manifest tombs e f g h i) = rw e refl
seat_joins _ _ _ (row.file_readies s from a m l r left right file bytes e f g h) = rw e refl
seat_joins _ _ _ (row.lease_new s from a l r b x y e f g) = rw (replies_join _ _ _) (zero-add _)
seat_joins _ _ _ (row.confirms s from a b x y e f) = rw e refl
seat_joins s _ _ m = zero-add _

-- ---- over every legal record

pub record JoinsCounted (g : Setting) (w : World) : Type 0 where
  pub ready : ready_count g w ≡ 1 + joinings (notes_in w.past)

-- after as many joinings more
summed : (after before was now more past : ℕ) → after + was ≡ before + now → more + was ≡ now → before ≡ 1 + past → after ≡ 1 + (past + more)
summed after before was now more past e f h = omega arith

joins_keep : (g : Setting) → IsSetting g → Keeps g (JoinsCounted g)
joins_keep g set = record { keeps = λ w e x i h t. record { ready = counted w e x i h t } } where
  counted : (w : World) (e : Entry) (x : ℕ) (i : Input) → JoinsCounted g w → Takes g w e x i →
      ready_count g (stepped w e x (step (w.states x) i).state) ≡ 1 + joinings (notes_in (w.past ++ e ∷ []))
  counted w e x i h t =
      let o : Outcome = step (w.states x) i in
      let moved = count_by-one (λ y. is_ready (state_at w.states x o.state y).phase) (λ y. is_ready (w.states y).phase) x
      (λ y ne. ap (λ (s : State). is_ready s.phase) (state_at-other w.states x o.state y ne)) g.nodes set.differ t.member in
      let now : readiness (state_at w.states x o.state x) ≡ readiness o.state = ap readiness (state_at-itself w.states x o.state) in
      let notes : joinings (notes_in (w.past ++ e ∷ [])) ≡ joinings (notes_in w.past) + joinings o.notes =
      ap joinings (flat_map-append (λ (d : Entry). d.notes) w.past (e ∷ []) ∙ ap (λ ns. notes_in w.past ++ ns) (append-nil e.notes ∙ t.notes)) ∙
      sum_by-append (λ n. cond (is_joining_note n) 1 0) (notes_in w.past) o.notes in
      summed _ _ (readiness (w.states x)) (readiness o.state) (joinings o.notes) (joinings (notes_in w.past)) (moved ∙ ap (λ n. ready_count g w + n) now)
      (seat_joins _ _ _ (step_seat (w.states x) i)) h.ready ∙
      ap (λ n. 1 + n) (sym notes)

start_ready : (x : ℕ) (b : Bool) → is_ready (start x b).phase ≡ b
start_ready x true = refl
start_ready x false = refl

count_none : (xs : List ℕ) → count_by (λ (y : ℕ). false) xs ≡ 0
count_none [] = refl
count_none (x ∷ xs) = count_by-cons (λ (y : ℕ). false) x xs ∙ zero-add _ ∙ count_none xs

-- at the start the founder alone is ready
joins_at_start : (g : Setting) → IsSetting g → JoinsCounted g (world_at_start g)
joins_at_start g set = record { ready = one } where
  f : ℕ
  f = g.founder

  others : (y : ℕ) → y ≢ f → is_ready (start y (y == f)).phase ≡ false
  others y ne = start_ready y (y == f) ∙ (elim (cases_Bool (y == f)) [ inl e ↦ absurd (ne ((Decides-eqb y f).0 e)) | inr e ↦ e ])

  itself : is_ready (start f (f == f)).phase ≡ true
  itself = start_ready f (f == f) ∙ (Decides-eqb f f).1 refl

  one : ready_count g (world_at_start g) ≡ 1
  one =
      let only = count_by-one (λ y. is_ready (start y (y == f)).phase) (λ (y : ℕ). false) f others g.nodes set.differ set.founder in
      alone _ _ _ only (count_none g.nodes) (ap (λ b. cond b 1 0) itself) where
        alone : (a b c : ℕ) → a + 0 ≡ b + c → b ≡ 0 → c ≡ 1 → a ≡ 1
        alone a b c e p q = omega arith

-- as many nodes are ready at the end as closings with Joined are noted, and the founder
pub ready-joinings : (g : Setting) (es : List Entry) → IsRecord g es → ready_count g (run (world_at_start g) es) ≡ 1 + joinings (notes_in es)
ready-joinings g es r =
    let whole = take_all (length es) es (omega arith) in
    subst (λ fs. ready_count g (run (world_at_start g) fs) ≡ 1 + joinings (notes_in fs)) whole
    ((always g (JoinsCounted g) (joins_at_start g r.setting) (joins_keep g r.setting) es r (length es)).ready ∙
    ap (λ fs. 1 + joinings (notes_in fs)) (past_of_run (world_at_start g) (take (length es) es)))
