-- At one root a command has one insert that waits: another takes its place. So an acknowledgement is heard by the insert that awaits it.
use Rattle.std.proofs.Common.{◌≡◌, inl, inr, ℕ, zero, suc, ◌≤◌, Bool, true, false, not, ◌&&◌, ◌==◌, nat_lt, Option, Some, None, List, [], ◌∷◌, ◌++◌}
use Rattle.std.proofs.Common.{filter, take, drop, find, position, slice_get, get_or, length, Contains, refl, sym, subst, ap, ◌∙◌, arith}
use Rattle.std.specs.List.{position_or_len}
use Rattle.std.proofs.lemmas.Bool.{cases_Bool, cond_both, and_parts, and_from}
use Rattle.std.proofs.lemmas.Bool.Decides.{Decides-eqb, nat_tests}
use Rattle.std.proofs.lemmas.List.Quantifiers.{position-Some}
use Rattle.std.proofs.lemmas.List.Folds.{find_at}
use Rattle.std.proofs.lemmas.Option.{get_or_from_slice_get, slice_get_past, slice_get-get_or}
use Rattle.ring_math.specs.Names.{Id, Key, FileId, Content, Number, Hops}
use Rattle.ring_math.specs.Bytewise.{same_bytes}
use Rattle.ring_math.specs.Keys.{key_of}
use Rattle.ring_math.specs.Sides.{is_in}
use Rattle.ring_math.specs.Files.{Slot, slot_of, with_slot, has_room}
use Rattle.wire_msg.specs.declared.command.Command.TheVariants as command
use Rattle.wire_msg.specs.declared.reply.Reply.{Reply}
use Rattle.wire_msg.specs.Words.{Message, Lookup, LookupReply, Insert, InsertReply, Fetch, FetchReply}
use Rattle.wire_msg.specs.Words.{Handover, Replicate, ReplicaAck, Reclaim, ReclaimReply}
use Rattle.overlay_rules.specs.declared.request.Asked.{Asked}
use Rattle.overlay_rules.specs.declared.request.Asked.TheVariants as asked
use Rattle.overlay_rules.specs.declared.request.Pending.{Pending}
use Rattle.overlay_rules.specs.declared.request.Way.{Way}
use Rattle.overlay_rules.specs.declared.request.Way.TheVariants as way
use Rattle.overlay_rules.specs.State.{State, Phase, Waiting, Asking, Probing, Leasing, Ready}
use Rattle.overlay_rules.specs.Outcome.{Outcome, Input, Command, Comes}
use Rattle.overlay_rules.specs.Routed.{way_of, served, on_lookup}
use Rattle.overlay_rules.specs.Roots.{is_ask, with_ask, targets_of, replicated, has_too_few, accepted, inserted, on_insert, is_of, reclaimed}
use Rattle.overlay_rules.specs.Roots.{on_reclaim, on_fetch}
use Rattle.overlay_rules.specs.Replicas.{holding, replicate_at, ack_taken, ack_of, ack_at, awaits, handover_at, on_reply}
use Rattle.overlay_rules.specs.ReadyTest.{ready_test_in, has_all}
use Rattle.overlay_rules.specs.Gates.{asked_for}
use Rattle.overlay_rules.specs.Gatekeeper.{cleared, is_left_to, gated_reach}
use Rattle.overlay_rules.specs.Step.{step, waits_for}
use Rattle.overlay_rules.proofs.Each.{Each, Each-append, Each-drop, Each-filter, Each-slice_get, Each-take, Each-contains, Each-weaker}
use Rattle.overlay_rules.proofs.Seat.{Seat, IsServiceInput}
use Rattle.overlay_rules.proofs.Seat as rule
use Rattle.step_facts.proofs.Learnt.{IsCons}
use Rattle.table_laws.proofs.LeaseRules.{filtered}
use Rattle.table_laws.proofs.Slots.{same-itself}
use Rattle.quiet_laws.proofs.Numbers.{Contains-passes, taken_away}

-- no two are asks of one command
abbrev pub Once : List Pending → Type 0
Once [] = Unit {0}
Once (p ∷ ps) = Each (λ (q : Pending). is_ask p.origin p.number q ≡ false) ps × Once ps

is_ask_itself : (o : Id) (n : Number) (p : Pending) → p.origin ≡ o → p.number ≡ n → is_ask o n p ≡ true
is_ask_itself o n p a b = and_from (p.origin == o) (p.number == n) ((Decides-eqb p.origin o).1 a) ((Decides-eqb p.number n).1 b)

ask_is : (o : Id) (n : Number) (p : Pending) → is_ask o n p ≡ true → (p.origin ≡ o) × (p.number ≡ n)
ask_is o n p e = let both = and_parts (p.origin == o) (p.number == n) e in ((Decides-eqb p.origin o).0 both.0, (Decides-eqb p.number n).0 both.1)

turned : (p q : Pending) → is_ask p.origin p.number q ≡ false → is_ask q.origin q.number p ≡ false
turned p q e = elim (cases_Bool (is_ask q.origin q.number p)) [
  | inl f ↦ let both = ask_is q.origin q.number p f in
      let no' : is_ask p.origin p.number q ≡ true = is_ask_itself p.origin p.number q (sym both.0) (sym both.1) in cc
  | inr f ↦ f
]

-- ---- what keeps them apart

once_filter : (t : Pending → Bool) (ps : List Pending) → Once ps → Once (filter t ps)
once_filter t [] h = tt
once_filter t (p ∷ ps) h =
    cond_both (t p) (p ∷ filter t ps) (filter t ps) Once
    (λ _. (Each-filter (λ (q : Pending). is_ask p.origin p.number q ≡ false) t ps h.0, once_filter t ps h.1)) (λ _. once_filter t ps h.1)

once_push : (ps : List Pending) (p : Pending) → Once ps → Each (λ (q : Pending). is_ask q.origin q.number p ≡ false) ps → Once (ps ++ p ∷ [])
once_push [] p h a = (tt, tt)
once_push (q ∷ ps) p h a = (Each-append (λ (r : Pending). is_ask q.origin q.number r ≡ false) ps (p ∷ []) h.0 (a.0, tt), once_push ps p h.1 a.1)

once_asked : (ps : List Pending) (p : Pending) → Once ps → Once (with_ask ps p)
once_asked ps p h =
    once_push (filter (λ q. not (is_ask p.origin p.number q)) ps) p (once_filter (λ q. not (is_ask p.origin p.number q)) ps h)
    (Each-weaker (λ (q : Pending). not (is_ask p.origin p.number q) ≡ true) (λ (q : Pending). is_ask q.origin q.number p ≡ false)
    (filter (λ q. not (is_ask p.origin p.number q)) ps) (λ q e. turned p q (opposite (is_ask p.origin p.number q) e))
    (filtered (λ q. not (is_ask p.origin p.number q)) ps)) where
      opposite : (b : Bool) → not b ≡ true → b ≡ false
      opposite true e = cc
      opposite false e = refl

once_without : (ps : List Pending) (n : ℕ) → Once ps → Once (take n ps ++ drop (suc n) ps)
once_without [] zero h = tt
once_without [] (suc n) h = tt
once_without (p ∷ ps) zero h = h.1
once_without (p ∷ ps) (suc n) h = (
  Each-append (λ (q : Pending). is_ask p.origin p.number q ≡ false) (take n ps) (drop (suc n) ps)
      (Each-take (λ (q : Pending). is_ask p.origin p.number q ≡ false) n ps h.0)
      (Each-drop (λ (q : Pending). is_ask p.origin p.number q ≡ false) (suc n) ps h.0),
  once_without ps n h.1,
)

once_heard : (ps : List Pending) (n : ℕ) (p : Pending) (left : List Id) → slice_get ps n ≡ Some p → Once ps →
    Once (take n ps ++ record p { awaited = left } ∷ drop (suc n) ps)
once_heard [] n p left e h = cc
once_heard (q ∷ ps) zero p left e h = let same : q ≡ p =
    cc in (subst (λ (z : Pending). Each (λ (r : Pending). is_ask z.origin z.number r ≡ false) ps) same h.0, h.1)
once_heard (q ∷ ps) (suc n) p left e h = (
  Each-append (λ (r : Pending). is_ask q.origin q.number r ≡ false) (take n ps) _ (Each-take (λ (r : Pending). is_ask q.origin q.number r ≡ false) n ps h.0) (
    Each-slice_get (λ (r : Pending). is_ask q.origin q.number r ≡ false) ps n p h.0 e,
    Each-drop (λ (r : Pending). is_ask q.origin q.number r ≡ false) (suc n) ps h.0,
  ),
  once_heard ps n p left e h.1,
)

-- all but the one at a place are of other commands
others : (ps : List Pending) (n : ℕ) (p : Pending) → slice_get ps n ≡ Some p → Once ps →
    Each (λ (q : Pending). is_ask p.origin p.number q ≡ false) (take n ps) × Each (λ (q : Pending). is_ask p.origin p.number q ≡ false) (drop (suc n) ps)
others [] n p e h = cc
others (q ∷ ps) zero p e h = let same : q ≡ p = cc in (tt, subst (λ (z : Pending). Each (λ (r : Pending). is_ask z.origin z.number r ≡ false) ps) same h.0)
others (q ∷ ps) (suc n) p e h =
    let rest = others ps n p e h.1 in
    ((turned q p (Each-slice_get (λ (r : Pending). is_ask q.origin q.number r ≡ false) ps n p h.0 e), rest.0), rest.1)

-- ---- one step

served_once : (t : State) (what : Asked) (o : Id) (m : Number) (w : Way) (next : Message) (here : Outcome) → Once t.pending → Once here.state.pending →
    Once (served t what o m w next here).state.pending
served_once t what o m way.NotReady next here h k = h
served_once t what o m way.Here next here h k = k
served_once t what o m (way.Gap j) next here h k = h
served_once t what o m (way.To y) next here h k = h

replicated_once : (t : State) (o : Id) (m : Number) (file : FileId) (bytes : Content) (targets : List Id) → Once t.pending →
    Once (replicated t o m file bytes targets).state.pending
replicated_once t o m file bytes [] h = h
replicated_once t o m file bytes (x ∷ xs) h = once_asked t.pending _ h

accepted_once : (t : State) (o : Id) (m : Number) (file : FileId) (copies : ℕ) (bytes : Content) → Once t.pending →
    Once (accepted t o m file copies bytes).state.pending
accepted_once t o m file copies bytes h =
    cond_both (has_room t.files) _ _ (λ (z : Outcome). Once z.state.pending)
    (λ _. replicated_once (record t { files = with_slot t.files file (Some bytes) }) o m file bytes (targets_of t file copies) h) (λ _. h)

inserted_once : (t : State) (o : Id) (m : Number) (file : FileId) (copies : ℕ) (bytes : Content) (s : Option Slot) → Once t.pending →
    Once (inserted t o m file copies bytes s).state.pending
inserted_once t o m file copies bytes (Some None) h = h
inserted_once t o m file copies bytes (Some (Some there)) h =
    cond_both (not (same_bytes there bytes)) _ _ (λ (z : Outcome). Once z.state.pending) (λ _. h)
    (λ _. cond_both (has_too_few t copies) _ _ (λ (z : Outcome). Once z.state.pending) (λ _. h)
    (λ _. replicated_once t o m file bytes (targets_of t file copies) h))
inserted_once t o m file copies bytes None h =
    cond_both (has_too_few t copies) _ _ (λ (z : Outcome). Once z.state.pending) (λ _. h) (λ _. accepted_once t o m file copies bytes h)

reclaimed_once : (t : State) (o : Id) (m : Number) (file : FileId) (s : Option Slot) → Once t.pending → Once (reclaimed t o m file s).state.pending
reclaimed_once t o m file None h = h
reclaimed_once t o m file (Some None) h = h
reclaimed_once t o m file (Some (Some bytes)) h = once_filter (λ p. not (is_of file p)) t.pending h

taken_once : (t : State) (place : ℕ) (p : Pending) (left : List Id) → slice_get t.pending place ≡ Some p → Once t.pending →
    Once (ack_taken t place p left).state.pending
taken_once t place p [] e h = once_without t.pending place h
taken_once t place p (y ∷ ys) e h = once_heard t.pending place p (y ∷ ys) e h

ack_once : (t : State) (from : Id) (place : Option ℕ) → Once t.pending → Once (ack_at t from place).state.pending
ack_once t from None h = h
ack_once t from (Some place) h = by (slice_get t.pending place) refl where
  by : (x : Option Pending) → slice_get t.pending place ≡ x → Once (ack_of t from place x).state.pending
  by None e = h
  by (Some p) e = taken_once t place p (filter (λ y. not (y == from)) p.awaited) e h

replicate_once : (t : State) (from o : Id) (m : Number) (file : FileId) (bytes : Content) (s : Option Slot) → Once t.pending →
    Once (replicate_at t from o m file bytes s).state.pending
replicate_once t from o m file bytes None h = cond_both (has_room t.files) _ _ (λ (z : Outcome). Once z.state.pending) (λ _. h) (λ _. h)
replicate_once t from o m file bytes (Some None) h = h
replicate_once t from o m file bytes (Some (Some there)) h = cond_both (same_bytes there bytes) _ _ (λ (z : Outcome). Once z.state.pending) (λ _. h) (λ _. h)

tested_once : (t : State) (p : Phase) → Once t.pending → Once (ready_test_in t p).state.pending
tested_once t (Leasing b m l r (Some gl) (Some gr)) h = cond_both (has_all t gl && has_all t gr) _ _ (λ (z : Outcome). Once z.state.pending) (λ _. h) (λ _. h)
tested_once t (Leasing b m l r (Some gl) None) h = h
tested_once t (Leasing b m l r None gr) h = h
tested_once t (Waiting b) h = h
tested_once t (Asking b m) h = h
tested_once t (Probing b m probed) h = h
tested_once t (Ready b l r) h = h

handover_once : (t : State) (file : FileId) (bytes : Content) (s : Option Slot) → Once t.pending → Once (handover_at t file bytes s).state.pending
handover_once t file bytes None h =
    cond_both (has_room t.files) _ _ (λ (z : Outcome). Once z.state.pending) (λ _. tested_once (holding t file bytes) t.phase h) (λ _. h)
handover_once t file bytes (Some slot) h = h

reply_once : (t : State) (m : Number) (r : Reply) → Once t.pending → Once (on_reply t m r).state.pending
reply_once t m r h = cond_both (is_in t.waiting m) _ _ (λ (z : Outcome). Once z.state.pending) (λ _. h) (λ _. h)

lookup_once : (t : State) (o : Id) (m : Number) (key : Key) (hops : Hops) → Once t.pending → Once (on_lookup t o m key hops).state.pending
lookup_once t o m key hops h = served_once t asked.Lookup o m (way_of t key) _ _ h h

fetch_once : (t : State) (o : Id) (m : Number) (hops : Hops) (file : FileId) → Once t.pending → Once (on_fetch t o m hops file).state.pending
fetch_once t o m hops file h = served_once t asked.Fetch o m (way_of t (key_of file)) _ _ h h

insert_once : (t : State) (o : Id) (m : Number) (hops : Hops) (file : FileId) (copies : ℕ) (bytes : Content) → Once t.pending →
    Once (on_insert t o m hops file copies bytes).state.pending
insert_once t o m hops file copies bytes h =
    served_once t asked.Insert o m (way_of t (key_of file)) _ _ h (inserted_once t o m file copies bytes (slot_of t.files file) h)

reclaim_once : (t : State) (o : Id) (m : Number) (hops : Hops) (file : FileId) → Once t.pending → Once (on_reclaim t o m hops file).state.pending
reclaim_once t o m hops file h =
    served_once t asked.Reclaim o m (way_of t (key_of file)) _ _ h (reclaimed_once t o m file (slot_of t.files file) h)

service_once : (s : State) (i : Input) → IsServiceInput i → Once s.pending → Once (step s i).state.pending
service_once s (Command m (command.Lookup key)) k h = lookup_once (waits_for s m) s.me m key 0 h
service_once s (Command m (command.Insert f copies b)) k h = insert_once (waits_for s m) s.me m 0 f copies b h
service_once s (Command m (command.Fetch f)) k h = fetch_once (waits_for s m) s.me m 0 f h
service_once s (Command m (command.Reclaim f)) k h = reclaim_once (waits_for s m) s.me m 0 f h
service_once s (Comes from (Lookup o m key hops)) k h = lookup_once s o m key hops h
service_once s (Comes from (LookupReply m r)) k h = reply_once s m r h
service_once s (Comes from (Insert o m hops f copies b)) k h = insert_once s o m hops f copies b h
service_once s (Comes from (InsertReply m r)) k h = reply_once s m r h
service_once s (Comes from (Fetch o m hops f)) k h = fetch_once s o m hops f h
service_once s (Comes from (FetchReply m r)) k h = reply_once s m r h
service_once s (Comes from (Handover f b)) k h = handover_once s f b (slot_of s.files f) h
service_once s (Comes from (Replicate o m f b)) k h = replicate_once s from o m f b (slot_of s.files f) h
service_once s (Comes from (ReplicaAck o m f)) k h = ack_once s from (position (awaits from o m f) s.pending) h
service_once s (Comes from (Reclaim o m hops f)) k h = reclaim_once s o m hops f h
service_once s (Comes from (ReclaimReply m r)) k h = reply_once s m r h
service_once s _ k h = absurd k

pub seat_once : (s : State) (i : Input) (o : Outcome) → Seat s i o → o ≡ step s i → Once s.pending → Once o.state.pending
seat_once _ _ _ (rule.serves s i o e f g q) is h = subst (λ (z : Outcome). Once z.state.pending) (sym is) (service_once s i q h)
seat_once _ _ _ (rule.grant_readies s t from b m l r fl fr left right manifest tombs e f g k i) is h =
    subst Once (sym (ap (λ (u : State). u.pending) f)) h
seat_once _ _ _ (rule.lease_new s from b l r c x y e f g) is h =
    once_filter (λ p. not (is_left_to (gated_reach (cleared s from b) x y (asked_for from b l r)) from p)) s.pending h
seat_once s _ _ m is h = h

-- ---- an acknowledgement

awaits_from : (from o : Id) (n : Number) (f : FileId) (q : Pending) → q.origin ≡ o → q.number ≡ n → q.file ≡ f → Contains q.awaited from →
    awaits from o n f q ≡ true
awaits_from from o n f q a b d c =
    and_from (is_ask o n q) (same_bytes q.file f && is_in q.awaited from) (is_ask_itself o n q a b)
    (and_from (same_bytes q.file f) (is_in q.awaited from) (subst (λ z. same_bytes q.file z ≡ true) d (same-itself q.file)) (Contains-passes q.awaited from c))

find_none : (t : Pending → Bool) (ps : List Pending) → find t ps ≡ None → Each (λ q. t q ≡ false) ps
find_none t [] e = tt
find_none t (p ∷ ps) e = elim (cases_Bool (t p)) [
  | inl f ↦ absurd (some_first f)
  | inr f ↦ (f, find_none t ps (rest f))
] where
  some_first : t p ≡ true → ⊥
  some_first f = let found : find t (p ∷ ps) ≡ Some p = rw f refl in cc

  rest : t p ≡ false → find t ps ≡ None
  rest f = let same : find t (p ∷ ps) ≡ find t ps = rw f refl in sym same ∙ e

position_none : (t : Pending → Bool) (ps : List Pending) → position t ps ≡ None → Each (λ q. t q ≡ false) ps
position_none t ps e = find_none t ps (find_at t ps ∙ by e) where
  past : nat_lt (position_or_len t ps) (length ps) ≡ false → length ps ≤ position_or_len t ps
  past f = grind (arith, nat_tests)

  by : position t ps ≡ None → slice_get ps (position_or_len t ps) ≡ None
  by = cond_both (nat_lt (position_or_len t ps) (length ps)) (Some (position_or_len t ps)) None (λ z. z ≡ None → slice_get ps (position_or_len t ps) ≡ None)
      (λ f g. cc) (λ f g. slice_get_past ps (position_or_len t ps) (past f))

-- no insert awaits it afterwards
Heard : Id → Id → Number → FileId → Pending → Type 0
Heard from o n f q = q.origin ≡ o → q.number ≡ n → q.file ≡ f → Contains q.awaited from → ⊥

of_another : (from o : Id) (n : Number) (f : FileId) (p : Pending) → p.origin ≡ o → p.number ≡ n → (ps : List Pending) →
    Each (λ (q : Pending). is_ask p.origin p.number q ≡ false) ps → Each (Heard from o n f) ps
unfolding Heard
of_another from o n f p a b ps h = Each-weaker (λ (q : Pending). is_ask p.origin p.number q ≡ false) (Heard from o n f) ps
    (λ q e c d g k. let this : is_ask p.origin p.number q ≡ true = is_ask_itself p.origin p.number q (c ∙ sym a) (d ∙ sym b) in absurd (cc)) h

taken_heard : (s : State) (from o : Id) (n : Number) (f : FileId) (place : ℕ) (p : Pending) (left : List Id) → p.origin ≡ o → p.number ≡ n →
    slice_get s.pending place ≡ Some p → left ≡ filter (λ y. not (y == from)) p.awaited → Once s.pending →
    Each (Heard from o n f) (ack_taken s place p left).state.pending
unfolding Heard
taken_heard s from o n f place p [] a b e is h =
    let apart = others s.pending place p e h in
    Each-append (Heard from o n f) (take place s.pending) (drop (suc place) s.pending) (of_another from o n f p a b (take place s.pending) apart.0)
    (of_another from o n f p a b (drop (suc place) s.pending) apart.1)
taken_heard s from o n f place p (y ∷ ys) a b e is h =
    let apart = others s.pending place p e h in
    Each-append (Heard from o n f) (take place s.pending) _ (of_another from o n f p a b (take place s.pending) apart.0)
    ((λ c d g k. taken_away p.awaited from (subst (λ zs. Contains zs from) is k)), of_another from o n f p a b (drop (suc place) s.pending) apart.1)

ack_heard : (s : State) (from o : Id) (n : Number) (f : FileId) (place : Option ℕ) → position (awaits from o n f) s.pending ≡ place → Once s.pending →
    Each (Heard from o n f) (ack_at s from place).state.pending
unfolding Heard
ack_heard s from o n f None e h =
    Each-weaker (λ (q : Pending). awaits from o n f q ≡ false) (Heard from o n f) s.pending
    (λ q g a b d c. let this : awaits from o n f q ≡ true = awaits_from from o n f q a b d c in absurd (cc)) (position_none (awaits from o n f) s.pending e)
ack_heard s from o n f (Some place) e h = by (slice_get s.pending place) refl where
  by : (x : Option Pending) → slice_get s.pending place ≡ x → Each (Heard from o n f) (ack_of s from place x).state.pending
  by None g = absurd (nowhere g) where
    nowhere : slice_get s.pending place ≡ None → ⊥
    nowhere g = let d : Pending = record { origin = 0; number = 0; file = []; targets = []; awaited = [] } in
        let found = position-Some (awaits from o n f) s.pending place d e in let there = slice_get-get_or s.pending place d found.0 in cc
  by (Some p) g =
      let found = position-Some (awaits from o n f) s.pending place p e in
      let is : get_or s.pending place p ≡ p = get_or_from_slice_get s.pending place p p g in
      let t : awaits from o n f p ≡ true = subst (λ q. awaits from o n f q ≡ true) is found.1 in
      let ask = ask_is o n p (and_parts (is_ask o n p) (same_bytes p.file f && is_in p.awaited from) t).0 in
      taken_heard s from o n f place p (filter (λ y. not (y == from)) p.awaited) ask.0 ask.1 g refl h

pub heard : (s : State) (from o : Id) (n : Number) (f : FileId) → Once s.pending → (q : Pending) →
    Contains (step s (Comes from (ReplicaAck o n f))).state.pending q → q.origin ≡ o → q.number ≡ n → q.file ≡ f → Contains q.awaited from → ⊥
unfolding Heard
heard s from o n f h q c =
    Each-contains (Heard from o n f) _ q (ack_heard s from o n f (position (awaits from o n f) s.pending) refl h) c

-- and who waits on awaits somebody
pub ack_some : (s : State) (from o : Id) (n : Number) (f : FileId) → Each (λ (q : Pending). IsCons q.awaited) s.pending →
    Each (λ (q : Pending). IsCons q.awaited) (step s (Comes from (ReplicaAck o n f))).state.pending
ack_some s from o n f h = at (position (awaits from o n f) s.pending) where
  taken : (place : ℕ) (p : Pending) (left : List Id) → Each (λ (q : Pending). IsCons q.awaited) (ack_taken s place p left).state.pending
  taken place p [] = Each-append (λ (q : Pending). IsCons q.awaited) (take place s.pending) (drop (suc place) s.pending)
      (Each-take (λ (q : Pending). IsCons q.awaited) place s.pending h) (Each-drop (λ (q : Pending). IsCons q.awaited) (suc place) s.pending h)
  taken place p (y ∷ ys) = Each-append (λ (q : Pending). IsCons q.awaited) (take place s.pending) _
      (Each-take (λ (q : Pending). IsCons q.awaited) place s.pending h) (tt, Each-drop (λ (q : Pending). IsCons q.awaited) (suc place) s.pending h)

  of : (place : ℕ) (x : Option Pending) → Each (λ (q : Pending). IsCons q.awaited) (ack_of s from place x).state.pending
  of place None = h
  of place (Some p) = taken place p (filter (λ y. not (y == from)) p.awaited)

  at : (place : Option ℕ) → Each (λ (q : Pending). IsCons q.awaited) (ack_at s from place).state.pending
  at None = h
  at (Some place) = of place (slice_get s.pending place)
