-- A command is open until it is closed: what is given is open at its node or has its note Closed at once, and what is open stays so until it has it.
use Rattle.std.proofs.Common.{◌≡◌, ◌≢◌, ◌⊎◌, inl, inr, ℕ, true, not, ◌==◌, List, [], ◌∷◌, ◌++◌, filter, Contains, append-nil, refl}
use Rattle.std.proofs.Common.{Some, sym, subst, ap, ◌∙◌, arith}
use Rattle.std.proofs.lemmas.Bool.{cases_eq, cond_both}
use Rattle.std.proofs.lemmas.Bool.Decides.{nat_tests}
use Rattle.std.proofs.lemmas.List.Elements.{Contains-append_left, Contains-push, Contains-push_cases}
use Rattle.std.proofs.lemmas.List.Concat.{flat_map-append}
use Rattle.ring_math.specs.Names.{Id, Number}
use Rattle.ring_math.specs.Sides.{is_in}
use Rattle.ring_math.proofs.Membership.{Contains-filter, Contains-from_filter}
use Rattle.wire_msg.specs.declared.command.Command.{Command as NodeCommand}
use Rattle.wire_msg.specs.declared.command.Command.TheVariants as command
use Rattle.wire_msg.specs.declared.limits.TheConstants.{LAST_ATTEMPT}
use Rattle.wire_msg.specs.declared.note.Note.{Note}
use Rattle.wire_msg.specs.declared.note.Note.TheVariants as note
use Rattle.wire_msg.specs.declared.reply.Reply.{Reply}
use Rattle.wire_msg.specs.Words.{Message, Lookup, LookupReply, Insert, InsertReply, Fetch, FetchReply}
use Rattle.wire_msg.specs.Words.{Handover, Replicate, ReplicaAck, Reclaim, ReclaimReply}
use Rattle.overlay_rules.specs.declared.entry.Event.{Event}
use Rattle.overlay_rules.specs.declared.entry.Event.TheVariants as event
use Rattle.overlay_rules.specs.declared.entry.Entry.{Entry}
use Rattle.overlay_rules.specs.State.{State, Phase, Waiting, Asking, Probing, Leasing, Ready}
use Rattle.overlay_rules.specs.Outcome.{Outcome, Input, Command, Comes, Noise}
use Rattle.overlay_rules.specs.Joining.{join_in, give_up_in}
use Rattle.overlay_rules.specs.Replicas.{on_reply}
use Rattle.overlay_rules.specs.Step.{step, waits_for}
use Rattle.overlay_rules.specs.Record.{Setting, World, world_at_start}
use Rattle.overlay_rules.specs.Rightly.{WasCommanded}
use Rattle.overlay_rules.specs.Table.{notes_in}
use Rattle.overlay_rules.proofs.Histories.{state_at-itself, state_at-other}
use Rattle.overlay_rules.proofs.Seat.{Seat, IsServiceInput}
use Rattle.overlay_rules.proofs.Seat as rule
use Rattle.overlay_rules.proofs.SeatStep.{step_seat}
use Rattle.step_facts.proofs.Always.{Arrives, commanded, delivered, noised, Takes, after_step}
use Rattle.ring_laws.proofs.Closings.{IsJoinOf, InputReplies, InputWaits, service_replies}
use Rattle.ring_laws.proofs.Numbers.{IsOpen, IsRequest, IsAsked}
use Rattle.ring_laws.proofs.Lookups.{nobody_commanded}
use Rattle.quiet_laws.specs.Closed.{IsClosed}
use Rattle.quiet_laws.proofs.Has.{Has, Has-left, Has-right, found}
use Rattle.quiet_laws.proofs.Numbers.{Contains-passes, taken_away}
use Rattle.quiet_laws.proofs.Going.{Replies}

-- the note closes command k
abbrev pub Closes : Number → Note → Type 0
Closes k (note.Closed n a) = n ≡ k
Closes k (note.Delivered o n key hops) = ⊥
Closes k (note.Answered o n r) = ⊥
Closes k (note.Accepted file bytes) = ⊥
Closes k (note.Reclaimed file) = ⊥

-- command k is open in the state, or one of the notes closes it
abbrev pub Ends : Number → Outcome → Type 0
Ends k o = IsOpen o.state k ⊎ Has (Closes k) o.notes

-- ---- lookups and files

-- a reply closes its number, and leaves the others
reply_ends : (s : State) (n : Number) (r : Reply) (k : Number) → Contains s.waiting k →
    Contains (on_reply s n r).state.waiting k ⊎ Has (Closes k) (on_reply s n r).notes
reply_ends s n r k c =
    cond_both (is_in s.waiting n) _ _ (λ (o : Outcome). Contains o.state.waiting k ⊎ Has (Closes k) o.notes)
    (λ e. elim (cases_eq k n) [
      | inl same ↦ inr (inl (sym same))
      | inr ne ↦ inl (Contains-filter (λ m. not (m == n)) s.waiting k c (other k n ne))
    ]) (λ _. inl c) where
      other : (k n : ℕ) → k ≢ n → not (k == n) ≡ true
      other k n ne = grind (arith, nat_tests)

-- what holds of the numbers that wait holds after an input of lookups and files, where it holds of those that the input makes of them
unread : (W : List Number → Type 0) (s : State) (i : Input) → IsServiceInput i → W s.waiting → InputWaits W s.waiting i → InputReplies (λ m r. Unit {0}) i →
    W (step s i).state.waiting
unread W s i q h f r = (service_replies (λ m r. Unit {0}) W s i q h f r).waiting

-- a number that waits waits still, or is closed
still_waits : (s : State) (i : Input) → IsServiceInput i → (k : Number) → Contains s.waiting k →
    Contains (step s i).state.waiting k ⊎ Has (Closes k) (step s i).notes
still_waits s (Comes from (LookupReply n r)) q k c = reply_ends s n r k c
still_waits s (Comes from (InsertReply n r)) q k c = reply_ends s n r k c
still_waits s (Comes from (FetchReply n r)) q k c = reply_ends s n r k c
still_waits s (Comes from (ReclaimReply n r)) q k c = reply_ends s n r k c
still_waits s (Comes from (Lookup o n key hops)) q k c = inl (unread (λ ws. Contains ws k) s (Comes from (Lookup o n key hops)) q c tt tt)
still_waits s (Comes from (Insert o n hops f copies b)) q k c = inl (unread (λ ws. Contains ws k) s (Comes from (Insert o n hops f copies b)) q c tt tt)
still_waits s (Comes from (Fetch o n hops f)) q k c = inl (unread (λ ws. Contains ws k) s (Comes from (Fetch o n hops f)) q c tt tt)
still_waits s (Comes from (Handover f b)) q k c = inl (unread (λ ws. Contains ws k) s (Comes from (Handover f b)) q c tt tt)
still_waits s (Comes from (Replicate o n f b)) q k c = inl (unread (λ ws. Contains ws k) s (Comes from (Replicate o n f b)) q c tt tt)
still_waits s (Comes from (ReplicaAck o n f)) q k c = inl (unread (λ ws. Contains ws k) s (Comes from (ReplicaAck o n f)) q c tt tt)
still_waits s (Comes from (Reclaim o n hops f)) q k c = inl (unread (λ ws. Contains ws k) s (Comes from (Reclaim o n hops f)) q c tt tt)
still_waits s (Comes from m) q k c = absurd q
still_waits s (Command n (command.Join via)) q k c = absurd q
still_waits s (Command n command.GiveUp) q k c = absurd q
still_waits s (Command n d) q k c =
    inl (unread (λ ws. Contains ws k) s (Command n d) q c (Contains-append_left s.waiting (n ∷ []) k c) tt)
still_waits s Noise q k c = absurd q

-- a request that is given waits
given_waits : (s : State) (n : Number) (c : NodeCommand) → IsRequest c → Contains (step s (Command n c)).state.waiting n
given_waits s n (command.Lookup key) q =
    unread (λ ws. Contains ws n) (waits_for s n) (Comes s.me (Lookup s.me n key 0)) tt (Contains-push s.waiting n) tt tt
given_waits s n (command.Insert f copies b) q =
    unread (λ ws. Contains ws n) (waits_for s n) (Comes s.me (Insert s.me n 0 f copies b)) tt (Contains-push s.waiting n) tt tt
given_waits s n (command.Fetch f) q =
    unread (λ ws. Contains ws n) (waits_for s n) (Comes s.me (Fetch s.me n 0 f)) tt (Contains-push s.waiting n) tt tt
given_waits s n (command.Reclaim f) q =
    unread (λ ws. Contains ws n) (waits_for s n) (Comes s.me (Reclaim s.me n 0 f)) tt (Contains-push s.waiting n) tt tt
given_waits s n (command.Join via) q = absurd q
given_waits s n command.GiveUp q = absurd q

-- ---- what is given

join_ends : (s : State) (n : Number) (via : Id) (p : Phase) → Ends n (join_in s n via p)
join_ends s n via (Waiting a) = cond_both (a == LAST_ATTEMPT) _ _ (Ends n) (λ _. inr (inl refl)) (λ _. inl (inl refl))
join_ends s n via (Asking a m) = inr (inl refl)
join_ends s n via (Probing a m probed) = inr (inl refl)
join_ends s n via (Leasing a m l r fl fr) = inr (inl refl)
join_ends s n via (Ready a l r) = inr (inl refl)

give_up_ends : (s : State) (n : Number) (p : Phase) → Ends n (give_up_in s n p)
give_up_ends s n (Waiting a) = inr (inl refl)
give_up_ends s n (Asking a m) = inr (inr (inl refl))
give_up_ends s n (Probing a m probed) = inr (inr (inl refl))
give_up_ends s n (Leasing a m l r fl fr) = inr (inr (inl refl))
give_up_ends s n (Ready a l r) = inr (inl refl)

given_ends : (s : State) (n : Number) (c : NodeCommand) → Ends n (step s (Command n c))
given_ends s n (command.Join via) = join_ends s n via s.phase
given_ends s n command.GiveUp = give_up_ends s n s.phase
given_ends s n (command.Lookup key) = inl (inr (given_waits s n (command.Lookup key) tt))
given_ends s n (command.Insert f copies b) = inl (inr (given_waits s n (command.Insert f copies b) tt))
given_ends s n (command.Fetch f) = inl (inr (given_waits s n (command.Fetch f) tt))
given_ends s n (command.Reclaim f) = inl (inr (given_waits s n (command.Reclaim f) tt))

-- ---- what is open

-- the number of the phase that ends is closed
over : (s : State) (k : Number) (p : Phase) → s.phase ≡ p → IsJoinOf s.phase k → IsJoinOf p k
over s k p e j = subst (λ q. IsJoinOf q k) e j

seat_ends : (s : State) (i : Input) (o : Outcome) → Seat s i o → o ≡ step s i → (k : Number) → IsOpen s k → Ends k o
seat_ends _ _ _ (rule.serves s i o e f g q) is k (inl j) = inl (inl (subst (λ p. IsJoinOf p k) (sym e.phase) j))
seat_ends _ _ _ (rule.serves s i o e f g q) is k (inr c) =
    subst (Ends k) (sym is) (elim (still_waits s i q k c) [ inl w ↦ inl (inr w) | inr closed ↦ inr closed ])
seat_ends _ _ _ (rule.begins s n via b e f) is k (inl j) = absurd (over s k (Waiting b) e j)
seat_ends _ _ _ (rule.stops_asking s n b m e) is k (inl j) = inr (inl (over s k (Asking b m) e j))
seat_ends _ _ _ (rule.stops_probing s n b m probed e) is k (inl j) = inr (inl (over s k (Probing b m probed) e j))
seat_ends _ _ _ (rule.stops_leasing s n b m l r fl fr e) is k (inl j) = inr (inl (over s k (Leasing b m l r fl fr) e j))
seat_ends _ _ _ (rule.refused s from b m w e) is k (inl j) = inr (inl (over s k (Asking b m) e j))
seat_ends _ _ _ (rule.probes s from b m heard known y ys e f g) is k (inl j) = inl (inl (over s k (Asking b m) e j))
seat_ends _ _ _ (rule.probes_on s from b m heard known old probed new e f g h) is k (inl j) = inl (inl (over s k (Probing b m old) e j))
seat_ends _ _ _ (rule.leases s from b m heard known old e f) is k (inl j) = inl (inl (over s k (Probing b m old) e j))
seat_ends _ _ _ (rule.denied s from b m l r fl fr w e) is k (inl j) = inr (inl (over s k (Leasing b m l r fl fr) e j))
seat_ends _ _ _ (rule.grant_kept s from b m l r fl fr manifest tombs e w) is k (inl j) = inl (inl (over s k (Leasing b m l r fl fr) e j))
seat_ends _ _ _ (rule.grant_readies s t from b m l r fl fr left right manifest tombs e f g h i) is k (inl j) =
    inr (inl (over s k (Leasing b m l r fl fr) e j))
seat_ends _ _ _ (rule.grant_readies s t from b m l r fl fr left right manifest tombs e f g h i) is k (inr c) =
    inl (inr (subst (λ ws. Contains ws k) (sym (ap (λ (u : State). u.waiting) f)) c))
seat_ends _ _ _ (rule.file_readies s from b m l r left right file bytes e f g h) is k (inl j) =
    inr (inl (over s k (Leasing b m l r (Some left) (Some right)) e j))
seat_ends _ _ _ (rule.confirms s from b c x y e f) is k (inl j) = absurd (over s k (Ready c x y) e j)
seat_ends s _ _ m is k (inl j) = inl (inl j)
seat_ends s _ _ m is k (inr c) = inl (inr c)

-- ---- one step keeps it

pub record EndsHold (w : World) : Type 0 where
  pub ends : (x : Id) (n : Number) (c : NodeCommand) → WasCommanded w x n c → IsOpen (w.states x) n ⊎ Has (Closes n) (notes_in w.past)

notes_after : (past : List Entry) (e : Entry) → notes_in (past ++ e ∷ []) ≡ notes_in past ++ e.notes
notes_after past e = flat_map-append (λ (d : Entry). d.notes) past (e ∷ []) ∙ ap (λ ns. notes_in past ++ ns) (append-nil e.notes)

-- the node and the input of an entry that is a command
pub commanded_is : (w : World) (v : Event) (x : Id) (i : Input) → Arrives w v x i → (y : Id) (n : Number) (c : NodeCommand) → v ≡ event.Command y n c →
    (y ≡ x) × (i ≡ Command n c)
commanded_is w _ _ _ (commanded x m b f) y n c e = same x y m n b c e where
  same : (x y : Id) (m n : Number) (b c : NodeCommand) → event.Command x m b ≡ event.Command y n c → (y ≡ x) × (Command m b ≡ Command n c)
  same x y m n b c e = (cc, cc)
commanded_is w _ _ _ (delivered m v f) y n c e = cc
commanded_is w _ _ _ (noised x) y n c e = cc

pub ends_keep : (g : Setting) (w : World) (e : Entry) (x : Id) (i : Input) → Takes g w e x i → EndsHold w → EndsHold (after_step w e x i)
ends_keep g w e x i t k = record {
  ends = λ y n c d. elim (Contains-push_cases w.past e d.0 d.1) [
    | inl old ↦ elim (k.ends y n c (d.0, old, d.2)) [ inl is_open ↦ opened y n is_open | inr closed ↦ inr (before n closed) ]
    | inr new ↦ let this = commanded_is w e.event x i t.arrives y n c (ap (λ (f : Entry). f.event) new ∙ d.2) in
        subst (λ z. IsOpen ((after_step w e x i).states z) n ⊎ Has (Closes n) (notes_in (w.past ++ e ∷ []))) (sym this.0)
        (at_x n (subst (λ j. Ends n (step (w.states x) j)) (sym this.1) (given_ends (w.states x) n c)))
  ];
} where
  before : (n : Number) → Has (Closes n) (notes_in w.past) → Has (Closes n) (notes_in (w.past ++ e ∷ []))
  before n h = subst (Has (Closes n)) (sym (notes_after w.past e)) (Has-left (Closes n) (notes_in w.past) e.notes h)

  at_x : (n : Number) → Ends n (step (w.states x) i) → IsOpen ((after_step w e x i).states x) n ⊎ Has (Closes n) (notes_in (w.past ++ e ∷ []))
  at_x n (inl h) = inl (subst (λ s. IsOpen s n) (sym (state_at-itself w.states x (step (w.states x) i).state)) h)
  at_x n (inr h) = inr (subst (Has (Closes n)) (sym (notes_after w.past e))
      (Has-right (Closes n) (notes_in w.past) e.notes (subst (Has (Closes n)) (sym t.notes) h)))

  opened : (y : Id) (n : Number) → IsOpen (w.states y) n → IsOpen ((after_step w e x i).states y) n ⊎ Has (Closes n) (notes_in (w.past ++ e ∷ []))
  opened y n h = elim (cases_eq y x) [
    | inl same ↦ subst (λ z. IsOpen ((after_step w e x i).states z) n ⊎ Has (Closes n) (notes_in (w.past ++ e ∷ []))) (sym same)
        (at_x n (seat_ends (w.states x) i _ (step_seat (w.states x) i) refl n (subst (λ z. IsOpen (w.states z) n) same h)))
    | inr ne ↦ inl (subst (λ s. IsOpen s n) (sym (state_at-other w.states x (step (w.states x) i).state y ne)) h)
  ]

pub ends_at_start : (g : Setting) → EndsHold (world_at_start g)
ends_at_start g = record { ends = λ x n c d. absurd (nobody_commanded g x n c d) }

-- a note that closes is a note Closed
pub closed_by : (es : List Entry) (n : Number) → Has (Closes n) (notes_in es) → IsClosed es n
closed_by es n h = let f = found (Closes n) (notes_in es) h in by f.item f.is f.inside where
  by : (m : Note) → Closes n m → Contains (notes_in es) m → IsClosed es n
  by (note.Closed k a) c inside = (a, subst (λ z. Contains (notes_in es) (note.Closed z a)) c inside)
  by (note.Delivered o k key hops) c inside = absurd c
  by (note.Answered o k r) c inside = absurd c
  by (note.Accepted f b) c inside = absurd c
  by (note.Reclaimed f) c inside = absurd c

-- ---- which numbers wait

-- what waits afterwards waited, or is asked for
WaitsFrom : State → Input → List Number → Type 0
WaitsFrom s i ws = (k : Number) → Contains ws k → Contains s.waiting k ⊎ IsAsked i k

asks : (s : State) (n : Number) (c : NodeCommand) → IsRequest c → WaitsFrom s (Command n c) (s.waiting ++ n ∷ [])
unfolding WaitsFrom
asks s n c r k h = elim (Contains-push_cases s.waiting n k h) [ inl w ↦ inl w | inr e ↦ inr (e, r) ]

-- those of before, but for the one that is replied
but_one : (s : State) (i : Input) (n : Number) → WaitsFrom s i (filter (λ m. not (m == n)) s.waiting)
unfolding WaitsFrom
but_one s i n k c = inl (Contains-from_filter (λ m. not (m == n)) s.waiting k c).0

from_those : (s : State) (i : Input) → IsServiceInput i → InputWaits (WaitsFrom s i) s.waiting i → InputReplies (λ m r. Unit {0}) i →
    WaitsFrom s i (step s i).state.waiting
unfolding WaitsFrom
from_those s i q f r = unread (WaitsFrom s i) s i q (λ k c. inl c) f r

waits_of : (s : State) (i : Input) → IsServiceInput i → WaitsFrom s i (step s i).state.waiting
waits_of s (Comes from (LookupReply n r)) q = from_those s (Comes from (LookupReply n r)) q (but_one s (Comes from (LookupReply n r)) n) tt
waits_of s (Comes from (InsertReply n r)) q = from_those s (Comes from (InsertReply n r)) q (but_one s (Comes from (InsertReply n r)) n) tt
waits_of s (Comes from (FetchReply n r)) q = from_those s (Comes from (FetchReply n r)) q (but_one s (Comes from (FetchReply n r)) n) tt
waits_of s (Comes from (ReclaimReply n r)) q = from_those s (Comes from (ReclaimReply n r)) q (but_one s (Comes from (ReclaimReply n r)) n) tt
waits_of s (Comes from (Lookup o n key hops)) q = from_those s (Comes from (Lookup o n key hops)) q tt tt
waits_of s (Comes from (Insert o n hops f copies b)) q = from_those s (Comes from (Insert o n hops f copies b)) q tt tt
waits_of s (Comes from (Fetch o n hops f)) q = from_those s (Comes from (Fetch o n hops f)) q tt tt
waits_of s (Comes from (Handover f b)) q = from_those s (Comes from (Handover f b)) q tt tt
waits_of s (Comes from (Replicate o n f b)) q = from_those s (Comes from (Replicate o n f b)) q tt tt
waits_of s (Comes from (ReplicaAck o n f)) q = from_those s (Comes from (ReplicaAck o n f)) q tt tt
waits_of s (Comes from (Reclaim o n hops f)) q = from_those s (Comes from (Reclaim o n hops f)) q tt tt
waits_of s (Comes from m) q = absurd q
waits_of s (Command n (command.Join via)) q = absurd q
waits_of s (Command n command.GiveUp) q = absurd q
waits_of s (Command n (command.Lookup key)) q = from_those s (Command n (command.Lookup key)) q (asks s n (command.Lookup key) tt) tt
waits_of s (Command n (command.Insert f copies b)) q = from_those s (Command n (command.Insert f copies b)) q (asks s n (command.Insert f copies b) tt) tt
waits_of s (Command n (command.Fetch f)) q = from_those s (Command n (command.Fetch f)) q (asks s n (command.Fetch f) tt) tt
waits_of s (Command n (command.Reclaim f)) q = from_those s (Command n (command.Reclaim f)) q (asks s n (command.Reclaim f) tt) tt
waits_of s Noise q = absurd q

pub seat_waits : (s : State) (i : Input) (o : Outcome) → Seat s i o → o ≡ step s i → (k : Number) → Contains o.state.waiting k →
    Contains s.waiting k ⊎ IsAsked i k
unfolding WaitsFrom
seat_waits _ _ _ (rule.serves s i o e f g q) is k c = waits_of s i q k (subst (λ (z : Outcome). Contains z.state.waiting k) is c)
seat_waits _ _ _ (rule.grant_readies s t from b m l r fl fr left right manifest tombs e f g h i) is k c =
    inl (subst (λ ws. Contains ws k) (ap (λ (u : State). u.waiting) f) c)
seat_waits s _ _ m is k c = inl c

-- ---- a reply that came waits no more

no_more : (s : State) (n : Number) (r : Reply) → Contains (on_reply s n r).state.waiting n → ⊥
no_more s n r = cond_both (is_in s.waiting n) _ _ (λ (o : Outcome). Contains o.state.waiting n → ⊥) (λ e c. taken_away s.waiting n c)
    (λ e c. let passes = Contains-passes s.waiting n c in cc)

pub reply_waits_no_more : (s : State) (from : Id) (m : Message) (n : Number) → Replies n m → Contains (step s (Comes from m)).state.waiting n → ⊥
reply_waits_no_more s from (LookupReply k r) n e c = no_more s n r (subst (λ z. Contains (on_reply s z r).state.waiting n) e c)
reply_waits_no_more s from (InsertReply k r) n e c = no_more s n r (subst (λ z. Contains (on_reply s z r).state.waiting n) e c)
reply_waits_no_more s from (FetchReply k r) n e c = no_more s n r (subst (λ z. Contains (on_reply s z r).state.waiting n) e c)
reply_waits_no_more s from (ReclaimReply k r) n e c = no_more s n r (subst (λ z. Contains (on_reply s z r).state.waiting n) e c)
reply_waits_no_more s from _ n e c = absurd e
