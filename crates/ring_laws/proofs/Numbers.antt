-- How many times one step closes a command: at most once, and only one that was open or is given by it; what it closes is open no more.
-- A command is open at its node while its number is that of the phase or waits for a reply.
use Rattle.std.proofs.Common.{◌≡◌, ◌⊎◌, inl, inr, ◌<◌, ◌≤◌, ℕ, ◌+◌, Bool, true, false, not, ◌==◌, cond, Some, List, [], ◌∷◌, ◌++◌, filter, count_by, Contains}
use Rattle.std.proofs.Common.{refl, sym, subst, ap, ◌∙◌, arith}
use Rattle.std.proofs.lemmas.Bool.{cases_Bool, cond_both, cond-true, cond-false}
use Rattle.std.proofs.lemmas.Bool.Decides.{Decides-eqb}
use Rattle.std.proofs.lemmas.List.Sums.{sum_by-cons, sum_by-append}
use Rattle.std.proofs.lemmas.List.Elements.{Contains-push_cases}
use Rattle.ring_math.specs.Names.{Number}
use Rattle.ring_math.specs.Sides.{is_in}
use Rattle.ring_math.proofs.Membership.{Contains-is_in, Contains-from_filter}
use Rattle.wire_msg.specs.declared.command.Command.{Command as NodeCommand}
use Rattle.wire_msg.specs.declared.command.Command.TheVariants as command
use Rattle.wire_msg.specs.declared.note.Note.{Note}
use Rattle.wire_msg.specs.declared.note.Note.TheVariants as note
use Rattle.wire_msg.specs.declared.reply.Answer.{Answer}
use Rattle.wire_msg.specs.declared.reply.Answer.TheVariants as answer
use Rattle.wire_msg.specs.declared.reply.Reply.{Reply}
use Rattle.wire_msg.specs.declared.reply.Reply.TheVariants as reply
use Rattle.wire_msg.specs.Words.{Lookup, LookupReply, Insert, InsertReply, Fetch, FetchReply, JoinRequest, JoinReply, JoinRefuse, Probe, ProbeReply}
use Rattle.wire_msg.specs.Words.{LeaseRequest, Grant, Deny, Handover, Release, Confirm, Announce, Replicate, ReplicaAck, Reclaim, ReclaimReply}
use Rattle.overlay_rules.specs.declared.request.Pending.{Pending}
use Rattle.overlay_rules.specs.State.{State, Phase, Asking, Probing, Leasing}
use Rattle.overlay_rules.specs.Outcome.{Outcome, Input, Command, Comes, Noise, Sent, nothing, becomes}
use Rattle.overlay_rules.specs.Roots.{replied_each}
use Rattle.overlay_rules.specs.Replicas.{on_reply}
use Rattle.overlay_rules.specs.Gates.{asked_for}
use Rattle.overlay_rules.specs.Gatekeeper.{cleared, is_left_to, gated_reach}
use Rattle.overlay_rules.specs.Step.{step}
use Rattle.overlay_rules.specs.Rightly.{is_closing_of}
use Rattle.overlay_rules.proofs.Each.{Each, Each-both}
use Rattle.overlay_rules.proofs.Seat.{Seat, SameSeat, IsServiceInput, IsServiceNote, IsReply}
use Rattle.overlay_rules.proofs.Seat as rule
use Rattle.ring_laws.proofs.Closings.{IsJoinOf, AnswerReplies, NoteReplies, AllReply, InputReplies, InputWaits, service_replies}

abbrev pub closings : Number → List Note → ℕ
closings k notes = count_by (is_closing_of k) notes

pub closings-append : (k : Number) (xs ys : List Note) → closings k (xs ++ ys) ≡ closings k xs + closings k ys
closings-append k xs ys = sum_by-append (λ n. cond (is_closing_of k n) 1 0) xs ys

closings-cons : (k : Number) (x : Note) (xs : List Note) → closings k (x ∷ xs) ≡ cond (is_closing_of k x) 1 0 + closings k xs
closings-cons k x xs = sum_by-cons (λ n. cond (is_closing_of k n) 1 0) x xs

-- the command of an input, and of those the ones that wait for a reply
abbrev pub IsGiven : Input → Number → Type 0
IsGiven (Command n c) k = n ≡ k
IsGiven (Comes from m) k = ⊥
IsGiven Noise k = ⊥

abbrev pub IsRequest : NodeCommand → Type 0
IsRequest (command.Lookup key) = Unit {0}
IsRequest (command.Insert file copies bytes) = Unit {0}
IsRequest (command.Fetch file) = Unit {0}
IsRequest (command.Reclaim file) = Unit {0}
IsRequest (command.Join via) = ⊥
IsRequest command.GiveUp = ⊥

abbrev pub IsAsked : Input → Number → Type 0
IsAsked (Command n c) k = (n ≡ k) × IsRequest c
IsAsked (Comes from m) k = ⊥
IsAsked Noise k = ⊥

pub asked_given : (i : Input) (k : Number) → IsAsked i k → IsGiven i k
asked_given (Command n c) k h = h.0
asked_given (Comes from m) k h = absurd h
asked_given Noise k h = absurd h

abbrev pub IsOpen : State → Number → Type 0
IsOpen s k = IsJoinOf s.phase k ⊎ Contains s.waiting k

-- no command of the input is open, and no number is both of the phase and waiting
pub record IsApart (s : State) (i : Input) : Type 0 where
  pub fresh : (k : Number) → IsGiven i k → IsOpen s k → ⊥
  pub apart : (k : Number) → IsJoinOf s.phase k → Contains s.waiting k → ⊥

pub record Counted (s : State) (i : Input) (o : Outcome) (k : Number) : Type 0 where
  pub closes : closings k o.notes ≤ 1
  pub source : 0 < closings k o.notes → IsOpen s k ⊎ IsGiven i k
  pub shut : 0 < closings k o.notes → IsOpen o.state k → ⊥
  pub joins : IsJoinOf o.state.phase k → IsJoinOf s.phase k ⊎ IsGiven i k
  pub waits : Contains o.state.waiting k → Contains s.waiting k ⊎ IsAsked i k

-- ---- no closing

abbrev IsOther : Number → Note → Type 0
IsOther k n = is_closing_of k n ≡ false

none_closed : (k : Number) (notes : List Note) → Each (IsOther k) notes → closings k notes ≡ 0
none_closed k [] h = refl
none_closed k (x ∷ xs) h = closings-cons k x xs
    ∙ (ap (λ z. z + closings k xs) (cond-false {A = ℕ} (is_closing_of k x) 1 0 h.0) ∙ ap (λ z. 0 + z) (none_closed k xs h.1))

quietly : (s : State) (i : Input) (o : Outcome) (k : Number) → Each (IsOther k) o.notes → (IsJoinOf o.state.phase k → IsJoinOf s.phase k ⊎ IsGiven i k) →
    (Contains o.state.waiting k → Contains s.waiting k ⊎ IsAsked i k) → Counted s i o k
quietly s i o k h f g =
    let zero = none_closed k o.notes h in
    record { closes = omega arith; source = λ lt. absurd (omega arith); shut = λ lt. absurd (omega arith); joins = f; waits = g }

-- ---- one closing

one_closed : (k n : Number) (a : Answer) → ((n ≡ k) × (closings k (note.Closed n a ∷ []) ≡ 1)) ⊎ (closings k (note.Closed n a ∷ []) ≡ 0)
one_closed k n a =
    elim (cases_Bool (n == k)) [
      | inl e ↦ inl ((Decides-eqb n k).0 e, closings-cons k (note.Closed n a) [] ∙ ap (λ z. z + 0) (cond-true (n == k) 1 0 e))
      | inr e ↦ inr (closings-cons k (note.Closed n a) [] ∙ ap (λ z. z + 0) (cond-false (n == k) 1 0 e))
    ]

once : (s : State) (i : Input) (t : State) (sends : List Sent) (n : Number) (a : Answer) (k : Number) → IsOpen s n ⊎ IsGiven i n → (IsOpen t n → ⊥) →
    (IsJoinOf t.phase k → IsJoinOf s.phase k ⊎ IsGiven i k) →
    (Contains t.waiting k → Contains s.waiting k ⊎ IsAsked i k) → Counted s i (becomes t sends (note.Closed n a ∷ [])) k
once s i t sends n a k from shut f g =
    elim (one_closed k n a) [
      | inl (e, c) ↦ record {
        closes = omega arith;
        source = λ lt. subst (λ z. IsOpen s z ⊎ IsGiven i z) e from;
        shut = λ lt. subst (λ z. IsOpen t z → ⊥) e shut;
        joins = f;
        waits = g;
      }
      | inr c ↦ record { closes = omega arith; source = λ lt. absurd (omega arith); shut = λ lt. absurd (omega arith); joins = f; waits = g }
    ]

-- ---- two closings: a join is given up by a command

two_closed : (k m n : Number) (a b : Answer) →
    closings k (note.Closed m a ∷ (note.Closed n b ∷ [])) ≡ closings k (note.Closed m a ∷ []) + closings k (note.Closed n b ∷ [])
two_closed k m n a b = closings-append k (note.Closed m a ∷ []) (note.Closed n b ∷ [])

twice : (s : State) (t : State) (sends : List Sent) (m n : Number) (a b : Answer) (k : Number) → IsApart s (Command n command.GiveUp) → IsJoinOf s.phase m →
    (IsJoinOf t.phase k → ⊥) → t.waiting ≡ s.waiting →
    Counted s (Command n command.GiveUp) (becomes t sends (note.Closed m a ∷ (note.Closed n b ∷ []))) k
twice s t sends m n a b k p join idle same = record {
  closes = elim (one_closed k m a) [
    | inl (e, c) ↦ elim (one_closed k n b) [
      | inl (f, d) ↦ absurd (p.fresh k f (inl (subst (IsJoinOf s.phase) e join)))
      | inr d ↦ omega arith
    ]
    | inr c ↦ elim (one_closed k n b) [ inl (f, d) ↦ omega arith | inr d ↦ omega arith ]
  ];
  source = λ lt. source lt;
  shut = λ lt still. elim still [
    | inl j ↦ idle j
    | inr w ↦ let waiting : Contains s.waiting k = subst (λ ws. Contains ws k) same w in
        elim (source lt) [
          | inl (inl j) ↦ p.apart k j waiting
          | inl (inr v) ↦ elim (one_closed k m a) [
            | inl (e, c) ↦ p.apart k (subst (IsJoinOf s.phase) e join) waiting
            | inr c ↦ elim (one_closed k n b) [ inl (f, d) ↦ p.fresh k f (inr waiting) | inr d ↦ absurd (omega arith) ]
          ]
          | inr f ↦ p.fresh k f (inr waiting)
        ]
  ];
  joins = λ j. absurd (idle j);
  waits = λ w. inl (subst (λ ws. Contains ws k) same w);
} where
  split : closings k (note.Closed m a ∷ (note.Closed n b ∷ [])) ≡ closings k (note.Closed m a ∷ []) + closings k (note.Closed n b ∷ [])
  split = two_closed k m n a b

  source : 0 < closings k (note.Closed m a ∷ (note.Closed n b ∷ [])) → IsOpen s k ⊎ (n ≡ k)
  source lt = elim (one_closed k m a) [
    | inl (e, c) ↦ inl (inl (subst (IsJoinOf s.phase) e join))
    | inr c ↦ elim (one_closed k n b) [ inl (f, d) ↦ inr f | inr d ↦ absurd (omega arith) ]
  ]

-- ---- rules

same_join : (s t : State) (i : Input) (k : Number) → t.phase ≡ s.phase → IsJoinOf t.phase k → IsJoinOf s.phase k ⊎ IsGiven i k
same_join s t i k e h = inl (subst (λ p. IsJoinOf p k) e h)

-- the phase before had the number that the phase has now
from_phase : (s : State) (p : Phase) (k : Number) → s.phase ≡ p → IsJoinOf p k → IsJoinOf s.phase k
from_phase s p k e h = subst (λ q. IsJoinOf q k) (sym e) h

-- the number of the phase is closed, and the phase has none afterwards
ended : (s : State) (i : Input) (n : Number) (p : Phase) (t : State) → IsApart s i → s.phase ≡ p → IsJoinOf p n → (IsJoinOf t.phase n → ⊥) →
    t.waiting ≡ s.waiting → IsOpen t n → ⊥
ended s i n p t a e j idle same (inl h) = idle h
ended s i n p t a e j idle same (inr c) = a.apart n (subst (λ q. IsJoinOf q n) (sym e) j) (subst (λ ws. Contains ws n) same c)

once_ended : (s : State) (i : Input) (t : State) (sends : List Sent) (n : Number) (a : Answer) (k : Number) (p : Phase) → IsApart s i → s.phase ≡ p →
    IsJoinOf p n → ((m : Number) → IsJoinOf t.phase m → ⊥) → t.waiting ≡ s.waiting →
    Counted s i (becomes t sends (note.Closed n a ∷ [])) k
once_ended s i t sends n a k p apart e j idle same =
    once s i t sends n a k (inl (inl (from_phase s p n e j))) (ended s i n p t apart e j (idle n) same) (λ z. absurd (idle k z))
    (λ c. inl (subst (λ ws. Contains ws k) same c))

reply_counted : (s : State) (i : Input) (n : Number) (r : Reply) (k : Number) → IsApart s i → Counted s i (on_reply s n r) k
reply_counted s i n r k a =
    cond_both (is_in s.waiting n) _ _ (λ (o : Outcome). Counted s i o k)
    (λ e. let c = Contains-is_in s.waiting n e in once s i _ [] n (answer.Reply r) k (inl (inr c))
    (λ still. elim still [
      | inl j ↦ a.apart n j c
      | inr w ↦
          let kept : not (n == n) ≡ true = (Contains-from_filter (λ m. not (m == n)) s.waiting n w).1 in
          let itself : n == n ≡ true = (Decides-eqb n n).1 refl in absurd (not_itself (n == n) itself kept)
    ])
    (λ j. inl j) (λ w. inl (Contains-from_filter (λ m. not (m == n)) s.waiting k w).0))
    (λ _. quietly s i (nothing s) k tt (λ j. inl j) (λ w. inl w)) where
      not_itself : (b : Bool) → b ≡ true → not b ≡ true → ⊥
      not_itself true e f = cc
      not_itself false e f = cc

-- a note of lookups and files that hands no reply on
no_answer : (k n : Number) (a : Answer) → AnswerReplies (λ m r. ⊥) n a → IsReply a → is_closing_of k (note.Closed n a) ≡ false
no_answer k n (answer.Reply r) h f = absurd h
no_answer k n (answer.Joined l r) h f = absurd f
no_answer k n (answer.Denied y w) h f = absurd f
no_answer k n (answer.Stopped y w) h f = absurd f
no_answer k n answer.GaveUp h f = absurd f
no_answer k n answer.NothingToGiveUp h f = absurd f

other_note : (k : Number) (n : Note) → NoteReplies (λ m r. ⊥) n → IsServiceNote n → IsOther k n
other_note k (note.Closed n a) h f = no_answer k n a h f
other_note k (note.Delivered o n key hops) h f = refl
other_note k (note.Answered o n r) h f = refl
other_note k (note.Accepted file bytes) h f = refl
other_note k (note.Reclaimed file) h f = refl

-- what waits afterwards waited, or is asked for
Waits : State → Input → List Number → Type 0
Waits s i ws = (k : Number) → Contains ws k → Contains s.waiting k ⊎ IsAsked i k

-- an input of lookups and files that is no reply
service_counted : (s : State) (i : Input) (o : Outcome) (k : Number) → SameSeat s o.state → Each IsServiceNote o.notes → o ≡ step s i → IsServiceInput i →
    InputWaits (Waits s i) s.waiting i →
    InputReplies (λ n r. ⊥) i → Counted s i o k
unfolding Waits
service_counted s i o k e f is q w h =
    let all : AllReply (λ n r. ⊥) (Waits s i) o =
    subst (AllReply (λ n r. ⊥) (Waits s i)) (sym is) (service_replies (λ n r. ⊥) (Waits s i) s i q (λ m c. inl c) w h) in
    quietly s i o k (Each-both (NoteReplies (λ n r. ⊥)) IsServiceNote (IsOther k) o.notes (λ n. other_note k n) all.each f) (same_join s o.state i k e.phase)
    (all.waiting k)

asks : (s : State) (n : Number) (c : NodeCommand) → IsRequest c → Waits s (Command n c) (s.waiting ++ n ∷ [])
unfolding Waits
asks s n c r k h = elim (Contains-push_cases s.waiting n k h) [ inl w ↦ inl w | inr e ↦ inr (e, r) ]

serves_counted : (s : State) (i : Input) (o : Outcome) (k : Number) → IsApart s i → SameSeat s o.state → Each IsServiceNote o.notes → o ≡ step s i →
    IsServiceInput i → Counted s i o k
serves_counted s (Command n (command.Lookup key)) o k a e f is q = service_counted s _ o k e f is q (asks s n _ tt) tt
serves_counted s (Command n (command.Insert file copies bytes)) o k a e f is q = service_counted s _ o k e f is q (asks s n _ tt) tt
serves_counted s (Command n (command.Fetch file)) o k a e f is q = service_counted s _ o k e f is q (asks s n _ tt) tt
serves_counted s (Command n (command.Reclaim file)) o k a e f is q = service_counted s _ o k e f is q (asks s n _ tt) tt
serves_counted s (Command n (command.Join via)) o k a e f is q = absurd q
serves_counted s (Command n command.GiveUp) o k a e f is q = absurd q
serves_counted s (Comes from (LookupReply n r)) o k a e f is q =
    subst (λ (z : Outcome). Counted s (Comes from (LookupReply n r)) z k) (sym is) (reply_counted s _ n r k a)
serves_counted s (Comes from (InsertReply n r)) o k a e f is q =
    subst (λ (z : Outcome). Counted s (Comes from (InsertReply n r)) z k) (sym is) (reply_counted s _ n r k a)
serves_counted s (Comes from (FetchReply n r)) o k a e f is q =
    subst (λ (z : Outcome). Counted s (Comes from (FetchReply n r)) z k) (sym is) (reply_counted s _ n r k a)
serves_counted s (Comes from (ReclaimReply n r)) o k a e f is q =
    subst (λ (z : Outcome). Counted s (Comes from (ReclaimReply n r)) z k) (sym is) (reply_counted s _ n r k a)
serves_counted s (Comes from (Lookup origin n key hops)) o k a e f is q = service_counted s _ o k e f is q tt tt
serves_counted s (Comes from (Insert origin n hops file copies bytes)) o k a e f is q = service_counted s _ o k e f is q tt tt
serves_counted s (Comes from (Fetch origin n hops file)) o k a e f is q = service_counted s _ o k e f is q tt tt
serves_counted s (Comes from (Handover file bytes)) o k a e f is q = service_counted s _ o k e f is q tt tt
serves_counted s (Comes from (Replicate origin n file bytes)) o k a e f is q = service_counted s _ o k e f is q tt tt
serves_counted s (Comes from (ReplicaAck origin n file)) o k a e f is q = service_counted s _ o k e f is q tt tt
serves_counted s (Comes from (Reclaim origin n hops file)) o k a e f is q = service_counted s _ o k e f is q tt tt
serves_counted s (Comes from (JoinRequest j b hops)) o k a e f is q = absurd q
serves_counted s (Comes from (JoinReply b heard)) o k a e f is q = absurd q
serves_counted s (Comes from (JoinRefuse b w)) o k a e f is q = absurd q
serves_counted s (Comes from (Probe b)) o k a e f is q = absurd q
serves_counted s (Comes from (ProbeReply b heard)) o k a e f is q = absurd q
serves_counted s (Comes from (LeaseRequest b l r)) o k a e f is q = absurd q
serves_counted s (Comes from (Grant b manifest tombs)) o k a e f is q = absurd q
serves_counted s (Comes from (Deny b w)) o k a e f is q = absurd q
serves_counted s (Comes from (Release b)) o k a e f is q = absurd q
serves_counted s (Comes from (Confirm b)) o k a e f is q = absurd q
serves_counted s (Comes from Announce) o k a e f is q = absurd q
serves_counted s Noise o k a e f is q = absurd q

each_other : (k : Number) (t : State) (r : Reply) (ps : List Pending) → Each (IsOther k) (replied_each t r ps).notes
each_other k t r [] = tt
each_other k t r (x ∷ xs) = (refl, each_other k t r xs)

-- the rule changes neither the phase's number nor what waits, and closes nothing
unchanged : (s : State) (i : Input) (o : Outcome) (k : Number) → o.state.phase ≡ s.phase → o.state.waiting ≡ s.waiting → Each (IsOther k) o.notes →
    Counted s i o k
unchanged s i o k e w h = quietly s i o k h (same_join s o.state i k e) (λ c. inl (subst (λ ws. Contains ws k) w c))

pub seat_counted : (s : State) (i : Input) (o : Outcome) → Seat s i o → o ≡ step s i → IsApart s i → (k : Number) → Counted s i o k
seat_counted _ _ _ (rule.serves s i o e f g q) is a k = serves_counted s i o k a e g.each is q
seat_counted _ _ _ (rule.begins s n via b e f) is a k = quietly s _ _ k tt (λ j. inr j) (λ w. inl w)
seat_counted _ _ _ (rule.not_begun s n via reason e) is a k = once s _ s [] n _ k (inr refl) (a.fresh n refl) (λ j. inl j) (λ w. inl w)
seat_counted _ _ _ (rule.stops_asking s n b m e) is a k = twice s _ [] m n _ _ k a (subst (λ p. IsJoinOf p m) (sym e) refl) (λ j. j) refl
seat_counted _ _ _ (rule.stops_probing s n b m probed e) is a k = twice s _ [] m n _ _ k a (subst (λ p. IsJoinOf p m) (sym e) refl) (λ j. j) refl
seat_counted _ _ _ (rule.stops_leasing s n b m l r fl fr e) is a k = twice s _ _ m n _ _ k a (subst (λ p. IsJoinOf p m) (sym e) refl) (λ j. j) refl
seat_counted _ _ _ (rule.idles s n e) is a k = once s _ s [] n _ k (inr refl) (a.fresh n refl) (λ j. inl j) (λ w. inl w)
seat_counted _ _ _ (rule.refused s from b m w e) is a k =
    once_ended s _ _ _ m _ k (Asking b m) a e refl (λ z j. j) refl
seat_counted _ _ _ (rule.probes s from b m heard known y ys e f g) is a k = quietly s _ _ k tt (λ j. inl (from_phase s (Asking b m) k e j)) (λ w. inl w)
seat_counted _ _ _ (rule.probes_on s from b m heard known old probed new e f g h) is a k =
    quietly s _ _ k tt (λ j. inl (from_phase s (Probing b m old) k e j)) (λ w. inl w)
seat_counted _ _ _ (rule.leases s from b m heard known old e f) is a k = quietly s _ _ k tt (λ j. inl (from_phase s (Probing b m old) k e j)) (λ w. inl w)
seat_counted _ _ _ (rule.denied s from b m l r fl fr w e) is a k =
    once_ended s _ _ _ m _ k (Leasing b m l r fl fr) a e refl (λ z j. j) refl
seat_counted _ _ _ (rule.grant_kept s from b m l r fl fr manifest tombs e w) is a k =
    quietly s _ _ k tt (λ j. inl (from_phase s (Leasing b m l r fl fr) k e j)) (λ c. inl c)
seat_counted _ _ _ (rule.grant_readies s t from b m l r fl fr left right manifest tombs e f g h i) is a k =
    once_ended s _ _ _ m _ k (Leasing b m l r fl fr) a e refl (λ z j. j) (ap (λ (u : State). u.waiting) f)
seat_counted _ _ _ (rule.file_readies s from b m l r left right file bytes e f g h) is a k =
    once_ended s _ _ _ m _ k (Leasing b m l r (Some left) (Some right)) a e refl (λ z j. j) refl
seat_counted _ _ _ (rule.lease_new s from b l r c x y e f g) is a k =
    unchanged s _ _ k refl refl (each_other k _ (reply.Busy s.me from)
    (filter (is_left_to (gated_reach (cleared s from b) x y (asked_for from b l r)) from) s.pending))
seat_counted _ _ _ (rule.confirms s from b c x y e f) is a k = quietly s _ _ k tt (λ j. absurd j) (λ w. inl w)
seat_counted s _ _ m is a k = unchanged s _ _ k refl refl tt
