-- What a joiner waits for: members of the ring, the answer of each leaf that it probes, and the lease of each neighbour.
-- A step that brings a need sends for it; who is asked answers or passes the question on; and the answer ends the need.
use Rattle.std.proofs.Common.{◌≡◌, ◌≢◌, ◌⊎◌, inl, inr, Bool, true, false, not, ◌&&◌, ◌||◌, ◌==◌, Option, Some, None, is_none, List, [], ◌∷◌, ◌++◌}
use Rattle.std.proofs.Common.{map, filter, refl, sym, subst, ap, ◌∙◌}
use Rattle.std.specs.List.{list_all, list_any}
use Rattle.std.proofs.lemmas.Bool.{cases_Bool, cond_both, and_from, or_left, or_right, not_from_true}
use Rattle.std.proofs.lemmas.Bool.Decides.{Decides-eqb}
use Rattle.ring_math.specs.Names.{Id, Attempt, Number, Hops}
use Rattle.ring_math.specs.Sides.{leaves, right_side, left_side, first_or, learn, learn_all, is_in}
use Rattle.coverage.specs.GapFiles.{Lists}
use Rattle.wire_msg.specs.declared.reply.Why.{Why}
use Rattle.wire_msg.specs.declared.reply.Why.TheVariants as why
use Rattle.wire_msg.specs.Words.{Message, JoinRequest, JoinReply, JoinRefuse, Probe, ProbeReply, LeaseRequest, Grant, Deny}
use Rattle.overlay_rules.specs.declared.gate.Verdict.{Verdict}
use Rattle.overlay_rules.specs.declared.gate.Verdict.TheVariants as verdict
use Rattle.overlay_rules.specs.declared.request.Way.{Way}
use Rattle.overlay_rules.specs.declared.request.Way.TheVariants as way
use Rattle.overlay_rules.specs.State.{State, Phase, Waiting, Asking, Probing, Leasing, Ready, is_ready}
use Rattle.overlay_rules.specs.Outcome.{Outcome, Input, Comes, Sent, to_both, to_each}
use Rattle.overlay_rules.specs.Routed.{way_of, join_request_by}
use Rattle.overlay_rules.specs.Joining.{unanswered, is_unanswered, answered_by, was_probed, first_left, first_right, kept_first, with_grant, probing}
use Rattle.overlay_rules.specs.Joining.{join_reply_in}
use Rattle.overlay_rules.specs.Joining.{refuse_in, probe_reply_in, probed_on, grant_in, deny_in}
use Rattle.overlay_rules.specs.ReadyTest.{ready_test_in, has_all}
use Rattle.overlay_rules.specs.Gates.{asked_for, verdict as verdict_of}
use Rattle.overlay_rules.specs.Gatekeeper.{probe_in, lease_by, lease_in, links_of}
use Rattle.overlay_rules.specs.Step.{step}
use Rattle.overlay_rules.proofs.Each.{Each}
use Rattle.overlay_rules.proofs.Seat.{Seat}
use Rattle.overlay_rules.proofs.Seat as rule
use Rattle.step_facts.proofs.Learnt.{IsCons, IsCons-learn, IsCons-learn_all, first_right-known, unknown-learn_all}
use Rattle.quiet_laws.proofs.Has.{Has, Has-append, Has-weaker}
use Rattle.quiet_laws.proofs.Copies.{Is}

pub data Need : Type 0 where
  Members : (attempt : Attempt) → Need
  AnswerOf : (attempt : Attempt) (leaf : Id) → Need
  LeaseOf : (attempt : Attempt) (left right neighbour : Id) → Need

-- the leaf was probed and has not answered
abbrev pub IsUnanswered : Id → Id × Bool → Type 0
IsUnanswered z p = (p.0 ≡ z) × (p.1 ≡ false)

abbrev pub NeedsMembers : Attempt → Phase → Type 0
NeedsMembers a (Asking b n) = b ≡ a
NeedsMembers a (Waiting b) = ⊥
NeedsMembers a (Probing b n probed) = ⊥
NeedsMembers a (Leasing b n l r from_left from_right) = ⊥
NeedsMembers a (Ready b l r) = ⊥

abbrev pub NeedsAnswer : Attempt → Id → Phase → Type 0
NeedsAnswer a z (Probing b n probed) = (b ≡ a) × Has (IsUnanswered z) probed
NeedsAnswer a z (Waiting b) = ⊥
NeedsAnswer a z (Asking b n) = ⊥
NeedsAnswer a z (Leasing b n l r from_left from_right) = ⊥
NeedsAnswer a z (Ready b l r) = ⊥

abbrev pub NeedsLease : Attempt → Id → Id → Id → Phase → Type 0
NeedsLease a l r z (Leasing b n x y from_left from_right) =
    (b ≡ a) × (x ≡ l) × (y ≡ r) × (((z ≡ l) × (from_left ≡ None)) ⊎ ((z ≡ r) × (from_right ≡ None)))
NeedsLease a l r z (Waiting b) = ⊥
NeedsLease a l r z (Asking b n) = ⊥
NeedsLease a l r z (Probing b n probed) = ⊥
NeedsLease a l r z (Ready b x y) = ⊥

abbrev pub Needs : Need → Phase → Type 0
Needs (Members a) p = NeedsMembers a p
Needs (AnswerOf a z) p = NeedsAnswer a z p
Needs (LeaseOf a l r z) p = NeedsLease a l r z p

-- what a node sends for its need
abbrev pub Asks : Id → Need → Sent → Type 0
Asks me (Members a) s = (hops : Hops) × (s.message ≡ JoinRequest me a hops)
Asks me (AnswerOf a z) s = (s.receiver ≡ z) × (s.message ≡ Probe a)
Asks me (LeaseOf a l r z) s = (s.receiver ≡ z) × (s.message ≡ LeaseRequest a l r)

-- ---- a step that brings a need sends for it

unanswered_sent : (z : Id) (m : Message) (ys : List Id) → Has (IsUnanswered z) (map unanswered ys) → Has (Is z m) (to_each ys m)
unanswered_sent z m [] h = absurd h
unanswered_sent z m (y ∷ ys) (inl is) = inl (is.0, refl)
unanswered_sent z m (y ∷ ys) (inr h) = inr (unanswered_sent z m ys h)

-- who has answered is not unanswered, and the others are as they were
was_unanswered : (z from : Id) (ps : List (Id × Bool)) → Has (IsUnanswered z) (map (answered_by from) ps) → Has (IsUnanswered z) ps × (z ≢ from)
was_unanswered z from [] h = absurd h
was_unanswered z from (p ∷ ps) (inr h) = let rest = was_unanswered z from ps h in (inr rest.0, rest.1)
was_unanswered z from (p ∷ ps) (inl is) = both is where
  both : IsUnanswered z (answered_by from p) → Has (IsUnanswered z) (p ∷ ps) × (z ≢ from)
  both = cond_both (p.0 == from) (from, true) p (λ q. IsUnanswered z q → Has (IsUnanswered z) (p ∷ ps) × (z ≢ from)) (λ e k. let no' = k.1 in cc)
      (λ e k. (inl k, λ same. let yes' : (p.0 == from) ≡ true = (Decides-eqb p.0 from).1 (k.0 ∙ same) in cc))

both_left : (l r : Id) (m : Message) → Has (Is l m) (to_both l r m)
both_left l r m = cond_both (l == r) _ _ (Has (Is l m)) (λ _. inl (refl, refl)) (λ _. inl (refl, refl))

both_right : (l r : Id) (m : Message) → Has (Is r m) (to_both l r m)
both_right l r m = cond_both (l == r) _ _ (Has (Is r m)) (λ e. inl ((Decides-eqb l r).0 e, refl)) (λ _. inr (inl (refl, refl)))

kept_none : (side : Bool) (o : Option Lists) (new : Lists) → kept_first side o new ≡ None → o ≡ None
kept_none side (Some old) new e = cc
kept_none side None new e = refl

members_asked : (s : State) (i : Input) (o : Outcome) → Seat s i o → (a : Attempt) → NeedsMembers a o.state.phase →
    NeedsMembers a s.phase ⊎ Has (Asks s.me (Members a)) o.sends
members_asked _ _ _ (rule.serves s i o e f g q) a h = inl (subst (NeedsMembers a) e.phase h)
members_asked _ _ _ (rule.begins s n via b e f) a h = inr (inl (0, ap (λ z. JoinRequest s.me z 0) h))
members_asked _ _ _ (rule.stops_asking s n b m e) a h = absurd h
members_asked _ _ _ (rule.stops_probing s n b m probed e) a h = absurd h
members_asked _ _ _ (rule.stops_leasing s n b m l r fl fr e) a h = absurd h
members_asked _ _ _ (rule.refused s from b m w e) a h = absurd h
members_asked _ _ _ (rule.probes s from b m heard known y ys e f g) a h = absurd h
members_asked _ _ _ (rule.probes_on s from b m heard known old probed new e f g k) a h = absurd h
members_asked _ _ _ (rule.leases s from b m heard known old e f) a h = absurd h
members_asked _ _ _ (rule.denied s from b m l r fl fr w e) a h = absurd h
members_asked _ _ _ (rule.grant_kept s from b m l r fl fr manifest tombs e w) a h = absurd h
members_asked _ _ _ (rule.grant_readies s t from b m l r fl fr left right manifest tombs e f g k i) a h = absurd h
members_asked _ _ _ (rule.file_readies s from b m l r left right file bytes e f g k) a h = absurd h
members_asked _ _ _ (rule.confirms s from b c x y e f) a h = absurd h
members_asked s _ _ m a h = inl h

answer_asked : (s : State) (i : Input) (o : Outcome) → Seat s i o → (a : Attempt) (z : Id) → NeedsAnswer a z o.state.phase →
    NeedsAnswer a z s.phase ⊎ Has (Asks s.me (AnswerOf a z)) o.sends
answer_asked _ _ _ (rule.serves s i o e f g q) a z h = inl (subst (NeedsAnswer a z) e.phase h)
answer_asked _ _ _ (rule.begins s n via b e f) a z h = absurd h
answer_asked _ _ _ (rule.stops_asking s n b m e) a z h = absurd h
answer_asked _ _ _ (rule.stops_probing s n b m probed e) a z h = absurd h
answer_asked _ _ _ (rule.stops_leasing s n b m l r fl fr e) a z h = absurd h
answer_asked _ _ _ (rule.refused s from b m w e) a z h = absurd h
answer_asked _ _ _ (rule.probes s from b m heard known y ys e f g) a z h =
    inr (Has-weaker (Is z (Probe b)) (Asks s.me (AnswerOf a z)) (to_each (y ∷ ys) (Probe b)) (λ t q. (q.0, q.1 ∙ ap Probe h.0))
    (unanswered_sent z (Probe b) (y ∷ ys) h.1))
answer_asked _ _ _ (rule.probes_on s from b m heard known old probed new e f g k) a z h =
    elim (Has-append (IsUnanswered z) probed (map unanswered new) h.1) [
      | inl was ↦ inl (subst (NeedsAnswer a z) (sym e) (h.0, (was_unanswered z from old (subst (Has (IsUnanswered z)) g was)).0))
      | inr now ↦ inr (Has-weaker (Is z (Probe b)) (Asks s.me (AnswerOf a z)) (to_each new (Probe b)) (λ t q. (q.0, q.1 ∙ ap Probe h.0))
          (unanswered_sent z (Probe b) new now))
    ]
answer_asked _ _ _ (rule.leases s from b m heard known old e f) a z h = absurd h
answer_asked _ _ _ (rule.denied s from b m l r fl fr w e) a z h = absurd h
answer_asked _ _ _ (rule.grant_kept s from b m l r fl fr manifest tombs e w) a z h = absurd h
answer_asked _ _ _ (rule.grant_readies s t from b m l r fl fr left right manifest tombs e f g k i) a z h = absurd h
answer_asked _ _ _ (rule.file_readies s from b m l r left right file bytes e f g k) a z h = absurd h
answer_asked _ _ _ (rule.confirms s from b c x y e f) a z h = absurd h
answer_asked s _ _ m a z h = inl h

lease_asked : (s : State) (i : Input) (o : Outcome) → Seat s i o → (a : Attempt) (l r z : Id) → NeedsLease a l r z o.state.phase →
    NeedsLease a l r z s.phase ⊎ Has (Asks s.me (LeaseOf a l r z)) o.sends
lease_asked _ _ _ (rule.serves s i o e f g q) a l r z h = inl (subst (NeedsLease a l r z) e.phase h)
lease_asked _ _ _ (rule.begins s n via b e f) a l r z h = absurd h
lease_asked _ _ _ (rule.stops_asking s n b m e) a l r z h = absurd h
lease_asked _ _ _ (rule.stops_probing s n b m probed e) a l r z h = absurd h
lease_asked _ _ _ (rule.stops_leasing s n b m x y fl fr e) a l r z h = absurd h
lease_asked _ _ _ (rule.refused s from b m w e) a l r z h = absurd h
lease_asked _ _ _ (rule.probes s from b m heard known y ys e f g) a l r z h = absurd h
lease_asked _ _ _ (rule.probes_on s from b m heard known old probed new e f g k) a l r z h = absurd h
lease_asked _ _ _ (rule.leases s from b m heard known old e f) a l r z h = inr (elim h.3 [
  | inl side ↦ Has-weaker (Is (first_left s known) asks) (Asks s.me (LeaseOf a l r z)) (to_both (first_left s known) (first_right s known) asks)
      (λ t q. (q.0 ∙ (h.1 ∙ sym side.0), q.1 ∙ (λ j. LeaseRequest (h.0 j) (h.1 j) (h.2 j)))) (both_left (first_left s known) (first_right s known) asks)
  | inr side ↦ Has-weaker (Is (first_right s known) asks) (Asks s.me (LeaseOf a l r z)) (to_both (first_left s known) (first_right s known) asks)
      (λ t q. (q.0 ∙ (h.2 ∙ sym side.0), q.1 ∙ (λ j. LeaseRequest (h.0 j) (h.1 j) (h.2 j)))) (both_right (first_left s known) (first_right s known) asks)
]) where
  asks : Message
  asks = LeaseRequest b (first_left s known) (first_right s known)
lease_asked _ _ _ (rule.denied s from b m x y fl fr w e) a l r z h = absurd h
lease_asked _ _ _ (rule.grant_kept s from b m x y fl fr manifest tombs e w) a l r z h =
    inl (subst (NeedsLease a l r z) (sym e) (
      h.0,
      h.1,
      h.2,
      elim h.3 [
        | inl side ↦ inl (side.0, kept_none (from == x) fl _ side.1)
        | inr side ↦ inr (side.0, kept_none (from == y) fr _ side.1)
      ],
    ))
lease_asked _ _ _ (rule.grant_readies s t from b m x y fl fr left right manifest tombs e f g k i) a l r z h = absurd h
lease_asked _ _ _ (rule.file_readies s from b m x y left right file bytes e f g k) a l r z h = absurd h
lease_asked _ _ _ (rule.confirms s from b c x y e f) a l r z h = absurd h
lease_asked s _ _ m a l r z h = inl h

pub need_asked : (s : State) (i : Input) (o : Outcome) → Seat s i o → (need : Need) → Needs need o.state.phase →
    Needs need s.phase ⊎ Has (Asks s.me need) o.sends
need_asked s i o seat (Members a) h = members_asked s i o seat a h
need_asked s i o seat (AnswerOf a z) h = answer_asked s i o seat a z h
need_asked s i o seat (LeaseOf a l r z) h = lease_asked s i o seat a l r z h

-- ---- who is asked answers, or passes the question on

abbrev pub IsRequestOf : Id → Attempt → Sent → Type 0
IsRequestOf j a m = (hops : Hops) × (m.message ≡ JoinRequest j a hops)

-- the members, the answering node first; or a refusal
abbrev pub IsReplyOf : Id → Id → Attempt → Sent → Type 0
IsReplyOf me j a m =
    (m.receiver ≡ j) × (((rest : List Id) × (m.message ≡ JoinReply a (me ∷ rest))) ⊎ ((w : Why) × (m.message ≡ JoinRefuse a w)))

pub request_answered : (s : State) (from j : Id) (a : Attempt) (hops : Hops) →
    Has (IsRequestOf j a) (step s (Comes from (JoinRequest j a hops))).sends ⊎ Has (IsReplyOf s.me j a) (step s (Comes from (JoinRequest j a hops))).sends
request_answered s from j a hops = by (way_of s j) where
  by : (w : Way) → Has (IsRequestOf j a) (join_request_by s j a hops w).sends ⊎ Has (IsReplyOf s.me j a) (join_request_by s j a hops w).sends
  by way.NotReady = inr (inl (refl, inr (why.NotReady, refl)))
  by way.Here = inr (inl (refl, inl (leaves s.me s.known, refl)))
  by (way.Gap k) = cond_both (k == j) _ _ (λ (o : Outcome). Has (IsRequestOf j a) o.sends ⊎ Has (IsReplyOf s.me j a) o.sends)
      (λ _. inr (inl (refl, inl (leaves s.me s.known, refl)))) (λ _. inr (inl (refl, inr (why.Busy k, refl))))
  by (way.To y) = inl (inl (_, refl))

abbrev pub IsProbeReply : Id → Attempt → Sent → Type 0
IsProbeReply to a m = (m.receiver ≡ to) × ((heard : List Id) × (m.message ≡ ProbeReply a heard))

pub probe_answered : (s : State) (from : Id) (a : Attempt) → is_ready s.phase ≡ true → Has (IsProbeReply from a) (step s (Comes from (Probe a))).sends
probe_answered s from a ready = by s.phase ready where
  by : (p : Phase) → is_ready p ≡ true → Has (IsProbeReply from a) (probe_in s from a p).sends
  by (Ready b l r) e = inl (refl, (s.me ∷ leaves s.me s.known, refl))
  by (Waiting b) e = cc
  by (Asking b m) e = cc
  by (Probing b m probed) e = cc
  by (Leasing b m l r fl fr) e = cc

-- a lease or a denial
abbrev pub IsLeaseReply : Id → Attempt → Sent → Type 0
IsLeaseReply to a m =
    (m.receiver ≡ to) × (((lists : Lists) × (m.message ≡ Grant a lists.manifest lists.tombs)) ⊎ ((w : Why) × (m.message ≡ Deny a w)))

pub lease_answered : (s : State) (from : Id) (a : Attempt) (l r : Id) → is_ready s.phase ≡ true →
    Has (IsLeaseReply from a) (step s (Comes from (LeaseRequest a l r))).sends
lease_answered s from a l r ready = by s.phase ready where
  given : (x y : Id) (v : Verdict) → Has (IsLeaseReply from a) (lease_by s x y (asked_for from a l r) v).sends
  given x y verdict.Again = inl (refl, inl (_, refl))
  given x y (verdict.Busy j) = inl (refl, inr (why.Busy j, refl))
  given x y (verdict.Moved u w) = inl (refl, inr (why.Moved u w, refl))
  given x y verdict.Grant = inl (refl, inl (_, refl))

  by : (p : Phase) → is_ready p ≡ true → Has (IsLeaseReply from a) (lease_in s (asked_for from a l r) p).sends
  by (Ready b x y) e = given x y (verdict_of (links_of s x y) s.me (asked_for from a l r))
  by (Waiting b) e = cc
  by (Asking b m) e = cc
  by (Probing b m probed) e = cc
  by (Leasing b m x y fl fr) e = cc

-- ---- the answer ends the need

itself : (a b : Attempt) → b ≡ a → a == b ≡ false → ⊥
itself a b e f = let yes' : a == b ≡ true = (Decides-eqb a b).1 (sym e) in cc

-- who knows somebody has leaves
has_leaves : (me : Id) (known : List Id) → IsCons known → Each (λ z. z ≢ me) known → IsCons (leaves me known)
has_leaves me known some unknown = by (right_side me known) refl where
  by : (side : List Id) → right_side me known ≡ side → IsCons (leaves me known)
  by [] e = absurd (first_right-known (λ z. z ≢ me) me known some unknown (ap (first_or me) e))
  by (x ∷ xs) e = subst (λ side. IsCons (side ++ filter (λ y. not (is_in side y)) (left_side me known))) (sym e) tt

pub members_end : (s : State) (from : Id) (a : Attempt) (y : Id) (rest : List Id) → y ≢ s.me → Each (λ z. z ≢ s.me) s.known → NeedsMembers a s.phase →
    NeedsMembers a (step s (Comes from (JoinReply a (y ∷ rest)))).state.phase → ⊥
members_end s from a y rest ne unknown need = by s.phase need where
  known : List Id
  known = learn_all s.me s.known (y ∷ rest)

  some : IsCons (leaves s.me known)
  some = has_leaves s.me known (IsCons-learn_all s.me (learn s.me s.known y) rest (some_learnt s.known))
      (unknown-learn_all s.me s.known (y ∷ rest) unknown) where
        some_learnt : (ks : List Id) → IsCons (learn s.me ks y)
        some_learnt ks = elim (cases_Bool (y == s.me)) [
          | inl e ↦ absurd (ne ((Decides-eqb y s.me).0 e))
          | inr e ↦ learnt ks e
        ] where
          learnt : (ks : List Id) → y == s.me ≡ false → IsCons (learn s.me ks y)
          learnt [] e = rw e tt
          learnt (k ∷ ks) e = IsCons-learn s.me (k ∷ ks) y tt

  probes : (b : Attempt) (m : Number) (ys : List Id) → IsCons ys → NeedsMembers a (probing s b m known ys).state.phase → ⊥
  probes b m [] c h = c
  probes b m (z ∷ zs) c h = h

  by : (p : Phase) → NeedsMembers a p → NeedsMembers a (join_reply_in s a known p).state.phase → ⊥
  by (Asking b m) e = cond_both (a == b) _ _ (λ (o : Outcome). NeedsMembers a o.state.phase → ⊥) (λ _. probes b m (leaves s.me known) some)
      (λ f h. itself a b e f)
  by (Waiting b) e = absurd e
  by (Probing b m probed) e = absurd e
  by (Leasing b m l r fl fr) e = absurd e
  by (Ready b l r) e = absurd e

pub refusal_ends : (s : State) (from : Id) (a : Attempt) (w : Why) → NeedsMembers a s.phase →
    NeedsMembers a (step s (Comes from (JoinRefuse a w))).state.phase → ⊥
refusal_ends s from a w need = by s.phase need where
  by : (p : Phase) → NeedsMembers a p → NeedsMembers a (refuse_in s from a w p).state.phase → ⊥
  by (Asking b m) e = cond_both (a == b) _ _ (λ (o : Outcome). NeedsMembers a o.state.phase → ⊥) (λ _ h. h) (λ f h. itself a b e f)
  by (Waiting b) e = absurd e
  by (Probing b m probed) e = absurd e
  by (Leasing b m l r fl fr) e = absurd e
  by (Ready b l r) e = absurd e

is_open : (z : Id) (ps : List (Id × Bool)) → Has (IsUnanswered z) ps → list_any (is_unanswered z) ps ≡ true
is_open z [] h = absurd h
is_open z (p ∷ ps) (inl is) = or_left (is_unanswered z p) (list_any (is_unanswered z) ps)
    (and_from (p.0 == z) (not p.1) ((Decides-eqb p.0 z).1 is.0) (ap not is.1))
is_open z (p ∷ ps) (inr h) = or_right (is_unanswered z p) (list_any (is_unanswered z) ps) (is_open z ps h)

is_probed : (z : Id) (ps : List (Id × Bool)) → Has (IsUnanswered z) ps → was_probed ps z ≡ true
is_probed z [] h = absurd h
is_probed z (p ∷ ps) (inl is) = or_left (p.0 == z) (was_probed ps z) ((Decides-eqb p.0 z).1 is.0)
is_probed z (p ∷ ps) (inr h) = or_right (p.0 == z) (was_probed ps z) (is_probed z ps h)

-- who was probed is not probed anew
not_new : (z : Id) (ps : List (Id × Bool)) → Has (IsUnanswered z) ps → (ys : List Id) →
    Has (IsUnanswered z) (map unanswered (filter (λ y. not (was_probed ps y)) ys)) → ⊥
not_new z ps h [] k = k
not_new z ps h (y ∷ ys) k =
    cond_both (not (was_probed ps y)) (y ∷ filter (λ u. not (was_probed ps u)) ys) (filter (λ u. not (was_probed ps u)) ys)
    (λ zs. Has (IsUnanswered z) (map unanswered zs) → ⊥)
    (λ e j. elim j [
      | inl is ↦ let there : was_probed ps y ≡ true = subst (λ u. was_probed ps u ≡ true) (sym is.0) (is_probed z ps h) in
          let no' = not_from_true (was_probed ps y) there in absurd (cc)
      | inr rest ↦ not_new z ps h ys rest
    ]) (λ e j. not_new z ps h ys j) k

pub probe_ends : (s : State) (z : Id) (a : Attempt) (heard : List Id) → NeedsAnswer a z s.phase →
    NeedsAnswer a z (step s (Comes z (ProbeReply a heard))).state.phase → ⊥
probe_ends s z a heard need = by s.phase need where
  known : List Id
  known = learn_all s.me s.known heard

  on : (b : Attempt) (m : Number) (probed : List (Id × Bool)) → Has (IsUnanswered z) probed →
      NeedsAnswer a z (probed_on s b m known (map (answered_by z) probed) (filter (λ y. not (was_probed probed y)) (leaves s.me known))).state.phase → ⊥
  on b m probed h =
      cond_both (list_all (λ p. p.1) (map (answered_by z) probed ++ map unanswered (filter (λ y. not (was_probed probed y)) (leaves s.me known)))) _ _
      (λ (o : Outcome). NeedsAnswer a z o.state.phase → ⊥) (λ _ k. k)
      (λ _ k. elim (Has-append (IsUnanswered z) (map (answered_by z) probed) _ k.1) [
        | inl old ↦ (was_unanswered z z probed old).1 refl
        | inr new ↦ not_new z probed h (leaves s.me known) new
      ])

  by : (p : Phase) → NeedsAnswer a z p → NeedsAnswer a z (probe_reply_in s z a known p).state.phase → ⊥
  by (Probing b m probed) e = cond_both ((a == b) && list_any (is_unanswered z) probed) _ _ (λ (o : Outcome). NeedsAnswer a z o.state.phase → ⊥)
      (λ _. on b m probed e.1)
      (λ f h. let yes' : ((a == b) && list_any (is_unanswered z) probed) ≡ true =
      and_from (a == b) (list_any (is_unanswered z) probed) ((Decides-eqb a b).1 (sym e.0)) (is_open z probed e.1) in absurd (cc))
  by (Waiting b) e = absurd e
  by (Asking b m) e = absurd e
  by (Leasing b m l r fl fr) e = absurd e
  by (Ready b l r) e = absurd e

kept_some : (side : Bool) (o : Option Lists) (new : Lists) → side ≡ true → kept_first side o new ≡ None → ⊥
kept_some true (Some old) new e f = cc
kept_some true None new e f = cc
kept_some false o new e f = cc

none_is : (o : Option Lists) → o ≡ None → is_none o ≡ true
none_is None e = refl
none_is (Some lists) e = cc

pub grant_ends : (s : State) (z : Id) (a : Attempt) (l r : Id) (lists : Lists) → NeedsLease a l r z s.phase →
    NeedsLease a l r z (step s (Comes z (Grant a lists.manifest lists.tombs))).state.phase → ⊥
grant_ends s z a l r lists need = by s.phase need where
  kept : (b : Attempt) (m : Number) (x y : Id) (fl fr : Option Lists) → x ≡ l → y ≡ r → (t : State) →
      t.phase ≡ Leasing b m x y (kept_first (z == x) fl lists) (kept_first (z == y) fr lists) → NeedsLease a l r z t.phase → ⊥
  kept b m x y fl fr at_x at_y t e h = let k = subst (NeedsLease a l r z) e h in elim k.3 [
    | inl side ↦ kept_some (z == x) fl lists ((Decides-eqb z x).1 (side.0 ∙ sym at_x)) side.1
    | inr side ↦ kept_some (z == y) fr lists ((Decides-eqb z y).1 (side.0 ∙ sym at_y)) side.1
  ]

  tested : (b : Attempt) (m : Number) (x y : Id) (fl fr : Option Lists) → x ≡ l → y ≡ r → (t : State) (gl gr : Option Lists) →
      t.phase ≡ Leasing b m x y (kept_first (z == x) fl lists) (kept_first (z == y) fr lists) →
      NeedsLease a l r z (ready_test_in t (Leasing b m x y gl gr)).state.phase → ⊥
  tested b m x y fl fr at_x at_y t (Some gl) (Some gr) e =
      cond_both (has_all t gl && has_all t gr) _ _ (λ (o : Outcome). NeedsLease a l r z o.state.phase → ⊥) (λ _ h. h)
      (λ _ h. kept b m x y fl fr at_x at_y t e h)
  tested b m x y fl fr at_x at_y t (Some gl) None e = kept b m x y fl fr at_x at_y t e
  tested b m x y fl fr at_x at_y t None gr e = kept b m x y fl fr at_x at_y t e

  by : (p : Phase) → NeedsLease a l r z p → NeedsLease a l r z (grant_in s z a lists p).state.phase → ⊥
  by (Leasing b m x y fl fr) e =
      cond_both (a == b) _ _ (λ (o : Outcome). NeedsLease a l r z o.state.phase → ⊥)
      (λ _. cond_both (((z == x) && is_none fl) || ((z == y) && is_none fr)) _ _ (λ (o : Outcome). NeedsLease a l r z o.state.phase → ⊥)
      (λ _. tested b m x y fl fr e.1 e.2 (with_grant s z lists (Leasing b m x y fl fr)) (kept_first (z == x) fl lists) (kept_first (z == y) fr lists) refl)
      (λ f h. let yes' : (((z == x) && is_none fl) || ((z == y) && is_none fr)) ≡ true = asked (e.3) in absurd (cc)))
      (λ f h. itself a b e.0 f) where
        asked : (((z ≡ l) × (fl ≡ None)) ⊎ ((z ≡ r) × (fr ≡ None))) → (((z == x) && is_none fl) || ((z == y) && is_none fr)) ≡ true
        asked (inl side) = or_left ((z == x) && is_none fl) ((z == y) && is_none fr)
            (and_from (z == x) (is_none fl) ((Decides-eqb z x).1 (side.0 ∙ sym e.1)) (none_is fl side.1))
        asked (inr side) = or_right ((z == x) && is_none fl) ((z == y) && is_none fr)
            (and_from (z == y) (is_none fr) ((Decides-eqb z y).1 (side.0 ∙ sym e.2)) (none_is fr side.1))
  by (Waiting b) e = absurd e
  by (Asking b m) e = absurd e
  by (Probing b m probed) e = absurd e
  by (Ready b x y) e = absurd e

pub denial_ends : (s : State) (from : Id) (a : Attempt) (l r z : Id) (w : Why) → NeedsLease a l r z s.phase →
    NeedsLease a l r z (step s (Comes from (Deny a w))).state.phase → ⊥
denial_ends s from a l r z w need = by s.phase need where
  by : (p : Phase) → NeedsLease a l r z p → NeedsLease a l r z (deny_in s from a w p).state.phase → ⊥
  by (Leasing b m x y fl fr) e = cond_both (a == b) _ _ (λ (o : Outcome). NeedsLease a l r z o.state.phase → ⊥) (λ _ h. h) (λ f h. itself a b e.0 f)
  by (Waiting b) e = absurd e
  by (Asking b m) e = absurd e
  by (Probing b m probed) e = absurd e
  by (Ready b x y) e = absurd e
