-- Where each need of a joiner rests: in the question on its way, or in the answer on its way.
use Rattle.std.proofs.Common.{◌≡◌, ◌⊎◌, inl, inr, Bool, true, false, ◌==◌, List, [], ◌∷◌, sym, subst, ap, ◌∙◌}
use Rattle.std.proofs.lemmas.Bool.{cases_eq}
use Rattle.ring_math.specs.Names.{Id, Attempt, Hops}
use Rattle.coverage.specs.GapFiles.{Lists}
use Rattle.wire_msg.specs.declared.reply.Why.{Why}
use Rattle.wire_msg.specs.Words.{Envelope, JoinRequest, JoinReply, JoinRefuse, Probe, ProbeReply, LeaseRequest, Grant, Deny}
use Rattle.overlay_rules.specs.declared.entry.Entry.{Entry}
use Rattle.overlay_rules.specs.State.{State, Phase, Waiting, Asking, Probing, Leasing, Ready, is_ready, start}
use Rattle.overlay_rules.specs.Outcome.{Outcome, Input, Comes}
use Rattle.overlay_rules.specs.Step.{step}
use Rattle.overlay_rules.specs.Record.{Setting, World, sent_in, world_at_start}
use Rattle.overlay_rules.proofs.Each.{Each, Each-slice_get}
use Rattle.overlay_rules.proofs.Histories.{state_at-itself, state_at-other}
use Rattle.overlay_rules.proofs.SeatStep.{step_seat}
use Rattle.step_facts.proofs.Always.{Takes, after_step}
use Rattle.step_facts.proofs.Knows.{PhaseKnows, Tells}
use Rattle.step_facts.proofs.Messages.{ReadyIn, Holds, MessagesHold}
use Rattle.quiet_laws.proofs.Has.{Has, Has-weaker}
use Rattle.quiet_laws.proofs.OnWay.{OnWay, Came, DeliveriesHold, on_way-weaker, still, fresh}
use Rattle.quiet_laws.proofs.Needs.{Need, Members, AnswerOf, LeaseOf, IsUnanswered, NeedsMembers, NeedsAnswer, NeedsLease, Needs, Asks, need_asked}
use Rattle.quiet_laws.proofs.Needs.{IsRequestOf, IsReplyOf, request_answered, IsProbeReply, probe_answered, IsLeaseReply, lease_answered}
use Rattle.quiet_laws.proofs.Needs.{members_end, refusal_ends, probe_ends, grant_ends, denial_ends}

-- the question that y asks, wherever it is passed on to
abbrev pub IsQuestion : Id → Need → Envelope → Type 0
IsQuestion y (Members a) v = (hops : Hops) × (v.message ≡ JoinRequest y a hops)
IsQuestion y (AnswerOf a z) v = (v.sender ≡ y) × (v.receiver ≡ z) × (v.message ≡ Probe a)
IsQuestion y (LeaseOf a l r z) v = (v.sender ≡ y) × (v.receiver ≡ z) × (v.message ≡ LeaseRequest a l r)

-- the answer to it, or the refusal
abbrev pub IsAnswer : Id → Need → Envelope → Type 0
IsAnswer y (Members a) v =
    (v.receiver ≡ y) × (((rest : List Id) × (v.message ≡ JoinReply a (v.sender ∷ rest))) ⊎ ((w : Why) × (v.message ≡ JoinRefuse a w)))
IsAnswer y (AnswerOf a z) v = (v.sender ≡ z) × (v.receiver ≡ y) × ((heard : List Id) × (v.message ≡ ProbeReply a heard))
IsAnswer y (LeaseOf a l r z) v =
    (v.receiver ≡ y)
    × (((lists : Lists) × ((v.sender ≡ z) × (v.message ≡ Grant a lists.manifest lists.tombs))) ⊎ ((w : Why) × (v.message ≡ Deny a w)))

pub data NeedRests (w : World) (y : Id) (need : Need) : Type 0 where
  asked : OnWay (IsQuestion y need) w → NeedRests w y need
  answered : OnWay (IsAnswer y need) w → NeedRests w y need

pub record JoinsRest (w : World) : Type 0 where
  pub rests : (y : Id) (need : Need) → Needs need (w.states y).phase → NeedRests w y need

-- ---- who is needed is ready

needed : (R : Id → Type 0) (z : Id) (ps : List (Id × Bool)) → Each (λ p. R p.0) ps → Has (IsUnanswered z) ps → R z
needed R z [] k h = absurd h
needed R z (p ∷ ps) k (inl is) = subst R is.0 k.0
needed R z (p ∷ ps) k (inr h) = needed R z ps k.1 h

leaf_known : (R : Id → Type 0) (a : Attempt) (z : Id) (p : Phase) → PhaseKnows R p → NeedsAnswer a z p → R z
leaf_known R a z (Probing b n probed) k h = needed R z probed k h.1
leaf_known R a z (Waiting b) k h = absurd h
leaf_known R a z (Asking b n) k h = absurd h
leaf_known R a z (Leasing b n l r fl fr) k h = absurd h
leaf_known R a z (Ready b l r) k h = absurd h

neighbour_known : (R : Id → Type 0) (a : Attempt) (l r z : Id) (p : Phase) → PhaseKnows R p → NeedsLease a l r z p → R z
neighbour_known R a l r z (Leasing b n x y fl fr) k h = elim h.3 [
  | inl side ↦ subst R (h.1 ∙ sym side.0) k.0
  | inr side ↦ subst R (h.2 ∙ sym side.0) k.1
]
neighbour_known R a l r z (Waiting b) k h = absurd h
neighbour_known R a l r z (Asking b n) k h = absurd h
neighbour_known R a l r z (Probing b n probed) k h = absurd h
neighbour_known R a l r z (Ready b x y) k h = absurd h

needs_unready : (a : Attempt) (p : Phase) → NeedsMembers a p → is_ready p ≡ true → ⊥
needs_unready a (Asking b n) h e = cc
needs_unready a (Waiting b) h e = h
needs_unready a (Probing b n probed) h e = h
needs_unready a (Leasing b n l r fl fr) h e = h
needs_unready a (Ready b l r) h e = h

module _ (g : Setting) (w : World) (e : Entry) (x : Id) (i : Input) (t : Takes g w e x i) (k : DeliveriesHold w) (h : MessagesHold g w) where
  abbrev made : Outcome
  made = step (w.states x) i

  abbrev v : World
  v = after_step w e x i

  -- a need that a step brings is asked for
  need_new : (need : Need) → Has (Asks (w.states x).me need) made.sends → NeedRests v x need
  need_new (Members a) q = asked (fresh (IsQuestion x (Members a)) g w e x i t k
      (Has-weaker (Asks (w.states x).me (Members a)) _ made.sends
      (λ s is u f. (is.0, f.message ∙ (is.1 ∙ ap (λ z. JoinRequest z a is.0) (h.me x)))) q))
  need_new (AnswerOf a z) q = asked (fresh (IsQuestion x (AnswerOf a z)) g w e x i t k
      (Has-weaker (Asks (w.states x).me (AnswerOf a z)) _ made.sends (λ s is u f. (f.sender, f.receiver ∙ is.0, f.message ∙ is.1)) q))
  need_new (LeaseOf a l r z) q = asked (fresh (IsQuestion x (LeaseOf a l r z)) g w e x i t k
      (Has-weaker (Asks (w.states x).me (LeaseOf a l r z)) _ made.sends (λ s is u f. (f.sender, f.receiver ∙ is.0, f.message ∙ is.1)) q))

  -- a question that comes is answered, or passed on
  question_came : (y : Id) (need : Need) → Needs need (w.states y).phase → Came (IsQuestion y need) x i → NeedRests v y need
  question_came y (Members a) n c =
      let is : i ≡ Comes c.envelope.sender (JoinRequest y a c.is.0) = c.input ∙ ap (Comes c.envelope.sender) c.is.1 in
      elim (subst (λ j. Has (IsRequestOf y a) (step (w.states x) j).sends ⊎ Has (IsReplyOf (w.states x).me y a) (step (w.states x) j).sends) (sym is)
      (request_answered (w.states x) c.envelope.sender y a c.is.0)) [
        | inl on ↦ asked (fresh (IsQuestion y (Members a)) g w e x i t k
            (Has-weaker (IsRequestOf y a) _ made.sends (λ s q u f. (q.0, f.message ∙ q.1)) on))
        | inr back ↦ answered (fresh (IsAnswer y (Members a)) g w e x i t k
            (Has-weaker (IsReplyOf (w.states x).me y a) _ made.sends (λ s q u f. (
              f.receiver ∙ q.0,
              elim q.1 [
                | inl told ↦ inl (told.0, f.message ∙ (told.1 ∙ ap (λ z. JoinReply a (z ∷ told.0)) (h.me x ∙ sym f.sender)))
                | inr refused ↦ inr (refused.0, f.message ∙ refused.1)
              ],
            )) back))
      ]
  question_came y (AnswerOf a z) n c =
      let at_z : z ≡ x = sym c.is.1 ∙ c.receiver in
      let is : i ≡ Comes y (Probe a) = c.input ∙ (λ j. Comes (c.is.0 j) (c.is.2 j)) in
      let ready : ReadyIn w.states x = subst (ReadyIn w.states) at_z (leaf_known (ReadyIn w.states) a z (w.states y).phase (h.knows y).phase n) in
      answered (fresh (IsAnswer y (AnswerOf a z)) g w e x i t k
      (Has-weaker (IsProbeReply y a) _ made.sends (λ s q u f. (f.sender ∙ sym at_z, f.receiver ∙ q.0, (q.1.0, f.message ∙ q.1.1)))
      (subst (λ j. Has (IsProbeReply y a) (step (w.states x) j).sends) (sym is) (probe_answered (w.states x) y a ready))))
  question_came y (LeaseOf a l r z) n c =
      let at_z : z ≡ x = sym c.is.1 ∙ c.receiver in
      let is : i ≡ Comes y (LeaseRequest a l r) = c.input ∙ (λ j. Comes (c.is.0 j) (c.is.2 j)) in
      let ready : ReadyIn w.states x = subst (ReadyIn w.states) at_z (neighbour_known (ReadyIn w.states) a l r z (w.states y).phase (h.knows y).phase n) in
      answered (fresh (IsAnswer y (LeaseOf a l r z)) g w e x i t k
      (Has-weaker (IsLeaseReply y a) _ made.sends (λ s q u f. (
        f.receiver ∙ q.0,
        elim q.1 [
          | inl given ↦ inl (given.0, (f.sender ∙ sym at_z, f.message ∙ given.1))
          | inr denied ↦ inr (denied.0, f.message ∙ denied.1)
        ],
      )) (subst (λ j. Has (IsLeaseReply y a) (step (w.states x) j).sends) (sym is) (lease_answered (w.states x) y a l r ready))))

  -- what an answer also tells
  abbrev Told : Need → Envelope → Type 0
  Told need u = IsAnswer x need u × Tells (ReadyIn w.states) u.sender u.message

  -- an answer that comes ends the need
  answer_came : (need : Need) → Needs need (w.states x).phase → Came (Told need) x i → Needs need made.state.phase → ⊥
  answer_came (Members a) n c after = elim c.is.0.1 [
    | inl told ↦
        let is : i ≡ Comes c.envelope.sender (JoinReply a (c.envelope.sender ∷ told.0)) = c.input ∙ ap (Comes c.envelope.sender) told.1 in
        let ready : ReadyIn w.states c.envelope.sender = (subst (Tells (ReadyIn w.states) c.envelope.sender) told.1 c.is.1).1 in
        members_end (w.states x) c.envelope.sender a c.envelope.sender told.0
        (λ same. needs_unready a (w.states x).phase n (subst (ReadyIn w.states) (same ∙ h.me x) ready)) (h.linked x).unknown n
        (subst (λ j. NeedsMembers a (step (w.states x) j).state.phase) is after)
    | inr refused ↦
        let is : i ≡ Comes c.envelope.sender (JoinRefuse a refused.0) = c.input ∙ ap (Comes c.envelope.sender) refused.1 in
        refusal_ends (w.states x) c.envelope.sender a refused.0 n (subst (λ j. NeedsMembers a (step (w.states x) j).state.phase) is after)
  ]
  answer_came (AnswerOf a z) n c after =
      let is : i ≡ Comes z (ProbeReply a c.is.0.2.0) = c.input ∙ (λ j. Comes (c.is.0.0 j) (c.is.0.2.1 j)) in
      probe_ends (w.states x) z a c.is.0.2.0 n (subst (λ j. NeedsAnswer a z (step (w.states x) j).state.phase) is after)
  answer_came (LeaseOf a l r z) n c after = elim c.is.0.1 [
    | inl given ↦
        let is : i ≡ Comes z (Grant a given.0.manifest given.0.tombs) = c.input ∙ (λ j. Comes (given.1.0 j) (given.1.1 j)) in
        grant_ends (w.states x) z a l r given.0 n (subst (λ j. NeedsLease a l r z (step (w.states x) j).state.phase) is after)
    | inr denied ↦
        let is : i ≡ Comes c.envelope.sender (Deny a denied.0) = c.input ∙ ap (Comes c.envelope.sender) denied.1 in
        denial_ends (w.states x) c.envelope.sender a l r z denied.0 n (subst (λ j. NeedsLease a l r z (step (w.states x) j).state.phase) is after)
  ]

  -- the answer on its way, with what it tells
  with_told : (need : Need) → OnWay (IsAnswer x need) w → OnWay (Told need) w
  with_told need u = record {
    place = u.place;
    envelope = u.envelope;
    sent = u.sent;
    undelivered = u.undelivered;
    is = (u.is, (Each-slice_get (Holds g w.states) (sent_in w.past) u.place u.envelope h.sent u.sent).tells);
  }

  rests_on : (y : Id) (need : Need) → Needs need (w.states y).phase → Needs need (v.states y).phase → NeedRests w y need → NeedRests v y need
  rests_on y need n after (asked u) = elim (still (IsQuestion y need) g w e x i t u) [
    | inl same ↦ asked same
    | inr came ↦ question_came y need n came
  ]
  rests_on y need n after (answered u) = elim (cases_eq y x) [
    | inl same ↦
        let at_x : Needs need made.state.phase =
        subst (λ (s : State). Needs need s.phase) (ap v.states same ∙ state_at-itself w.states x made.state) after in
        elim (still (Told need) g w e x i t (with_told need (subst (λ z. OnWay (IsAnswer z need) w) same u))) [
          | inl rests ↦ answered (on_way-weaker (Told need) (IsAnswer y need) v (λ z q. subst (λ d. IsAnswer d need z) (sym same) q.0) rests)
          | inr came ↦ absurd (answer_came need (subst (λ z. Needs need (w.states z).phase) same n) came at_x)
        ]
    | inr ne ↦ elim (still (IsAnswer y need) g w e x i t u) [
      | inl rests ↦ answered rests
      | inr came ↦ absurd (ne (sym (to_y need came.envelope came.is) ∙ came.receiver))
    ]
  ] where
    to_y : (need : Need) (u : Envelope) → IsAnswer y need u → u.receiver ≡ y
    to_y (Members a) u q = q.0
    to_y (AnswerOf a z) u q = q.1
    to_y (LeaseOf a l r z) u q = q.0

  pub joins_rest_keep : JoinsRest w → JoinsRest v
  joins_rest_keep r = record {
    rests = λ y need after. elim (cases_eq y x) [
      | inl same ↦
          let at_x : Needs need made.state.phase =
          subst (λ (s : State). Needs need s.phase) (ap v.states same ∙ state_at-itself w.states x made.state) after in
          elim (need_asked (w.states x) i made (step_seat (w.states x) i) need at_x) [
            | inl was ↦ let n = subst (λ z. Needs need (w.states z).phase) (sym same) was in rests_on y need n after (r.rests y need n)
            | inr new ↦ subst (λ z. NeedRests v z need) (sym same) (need_new need new)
          ]
      | inr ne ↦
          let n = subst (λ (s : State). Needs need s.phase) (state_at-other w.states x made.state y ne) after in rests_on y need n after (r.rests y need n)
    ];
  }

no_needs : (y : Id) (b : Bool) (need : Need) → Needs need (start y b).phase → ⊥
no_needs y true (Members a) h = h
no_needs y true (AnswerOf a z) h = h
no_needs y true (LeaseOf a l r z) h = h
no_needs y false (Members a) h = h
no_needs y false (AnswerOf a z) h = h
no_needs y false (LeaseOf a l r z) h = h

pub joins_rest_at_start : (g : Setting) → JoinsRest (world_at_start g)
joins_rest_at_start g = record { rests = λ y need h. absurd (no_needs y (y == g.founder) need h) }
