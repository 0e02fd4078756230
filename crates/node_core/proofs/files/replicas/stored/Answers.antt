use Rattle.std.proofs.Common.{◌≡◌, ◌≤◌, ◌∷◌, ℕ, List, Option, Some, Contains, IfOk, MatchOption, length, get_or, slice_get, sym, ap, ◌∙◌, subst, arith}
use Rattle.std.proofs.lemmas.List.Elements.{Contains-get_or}
use Rattle.std.proofs.lemmas.Option.{slice_get-get_or}
use Rattle.ring_math.specs.declared.limits.TheConstants.{MOST_MEMBERS}
use Rattle.wire_msg.specs.declared.limits.TheConstants.{MOST_TARGETS}
use Rattle.overlay_rules.specs.declared.request.Asked.TheVariants as asked
use Rattle.wire_msg.specs.declared.reply.Reply.TheVariants as reply
use Rattle.overlay_rules.specs.declared.request.Pending.{Pending}
use Rattle.overlay_rules.specs.State.{State}
use Rattle.overlay_rules.specs.Outcome.{replied}
use Rattle.past_core.specs.Waits.{taken_out}
use Rattle.past_core.specs.Acks.{stored_at}
use Rattle.node_parts.specs.Seen.{seen}
use Rattle.node_parts.specs.Plans.{Plans}
use Rattle.node_core.proofs.files.replicas.stored.Goals as goal

pub returns-in_ok-change-in-Some : goal.returns-in_ok-change-in-Some
returns-in_ok-change-in-Some c = λ known h.
    let s : State = seen c.args.node.now known in
    let asks : List Pending = c.args.node.now.past.asks in
    let place : ℕ = c.args.place in
    let ask : Pending = c.index-as_slice-place.result in
    let read : ask ≡ get_or asks place ask = rw c.as_slice.ensures at c.index-as_slice-place.is in
    let found : slice_get asks place ≡ Some ask = slice_get-get_or asks place ask c.requires ∙ ap (λ (p : Pending). Some p) (sym read) in
    let held : c.in-Some.all ≡ s.me ∷ (get_or c.as_slice.result.now place ask).targets = subst (λ (x : Option (List ℕ)).
    MatchOption x (MOST_MEMBERS ≤ length (get_or c.as_slice.result.now place ask).targets)
    (λ all. all ≡ s.me ∷ (get_or c.as_slice.result.now place ask).targets)) c.in-Some.is c.in_ok-holders.ensures in
    let all : c.in-Some.all ≡ s.me ∷ ask.targets = held ∙ ap (λ (p : Pending). s.me ∷ p.targets) (sym c.index-as_slice-place.is) in
    let t : State = record s { pending = taken_out asks place } in
    subst (λ (x : Option Pending). IfOk c.replied.result (λ p. Plans s p (stored_at s c.args.origin c.args.number place x))) (sym found)
    (subst (λ (hs : List ℕ). IfOk c.replied.result (λ p. Plans s p (replied t asked.Insert c.args.origin c.args.number (reply.Stored hs)))) all
    (c.replied.ensures s t (c.in_ok-change-in-Some.ensures s)))

-- no insert of a state waits for so many
pub returns-in-None : goal.returns-in-None
returns-in-None c = λ known h.
    let asks : List Pending = c.args.node.now.past.asks in
    let place : ℕ = c.args.place in
    let ask : Pending = c.index-as_slice-place.result in
    let read : ask ≡ get_or asks place ask = rw c.as_slice.ensures at c.index-as_slice-place.is in
    let held : MOST_MEMBERS ≤ length (get_or c.as_slice.result.now place ask).targets = subst (λ (x : Option (List ℕ)).
    MatchOption x (MOST_MEMBERS ≤ length (get_or c.as_slice.result.now place ask).targets)
    (λ all. all ≡ c.args.node.now.me ∷ (get_or c.as_slice.result.now place ask).targets)) c.in-None.is c.in_ok-holders.ensures in
    let many : MOST_MEMBERS ≤ length ask.targets = subst (λ (p : Pending). MOST_MEMBERS ≤ length p.targets) (sym c.index-as_slice-place.is) held in
    let few : length ask.targets ≤ MOST_TARGETS = h.sound.pending ask (subst (Contains asks) (sym read) (Contains-get_or asks place ask c.requires)) in
    absurd (omega (arith, many, few))
