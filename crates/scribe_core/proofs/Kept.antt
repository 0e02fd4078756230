-- The laws of groups, for each group record over an overlay that some legal record has left.
use Rattle.std.proofs.Common.{◌≡◌, ◌≤◌, ◌<◌, ◌+◌, inl, inr, ℕ, zero, suc, true, Some, List, [], ◌∷◌, ◌++◌}
use Rattle.std.proofs.Common.{take, slice_get, Contains, append-nil, append_assoc, refl, sym, subst, ap, ◌∙◌, arith}
use Rattle.std.proofs.lemmas.List.{take_more}
use Rattle.std.proofs.lemmas.Option.{get_or_from_slice_get, slice_get_within}
use Rattle.ring_math.specs.Names.{Id}
use Rattle.ring_math.specs.Keys.{id_of}
use Rattle.ring_math.proofs.Counts.{farther-fewer, farther-more}
use Rattle.overlay_rules.specs.State.{is_ready}
use Rattle.overlay_rules.specs.Record.{Setting, IsSetting, World}
use Rattle.overlay_rules.specs.Ready.{IsReadyIn, farther}
use Rattle.step_facts.specs.ReadyCount.{ready_count}
use Rattle.step_facts.proofs.Messages.{MessagesHold}
use Rattle.scribe_core.specs.Entry.{GroupEntry}
use Rattle.scribe_core.specs.declared.message.GroupMessage.TheVariants as message
use Rattle.scribe_core.specs.declared.note.GroupNote.TheVariants as note
use Rattle.scribe_core.specs.Parts.{GroupName, Part, Place, Loose, Root, Under, Orphan}
use Rattle.scribe_core.specs.Record.{Groups, Visit, Follows, LegalFrom, IsGroupRecord, after, groups_after, no_groups, run, sent_in, step_at, visit, way_in}
use Rattle.scribe_core.specs.Laws.{MembersHear, HeardOnce, ParentsAreNearer, IsTop, above, climbed, WaysUpEnd, CastsFollowGrafts, IsNoWay, RefusedOnlyWhere}
use Rattle.scribe_core.specs.Laws.{groups_in, sent_to, WasPublished}
use Rattle.scribe_core.proofs.Facts.{Hears, IsDueSend}
use Rattle.scribe_core.proofs.Holding.{Holds, IsBelow, due_note, due_send, holds_at_first, holds_next, part_there, was_brought}

-- ---- after the first entries

pub run_push : (overlay : World) (w : Groups) (es : List GroupEntry) (e : GroupEntry) → run overlay w (es ++ e ∷ []) ≡ after overlay (run overlay w es) e
run_push overlay w [] e = refl
run_push overlay w (d ∷ es) e = run_push overlay (after overlay w d) es e

pub past_of_run : (overlay : World) (w : Groups) (es : List GroupEntry) → (run overlay w es).past ≡ w.past ++ es
past_of_run overlay w [] = sym (append-nil w.past)
past_of_run overlay w (e ∷ es) = past_of_run overlay (after overlay w e) es ∙ append_assoc w.past (e ∷ []) es

past_after : (overlay : World) (es : List GroupEntry) (i : ℕ) → (groups_after overlay es i).past ≡ take i es
past_after overlay es i = past_of_run overlay no_groups (take i es)

pub take_next : (es : List GroupEntry) (i : ℕ) (e : GroupEntry) → slice_get es i ≡ Some e → take (i + 1) es ≡ take i es ++ e ∷ []
take_next es i e h =
    take_more es i e (slice_get_within es i e h) ∙ ap (λ (d : GroupEntry). take i es ++ d ∷ []) (get_or_from_slice_get es i e e h)

next_groups : (overlay : World) (es : List GroupEntry) (i : ℕ) (e : GroupEntry) → slice_get es i ≡ Some e →
    groups_after overlay es (i + 1) ≡ after overlay (groups_after overlay es i) e
next_groups overlay es i e h = ap (run overlay no_groups) (take_next es i e h) ∙ run_push overlay no_groups (take i es) e

module _ (g : Setting) (overlay : World) (set : IsSetting g) (messages : MessagesHold g overlay) where
  holds_from : (w : Groups) (es : List GroupEntry) (i : ℕ) → Holds g overlay w → LegalFrom g overlay w es → Holds g overlay (run overlay w (take i es))
  holds_from w es zero h l = h
  holds_from w [] (suc i) h l = h
  holds_from w (e ∷ es) (suc i) h l = holds_from (after overlay w e) es i (holds_next g overlay set messages w e h l.0) l.1

  holds_whole : (w : Groups) (es : List GroupEntry) → Holds g overlay w → LegalFrom g overlay w es → Holds g overlay (run overlay w es)
  holds_whole w [] h l = h
  holds_whole w (e ∷ es) h l = holds_whole (after overlay w e) es (holds_next g overlay set messages w e h l.0) l.1

  follows_from : (w : Groups) (es : List GroupEntry) (i : ℕ) (e : GroupEntry) → LegalFrom g overlay w es → slice_get es i ≡ Some e →
      Follows g overlay (run overlay w (take i es)) e
  follows_from w [] i e l at = cc
  follows_from w (d ∷ es) zero e l at = let same : d ≡ e = cc in subst (Follows g overlay w) same l.0
  follows_from w (d ∷ es) (suc i) e l at = follows_from (after overlay w d) es i e l.1 at

  module _ (es : List GroupEntry) (legal : IsGroupRecord g overlay es) where
    here : (i : ℕ) → Holds g overlay (groups_after overlay es i)
    here i = holds_from no_groups es i (holds_at_first g overlay) legal

    follows : (i : ℕ) (e : GroupEntry) → slice_get es i ≡ Some e → Follows g overlay (groups_after overlay es i) e
    follows i e at = follows_from no_groups es i e legal at

    whole : Holds g overlay (groups_in overlay es)
    whole = holds_whole no_groups es (holds_at_first g overlay) legal

    -- the visit that is named is that of the entry
    visited : (i : ℕ) (e : GroupEntry) (at : Visit) (f : Follows g overlay (groups_after overlay es i) e) → visit (sent_in (take i es)) e.event ≡ Some at →
        f.at ≡ at
    visited i e at f is =
        let there : visit (sent_in (take i es)) e.event ≡ Some f.at =
        subst (λ past. visit (sent_in past) e.event ≡ Some f.at) (past_after overlay es i) f.is_at in
        let same : Some f.at ≡ Some at = sym there ∙ is in cc

    -- ---- heard once

    pub members_hear : MembersHear overlay es
    members_hear i at name n b notes =
        subst (λ (v : Visit). (name ≡ v.group) × (((groups_after overlay es (i + 1)).parts v.node name).is_member ≡ true)
        × WasPublished (take (i + 1) es) name n b) (visited i notes.entry at f notes.is_at) (hears.group, member, published) where
          f : Follows g overlay (groups_after overlay es i) notes.entry
          f = follows i notes.entry notes.there

          hears : Hears f.at.group ((groups_after overlay es i).parts f.at.node f.at.group)
              (step_at overlay (groups_after overlay es i) f.at).part f.at.input name n b
          hears = due_note g overlay set messages (groups_after overlay es i) notes.entry (here i) f (note.Heard name n b) notes.noted

          member : ((groups_after overlay es (i + 1)).parts f.at.node name).is_member ≡ true
          member =
              ap (λ (k : List ℕ). ((groups_after overlay es (i + 1)).parts f.at.node k).is_member) hears.group
              ∙ ap (λ (q : Groups). (q.parts f.at.node f.at.group).is_member) (next_groups overlay es i notes.entry notes.there)
              ∙ ap (λ (p : Part). p.is_member) (part_there g overlay set messages (groups_after overlay es i) notes.entry (here i) f)
              ∙ hears.member

          published : WasPublished (take (i + 1) es) name n b
          published =
              subst (λ past. WasPublished past name n b) (sym (take_next es i notes.entry notes.there))
              (subst (λ past. WasPublished (past ++ notes.entry ∷ []) name n b) (past_after overlay es i)
              (subst (λ (k : List ℕ). WasPublished ((groups_after overlay es i).past ++ notes.entry ∷ []) k n b) (sym hears.group)
              (was_brought g overlay set messages (groups_after overlay es i) notes.entry (here i) f n b hears.brought)))

    pub heard_once : HeardOnce overlay es
    heard_once x n = elim (whole.heard x n) [ inl never ↦ omega arith | inr once ↦ let k = once.0 in omega arith ]

    -- ---- the way up

    pub parents_are_nearer : ParentsAreNearer g overlay es
    parents_are_nearer x name y is = let b = (whole.parts x name).parent y is in (b.parent, b.nearer)

    abbrev parts : Id → GroupName → Part
    parts = (groups_in overlay es).parts

    fewer : (name : GroupName) (z : Id) → IsReadyIn g overlay z → farther g overlay (id_of name) z < ready_count g overlay
    fewer name z r = farther-fewer (λ (y : ℕ). is_ready (overlay.states y).phase) g.nodes z (id_of name) r.0 r.1

    -- the way up ends, in as many steps at most as ready nodes are nearer
    abbrev Climbs : GroupName → Id → Type 0
    Climbs name x = (n : ℕ) × (farther g overlay (id_of name) x + n < ready_count g overlay) × IsTop (parts (climbed parts name n x) name).place

    climbs : (name : GroupName) (fuel : ℕ) (x : Id) → IsReadyIn g overlay x → ready_count g overlay ≤ farther g overlay (id_of name) x + fuel → Climbs name x
    climbs name zero x ready few = let lt = fewer name x ready in absurd (omega arith)
    climbs name (suc fuel) x ready few = by_place (parts x name).place refl (λ y r le. climbs name fuel y r le) where
      top : (place : Place) → (parts x name).place ≡ place → IsTop place → Climbs name x
      top place is t = (0, (let lt = fewer name x ready in omega arith), subst IsTop (sym is) t)

      by_place : (place : Place) → (parts x name).place ≡ place →
          ((y : Id) → IsReadyIn g overlay y → ready_count g overlay ≤ farther g overlay (id_of name) y + fuel → Climbs name y) → Climbs name x
      by_place Loose is up = top Loose is tt
      by_place Root is up = top Root is tt
      by_place Orphan is up = top Orphan is tt
      by_place (Under y) is up =
          let b : IsBelow g overlay name x y = (whole.parts x name).parent y is in
          let more : farther g overlay (id_of name) x < farther g overlay (id_of name) y =
          farther-more (λ (z : ℕ). is_ready (overlay.states z).phase) g.nodes x y (id_of name) ready.0 ready.1 b.nearer in
          let rest : Climbs name y = up y b.parent (omega arith) in
          let lt = rest.1 in
          (suc rest.0, omega arith, subst (λ (z : ℕ). IsTop (parts (climbed parts name rest.0 z) name).place) (sym (ap (above x) is)) rest.2)

    pub ways_up_end : IsReadyIn g overlay g.founder → WaysUpEnd g overlay es
    ways_up_end founder x name = by_place (parts x name).place refl where
      some_ready : 0 < ready_count g overlay
      some_ready =
          let lt = farther-fewer (λ (y : ℕ). is_ready (overlay.states y).phase) g.nodes g.founder (id_of name) founder.0 founder.1 in omega arith

      by_place : (place : Place) → (parts x name).place ≡ place →
          (n : ℕ) × (n < ready_count g overlay) × IsTop (parts (climbed parts name n x) name).place
      by_place Loose is = (0, some_ready, subst IsTop (sym is) tt)
      by_place Root is = (0, some_ready, subst IsTop (sym is) tt)
      by_place Orphan is = (0, some_ready, subst IsTop (sym is) tt)
      by_place (Under y) is =
          let up = climbs name (ready_count g overlay) x ((whole.parts x name).parent y is).node (omega arith) in
          let lt = up.1 in (up.0, omega arith, up.2)

    -- ---- casts and refusals

    pub casts_follow_grafts : CastsFollowGrafts es
    casts_follow_grafts i e x y name n b at c =
        subst (λ past. Contains (sent_in past) (sent_to y x name message.Graft)) (past_after overlay es i)
        (subst (λ (k : List ℕ). Contains (sent_in (groups_after overlay es i).past) (sent_to y x k message.Graft)) (sym due.1)
        (subst (λ (z : ℕ). Contains (sent_in (groups_after overlay es i).past) (sent_to y z f.at.group message.Graft)) (sym due.0)
        (((here i).parts f.at.node f.at.group).children y due.2.1))) where
          f : Follows g overlay (groups_after overlay es i) e
          f = follows i e at

          due : (x ≡ f.at.node) × (name ≡ f.at.group)
              × IsDueSend ((groups_after overlay es i).parts f.at.node f.at.group) f.at.input y (message.Cast n b)
          due = due_send g overlay set messages (groups_after overlay es i) e (here i) f (sent_to x y name (message.Cast n b)) c

    pub refused_only_where : RefusedOnlyWhere overlay es
    refused_only_where i at n notes =
        let f = follows i notes.entry notes.there in
        let none : IsNoWay (way_in overlay f.at.node f.at.group) =
        due_note g overlay set messages (groups_after overlay es i) notes.entry (here i) f (note.Refused n) notes.noted in
        subst (λ (v : Visit). IsNoWay (way_in overlay v.node v.group)) (visited i notes.entry at f notes.is_at) none
