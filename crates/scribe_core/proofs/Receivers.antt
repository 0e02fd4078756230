-- Messages of a group record go from nodes to nodes.
use Rattle.std.proofs.Common.{◌≡◌, ◌⊎◌, inl, inr, true, false, Some, ℕ, List, [], ◌∷◌, ◌++◌, slice_get, Contains, refl, sym, subst, ◌∙◌}
use Rattle.std.proofs.lemmas.Bool.{cond_both}
use Rattle.ring_math.specs.Keys.{id_of}
use Rattle.ring_math.specs.Names.{Id, Number, Content}
use Rattle.ring_math.specs.Sides.{is_in}
use Rattle.overlay_rules.specs.declared.entry.Entry.{Entry}
use Rattle.overlay_rules.specs.declared.request.Way.{Way}
use Rattle.overlay_rules.specs.declared.request.Way.TheVariants as way
use Rattle.overlay_rules.specs.Record.{Setting, IsRecord, IsSetting, World}
use Rattle.overlay_rules.proofs.Each.{Each, Each-append, Each-contains, Each-itself, Each-map, Each-slice_get, Each-weaker}
use Rattle.ring_laws.proofs.Hops.{hop_goes_nearer}
use Rattle.step_facts.proofs.Messages.{MessagesHold}
use Rattle.scribe_core.specs.Entry.{GroupEntry}
use Rattle.scribe_core.specs.declared.message.GroupCommand.TheVariants as command
use Rattle.scribe_core.specs.declared.message.GroupMessage.TheVariants as message
use Rattle.scribe_core.specs.declared.message.GroupSent.{GroupSent}
use Rattle.scribe_core.specs.Laws.{overlay_of, sent_to}
use Rattle.scribe_core.specs.Parts.{GroupName, Part, Place, Loose, Root, Under, Orphan, Input, Command, Comes, Addressed, becomes, nothing, to, to_each}
use Rattle.scribe_core.specs.Record.{Groups, Follows, LegalFrom, IsGroupRecord, after, no_groups, run, sent_from, sent_in, step_at, way_in}
use Rattle.scribe_core.specs.Step.{cast, group_step, heard, on_publish, on_published, on_subscribe, subscribe_beside}
use Rattle.scribe_core.specs.Tree.{attach, attached, attached_from, is_idle, trim, trimmed_from}
use Rattle.scribe_core.proofs.Holding.{Holds, holds_at_first, holds_next, sent_in-push}
use Rattle.scribe_core.proofs.Keys.{id_of-in_ring}
use Rattle.scribe_core.proofs.Kept.{past_of_run}
use Rattle.scribe_core.proofs.Overlay.{messages_hold}

-- ---- whom a step sends to

-- the key leads there, or it is the parent or a child
abbrev IsAtHand : Way → Part → Id → Type 0
IsAtHand w p y = (w ≡ way.To y) ⊎ ((p.place ≡ Under y) ⊎ Contains p.children y)

abbrev AreAtHand : Way → Part → List Addressed → Type 0
AreAtHand w p sends = Each (λ (a : Addressed). IsAtHand w p a.receiver) sends

module _ (w : Way) (p : Part) where
  attached_to : (v : Way) (q : Part) → w ≡ v → AreAtHand w p (attached v q).sends
  attached_to way.NotReady q e = tt
  attached_to way.Here q e = tt
  attached_to (way.Gap j) q e = tt
  attached_to (way.To y) q e = (inl e, tt)

  attach_to : (q : Part) → AreAtHand w p (attach w q).sends
  attach_to q = by_place q.place where
    by_place : (place : Place) → AreAtHand w p (attached_from w q place).sends
    by_place Loose = attached_to w q refl
    by_place Root = tt
    by_place (Under y) = tt
    by_place Orphan = tt

  trim_to : (q : Part) → q.place ≡ p.place → AreAtHand w p (trim q).sends
  trim_to q same = by_place q.place refl where
    by_place : (place : Place) → q.place ≡ place → AreAtHand w p (trimmed_from q place).sends
    by_place Loose e = tt
    by_place Root e = tt
    by_place (Under y) e =
        cond_both (is_idle q) (becomes (record q { place = Loose }) (to y message.Prune ∷ []) []) (nothing q) (λ o. AreAtHand w p o.sends)
        (λ _. (inr (inl (sym same ∙ e)), tt)) (λ _. tt)
    by_place Orphan e = tt

  each_to : (cs : List Id) (n : Number) (b : Content) → Each (Contains p.children) cs → AreAtHand w p (to_each cs (message.Cast n b))
  each_to [] n b h = tt
  each_to (c ∷ cs) n b h = (inr (inr h.0), each_to cs n b h.1)

  cast_to : (name : GroupName) (n : Number) (b : Content) → AreAtHand w p (cast name p n b).sends
  cast_to name n b =
      cond_both (is_in p.seen n) (nothing p)
      (becomes (record p { seen = p.seen ++ n ∷ [] }) (to_each p.children (message.Cast n b)) (heard name n b p.is_member)) (λ o. AreAtHand w p o.sends)
      (λ _. tt) (λ _. each_to p.children n b (Each-itself p.children))

subscribe_to : (w : Way) (p : Part) (n : Number) → AreAtHand w p (on_subscribe w p n).sends
subscribe_to way.NotReady p n = tt
subscribe_to way.Here p n = attach_to way.Here p (record p { is_member = true })
subscribe_to (way.Gap j) p n = by_place p.place where
  by_place : (place : Place) → AreAtHand (way.Gap j) p (subscribe_beside (way.Gap j) p n place).sends
  by_place Loose = tt
  by_place Root = attach_to (way.Gap j) p (record p { is_member = true })
  by_place (Under y) = attach_to (way.Gap j) p (record p { is_member = true })
  by_place Orphan = attach_to (way.Gap j) p (record p { is_member = true })
subscribe_to (way.To y) p n = attach_to (way.To y) p (record p { is_member = true })

publish_to : (w : Way) (name : GroupName) (p : Part) (n : Number) (b : Content) → AreAtHand w p (on_publish w name p n b).sends
publish_to way.NotReady name p n b = tt
publish_to way.Here name p n b = cast_to way.Here p name n b
publish_to (way.Gap j) name p n b = tt
publish_to (way.To y) name p n b = (inl refl, tt)

published_to : (w : Way) (name : GroupName) (p : Part) (n : Number) (b : Content) → AreAtHand w p (on_published w name p n b).sends
published_to way.NotReady name p n b = tt
published_to way.Here name p n b = cast_to way.Here p name n b
published_to (way.Gap j) name p n b = tt
published_to (way.To y) name p n b = (inl refl, tt)

step_to : (w : Way) (name : GroupName) (p : Part) (i : Input) → AreAtHand w p (group_step w name p i).sends
step_to w name p (Command n command.Subscribe) = subscribe_to w p n
step_to w name p (Command n command.Leave) = trim_to w p (record p { is_member = false }) refl
step_to w name p (Command n (command.Publish b)) = publish_to w name p n b
step_to w name p (Comes s message.Graft) = attach_to w p _
step_to w name p (Comes s message.Prune) = trim_to w p _ refl
step_to w name p (Comes s (message.Publish n b)) = published_to w name p n b
step_to w name p (Comes s (message.Cast n b)) = cast_to w p name n b

-- ---- one entry after another

abbrev IsAmong : Setting → GroupSent → Type 0
IsAmong g s = Contains g.nodes s.receiver × Contains g.nodes s.sender

module _ (g : Setting) (overlay : World) (set : IsSetting g) (messages : MessagesHold g overlay) where
  among_next : (w : Groups) (e : GroupEntry) → Holds g overlay w → Follows g overlay w e → Each (IsAmong g) (sent_in w.past) →
      Each (IsAmong g) (sent_in (w.past ++ e ∷ []))
  among_next w e h f among =
      subst (Each (IsAmong g)) (sym (sent_in-push w.past e))
      (Each-append (IsAmong g) (sent_in w.past) e.messages among (subst (Each (IsAmong g)) (sym f.messages)
      (Each-map (IsAmong g) (sent_from x name) (step_at overlay w f.at).sends
      (Each-weaker (λ (a : Addressed). IsAtHand (way_in overlay x name) p a.receiver) (λ (a : Addressed). Contains g.nodes a.receiver × Contains g.nodes x)
      (step_at overlay w f.at).sends (λ a d. (node a.receiver d, f.member)) (step_to (way_in overlay x name) name p f.at.input))))) where
        x : Id
        x = f.at.node

        name : GroupName
        name = f.at.group

        p : Part
        p = w.parts x name

        node : (y : Id) → IsAtHand (way_in overlay x name) p y → Contains g.nodes y
        node y d = elim d [
          | inl leads ↦ (hop_goes_nearer g overlay x (id_of name) y set messages f.member (id_of-in_ring name) leads).0.0
          | inr other ↦ elim other [
            | inl parent ↦ ((h.parts x name).parent y parent).parent.0
            | inr child ↦ (Each-contains (IsAmong g) (sent_in w.past) (sent_to y x name message.Graft) among ((h.parts x name).children y child)).1
          ]
        ]

  among_all : (w : Groups) (es : List GroupEntry) → Holds g overlay w → LegalFrom g overlay w es → Each (IsAmong g) (sent_in w.past) →
      Each (IsAmong g) (sent_in (run overlay w es).past)
  among_all w [] h l among = among
  among_all w (e ∷ es) h l among =
      among_all (after overlay w e) es (holds_next g overlay set messages w e h l.0) l.1 (among_next w e h l.0 among)

-- the receiver of a message is a node
pub receiver_is_node : (g : Setting) (past : List Entry) (es : List GroupEntry) → IsRecord g past → IsGroupRecord g (overlay_of g past) es →
    (m : ℕ) (s : GroupSent) → slice_get (sent_in es) m ≡ Some s → Contains g.nodes s.receiver
receiver_is_node g past es r legal m s at =
    let all : Each (IsAmong g) (sent_in es) =
    subst (λ (past : List GroupEntry). Each (IsAmong g) (sent_in past)) (past_of_run (overlay_of g past) no_groups es)
    (among_all g (overlay_of g past) r.setting (messages_hold g past r) no_groups es (holds_at_first g (overlay_of g past)) legal tt) in
    (Each-slice_get (IsAmong g) (sent_in es) m s all at).0
