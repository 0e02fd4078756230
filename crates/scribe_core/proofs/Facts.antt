-- What one step in a group does: where a parent, a child and a number seen come from, what is sent and noted, and that what is seen
-- is seen for good. The laws rest on these facts alone, and not on the rows.
use Rattle.std.proofs.Common.{◌≡◌, ◌≤◌, ◌+◌, ◌⊎◌, inl, inr, Bool, true, false, cond, count_by, List, [], ◌∷◌, ◌++◌, Contains, refl, sym, subst, ap, ◌∙◌, arith}
use Rattle.std.specs.Prelude.{not, ◌==◌}
use Rattle.std.proofs.lemmas.Bool.{cond_both}
use Rattle.std.proofs.lemmas.List.Elements.{Contains-append_left, Contains-append_right, Contains-append_cases}
use Rattle.std.proofs.lemmas.List.Sums.{sum_by-cons}
use Rattle.ring_math.specs.Names.{Id, Number, Content}
use Rattle.ring_math.specs.Sides.{is_in}
use Rattle.ring_math.proofs.Membership.{Contains-cases, Contains-from_filter, Contains-none}
use Rattle.overlay_rules.specs.declared.request.Way.{Way}
use Rattle.overlay_rules.specs.declared.request.Way.TheVariants as way
use Rattle.overlay_rules.proofs.Each.{Each, Each-itself}
use Rattle.scribe_core.specs.declared.message.GroupCommand.TheVariants as command
use Rattle.scribe_core.specs.declared.message.GroupMessage.{GroupMessage}
use Rattle.scribe_core.specs.declared.message.GroupMessage.TheVariants as message
use Rattle.scribe_core.specs.declared.note.GroupNote.{GroupNote}
use Rattle.scribe_core.specs.declared.note.GroupNote.TheVariants as note
use Rattle.scribe_core.specs.Parts.{GroupName, Part, Place, Loose, Root, Under, Orphan, Input, Command, Comes, Addressed, Outcome, becomes, nothing}
use Rattle.scribe_core.specs.Parts.{noting, to, to_each}
use Rattle.scribe_core.specs.Tree.{attach, attached, attached_from, is_idle, trim, trimmed_from, with_child, without_child}
use Rattle.scribe_core.specs.Step.{cast, group_step, heard, on_leave, on_prune, on_graft, on_publish, on_published, on_subscribe, refuse, subscribe}
use Rattle.scribe_core.specs.Step.{subscribe_beside}
use Rattle.scribe_core.specs.Laws.{IsNoWay, is_heard}

-- the input brings these bytes with this number
abbrev pub Brings : Input → Number → Content → Type 0
Brings (Command n command.Subscribe) m b = ⊥
Brings (Command n command.Leave) m b = ⊥
Brings (Command n (command.Publish bytes)) m b = (n ≡ m) × (bytes ≡ b)
Brings (Comes s message.Graft) m b = ⊥
Brings (Comes s message.Prune) m b = ⊥
Brings (Comes s (message.Publish n bytes)) m b = (n ≡ m) × (bytes ≡ b)
Brings (Comes s (message.Cast n bytes)) m b = (n ≡ m) × (bytes ≡ b)

-- what is sent was brought, and a Cast goes to a child
abbrev pub IsDueSend : Part → Input → Id → GroupMessage → Type 0
IsDueSend p i y message.Graft = Unit {0}
IsDueSend p i y message.Prune = Unit {0}
IsDueSend p i y (message.Publish n b) = Brings i n b
IsDueSend p i y (message.Cast n b) = Brings i n b × Contains p.children y

abbrev pub AreDueSends : Part → Input → List Addressed → Type 0
AreDueSends p i sends = Each (λ (a : Addressed). IsDueSend p i a.receiver a.message) sends

-- a member that had not seen what was brought hears it, and has then seen it
pub record Hears (name : GroupName) (p q : Part) (i : Input) (named : GroupName) (n : Number) (b : Content) : Type 0 where
  pub group : named ≡ name
  pub brought : Brings i n b
  pub member : q.is_member ≡ true
  pub unseen : is_in p.seen n ≡ false
  pub seen : Contains q.seen n

-- from the part p at an input to the part q
abbrev pub IsDueNote : Way → GroupName → Part → Part → Input → GroupNote → Type 0
IsDueNote w name p q i (note.Subscribed n) = Unit {0}
IsDueNote w name p q i (note.Left n) = Unit {0}
IsDueNote w name p q i (note.Published n) = Unit {0}
IsDueNote w name p q i (note.Refused n) = IsNoWay w
IsDueNote w name p q i (note.Heard named n b) = Hears name p q i named n b

pub record Facts (w : Way) (name : GroupName) (p : Part) (i : Input) (o : Outcome) : Type 0 where
  pub place : (y : Id) → o.part.place ≡ Under y → (p.place ≡ Under y) ⊎ (w ≡ way.To y)
  pub children : (c : Id) → Contains o.part.children c → Contains p.children c ⊎ (i ≡ Comes c message.Graft)
  pub seen : (n : Number) → Contains o.part.seen n → Contains p.seen n ⊎ ((b : Content) × Brings i n b)
  pub kept : (n : Number) → Contains p.seen n → Contains o.part.seen n
  pub sends : AreDueSends p i o.sends
  pub notes : Each (IsDueNote w name p o.part i) o.notes
  pub once : (n : Number) → count_by (is_heard n) o.notes ≤ 1

-- a part whose place and numbers are those of p, and whose children are so too, but for one that a Graft brought
record IsBeside (i : Input) (p q : Part) : Type 0 where
  place : q.place ≡ p.place
  children : (c : Id) → Contains q.children c → Contains p.children c ⊎ (i ≡ Comes c message.Graft)
  seen : q.seen ≡ p.seen

beside_itself : (i : Input) (p : Part) → IsBeside i p p
beside_itself i p = record { place = refl; children = λ c d. inl d; seen = refl }

count-cons : (n : Number) (a : GroupNote) (notes : List GroupNote) → count_by (is_heard n) (a ∷ notes) ≡ cond (is_heard n a) 1 0 + count_by (is_heard n) notes
count-cons n a notes = sum_by-cons (λ z. cond (is_heard n z) 1 0) a notes

module _ (w : Way) (name : GroupName) (p : Part) (i : Input) where
  -- ---- what is made of such a part

  moved : (q : Part) (place : Place) (sends : List Addressed) → IsBeside i p q →
      ((y : Id) → place ≡ Under y → (p.place ≡ Under y) ⊎ (w ≡ way.To y)) → AreDueSends p i sends →
      Facts w name p i (becomes (record q { place = place }) sends [])
  moved q place sends b from due = record {
    place = from;
    children = b.children;
    seen = λ n c. inl (subst (λ ns. Contains ns n) b.seen c);
    kept = λ n c. subst (λ ns. Contains ns n) (sym b.seen) c;
    sends = due;
    notes = tt;
    once = λ n. omega arith;
  }

  stays : (q : Part) → IsBeside i p q → Facts w name p i (nothing q)
  stays q b = moved q q.place [] b (λ y e. inl (sym b.place ∙ e)) tt

  -- with a note in front that tells of no hearing
  noted : (a : GroupNote) (o : Outcome) → IsDueNote w name p o.part i a → ((n : Number) → is_heard n a ≡ false) → Facts w name p i o →
      Facts w name p i (noting a o)
  noted a o due quiet f = record {
    place = f.place;
    children = f.children;
    seen = f.seen;
    kept = f.kept;
    sends = f.sends;
    notes = (due, f.notes);
    once = λ n. subst (λ k. k ≤ 1) (sym (count-cons n a o.notes ∙ ap (λ t. cond t 1 0 + count_by (is_heard n) o.notes) (quiet n)))
        (let few = f.once n in omega arith);
  }

  attaches : (q : Part) → IsBeside i p q → Facts w name p i (attach w q)
  attaches q b = by_place q.place refl where
    by_way : (v : Way) → w ≡ v → Facts w name p i (attached v q)
    by_way way.NotReady e = stays q b
    by_way way.Here e = moved q Root [] b (λ y k. cc) tt
    by_way (way.Gap j) e = moved q Orphan [] b (λ y k. cc) tt
    by_way (way.To z) e = moved q (Under z) (to z message.Graft ∷ []) b (λ y k. let same : z ≡ y = cc in inr (e ∙ ap way.To same)) (tt, tt)

    by_place : (place : Place) → q.place ≡ place → Facts w name p i (attached_from w q place)
    by_place Loose e = by_way w refl
    by_place Root e = stays q b
    by_place (Under y) e = stays q b
    by_place Orphan e = stays q b

  trims : (q : Part) → IsBeside i p q → Facts w name p i (trim q)
  trims q b = by_place q.place refl where
    by_place : (place : Place) → q.place ≡ place → Facts w name p i (trimmed_from q place)
    by_place Loose e = stays q b
    by_place Root e = stays q b
    by_place (Under z) e =
        cond_both (is_idle q) (becomes (record q { place = Loose }) (to z message.Prune ∷ []) []) (nothing q) (Facts w name p i)
        (λ _. moved q Loose (to z message.Prune ∷ []) b (λ y k. cc) (tt, tt)) (λ _. stays q b)
    by_place Orphan e = stays q b

  -- ---- what is brought is passed on, or cast

  passes_on : (y : Id) (n : Number) (b : Content) → Brings i n b → Facts w name p i (becomes p (to y (message.Publish n b) ∷ []) [])
  passes_on y n b brought = moved p p.place (to y (message.Publish n b) ∷ []) (beside_itself i p) (λ z e. inl e) (brought, tt)

  to_children : (cs : List Id) (n : Number) (b : Content) → Brings i n b → Each (Contains p.children) cs → AreDueSends p i (to_each cs (message.Cast n b))
  to_children [] n b brought h = tt
  to_children (c ∷ cs) n b brought h = ((brought, h.0), to_children cs n b brought h.1)

  casts_new : (n : Number) (b : Content) → Brings i n b → is_in p.seen n ≡ false →
      Facts w name p i (becomes (record p { seen = p.seen ++ n ∷ [] }) (to_each p.children (message.Cast n b)) (heard name n b p.is_member))
  casts_new n b brought unseen = record {
    place = λ y e. inl e;
    children = λ c d. inl d;
    seen = λ m c. elim (Contains-append_cases p.seen (n ∷ []) m c) [
      | inl d ↦ inl d
      | inr d ↦ elim (Contains-cases n [] m d) [
        | inl same ↦ inr (b, subst (λ k. Brings i k b) (sym same) brought)
        | inr none ↦ absurd (Contains-none m none)
      ]
    ];
    kept = λ m c. Contains-append_left p.seen (n ∷ []) m c;
    sends = to_children p.children n b brought (Each-itself p.children);
    notes = hears p.is_member refl;
    once = λ m. once m p.is_member;
  } where
    q : Part
    q = record p { seen = p.seen ++ n ∷ [] }

    hears : (is : Bool) → p.is_member ≡ is → Each (IsDueNote w name p q i) (heard name n b is)
    hears true e = (
      record {
        group = refl;
        brought = brought;
        member = e;
        unseen = unseen;
        seen = Contains-append_right p.seen (n ∷ []) n (0, omega arith, refl);
      },
      tt,
    )
    hears false e = tt

    once : (m : Number) (is : Bool) → count_by (is_heard m) (heard name n b is) ≤ 1
    once m true = subst (λ k. k ≤ 1) (sym (count-cons m (note.Heard name n b) []))
        (cond_both (n == m) 1 0 (λ k. k + 0 ≤ 1) (λ _. omega arith) (λ _. omega arith))
    once m false = omega arith

  casts : (n : Number) (b : Content) → Brings i n b → Facts w name p i (cast name p n b)
  casts n b brought =
      cond_both (is_in p.seen n) (nothing p)
      (becomes (record p { seen = p.seen ++ n ∷ [] }) (to_each p.children (message.Cast n b)) (heard name n b p.is_member)) (Facts w name p i)
      (λ _. stays p (beside_itself i p)) (λ unseen. casts_new n b brought unseen)

  -- ---- rows that do not depend on what comes

  refuses : (n : Number) → IsNoWay w → Facts w name p i (refuse p n)
  refuses n none = noted (note.Refused n) (nothing p) none (λ m. refl) (stays p (beside_itself i p))

  subscribes : (n : Number) → Facts w name p i (subscribe w p n)
  subscribes n =
      noted (note.Subscribed n) (attach w (record p { is_member = true })) tt (λ m. refl)
      (attaches (record p { is_member = true }) (record { place = refl; children = λ c d. inl d; seen = refl }))

  leaves : (n : Number) → Facts w name p i (on_leave p n)
  leaves n =
      noted (note.Left n) (trim (record p { is_member = false })) tt (λ m. refl)
      (trims (record p { is_member = false }) (record { place = refl; children = λ c d. inl d; seen = refl }))

-- ---- rows by the way

subscribe_row : (w : Way) (name : GroupName) (p : Part) (i : Input) (n : Number) → Facts w name p i (on_subscribe w p n)
subscribe_row way.NotReady name p i n = refuses way.NotReady name p i n tt
subscribe_row way.Here name p i n = subscribes way.Here name p i n
subscribe_row (way.Gap j) name p i n = by_place p.place where
  by_place : (place : Place) → Facts (way.Gap j) name p i (subscribe_beside (way.Gap j) p n place)
  by_place Loose = refuses (way.Gap j) name p i n tt
  by_place Root = subscribes (way.Gap j) name p i n
  by_place (Under y) = subscribes (way.Gap j) name p i n
  by_place Orphan = subscribes (way.Gap j) name p i n
subscribe_row (way.To y) name p i n = subscribes (way.To y) name p i n

publish_row : (w : Way) (name : GroupName) (p : Part) (i : Input) (n : Number) (b : Content) → Brings i n b → Facts w name p i (on_publish w name p n b)
publish_row way.NotReady name p i n b brought = refuses way.NotReady name p i n tt
publish_row way.Here name p i n b brought =
    noted way.Here name p i (note.Published n) (cast name p n b) tt (λ m. refl) (casts way.Here name p i n b brought)
publish_row (way.Gap j) name p i n b brought = refuses (way.Gap j) name p i n tt
publish_row (way.To y) name p i n b brought =
    noted (way.To y) name p i (note.Published n) (becomes p (to y (message.Publish n b) ∷ []) []) tt (λ m. refl) (passes_on (way.To y) name p i y n b brought)

published_row : (w : Way) (name : GroupName) (p : Part) (i : Input) (n : Number) (b : Content) → Brings i n b → Facts w name p i (on_published w name p n b)
published_row way.NotReady name p i n b brought = stays way.NotReady name p i p (beside_itself i p)
published_row way.Here name p i n b brought = casts way.Here name p i n b brought
published_row (way.Gap j) name p i n b brought = stays (way.Gap j) name p i p (beside_itself i p)
published_row (way.To y) name p i n b brought = passes_on (way.To y) name p i y n b brought

-- ---- rows of children

graft_row : (w : Way) (name : GroupName) (p : Part) (s : Id) → Facts w name p (Comes s message.Graft) (on_graft w p s)
graft_row w name p s =
    attaches w name p (Comes s message.Graft) (record p { children = with_child p.children s }) (record { place = refl; children = from; seen = refl }) where
      from : (c : Id) → Contains (with_child p.children s) c → Contains p.children c ⊎ (Comes s message.Graft ≡ Comes c message.Graft)
      from c = cond_both (is_in p.children s) p.children (p.children ++ s ∷ [])
          (λ cs. Contains cs c → Contains p.children c ⊎ (Comes s message.Graft ≡ Comes c message.Graft))
          (λ _ d. inl d)
          (λ _ d. elim (Contains-append_cases p.children (s ∷ []) c d) [
            | inl k ↦ inl k
            | inr k ↦ elim (Contains-cases s [] c k) [
              | inl same ↦ inr (ap (λ x. Comes x message.Graft) (sym same))
              | inr none ↦ absurd (Contains-none c none)
            ]
          ])

prune_row : (w : Way) (name : GroupName) (p : Part) (s : Id) → Facts w name p (Comes s message.Prune) (on_prune p s)
prune_row w name p s =
    trims w name p (Comes s message.Prune) (record p { children = without_child p.children s })
    (record { place = refl; children = λ c d. inl (Contains-from_filter (λ (x : Id). not (x == s)) p.children c d).0; seen = refl })

-- ---- all rows

pub step_facts : (w : Way) (name : GroupName) (p : Part) (i : Input) → Facts w name p i (group_step w name p i)
step_facts w name p (Command n command.Subscribe) = subscribe_row w name p (Command n command.Subscribe) n
step_facts w name p (Command n command.Leave) = leaves w name p (Command n command.Leave) n
step_facts w name p (Command n (command.Publish b)) = publish_row w name p (Command n (command.Publish b)) n b (refl, refl)
step_facts w name p (Comes s message.Graft) = graft_row w name p s
step_facts w name p (Comes s message.Prune) = prune_row w name p s
step_facts w name p (Comes s (message.Publish n b)) = published_row w name p (Comes s (message.Publish n b)) n b (refl, refl)
step_facts w name p (Comes s (message.Cast n b)) = casts w name p (Comes s (message.Cast n b)) n b (refl, refl)
