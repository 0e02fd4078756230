-- What cells took was sent, once their passes are joined: each frame that one took was put, by one of them.
use Rattle.std.proofs.Common.{◌≡◌, ◌<◌, ◌≤◌, ◌+◌, ℕ, zero, suc, Option, Some, None, option_to_list, List, [], ◌∷◌, ◌++◌, ◌⊎◌, inl, inr, length, map}
use Rattle.std.proofs.Common.{take, drop, set, get_or, drop_of_length-le, refl, sym, ap, ap₂, ◌∙◌, subst, arith}
use Rattle.std.specs.Prelude.{All, Contains}
use Rattle.std.specs.List.{AllZip, flat_map, sum_by}
use Rattle.std.proofs.lemmas.Bool.{cases_lt}
use Rattle.std.proofs.lemmas.List.{append-nil, append_assoc, take_all, map-append, length-map, length-take-le, set_at, take_more, drop_more}
use Rattle.std.proofs.lemmas.List.{get_or_at, get_or_default}
use Rattle.std.proofs.lemmas.List.Sums.{sum_by-cons}
use Rattle.std.proofs.lemmas.List.Elements.{Contains-append_left, Contains-append_right, Contains-append_cases}
use Rattle.ring_math.specs.Names.{Id}
use Rattle.wire_msg.specs.Words.{Envelope}
use Rattle.wire_codec.specs.Spelling.{Spells}
use Rattle.wire_codec.proofs.Frames.{one_envelope}
use Rattle.overlay_rules.proofs.Each.{Each, Each-append, Each-contains}
use Rattle.weave_laws.specs.Cells.{CellEntry, History, Comes}
use Rattle.weave_laws.specs.Answered.{IsSentIn, AllSent}
use Rattle.node_mailbox.specs.Pass.{PassView, TookOnlyPut, after_join, fresh_pass}
use Rattle.node_mailbox.specs.Post.{PostView, AreOf, pass_at, after_joins}
use Rattle.node_mailbox.specs.declared.limits.TheConstants.{ALL_PARTS}
use Rattle.node_mailbox.proofs.Counting.{taken_was_put}
use Rattle.node_cell.specs.declared.carried.Carried.{Carried}
use Rattle.node_cell.specs.Cell.{Cell}
use Rattle.node_cell.specs.Reading.{IsInputOf}
use Rattle.node_cell.specs.Carried.{in_frame, came_in_frames, HasTaken, SpellsSent, KeepsPasses, KeepsCarried}
use Rattle.node_cell.specs.Equipped.{CarriesOf, HasPassesOf, TookOut, parts_at, passes_in, passes_of}
use Rattle.node_cell.specs.Gathering.{HasAllParts, HaveAllParts, PutNoiseAlone, all_joined, without_passes}
use Rattle.node_cell.specs.Histories.{histories, kept_history}

-- ---- what stands in lists that are made of others

contains-here : {A : Type 0} (x : A) (xs : List A) → Contains (x ∷ xs) x
contains-here x xs = (0, omega arith, refl)

contains-behind : {A : Type 0} (x : A) (xs : List A) (y : A) → Contains xs y → Contains (x ∷ xs) y
contains-behind x xs y (k, lt, is) = (suc k, omega arith, is)

contains-cases : {A : Type 0} (x : A) (xs : List A) (y : A) → Contains (x ∷ xs) y → (x ≡ y) ⊎ Contains xs y
contains-cases x xs y (zero, lt, is) = inl is
contains-cases x xs y (suc k, lt, is) = inr (k, omega arith, is)

none_there : {A : Type 0} (x : A) → Contains [] x → ⊥
none_there x has = omega (arith, has.1)

mapped_from : {A B : Type 0} (f : A → B) (xs : List A) (y : B) → Contains (map f xs) y → (x : A) × Contains xs x × (f x ≡ y)
mapped_from f [] y has = absurd (none_there y has)
mapped_from f (x ∷ xs) y has = elim (contains-cases (f x) (map f xs) y has) [
  | inl here ↦ (x, contains-here x xs, here)
  | inr behind ↦ let r = mapped_from f xs y behind in (r.0, contains-behind x xs r.0 r.1, r.2)
]

-- what stands in such a list is of one of those that it is made of
pub flat_from : {A B : Type 0} (f : A → List B) (xs : List A) (y : B) → Contains (flat_map f xs) y → (x : A) × Contains xs x × Contains (f x) y
flat_from f [] y has = absurd (none_there y has)
flat_from f (x ∷ xs) y has = elim (Contains-append_cases (f x) (flat_map f xs) y has) [
  | inl here ↦ (x, contains-here x xs, here)
  | inr behind ↦ let r = flat_from f xs y behind in (r.0, contains-behind x xs r.0 r.1, r.2)
]

flat_to : {A B : Type 0} (f : A → List B) (xs : List A) (x : A) (y : B) → Contains xs x → Contains (f x) y → Contains (flat_map f xs) y
flat_to f [] x y there has = absurd (none_there x there)
flat_to f (z ∷ xs) x y there has = elim (contains-cases z xs x there) [
  | inl here ↦ Contains-append_left (f z) (flat_map f xs) y (subst (λ w. Contains (f w) y) (sym here) has)
  | inr behind ↦ Contains-append_right (f z) (flat_map f xs) y (flat_to f xs x y behind has)
]

zip_right : {A B : Type 0} (R : A → B → Type 0) (xs : List A) (ys : List B) (y : B) → AllZip R xs ys → Contains ys y → (x : A) × Contains xs x × R x y
zip_right R [] [] y z has = absurd (none_there y has)
zip_right R [] (b ∷ ys) y z has = absurd z
zip_right R (a ∷ xs) [] y z has = absurd z
zip_right R (a ∷ xs) (b ∷ ys) y z has = elim (contains-cases b ys y has) [
  | inl here ↦ (a, contains-here a xs, subst (R a) here z.0)
  | inr behind ↦ let r = zip_right R xs ys y z.1 behind in (r.0, contains-behind a xs r.0 r.1, r.2)
]

-- ---- passes that are joined, one to each mailbox

abbrev HasLength : ℕ → Cell → Type 0
HasLength n c = length (passes_of c) ≡ n

at-joins : (ps qs : List PassView) (y : ℕ) → length qs ≡ length ps → pass_at (after_joins ps qs) y ≡ after_join (pass_at ps y) (pass_at qs y)
at-joins [] [] y long = refl
at-joins [] (q ∷ qs) y long = absurd (omega arith)
at-joins (p ∷ ps) [] y long = absurd (omega arith)
at-joins (p ∷ ps) (q ∷ qs) zero long = refl
at-joins (p ∷ ps) (q ∷ qs) (suc y) long = at-joins ps qs y (omega arith)

length-joins : (ps qs : List PassView) → length qs ≡ length ps → length (after_joins ps qs) ≡ length ps
length-joins [] [] long = refl
length-joins [] (q ∷ qs) long = absurd (omega arith)
length-joins (p ∷ ps) [] long = refl
length-joins (p ∷ ps) (q ∷ qs) long = let rest = length-joins ps qs (omega arith) in omega arith

parts-joined : (n y : ℕ) (own : List PassView) (cells : List Cell) → length own ≡ n → Each (HasLength n) cells →
    (pass_at (all_joined own cells) y).parts ≡ (pass_at own y).parts + sum_by (parts_at y) cells
parts-joined n y own [] long each = omega arith
parts-joined n y own (c ∷ cs) long each =
    let here : (pass_at (after_joins own (passes_of c)) y).parts ≡ (pass_at own y).parts + parts_at y c =
    ap (λ (p : PassView). p.parts) (at-joins own (passes_of c) y (each.0 ∙ sym long)) in
    let rest = parts-joined n y (after_joins own (passes_of c)) cs (length-joins own (passes_of c) (each.0 ∙ sym long) ∙ long) each.1 in
    omega (arith, sum_by-cons (parts_at y) c cs)

own_taken : (n y : ℕ) (own : List PassView) (cells : List Cell) (frame : List ℕ) → length own ≡ n → Each (HasLength n) cells →
    Contains (pass_at own y).taken frame → Contains (pass_at (all_joined own cells) y).taken frame
own_taken n y own [] frame long each has = has
own_taken n y own (c ∷ cs) frame long each has =
    own_taken n y (after_joins own (passes_of c)) cs frame (length-joins own (passes_of c) (each.0 ∙ sym long) ∙ long) each.1
    (subst (λ (p : PassView). Contains p.taken frame) (sym (at-joins own (passes_of c) y (each.0 ∙ sym long)))
    (Contains-append_left (pass_at own y).taken (pass_at (passes_of c) y).taken frame has))

cell_taken : (n y : ℕ) (own : List PassView) (cells : List Cell) (c : Cell) (frame : List ℕ) → length own ≡ n → Each (HasLength n) cells →
    Contains cells c → Contains (pass_at (passes_of c) y).taken frame → Contains (pass_at (all_joined own cells) y).taken frame
cell_taken n y own [] c frame long each there has = absurd (none_there c there)
cell_taken n y own (d ∷ ds) c frame long each there has =
    let same : length (passes_of d) ≡ length own = each.0 ∙ sym long in
    let next : length (after_joins own (passes_of d)) ≡ n = length-joins own (passes_of d) same ∙ long in
    elim (contains-cases d ds c there) [
      | inl here ↦
          own_taken n y (after_joins own (passes_of d)) ds frame next each.1
          (subst (λ (p : PassView). Contains p.taken frame) (sym (at-joins own (passes_of d) y same))
          (Contains-append_right (pass_at own y).taken (pass_at (passes_of d) y).taken frame
          (subst (λ (e : Cell). Contains (pass_at (passes_of e) y).taken frame) (sym here) has)))
      | inr behind ↦ cell_taken n y (after_joins own (passes_of d)) ds c frame next each.1 behind has
    ]

-- what was put by joined passes was put by the first ones or by those of a cell
pub record PutByCell (y : ℕ) (cells : List Cell) (frame : List ℕ) : Type 0 where
  pub cell : Cell
  pub among : Contains cells cell
  pub put : Contains (pass_at (passes_of cell) y).put frame

who_put : (n y : ℕ) (own : List PassView) (cells : List Cell) (frame : List ℕ) → length own ≡ n → Each (HasLength n) cells →
    Contains (pass_at (all_joined own cells) y).put frame → Contains (pass_at own y).put frame ⊎ PutByCell y cells frame
who_put n y own [] frame long each has = inl has
who_put n y own (d ∷ ds) frame long each has =
    let same : length (passes_of d) ≡ length own = each.0 ∙ sym long in
    elim (who_put n y (after_joins own (passes_of d)) ds frame (length-joins own (passes_of d) same ∙ long) each.1 has) [
      | inl first ↦
          elim (Contains-append_cases (pass_at own y).put (pass_at (passes_of d) y).put frame
          (subst (λ (p : PassView). Contains p.put frame) (at-joins own (passes_of d) y same) first)) [
            | inl own_put ↦ inl own_put
            | inr here ↦ inr (record { cell = d; among = contains-here d ds; put = here })
          ]
      | inr behind ↦ inr (record { cell = behind.cell; among = contains-behind d ds behind.cell behind.among; put = behind.put })
    ]

-- ---- what came to a cell was taken, and what it put was sent

abbrev pub KeepsOwn : Cell → Type 0
KeepsOwn c = KeepsCarried c.node c.history c.carried

-- its own passes took a frame of each envelope that came to it
record TookFrameOf (c : Cell) (v : Envelope) : Type 0 where
  frame : List ℕ
  spells : Spells frame v
  place : ℕ
  there : Contains (pass_at (passes_of c) place).taken frame

took_frame : (c : Cell) (e : CellEntry) (v : Envelope) → (k : Carried) → c.carried ≡ Some k → KeepsOwn c → Contains c.history e → e.input ≡ Comes v →
    TookFrameOf c v
took_frame c e v k is keeps there came =
    let kept : KeepsPasses c.node c.history k = subst (KeepsCarried c.node c.history) is keeps in
    let h : HasTaken c.node c.history k = kept.taken in
    let input : Contains (came_in_frames c.history) (Comes v) =
    flat_to (λ (d : CellEntry). in_frame d.input) c.history e (Comes v) there
    (subst (λ i. Contains (in_frame i) (Comes v)) (sym came) (contains-here (Comes v) [])) in
    let found = zip_right (IsInputOf c.node) h.frames (came_in_frames c.history) (Comes v) h.each input in
    record {
      frame = found.0;
      spells = found.2.spells;
      place = h.own;
      there = subst (λ ps. Contains (pass_at ps h.own).taken found.0) (sym (ap passes_in is))
          (subst (λ l. Contains l found.0) (sym h.taken) (Contains-append_left h.frames (option_to_list k.in_hand) found.0 found.1));
    }

sent_by_cell : (y : ℕ) (c : Cell) (frame : List ℕ) → KeepsOwn c → Contains (pass_at (passes_of c) y).put frame → SpellsSent c.history frame
sent_by_cell y c frame keeps has = by_carried c.carried keeps has where
  by_carried : (o : Option Carried) → KeepsCarried c.node c.history o → Contains (pass_at (passes_in o) y).put frame → SpellsSent c.history frame
  by_carried None k h = absurd (none_there frame h)
  by_carried (Some k) kept h = kept.put.each y frame h

carries_length : (post : PostView) (x : Id) (o : Option Carried) → CarriesOf post x o → length (passes_in o) ≡ length post.nodes
carries_length post x None h = absurd h
carries_length post x (Some c) h = h.of.count

lengths : (post : PostView) (cells : List Cell) → Each (HasPassesOf post) cells → Each (HasLength (length post.nodes)) cells
lengths post [] h = tt
lengths post (c ∷ cs) h = (carries_length post c.node c.carried h.0, lengths post cs h.1)

carries : (post : PostView) (c : Cell) → HasPassesOf post c → (k : Carried) × (c.carried ≡ Some k)
carries post c h = by_carried c.carried h where
  by_carried : (o : Option Carried) → CarriesOf post c.node o → (k : Carried) × (o ≡ Some k)
  by_carried None h = absurd h
  by_carried (Some k) h = (k, refl)

within : (passes : List PassView) (y : ℕ) (frame : List ℕ) → Contains (pass_at passes y).taken frame → y < length passes
within [] y frame has = absurd (none_there frame has)
within (p ∷ ps) zero frame has = omega arith
within (p ∷ ps) (suc y) frame has = let rest = within ps y frame has in omega arith

-- ---- the law

pub all_parts : (post : PostView) (own : List PassView) (cells : List Cell) (all : List PassView) → AreOf own post → Each (HasPassesOf post) cells →
    HaveAllParts post own cells → all ≡ all_joined own cells → AreOf all post → All HasAllParts all
all_parts post own cells all own_of of parts joined all_of = λ y d lt.
    let long : length all ≡ length post.nodes = all_of.count in
    let total = parts-joined (length post.nodes) y own cells own_of.count (lengths post cells of) in
    let whole = parts.parts y (omega arith) in
    let at : (pass_at all y).parts ≡ ALL_PARTS = ap (λ l. (pass_at l y).parts) joined ∙ total ∙ whole in
    ap (λ (p : PassView). p.parts) (get_or_default all y d (fresh_pass (0, 0) 0) lt) ∙ at

-- a cell sent the envelope of a frame that it put
sent_in : (cells : List Cell) (c : Cell) (v : Envelope) (frame : List ℕ) → Contains cells c → Spells frame v → SpellsSent c.history frame →
    IsSentIn (histories cells) v
sent_in cells c v frame among spells sent =
    let same : sent.envelope ≡ v = one_envelope frame sent.envelope v sent.spells spells in
    let entry = flat_from (λ (e : CellEntry). e.sent) c.history sent.envelope sent.sent in
    record {
      history = kept_history c;
      among = kept_among cells among;
      entry = entry.0;
      there = entry.1;
      sent = subst (Contains entry.0.sent) same entry.2;
    }
  where
    kept_among : (ds : List Cell) → Contains ds c → Contains (histories ds) (kept_history c)
    kept_among [] there = absurd (none_there c there)
    kept_among (d ∷ ds) there = elim (contains-cases d ds c there) [
      | inl here ↦ subst (λ (b : Cell). Contains (kept_history d ∷ histories ds) (kept_history b)) here (contains-here (kept_history d) (histories ds))
      | inr behind ↦ contains-behind (kept_history d) (histories ds) (kept_history c) (kept_among ds behind)
    ]

pub all_sent : (post : PostView) (own : List PassView) (cells : List Cell) (all : List PassView) → AreOf own post → Each (HasPassesOf post) cells →
    HaveAllParts post own cells → PutNoiseAlone own → all ≡ all_joined own cells → AreOf all post → All TookOnlyPut all → Each KeepsOwn cells →
    AllSent (histories cells)
all_sent post own cells all own_of of parts noise joined all_of fair keeps = record {
  sent = λ h e v among there came. from (mapped_from kept_history cells h among) e v there came;
} where
  n : ℕ
  n = length post.nodes

  each : Each (HasLength n) cells
  each = lengths post cells of

  put_of : (c : Cell) (v : Envelope) → Contains cells c → (t : TookFrameOf c v) → Contains (pass_at (all_joined own cells) t.place).put t.frame
  put_of c v among t =
      let taken : Contains (pass_at all t.place).taken t.frame =
      subst (λ l. Contains (pass_at l t.place).taken t.frame) (sym joined)
      (cell_taken n t.place own cells c t.frame own_of.count each among t.there) in
      let lt : t.place < length all = within all t.place t.frame taken in
      subst (λ l. Contains (pass_at l t.place).put t.frame) joined
      (taken_was_put (pass_at all t.place) t.frame (all_parts post own cells all own_of of parts joined all_of t.place (fresh_pass (0, 0) 0) lt)
      (fair t.place (fresh_pass (0, 0) 0) lt) taken)

  sender : (c : Cell) (v : Envelope) → Contains cells c → TookFrameOf c v → IsSentIn (histories cells) v
  sender c v among t = elim (who_put n t.place own cells t.frame own_of.count each (put_of c v among t)) [
    | inl own_put ↦ absurd (noise.noise t.place t.frame v own_put t.spells)
    | inr by ↦ sent_in cells by.cell v t.frame by.among t.spells
        (sent_by_cell t.place by.cell t.frame (Each-contains KeepsOwn cells by.cell keeps by.among) by.put)
  ]

  from : {h : History} → (c : Cell) × Contains cells c × (kept_history c ≡ h) → (e : CellEntry) (v : Envelope) → Contains h.entries e → e.input ≡ Comes v →
      IsSentIn (histories cells) v
  from found e v there came =
      let c : Cell = found.0 in
      let k = carries post c (Each-contains (HasPassesOf post) cells c of found.1) in
      let inside : Contains c.history e = subst (λ (g : History). Contains g.entries e) (sym found.2) there in
      sender c v found.1 (took_frame c e v k.0 k.1 (Each-contains KeepsOwn cells c keeps found.1) inside came)

-- ---- cell by cell

-- the passes of the first cells are in
pub record Gathering (post : PostView) (i : ℕ) (own : List PassView) (start now : List Cell) (all : List PassView) : Type 0 where
  pub of : AreOf all post
  pub joined : all_joined all (drop i start) ≡ all_joined own start
  pub cells : now ≡ map without_passes (take i start) ++ drop i start
  pub kept : Each KeepsOwn (take i start)
  pub fair : 0 < i → All TookOnlyPut all

pub gathering_none : (post : PostView) (own : List PassView) (start : List Cell) → AreOf own post → Gathering post 0 own start start own
gathering_none post own start of = record { of = of; joined = refl; cells = refl; kept = tt; fair = λ lt. absurd (omega arith) }

pub gathering_more : (post : PostView) (i : ℕ) (own : List PassView) (start now : List Cell) (all next : List PassView) (c : Cell) (passes : List PassView)
    (hand : Option (List ℕ)) (after : Cell) → i < length start → c ≡ get_or now i c → TookOut c passes hand after → AreOf next post →
    next ≡ after_joins all passes → All TookOnlyPut next → Gathering post i own start now all → Gathering post (i + 1) own start (set now i after) next
gathering_more post i own start now all next c passes hand after lt is out of made fair g = record {
  of = of;
  joined = ap (λ l. all_joined l (drop (i + 1) start)) (made ∙ ap (after_joins all) (out.passes_are ∙ ap passes_in (sym out.was)))
      ∙ ap (all_joined all) (sym rest) ∙ g.joined;
  cells = ap (λ l. set l i after) split
      ∙ set_at front c (drop (i + 1) start) after i front_long
      ∙ ap (λ (z : Cell). front ++ z ∷ drop (i + 1) start) out.same
      ∙ sym (append_assoc front (without_passes c ∷ []) (drop (i + 1) start))
      ∙ ap (λ l. l ++ drop (i + 1) start) (sym (ap (map without_passes) more ∙ map-append without_passes (take i start) (c ∷ [])));
  kept = subst (Each KeepsOwn) (sym more)
      (Each-append KeepsOwn (take i start) (c ∷ []) g.kept (subst (KeepsCarried c.node c.history) (sym out.was) out.kept, tt));
  fair = λ lt. fair;
} where
  front : List Cell
  front = map without_passes (take i start)

  front_long : length front ≡ i
  front_long = length-map (take i start) without_passes ∙ length-take-le i start (omega arith)

  at : get_or start i c ≡ c
  at = sym (is ∙ ap (λ l. get_or l i c) (g.cells ∙ ap (λ l. front ++ l) (drop_more start i c lt))
      ∙ get_or_at front (get_or start i c) (drop (i + 1) start) c i front_long)

  rest : drop i start ≡ c ∷ drop (i + 1) start
  rest = drop_more start i c lt ∙ ap (λ (z : Cell). z ∷ drop (i + 1) start) at

  more : take (i + 1) start ≡ take i start ++ c ∷ []
  more = take_more start i c lt ∙ ap (λ (z : Cell). take i start ++ z ∷ []) at

  split : now ≡ front ++ c ∷ drop (i + 1) start
  split = g.cells ∙ ap (λ l. front ++ l) rest

-- all are in
pub record Gathered (own : List PassView) (start now : List Cell) (all : List PassView) : Type 0 where
  pub joined : all ≡ all_joined own start
  pub cells : now ≡ map without_passes start
  pub kept : Each KeepsOwn start
  pub fair : All TookOnlyPut all

pub gathering_end : (post : PostView) (i : ℕ) (own : List PassView) (start now : List Cell) (all : List PassView) → length start ≤ i →
    length start ≡ length post.nodes → Gathering post i own start now all → Gathered own start now all
gathering_end post i own start now all end whole g = record {
  joined = sym (ap (all_joined all) none) ∙ g.joined;
  cells = g.cells ∙ ap₂ (λ front rest. map without_passes front ++ rest) (take_all i start end) none ∙ append-nil (map without_passes start);
  kept = subst (Each KeepsOwn) (take_all i start end) g.kept;
  fair = elim (cases_lt 0 i) [
    | inl some ↦ g.fair some
    | inr first ↦ λ k d lt. absurd (omega (arith, g.of.count))
  ];
} where
  none : drop i start ≡ []
  none = drop_of_length-le start end

pub same_histories : (cells : List Cell) → histories (map without_passes cells) ≡ histories cells
same_histories [] = refl
same_histories (c ∷ cs) = ap (λ l. kept_history c ∷ l) (same_histories cs)
