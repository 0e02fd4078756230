-- What a cell keeps of its passes lasts: as its history grows, as a frame is taken, handled or put.
use Rattle.std.proofs.Common.{◌≡◌, ◌<◌, ℕ, zero, suc, Option, Some, None, option_to_list, List, [], ◌∷◌, ◌++◌, inl, inr, replicate, length, set, refl}
use Rattle.std.proofs.Common.{sym, ap, ◌∙◌, subst, arith}
use Rattle.std.specs.Prelude.{slice_get, Contains}
use Rattle.std.specs.List.{AllZip, flat_map}
use Rattle.std.proofs.lemmas.Bool.{cases_eq}
use Rattle.std.proofs.lemmas.List.{append-nil, get_or-set_same, get_or-set_other}
use Rattle.std.proofs.lemmas.List.Concat.{flat_map-cons}
use Rattle.std.proofs.lemmas.List.Elements.{Contains-append_left, Contains-append_cases}
use Rattle.std.proofs.lemmas.Grind.{flat_map-append}
use Rattle.std.proofs.lemmas.Option.{slice_get_within, none-some}
use Rattle.ring_math.specs.Names.{Id}
use Rattle.weave_laws.specs.Cells.{CellInput, CellEntry, Command, Comes, Noise}
use Rattle.node_mailbox.specs.Pass.{PassView, fresh_pass, after_take}
use Rattle.node_mailbox.specs.Post.{PostView, pass_at}
use Rattle.node_cell.specs.declared.carried.Carried.{Carried}
use Rattle.node_cell.specs.Reading.{IsInputOf}
use Rattle.node_cell.specs.Sent.{sent_by}
use Rattle.node_cell.specs.Carried.{in_frame, came_in_frames, HasTaken, SpellsSent, HasPut, KeepsPasses, KeepsCarried, IsBesidePasses}
use Rattle.node_cell.specs.Equipped.{AreOwnOf}
use Rattle.node_cell.specs.Serving.{with_taken, hand_empty}
use Rattle.node_cell.specs.Posting.{after_puts, with_puts}

-- ---- lists

-- of one item more at the end
pub flat_map-push : {X A : Type 0} (f : X → List A) (xs : List X) (x : X) → flat_map f (xs ++ x ∷ []) ≡ flat_map f xs ++ f x
flat_map-push f xs x = flat_map-append f xs (x ∷ []) ∙ ap (λ l. flat_map f xs ++ l) (flat_map-cons f x [] ∙ append-nil (f x))

zip-append : {A B : Type 0} (R : A → B → Type 0) (xs more_xs : List A) (ys more_ys : List B) → AllZip R xs ys → AllZip R more_xs more_ys →
    AllZip R (xs ++ more_xs) (ys ++ more_ys)
zip-append R [] more_xs [] more_ys h k = k
zip-append R [] more_xs (y ∷ ys) more_ys h k = absurd h
zip-append R (x ∷ xs) more_xs [] more_ys h k = absurd h
zip-append R (x ∷ xs) more_xs (y ∷ ys) more_ys h k = (h.0, zip-append R xs more_xs ys more_ys h.1 k)

pub only_one : (n : ℕ) (x y : List ℕ) → Contains (replicate n x) y → y ≡ x
only_one zero x y has = absurd (omega (arith, has.1))
only_one (suc n) x y has = elim (Contains-append_cases (x ∷ []) (replicate n x) y has) [
  | inl here ↦ first here
  | inr behind ↦ only_one n x y behind
] where
  first : Contains (x ∷ []) y → y ≡ x
  first (zero, lt, is) = sym is
  first (suc k, lt, is) = absurd (omega arith)

-- ---- passes, one of which was changed

-- what a change of one pass keeps of it, it keeps of each
pub changed-same : {X : Type 0} (f : PassView → X) (passes : List PassView) (place y : ℕ) (new : PassView) → place < length passes
    → f new ≡ f (pass_at passes place) → f (pass_at (set passes place new) y) ≡ f (pass_at passes y)
changed-same f passes place y new lt same = elim (cases_eq place y) [
  | inl here ↦
      subst (λ k. f (pass_at (set passes place new) k) ≡ f (pass_at passes k)) here (ap f (get_or-set_same passes place new (fresh_pass (0, 0) 0) lt) ∙ same)
  | inr other ↦ ap f (get_or-set_other passes place y new (fresh_pass (0, 0) 0) (λ e. other (sym e)))
]

-- ---- the history grows

spells_sent-push : (es : List CellEntry) (e : CellEntry) (frame : List ℕ) → SpellsSent es frame → SpellsSent (es ++ e ∷ []) frame
spells_sent-push es e frame s = record {
  envelope = s.envelope;
  sent = subst (λ vs. Contains vs s.envelope) (sym (flat_map-push (λ (d : CellEntry). d.sent) es e))
      (Contains-append_left (sent_by es) e.sent s.envelope s.sent);
  spells = s.spells;
}

has_put-push : (es : List CellEntry) (e : CellEntry) (passes : List PassView) → HasPut es passes → HasPut (es ++ e ∷ []) passes
has_put-push es e passes h = record { each = λ y frame has. spells_sent-push es e frame (h.each y frame has) }

-- by a command
keeps-command : (x : Id) (es : List CellEntry) (e : CellEntry) (c : Carried) → in_frame e.input ≡ [] → KeepsPasses x es c → KeepsPasses x (es ++ e ∷ []) c
keeps-command x es e c none h = record {
  taken = record {
    own = h.taken.own;
    frames = h.taken.frames;
    each = subst (AllZip (IsInputOf x) h.taken.frames)
        (sym (flat_map-push (λ (d : CellEntry). in_frame d.input) es e ∙ ap (λ l. came_in_frames es ++ l) none ∙ append-nil (came_in_frames es)))
        h.taken.each;
    taken = h.taken.taken;
    others = h.taken.others;
  };
  put = has_put-push es e c.passes h.put;
}

-- by an input that comes in no frame that the passes took
pub carried-push : (x : Id) (es : List CellEntry) (e : CellEntry) (o : Option Carried) → IsBesidePasses o e.input → KeepsCarried x es o
    → KeepsCarried x (es ++ e ∷ []) o
carried-push x es e None beside h = tt
carried-push x es e (Some c) beside h = by_input e.input refl beside where
  by_input : (i : CellInput) → e.input ≡ i → IsBesidePasses (Some c) i → KeepsPasses x (es ++ e ∷ []) c
  by_input (Command n k) is b = keeps-command x es e c (ap in_frame is) h
  by_input (Comes v) is b = absurd (none-some c (sym b))
  by_input Noise is b = absurd (none-some c (sym b))

-- without passes every input is beside them
pub beside-none : (o : Option Carried) (i : CellInput) → o ≡ None → IsBesidePasses o i
beside-none o (Command n k) none = tt
beside-none o (Comes v) none = none
beside-none o Noise none = none

-- ---- a frame is taken and handled

-- the frame of an input was in hand, and is no longer
pub keeps-served : (x : Id) (es : List CellEntry) (e : CellEntry) (c : Carried) (frame : List ℕ) → c.in_hand ≡ Some frame → IsInputOf x frame e.input
    → KeepsPasses x es c → KeepsPasses x (es ++ e ∷ []) (hand_empty c)
keeps-served x es e c frame hand is h = record {
  taken = record {
    own = h.taken.own;
    frames = h.taken.frames ++ frame ∷ [];
    each = subst (AllZip (IsInputOf x) (h.taken.frames ++ frame ∷ [])) (sym more)
        (zip-append (IsInputOf x) h.taken.frames (frame ∷ []) (came_in_frames es) (e.input ∷ []) h.taken.each (is, tt));
    taken = h.taken.taken ∙ ap (λ (o : Option (List ℕ)). h.taken.frames ++ option_to_list o) hand ∙ sym (append-nil (h.taken.frames ++ frame ∷ []));
    others = h.taken.others;
  };
  put = has_put-push es e c.passes h.put;
} where
  in_one : (i : CellInput) → IsInputOf x frame i → in_frame i ≡ i ∷ []
  in_one (Command n k) w = absurd w
  in_one (Comes v) w = refl
  in_one Noise w = refl

  more : came_in_frames (es ++ e ∷ []) ≡ came_in_frames es ++ e.input ∷ []
  more = flat_map-push (λ (d : CellEntry). in_frame d.input) es e ∙ ap (λ l. came_in_frames es ++ l) (in_one e.input is)

-- the pass to the node's own mailbox has its frames, whichever one took
own_taken : (x : Id) (es : List CellEntry) (c : Carried) (post : PostView) (place : ℕ) → ((y : ℕ) → slice_get post.nodes y ≡ Some x → y ≡ place)
    → AreOwnOf post x c.passes → (h : HasTaken x es c) → (pass_at c.passes place).taken ≡ h.frames ++ option_to_list c.in_hand
own_taken x es c post place only own h = elim (cases_eq h.own place) [
  | inl here ↦ subst (λ k. (pass_at c.passes k).taken ≡ h.frames ++ option_to_list c.in_hand) here h.taken
  | inr other ↦ h.others place (λ e. other (sym e)) ∙ sym (own.own h.own (λ is. other (only h.own is))) ∙ h.taken
]

pub keeps-taken : (x : Id) (es : List CellEntry) (c : Carried) (post : PostView) (place : ℕ) (frame : List ℕ)
    → ((y : ℕ) → slice_get post.nodes y ≡ Some x → y ≡ place) → slice_get post.nodes place ≡ Some x → c.in_hand ≡ None
    → AreOwnOf post x c.passes → KeepsPasses x es c → KeepsPasses x es (with_taken place frame c)
keeps-taken x es c post place frame only at none own h = record {
  taken = record {
    own = place;
    frames = h.taken.frames;
    each = h.taken.each;
    taken = ap (λ (p : PassView). p.taken) (get_or-set_same c.passes place new (fresh_pass (0, 0) 0) lt)
        ∙ ap (λ l. l ++ frame ∷ []) (own_taken x es c post place only own h.taken ∙ ap (λ (o : Option (List ℕ)). h.taken.frames ++ option_to_list o) none
        ∙ append-nil h.taken.frames);
    others = λ y other. ap (λ (p : PassView). p.taken) (get_or-set_other c.passes place y new (fresh_pass (0, 0) 0) other)
        ∙ own.own y (λ is. other (only y is));
  };
  put = record {
    each = λ y f has. h.put.each y f
        (subst (λ l. Contains l f) (changed-same (λ (p : PassView). p.put) c.passes place y new lt refl) has);
  };
} where
  new : PassView
  new = after_take (pass_at c.passes place) frame

  lt : place < length c.passes
  lt = omega (arith, slice_get_within post.nodes place x at, own.of.count)

-- ---- a frame is put

pub has_put-more : (es : List CellEntry) (passes : List PassView) (place : ℕ) (frame : List ℕ) (n : ℕ) → place < length passes → SpellsSent es frame
    → HasPut es passes → HasPut es (set passes place (after_puts n frame (pass_at passes place)))
has_put-more es passes place frame n lt spells h = record {
  each = λ y f has. elim (cases_eq place y) [
    | inl here ↦
        let there : Contains ((pass_at passes place).put ++ replicate n frame) f =
        subst (λ (p : PassView). Contains p.put f) (get_or-set_same passes place new (fresh_pass (0, 0) 0) lt)
        (subst (λ k. Contains (pass_at (set passes place new) k).put f) (sym here) has) in
        elim (Contains-append_cases (pass_at passes place).put (replicate n frame) f there) [
          | inl old ↦ h.each place f old
          | inr copy ↦ subst (SpellsSent es) (sym (only_one n frame f copy)) spells
        ]
    | inr other ↦
        h.each y f (subst (λ (p : PassView). Contains p.put f) (get_or-set_other passes place y new (fresh_pass (0, 0) 0) (λ e. other (sym e))) has)
  ];
} where
  new : PassView
  new = after_puts n frame (pass_at passes place)

pub keeps-put : (x : Id) (es : List CellEntry) (c : Carried) (place : ℕ) (frame : List ℕ) (n counted : ℕ) → place < length c.passes → SpellsSent es frame
    → KeepsPasses x es c → KeepsPasses x es (with_puts place frame n counted c)
keeps-put x es c place frame n counted lt spells h = record {
  taken = record {
    own = h.taken.own;
    frames = h.taken.frames;
    each = h.taken.each;
    taken = same h.taken.own ∙ h.taken.taken;
    others = λ y other. same y ∙ h.taken.others y other;
  };
  put = has_put-more es c.passes place frame n lt spells h.put;
} where
  new : PassView
  new = after_puts n frame (pass_at c.passes place)

  same : (y : ℕ) → (pass_at (set c.passes place new) y).taken ≡ (pass_at c.passes y).taken
  same y = changed-same (λ (p : PassView). p.taken) c.passes place y new lt refl

-- another number of copies was counted
pub keeps-counted : (x : Id) (es : List CellEntry) (c : Carried) (counted : ℕ) → KeepsPasses x es c → KeepsPasses x es (record c { copies = counted })
keeps-counted x es c counted h = record {
  taken = record {
    own = h.taken.own;
    frames = h.taken.frames;
    each = h.taken.each;
    taken = h.taken.taken;
    others = h.taken.others;
  };
  put = h.put;
}
