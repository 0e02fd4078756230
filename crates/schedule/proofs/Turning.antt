-- The turns of an action that has begun.
use Rattle.std.proofs.Common.{◌≡◌, ◌<◌, ◌≤◌, ℕ, zero, suc, ◌+◌, ◌-◌, Option, Some, None, List, [], ◌∷◌, ◌++◌, replicate, refl, sym, subst, ap, ◌∙◌}
use Rattle.std.proofs.Common.{◌⊎◌, inl, inr, arith, append_assoc, add-one}
use Rattle.overlay_rules.specs.declared.entry.Event.TheVariants as event
use Rattle.overlay_rules.specs.Played.{Action as Act, Settle, Deliver, Shuffle, drawn}
use Rattle.schedule.specs.declared.turn.Turn.{Turn}
use Rattle.schedule.specs.declared.turn.Turn.TheVariants as turn
use Rattle.schedule.specs.Begun.{Gives, IsDelivery}
use Rattle.schedule.specs.Turns.{Happens, turned, delivery}
use Rattle.schedule.specs.Words.{words_from, word_of}

-- one delivery of a message
pub gives_delivery : (m copies sent : ℕ) (oldest : Option ℕ) (t : Turn) → IsDelivery m sent t → Gives (Deliver m ∷ []) copies sent oldest [] t
gives_delivery m copies sent oldest t h = record { step = delivery m sent; means = h; is = λ acts. refl }

-- a further copy of a delivery
pub gives_again : (m again left copies sent : ℕ) (oldest : Option ℕ) (t : Turn) → 0 < again → IsDelivery m sent t →
    Gives (replicate again (Deliver m) ++ Settle left ∷ []) copies sent oldest (replicate (again - 1) (Deliver m) ++ Settle left ∷ []) t
gives_again m again left copies sent oldest t lt h =
    subst (λ n. Gives (replicate n (Deliver m) ++ Settle left ∷ []) copies sent oldest (replicate (again - 1) (Deliver m) ++ Settle left ∷ []) t) more one
  where
    more : suc (again - 1) ≡ again
    more = omega arith

    one : Gives (replicate (suc (again - 1)) (Deliver m) ++ Settle left ∷ []) copies sent oldest (replicate (again - 1) (Deliver m) ++ Settle left ∷ []) t
    one = record { step = delivery m sent; means = h; is = λ acts. refl }

-- the oldest message of a settle, the first of its copies
gives_first : (m left copies sent o : ℕ) →
    Gives (Settle (suc left) ∷ []) (suc copies) sent (Some o) (replicate copies (Deliver o) ++ Settle left ∷ []) (turn.Deliver o)
gives_first m left copies sent o = record {
  step = Happens (event.Deliver o);
  means = λ actions. refl;
  is = λ acts. ap (λ (front : List Act). record { step = Happens (event.Deliver o); left = front; copies = suc copies })
      (sym (append_assoc (replicate copies (Deliver o)) (Settle left ∷ []) acts));
}

pub gives_oldest : (m again left copies sent o : ℕ) → again ≤ 0 → (left ≡ 0 → ⊥) → 1 ≤ copies →
    Gives (replicate again (Deliver m) ++ Settle left ∷ []) copies sent (Some o) (replicate (copies - 1) (Deliver o) ++ Settle (left - 1) ∷ []) (turn.Deliver o)
gives_oldest m again left copies sent o none some copied =
    subst (λ a. Gives (replicate a (Deliver m) ++ Settle left ∷ []) copies sent (Some o) (replicate (copies - 1) (Deliver o) ++ Settle (left - 1) ∷ [])
    (turn.Deliver o)) nothing
    (subst (λ n. Gives (Settle n ∷ []) copies sent (Some o) (replicate (copies - 1) (Deliver o) ++ Settle (left - 1) ∷ []) (turn.Deliver o)) more
    (subst (λ k. Gives (Settle (suc (left - 1)) ∷ []) k sent (Some o) (replicate (copies - 1) (Deliver o) ++ Settle (left - 1) ∷ []) (turn.Deliver o)) enough
    (gives_first m (left - 1) (copies - 1) sent o)))
  where
    nothing : 0 ≡ again
    nothing = omega arith

    more : suc (left - 1) ≡ left
    more = omega arith

    enough : suc (copies - 1) ≡ copies
    enough = omega arith

-- a settle that is at its end
pub settle_ends : (m again left copies sent : ℕ) (oldest : Option ℕ) → again ≤ 0 → (left ≡ 0) ⊎ (oldest ≡ None) → (acts : List Act) →
    turned ((replicate again (Deliver m) ++ Settle left ∷ []) ++ acts) copies sent oldest ≡ turned acts copies sent oldest
settle_ends m (suc again) left copies sent oldest none ends acts = absurd (omega arith)
settle_ends m zero zero copies sent oldest none ends acts = refl
settle_ends m zero (suc left) copies sent oldest none (inl h) acts = absurd (omega arith)
settle_ends m zero (suc left) copies sent oldest none (inr h) acts = rw h refl

-- the first of the words of a shuffle, and the others
words_next : (seed next end : ℕ) → next < end → words_from seed next (end - next) ≡ word_of seed next ∷ words_from seed (next + 1) (end - (next + 1))
unfolding words_from
words_next seed next end some =
    ap (λ n. words_from seed next n) more ∙ ap (λ n. word_of seed next ∷ words_from seed n (end - (next + 1))) (sym (add-one next))
  where
    more : end - next ≡ suc (end - (next + 1))
    more = omega arith

-- the next word of a shuffle
pub gives_word : (seed next end word m copies sent : ℕ) (oldest : Option ℕ) (t : Turn) → next < end → word ≡ word_of seed next → m ≡ drawn word sent →
    IsDelivery m sent t →
    Gives (Shuffle (words_from seed next (end - next)) ∷ []) copies sent oldest (Shuffle (words_from seed (next + 1) (end - (next + 1))) ∷ []) t
gives_word seed next end word m copies sent oldest t some is at h = record {
  step = delivery m sent;
  means = h;
  is = λ acts.
      ap (λ ws. turned (Shuffle ws ∷ acts) copies sent oldest) (words_next seed next end some) ∙
      ap (λ n. record { step = delivery n sent; left = Shuffle (words_from seed (next + 1) (end - (next + 1))) ∷ acts; copies = copies }) same;
}
  where
    same : drawn (word_of seed next) sent ≡ m
    same = ap (λ w. drawn w sent) (sym is) ∙ sym at

-- a shuffle that is at its end
pub shuffle_ends : (seed next end copies sent : ℕ) (oldest : Option ℕ) → end ≤ next → (acts : List Act) →
    turned (Shuffle (words_from seed next (end - next)) ∷ acts) copies sent oldest ≡ turned acts copies sent oldest
unfolding words_from
shuffle_ends seed next end copies sent oldest none acts =
    ap (λ n. turned (Shuffle (words_from seed next n) ∷ acts) copies sent oldest) over
  where
    over : end - next ≡ 0
    over = omega arith
