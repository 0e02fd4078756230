-- What holds of each delivery, and of each event that a schedule commands, holds of every entry of its play.
use Rattle.std.proofs.Common.{ℕ, zero, suc, ◌+◌, Bool, true, false, nat_lt, if◌then◌else◌, Option, Some, None, List, [], ◌∷◌, length}
use Rattle.overlay_rules.specs.declared.entry.Entry.{Entry}
use Rattle.overlay_rules.specs.declared.entry.Event.{Event}
use Rattle.overlay_rules.specs.declared.entry.Event.TheVariants as event
use Rattle.overlay_rules.specs.Record.{Setting, World, Visit, sent_in, visit}
use Rattle.overlay_rules.specs.Played.{Action as Act, Command, Settle, Deliver, Shuffle, Dup, Noise, Play, entry_at, entry_of, happened, oldest_undelivered}
use Rattle.overlay_rules.specs.Played.{delivered}
use Rattle.overlay_rules.specs.Played.{delivered_oldest, settled, in_world, delivered_once, drawn, shuffled, acted, acted_all, play_at_start}
use Rattle.overlay_rules.proofs.Each.{Each, Each-append}

module _ (P : Event → Type 0) (of_delivery : (m : ℕ) → P (event.Deliver m)) where
  -- of an action that is an event
  abbrev pub OfAct : Act → Type 0
  OfAct (Command x n c) = P (event.Command x n c)
  OfAct (Settle n) = Unit {0}
  OfAct (Deliver m) = Unit {0}
  OfAct (Shuffle words) = Unit {0}
  OfAct (Dup n) = Unit {0}
  OfAct (Noise x) = P (event.Noise x)

  -- of every entry so far
  pub record OfAll (w : World) : Type 0 where
    pub each : Each (λ (e : Entry). P e.event) w.past

  its_event : (w : World) (v : Event) (at : Option Visit) → P v → P (entry_at w v at).event
  its_event w v None now = now
  its_event w v (Some at) now = now

  one_event : (w : World) (v : Event) → OfAll w → P v → OfAll (happened w v)
  one_event w v h now = record {
    each = Each-append (λ (e : Entry). P e.event) w.past (entry_of w v ∷ []) h.each (its_event w v (visit (sent_in w.past) v) now, tt);
  }

  of_copies : (n m : ℕ) (w : World) → OfAll w → OfAll (delivered n m w)
  of_copies zero m w h = h
  of_copies (suc n) m w h = of_copies n m (happened w (event.Deliver m)) (one_event w (event.Deliver m) h (of_delivery m))

  of_oldest : (copies : ℕ) (o : Option ℕ) (w : World) → OfAll w → OfAll (delivered_oldest copies o w)
  of_oldest copies None w h = h
  of_oldest copies (Some m) w h = of_copies copies m w h

  of_settle : (n copies : ℕ) (w : World) → OfAll w → OfAll (settled n copies w)
  of_settle zero copies w h = h
  of_settle (suc n) copies w h =
      of_settle n copies (delivered_oldest copies (oldest_undelivered w) w) (of_oldest copies (oldest_undelivered w) w h)

  of_once : (m : ℕ) (p : Play) → OfAll p.world → OfAll (delivered_once m p).world
  of_once m p h = by (nat_lt m (length (sent_in p.world.past)))
    where
      by : (b : Bool) → OfAll (if b then in_world p (happened p.world (event.Deliver m)) else record p { skipped = p.skipped + 1 }).world
      by true = one_event p.world (event.Deliver m) h (of_delivery m)
      by false = h

  of_shuffle : (words : List ℕ) (p : Play) → OfAll p.world → OfAll (shuffled words p).world
  of_shuffle [] p h = h
  of_shuffle (word ∷ words) p h =
      let next : Play = delivered_once (drawn word (length (sent_in p.world.past))) p in
      of_shuffle words next (of_once (drawn word (length (sent_in p.world.past))) p h)

  of_act : (act : Act) (p : Play) → OfAct act → OfAll p.world → OfAll (acted act p).world
  of_act (Command x n c) p now h = one_event p.world (event.Command x n c) h now
  of_act (Settle n) p now h = of_settle n p.copies p.world h
  of_act (Deliver m) p now h = of_once m p h
  of_act (Shuffle words) p now h = of_shuffle words p h
  of_act (Dup n) p now h = h
  of_act (Noise x) p now h = one_event p.world (event.Noise x) h now

  of_acts : (acts : List Act) (p : Play) → Each OfAct acts → OfAll p.world → OfAll (acted_all acts p).world
  of_acts [] p each h = h
  of_acts (act ∷ acts) p each h = of_acts acts (acted act p) each.1 (of_act act p each.0 h)

  pub of_play : (g : Setting) (acts : List Act) → Each OfAct acts → OfAll (acted_all acts (play_at_start g)).world
  of_play g acts each = of_acts acts (play_at_start g) each (record { each = tt })
