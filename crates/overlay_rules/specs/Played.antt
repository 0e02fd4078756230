-- The one record that a schedule of actions gives.
use Rattle.std.specs.Prelude.{ℕ, zero, suc, ◌+◌, ◌%◌, nat_lt, Bool, false, ◌==◌, if◌then◌else◌, Option, Some, None, List, [], ◌∷◌, length, map}
use Rattle.std.specs.List.{list_any}
use Rattle.ring_math.specs.Names.{Id, Number}
use Rattle.wire_msg.specs.declared.command.Command.{Command as NodeCommand}
use Rattle.overlay_rules.specs.declared.entry.Event.{Event}
use Rattle.overlay_rules.specs.declared.entry.Event.TheVariants as event
use Rattle.overlay_rules.specs.declared.entry.Entry.{Entry}
use Rattle.overlay_rules.specs.Step.{step}
use Rattle.overlay_rules.specs.Record.{Setting, World, Visit, visit, sent_in, enveloped, after, world_at_start}

-- the actions of a scenario, those of a shuffle with its random words
pub data Action : Type 0 where
  Command : (node : Id) (number : Number) (command : NodeCommand) → Action
  Settle : (count : ℕ) → Action
  Deliver : (message : ℕ) → Action
  Shuffle : (words : List ℕ) → Action
  Dup : (copies : ℕ) → Action
  Noise : (node : Id) → Action

-- how far a schedule is played: the world, how often a settle delivers, and the deliveries that found no message
pub record Play : Type 0 where
  pub world : World
  pub copies : ℕ
  pub skipped : ℕ

abbrev pub play_at_start : Setting → Play
play_at_start g = record { world = world_at_start g; copies = 1; skipped = 0 }

-- the entry of an event in a world; the n-th entry stamps its messages with n
abbrev pub entry_at : World → Event → Option Visit → Entry
entry_at w v None = record { event = v; messages = []; notes = [] }
entry_at w v (Some at) =
    record {
      event = v;
      messages = map (enveloped (length w.past + 1) at.node) (step (w.states at.node) at.input).sends;
      notes = (step (w.states at.node) at.input).notes;
    }

abbrev pub entry_of : World → Event → Entry
entry_of w v = entry_at w v (visit (sent_in w.past) v)

abbrev pub happened : World → Event → World
happened w v = after w (entry_of w v)

abbrev pub is_delivery_of : ℕ → Event → Bool
is_delivery_of m (event.Deliver n) = n == m
is_delivery_of m (event.Command x n c) = false
is_delivery_of m (event.Noise x) = false

abbrev pub was_delivered : World → ℕ → Bool
was_delivered w m = list_any (λ e. is_delivery_of m e.event) w.past

-- of the next n messages from m on, the first that was never delivered
abbrev pub undelivered_from : World → ℕ → ℕ → Option ℕ
undelivered_from w m zero = None
undelivered_from w m (suc n) = if was_delivered w m then undelivered_from w (suc m) n else Some m

abbrev pub oldest_undelivered : World → Option ℕ
oldest_undelivered w = undelivered_from w 0 (length (sent_in w.past))

-- a message is delivered so many times in succession
abbrev pub delivered : ℕ → ℕ → World → World
delivered zero m w = w
delivered (suc n) m w = delivered n m (happened w (event.Deliver m))

abbrev pub delivered_oldest : ℕ → Option ℕ → World → World
delivered_oldest copies None w = w
delivered_oldest copies (Some m) w = delivered copies m w

-- so many times, the oldest undelivered message is delivered
abbrev pub settled : ℕ → ℕ → World → World
settled zero copies w = w
settled (suc n) copies w = settled n copies (delivered_oldest copies (oldest_undelivered w) w)

abbrev pub in_world : Play → World → Play
in_world p w = record p { world = w }

-- a message that was sent is delivered; else the delivery is skipped
abbrev pub delivered_once : ℕ → Play → Play
delivered_once m p =
    if nat_lt m (length (sent_in p.world.past)) then in_world p (happened p.world (event.Deliver m))
    else record p { skipped = p.skipped + 1 }

-- the message that a random word means, of so many
abbrev pub drawn : ℕ → ℕ → ℕ
drawn word zero = 0
drawn word (suc sent) = word % suc sent

abbrev pub shuffled : List ℕ → Play → Play
shuffled [] p = p
shuffled (word ∷ words) p = shuffled words (delivered_once (drawn word (length (sent_in p.world.past))) p)

abbrev pub acted : Action → Play → Play
acted (Command x n c) p = in_world p (happened p.world (event.Command x n c))
acted (Settle n) p = in_world p (settled n p.copies p.world)
acted (Deliver m) p = delivered_once m p
acted (Shuffle words) p = shuffled words p
acted (Dup n) p = record p { copies = n }
acted (Noise x) p = in_world p (happened p.world (event.Noise x))

abbrev pub acted_all : List Action → Play → Play
acted_all [] p = p
acted_all (a ∷ others) p = acted_all others (acted a p)

-- the play of a schedule from a setting: its entries are the played record's, with their stamps
abbrev pub played : Setting → List Action → Play
played g actions = acted_all actions (play_at_start g)
