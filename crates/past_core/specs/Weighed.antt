-- What an insert meets before any memory is taken, by what a put would answer, how many leaves are known and how many
-- replicas are asked for.
use Rattle.std.specs.Prelude.{ℕ, nat_lt, if◌then◌else◌, List, [], ◌∷◌}
use Rattle.ring_math.specs.Names.{Id, Number, FileId, Content}
use Rattle.file_store.specs.declared.answer.Put.{Put}
use Rattle.file_store.specs.declared.answer.Put.TheVariants as put
use Rattle.wire_msg.specs.declared.note.Note.TheVariants as note
use Rattle.overlay_rules.specs.State.{State}
use Rattle.overlay_rules.specs.Outcome.{Outcome, before}
use Rattle.overlay_rules.specs.Roots.{replicated, targets_of}
use Rattle.overlay_rules.specs.Replicas.{holding}
use Rattle.past_core.specs.declared.inserts.InsertWhat.{InsertWhat}
use Rattle.past_core.specs.declared.inserts.InsertWhat.TheVariants as what
use Rattle.past_core.specs.declared.inserts.Weighed.{Weighed}
use Rattle.past_core.specs.declared.inserts.Weighed.TheVariants as weight
use Rattle.past_core.specs.Inserts.{said}

abbrev pub unless_few : ℕ → ℕ → Weighed → Weighed
unless_few known replicas w = if nat_lt known replicas then weight.Refused (what.TooFew known) else w

abbrev pub weighed : Put → ℕ → ℕ → Weighed
weighed put.Gone known replicas = weight.Refused what.Gone
weighed put.Differs known replicas = weight.Refused what.Collision
weighed put.Full known replicas = unless_few known replicas (weight.Refused what.Full)
weighed put.Same known replicas = unless_few known replicas weight.Held
weighed put.New known replicas = unless_few known replicas weight.New

-- the row of an insert that meets this
abbrev pub by_weight : State → Id → Number → FileId → ℕ → Content → Weighed → Outcome
by_weight s origin number file copies bytes (weight.Refused w) = said s origin number file bytes w
by_weight s origin number file copies bytes weight.Held = replicated s origin number file bytes (targets_of s file copies)
by_weight s origin number file copies bytes weight.New =
    before [] (note.Accepted file bytes ∷ []) (replicated (holding s file bytes) origin number file bytes (targets_of s file copies))

-- by the targets: the root alone holds the file, or replicas are asked for
abbrev pub held_by : Id → List Id → InsertWhat
held_by me [] = what.Stored (me ∷ [])
held_by me (t ∷ ts) = what.Replicate (t ∷ ts)
