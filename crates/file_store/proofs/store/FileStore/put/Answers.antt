use Rattle.std.proofs.Common.{◌≡◌, ◌∙◌, List, ℕ, None, Some, true, ap, sym, refl}
use Rattle.ring_math.specs.declared.file.Held.{Held}
use Rattle.ring_math.specs.Bytewise.{same_bytes}
use Rattle.ring_math.specs.Files.{Slot}
use Rattle.file_store.specs.declared.answer.Put.{Put}
use Rattle.file_store.specs.declared.answer.Put.TheVariants.{Same, Differs}
use Rattle.file_store.specs.Answers.{put_at, after_put}
use Rattle.file_store.proofs.Slots.{if_both}
use Rattle.file_store.proofs.store.FileStore.put.Goals as goal

-- where something stands nothing changes
beside-kept : (slot : Slot) (bytes : List ℕ) (files : List Held) (file : List ℕ) → files ≡ after_put (put_at (Some slot) bytes true) files file bytes
beside-kept None bytes files file = refl
beside-kept (Some held) bytes files file = if_both (λ (r : Put). files ≡ after_put r files file bytes) (same_bytes held bytes) Same Differs (λ _. refl)
    (λ _. refl)

pub returns-in-Ok-clause-files : goal.returns-in-Ok-clause-files
returns-in-Ok-clause-files c =
    beside-kept c.in-Ok.slot.now c.args.bytes.now c.args.self.now.files c.args.file
    ∙ ap (λ (r : Put). after_put r c.args.self.now.files c.args.file c.args.bytes.now) (sym (c.answer_beside.ensures true))
