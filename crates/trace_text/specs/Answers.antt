-- What a reader of a part of a line answers.
use Rattle.std.specs.Prelude.{◌≡◌, Option, Some, None, Result, Ok, Err}
use Rattle.wire_codec.specs.declared.fault.FrameFault.{FrameFault}
use Rattle.wire_codec.specs.declared.fault.FrameFault.TheVariants as frame
use Rattle.trace_text.specs.declared.fault.Refusal.{Refusal}
use Rattle.trace_text.specs.declared.fault.Refusal.TheVariants as refusal

-- bytes that spell nothing are not allowed
abbrev pub refusal_of : FrameFault → Refusal
refusal_of frame.OutOfMemory = refusal.OutOfMemory
refusal_of _ = refusal.NotAllowed

-- it was refused only where nothing is so, or memory was
abbrev pub Fails : {Y : Type 0} → (Y → Type 0) → Refusal → Type 0
Fails {Y} IsSo refusal.NotAllowed = (y : Y) → IsSo y → ⊥
Fails IsSo refusal.OutOfMemory = Unit {0}

-- what was found is so
abbrev pub Finds : {X Y : Type 0} → (X → Y) → (Y → Type 0) → Result X Refusal → Type 0
Finds view IsSo (Ok x) = IsSo (view x)
Finds view IsSo (Err e) = Fails IsSo e

-- The function gave what the definition gives, or it refused where that has nothing, unless for want of memory.
abbrev pub Gives : {X Y : Type 0} → (X → Y) → Result X Refusal → Option Y → Type 0
Gives view (Ok x) given = given ≡ Some (view x)
Gives view (Err refusal.NotAllowed) given = given ≡ None
Gives view (Err refusal.OutOfMemory) given = Unit {0}
