-- What became of a source that was read, by its calls. What became of a text that was offered to a sink stands in node_service.
use Rattle.std.specs.Prelude.{◌≡◌, ◌↔◌, ℕ, Result, Err}
use Rattle.outside.specs.declared.reading.ReadFault.{ReadFault}
use Rattle.outside.specs.declared.reading.ReadFault.TheVariants.{Read}
use Rattle.outside.specs.declared.traits.Piece.{Piece}
use Rattle.outside.specs.Reading.{Reads}

-- a source was read by calls, to its end or to a limit; one that failed was the last, and then `failed` holds, and only then
pub record WasReadByCalls (limit : ℕ) {S : Type 0} (gives : S → ℕ → Piece → S → Type 0) (before after : S) (failed : Type 0) : Type 0 where
  pub outcome : Result ℕ ReadFault
  pub calls : Reads gives limit before 0 outcome after
  pub cause : failed ↔ (outcome ≡ Err Read)
