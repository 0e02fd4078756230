-- A record and its text, before any of it is written.
use Rattle.std.specs.Prelude.{◌≡◌, ℕ, List}
use Rattle.overlay_rules.specs.declared.entry.Record.{Record}

-- P holds of the record, and the text is that of the scenario, or of the script, and the record
pub record Prepares {A : Type 0} (P : A → Record → Type 0) (text_of : A → Record → List ℕ) (s : A) (r : Record) (text : List ℕ) : Type 0 where
  pub is : P s r
  pub is_text : text ≡ text_of s r
