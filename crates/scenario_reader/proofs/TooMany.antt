-- A line behind the last that may be read is refused, whatever stands there.
use Rattle.std.proofs.Common.{◌≡◌, ℕ, ◌<◌, true, false, cond, ◌==◌, List, [], ◌∷◌, length, arith, refl}
use Rattle.std.specs.Prelude.{Err}
use Rattle.std.specs.List.{onto_first}
use Rattle.std.proofs.lemmas.Bool.{lt-ltb}
use Rattle.scenario_reader.specs.declared.fault.LineFault.TheVariants as fault
use Rattle.scenario_reader.specs.Plain.{Draft}
use Rattle.scenario_reader.specs.Lines.{lines_of}
use Rattle.scenario_reader.specs.Grammar.{read_from}

read_from-past : (draft : Draft) (n : ℕ) (line : List ℕ) (lines : List (List ℕ)) → 10000 < n → read_from draft n (line ∷ lines) ≡ Err (fault.Limit n 0)
read_from-past draft n line lines past = let test = lt-ltb 10000 n past in rw test refl

read_from-onto_first : (draft : Draft) (n byte : ℕ) (lines : List (List ℕ)) → 10000 < n → read_from draft n (onto_first byte lines) ≡ Err (fault.Limit n 0)
read_from-onto_first draft n byte [] past = read_from-past draft n (byte ∷ []) [] past
read_from-onto_first draft n byte (line ∷ lines) past = read_from-past draft n (byte ∷ line) lines past

pub read_from-limit : (draft : Draft) (n : ℕ) (text : List ℕ) → 10000 < n → 0 < length text → read_from draft n (lines_of text) ≡ Err (fault.Limit n 0)
read_from-limit draft n [] past some = absurd (omega arith)
read_from-limit draft n (byte ∷ bytes) past some =
    elim (byte == 10) as (λ ends. read_from draft n (cond ends ([] ∷ lines_of bytes) (onto_first byte (lines_of bytes))) ≡ Err (fault.Limit n 0)) [
      | true ↦ read_from-past draft n [] (lines_of bytes) past
      | false ↦ read_from-onto_first draft n byte (lines_of bytes) past
    ]
