-- What a service came to, by the bytes of its source and its sink, where they tell these.
use Rattle.std.specs.Prelude.{◌≡◌, ℕ, List, [], ◌++◌, take, Option, None, IfSome}
use Rattle.outside.specs.Told.{Told}
use Rattle.scenario_reader.specs.Lines.{lines_of}
use Rattle.node_process.specs.Talk.{Talk}
use Rattle.node_service.specs.Conversation.{AreLinesAnswered}
use Rattle.node_service.specs.Written.{Appends}

-- the source was read to its end, and the sink took the answers to all lines that it had
pub record IsServed (left left' taken taken' : Option (List ℕ)) : Type 0 where
  pub given : List ℕ
  pub text : List ℕ
  pub later : Option Talk
  pub read : Told left left' (λ had has. (given ≡ had) × (has ≡ []))
  pub answered : AreLinesAnswered None (lines_of given) text later
  pub written : Told taken taken' (Appends text)

-- the answers to the first of the lines that came, of which the sink took the first bytes
pub record IsServedInPart (left taken taken' : Option (List ℕ)) : Type 0 where
  pub given : List ℕ
  pub lines : List (List ℕ)
  pub others : List (List ℕ)
  pub text : List ℕ
  pub later : Option Talk
  pub bytes : ℕ
  pub read : IfSome left (λ had. (more : List ℕ) × (had ≡ given ++ more))
  pub first : lines_of given ≡ lines ++ others
  pub answered : AreLinesAnswered None lines text later
  pub written : Told taken taken' (λ had has. has ≡ had ++ take bytes text)
