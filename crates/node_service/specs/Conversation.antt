-- What a process answers to the lines of its input. Until a line names the node, every line is refused; then each is answered by
-- the node.
use Rattle.std.specs.Prelude.{◌≡◌, List, [], ◌∷◌, ◌++◌, ℕ, Option, Some, None, Ok, Err}
use Rattle.node_lines.specs.declared.start.Start.{Start}
use Rattle.node_lines.specs.Commands.{Reading}
use Rattle.node_lines.specs.Starts.{started_by}
use Rattle.node_process.specs.Talk.{Talk, IsAnswered, AreAnswered, talk_at_start}
use Rattle.node_process.specs.Texts.{done_line, refused_line}

-- the answer to a line where no node is named yet: the node that it names has taken nothing in, so its stamp is 0; or the line
-- names none, and nothing changes
abbrev pub IsNamed : Reading Start → List ℕ → Option Talk → Type 0
IsNamed (Ok start) text after = (text ≡ done_line 0) × (after ≡ Some (talk_at_start start.me start.founder))
IsNamed (Err refusal) text after = (text ≡ refused_line refusal) × (after ≡ None)

-- the answer to a line of a node that is named
pub record IsGoneOn (t : Talk) (line text : List ℕ) (after : Option Talk) : Type 0 where
  pub later : Talk
  pub answered : IsAnswered t line text later
  pub after_is : after ≡ Some later

-- the answer to a line; None is where no node is named
abbrev pub IsLineAnswered : Option Talk → List ℕ → List ℕ → Option Talk → Type 0
IsLineAnswered None line text after = IsNamed (started_by line) text after
IsLineAnswered (Some t) line text after = IsGoneOn t line text after

-- the answers of a node that is named
pub record AreGoneOn (t : Talk) (lines : List (List ℕ)) (text : List ℕ) (after : Option Talk) : Type 0 where
  pub later : Talk
  pub answered : AreAnswered t lines text later
  pub after_is : after ≡ Some later

-- a line where no node is named yet, and those behind it, if it names a node and if it names none
pub record IsOpened (first : List ℕ) (rest : List ℕ → Type 0) (text : List ℕ) : Type 0 where
  pub behind : List ℕ
  pub others : rest behind
  pub all : text ≡ first ++ behind

abbrev pub OpensWith : Reading Start → List (List ℕ) → (List ℕ → Type 0) → List ℕ → Option Talk → Type 0
OpensWith (Ok start) lines refused text after =
    IsOpened (done_line 0) (λ behind. AreGoneOn (talk_at_start start.me start.founder) lines behind after) text
OpensWith (Err refusal) lines refused text after = IsOpened (refused_line refusal) refused text

-- lines and their answers, one after another
abbrev pub AreLinesAnswered : Option Talk → List (List ℕ) → List ℕ → Option Talk → Type 0
AreLinesAnswered (Some t) lines text after = AreGoneOn t lines text after
AreLinesAnswered None [] text after = (text ≡ []) × (after ≡ None)
AreLinesAnswered None (line ∷ lines) text after =
    OpensWith (started_by line) lines (λ behind. AreLinesAnswered None lines behind after) text after
