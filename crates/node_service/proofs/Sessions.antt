-- What a session made of bytes, one piece after another.
use Rattle.std.proofs.Common.{◌≡◌, ◌∙◌, ◌+◌, ◌<◌, ℕ, false, List, [], ◌∷◌, ◌++◌, Option, Some, None, Result, OnOk, length, length-take}
use Rattle.std.proofs.Common.{append-nil, append_assoc, ap, arith, refl, subst, sym}
use Rattle.std.proofs.lemmas.List.{nil_from_length}
use Rattle.std.proofs.lemmas.Result.{on_ok_weaker}
use Rattle.scenario_reader.specs.Lines.{lines_of}
use Rattle.node_lines.specs.declared.limits.TheConstants.{MOST_FRAME_LINE}
use Rattle.node_process.specs.Talk.{Added, IsAnswered, IsAsFar, Process, Talk}
use Rattle.node_service.specs.declared.session.Session.{Session}
use Rattle.node_service.specs.Conversation.{AreLinesAnswered, IsLineAnswered}
use Rattle.node_service.specs.Cut.{HasNoEnd, IsCut, is_end}
use Rattle.node_service.specs.Session.{HasAnswered, HasEnded, HasTaken, IsFar, IsProcessOf}
use Rattle.node_service.proofs.Answering.{lines_answered_none, lines_answered_one, lines_answered_then}
use Rattle.node_service.proofs.Cutting.{cut_byte, cut_end, cut_nothing, cut_then, lines_of-last}
use Rattle.node_service.proofs.Keeping.{line_answered_kept}

-- nothing came
pub taken_nothing : (line : List ℕ) (p : Option Talk) (s : Session) (text : List ℕ) → IsFar s line p → HasTaken line p [] s text text
taken_nothing line p s text far = record {
  lines = [];
  rest = line;
  answers = [];
  later = p;
  cut = cut_nothing line far.begun;
  answered = lines_answered_none p;
  far = far;
  added = sym (append-nil text);
}

-- a byte that ends no line
pub taken_byte : (line : List ℕ) (p : Option Talk) (byte : ℕ) (s : Session) (text : List ℕ) → HasNoEnd line → is_end byte ≡ false →
    IsFar s (line ++ byte ∷ []) p → HasTaken line p (byte ∷ []) s text text
taken_byte line p byte s text begun goes_on far = record {
  lines = [];
  rest = line ++ byte ∷ [];
  answers = [];
  later = p;
  cut = cut_byte line byte begun goes_on;
  answered = lines_answered_none p;
  far = far;
  added = sym (append-nil text);
}

-- bytes, and others behind them
pub taken_then : (line : List ℕ) (p : Option Talk) (bytes more : List ℕ) (s u : Session) (before between after : List ℕ) →
    HasTaken line p bytes s before between → ((rest : List ℕ) (q : Option Talk) → IsFar s rest q → HasTaken rest q more u between after) →
    HasTaken line p (bytes ++ more) u before after
taken_then line p bytes more s u before between after first goes_on =
    let next : HasTaken first.rest first.later more u between after = goes_on first.rest first.later first.far in
    record {
      lines = first.lines ++ next.lines;
      rest = next.rest;
      answers = first.answers ++ next.answers;
      later = next.later;
      cut = subst (λ (bs : List ℕ). IsCut bs (first.lines ++ next.lines) next.rest) (append_assoc line bytes more)
          (cut_then (line ++ bytes) more first.lines next.lines first.rest next.rest first.cut next.cut);
      answered = lines_answered_then p first.later next.later first.lines next.lines first.answers next.answers first.answered next.answered;
      far = next.far;
      added = next.added ∙ ap (λ t. t ++ next.answers) first.added ∙ append_assoc before first.answers next.answers;
    }

-- a line that was answered as it was kept is answered
one_line : (line : List ℕ) (p : Option Talk) (s : Session) (given : List ℕ) (after : Option Process) (before text : List ℕ) → IsFar s line p →
    given ≡ s.line.items → (a : HasAnswered p given after before text) → AreLinesAnswered p (line ∷ []) a.answer a.later
one_line line p s given after before text far is a =
    lines_answered_one p line a.answer a.later (line_answered_kept p line a.answer a.later
    (subst (λ (l : List ℕ). IsLineAnswered p l a.answer a.later) (is ∙ far.kept) a.answered))

-- the byte that ends a line, which was answered
pub taken_end : (line : List ℕ) (p : Option Talk) (s after : Session) (given before text : List ℕ) → IsFar s line p → given ≡ s.line.items →
    after.line.items ≡ [] → HasAnswered p given after.process before text → HasTaken line p (10 ∷ []) after before text
taken_end line p s after given before text far is cleared a = record {
  lines = line ∷ [];
  rest = [];
  answers = a.answer;
  later = a.later;
  cut = cut_end line far.begun;
  answered = one_line line p s given after.process before text far is a;
  far = record { kept = cleared; begun = tt; process = a.far };
  added = a.added;
}

-- nothing came of a line
pub ended_none : (line : List ℕ) (p : Option Talk) (s : Session) (text : List ℕ) → IsFar s line p → length s.line.items ≡ 0 → HasEnded line p text text
ended_none line p s text far empty =
    let none : line ≡ [] = nil_from_length line (omega (arith, length-take (MOST_FRAME_LINE + 1) line, ap length far.kept)) in
    record {
      answer = [];
      later = p;
      answered = subst (λ (l : List ℕ). AreLinesAnswered p (lines_of l) [] p) (sym none) (lines_answered_none p);
      added = sym (append-nil text);
    }

-- what came of a line was answered
pub ended_one : (line : List ℕ) (p : Option Talk) (s : Session) (after : Option Process) (given before text : List ℕ) → IsFar s line p →
    given ≡ s.line.items → 0 < length s.line.items → HasAnswered p given after before text → HasEnded line p before text
ended_one line p s after given before text far is some a =
    let long : 0 < length line = omega (arith, length-take (MOST_FRAME_LINE + 1) line, ap length far.kept) in
    record {
      answer = a.answer;
      later = a.later;
      answered = subst (λ (ls : List (List ℕ)). AreLinesAnswered p ls a.answer a.later) (sym (lines_of-last line far.begun long))
          (one_line line p s given after before text far is a);
      added = a.added;
    }

-- a line that the process answered
pub answered_by : {E : Type 0} (r : Result Unit E) (p : Option Talk) (was after : Process) (line before text : List ℕ) → IsProcessOf (Some was) p →
    ((t : Talk) → IsAsFar was t → OnOk r (Added (IsAnswered t line) after before text)) → OnOk r (HasAnswered p line (Some after) before text)
answered_by r None was after line before text far answers = absurd far
answered_by r (Some t) was after line before text far answers =
    on_ok_weaker r (λ a. record {
      answer = a.answer;
      later = Some a.later;
      answered = record { later = a.later; answered = a.is; after_is = refl };
      far = a.far;
      added = a.added;
    }) (answers t far)
