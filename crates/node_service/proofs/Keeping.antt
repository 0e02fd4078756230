-- Of a line that is too long no more has to be kept than shows that.
use Rattle.std.proofs.Common.{◌≡◌, ◌∙◌, ◌+◌, ◌<◌, ◌≤◌, ℕ, Bool, true, false, cond, inl, inr, List, [], ◌∷◌, ◌++◌, Option, Some, None, Err, length, take}
use Rattle.std.proofs.Common.{length-append, length-take, ap, arith, refl, subst, sym}
use Rattle.std.proofs.lemmas.Bool.{cases_lt, lt-ltb}
use Rattle.std.proofs.lemmas.List.{take_all, take-append-le}
use Rattle.scenario_reader.specs.declared.limits.TheConstants.{MOST_LINE_BYTES}
use Rattle.node_lines.specs.declared.limits.TheConstants.{MOST_FRAME_LINE}
use Rattle.node_lines.specs.declared.refusal.Refusal.TheVariants.{TooLong}
use Rattle.node_lines.specs.declared.start.Start.{Start}
use Rattle.node_lines.specs.declared.told.Told.{Told}
use Rattle.node_lines.specs.Commands.{Reading}
use Rattle.node_lines.specs.Lines.{brings_bytes, brought_by, commanded_by, text_words, told_by}
use Rattle.node_lines.specs.Starts.{started_by}
use Rattle.node_process.specs.Talk.{Talk, IsAnswer}
use Rattle.node_service.specs.Conversation.{IsLineAnswered, IsNamed}

either : {X : Type 0} (b : Bool) (x y z : X) → x ≡ z → y ≡ z → cond b x y ≡ z
either true x y z e f = e
either false x y z e f = f

brought_too_long : (line : List ℕ) → MOST_FRAME_LINE < length line → brought_by line ≡ Err TooLong
brought_too_long line long = rw (lt-ltb MOST_FRAME_LINE (length line) long) refl

words_too_long : (line : List ℕ) → MOST_LINE_BYTES < length line → text_words line ≡ Err TooLong
words_too_long line long = rw (lt-ltb MOST_LINE_BYTES (length line) long) refl

commanded_too_long : (line : List ℕ) → MOST_LINE_BYTES < length line → commanded_by line ≡ Err TooLong
commanded_too_long line long = rw (words_too_long line long) refl

started_too_long : (line : List ℕ) → MOST_LINE_BYTES < length line → started_by line ≡ Err TooLong
started_too_long line long = rw (words_too_long line long) refl

told_too_long : (line : List ℕ) → MOST_FRAME_LINE < length line → told_by line ≡ Err TooLong
told_too_long line long =
    either (brings_bytes line) (brought_by line) (commanded_by line) (Err TooLong) (brought_too_long line long) (commanded_too_long line (omega arith))

-- what is kept says what the line says
told_kept : (line : List ℕ) → told_by (take (MOST_FRAME_LINE + 1) line) ≡ told_by line
told_kept line = elim (cases_lt MOST_FRAME_LINE (length line)) [
  | inl long ↦ told_too_long (take (MOST_FRAME_LINE + 1) line) (omega (arith, length-take (MOST_FRAME_LINE + 1) line)) ∙ sym (told_too_long line long)
  | inr short ↦ ap told_by (take_all (MOST_FRAME_LINE + 1) line (omega arith))
]

started_kept : (line : List ℕ) → started_by (take (MOST_FRAME_LINE + 1) line) ≡ started_by line
started_kept line = elim (cases_lt MOST_FRAME_LINE (length line)) [
  | inl long ↦
      started_too_long (take (MOST_FRAME_LINE + 1) line) (omega (arith, length-take (MOST_FRAME_LINE + 1) line))
      ∙ sym (started_too_long line (omega arith))
  | inr short ↦ ap started_by (take_all (MOST_FRAME_LINE + 1) line (omega arith))
]

pub line_answered_kept : (p : Option Talk) (line text : List ℕ) (q : Option Talk) → IsLineAnswered p (take (MOST_FRAME_LINE + 1) line) text q →
    IsLineAnswered p line text q
line_answered_kept None line text q is = subst (λ (read : Reading Start). IsNamed read text q) (started_kept line) is
line_answered_kept (Some t) line text q is = record {
  later = is.later;
  answered = subst (λ (read : Reading Told). IsAnswer t read text is.later) (told_kept line) is.answered;
  after_is = is.after_is;
}

-- a byte more is kept, as long as there is room for it
pub kept_more : (n : ℕ) (kept line : List ℕ) (byte : ℕ) → kept ≡ take n line → length kept < n → kept ++ byte ∷ [] ≡ take n (line ++ byte ∷ [])
kept_more n kept line byte is room =
    let few : length line < n = omega (arith, length-take n line, ap length is) in
    ap (λ ks. ks ++ byte ∷ []) (is ∙ take_all n line (omega arith)) ∙ sym (take_all n (line ++ byte ∷ []) (omega (arith, length-append line (byte ∷ []))))

pub kept_same : (n : ℕ) (kept line : List ℕ) (byte : ℕ) → kept ≡ take n line → n ≤ length kept → kept ≡ take n (line ++ byte ∷ [])
kept_same n kept line byte is full = is ∙ sym (take-append-le n line (byte ∷ []) (omega (arith, length-take n line, ap length is)))
