-- There is one answer to lines.
use Rattle.std.proofs.Common.{◌≡◌, ◌∙◌, ℕ, List, [], ◌∷◌, ◌++◌, Option, Some, None, Ok, Err, ap, refl, subst, sym}
use Rattle.std.specs.Prelude.{if◌then◌else◌}
use Rattle.wire_codec.proofs.Frames.{one_envelope}
use Rattle.weave_laws.specs.Cells.{CellInput, Command, Comes, Noise}
use Rattle.node_cell.specs.Reading.{IsInputOf}
use Rattle.node_lines.specs.declared.refusal.Refusal.TheVariants.{Spent}
use Rattle.node_lines.specs.declared.start.Start.{Start}
use Rattle.node_lines.specs.declared.told.Told.{Told}
use Rattle.node_lines.specs.declared.told.Told.TheVariants as told
use Rattle.node_lines.specs.Commands.{Reading}
use Rattle.node_lines.specs.Lines.{told_by}
use Rattle.node_lines.specs.Starts.{started_by}
use Rattle.node_process.specs.Talk.{Talk, IsAnswer, IsAnsweredTo, IsInputTold, AreAnswered, after_input, entry_of, is_spent, talk_at_start}
use Rattle.node_process.specs.Texts.{done_line, entry_lines, refused_line}
use Rattle.node_service.specs.Conversation.{AreGoneOn, AreLinesAnswered, OpensWith}

-- bytes are one input
one_input : (x : ℕ) (bytes : List ℕ) (i j : CellInput) → IsInputOf x bytes i → IsInputOf x bytes j → i ≡ j
one_input x bytes (Comes v) (Comes w) a b = ap (λ e. Comes e) (one_envelope bytes v w a.spells b.spells)
one_input x bytes (Comes v) Noise a b = absurd (b v a)
one_input x bytes (Comes v) (Command n c) a b = absurd b
one_input x bytes Noise (Comes w) a b = absurd (a w b)
one_input x bytes Noise Noise a b = refl
one_input x bytes Noise (Command n c) a b = absurd b
one_input x bytes (Command n c) j a b = absurd a

one_told : (t : Talk) (tell : Told) (i j : CellInput) → IsInputTold t tell i → IsInputTold t tell j → i ≡ j
one_told t (told.Does c) i j a b = a ∙ sym b
one_told t (told.Comes bytes) i j a b = one_input t.node bytes i j a b

one_answer_to : (t : Talk) (tell : Told) (text other : List ℕ) (u v : Talk) → IsAnsweredTo t tell text u → IsAnsweredTo t tell other v →
    (text ≡ other) × (u ≡ v)
one_answer_to t tell text other u v a b =
    let same : a.input ≡ b.input = one_told t tell a.input b.input a.is b.is in (
      a.answer ∙ ap (λ (i : CellInput). if is_spent t i then refused_line Spent else entry_lines (entry_of t i)) same ∙ sym b.answer,
      a.after_is ∙ ap (λ (i : CellInput). if is_spent t i then t else after_input t tell i) same ∙ sym b.after_is,
    )

one_answer : (t : Talk) (read : Reading Told) (text other : List ℕ) (u v : Talk) → IsAnswer t read text u → IsAnswer t read other v → (text ≡ other) × (u ≡ v)
one_answer t (Ok tell) text other u v a b = one_answer_to t tell text other u v a b
one_answer t (Err refusal) text other u v a b = (a.0 ∙ sym b.0, a.1 ∙ sym b.1)

-- one text behind another
joined : (a b c d text other : List ℕ) → text ≡ a ++ c → other ≡ b ++ d → a ≡ b → c ≡ d → text ≡ other
joined a b c d text other is is_other e f = is ∙ ap (λ x. x ++ c) e ∙ ap (λ y. b ++ y) f ∙ sym is_other

one_talk : (t : Talk) (lines : List (List ℕ)) (text other : List ℕ) (u v : Talk) → AreAnswered t lines text u → AreAnswered t lines other v →
    (text ≡ other) × (u ≡ v)
one_talk t [] text other u v a b = (a.0 ∙ sym b.0, a.1 ∙ sym b.1)
one_talk t (line ∷ lines) text other u v a b =
    let first : (a.first ≡ b.first) × (a.later ≡ b.later) = one_answer t (told_by line) a.first b.first a.later b.later a.answered b.answered in
    let others : AreAnswered a.later lines b.behind v = subst (λ (w : Talk). AreAnswered w lines b.behind v) (sym first.1) b.others in
    let rest : (a.behind ≡ b.behind) × (u ≡ v) = one_talk a.later lines a.behind b.behind u v a.others others in
    (joined a.first b.first a.behind b.behind text other a.all b.all first.0 rest.0, rest.1)

one_gone_on : (t : Talk) (lines : List (List ℕ)) (text other : List ℕ) (q r : Option Talk) → AreGoneOn t lines text q → AreGoneOn t lines other r →
    (text ≡ other) × (q ≡ r)
one_gone_on t lines text other q r a b =
    let one : (text ≡ other) × (a.later ≡ b.later) = one_talk t lines text other a.later b.later a.answered b.answered in
    (one.0, a.after_is ∙ ap (λ (w : Talk). Some w) one.1 ∙ sym b.after_is)

one_opening : (read : Reading Start) (lines : List (List ℕ)) (refused others : List ℕ → Type 0) (text other : List ℕ) (q r : Option Talk) →
    ((a b : List ℕ) → refused a → others b → (a ≡ b) × (q ≡ r)) → OpensWith read lines refused text q → OpensWith read lines others other r →
    (text ≡ other) × (q ≡ r)
one_opening (Ok start) lines refused others text other q r behind a b =
    let one : (a.behind ≡ b.behind) × (q ≡ r) = one_gone_on (talk_at_start start.me start.founder) lines a.behind b.behind q r a.others b.others in
    (joined (done_line 0) (done_line 0) a.behind b.behind text other a.all b.all refl one.0, one.1)
one_opening (Err refusal) lines refused others text other q r behind a b =
    let one : (a.behind ≡ b.behind) × (q ≡ r) = behind a.behind b.behind a.others b.others in
    (joined (refused_line refusal) (refused_line refusal) a.behind b.behind text other a.all b.all refl one.0, one.1)

-- whatever is answered to the lines, it is one text, and leads to one place
pub one_conversation : (p : Option Talk) (lines : List (List ℕ)) (text other : List ℕ) (q r : Option Talk) → AreLinesAnswered p lines text q →
    AreLinesAnswered p lines other r → (text ≡ other) × (q ≡ r)
one_conversation (Some t) lines text other q r a b = one_gone_on t lines text other q r a b
one_conversation None [] text other q r a b = (a.0 ∙ sym b.0, a.1 ∙ sym b.1)
one_conversation None (line ∷ lines) text other q r a b =
    one_opening (started_by line) lines (λ (x : List ℕ). AreLinesAnswered None lines x q) (λ (y : List ℕ). AreLinesAnswered None lines y r) text other q r
    (λ x y m n. one_conversation None lines x y q r m n) a b
