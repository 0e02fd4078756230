-- Answers to lines are put one behind another.
use Rattle.std.proofs.Common.{◌≡◌, ◌∙◌, ℕ, List, [], ◌∷◌, ◌++◌, Option, Some, None, Ok, Err, append-nil, append_assoc, ap, refl, sym, subst}
use Rattle.node_lines.specs.declared.start.Start.{Start}
use Rattle.node_lines.specs.Commands.{Reading}
use Rattle.node_lines.specs.Starts.{started_by}
use Rattle.node_process.specs.Talk.{Talk, IsAnswered, AreAnswered, talk_at_start}
use Rattle.node_process.specs.Texts.{done_line, refused_line}
use Rattle.node_service.specs.Conversation.{AreGoneOn, AreLinesAnswered, IsLineAnswered, IsNamed, OpensWith}

-- one line
answered_one : (t : Talk) (line text : List ℕ) (u : Talk) → IsAnswered t line text u → AreAnswered t (line ∷ []) text u
answered_one t line text u is = record { first = text; later = u; behind = []; answered = is; others = (refl, refl); all = sym (append-nil text) }

-- lines, and others behind them
answered_then : (t u v : Talk) (lines more : List (List ℕ)) (text behind : List ℕ) → AreAnswered t lines text u → AreAnswered u more behind v →
    AreAnswered t (lines ++ more) (text ++ behind) v
answered_then t u v [] more text behind first next =
    subst (λ (a : List ℕ). AreAnswered t more (a ++ behind) v) (sym first.0) (subst (λ (w : Talk). AreAnswered w more behind v) first.1 next)
answered_then t u v (line ∷ lines) more text behind first next = record {
  first = first.first;
  later = first.later;
  behind = first.behind ++ behind;
  answered = first.answered;
  others = answered_then first.later u v lines more first.behind behind first.others next;
  all = ap (λ a. a ++ behind) first.all ∙ append_assoc first.first first.behind behind;
}

gone_on_then : (t : Talk) (q r : Option Talk) (lines more : List (List ℕ)) (text behind : List ℕ) → AreGoneOn t lines text q →
    AreLinesAnswered q more behind r → AreGoneOn t (lines ++ more) (text ++ behind) r
gone_on_then t q r lines more text behind first next =
    let on : AreGoneOn first.later more behind r = subst (λ (p : Option Talk). AreLinesAnswered p more behind r) first.after_is next in
    record { later = on.later; answered = answered_then t first.later on.later lines more text behind first.answered on.answered; after_is = on.after_is }

-- one line, where no node is named yet
named_one : (read : Reading Start) (text : List ℕ) (q : Option Talk) → IsNamed read text q →
    OpensWith read [] (λ behind. (behind ≡ []) × (q ≡ None)) text q
named_one (Ok start) text q is = record {
  behind = [];
  others = record { later = talk_at_start start.me start.founder; answered = (refl, refl); after_is = is.1 };
  all = is.0 ∙ sym (append-nil (done_line 0));
}
named_one (Err refusal) text q is = record { behind = []; others = (refl, is.1); all = is.0 ∙ sym (append-nil (refused_line refusal)) }

pub lines_answered_one : (p : Option Talk) (line text : List ℕ) (q : Option Talk) → IsLineAnswered p line text q → AreLinesAnswered p (line ∷ []) text q
lines_answered_one None line text q is = named_one (started_by line) text q is
lines_answered_one (Some t) line text q is =
    record { later = is.later; answered = answered_one t line text is.later is.answered; after_is = is.after_is }

-- no line
pub lines_answered_none : (p : Option Talk) → AreLinesAnswered p [] [] p
lines_answered_none None = (refl, refl)
lines_answered_none (Some t) = record { later = t; answered = (refl, refl); after_is = refl }

opens_then : (read : Reading Start) (q r : Option Talk) (lines more : List (List ℕ)) (refused refused_more : List ℕ → Type 0) (text behind : List ℕ) →
    ((a : List ℕ) → refused a → refused_more (a ++ behind)) → AreLinesAnswered q more behind r → OpensWith read lines refused text q →
    OpensWith read (lines ++ more) refused_more (text ++ behind) r
opens_then (Ok start) q r lines more refused refused_more text behind goes_on next opens = record {
  behind = opens.behind ++ behind;
  others = gone_on_then (talk_at_start start.me start.founder) q r lines more opens.behind behind opens.others next;
  all = ap (λ a. a ++ behind) opens.all ∙ append_assoc (done_line 0) opens.behind behind;
}
opens_then (Err refusal) q r lines more refused refused_more text behind goes_on next opens = record {
  behind = opens.behind ++ behind;
  others = goes_on opens.behind opens.others;
  all = ap (λ a. a ++ behind) opens.all ∙ append_assoc (refused_line refusal) opens.behind behind;
}

-- lines, and others behind them
pub lines_answered_then : (p q r : Option Talk) (lines more : List (List ℕ)) (text behind : List ℕ) → AreLinesAnswered p lines text q →
    AreLinesAnswered q more behind r → AreLinesAnswered p (lines ++ more) (text ++ behind) r
lines_answered_then (Some t) q r lines more text behind first next = gone_on_then t q r lines more text behind first next
lines_answered_then None q r [] more text behind first next =
    subst (λ (a : List ℕ). AreLinesAnswered None more (a ++ behind) r) (sym first.0)
    (subst (λ (p : Option Talk). AreLinesAnswered p more behind r) first.1 next)
lines_answered_then None q r (line ∷ lines) more text behind first next =
    opens_then (started_by line) q r lines more (λ (a : List ℕ). AreLinesAnswered None lines a q) (λ (a : List ℕ). AreLinesAnswered None (lines ++ more) a r)
    text behind (λ a rest. lines_answered_then None q r lines more a behind rest next) next first
