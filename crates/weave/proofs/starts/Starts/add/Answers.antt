use Rattle.std.proofs.Common.{◌≡◌, ◌++◌, ◌∷◌, [], ◌∙◌, ℕ, List, refl, ap, arith}
use Rattle.wire_msg.specs.Words.{plain_envelope}
use Rattle.weave.specs.Table.{mark_of}
use Rattle.weave.proofs.Tabling.{table-push}
use Rattle.weave.proofs.starts.Starts.add.Goals as goal

pub returns : goal.returns
returns c = λ vs h.
    let begun = c.in_ok-reach.ensures.begun in
    let marks : List ℕ = c.reach.new.self.marks.items in
    let mark : c.mark_of.result ≡ mark_of (plain_envelope c.args.envelope.now) = c.mark_of.ensures in
    table-push c.reach.new.self (record { rows = c.reach.new.self.rows; marks = c.push_reserved.new.self; last_row = c.reach.new.self.last_row })
    (plain_envelope c.args.envelope.now) refl
    (c.push_reserved.ensures.items ∙ ap (λ (ms : List ℕ). ms ++ c.mark_of.result ∷ []) c.reserve_ahead.ensures.items ∙ ap (λ m. marks ++ m ∷ []) mark)
    refl (omega (arith, begun, c.min-row.ensures, c.reach.ensures.last)) vs (c.in_ok-reach.ensures.table vs h)
