use Rattle.std.proofs.Common.{◌≡◌, ◌+◌, ◌-◌, ◌++◌, ◌∙◌, ℕ, List, replicate, take, length, vec_len, ap, arith, refl}
use Rattle.std.proofs.lemmas.List.{take_all}
use Rattle.weave.proofs.Tabling.{table-begun}
use Rattle.weave.proofs.starts.Starts.begin_rows.Goals as goal

pub returns-clause-table : goal.returns-clause-table
returns-clause-table c =
    let row = c.args.row in
    let rows : List ℕ = c.args.self.now.rows.items in
    let begin = c.low_part-begin.result in
    let wanting = c.requires.wanting in
    let same : c.reserve_ahead.new.list.items ≡ rows = c.reserve_ahead.ensures.items in
    let size : vec_len c.reserve_ahead.new.list ≡ length rows = omega (arith, ap length same) in
    let more = row + 1 - vec_len c.reserve_ahead.new.list in
    let kept : take (row + 1) rows ≡ rows = take_all (row + 1) rows (omega (arith, wanting)) in
    table-begun c.args.self.now (record { rows = c.resize.new.self; marks = c.args.self.now.marks; last_row = c.args.self.now.last_row }) more begin
    (c.in_ok-resize.ensures.items ∙ ap (λ (xs : List ℕ). take (row + 1) xs ++ replicate more begin) same
    ∙ ap (λ (xs : List ℕ). xs ++ replicate more begin) kept)
    refl refl (omega (arith, c.low_part-begin.ensures, c.len.ensures)) (omega (arith, wanting, c.requires.last, size))
