use Rattle.std.proofs.Common.{◌≡◌, ◌≤◌, ◌∙◌, List, Ok, ap, arith, length, subst, sym, ℕ}
use Rattle.std.specs.Prelude.{option_map}
use Rattle.scenario_reader.specs.Lines.{lines_of}
use Rattle.scenario_reader.specs.Grammar as scenario
use Rattle.scenario_reader.specs.Plain.{nothing_yet}
use Rattle.group_reader.proofs.Cutting.{few_lines}
use Rattle.group_reader.proofs.Sizes.{read-sized}
use Rattle.group_reader.proofs.read.read_groups.Goals as goal
use Rattle.group_reader.proofs.read.read_groups.Goals.{In_ok-scenario}

-- part one was read, so its lines are within their limit
few : (c : In_ok-scenario) → c.parts_of-parts.result.lines ≤ 10000
few c =
    let read = few_lines nothing_yet 1 (lines_of c.parts_of-parts.result.before.now) c.in_ok-scenario.scenario (omega arith) c.in_ok-scenario.ensures.read in
    let same = ap (λ (lines : List (List ℕ)). length lines) c.parts_of-parts.ensures.before in
    omega (arith, c.parts_of-parts.ensures.lines)

pub overflow_cast-line : goal.overflow_cast-line
overflow_cast-line c = let le = few (goal.at.overflow_cast-line c).In_ok-scenario in omega arith

pub overflow_add-line : goal.overflow_add-line
overflow_add-line c = let le = few (goal.at.overflow_add-line c).In_ok-scenario in omega arith

pub overflow_add-line-in-Some : goal.overflow_add-line-in-Some
overflow_add-line-in-Some c = let le = few (goal.at.overflow_add-line-in-Some c).In_ok-scenario in omega arith

pub read_behind-requires : goal.read_behind-requires
read_behind-requires c = let le = few (goal.at.read_behind-requires c).In_ok-scenario in omega arith

pub returns-in-Some-clause-sized : goal.returns-in-Some-clause-sized
returns-in-Some-clause-sized c =
    read-sized c.args.bytes.now c.in_ok-scenario.scenario (lines_of c.in-Some.behind.now) _ c.read_behind.result
    (subst (λ (lines : List (List ℕ)). scenario.read_from nothing_yet 1 lines ≡ Ok c.in_ok-scenario.scenario) c.parts_of-parts.ensures.before
    c.in_ok-scenario.ensures.read)
    (sym c.parts_of-parts.ensures.behind ∙ ap (option_map (λ text. lines_of text.now)) c.in-Some.is)
    c.read_behind.ensures.read
