use Rattle.trace_text.specs.Fronts.{plain_front}
use Rattle.trace_text.specs.Lines.{plain_line}
use Rattle.trace_text.proofs.Reading.{next_found}
use Rattle.trace_text.proofs.reader.next_front.Goals as goal

pub returns : goal.returns
returns c =
    next_found (λ _. plain_front c.add.new.self) (plain_front c.args.front.now) c.args.text.now (plain_line c.in_ok-line.line) c.add.result
    c.in_ok-line.ensures c.add.ensures
