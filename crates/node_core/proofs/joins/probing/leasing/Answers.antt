use Rattle.node_core.proofs.joins.probing.leasing.Goals as goal

pub returns : goal.returns
returns c = λ s.
    record {
      state = c.in_ok-change.ensures s;
      messages = c.in_ok-messages.ensures;
      notes = c.new.ensures;
    }
