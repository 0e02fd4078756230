use Rattle.node_core.proofs.node.Node.step.Goals as goal

pub returns-clause-ok : goal.returns-clause-ok
returns-clause-ok c = λ s st.
    let p = c.in_ok-messages.ensures.plans s st in
    record {
      stands = c.commit.ensures.stands s _ (c.prepare.ensures.stands s st) p.state (c.prepare.ensures.sound s st);
      messages = p.messages;
      notes = p.notes;
    }
