use Rattle.message_table.proofs.ends.put_links.Goals as goal

pub returns-in-Some : goal.returns-in-Some
returns-in-Some c = rw c.in-Some.is c.put_both.ensures
