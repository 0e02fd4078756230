use Rattle.group_reader.proofs.Reading.{words_two}
use Rattle.group_reader.proofs.line.read_form.Goals as goal

pub returns-in-Subscribe-len2 : goal.returns-in-Subscribe-len2
returns-in-Subscribe-len2 c =
    let two = words_two c.args.words.now _ c.in-Subscribe-len2.len_at_least c.in-Subscribe-len2.len_below in
    rw (c.in-Subscribe-len2.is-0, two) c.read_subscribe.ensures

pub returns-in-Leave-len2 : goal.returns-in-Leave-len2
returns-in-Leave-len2 c =
    let two = words_two c.args.words.now _ c.in-Leave-len2.len_at_least c.in-Leave-len2.len_below in
    rw (c.in-Leave-len2.is-0, two) c.read_leave.ensures
