use Rattle.scenario_reader.proofs.Outcomes.{words-one, words-two}
use Rattle.scenario_reader.proofs.read.read_form.Goals as goal

pub returns-in-First-len1 : goal.returns-in-First-len1
returns-in-First-len1 c =
    let one = words-one c.args.words.now _ c.in-First-len1.len_at_least c.in-First-len1.len_below in
    rw (c.in-First-len1.is-0, one) c.read_first.ensures

pub returns-in-GiveUp-len1 : goal.returns-in-GiveUp-len1
returns-in-GiveUp-len1 c =
    let one = words-one c.args.words.now _ c.in-GiveUp-len1.len_at_least c.in-GiveUp-len1.len_below in
    rw (c.in-GiveUp-len1.is-0, one) c.read_giveup.ensures

pub returns-in-Join-len2 : goal.returns-in-Join-len2
returns-in-Join-len2 c =
    let two = words-two c.args.words.now _ c.in-Join-len2.len_at_least c.in-Join-len2.len_below in
    rw (c.in-Join-len2.is-0, two) c.read_join.ensures

pub returns-in-Fetch-len2 : goal.returns-in-Fetch-len2
returns-in-Fetch-len2 c =
    let two = words-two c.args.words.now _ c.in-Fetch-len2.len_at_least c.in-Fetch-len2.len_below in
    rw (c.in-Fetch-len2.is-0, two) c.read_fetch.ensures

pub returns-in-Reclaim-len2 : goal.returns-in-Reclaim-len2
returns-in-Reclaim-len2 c =
    let two = words-two c.args.words.now _ c.in-Reclaim-len2.len_at_least c.in-Reclaim-len2.len_below in
    rw (c.in-Reclaim-len2.is-0, two) c.read_reclaim.ensures
