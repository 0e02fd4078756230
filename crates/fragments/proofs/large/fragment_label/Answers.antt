use Rattle.std.proofs.Common.{IsTrue, ◌∙◌, rules}
use Rattle.scenario_reader.specs.Spelling.{is_name}
use Rattle.fragments.proofs.Planned.{label_spelled}
use Rattle.fragments.proofs.large.fragment_label.Goals as goal

pub unwrap-requires : goal.unwrap-requires
unwrap-requires c =
    let spelled : IsTrue (is_name c.as_bytes.result.now) =
    label_spelled c.as_bytes.result.now c.args.fragment (c.as_bytes.ensures.value ∙ c.in_ok-name.ensures.ok) c.requires in
    search (rules, spelled)
