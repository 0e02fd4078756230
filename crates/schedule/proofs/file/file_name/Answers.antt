use Rattle.std.proofs.Common.{IsTrue, ◌∙◌, rules}
use Rattle.scenario_reader.specs.Spelling.{is_name}
use Rattle.schedule.proofs.Names.{file_name_spelled}
use Rattle.schedule.proofs.file.file_name.Goals as goal

pub unwrap-requires : goal.unwrap-requires
unwrap-requires c =
    let spelled : IsTrue (is_name c.as_bytes.result.now) =
    file_name_spelled c.as_bytes.result.now c.args.file (c.as_bytes.ensures.value ∙ c.in_ok-name.ensures.ok) c.requires in
    search (rules, spelled)
