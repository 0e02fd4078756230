use Rattle.std.proofs.Common.{arith, refl, lit<}
use Rattle.scenario_reader.specs.Spelling.{is_name_byte}
use Rattle.scenario_reader.proofs.tests.builds_a_scenario.Goals as goal

pub add_node-requires : goal.add_node-requires
unfolding is_name_byte
add_node-requires g c = rw c.new-builder.ensures (record {
  few = lit< tt;
  spelled = refl;
  new_name = λ k d within. absurd (omega arith);
  new_id = λ k d within. absurd (omega arith);
})

pub add_file-requires : goal.add_file-requires
unfolding is_name_byte
add_file-requires g c = rw (c.set_founder.ensures, c.in_ok-add_node.ensures.ok, c.new-builder.ensures) (record {
  few = lit< tt;
  spelled = refl;
  new_name = λ k d within. absurd (omega arith);
})
