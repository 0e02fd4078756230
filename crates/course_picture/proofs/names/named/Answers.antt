use Rattle.std.proofs.Common.{◌≡◌, true, Option, Some, None, rules, ap, ◌∙◌}
use Rattle.std.specs.Prelude.{IsSome}
use Rattle.std.specs.Option.{SomeIff}
use Rattle.scenario_reader.specs.Spelling.{is_name}
use Rattle.course_picture.proofs.ShortNames.{short-name}
use Rattle.course_picture.proofs.names.named.Goals as goal

some_at : {A : Type 0} (P : Type 0) (o : Option A) (v : A) → SomeIff o P v → P → IsSome o
some_at P None v given holds = absurd (given holds)
some_at P (Some x) v given holds = search rules

pub unwrap-requires : goal.unwrap-requires
unwrap-requires c =
    some_at (is_name c.short_label.result ≡ true) c.new.result c.short_label.result c.new.ensures (ap is_name c.short_label.ensures ∙ short-name c.args.id)
