use Rattle.std.proofs.Common.{◌∙◌, refl, lit<, Option, Some, None, ap, List, ℕ}
use Rattle.std.specs.Option.{option_map_or}
use Rattle.clap.specs.Words.{found_of}
use Rattle.clap.specs.Matches.{one_text}
use Rattle.clap.proofs.WalkLemmas.{one_text-rows}
use Rattle.cli_words.specs.Command.{number_in}
use Rattle.cli_words.proofs.Numbers.{number_read}
use Rattle.cli_words.proofs.read.u64_in.Goals as goal

pub returns-in-Some : goal.returns-in-Some
returns-in-Some c =
    number_read (Unit {0}) 64 18446744073709551615 c.args.otherwise (one_text (found_of c.args.matches.now) c.args.option.now) (Some c.in-Some.number)
    refl (lit< tt) c.in-Some.ensures.none (λ t e. (c.in-Some.ensures.value t e).0)
    ∙ ap (λ (o : Option (List ℕ)). option_map_or (number_in 18446744073709551615 c.args.otherwise) o c.args.otherwise)
    (one_text-rows (found_of c.args.matches.now) c.args.option.now)

pub returns-in-None : goal.returns-in-None
returns-in-None c =
    number_read _ 64 18446744073709551615 c.args.otherwise (one_text (found_of c.args.matches.now) c.args.option.now) None refl (lit< tt)
    c.in-None.ensures.none (λ t e. let v = c.in-None.ensures.value t e in (v.0, v.1.0))
    ∙ ap (λ (o : Option (List ℕ)). option_map_or (number_in 18446744073709551615 c.args.otherwise) o c.args.otherwise)
    (one_text-rows (found_of c.args.matches.now) c.args.option.now)
