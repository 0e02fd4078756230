-- The command is one whose reading clap states exactly, and each argument adds its rule to it.
use Rattle.std.proofs.Common.{◌≡◌, true, false, refl, ap, ◌∙◌, List}
use Rattle.std.specs.Borrow.{Bor}
use Rattle.clap.specs.Words.{AddsArg}
use Rattle.clap.specs.Walk.{Text, Rule, rule_of}
use Rattle.clap.specs.Simple.{App, app_of, is_simple, with_rule}
use Rattle.clap.specs.Faults.{is_simple_and_free}
use Rattle.clap.specs.declared.builder.arg.Arg.{Arg}
use Rattle.clap.specs.declared.builder.command.Command.{Command}
use Rattle.clap.proofs.OnLiterals.{clap_on_literals}
use Rattle.cli_words.specs.Command.{command_of}

pub is_simple_command : (names : Bor (List (Bor Text))) → is_simple (command_of names) ≡ true
unfolding clap_on_literals
is_simple_command names = refl

pub is_free_command : (names : Bor (List (Bor Text))) → is_simple_and_free (command_of names) ≡ true
unfolding clap_on_literals
is_free_command names = refl

pub one_more : (old new : Command) (a : Arg) (before : App) (rule : Rule) → AddsArg old a new → a.global ≡ false → app_of old ≡ before → rule_of a ≡ rule →
    app_of new ≡ with_rule before rule
one_more old new a before rule adds local is rules =
    adds.shape local ∙ ap (λ (app : App). with_rule app (rule_of a)) is ∙ ap (λ (r : Rule). with_rule before r) rules
