use Rattle.std.proofs.Common.{◌≡◌, ◌∙◌, ap, inr, sym, map, List, [], Ok, Err, Option, Some, Result, subst, ⊎_elim, Global}
use Rattle.std.specs.Option.{ok_or}
use Rattle.std.specs.Rc.{rc_str_bytes}
use Rattle.clap.specs.Words.{Text, App}
use Rattle.clap.specs.Simple.{is_simple, matches_of}
use Rattle.clap.specs.Kinds.{HasKind, Kinds}
use Rattle.clap.specs.Faults.{fault_of, is_simple_and_free}
use Rattle.cli_words.specs.declared.mode.Mode.{Mode}
use Rattle.cli_words.specs.declared.mode.WordFault.{WordFault}
use Rattle.cli_words.specs.declared.mode.WordFault.TheVariants.{Usage}
use Rattle.cli_words.specs.Command.{Reads, command_of, mode_of}
use Rattle.cli_words.proofs.ModeGiven.{some_mode_of}
use Rattle.cli_words.proofs.Simple.{is_simple_command, is_free_command}
use Rattle.cli_words.proofs.read.read.Goals as goal

pub returns-in-Ok : goal.returns-in-Ok
returns-in-Ok c =
    let cmd = c.in_ok-command.ensures.ok in
    let words : List Text = map (rc_str_bytes {Z = Global}) c.args.words.now in
    let free = ap is_simple_and_free cmd.2 ∙ is_free_command cmd.0 in
    let simple = ap is_simple cmd.2 ∙ is_simple_command cmd.0 in
    let faultless : fault_of (command_of cmd.0) words ≡ [] = ap (λ (a : App). fault_of a words) (sym cmd.2) ∙ c.in-Ok.ensures.kinds free in
    let some = some_mode_of cmd.0 cmd.1 words faultless in
    let matched = (c.in-Ok.ensures.matches simple).0 ∙ ap (λ (a : App). matches_of a words) cmd.2 in
    let found : c.mode_in.result ≡ Some some.0 = c.mode_in.ensures ∙ ap mode_of matched ∙ some.1 in
    let answered : c.ok_or.result ≡ Ok some.0 = c.ok_or.ensures.value ∙ ap (λ (o : Option Mode). ok_or o Usage) found in
    inr (
      cmd.0,
      cmd.1,
      subst (Reads cmd.0 words) (sym answered)
          (record { ok = (faultless, some.1); usage = λ e. let x : ◌≡◌ {A = Result Mode WordFault} (Ok some.0) (Err Usage) = e in absurd (cc) }),
    )

pub returns-in-Err : goal.returns-in-Err
returns-in-Err c =
    let cmd = c.in_ok-command.ensures.ok in
    let words : List Text = map (rc_str_bytes {Z = Global}) c.args.words.now in
    let free = ap is_simple_and_free cmd.2 ∙ is_free_command cmd.0 in
    inr (
      cmd.0,
      cmd.1,
      record {
        ok = tt;
        usage = λ e none.
            let x : ◌≡◌ {A = Result Mode WordFault} (Err c.fault_in.result) (Err Usage) = e in
            let is_usage : c.fault_in.result ≡ Usage = (cc) in
            let h : HasKind [] c.in-Err.error = subst (λ (k : Kinds). HasKind k c.in-Err.error) (ap (λ (a : App). fault_of a words) cmd.2 ∙ none)
            (c.in-Err.ensures.kinds free) in
            ⊎_elim (λ oom. c.fault_in.ensures.usage is_usage oom) (λ x. x) h;
      },
    )
