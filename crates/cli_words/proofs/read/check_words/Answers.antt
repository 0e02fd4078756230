use Rattle.std.proofs.Common.{◌∙◌, ap, inr, sym, map, List, [], subst, ⊎_elim, Global}
use Rattle.std.specs.Rc.{rc_str_bytes}
use Rattle.clap.specs.Words.{Text, App}
use Rattle.clap.specs.Kinds.{HasKind, Kinds}
use Rattle.clap.specs.Faults.{fault_of, is_simple_and_free}
use Rattle.cli_words.proofs.Simple.{is_free_command}
use Rattle.cli_words.proofs.read.check_words.Goals as goal

pub returns-in-Ok-try_get_matches_from : goal.returns-in-Ok-try_get_matches_from
returns-in-Ok-try_get_matches_from c =
    let cmd = c.in-Ok.ensures.ok in
    let words : List Text = map (rc_str_bytes {Z = Global}) c.args.words.now in
    let free = ap is_simple_and_free cmd.2 ∙ is_free_command cmd.0 in
    inr (
      cmd.0,
      cmd.1,
      record {
        ok = ap (λ (a : App). fault_of a words) (sym cmd.2) ∙ c.in-Ok-try_get_matches_from.ensures.kinds free;
        err = tt;
      },
    )

pub returns-in-Err-try_get_matches_from : goal.returns-in-Err-try_get_matches_from
returns-in-Err-try_get_matches_from c =
    let cmd = c.in-Ok.ensures.ok in
    let words : List Text = map (rc_str_bytes {Z = Global}) c.args.words.now in
    let free = ap is_simple_and_free cmd.2 ∙ is_free_command cmd.0 in
    inr (
      cmd.0,
      cmd.1,
      record {
        ok = tt;
        err = λ other none.
            let error = c.in-Err-try_get_matches_from.error in
            let faultless = ap (λ (a : App). fault_of a words) cmd.2 ∙ none in
            let kinds = c.in-Err-try_get_matches_from.ensures.kinds free in
            let h : HasKind [] error = subst (λ (k : Kinds). HasKind k error) faultless kinds in
            ⊎_elim (λ oom. other oom) (λ x. x) h;
      },
    )
