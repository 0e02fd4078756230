use Rattle.cli_words.proofs.Simple.{one_more}
use Rattle.cli_words.proofs.command.command.Goals as goal

pub returns-clause-ok : goal.returns-clause-ok
returns-clause-ok c =
    let mode = c.mode_arg.ensures.rule in
    let one = one_more c.bare_command.result c.in_ok-arg.field-0 c.mode_arg.result _ _ c.in_ok-arg.ensures c.mode_arg.ensures.local
    c.bare_command.ensures mode.2 in
    let two = one_more c.in_ok-arg.field-0 c.in_ok-arg-2.field-0 c.u32_arg.result _ _ c.in_ok-arg-2.ensures c.u32_arg.ensures.local one
    c.u32_arg.ensures.rule in
    let three = one_more c.in_ok-arg-2.field-0 c.in_ok-arg-3.field-0 c.u64_arg.result _ _ c.in_ok-arg-3.ensures c.u64_arg.ensures.local two
    c.u64_arg.ensures.rule in
    let four = one_more c.in_ok-arg-3.field-0 c.in_ok-arg-4.field-0 c.u32_arg-2.result _ _ c.in_ok-arg-4.ensures c.u32_arg-2.ensures.local three
    c.u32_arg-2.ensures.rule in
    let five = one_more c.in_ok-arg-4.field-0 c.in_ok-arg-5.field-0 c.u32_arg-3.result _ _ c.in_ok-arg-5.ensures c.u32_arg-3.ensures.local four
    c.u32_arg-3.ensures.rule in
    let six = one_more c.in_ok-arg-5.field-0 c.in_ok-arg-6.field-0 c.u64_arg-2.result _ _ c.in_ok-arg-6.ensures c.u64_arg-2.ensures.local five
    c.u64_arg-2.ensures.rule in
    let seven = one_more c.in_ok-arg-6.field-0 c.in_ok-arg-7.field-0 c.u32_arg-4.result _ _ c.in_ok-arg-7.ensures c.u32_arg-4.ensures.local six
    c.u32_arg-4.ensures.rule in (
      mode.0,
      mode.1,
      one_more c.in_ok-arg-7.field-0 c.in_ok-command.command c.threads_arg.result _ _ c.in_ok-command.ensures c.threads_arg.ensures.local seven
          c.threads_arg.ensures.rule,
    )
