use Rattle.std.proofs.Common.{inl, inr, refl}
use Rattle.pastry.proofs.Words.{AskFor-from_read, AreUsage-from_read}
use Rattle.pastry.proofs.InMode.{reads_or_not}
use Rattle.pastry.proofs.top.top.Goals as goal

-- ---- a mode

pub returns-in-Ok-clause-done : goal.returns-in-Ok-clause-done
returns-in-Ok-clause-done g c = λ e. record {
  mode = c.in-Ok.mode;
  asked = AskFor-from_read _ _ c.in-Ok.mode refl (record { reads = c.in-Ok.ensures.reads; plain = c.in-Ok.ensures.plain });
  holds = c.run_mode.ensures.done e;
}

pub returns-in-Ok-clause-broken_off : goal.returns-in-Ok-clause-broken_off
returns-in-Ok-clause-broken_off g c = λ e. record {
  mode = c.in-Ok.mode;
  asked = AskFor-from_read _ _ c.in-Ok.mode refl (record { reads = c.in-Ok.ensures.reads; plain = c.in-Ok.ensures.plain });
  holds = c.run_mode.ensures.broken_off e;
}

pub returns-in-Ok-clause-nothing_written : goal.returns-in-Ok-clause-nothing_written
returns-in-Ok-clause-nothing_written g c = λ not.
    elim (c.run_mode.ensures.nothing_written not) [
      | inl same ↦ inl same
      | inr node ↦ inr (AskFor-from_read _ _ _ node (record { reads = c.in-Ok.ensures.reads; plain = c.in-Ok.ensures.plain }))
    ]

pub returns-in-Ok-clause-served : goal.returns-in-Ok-clause-served
returns-in-Ok-clause-served g c = inr (record {
  mode = c.in-Ok.mode;
  asked = AskFor-from_read _ _ c.in-Ok.mode refl (record { reads = c.in-Ok.ensures.reads; plain = c.in-Ok.ensures.plain });
  holds = c.run_mode.ensures.served;
})

pub returns-in-Ok-clause-untouched : goal.returns-in-Ok-clause-untouched
returns-in-Ok-clause-untouched g c =
    elim (reads_or_not c.in-Ok.mode) [
      | inl reads ↦ inr (record {
        mode = c.in-Ok.mode;
        asked = AskFor-from_read _ _ c.in-Ok.mode refl (record { reads = c.in-Ok.ensures.reads; plain = c.in-Ok.ensures.plain });
        holds = (reads, c.run_mode.ensures.reads);
      })
      | inr not ↦ inl (c.run_mode.ensures.left_alone not)
    ]

pub returns-in-Ok-clause-refused : goal.returns-in-Ok-clause-refused
returns-in-Ok-clause-refused g c = λ f e. record {
  mode = c.in-Ok.mode;
  asked = AskFor-from_read _ _ c.in-Ok.mode refl (record { reads = c.in-Ok.ensures.reads; plain = c.in-Ok.ensures.plain });
  holds = c.run_mode.ensures.refused f e;
}

pub returns-in-Ok-clause-unread : goal.returns-in-Ok-clause-unread
returns-in-Ok-clause-unread g c = λ e.
    let said = c.run_mode.ensures.unread e in (
      record {
        mode = c.in-Ok.mode;
        asked = AskFor-from_read _ _ c.in-Ok.mode refl (record { reads = c.in-Ok.ensures.reads; plain = c.in-Ok.ensures.plain });
        holds = said.0;
      },
      said.1,
    )

pub returns-in-Ok-clause-wrong : goal.returns-in-Ok-clause-wrong
returns-in-Ok-clause-wrong g c = λ entry part e. record {
  mode = c.in-Ok.mode;
  asked = AskFor-from_read _ _ c.in-Ok.mode refl (record { reads = c.in-Ok.ensures.reads; plain = c.in-Ok.ensures.plain });
  holds = c.run_mode.ensures.wrong entry part e;
}

pub returns-in-Ok-clause-unfit : goal.returns-in-Ok-clause-unfit
returns-in-Ok-clause-unfit g c = λ f e.
    let said = c.run_mode.ensures.unfit f e in (
      record {
        mode = c.in-Ok.mode;
        asked = AskFor-from_read _ _ c.in-Ok.mode refl (record { reads = c.in-Ok.ensures.reads; plain = c.in-Ok.ensures.plain });
        holds = said.0;
      },
      said.1,
    )

pub returns-in-Ok-clause-no_trace : goal.returns-in-Ok-clause-no_trace
returns-in-Ok-clause-no_trace g c = λ f e.
    let said = c.run_mode.ensures.no_trace f e in (
      record {
        mode = c.in-Ok.mode;
        asked = AskFor-from_read _ _ c.in-Ok.mode refl (record { reads = c.in-Ok.ensures.reads; plain = c.in-Ok.ensures.plain });
        holds = said.0;
      },
      said.1,
    )

pub returns-in-Ok-clause-complete : goal.returns-in-Ok-clause-complete
returns-in-Ok-clause-complete g c = inr (inr (
  c.in-Ok.mode,
  AskFor-from_read _ _ c.in-Ok.mode refl (record { reads = c.in-Ok.ensures.reads; plain = c.in-Ok.ensures.plain }),
  c.run_mode.ensures.due,
))

-- ---- no mode

pub returns-in-Err-Usage-clause-usage : goal.returns-in-Err-Usage-clause-usage
returns-in-Err-Usage-clause-usage g c = λ e.
    AreUsage-from_read _ _ c.in-Err-Usage.field-0-is (record { reads = c.in-Err-Usage.ensures.reads; plain = c.in-Err-Usage.ensures.plain })

pub returns-in-Err-Usage-clause-complete : goal.returns-in-Err-Usage-clause-complete
returns-in-Err-Usage-clause-complete g c = inr (inl (
  c.refused.ensures.fault,
  AreUsage-from_read _ _ c.in-Err-Usage.field-0-is (record { reads = c.in-Err-Usage.ensures.reads; plain = c.in-Err-Usage.ensures.plain }),
))

-- plain words are never refused
pub returns-in-Err-Usage-clause-plain : goal.returns-in-Err-Usage-clause-plain
returns-in-Err-Usage-clause-plain g c = λ mode named.
    absurd ((AreUsage-from_read _ _ c.in-Err-Usage.field-0-is
    (record { reads = c.in-Err-Usage.ensures.reads; plain = c.in-Err-Usage.ensures.plain })).odd named.pieces named.plain)

pub returns-in-Err-Usage-clause-steady : goal.returns-in-Err-Usage-clause-steady
returns-in-Err-Usage-clause-steady g c = λ source sink mode named.
    absurd ((AreUsage-from_read _ _ c.in-Err-Usage.field-0-is
    (record { reads = c.in-Err-Usage.ensures.reads; plain = c.in-Err-Usage.ensures.plain })).odd named.pieces named.plain)
