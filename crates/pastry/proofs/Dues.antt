-- What is due in a mode, where no device fails and where plain words name it.
use Rattle.std.proofs.Common.{◌≡◌, ℕ, List, Option, inl, inr, subst, arith}
use Rattle.outside.specs.Rose.{Rose}
use Rattle.clap.specs.Walk.{Text}
use Rattle.cli_words.specs.declared.mode.Mode.{Mode}
use Rattle.cli_words.specs.declared.mode.Mode.TheVariants.{Play, Run, Big, Trace, TraceRun, Check, Points, Large, Messages, Groups, Draw, OneNode}
use Rattle.pastry.specs.declared.outcome.TopFault.{TopFault}
use Rattle.pastry.specs.Asked.{AskFor, NamePlainly}
use Rattle.pastry.specs.Due.{IsDue}
use Rattle.pastry.proofs.Words.{named_is}

-- a count that stands at 0 does not rise
pub steady_count : (before after : ℕ) → before ≡ 0 → after ≡ 0 → Rose before after → ⊥
steady_count before after e f (inl lt) = omega arith
steady_count before after e f (inr top) = omega arith

-- where no device failed, what is due is due
pub due_where_none_fails : (mode : Mode) (rose_source rose_sink : Type 0) (left : Option (List ℕ)) (answered : Option TopFault) →
    (rose_source → ⊥) → (rose_sink → ⊥) → IsDue mode rose_source rose_sink left answered → IsDue mode ⊥ ⊥ left answered
due_where_none_fails Play rose_source rose_sink left answered source sink due = λ _ _. due source sink
due_where_none_fails Run rose_source rose_sink left answered source sink due = λ _ _. due source sink
due_where_none_fails (Big nodes seed) rose_source rose_sink left answered source sink due = λ _. due sink
due_where_none_fails Trace rose_source rose_sink left answered source sink due = λ _ _. due source sink
due_where_none_fails TraceRun rose_source rose_sink left answered source sink due = λ _ _. due source sink
due_where_none_fails Check rose_source rose_sink left answered source sink due = λ _ _. due source sink
due_where_none_fails (Points room) rose_source rose_sink left answered source sink due = λ _ _. due source sink
due_where_none_fails (Large nodes seed size) rose_source rose_sink left answered source sink due = λ _. due sink
due_where_none_fails Messages rose_source rose_sink left answered source sink due = λ _ _. due source sink
due_where_none_fails Groups rose_source rose_sink left answered source sink due = λ _ _. due source sink
due_where_none_fails (Draw from entries) rose_source rose_sink left answered source sink due = λ _ _. due source sink
due_where_none_fails OneNode rose_source rose_sink left answered source sink due = λ _ _. due source sink

-- what is due in the mode that words ask for is due in the one that they name
pub due_as_named : (rose_source rose_sink : Type 0) (left : Option (List ℕ)) (answered : Option TopFault) (words : List Text) (mode named : Mode) →
    AskFor words mode → NamePlainly words named → IsDue mode rose_source rose_sink left answered → IsDue named rose_source rose_sink left answered
due_as_named rose_source rose_sink left answered words mode named ask plain due =
    subst (λ (m : Mode). IsDue m rose_source rose_sink left answered) (named_is words mode named ask plain) due
