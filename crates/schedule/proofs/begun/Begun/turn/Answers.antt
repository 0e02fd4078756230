use Rattle.schedule.proofs.Turning.{gives_delivery, gives_again, gives_oldest, gives_word, shuffle_ends}
use Rattle.schedule.proofs.begun.Begun.turn.Goals as goal

pub returns-then-again-gt0-clause-some : goal.returns-then-again-gt0-clause-some
returns-then-again-gt0-clause-some c = rw c.in-Settle.is (gives_again _ _ _ _ _ _ _ c.if-again-gt0.true c.delivery.ensures)

pub returns-in-Deliver-clause-some : goal.returns-in-Deliver-clause-some
returns-in-Deliver-clause-some c = rw c.in-Deliver.is (gives_delivery _ _ _ _ _ c.delivery-turn.ensures)

pub returns-in_ok-oldest-in-Settle-clause-some : goal.returns-in_ok-oldest-in-Settle-clause-some
returns-in_ok-oldest-in-Settle-clause-some c =
    rw c.in-Settle.is (rw c.in_ok-oldest-in-Settle.was
    (gives_oldest _ _ _ _ _ _ c.if-again-gt0.false c.if-left-eq0.false c.requires))

pub returns-then-next-end-clause-none : goal.returns-then-next-end-clause-none
returns-then-next-end-clause-none c = rw c.in-Shuffle.is (shuffle_ends _ _ _ _ _ _ c.if-next-end.true)

pub returns-else-next-end-clause-some : goal.returns-else-next-end-clause-some
returns-else-next-end-clause-some c =
    rw c.in-Shuffle.is
    (gives_word _ _ _ _ _ _ _ _ _ c.if-next-end.false c.word-word.ensures c.drawn.ensures c.delivery-in-Shuffle.ensures)
