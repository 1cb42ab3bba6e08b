use Rattle.rmu_verify.proofs.indexes.walk_of.Goals as goal

pub returns-in-Ok-clause-found : goal.returns-in-Ok-clause-found
returns-in-Ok-clause-found g c = λ empty file owner t left so groups lines lays stands. c.in-Ok.ensures.fine empty lines (c.in_ok-known.ensures.agrees file owner t left so groups lines lays stands)

pub returns-in-Ok-clause-at_fault : goal.returns-in-Ok-clause-at_fault
returns-in-Ok-clause-at_fault g c = λ some file owner t left so groups lines lays stands pairs order.
    c.in-Ok.ensures.at_fault some c.in_ok-known.ensures.known lines (c.in_ok-known.ensures.agrees file owner t left so groups lines lays stands) pairs order
