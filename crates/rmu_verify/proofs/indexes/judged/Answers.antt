use Rattle.rmu_verify.proofs.indexes.judged.Goals as goal

pub returns-in-Ok-clause-holds : goal.returns-in-Ok-clause-holds
returns-in-Ok-clause-holds g c = λ is file owner t left so groups lines lays stands. c.in-Ok.ensures.holds is lines stands.in_order (c.in_ok-known.ensures.agrees file owner t left so groups lines lays stands)

pub returns-in-Ok-clause-differs : goal.returns-in-Ok-clause-differs
returns-in-Ok-clause-differs g c = λ is file owner t left so groups lines lays stands. c.in-Ok.ensures.differs is lines stands.in_order (c.in_ok-known.ensures.agrees file owner t left so groups lines lays stands)

pub returns-in-Ok-clause-unjudged : goal.returns-in-Ok-clause-unjudged
returns-in-Ok-clause-unjudged g c = λ is file owner t left so groups lines lays stands. c.in-Ok.ensures.unjudged is lines stands.in_order (c.in_ok-known.ensures.agrees file owner t left so groups lines lays stands)
