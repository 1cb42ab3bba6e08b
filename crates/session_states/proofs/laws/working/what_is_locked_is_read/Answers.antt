use Rattle.std.proofs.Common.{refl}
use Rattle.std.proofs.lemmas.Bool.{and_parts}
use Rattle.store_counts.specs.Counts.{written_of, is_on_line}
use Rattle.store_counts.proofs.Kept.{counted-same, counted-takes}
use Rattle.line_view.specs.declared.need.Need.TheVariants.{Line}
use Rattle.session_states.specs.declared.stage.Work.TheVariants.{Due, Fetching, Lodging}
use Rattle.session_states.proofs.Working.{reads}
use Rattle.session_states.proofs.laws.working.what_is_locked_is_read.Goals as goal

pub returns-clause-more : goal.returns-clause-more
returns-clause-more g c = λ s d shelf left total standing known new spoken waits item n others now mine space more.
    reads g.S.Statements.stands g.met.S.Statements.orderly s d shelf left total standing known new spoken waits item (Fetching n) (Fetching n) n
    (λ got h. h) (λ got h. h) (λ ws seat h. h) (λ ws seat h. h) (λ p h. h) (λ o p h counted. counted-same o p s d.shelf shelf counted others now space mine) refl others now mine more

pub returns-clause-read : goal.returns-clause-read
returns-clause-read g c = λ s d shelf left total standing known new spoken waits item n others now mine space more.
    reads g.S.Statements.stands g.met.S.Statements.orderly s d shelf left total standing known new spoken waits item (Fetching n) Due n
    (λ got h. h) (λ got h. tt) (λ ws seat h. h) (λ ws seat h. h) (λ p h. tt) (λ o p h counted. counted-same o p s d.shelf shelf counted others now space mine) refl others now mine more

pub returns-clause-lodging : goal.returns-clause-lodging
returns-clause-lodging g c = λ s d shelf left total standing known new spoken waits item room key others now mine space more.
    reads g.S.Statements.stands g.met.S.Statements.orderly s d shelf left total standing known new spoken waits item (Lodging room key) (Lodging room key) (Line key)
    (λ got h. h.0) (λ got h. h) (λ ws seat h. h) (λ ws seat h. h) (λ p h. h) (λ o p h counted. counted-same o p s d.shelf shelf counted others now space mine) refl others now mine more

pub returns-clause-lodged : goal.returns-clause-lodged
returns-clause-lodged g c = λ s d shelf left total standing known new spoken waits item room key others now mine space more.
    reads g.S.Statements.stands g.met.S.Statements.orderly s d shelf left total standing known new spoken waits item (Lodging room key) Due (Line key)
    (λ got h. h.0) (λ got h. tt) (λ ws seat h. h) (λ ws seat h. h) (λ p h. tt) (λ o p h counted. counted-takes o p s key d.shelf shelf (and_parts (is_on_line (written_of (p.transaction s)) key) (is_on_line p.touched key) h).1 counted others now mine space) refl others now mine more
