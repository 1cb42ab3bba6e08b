use Rattle.std.proofs.Common.{true, false, ◌∙◌, sym}
use Rattle.node_search.specs.Wanted.{interval_of}
use Rattle.sorted_index.proofs.Gone.{found_more, found_all}
use Rattle.sorted_index.proofs.search.add_rows.Goals.{then-holds+in_ok-push, else-holds}
use Rattle.sorted_index.proofs.search.add_rows.Goals as goal

pub loop-next-preserved : goal.loop-next-preserved
loop-next-preserved c = λ shown holds.
    elim c.if-holds.branch [
      | then-holds+in_ok-push w ↦ found_more (interval_of c.args.wanted) c.args.node shown c.in-Some.own c.next_entry-next.result c.loop-next.next c.args.found.now c.loop-next.found c.if-holds.found true c.in-Some.is
          (λ values shows. sym w.if-holds.true ∙ c.holds.ensures values shows) c.next_entry-next.ensures.further (w.found-is ∙ w.in_ok-push.ensures.ok) (c.loop-next.invariant shown holds)
      | else-holds w ↦ found_more (interval_of c.args.wanted) c.args.node shown c.in-Some.own c.next_entry-next.result c.loop-next.next c.args.found.now c.loop-next.found c.if-holds.found false c.in-Some.is
          (λ values shows. sym w.if-holds.false ∙ c.holds.ensures values shows) c.next_entry-next.ensures.further w.found-is (c.loop-next.invariant shown holds)
    ]

pub returns-clause-ok : goal.returns-clause-ok
returns-clause-ok c = λ shown holds. found_all (interval_of c.args.wanted) c.args.node shown c.loop-next.next c.args.found.now c.loop-next.found c.in_default.is (c.loop-next.invariant shown holds)
