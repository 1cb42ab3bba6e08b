use Rattle.std.proofs.Common.{sym, ap, subst, ◌∙◌}
use Rattle.std.specs.BTreeMap.{insert_entry}
use Rattle.ordered_entries.specs.rdb_types.Order.{dbkey_order}
use Rattle.line_view.specs.Knowledge.{Agrees}
use Rattle.line_view.specs.Held.{AreRooms, knows}
use Rattle.line_view.proofs.Agreements.{line_agrees}
use Rattle.line_view.proofs.Steps.{line_learnt}
use Rattle.line_view.proofs.known.Known.learn_line.Goals as goal

pub returns-clause-ok : goal.returns-clause-ok
returns-clause-ok c = line_learnt c.self.inside.lines.entries c.insert.new.self.entries _ _ c.args.self.now c.args.key c.args.image c.self.view_is (c.in_ok-_before.ensures.entries ∙ ap (λ b. insert_entry dbkey_order c.self.inside.lines.entries c.args.key b) c.in_ok-bytes.ensures)

pub returns-clause-agrees : goal.returns-clause-agrees
returns-clause-agrees c = λ all agrees is.
    subst (λ h. Agrees (knows h) all) (sym (returns-clause-ok c))
    (line_agrees c.args.self.now c.args.key c.args.image (subst (λ h. AreRooms h.rooms) c.self.view_is c.self.invariant) all agrees is)
