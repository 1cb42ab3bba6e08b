use Rattle.std.proofs.Common.{rules, sym, ap, subst, ◌∙◌}
use Rattle.std.specs.BTreeMap.{insert_entry}
use Rattle.ordered_entries.specs.rdb_types.Order.{dbkey_order}
use Rattle.line_view.specs.Knowledge.{Agrees, laid}
use Rattle.line_view.specs.Held.{AreRooms, knows}
use Rattle.line_view.proofs.Agreements.{write_agrees}
use Rattle.line_view.proofs.Steps.{laid_over, all_back}
use Rattle.line_view.proofs.known.Known.put.Goals as goal

pub returns-in-Err-clause-err : goal.returns-in-Err-clause-err
returns-in-Err-clause-err c = all_back c.self.inside.lines.entries c.take_back.new.lines.entries c.insert.new.self.entries _ _ _ c.args.self.now c.args.key c.args.image c.in_ok-before.before c.self.view_is c.insert.ensures.was_ordered (c.in_ok-before.ensures.entries ∙ ap (λ b. insert_entry dbkey_order c.self.inside.lines.entries c.args.key b) c.in_ok-bytes.ensures) c.in_ok-before.ensures.old c.take_back.ensures c.in-Err.ensures.err

pub returns-clause-ok : goal.returns-clause-ok
returns-clause-ok c = laid_over c.self.inside.lines.entries c.insert.new.self.entries _ _ _ c.args.self.now c.args.key c.args.image _ c.self.view_is (c.in_ok-before.ensures.entries ∙ ap (λ b. insert_entry dbkey_order c.self.inside.lines.entries c.args.key b) c.in_ok-bytes.ensures) (search rules) c.in_default.ensures.ok

pub returns-clause-agrees : goal.returns-clause-agrees
returns-clause-agrees c = λ all sorted agrees.
    subst (λ h. Agrees (knows h) (laid c.args.key c.args.image all)) (sym (returns-clause-ok c))
    (write_agrees c.args.self.now c.args.key c.args.image (subst (λ h. AreRooms h.rooms) c.self.view_is c.self.invariant) all sorted agrees)
