use Rattle.std.proofs.Common.{rules, sym}
use Rattle.rdb_tables.proofs.Undos.{save_kept, is_saved}
use Rattle.rdb_tables.proofs.undo.save.Goals as goal

pub returns-clause-kept : goal.returns-clause-kept
returns-clause-kept c =
    save_kept c.args.name.now c.args.tables.now c.args.undo.now c.in-Some.relation.now c.in_ok-before.before c.push.new.self c.as_slice-ordered.ensures.ordered
    (sym c.in-Some.ensures) (search rules) (search rules) (search rules)

pub returns-clause-saved : goal.returns-clause-saved
returns-clause-saved c = λ there. is_saved c.args.name.now c.args.undo.now.saved c.push.new.self c.in_ok-before.before (search rules)
