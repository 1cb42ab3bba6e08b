use Rattle.std.proofs.Common.{rules, sym}
use Rattle.statement_view.proofs.Keeping.{set_written, nothing_kept}
use Rattle.statement_view.proofs.changed.write_key.Goals as goal

pub returns-in_default : goal.returns-in_default
returns-in_default c = rw (c.get_mut.follows.holds-at-none) (nothing_kept c.args.areas.now.entries c.args.key c.args.is_present (sym c.in_default.ensures.value))

pub returns-in_ok-_is_new : goal.returns-in_ok-_is_new
returns-in_ok-_is_new c = rw (c.get_mut.follows.holds c.insert.new.self).0 (set_written c.args.areas.now.entries c.in-Some.keys.now c.insert.new.self c.args.key c.args.is_present c.get_mut.ensures.ordered (search rules) (search rules))

pub returns-else-is_present : goal.returns-else-is_present
returns-else-is_present c = rw (c.get_mut.follows.holds c.remove-was_there.new.self).0 (set_written c.args.areas.now.entries c.in-Some.keys.now c.remove-was_there.new.self c.args.key c.args.is_present c.get_mut.ensures.ordered (search rules) (search rules))
