use Rattle.std.proofs.Common.{rules, sym}
use Rattle.line_view.proofs.Steps.{set_written, nothing_written, set_back}
use Rattle.line_view.proofs.known.write_key.Goals as goal

pub returns-in_default-clause-ok : goal.returns-in_default-clause-ok
returns-in_default-clause-ok c = rw (c.get_mut.follows.holds-at-none) (nothing_written c.args.areas.now.entries c.args.key c.args.is_present (sym c.in_default.ensures.value))

pub returns-in_err-_is_new-clause-err : goal.returns-in_err-_is_new-clause-err
returns-in_err-_is_new-clause-err c = rw (c.get_mut.follows.holds c.insert.new.self).0 (search (rules, set_back))

pub returns-in_ok-_is_new-clause-ok : goal.returns-in_ok-_is_new-clause-ok
returns-in_ok-_is_new-clause-ok c = rw (c.get_mut.follows.holds c.insert.new.self).0 (set_written c.args.areas.now.entries c.in-Some.keys.now c.insert.new.self c.args.key c.args.is_present (search rules) (search rules))

pub returns-else-is_present-clause-ok : goal.returns-else-is_present-clause-ok
returns-else-is_present-clause-ok c = rw (c.get_mut.follows.holds c.remove-was_there.new.self).0 (set_written c.args.areas.now.entries c.in-Some.keys.now c.remove-was_there.new.self c.args.key c.args.is_present (search rules) (search rules))
