use Rattle.std.proofs.Common.{rules}
use Rattle.statement_view.proofs.Keeping.{kept_already, kept_now}
use Rattle.statement_view.proofs.changed.keep_area.Goals as goal

pub returns-then-contains_key : goal.returns-then-contains_key
returns-then-contains_key c = kept_already c.args.area c.args.areas.now.entries _ (search rules)

pub returns : goal.returns
returns c = kept_now c.args.area c.args.areas.now.entries c.insert.new.self.entries c.in_ok-copy.copy c.in-Some.keys.now.keys _ (search rules) (search rules) c.in_ok-copy.ensures c.in_ok-_before.ensures.entries
