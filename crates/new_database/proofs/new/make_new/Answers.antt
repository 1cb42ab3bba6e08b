use Rattle.std.proofs.Common.{subst}
use Rattle.rdb_outside.specs.Moments.{weaker}
use Rattle.root_file.specs.Root.{IsRoot}
use Rattle.new_database.specs.Maker.{IsNewOrNone}
use Rattle.new_database.specs.New.{IsNewDatabaseOrNone}
use Rattle.new_database.proofs.Limited.{limited, limited_or_none}
use Rattle.new_database.proofs.new.make_new.Goals as goal

pub returns-in-Ok-clause-made : goal.returns-in-Ok-clause-made
returns-in-Ok-clause-made g c = λ told empty image left.
    let is_root = subst (λ r. IsRoot c.put_root.new.slot r) c.new_root.ensures c.put_root.ensures in
    limited c.args.limits c.put_header.new.slot c.put_root.new.slot is_root c.put_header.ensures image (c.in-Ok.ensures.made told empty image left)

pub returns-in-Ok-clause-any_moment : goal.returns-in-Ok-clause-any_moment
returns-in-Ok-clause-any_moment g c = λ told empty.
    let is_root = subst (λ r. IsRoot c.put_root.new.slot r) c.new_root.ensures c.put_root.ensures in
    weaker _ _ (IsNewOrNone c.put_header.new.slot c.put_root.new.slot) (IsNewDatabaseOrNone c.args.limits)
    (limited_or_none c.args.limits c.put_header.new.slot c.put_root.new.slot is_root c.put_header.ensures) (c.make.ensures.any_moment told empty)

pub returns-in-Err-clause-any_moment : goal.returns-in-Err-clause-any_moment
returns-in-Err-clause-any_moment g c = λ told empty.
    let is_root = subst (λ r. IsRoot c.put_root.new.slot r) c.new_root.ensures c.put_root.ensures in
    weaker _ _ (IsNewOrNone c.put_header.new.slot c.put_root.new.slot) (IsNewDatabaseOrNone c.args.limits)
    (limited_or_none c.args.limits c.put_header.new.slot c.put_root.new.slot is_root c.put_header.ensures) (c.make.ensures.any_moment told empty)
