use Rattle.std.proofs.Common.{sym, rules}
use Rattle.std.specs.Option.{option_copied}
use Rattle.std.specs.Prelude.{slice_get, length}
use Rattle.rdb_tables.proofs.Givings.{free_at_start, chosen_at_start}
use Rattle.rdb_tables.proofs.store.next_key.Goals as goal

pub returns-clause-free : goal.returns-clause-free
returns-clause-free c =
    free_at_start c.args.name.now c.args.tables.now c.args.work.now.undo c.in-Some.relation.now (option_copied c.saved_as-saved.result) (sym c.in-Some.ensures) (search rules)
    c.free_key.result c.free_key.ensures.free

pub returns-clause-chosen : goal.returns-clause-chosen
returns-clause-chosen c =
    chosen_at_start c.args.name.now c.args.tables.now c.args.work.now.undo c.in-Some.relation.now (option_copied c.saved_as-saved.result) (sym c.in-Some.ensures) (search rules)
    c.free_key.result c.copied-choice.result (slice_get c.args.choices.now (length c.args.work.now.taken)) (search rules) c.free_key.ensures.chosen
