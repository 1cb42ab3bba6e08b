use Rattle.std.proofs.Common.{rules, ◌≡◌, Some, sym, ap, ◌∙◌}
use Rattle.rdb_meaning.specs.Contents.{relation_named, class_of}
use Rattle.stored_schema.proofs.Written.{is_target}
use Rattle.stored_schema.proofs.schema.Schema.target.Goals as goal

pub returns-clause-target : goal.returns-clause-target
returns-clause-target c = λ all t rel sound named.
    let found : relation_named c.args.name.now c.args.self.now.tables ≡ Some c.in-Some.relation.now = search rules in
    is_target all c.args.self.now t c.args.name.now rel sound named c.in-Some.relation.now _ found (search rules) (c.class_of.ensures.class ∙ ap class_of c.as_slice-2.ensures) c.lines_on.ensures
