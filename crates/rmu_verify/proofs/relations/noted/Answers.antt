use Rattle.std.proofs.Common.{rules, ◌≡◌, ◌∙◌, true, false, sym, subst}
use Rattle.std.specs.Ordering.{is_eq}
use Rattle.rdb_types.specs.Order.{chars_order}
use Rattle.catalog_lines.specs.declared.line.CatalogLine.{CatalogLine}
use Rattle.sound_lines.specs.Contents.{version_of, with_version}
use Rattle.rmu_verify.proofs.Found.{version_put}
use Rattle.rmu_verify.proofs.relations.noted.Goals as goal

pub returns-then-is_eq : goal.returns-then-is_eq
returns-then-is_eq c = λ versions is.
    let r = c.in-Relation.relation in
    let tie : is_eq (chars_order c.args.name.now r.name) ≡ true = first_of (cc, search rules) in
    subst (λ (l : CatalogLine). r.version ≡ version_of c.args.name.now (with_version l versions)) (sym c.in-Relation.is) (sym (version_put c.args.name.now r versions true tie))

pub returns-else-is_eq : goal.returns-else-is_eq
returns-else-is_eq c = λ versions is.
    let r = c.in-Relation.relation in
    let tie : is_eq (chars_order c.args.name.now r.name) ≡ false = first_of (cc, search rules) in
    subst (λ (l : CatalogLine). c.args.version ≡ version_of c.args.name.now (with_version l versions)) (sym c.in-Relation.is) (is ∙ sym (version_put c.args.name.now r versions false tie))
