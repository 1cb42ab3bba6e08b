use Rattle.std.proofs.Common.{◌≡◌, ◌+◌, true, drop, List, [], ◌∷◌, sym, ap, subst, ◌∙◌, arith}
use Rattle.std.proofs.lemmas.List.{drop_more, drop_all}
use Rattle.std.specs.FinMap.Entries.{put, is_sorted}
use Rattle.rdo_ast.specs.Tree.{Name}
use Rattle.rdb_meaning.specs.declared.tables.Relation.{Relation}
use Rattle.rdb_types.specs.Order.{chars_order}
use Rattle.relation_rows.specs.Relations.{HasRows}
use Rattle.sound_lines.specs.Contents.{stored, HaveRows}
use Rattle.sound_lines.proofs.RelationsRead.{AreFound, one_more_found, all_found}
use Rattle.sound_lines.proofs.relations.read_relations.Goals as goal

pub loop-name-preserved : goal.loop-name-preserved
loop-name-preserved g c =
    let known = g.V.View.knows c.args.view.now in
    let items : List (Name × Relation) = c.as_slice-name-items.result.now in
    let i = c.loop-name.name-index in
    let b : Name × Relation = c.loop-name-item.result in
    let next : drop i items ≡ b ∷ drop (i + 1) items = drop_more items i b c.loop-name-test.true ∙ ap (λ x. x ∷ drop (i + 1) items) (sym c.loop-name-item.is) in
    one_more_found known c.args.versions.now items (drop (i + 1) items) c.loop-name.found c.put.new.self b c.in_ok-relation.relation
    (subst (λ l. AreFound known c.args.versions.now items l c.loop-name.found) next c.loop-name.invariant)
    (λ all sorted agrees. subst (λ v. HasRows all (stored v b.1) c.in_ok-relation.relation) c.version_of-version.ensures (c.in_ok-relation.ensures.rows all sorted agrees))
    c.in_ok-relation.ensures.known
    (c.in_ok-put.ensures.ok ∙ ap (λ k. put chars_order k c.in_ok-relation.relation c.loop-name.found) c.in_ok-copied.ensures)

pub returns-clause-rows : goal.returns-clause-rows
returns-clause-rows g c = λ all sorted agrees.
    let known = g.V.View.knows c.args.view.now in
    let items : List (Name × Relation) = c.as_slice-name-items.result.now in
    let end : drop c.loop-name.name-index items ≡ [] = drop_all c.loop-name.name-index items (omega arith) in
    let same : items ≡ c.args.relations.now = c.as_slice-name-items.ensures.value in
    subst (λ l. HaveRows all c.args.versions.now l c.loop-name.found) same
    (all_found known c.args.versions.now items c.loop-name.found
    (subst (λ l. is_sorted chars_order l ≡ true) (sym same) c.as_slice-name-items.ensures.ordered)
    (subst (λ l. AreFound known c.args.versions.now items l c.loop-name.found) end c.loop-name.invariant) all sorted agrees)
