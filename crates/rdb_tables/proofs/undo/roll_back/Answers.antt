use Rattle.std.proofs.Common.{◌≡◌, List, [], ◌∙◌, sym, ap, rules}
use Rattle.rdb_tables.specs.declared.undo.Saved.{Saved}
use Rattle.rdb_tables.specs.Undoing.{beginning}
use Rattle.rdb_tables.proofs.Undos.{change_undone, relation_back, beginning_nothing, undo_with}
use Rattle.rdb_tables.proofs.undo.roll_back.Goals as goal

pub loop-relation-preserved : goal.loop-relation-preserved
loop-relation-preserved c =
    change_undone c.in-Some.field-0 c.pop.new.self c.loop-relation.changes c.args.undo.saved c.loop-relation.tables c.undo_row_of.new.tables c.undo_row_of.ensures.ordered.relations
    c.in-Some.ensures (cc (c.undo_row_of.ensures.undone)) ∙ c.loop-relation.invariant

pub loop-relation-2-preserved : goal.loop-relation-2-preserved
loop-relation-2-preserved c =
    relation_back c.in-Some-pop.field-0 c.pop-in-loop-relation-2.new.self c.loop-relation-2.saved c.loop-relation-2.tables c.exchange.new.self c.exchange.result c.as_slice-ordered.ensures.ordered
    c.in-Some-pop.ensures (search rules) (search rules) c.exchange.ensures.none ∙ c.loop-relation-2.invariant

pub returns : goal.returns
returns c =
    let none : c.loop-relation-2.saved ≡ [] = search rules in
    sym (beginning_nothing c.loop-relation-2.tables) ∙ ap (λ (ss : List Saved). beginning c.loop-relation-2.tables (undo_with [] ss)) (sym none) ∙ c.loop-relation-2.invariant
