use Rattle.std.proofs.Common.{◌++◌, List, ap, ◌∙◌}
use Rattle.rdb_types.specs.declared.keys.Dbkey.{Dbkey}
use Rattle.rdo_ast.specs.Tree.{Name}
use Rattle.line_view.specs.Held.{ordered}
use Rattle.verified_lines.specs.Faults.{names_in_order}
use Rattle.rmu_verify.proofs.lines.trees_at_fault.Goals as goal

pub returns-in-Ok-clause-found : goal.returns-in-Ok-clause-found
returns-in-Ok-clause-found g c = λ t left so groups lines lays stands.
    let found = c.in_ok-verify_indexes.ensures.found t left so groups lines lays stands in
    record {
      nodes = found.0;
      indexes = found.1;
      finds = found.4;
      keys_are = c.in-Ok.ensures.nodes ∙ ap ordered (found.2 ∙ ap (λ (l : List Dbkey). l ++ found.0) c.new.ensures);
      names_are = c.in-Ok.ensures.names ∙ ap names_in_order (found.3 ∙ ap (λ (l : List Name). l ++ found.1) c.new-2.ensures);
    }
