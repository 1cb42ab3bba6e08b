use Rattle.std.proofs.Common.{rules, sym, subst, ◌∷◌, []}
use Rattle.catalog_lines.specs.Lines.{IsAllowedLine}
use Rattle.catalog_definitions.specs.Causes.{catalog_room}
use Rattle.catalog_definitions.specs.Written.{AreWritten, index_room, IsIndexWritten}
use Rattle.catalog_definitions.proofs.LaidLines.{lacks_first, err_behind, if_ok}
use Rattle.catalog_definitions.proofs.indexes.write_index.Goals as goal

pub returns-in_err-root-clause-stop : goal.returns-in_err-root-clause-stop
returns-in_err-root-clause-stop g c =
    let why = lacks_first (g.V.View.knows c.args.view.now) (index_room c.args.index.now.area) (catalog_room 0 ∷ []) c.in_err-root.field-0.0 c.in_err-root.ensures.stop in
    search (rules, why)

pub write_lines-requires-clause-allowed : goal.write_lines-requires-clause-allowed
write_lines-requires-clause-allowed g c = (subst IsAllowedLine (sym c.in_ok-line.ensures) (c.requires c.in_ok-root.root), tt)

pub returns-clause-stop : goal.returns-clause-stop
returns-clause-stop g c = err_behind (g.V.View.knows c.args.view.now) (index_room c.args.index.now.area) c.in_ok-root.root (catalog_room 0 ∷ []) c.write_lines.result c.in_ok-root.ensures.key c.write_lines.ensures.stop

pub returns-clause-line : goal.returns-clause-line
returns-clause-line g c =
    let known = g.V.View.knows c.args.view.now in
    if_ok (AreWritten known 0 (c.in_ok-line.line ∷ [])) (IsIndexWritten known c.args.name.now c.args.index.now) c.write_lines.result
    (λ writes written. record { root = c.in_ok-root.root; room = c.in_ok-root.ensures.key; line = subst (λ line. AreWritten known 0 (line ∷ []) writes) c.in_ok-line.ensures written })
    c.write_lines.ensures.writes
