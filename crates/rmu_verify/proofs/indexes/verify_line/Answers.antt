use Rattle.std.proofs.Common.{[], refl, sym, subst}
use Rattle.std.proofs.lemmas.List.{append-nil}
use Rattle.catalog_lines.specs.declared.line.CatalogLine.{CatalogLine}
use Rattle.line_moves.proofs.Runs.{on_ok}
use Rattle.sound_lines.specs.Contents.{versions_in}
use Rattle.verified_lines.specs.Relations.{FindsIndex}
use Rattle.rmu_verify.proofs.indexes.verify_line.Goals as goal

pub returns-in-Relation-clause-found : goal.returns-in-Relation-clause-found
returns-in-Relation-clause-found g c = λ t left so groups lines lays stands.
    ([], [], sym (append-nil _), sym (append-nil _), subst (λ (l : CatalogLine). FindsIndex lines (versions_in c.args.catalog.now.lines) c.args.catalog.now.tables l [] []) (sym c.in-Relation.is) (refl, refl))

pub returns-in-Global-clause-found : goal.returns-in-Global-clause-found
returns-in-Global-clause-found g c = λ t left so groups lines lays stands.
    ([], [], sym (append-nil _), sym (append-nil _), subst (λ (l : CatalogLine). FindsIndex lines (versions_in c.args.catalog.now.lines) c.args.catalog.now.tables l [] []) (sym c.in-Global.is) (refl, refl))

pub returns-in-Field-clause-found : goal.returns-in-Field-clause-found
returns-in-Field-clause-found g c = λ t left so groups lines lays stands.
    ([], [], sym (append-nil _), sym (append-nil _), subst (λ (l : CatalogLine). FindsIndex lines (versions_in c.args.catalog.now.lines) c.args.catalog.now.tables l [] []) (sym c.in-Field.is) (refl, refl))

pub returns-in-Index-clause-found : goal.returns-in-Index-clause-found
returns-in-Index-clause-found g c = on_ok _ _ c.verify_index.result (λ found t left so groups lines lays stands.
    let f = found t left so groups lines lays stands in
    (f.0, f.1, f.2, f.3, subst (λ (l : CatalogLine). FindsIndex lines (versions_in c.args.catalog.now.lines) c.args.catalog.now.tables l f.0 f.1) (sym c.in-Index.is) f.4)) c.verify_index.ensures.found
