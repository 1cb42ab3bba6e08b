use Rattle.std.proofs.Common.{◌≡◌, sym, ap, subst, ◌∙◌}
use Rattle.line_view.specs.Held.{knows}
use Rattle.access_paths.specs.declared.choice.Access.{Access}
use Rattle.access_paths.specs.declared.choice.Access.TheVariants.{Find, Range}
use Rattle.index_rows.specs.Given.{Serves}
use Rattle.index_rows.specs.Indexed.{positions_in}
use Rattle.index_ahead.specs.Added.{AddsOnly}
use Rattle.rdo_acts.specs.Looking.{IsFoundIn, IsAccessed}
use Rattle.index_ahead.proofs.Added.{kept, added_as}
use Rattle.rdo_acts.proofs.LookedAt.{find_accessed, range_accessed}
use Rattle.rdo_acts.proofs.LookedThrough.{if_ok}
use Rattle.rdo_acts.proofs.looking.add_accessed.Goals as goal

pub returns-in-Scan : goal.returns-in-Scan
returns-in-Scan c all rel source sorted agrees its served = kept (IsAccessed c.args.access.now source rel) c.args.keys.now.keys

pub returns-in-Find : goal.returns-in-Find
returns-in-Find c all rel source sorted agrees its served =
    let known = knows c.args.sight.known.now in
    let root = c.in-Find.root in
    let key = c.as_slice-key.result.now in
    let is : c.args.access.now ≡ Find root key = c.in-Find.is ∙ ap (Find root) (sym c.as_slice-key.ensures) in
    let so = subst (λ (a : Access). Serves all (positions_in source.indexes.now a) rel.rows a) is served in
    if_ok c.add_found.result _ _
    (λ added. subst (λ (a : Access). AddsOnly (IsAccessed a source rel) c.args.keys.now.keys c.add_found.new.keys.keys) (sym is)
    (added_as (IsFoundIn root.area c.find-found.result) (IsAccessed (Find root key) source rel) (find_accessed known all rel source root key so c.find-found.result (c.find-found.ensures.answers all so.level so.tree agrees so.is)) c.args.keys.now.keys c.add_found.new.keys.keys added))
    c.add_found.ensures

pub returns-in-Range : goal.returns-in-Range
returns-in-Range c all rel source sorted agrees its served =
    let known = knows c.args.sight.known.now in
    let root = c.in-Range.root in
    let bounds = c.in-Range.bounds in
    let is : c.args.access.now ≡ Range root bounds = c.in-Range.is in
    let so = subst (λ (a : Access). Serves all (positions_in source.indexes.now a) rel.rows a) is served in
    if_ok c.add_found-in-Range.result _ _
    (λ added. subst (λ (a : Access). AddsOnly (IsAccessed a source rel) c.args.keys.now.keys c.add_found-in-Range.new.keys.keys) (sym is)
    (added_as (IsFoundIn root.area c.range-found.result) (IsAccessed (Range root bounds) source rel) (range_accessed known all rel source root bounds so c.range-found.result (c.range-found.ensures.answers all so.level so.tree agrees so.is)) c.args.keys.now.keys c.add_found-in-Range.new.keys.keys added))
    c.add_found-in-Range.ensures
