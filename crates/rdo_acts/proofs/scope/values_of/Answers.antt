use Rattle.std.proofs.Common.{◌≡◌, Some, sym, ap, ◌∙◌, false}
use Rattle.std.specs.Option.{option_copied}
use Rattle.std.proofs.lemmas.Result.{err_from_is_err_and}
use Rattle.statement_view.specs.Over.{laid_over}
use Rattle.rdo_select.specs.Sources.{source_at}
use Rattle.rdo_acts.proofs.VariableRow.{has_source, table, has_rows, some_values, no_values, table_named}
use Rattle.rdo_acts.proofs.AreasRead.{variable_reads}
use Rattle.rdo_acts.proofs.Wanting.{row_lacked}
use Rattle.rdo_acts.proofs.scope.values_of.Goals as goal

pub unreachable-requires : goal.unreachable-requires
unreachable-requires c = has_source c.args.given.now c.requires.together c.args.variable c.requires.row c.in_default.ensures.value

pub returns-in_err-found-clause-values : goal.returns-in_err-found-clause-values
returns-in_err-found-clause-values c = λ first t sound.
    let p = err_from_is_err_and c.from_residual.result c.from_residual.ensures.1 in
    let given = c.args.given.now in
    let view = c.args.view.now in
    let source = c.in-Some.source.now in
    let there : source_at c.args.variable.range.now.area given.sources.now.entries ≡ Some source = sym c.get.ensures.value ∙ ap option_copied c.in-Some.is in
    rw (p.1, p.2)
    (c.in_err-found.ensures.row (laid_over view.lines first) (table given view first t c.args.variable source c.requires.together c.requires.row there sound) (sound.sound).sorted (sound.stands).agrees
    (has_rows given view first t c.args.variable source c.requires.together c.requires.row there sound))

pub returns-in-Some-found-clause-values : goal.returns-in-Some-found-clause-values
returns-in-Some-found-clause-values c = λ first t sound.
    let given = c.args.given.now in
    let view = c.args.view.now in
    let source = c.in-Some.source.now in
    let there : source_at c.args.variable.range.now.area given.sources.now.entries ≡ Some source = sym c.get.ensures.value ∙ ap option_copied c.in-Some.is in
    let has = has_rows given view first t c.args.variable source c.requires.together c.requires.row there sound in
    let found = c.in_ok-found.ensures.row (laid_over view.lines first) (table given view first t c.args.variable source c.requires.together c.requires.row there sound) (sound.sound).sorted (sound.stands).agrees has in
    some_values given view first t c.args.variable source c.requires.together c.requires.row there sound c.in-Some-found.row (sym c.in-Some-found.is ∙ found)

pub returns-in_ok-missing_row-in-None-clause-values : goal.returns-in_ok-missing_row-in-None-clause-values
returns-in_ok-missing_row-in-None-clause-values c = λ first t sound.
    let given = c.args.given.now in
    let view = c.args.view.now in
    let source = c.in-Some.source.now in
    let there : source_at c.args.variable.range.now.area given.sources.now.entries ≡ Some source = sym c.get.ensures.value ∙ ap option_copied c.in-Some.is in
    let has = has_rows given view first t c.args.variable source c.requires.together c.requires.row there sound in
    let found = c.in_ok-found.ensures.row (laid_over view.lines first) (table given view first t c.args.variable source c.requires.together c.requires.row there sound) (sound.sound).sorted (sound.stands).agrees has in
    no_values given view first t c.args.variable source c.requires.together c.requires.row there sound c.in_ok-missing_row-in-None.field-0 c.in_ok-missing_row-in-None.ensures (sym c.in-None.is ∙ found)

pub returns-in_err-found-clause-areas : goal.returns-in_err-found-clause-areas
returns-in_err-found-clause-areas c = λ first t sound.
    let p = err_from_is_err_and c.from_residual.result c.from_residual.ensures.1 in
    let given = c.args.given.now in
    let view = c.args.view.now in
    let source = c.in-Some.source.now in
    let there : source_at c.args.variable.range.now.area given.sources.now.entries ≡ Some source = sym c.get.ensures.value ∙ ap option_copied c.in-Some.is in
    let rel = table given view first t c.args.variable source c.requires.together c.requires.row there sound in
    let named = table_named given view first t c.args.variable source c.requires.together c.requires.row there sound in
    let has = has_rows given view first t c.args.variable source c.requires.together c.requires.row there sound in
    rw (p.1, p.2) (variable_reads t false c.args.variable.range.now.range.relation rel source.relation.area named has.area c.in_err-found.field-0.0 c.in_err-found.ensures.areas)

pub returns-in_err-found-clause-line : goal.returns-in_err-found-clause-line
returns-in_err-found-clause-line c =
    let p = err_from_is_err_and c.from_residual.result c.from_residual.ensures.1 in
    rw (p.1, p.2) (row_lacked c.args.variable c.in_err-found.field-0.0 c.in_err-found.ensures.line)
