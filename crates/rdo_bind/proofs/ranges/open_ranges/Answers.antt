use Rattle.std.proofs.Common.{◌∙◌, ◌++◌, [], ◌∷◌, sym, ap, subst, map}
use Rattle.rdb_meaning.specs.Contents.{relation_named}
use Rattle.rdb_meaning.specs.Checks.{source_names}
use Rattle.rdo_values.specs.Places.{AreRanges, IsRangeOf}
use Rattle.rdo_bind.specs.Answers.{written_range}
use Rattle.rdo_bind.proofs.Lists.{range_added, sources_more, sources_names_more, written_same}
use Rattle.rdo_bind.proofs.ranges.open_ranges.Goals as goal

pub loop-range-preserved : goal.loop-range-preserved
loop-range-preserved c =
    let inv = c.loop-range.invariant in
    let i = c.loop-range.range-index in
    let s = c.range-item.result in
    let ss = c.args.ranges.now in
    let tables = c.args.tables.now in
    let bound = c.loop-range.bound in
    let item = c.in_ok-rowless.ensures in
    let grown = c.in_ok-push-2.ensures.ok ∙ ap (λ b. bound ++ b ∷ []) item in
    let none = ap (source_names s tables) (sym c.as_slice.ensures) ∙ c.in_ok-bind_range.ensures.names in
    let relation = subst (λ r. IsRangeOf c.in_ok-bind_range.field-0 (relation_named r.relation tables)) (sym c.in_ok-bind_range.ensures.written) c.in_ok-bind_range.ensures.relation in (
      grown ∙ sources_more ss i s bound c.args.scope.now inv.0 c.loop-range-test.true c.range-item.is,
      sources_names_more ss i s tables bound _ _ inv.1 c.loop-range-test.true c.range-item.is none grown,
      ap (map written_range) c.in_ok-push.ensures.ok ∙ written_same written_range _ _ ss i s inv.2 c.loop-range-test.true c.range-item.is c.in_ok-bind_range.ensures.written,
      subst (λ bs. AreRanges bs tables) (sym c.in_ok-push.ensures.ok) (range_added _ _ tables inv.3 relation),
    )
