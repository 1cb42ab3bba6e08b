use Rattle.std.proofs.Common.{◌≡◌, ◌-◌, ◌++◌, ◌∷◌, [], List, map, length, take, drop, Some, sym, ap, subst, ◌∙◌}
use Rattle.std.specs.Option.{option_copied}
use Rattle.rdo_values.specs.declared.bound.BoundRange.{BoundRange}
use Rattle.rdo_values.specs.Places.{AreRanges}
use Rattle.rdo_values.specs.Views.{testing_of, conjunction_with}
use Rattle.rdo_select.specs.Sources.{source_at}
use Rattle.rdo_select.proofs.Keeping.{first_source}
use Rattle.served_selections.specs.Ranges.{chosen_from}
use Rattle.served_selections.specs.Served.{access_behind}
use Rattle.index_rows.specs.Indexed.{positions_in}
use Rattle.line_view.specs.Held.{knows}
use Rattle.rdb_meaning.specs.Contents.{Row}
use Rattle.index_ahead.specs.Added.{AddsOnly}
use Rattle.rdo_acts.specs.Looking.{IsReadBy, AreValuesOf, StandBehind}
use Rattle.index_ahead.proofs.Added.{kept, then_added}
use Rattle.rdo_acts.proofs.LookedAt.{rel, of_source, serves, first_added, rest_added, rows_behind}
use Rattle.rdo_acts.proofs.LookedThrough.{if_ok, stand_at}
use Rattle.rdo_acts.proofs.looking.+looking.Goals as goal

-- ---- the rows behind

pub look_behind-loop-row-init : goal.look_behind-loop-row-init
look_behind-loop-row-init t c ta vs shown ranged stand = kept (IsReadBy ta c.args.sight.sources.now.entries (chosen_from c.args.ranges.now vs (conjunction_with (map testing_of c.args.tests.now)))) c.args.keys.now.keys

pub look_behind-loop-row-preserved : goal.look_behind-loop-row-preserved
look_behind-loop-row-preserved t c ta vs shown ranged stand =
    let sources = c.args.sight.sources.now.entries in
    let tests = conjunction_with (map testing_of c.args.tests.now) in
    let own : AreValuesOf ta vs (c.args.before.now ++ c.row-item.result.row) = stand_at ta vs c.args.before.now c.args.rows.now c.loop-row.row-index c.row-item.result stand c.loop-row-test.true c.row-item.is in
    then_added (IsReadBy ta sources (chosen_from c.args.ranges.now vs tests)) c.args.keys.now.keys c.loop-row.keys.keys c.look_over.new.keys.keys (c.loop-row.invariant ta vs shown ranged stand)
    (c.in_ok-look_over.ensures ta vs shown ranged (subst (AreValuesOf ta vs) (sym c.in_ok-next.ensures) own))

-- ---- the first of crossed ranges

pub look_over-returns-in_default : goal.look_over-returns-in_default
look_over-returns-in_default t c ta vs shown ranged own = kept (IsReadBy ta c.args.sight.sources.now.entries (chosen_from c.args.ranges.now vs (conjunction_with (map testing_of c.args.tests.now)))) c.args.keys.now.keys

pub look_over-returns-in_default-get : goal.look_over-returns-in_default-get
look_over-returns-in_default-get t c ta vs shown ranged own = kept (IsReadBy ta c.args.sight.sources.now.entries (chosen_from c.args.ranges.now vs (conjunction_with (map testing_of c.args.tests.now)))) c.args.keys.now.keys

pub look_over-returns-then-is_empty : goal.look_over-returns-then-is_empty
look_over-returns-then-is_empty t c ta vs shown ranged own =
    let ranges = c.args.ranges.now in
    let range = c.range-item.result in
    let rest = take (length ranges - 1) (drop 1 ranges) in
    let tests = conjunction_with (map testing_of c.args.tests.now) in
    let before = c.args.before.now in
    let known = knows c.args.sight.known.now in
    let sources = c.args.sight.sources.now.entries in
    let split : ranges ≡ range ∷ rest = first_source ranges range c.in-len1-up.len_at_least c.range-item.is in
    let first : AreRanges (range ∷ rest) ta = subst (λ (rs : List BoundRange). AreRanges rs ta) split ranged in
    let source = c.in-Some.source.now in
    let stands : source_at range.area sources ≡ Some source = sym c.get.ensures.value ∙ ap option_copied c.in-Some.is in
    let access = c.in_ok-access.access in
    let is : access ≡ access_behind tests before source = c.in_ok-access.ensures ∙ ap (λ (r : Row). access_behind tests r source) c.as_slice.ensures in
    let old = c.args.keys.now.keys in
    let mid = c.add_accessed.new.keys.keys in
    let its = of_source known sources ta shown range rest vs tests before own first source stands in
    let table = rel known sources ta shown range rest vs tests before own first source stands in
    let served = serves known sources ta shown range rest vs tests before own first source stands access is in
    let added = c.in_ok-add_accessed.ensures shown.all table source shown.sorted shown.agrees its served in
    subst (λ (rs : List BoundRange). AddsOnly (IsReadBy ta sources (chosen_from rs vs tests)) old mid) (sym split)
    (first_added known sources ta shown range rest vs tests before own first source stands access is old mid added)

pub look_over-returns : goal.look_over-returns
look_over-returns t c ta vs shown ranged own =
    let ranges = c.args.ranges.now in
    let range = c.range-item.result in
    let rest = take (length ranges - 1) (drop 1 ranges) in
    let tests = conjunction_with (map testing_of c.args.tests.now) in
    let before = c.args.before.now in
    let known = knows c.args.sight.known.now in
    let sources = c.args.sight.sources.now.entries in
    let split : ranges ≡ range ∷ rest = first_source ranges range c.in-len1-up.len_at_least c.range-item.is in
    let first : AreRanges (range ∷ rest) ta = subst (λ (rs : List BoundRange). AreRanges rs ta) split ranged in
    let source = c.in-Some.source.now in
    let stands : source_at range.area sources ≡ Some source = sym c.get.ensures.value ∙ ap option_copied c.in-Some.is in
    let access = c.in_ok-access.access in
    let is : access ≡ access_behind tests before source = c.in_ok-access.ensures ∙ ap (λ (r : Row). access_behind tests r source) c.as_slice.ensures in
    let old = c.args.keys.now.keys in
    let mid = c.add_accessed.new.keys.keys in
    let its = of_source known sources ta shown range rest vs tests before own first source stands in
    let table = rel known sources ta shown range rest vs tests before own first source stands in
    let served = serves known sources ta shown range rest vs tests before own first source stands access is in
    let added = c.in_ok-add_accessed.ensures shown.all table source shown.sorted shown.agrees its served in
    subst (λ (rs : List BoundRange). AddsOnly (IsReadBy ta sources (chosen_from rs vs tests)) old mid) (sym split)
    (first_added known sources ta shown range rest vs tests before own first source stands access is old mid added)

pub look_over-returns-in-Ok : goal.look_over-returns-in-Ok
look_over-returns-in-Ok t c ta vs shown ranged own =
    let ranges = c.args.ranges.now in
    let range = c.range-item.result in
    let rest = take (length ranges - 1) (drop 1 ranges) in
    let tests = conjunction_with (map testing_of c.args.tests.now) in
    let before = c.args.before.now in
    let known = knows c.args.sight.known.now in
    let sources = c.args.sight.sources.now.entries in
    let split : ranges ≡ range ∷ rest = first_source ranges range c.in-len1-up.len_at_least c.range-item.is in
    let first : AreRanges (range ∷ rest) ta = subst (λ (rs : List BoundRange). AreRanges rs ta) split ranged in
    let source = c.in-Some.source.now in
    let stands : source_at range.area sources ≡ Some source = sym c.get.ensures.value ∙ ap option_copied c.in-Some.is in
    let access = c.in_ok-access.access in
    let is : access ≡ access_behind tests before source = c.in_ok-access.ensures ∙ ap (λ (r : Row). access_behind tests r source) c.as_slice.ensures in
    let old = c.args.keys.now.keys in
    let mid = c.add_accessed.new.keys.keys in
    let its = of_source known sources ta shown range rest vs tests before own first source stands in
    let table = rel known sources ta shown range rest vs tests before own first source stands in
    let served = serves known sources ta shown range rest vs tests before own first source stands access is in
    let added = c.in_ok-add_accessed.ensures shown.all table source shown.sorted shown.agrees its served in
    let new = c.look_behind.new.keys.keys in
    let given = c.in-Ok.ensures.gives shown.all table (positions_in source.indexes.now access) shown.sorted shown.agrees its.0 served in
    let stand : StandBehind ta (vs ++ range.range ∷ []) before c.as_slice-in-Ok.result.now =
    subst (StandBehind ta (vs ++ range.range ∷ []) before) (sym c.as_slice-in-Ok.ensures)
    (rows_behind known sources ta shown range rest vs tests before own first source stands access is c.in-Ok.rows given.0) in
    if_ok c.look_behind.result _ _
    (λ more. subst (λ (rs : List BoundRange). AddsOnly (IsReadBy ta sources (chosen_from rs vs tests)) old new) (sym split)
    (rest_added known sources ta shown range rest vs tests before own first source stands access is old mid new added more))
    (c.look_behind.ensures ta (vs ++ range.range ∷ []) shown first.1 stand)
