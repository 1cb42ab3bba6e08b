use Rattle.std.proofs.Common.{true, false, sym, ap, subst, ◌∙◌}
use Rattle.rdb_checks.specs.rdb_meaning.Checks.{Refusal, needs_some}
use Rattle.rdb_checks.specs.Answers.{Finds}
use Rattle.rdb_definitions.proofs.KeyNames.{index_fields_names_more}
use Rattle.rdb_definitions.proofs.indexes.check_key_names.Goals as goal

pub returns-then-is_among : goal.returns-then-is_among
returns-then-is_among c =
    let n = c.index-names-place.result in
    let more = index_fields_names_more c.args.names.now c.args.fields.now c.loop-place.place n c.loop-place-test.true c.index-names-place.is (ap (needs_some n) (sym c.in-Some.ensures.found)) true (sym c.if-is_among.ensures) in
    let said = λ (r : Refusal). Finds c.exists.result r in
    subst said (sym (c.loop-place.invariant ∙ more)) c.exists.ensures

pub loop-place-preserved : goal.loop-place-preserved
loop-place-preserved c =
    let n = c.index-names-place.result in
    c.loop-place.invariant
    ∙ index_fields_names_more c.args.names.now c.args.fields.now c.loop-place.place n c.loop-place-test.true c.index-names-place.is (ap (needs_some n) (sym c.in-Some.ensures.found)) false (sym c.if-is_among.ensures)
