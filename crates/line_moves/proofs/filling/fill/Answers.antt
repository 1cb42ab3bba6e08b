use Rattle.std.proofs.Common.{rules, arith, ◌<◌, slice_index_or, length, refl}
use Rattle.line_moves.proofs.KeyPlaces.{same_place_of}
use Rattle.line_moves.proofs.FilledPages.{filled_none, filled_next, fits_filled, got_pair}
use Rattle.line_moves.proofs.Runs.{on_err}
use Rattle.line_moves.proofs.filling.fill.Goals as goal

pub put_on-requires-clause-place : goal.put_on-requires-clause-place
put_on-requires-clause-place c = c.requires.place _ (got_pair c.args.lines.now c.args.from c.index-lines-from.result c.index-lines-from.result c.requires.within)

pub put-init : goal.put-init
put-init c =
    let got = got_pair c.args.lines.now c.args.from c.index-lines-from.result c.index-lines-from-2.result c.requires.within in
    let names = c.requires.place _ got in (
      c.put_on.ensures.size,
      omega arith,
      search rules,
      λ is. filled_next c.args.lines.now c.args.from c.args.from c.args.place c.args.page.now c.args.page.now c.put_on.new.page _ (omega arith) got names c.requires.distinct
          (c.in_ok-put_on.ensures.puts is) (c.in_ok-put_on.ensures.here is) (filled_none c.args.lines.now c.args.from c.args.place c.args.page.now is),
    )

pub put_on-requires-in-put-clause-place : goal.put_on-requires-in-put-clause-place
put_on-requires-in-put-clause-place c =
    let got = got_pair c.args.lines.now c.args.from c.index-lines-from.result c.index-lines-from.result c.requires.within in
    let on = c.is_beside.ensures (search rules) in
    same_place_of (slice_index_or c.args.lines.now c.args.from c.index-lines-from.result).0 (slice_index_or c.args.lines.now c.put.at c.index-lines-at.result).0 c.args.place on.0 on.1 (c.requires.place _ got)

pub put-preserved : goal.put-preserved
put-preserved c =
    let first = got_pair c.args.lines.now c.args.from c.index-lines-from.result c.index-lines-from.result c.requires.within in
    let less : c.put.at < length c.args.lines.now = search rules in
    let got = got_pair c.args.lines.now c.put.at c.index-lines-at.result c.index-lines-at-in-put.result less in
    let on = c.is_beside.ensures (search rules) in
    let names = same_place_of (slice_index_or c.args.lines.now c.args.from c.index-lines-from.result).0 (slice_index_or c.args.lines.now c.put.at c.index-lines-at.result).0 c.args.place on.0 on.1 (c.requires.place _ first) in
    let further = c.put.invariant.1 in (
      c.put_on-in-put.ensures.size,
      omega (arith, further),
      omega (arith, less),
      λ is.
          let fills = c.put.invariant.3 is in
          filled_next c.args.lines.now c.args.from c.put.at c.args.place c.args.page.now c.put.page c.put_on-in-put.new.page _ (omega (arith, further)) got names c.requires.distinct
          (c.in_ok-put_on-2.ensures.puts fills.page) (c.in_ok-put_on-2.ensures.here fills.page) fills,
    )

pub returns-in_err-put_on-clause-refused : goal.returns-in_err-put_on-clause-refused
returns-in_err-put_on-clause-refused c =
    let got = got_pair c.args.lines.now c.args.from c.index-lines-from.result c.index-lines-from-2.result c.requires.within in
    on_err _ c.from_residual.result (λ is fit. c.in_err-put_on.ensures.refused is (fit c.args.from _ _ (omega arith) got got refl refl))

pub returns-in_err-put_on-2-clause-refused : goal.returns-in_err-put_on-2-clause-refused
returns-in_err-put_on-2-clause-refused c =
    let first = got_pair c.args.lines.now c.args.from c.index-lines-from.result c.index-lines-from.result c.requires.within in
    let less : c.put.at < length c.args.lines.now = search rules in
    let got = got_pair c.args.lines.now c.put.at c.index-lines-at.result c.index-lines-at-in-put.result less in
    let on = c.is_beside.ensures (search rules) in
    let further = c.put.invariant.1 in
    on_err _ c.from_residual-in_err-put_on-2.result (λ is fit.
    let fills = c.put.invariant.3 is in
    c.in_err-put_on-2.ensures.refused fills.page (fits_filled c.args.lines.now c.args.from c.put.at c.args.place c.args.page.now c.put.page _ _ fills (fit c.put.at _ _ (omega (arith, further)) first got on.0 on.1)))
