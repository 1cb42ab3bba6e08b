use Rattle.std.proofs.Common.{◌≡◌, subst}
use Rattle.rdb_types.specs.declared.keys.Dbkey.{Dbkey}
use Rattle.line_view.specs.Held.{Held, knows}
use Rattle.catalog.specs.Reading.{IsBad, IsNext, StopsCatalog}
use Rattle.line_faults.proofs.Taken.{bad_found, bad_line, nothing_next}
use Rattle.line_faults.proofs.checked.read_lines.Goals as goal

pub returns-in-Err-Bad-clause-bad : goal.returns-in-Err-Bad-clause-bad
returns-in-Err-Bad-clause-bad c = λ key same.
    let known = c.in_ok-known.known in
    let at : c.in-Err-Bad.key ≡ key = cc in
    let is : IsBad (knows known) key = subst (λ (k : Dbkey). IsBad (knows known) k) at (subst (StopsCatalog (knows known)) c.in-Err-Bad.field-0-is c.in-Err-Bad.ensures.stop) in (
      bad_found c.args.lines.now key (subst (λ (h : Held). IsBad (knows h) key) c.in_ok-known.ensures.known is),
      λ all sorted same_lines. bad_line (knows known) all key (c.in_ok-known.ensures.agrees all sorted same_lines) is,
    )

pub unreachable-requires : goal.unreachable-requires
unreachable-requires c =
    let known = c.in_ok-known.known in
    nothing_next c.args.lines.now c.in-Err-Missing.field-0-0
    (subst (λ (h : Held). IsNext (knows h) c.in-Err-Missing.field-0-0) c.in_ok-known.ensures.known
    (subst (StopsCatalog (knows known)) c.in-Err-Missing.field-0-is c.in-Err-Missing.ensures.stop))
