use Rattle.std.proofs.Common.{rules, ◌∙◌, ◌++◌, Some, sym, ap}
use Rattle.std.specs.Map.Iter.{deref}
use Rattle.std.proofs.lemmas.Map.Iter.{rest_more}
use Rattle.catalog.specs.declared.directory.PlacedLine.{PlacedLine}
use Rattle.catalog.specs.Reading.{line_keys}
use Rattle.catalog.proofs.Agreements.{keys_more, known_more, stops}
use Rattle.catalog.proofs.reading.read_lines.Goals as goal

pub returns-in_err-line-clause-stop : goal.returns-in_err-line-clause-stop
returns-in_err-line-clause-stop g c =
    let l = c.loop-key in
    let next = rest_more deref l.key-iterator c.next.new.self c.next.result c.in-Some-key.key c.in-Some-key.is c.next.ensures.steps in
    let why = stops (g.V.View.knows c.args.view.now) l.lines c.in-Some-key.key.now c.next.new.self c.in_err-line.field-0.0 (l.invariant.2 ∙ ap (λ ks. Some (line_keys l.lines ++ ks)) next) l.invariant.3 c.in_err-line.ensures.stop in
    search (rules, why)

pub loop-key-preserved : goal.loop-key-preserved
loop-key-preserved g c =
    let l = c.loop-key in
    let rest = c.next.new.self in
    let next = rest_more deref l.key-iterator rest c.next.result c.in-Some-key.key c.in-Some-key.is c.next.ensures.steps in
    let p : PlacedLine = record { key = c.in-Some-key.key.now; line = c.in_ok-line.line } in
    rw c.in_ok-push.ensures.ok (tt, tt, l.invariant.2 ∙ ap (λ ks. Some (line_keys l.lines ++ ks)) next ∙ ap Some (sym (keys_more l.lines p rest)), known_more (g.V.View.knows c.args.view.now) l.lines p l.invariant.3 c.in_ok-line.ensures.line)
