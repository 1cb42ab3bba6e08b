use Rattle.std.proofs.Common.{List, sym, subst}
use Rattle.line_opening.proofs.Counted.{if_ok}
use Rattle.before_images.specs.declared.lines.OpenTransaction.{OpenTransaction}
use Rattle.lines_at_rest.specs.declared.reading.FaultyPages.{FaultyPages}
use Rattle.lines_at_rest.proofs.Left.{AddsPage, AddsLeft, AddsRead, adds_refused, adds_left}
use Rattle.lines_at_rest.proofs.page.add_read.Goals as goal

pub returns-in-Refused-clause-lines : goal.returns-in-Refused-clause-lines
returns-in-Refused-clause-lines c =
    let before = c.args.held.now.before in
    let page = c.args.page.now in
    let old = c.args.found.now in
    let new = c.add_page.new.found in
    if_ok _ _ c.add_page.result (λ whole lines is.
    subst (λ (f : FaultyPages). AddsRead before page c.args.file c.args.area c.args.number old new f) (sym c.in-Refused.is)
    (adds_refused before page c.args.file c.args.area c.args.number old new (subst (λ (h : List OpenTransaction). AddsPage h page c.args.file c.args.area c.args.number old new) c.as_slice.ensures (λ image groups lays owner there was. lines is image groups lays owner there was)))) c.add_page.ensures.lines

pub returns-in_ok-add_passing-in-LeftOut-clause-lines : goal.returns-in_ok-add_passing-in-LeftOut-clause-lines
returns-in_ok-add_passing-in-LeftOut-clause-lines c =
    let before = c.args.held.now.before in
    let page = c.args.page.now in
    let old = c.args.found.now in
    let new = c.add_passing.new.found in
    λ is. subst (λ (f : FaultyPages). AddsRead before page c.args.file c.args.area c.args.number old new f) (sym c.in-LeftOut.is)
    (adds_left before page c.args.file c.args.area c.args.number old new c.requires.number (subst (λ (h : List OpenTransaction). AddsLeft h page c.args.file c.args.area c.args.number old new) c.as_slice-in-LeftOut.ensures c.in_ok-add_passing-in-LeftOut.ensures))
