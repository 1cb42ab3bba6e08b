use Rattle.std.proofs.Common.{List, map, sym, subst}
use Rattle.aij_journal.specs.declared.part.GroupLine.{GroupLine}
use Rattle.line_view.specs.declared.writes.Write.{Write}
use Rattle.line_moves.proofs.Runs.{on_ok}
use Rattle.stable_lines.specs.Journal.{write_of}
use Rattle.laid_groups.specs.Forward.{FitLines}
use Rattle.laid_groups.specs.Laid.{LaidOver}
use Rattle.laid_groups.proofs.Walking.{its_fit, its_writes}
use Rattle.laid_groups.proofs.groups.lay_above.Goals as goal

pub returns-then-last-group-clause-bad : goal.returns-then-last-group-clause-bad
returns-then-last-group-clause-bad g c = λ named at is t forward ready fits.
    let fit = its_fit forward c.args.last c.args.group c.if-last-group.true fits in
    c.lay_lines.ensures.bad named at is t forward ready (subst (λ (ls : List GroupLine). FitLines forward ls) (sym c.as_slice.ensures) fit.each) fit.tsn fit.few

pub returns-then-last-group-clause-laid : goal.returns-then-last-group-clause-laid
returns-then-last-group-clause-laid g c = let v = g.D.Disk.view in let old = v c.args.disk.now in let new = v c.lay_lines.new.disk in
    on_ok _ _ c.lay_lines.result (λ laid t forward ready fits.
    let fit = its_fit forward c.args.last c.args.group c.if-last-group.true fits in
    subst (λ (ws : List Write). LaidOver forward ws old.content new.content) (its_writes c.args.last c.args.group c.if-last-group.true) (subst (λ (ls : List GroupLine). LaidOver forward (map write_of ls) old.content new.content) c.as_slice.ensures (laid t forward ready (subst (λ (ls : List GroupLine). FitLines forward ls) (sym c.as_slice.ensures) fit.each) fit.tsn))) c.lay_lines.ensures.laid

pub returns-then-last-group-clause-ready : goal.returns-then-last-group-clause-ready
returns-then-last-group-clause-ready g c = λ t forward fits.
    let fit = its_fit forward c.args.last c.args.group c.if-last-group.true fits in
    c.lay_lines.ensures.ready t forward (subst (λ (ls : List GroupLine). FitLines forward ls) (sym c.as_slice.ensures) fit.each) fit.tsn
