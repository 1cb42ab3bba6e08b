use Rattle.std.proofs.Common.{ℕ, List, ◌++◌, slice_get, Some, ◌≡◌, sym, subst}
use Rattle.aij_journal.specs.declared.part.GroupLine.{GroupLine}
use Rattle.aij_journal.specs.Part.{IsAllowedLine}
use Rattle.fitted_groups.specs.Meeting.{FitOver}
use Rattle.fitted_groups.specs.Claims.{AreFitted}
use Rattle.fitted_groups.proofs.Looking.{lines_above, no_lines, none_fitted}
use Rattle.fitted_groups.proofs.lines.fit_above.Goals as goal

pub returns-then-last-group-clause-fitted : goal.returns-then-last-group-clause-fitted
returns-then-last-group-clause-fitted c = λ is image pages before allowed are.
    let same = lines_above c.args.last c.args.group.now c.if-last-group.true in
    let fitted = c.fit_lines.ensures.fitted is image pages before (subst (λ (ls : List GroupLine). (i : ℕ) (l : GroupLine) → slice_get ls i ≡ Some l → IsAllowedLine l) (sym c.as_slice.ensures) allowed) are in
    subst (λ (ls : List GroupLine). AreFitted image pages (before ++ ls) c.fit_lines.new.claims) (sym same)
    (subst (λ (ls : List GroupLine). AreFitted image pages (before ++ ls) c.fit_lines.new.claims) c.as_slice.ensures fitted)

pub returns-then-last-group-clause-unfit : goal.returns-then-last-group-clause-unfit
returns-then-last-group-clause-unfit c = λ key is image pages before behind allowed are fit.
    let same = lines_above c.args.last c.args.group.now c.if-last-group.true in
    c.fit_lines.ensures.unfit key is image pages before behind (subst (λ (ls : List GroupLine). (i : ℕ) (l : GroupLine) → slice_get ls i ≡ Some l → IsAllowedLine l) (sym c.as_slice.ensures) allowed) are
    (subst (λ (ls : List GroupLine). FitOver image pages (before ++ (ls ++ behind))) (sym c.as_slice.ensures)
    (subst (λ (ls : List GroupLine). FitOver image pages (before ++ (ls ++ behind))) same fit))

pub returns-else-last-group-clause-fitted : goal.returns-else-last-group-clause-fitted
returns-else-last-group-clause-fitted c = λ is image pages before allowed are.
    let same = no_lines c.args.last c.args.group.now c.if-last-group.false in
    subst (λ (ls : List GroupLine). AreFitted image pages (before ++ ls) c.args.claims.now) (sym same) (none_fitted image pages before c.args.group.now.lines c.args.claims.now are)
