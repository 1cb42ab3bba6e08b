use Rattle.std.proofs.Common.{rules, ℕ, List, Option, sym, ap, subst, ◌∙◌}
use Rattle.rdb_types.specs.declared.keys.Dbkey.{Dbkey}
use Rattle.std.specs.Ordering.{nat_cmp}
use Rattle.std.specs.FinMap.Entries.{find}
use Rattle.line_view.specs.Held.{knows, key_sets}
use Rattle.statement_view.specs.Over.{ArePassed, area_kept}
use Rattle.statement_view.proofs.Steps.{still_passed}
use Rattle.statement_view.proofs.Keeping.{is_with_over, stands_behind, laid_behind}
use Rattle.statement_view.proofs.Areas.{one_written}
use Rattle.statement_view.proofs.changed.Changed.put.Goals as goal

pub invariant_of-self-in_err-_before : goal.invariant_of-self-in_err-_before
invariant_of-self-in_err-_before c = subst (λ (lines : List (Dbkey × Option (List ℕ))). ArePassed (knows c.self.inside.known.now) lines c.self.inside.passed.entries) (sym c.in_err-_before.ensures.err) c.self.invariant

pub invariant_of-self-2 : goal.invariant_of-self-2
invariant_of-self-2 c = still_passed (knows c.self.inside.known.now) c.self.inside.lines.entries c.insert.new.self.entries c.self.inside.passed.entries c.args.key c.args.image c.self.invariant c.in_ok-_before.ensures.entries

pub returns-clause-ok : goal.returns-clause-ok
returns-clause-ok c = is_with_over _ c.self.inside.lines.entries c.insert.new.self.entries _ _ _ c.args.self.now c.args.key c.args.image c.is_some-is_present.result c.self.view_is (search rules)
    (c.in_ok-keep_area.ensures ∙ ap (λ b. area_kept c.args.key.area (key_sets c.self.inside.areas.entries) (find nat_cmp c.args.key.area (key_sets c.self.inside.areas.entries)) b) c.seen_area-seen.ensures)
    c.in_ok-write_key.ensures c.in_ok-_before.ensures.entries

pub returns-clause-stands : goal.returns-clause-stands
returns-clause-stands c = stands_behind c.self.inside.lines.entries c.args.self.now _ c.args.key c.args.image (ap (λ o. o.lines) (sym c.self.view_is)) c.in_ok-_before.ensures.was_ordered (returns-clause-ok c)

pub returns-clause-laid : goal.returns-clause-laid
returns-clause-laid c = laid_behind c.self.inside.lines.entries c.args.self.now _ c.args.key c.args.image (ap (λ o. o.lines) (sym c.self.view_is)) c.in_ok-_before.ensures.was_ordered (returns-clause-ok c)

pub returns-clause-areas : goal.returns-clause-areas
returns-clause-areas c = one_written c.args.self.now _ c.args.key c.args.image (returns-clause-ok c)
