use Rattle.std.proofs.Common.{◌<◌, ◌∙◌, ap, subst, sym, arith, ℕ, List, Option, Some, length}
use Rattle.rdb_types.specs.declared.session.Session.{Session}
use Rattle.line_store.specs.Sights.{copier_behind}
use Rattle.memory_store.specs.Copiers.{copier_in}
use Rattle.memory_store.proofs.Copied.{copier-set}
use Rattle.memory_store.proofs.copiers.Copiers.begin.Goals as goal

pub returns : goal.returns
returns c n =
    let low : c.args.number < 10 = omega (arith, c.requires) in
    copier-set c.self.inside.by c.args.number c.args.s n (subst (λ (m : ℕ). c.args.number < m) (sym c.self.invariant) low)
    ∙ ap (λ (by : List (Option Session)). copier_behind c.args.s.number (Some c.args.number) (copier_in by) n) c.self.view_is
