use Rattle.std.proofs.Common.{◌≡◌, true, map, sym, ap, subst, ◌∙◌}
use Rattle.std.specs.List.{AllByRecursion}
use Rattle.std.specs.List.Sorted.{IsStrictlySortedBy}
use Rattle.rdb_types.specs.Order.{dbkey_order}
use Rattle.std.specs.Prelude.{IfOk, Result, Ok, Err, List}
use Rattle.rdb_types.specs.declared.memory.NoMemory.{NoMemory}
use Rattle.line_view.specs.Knowledge.{Lines}
use Rattle.line_view.specs.declared.writes.Write.{Write}
use Rattle.line_view.specs.Writes.{laid_all}
use Rattle.statement_view.specs.Over.{laid_over, writes_of, is_written}
use Rattle.statement_view.proofs.Laying.{Written}
use Rattle.statement_view.proofs.Keeping.{all_laid, keys_listed}
use Rattle.statement_view.proofs.Areas.{all_written}
use Rattle.statement_view.proofs.changed.Changed.finish.Goals as goal

listed_all : (r : Result (List Write) NoMemory) (inside lines : Written) → lines ≡ inside → IfOk r (λ writes. writes ≡ writes_of inside) → IfOk r (λ writes. (all : Lines) → laid_all writes all ≡ laid_over lines all)
listed_all (Ok w) inside lines same is = λ all. ap (λ l. laid_all l all) is ∙ all_laid inside all ∙ ap (λ (l : Written). laid_over l all) (sym same)
listed_all (Err e) inside lines same is = tt

pub returns-clause-writes : goal.returns-clause-writes
returns-clause-writes c = listed_all c.listed.result c.self.inside.lines.entries c.args.self.lines (ap (λ o. o.lines) (sym c.self.view_is)) c.listed.ensures

in_order : (r : Result (List Write) NoMemory) (inside : Written) → IfOk r (λ writes. writes ≡ writes_of inside) → IsStrictlySortedBy dbkey_order (map (λ e. e.0) inside) → IfOk r (λ writes. IsStrictlySortedBy dbkey_order (map (λ w. w.key) writes))
in_order (Ok w) inside is ordered = subst (IsStrictlySortedBy dbkey_order) (sym (ap (map (λ (w : Write). w.key)) is ∙ keys_listed inside)) ordered
in_order (Err e) inside is ordered = tt

pub returns-clause-ordered : goal.returns-clause-ordered
returns-clause-ordered c = in_order c.listed.result c.self.inside.lines.entries c.listed.ensures c.len-count.ensures.ordered

each_written : (r : Result (List Write) NoMemory) (inside lines : Written) → lines ≡ inside → IfOk r (λ writes. writes ≡ writes_of inside) → IfOk r (λ writes. AllByRecursion (λ write. is_written lines write.key ≡ true) writes)
each_written (Ok w) inside lines same is = subst (λ (l : Written). AllByRecursion (λ (write : Write). is_written l write.key ≡ true) w) (sym same) (subst (AllByRecursion (λ (write : Write). is_written inside write.key ≡ true)) (sym is) (all_written inside))
each_written (Err e) inside lines same is = tt

pub returns-clause-written : goal.returns-clause-written
returns-clause-written c = each_written c.listed.result c.self.inside.lines.entries c.args.self.lines (ap (λ o. o.lines) (sym c.self.view_is)) c.listed.ensures
