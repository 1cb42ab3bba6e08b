use Rattle.std.proofs.Common.{List, Some, ap, sym, ◌∙◌}
use Rattle.std.specs.Prelude.{slice_get}
use Rattle.line_view.specs.declared.writes.Write.{Write}
use Rattle.member_memory.specs.Memory.{writes_in}
use Rattle.memory_store.proofs.Laying.{first-partly}
use Rattle.memory_store.proofs.committed.lay_first.Goals as goal

pub returns-in_err-lay-clause-lines : goal.returns-in_err-lay-clause-lines
returns-in_err-lay-clause-lines c =
    first-partly c.args.landed.now.items c.lines.result.now c.in_err-lay.ensures.err.0 c.args.map.now c.lay.new.lines
    (sym (c.in-Some.ensures.value ∙ ap (λ (bs : List (List Write)). slice_get bs 0) c.deref.ensures.value)
    ∙ ap Some (sym (ap writes_in c.lines.ensures.value ∙ c.first-2.view_is)))
    c.as_slice-lines.ensures.ordered c.in_err-lay.ensures.err.1
