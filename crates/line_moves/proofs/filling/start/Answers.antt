use Rattle.std.proofs.Common.{inl, inr, refl}
use Rattle.line_store.specs.rdb_page.Page.{IsUnused}
use Rattle.line_moves.proofs.filling.start.Goals as goal

pub returns-then-is_zeros-clause-started : goal.returns-then-is_zeros-clause-started
returns-then-is_zeros-clause-started c =
    let zeros : IsUnused c.args.page.now = c.is_zeros.ensures.yes c.if-is_zeros.true in
    record { unused = λ unused. record { is = c.put_head.ensures.head; lines = c.put_head.ensures.lines }; used = λ used. absurd (used zeros); either = inl zeros }

pub returns-else-is_zeros-clause-started : goal.returns-else-is_zeros-clause-started
returns-else-is_zeros-clause-started c =
    record { unused = λ unused. absurd (c.is_zeros.ensures.no c.if-is_zeros.false unused); used = λ used. refl; either = inr refl }
