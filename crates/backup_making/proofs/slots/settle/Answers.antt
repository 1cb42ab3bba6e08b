use Rattle.std.proofs.Common.{◌≡◌, ◌∙◌, true, Result, Ok, Err, OnOk, sym}
use Rattle.std.specs.Prelude.{is_ok}
use Rattle.std.proofs.lemmas.Bool.{false≢true}
use Rattle.backup_making.proofs.slots.settle.Goals as goal

where_ok : {T E P : Type 0} (result : Result T E) → OnOk result P → is_ok result ≡ true → P
where_ok (Ok x) p is = p
where_ok (Err e) p is = absurd (false≢true is)

pub returns-clause-stable : goal.returns-clause-stable
returns-clause-stable g c = λ done. where_ok c.barrier.result c.barrier.ensures.stable (sym c.is_ok.ensures.value ∙ done)
