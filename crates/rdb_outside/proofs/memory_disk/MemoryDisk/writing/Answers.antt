use Rattle.std.proofs.Common.{◌≡◌, sym, subst}
use Rattle.rdb_outside.specs.declared.event.Event.{Event}
use Rattle.rdb_outside.specs.Memory.{written}
use Rattle.rdb_outside.proofs.Calls.{written_is}
use Rattle.rdb_outside.proofs.Within.{kept_is}
use Rattle.rdb_outside.proofs.memory_disk.MemoryDisk.writing.Goals as goal

pub returns-clause-puts : goal.returns-clause-puts
returns-clause-puts c = λ left.
    subst (λ (e : Event). (e.file ≡ c.args.file) × (e.slot ≡ c.args.slot) × (written e ≡ c.args.from.now)) (sym c.as_kept.ensures)
    (kept_is _ c.writing.result _ _ _ c.writing.ensures.file c.writing.ensures.slot (written_is c.writing.result _ _ c.writing.ensures.file c.requires c.writing.ensures.bytes))
