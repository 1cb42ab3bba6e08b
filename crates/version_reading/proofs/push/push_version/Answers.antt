use Rattle.std.proofs.Common.{◌-◌, ◌⊎◌, IsTrue, Result, Ok, Err, OnOk, OnErr, inr, subst}
use Rattle.rdb_types.specs.declared.file.FileId.{FileId}
use Rattle.rdb_outside.specs.Disk.{Adds, Puts, SameContent}
use Rattle.version_reading.proofs.push.push_version.Goals as goal

wrote : {T E : Type 0} (result : Result T E) (told here there : Type 0) → OnOk result (told → there) → OnErr result (told → here ⊎ there) → told → here ⊎ there
wrote (Ok x) told here there yes_ok on_err t = inr (yes_ok t)
wrote (Err e) told here there yes_ok on_err t = on_err t

pub returns-clause-puts : goal.returns-clause-puts
returns-clause-puts g c = λ tells.
    let view = g.D.Disk.view in
    let bytes = c.put_entry.new.slot in
    let at = c.args.chain - 1 in (
      bytes,
      subst (λ (f : FileId). Adds f at bytes (view c.args.disk.now) (view c.write.new.self)) c.file_of.ensures (c.write.ensures.pending tells),
      subst (λ (f : FileId). SameContent (view c.args.disk.now).content (view c.write.new.self).content ⊎ Puts f at bytes (view c.args.disk.now).content (view c.write.new.self).content) c.file_of.ensures
          (wrote c.write.result (IsTrue (view c.args.disk.now).tells) (SameContent (view c.args.disk.now).content (view c.write.new.self).content) (Puts c.file_of.result at bytes (view c.args.disk.now).content (view c.write.new.self).content)
          c.write.ensures.written c.write.ensures.failed tells),
    )
