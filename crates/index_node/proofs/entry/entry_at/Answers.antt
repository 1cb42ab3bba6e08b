use Rattle.std.proofs.Common.{◌+◌, sym, refl, arith, ap}
use Rattle.index_node.proofs.Entries.{entry_found, entry_too_long, entry_without_key}
use Rattle.index_node.proofs.entry.entry_at.Goals.{then-key_size-gt120-via-then-key_size-gt120, then-key_size-gt120-via-else-key_size-gt120+then-bytes-at}
use Rattle.index_node.proofs.entry.entry_at.Goals as goal

pub returns-then-key_size-gt120-clause-none : goal.returns-then-key_size-gt120-clause-none
returns-then-key_size-gt120-clause-none c =
    let behind = c.child_size-behind.ensures in
    entry_too_long c.args.level c.args.at c.u8_at-key_size.result c.args.bytes.now (sym c.u8_at-key_size.ensures)
    (λ short fits. elim c.then-key_size-gt120.branch [
      | then-key_size-gt120-via-then-key_size-gt120 w ↦ omega (arith, short, w.if-key_size-gt120.true)
      | then-key_size-gt120-via-else-key_size-gt120+then-bytes-at w ↦ omega (arith, fits, behind, w.if-bytes-at.true)
    ])

pub returns-in_default-clause-none : goal.returns-in_default-clause-none
returns-in_default-clause-none c =
    let bytes = c.args.bytes.now in
    entry_without_key c.args.level c.args.at c.u8_at-key_size.result (c.args.at + 1 + c.u8_at-key_size.result) bytes (sym c.u8_at-key_size.ensures) refl (omega (arith, c.if-bytes-at.false)) (rw c.in_default.is at c.in_ok-key.ensures.none)

pub returns-clause-found : goal.returns-clause-found
returns-clause-found c =
    let bytes = c.args.bytes.now in
    entry_found c.args.level c.args.at c.u8_at-key_size.result (c.args.at + 1 + c.u8_at-key_size.result) (c.args.at + 1 + c.u8_at-key_size.result + (10 + c.child_size-behind.result)) bytes
    (record { key = c.in-Some.key; row = c.dbkey_at.result; child = c.child_at.result }) (sym c.u8_at-key_size.ensures) c.if-key_size-gt120.false refl (omega (arith, c.if-bytes-at.false))
    (rw c.in-Some.is at c.in_ok-key.ensures.found) c.dbkey_at.ensures.found c.child_at.ensures.found c.child_at.ensures.inner
    (ap (λ n. c.args.at + 1 + c.u8_at-key_size.result + (10 + n)) c.child_size-behind.ensures) (omega (arith, c.if-bytes-at.false))
