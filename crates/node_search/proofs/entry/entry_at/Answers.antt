use Rattle.std.proofs.Common.{◌+◌, sym, refl, arith, ap}
use Rattle.index_node.proofs.Entries.{entry_found, entry_too_long, entry_without_key}
use Rattle.node_search.proofs.entry.entry_at.Goals.{then-key_size-gt120-via-then-key_size-gt120, then-key_size-gt120-via-else-key_size-gt120+then-bytes-at}
use Rattle.node_search.proofs.entry.entry_at.Goals as goal

pub returns-then-key_size-gt120-clause-none : goal.returns-then-key_size-gt120-clause-none
returns-then-key_size-gt120-clause-none c =
    let behind = c.child_size-behind.ensures in
    entry_too_long c.args.level c.args.at c.u8_at-key_size.result c.args.bytes.now (sym c.u8_at-key_size.ensures)
    (λ short fits. elim c.then-key_size-gt120.branch [
      | then-key_size-gt120-via-then-key_size-gt120 w ↦ omega (arith, short, w.if-key_size-gt120.true)
      | then-key_size-gt120-via-else-key_size-gt120+then-bytes-at w ↦ omega (arith, fits, behind, w.if-bytes-at.true)
    ])

pub returns-then-not-are_values-clause-none : goal.returns-then-not-are_values-clause-none
returns-then-not-are_values-clause-none c =
    entry_without_key c.args.level c.args.at c.u8_at-key_size.result (c.args.at + 1 + c.u8_at-key_size.result) c.args.bytes.now (sym c.u8_at-key_size.ensures) refl (omega (arith, c.if-bytes-at.false)) (c.are_values.ensures.no c.if-not-are_values.true)

pub returns-clause-found : goal.returns-clause-found
returns-clause-found c =
    let key = c.are_values.ensures.yes c.if-not-are_values.false in
    let end = c.args.at + 1 + c.u8_at-key_size.result in (
      record { key = key.0; row = c.dbkey_at.result; child = c.child_at.result },
      (
        entry_found c.args.level c.args.at c.u8_at-key_size.result end (end + (10 + c.child_size-behind.result)) c.args.bytes.now
            (record { key = key.0; row = c.dbkey_at.result; child = c.child_at.result }) (sym c.u8_at-key_size.ensures) c.if-key_size-gt120.false refl (omega (arith, c.if-bytes-at.false))
            key.1 c.dbkey_at.ensures.found c.child_at.ensures.found c.child_at.ensures.inner
            (ap (λ n. end + (10 + n)) c.child_size-behind.ensures) (omega (arith, c.if-bytes-at.false)),
        record { key = key.1; row = refl; child = refl },
      ),
    )
