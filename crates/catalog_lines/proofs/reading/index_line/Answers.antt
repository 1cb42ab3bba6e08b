use Rattle.std.proofs.Common.{◌+◌, ◌*◌, ◌∙◌, sym, ap, arith}
use Rattle.catalog_lines.proofs.Lines.{index_not_short, index_not_cut, index_not_unnamed, tail_found}
use Rattle.catalog_lines.proofs.reading.index_line.Goals as goal

pub returns-then-bytes-lt21-clause-none : goal.returns-then-bytes-lt21-clause-none
returns-then-bytes-lt21-clause-none c = λ line. index_not_short c.args.bytes.now line c.if-bytes-lt21.true

pub returns-then-bytes-count-clause-none : goal.returns-then-bytes-count-clause-none
returns-then-bytes-count-clause-none c = λ line. index_not_cut c.args.bytes.now line c.u8_at-count.result c.u8_at-count.ensures (omega (arith, c.if-bytes-count.true, c.if-bytes-lt21.false))

pub returns-in_default-2-clause-none : goal.returns-in_default-2-clause-none
returns-in_default-2-clause-none c = λ line. index_not_unnamed c.args.bytes.now line c.u8_at-count.result c.u8_at-count.ensures (rw c.in_default-2.is at c.in_ok-name.ensures.none)

pub returns-clause-found : goal.returns-clause-found
returns-clause-found c =
    let root = c.dbkey_at.ensures.found in
    let count = c.in_ok-positions_at.ensures.count in
    let name = rw c.in-Some-2.is at c.in_ok-name.ensures.found in
    record {
      fields = (
        c.requires,
        (
          sym c.u32_at.ensures,
          (
            sym c.u32_at-2.ensures,
            (
              sym c.u8_at.ensures ∙ c.in-Some.ensures.some,
              (
                root.0,
                (
                  root.1.0,
                  (
                    root.1.1.0,
                    (
                      sym c.u8_at-count.ensures ∙ sym count,
                      tail_found c.args.bytes.now c.in_ok-positions_at.field-0 c.in-Some-2.name (21 + 2 * c.u8_at-count.result) (ap (λ n. 21 + 2 * n) (sym count)) c.in_ok-positions_at.ensures.positions name.fields,
                    ),
                  ),
                ),
              ),
            ),
          ),
        ),
      );
      allowed = c.is_index_line.ensures.yes c.if-not-is_index_line.false;
    }
