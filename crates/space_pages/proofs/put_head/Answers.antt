use Rattle.std.proofs.Common.{◌∙◌, [], refl, rules, arith}
use Rattle.area_files.proofs.of_slot_fields.Laws.{laid_part, drop_behind}
use Rattle.space_pages.specs.Space.{head_fields}
use Rattle.space_pages.proofs.put_head.Goals as goal

pub returns-clause-head : goal.returns-clause-head
returns-clause-head c =
    laid_part (head_fields c.args.number) [] c.put_zeros.new.slot 0 24
    (rw (c.put_zeros.ensures.front, c.put_u32.ensures.front, c.put_bytes.ensures.front) refl)
    refl (omega arith) (search rules)

pub returns-clause-behind : goal.returns-clause-behind
returns-clause-behind c =
    c.put_zeros.ensures.rest
    ∙ drop_behind 24 8 c.put_bytes.new.slot c.put_u32.new.slot (omega arith) c.put_u32.ensures.rest
    ∙ drop_behind 24 4 c.args.spam.now c.put_bytes.new.slot (omega arith) c.put_bytes.ensures.rest
