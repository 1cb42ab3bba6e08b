use Rattle.std.proofs.Common.{◌≡◌, ◌-◌, [], ◌∷◌, List, refl, take, drop, replicate, rules, arith}
use Rattle.slot_fields.specs.Fields.{Field, text, number, gap}
use Rattle.slot_fields.proofs.Laws.{laid_out, zeros_within}
use Rattle.rdb_page.specs.declared.head.Head.{Head}
use Rattle.rdb_page.specs.Page.{page_word, lines_end}
use Rattle.rdb_page.proofs.Places.{ends, zero_line}
use Rattle.rdb_page.proofs.Staying.{laid_stands, laid_whole}
use Rattle.rdb_page.proofs.head.put_head.Goals as goal

-- a page with this head and nothing else
abbrev unused_fields : Head → List Field
unused_fields h = text page_word ∷ number 4 h.page ∷ number 4 h.owner ∷ number 2 h.class ∷ gap 1010 ∷ []

pub returns-clause-head : goal.returns-clause-head
returns-clause-head c =
    let page = c.put_zeros.new.slot in
    let whole = laid_out (unused_fields c.args.head.now) page 1024 (rw (c.put_zeros.ensures.front, c.put_u16.ensures.front, c.put_u32-2.ensures.front, c.put_u32.ensures.front, c.put_bytes.ensures.front) refl) (search rules) (search rules) in
    let zeros : take 1010 (drop 14 page) ≡ replicate 1010 0 = whole.1.1.1.1.0 in
    let class = c.args.head.now.class in
    record {
      fields = (whole.0, (whole.1.0, (whole.1.1.0, (whole.1.1.1.0, (zeros_within 14 1010 14 10 page (omega arith) (omega arith) zeros, tt)))));
      class = c.requires.class;
      rest = (zeros_within 14 1010 (lines_end class) (1024 - lines_end class) page (omega (arith, ends class)) (omega (arith, ends class)) zeros, tt);
    }

pub returns-clause-lines : goal.returns-clause-lines
returns-clause-lines c =
    let page = c.put_zeros.new.slot in
    let whole = laid_out (unused_fields c.args.head.now) page 1024 (rw (c.put_zeros.ensures.front, c.put_u16.ensures.front, c.put_u32-2.ensures.front, c.put_u32.ensures.front, c.put_bytes.ensures.front) refl) (search rules) (search rules) in
    λ line less. zero_line c.args.head.now.class line page c.requires.class less whole.1.1.1.1.0

pub returns-clause-stands : goal.returns-clause-stands
returns-clause-stands c = laid_stands c.put_zeros.new.slot c.args.head.now (returns-clause-head c)

pub returns-clause-whole : goal.returns-clause-whole
returns-clause-whole c = laid_whole c.put_zeros.new.slot c.args.head.now (returns-clause-head c) (returns-clause-lines c)
