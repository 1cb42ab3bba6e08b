use Rattle.std.proofs.Common.{rules, ◌≡◌, ◌+◌, ◌-◌, ◌≤◌, ◌∙◌, ℕ, List, get_or, subst, arith}
use Rattle.rdb_outside.specs.Runs.{then_reads}
use Rattle.area_files.specs.Areas.{IsPage, IsSpacePage, IsDataPage}
use Rattle.database_opening.specs.stable_lines.Slots.{area_file}
use Rattle.database_opening.proofs.of_line_moves.Runs.{still_tells}
use Rattle.page_table.specs.Pages.{nobodys, use_of}
use Rattle.page_table.specs.Reading.{IsEntryOf}
use Rattle.page_table.proofs.Filling.{one_more}
use Rattle.page_table.proofs.reading.read_table.Goals as goal

pub returns-in_err-used-clause-reads : goal.returns-in_err-used-clause-reads
returns-in_err-used-clause-reads g c = let v = g.D.Disk.view in then_reads (v c.args.disk.now) (v c.loop-slot.disk) (v c.entry_of.new.disk) c.loop-slot.invariant.reads c.entry_of.ensures.reads

pub loop-slot-preserved : goal.loop-slot-preserved
loop-slot-preserved g c = let v = g.D.Disk.view in let old = v c.args.disk.now in let mid = v c.loop-slot.disk in let so_far = c.loop-slot.invariant in
    let slot = c.loop-slot.slot in let owners = c.in_ok-owners.owners.items in let area = area_file c.args.file in
    record {
      reads = then_reads old mid (v c.entry_of.new.disk) so_far.reads c.entry_of.ensures.reads;
      long = c.put.ensures.long ∙ so_far.long;
      page = λ t page is le.
          let same : c.deref.result.now ≡ owners = search rules in
          let place : slot ≡ slot + 1 - 1 = omega arith in
          let here : c.owner_in.result ≡ get_or owners slot 0 = subst (λ (l : List ℕ). c.owner_in.result ≡ get_or l slot 0) same c.owner_in.ensures in
          let owner : c.owner_in.result ≡ get_or owners (slot + 1 - 1) 0 = subst (λ (n : ℕ). c.owner_in.result ≡ get_or owners n 0) place here in
          one_more (λ p. IsDataPage p) (λ p u. IsEntryOf (get_or owners (p - 1) 0) p (old.content area (p - 1)) u) slot c.in_ok-used.used c.loop-slot.table c.put.new.self c.put.ensures
          (λ data_page. subst (λ (n : ℕ). IsEntryOf n (slot + 1) (old.content area (slot + 1 - 1)) c.in_ok-used.used) owner
          (subst (λ (b : List ℕ). IsEntryOf c.owner_in.result (slot + 1) b c.in_ok-used.used) ((so_far.reads.keeps t).content area (slot + 1 - 1)) (c.in_ok-used.ensures.entry (still_tells old mid so_far.reads.told t) data_page)))
          (λ p was within. so_far.page t p was within) page is.is_page.first is le;
      space = λ page is_page is le.
          one_more (λ p. IsPage p × IsSpacePage p) (λ p u. u ≡ nobodys) slot c.in_ok-used.used c.loop-slot.table c.put.new.self c.put.ensures
          (λ both. c.in_ok-used.ensures.space both.1) (λ p was within. so_far.space p was.0 was.1 within) page is_page.first (is_page, is) le;
    }

pub returns-clause-table : goal.returns-clause-table
returns-clause-table g c = λ t.
    let old = g.D.Disk.view c.args.disk.now in let so_far = c.loop-slot.invariant in
    let past : c.args.pages ≤ c.loop-slot.slot = search rules in
    let owners = c.in_ok-owners.ensures.owners t in
    record {
      long = so_far.long;
      page = λ page is le. subst (λ (n : ℕ). IsEntryOf n page (old.content (area_file c.args.file) (page - 1)) (use_of c.loop-slot.table page)) (owners.each page is le) (so_far.page t page is (omega (arith, le, past)));
      space = λ page is_page is le. so_far.space page is_page is (omega (arith, le, past));
    }
