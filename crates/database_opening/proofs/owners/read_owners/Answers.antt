use Rattle.std.proofs.Common.{rules, ◌≡◌, ◌+◌, ◌-◌, ◌≤◌, ◌∙◌, ℕ, List, [], ◌∷◌, ◌++◌, get_or, refl, sym, ap, subst, ⊎_elim, arith}
use Rattle.rdb_outside.specs.Runs.{no_calls, then_reads}
use Rattle.space_pages.specs.Space.{IsSpace, owner_of}
use Rattle.line_opening.specs.stable_lines.Slots.{area_file}
use Rattle.line_opening.proofs.of_line_moves.Runs.{still_tells}
use Rattle.database_opening.proofs.PageOwners.{same_space, own_space, space_or_data, one_more_owner}
use Rattle.database_opening.proofs.owners.read_owners.Goals as goal

pub next_owner-requires-clause-page : goal.next_owner-requires-clause-page
next_owner-requires-clause-page g c = let less = c.loop-slot-test.true in let limit = c.requires in record { first = omega arith; last = omega (arith, less, limit) }

pub loop-slot-init : goal.loop-slot-init
loop-slot-init g c = record {
  size = refl;
  reads = no_calls (g.D.Disk.view c.args.disk.now);
  long = search rules;
  spam = λ t plain. absurd (plain.plain refl);
  each = λ t page is le. let first = is.is_page.first in absurd (omega (arith, le, first));
}

pub returns-in_err-found-clause-reads : goal.returns-in_err-found-clause-reads
returns-in_err-found-clause-reads g c = let v = g.D.Disk.view in then_reads (v c.args.disk.now) (v c.loop-slot.disk) (v c.next_owner.new.disk) c.loop-slot.invariant.reads c.next_owner.ensures.reads

pub returns-in_default-clause-reads : goal.returns-in_default-clause-reads
returns-in_default-clause-reads g c = let v = g.D.Disk.view in then_reads (v c.args.disk.now) (v c.loop-slot.disk) (v c.next_owner.new.disk) c.loop-slot.invariant.reads c.next_owner.ensures.reads

pub returns-in_err-found-clause-bad : goal.returns-in_err-found-clause-bad
returns-in_err-found-clause-bad g c = let v = g.D.Disk.view in let old = v c.args.disk.now in let mid = v c.loop-slot.disk in let reads = c.loop-slot.invariant.reads in let page = c.loop-slot.slot + 1 in
    λ f slot is t all. let less = c.loop-slot-test.true in let limit = c.requires in
    c.next_owner.ensures.bad f slot (search rules) (still_tells old mid reads.told t)
    (λ space. subst (λ (b : List ℕ). IsSpace b page) (sym ((reads.keeps t).content (area_file c.args.file) (page - 1))) (all page (record { first = omega arith; last = omega (arith, less, limit) }) space))

pub loop-slot-preserved : goal.loop-slot-preserved
loop-slot-preserved g c = let v = g.D.Disk.view in let old = v c.args.disk.now in let mid = v c.loop-slot.disk in let new = v c.next_owner.new.disk in let so_far = c.loop-slot.invariant in
    let slot = c.loop-slot.slot in
    record {
      size = c.next_owner.ensures.size;
      reads = then_reads old mid new so_far.reads c.next_owner.ensures.reads;
      long = search rules;
      spam = λ t plain. ⊎_elim
          (λ space.
          let read = c.in_ok-found.ensures.read (still_tells old mid so_far.reads.told t) space ∙ (so_far.reads.keeps t).content (area_file c.args.file) (slot + 1 - 1) in
          read ∙ ap (λ (n : ℕ). old.content (area_file c.args.file) (n - 1)) (sym (same_space (slot + 1) (omega arith) plain ∙ own_space (slot + 1) space)))
          (λ data_page. c.next_owner.ensures.same data_page ∙ so_far.spam t data_page ∙ ap (λ (n : ℕ). old.content (area_file c.args.file) (n - 1)) (sym (same_space (slot + 1) (omega arith) plain)))
          (space_or_data (slot + 1) (let less = c.loop-slot-test.true in let limit = c.requires in record { first = omega arith; last = omega (arith, less, limit) }));
      each = λ t page is le.
          let grown : c.push.new.self.items ≡ c.loop-slot.owners.items ++ c.in_ok-found.found ∷ [] = search rules in
          ap (λ (l : List ℕ). get_or l (page - 1) 0) grown
          ∙ one_more_owner old.content c.args.file slot c.loop-slot.owners.items c.in_ok-found.found so_far.long
          (λ data_page. c.in_ok-found.ensures.owner data_page ∙ ap (λ (b : List ℕ). owner_of (slot + 1) b) (so_far.spam t data_page)) (so_far.each t) page is le;
    }

pub returns-clause-owners : goal.returns-clause-owners
returns-clause-owners g c = λ t. record {
  long = search rules;
  each = λ page is le. c.loop-slot.invariant.each t page is (let past : c.args.pages ≤ c.loop-slot.slot = search rules in omega (arith, le, past));
}
