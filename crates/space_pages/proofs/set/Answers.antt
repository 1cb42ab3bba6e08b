use Rattle.std.proofs.Common.{ℕ, ◌≡◌, ◌≢◌, ◌≤◌, ◌+◌, ◌-◌, ◌∙◌, ap, sym, subst, take, arith, ⊎_elim}
use Rattle.area_files.proofs.of_slot_fields.Laws.{part_before, drop_behind}
use Rattle.area_files.specs.slot_fields.Fields.{HasPart}
use Rattle.area_files.specs.Areas.{index_of, space_page_of}
use Rattle.area_files.specs.declared.SpaceEntry.{SpaceEntry}
use Rattle.space_pages.specs.Space.{head_fields, entry_place, level_at, entries_of}
use Rattle.space_pages.proofs.Entries.{is_or_apart, other_number, apart_index, index_within, old_level, old_rest}
use Rattle.space_pages.proofs.set.Goals as goal

pub returns-clause-other_owners : goal.returns-clause-other_owners
returns-clause-other_owners c = λ other beside.
    let at = c.space_entry_of-entry.result.index in
    let own : at ≡ index_of c.args.page = ap (λ (e : SpaceEntry). e.index) c.space_entry_of-entry.ensures in
    let apart : index_of other ≢ at = subst (λ (k : ℕ). index_of other ≢ k) (sym own) (apart_index c.args.page other c.requires.page beside) in
    other_number 4 (entry_place (index_of other)) at (index_of other) c.args.spam.now c.put_head.new.spam c.put_entry.new.spam apart (omega arith) (omega arith) c.put_head.ensures.behind c.put_entry.ensures.before c.put_entry.ensures.behind

pub returns-clause-other_levels : goal.returns-clause-other_levels
returns-clause-other_levels c = λ other beside.
    let at = c.space_entry_of-entry.result.index in
    let own : at ≡ index_of c.args.page = ap (λ (e : SpaceEntry). e.index) c.space_entry_of-entry.ensures in
    let apart : index_of other ≢ at = subst (λ (k : ℕ). index_of other ≢ k) (sym own) (apart_index c.args.page other c.requires.page beside) in
    other_number 1 (entry_place (index_of other) + 4) at (index_of other) c.args.spam.now c.put_head.new.spam c.put_entry.new.spam apart (omega arith) (omega arith) c.put_head.ensures.behind c.put_entry.ensures.before c.put_entry.ensures.behind

pub returns-clause-kept : goal.returns-clause-kept
returns-clause-kept c = λ was.
    let old = c.args.spam.now in let headed = c.put_head.new.spam in let new = c.put_entry.new.spam in
    let page = c.args.page in let space = space_page_of page in
    let at = c.space_entry_of-entry.result.index in
    let own : at ≡ index_of page = ap (λ (e : SpaceEntry). e.index) c.space_entry_of-entry.ensures in
    let own_space : c.space_entry_of-entry.result.space_page ≡ space = ap (λ (e : SpaceEntry). e.space_page) c.space_entry_of-entry.ensures in
    let head = subst (λ (n : ℕ). HasPart 0 (head_fields n) headed) own_space c.put_head.ensures.head in
    let end = entry_place (entries_of space) in
    let inside : entry_place (at + 1) ≤ end = omega (arith, own, index_within page c.requires.page) in
    let rest = old_rest old space c.requires.size was in
    record {
      head = part_before (head_fields space) 0 (entry_place at) headed new (omega arith) c.put_entry.ensures.before head;
      levels = λ index less.
          ⊎_elim
          (λ (is : index ≡ at). let wrote : level_at at new ≡ c.args.level = c.put_entry.ensures.level in let low = c.requires.level in subst (λ (k : ℕ). level_at k new ≤ 3) (sym is) (omega (arith, wrote, low)))
          (λ (apart : index ≢ at).
          let stays : level_at index new ≡ level_at index old = other_number 1 (entry_place index + 4) at index old headed new apart (omega arith) (omega arith) c.put_head.ensures.behind c.put_entry.ensures.before c.put_entry.ensures.behind in
          let low = old_level old space index c.requires.size was less in
          omega (arith, stays, low))
          (is_or_apart index at);
      rest = (ap (take (1024 - end)) (drop_behind end (entry_place (at + 1)) headed new inside c.put_entry.ensures.behind ∙ drop_behind end 24 old headed (omega arith) c.put_head.ensures.behind) ∙ rest.0, tt);
    }
