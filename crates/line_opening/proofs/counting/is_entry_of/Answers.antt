use Rattle.std.proofs.Common.{rules, ◌≡◌, ◌≢◌, ◌⊎◌, ⊎_elim, ap, subst, ◌∙◌}
use Rattle.rdb_types.specs.declared.keys.Tsn.{Tsn}
use Rattle.line_moves.specs.ruj_journal.declared.entry.RujEntry.{RujEntry}
use Rattle.line_moves.specs.ruj_journal.Entry.{IsEntry}
use Rattle.line_moves.proofs.of_ruj_journal.Readings.{one_entry}
use Rattle.line_moves.specs.stable_lines.Slots.{Undo}
use Rattle.line_opening.proofs.counting.is_entry_of.Goals as goal

pub returns-then-entry-tsn-clause-no : goal.returns-then-entry-tsn-clause-no
returns-then-entry-tsn-clause-no c = λ is e reads same at.
    let it : c.in-Some.entry ≡ e = one_entry c.args.slot.now c.in-Some.entry e c.in-Some.ensures.found reads in
    let off : (c.in-Some.entry.tsn.number ≢ c.args.tsn.number) ⊎ (c.in-Some.entry.index ≢ c.args.index) = search rules in
    ⊎_elim (λ number. number (ap (λ (a : RujEntry). a.tsn.number) it ∙ ap (λ (t : Tsn). t.number) same)) (λ index. index (ap (λ (a : RujEntry). a.index) it ∙ at)) off

pub returns-clause-yes : goal.returns-clause-yes
returns-clause-yes c = λ is.
    let number : c.in-Some.entry.tsn.number ≡ c.args.tsn.number = search rules in
    let at : c.in-Some.entry.index ≡ c.args.index = search rules in
    let undo : Undo = record { key = c.in-Some.entry.key; before = c.in-Some.entry.before } in
    (undo, subst (λ (e : RujEntry). IsEntry c.args.slot.now e) (λ i. record { tsn = record { number = number i }; index = at i; key = undo.key; before = undo.before }) c.in-Some.ensures.found)
