use Rattle.std.proofs.Common.{◌∙◌, ◌+◌, ℕ, subst, refl, length, arith}
use Rattle.rdb_types.specs.declared.keys.Tsn.{Tsn}
use Rattle.rdb_outside.specs.Disk.{Adds}
use Rattle.ruj_journal.specs.Entry.{IsEntry}
use Rattle.line_moves.specs.stable_lines.Slots.{ruj_file, entry_at, line_at, Undo}
use Rattle.line_seat.proofs.NextEntry.{none_there, none_counted, journalled_next}
use Rattle.line_seat.proofs.journalling.journal_line.Goals as goal

pub returns-in_err-write_before_image-clause-keeps : goal.returns-in_err-write_before_image-clause-keeps
returns-in_err-write_before_image-clause-keeps g c = λ t now o all n was holds same at.
    c.write_before_image.ensures.keeps t now o was holds.is_open same (none_there o holds.none_stands c.args.key) (none_counted o holds.none_stands c.args.index (omega (arith, at)))

pub returns-clause-keeps : goal.returns-clause-keeps
returns-clause-keeps g c = λ t now o all n was holds same at.
    c.write_before_image.ensures.keeps t now o was holds.is_open same (none_there o holds.none_stands c.args.key) (none_counted o holds.none_stands c.args.index (omega (arith, at)))

pub returns-clause-journalled : goal.returns-clause-journalled
returns-clause-journalled g c = let v = g.D.Disk.view in λ t now o all n was holds same at may.
    let old = v c.args.disk.now in let new = v c.write_before_image.new.disk in
    let left = g.met.D.Disk.content_left c.args.disk.now old.moment t (omega arith) in
    let file = ruj_file c.args.member in let next = length all + 1 in
    let undo : Undo = record { key = c.args.key; before = line_at old.content c.args.key } in
    let entry : IsEntry (new.content file next) (entry_at o.tsn next undo) = subst (λ (n : ℕ). IsEntry (new.content file n) (entry_at o.tsn n undo)) at (subst (λ (s : Tsn). IsEntry (new.content file c.args.index) (entry_at s c.args.index undo)) same (c.in_ok-write_before_image.ensures.noted t)) in
    journalled_next old new left now c.args.member o all n c.args.key (new.content file next) was holds may
    (subst (λ (n : ℕ). Adds file n (new.content file n) old new) at (c.in_ok-write_before_image.ensures.adds t)) refl
    (λ f i off. c.write_before_image.ensures.writes.content t f i (λ e k. off e (k ∙ at))) entry
