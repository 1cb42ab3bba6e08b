use Rattle.std.proofs.Common.{◌≡◌, ◌<◌, ◌+◌, ◌-◌, ◌∙◌, ℕ, List, Some, IsTrue, slice_get, ap, sym, subst, arith, length}
use Rattle.rdb_types.specs.declared.keys.Line.{Line}
use Rattle.rdb_outside.specs.Moments.{each_slot}
use Rattle.rdb_outside.specs.Runs.{then_reads}
use Rattle.line_versions.specs.Lines.{shown}
use Rattle.stable_lines.specs.Slots.{area_file, ruj_file, line_at}
use Rattle.line_store.specs.declared.answers.Fault.TheVariants.{Bad}
use Rattle.line_moves.proofs.KeyPlaces.{area_is}
use Rattle.line_moves.proofs.Runs.{still_tells}
use Rattle.member_steps.proofs.Standings.{stands_committed}
use Rattle.committed_lines.specs.Seen.{Seen}
use Rattle.committed_lines.proofs.Nowhere.{nowhere}
use Rattle.committed_lines.proofs.Bearing.{not_open, has_before, in_slot, at_place, within, told_on}
use Rattle.committed_lines.proofs.lines.committed_line.Goals as goal

pub returns-in_default-clause-committed : goal.returns-in_default-clause-committed
returns-in_default-clause-committed g c = let v = g.D.Disk.view c.args.disk.now in λ t ledger was are.
    sym (nowhere v (g.met.D.Disk.content_left c.args.disk.now v.moment t (omega arith)) ledger was c.args.key c.in_default.ensures.none)

pub returns-in-Err-clause-bad : goal.returns-in-Err-clause-bad
returns-in-Err-clause-bad g c = let v = g.D.Disk.view c.args.disk.now in λ f s is t ledger was are.
    let names = c.in-Some.ensures.found in let place = c.in-Some.place in
    let left = g.met.D.Disk.content_left c.args.disk.now v.moment t (omega arith) in
    c.in-Err.ensures.bad f s (told_on c.in-Err.fault (Bad f s) is) t (was.facts.pages.page place.file place.page (v.content (area_file place.file) (place.page - 1)) (area_is c.args.key place names) names.is_data (each_slot v v.content left (area_file place.file) (place.page - 1)))

pub returns-in_default-bearer-clause-committed : goal.returns-in_default-bearer-clause-committed
returns-in_default-bearer-clause-committed g c = let v = g.D.Disk.view c.args.disk.now in λ t ledger was are.
    let left = g.met.D.Disk.content_left c.args.disk.now v.moment t (omega arith) in
    let line = c.in-Ok.ensures.line t in
    c.shown.ensures ∙ ap shown line ∙ stands_committed v left ledger was c.args.key
    (not_open g.T.HasBeforeImages.seen v left ledger was c.args.members.now are c.args.key (λ i its seen got has same. c.in_default-bearer.ensures.none i its seen got has (same ∙ ap (λ (l : Line). l.tsn.number) (sym line))))

pub offset_bounds-members-member : goal.offset_bounds-members-member
offset_bounds-members-member g c = let found = c.in-Some-bearer.ensures.found in omega (arith, within c.in-Some-bearer.member found.0 c.args.members.now found.2)

pub bounds-members-member : goal.bounds-members-member
bounds-members-member g c = let found = c.in-Some-bearer.ensures.found in within c.in-Some-bearer.member found.0 c.args.members.now found.2

pub returns-in_default-place-clause-bad : goal.returns-in_default-place-clause-bad
returns-in_default-place-clause-bad g c = let v = g.D.Disk.view c.args.disk.now in λ f s is t ledger was are.
    let left = g.met.D.Disk.content_left c.args.disk.now v.moment t (omega arith) in
    let found = c.in-Some-bearer.ensures.found in let seen = found.1 in
    let its = at_place c.args.members.now c.in-Some-bearer.member c.index-members-member.result found.0 found.2 c.index-members-member.is in
    let b = has_before g.T.HasBeforeImages.seen v left ledger was c.args.members.now are c.args.key c.in-Some-bearer.member found.0 seen found.2 found.3 (found.4 ∙ ap (λ (l : Line). l.tsn.number) (c.in-Ok.ensures.line t)) in
    c.in_default-place.ensures.none seen b.before.index (ap g.T.HasBeforeImages.seen its ∙ found.3) b.placed

pub returns-in-Ok-before_image-clause-reads : goal.returns-in-Ok-before_image-clause-reads
returns-in-Ok-before_image-clause-reads g c = let v = g.D.Disk.view in then_reads (v c.args.disk.now) (v c.line_at.new.disk) (v c.before_image.new.disk) c.line_at.ensures.reads c.before_image.ensures.reads

pub returns-in-Ok-before_image-clause-committed : goal.returns-in-Ok-before_image-clause-committed
returns-in-Ok-before_image-clause-committed g c = let v = g.D.Disk.view c.args.disk.now in let mid = g.D.Disk.view c.line_at.new.disk in λ t ledger was are.
    let left = g.met.D.Disk.content_left c.args.disk.now v.moment t (omega arith) in
    let found = c.in-Some-bearer.ensures.found in let seen = found.1 in let member = c.in-Some-bearer.member in
    let its = at_place c.args.members.now member c.index-members-member.result found.0 found.2 c.index-members-member.is in
    let b = has_before g.T.HasBeforeImages.seen v left ledger was c.args.members.now are c.args.key member found.0 seen found.2 found.3 (found.4 ∙ ap (λ (l : Line). l.tsn.number) (c.in-Ok.ensures.line t)) in
    let reads = c.line_at.ensures.reads in
    let at = c.in-Some-place.ensures.found.2 seen b.before.index (ap g.T.HasBeforeImages.seen its ∙ found.3) b.placed in
    let entry = in_slot v ledger c.args.key member seen b c.in-Some-place.index at mid.content ((reads.keeps t).content (ruj_file member) (c.in-Some-place.index + 1)) in
    c.shown-in-Ok-before_image.ensures ∙ ap shown (c.in-Ok-before_image.ensures.before (still_tells v mid reads.told t) _ entry) ∙ b.before.shows

pub returns-in-Err-before_image-clause-reads : goal.returns-in-Err-before_image-clause-reads
returns-in-Err-before_image-clause-reads g c = let v = g.D.Disk.view in then_reads (v c.args.disk.now) (v c.line_at.new.disk) (v c.before_image.new.disk) c.line_at.ensures.reads c.before_image.ensures.reads

pub returns-in-Err-before_image-clause-bad : goal.returns-in-Err-before_image-clause-bad
returns-in-Err-before_image-clause-bad g c = let v = g.D.Disk.view c.args.disk.now in let mid = g.D.Disk.view c.line_at.new.disk in λ f s is t ledger was are.
    let left = g.met.D.Disk.content_left c.args.disk.now v.moment t (omega arith) in
    let found = c.in-Some-bearer.ensures.found in let seen = found.1 in let member = c.in-Some-bearer.member in
    let its = at_place c.args.members.now member c.index-members-member.result found.0 found.2 c.index-members-member.is in
    let b = has_before g.T.HasBeforeImages.seen v left ledger was c.args.members.now are c.args.key member found.0 seen found.2 found.3 (found.4 ∙ ap (λ (l : Line). l.tsn.number) (c.in-Ok.ensures.line t)) in
    let reads = c.line_at.ensures.reads in
    let at = c.in-Some-place.ensures.found.2 seen b.before.index (ap g.T.HasBeforeImages.seen its ∙ found.3) b.placed in
    let entry = in_slot v ledger c.args.key member seen b c.in-Some-place.index at mid.content ((reads.keeps t).content (ruj_file member) (c.in-Some-place.index + 1)) in
    c.in-Err-before_image.ensures.bad f s (told_on c.in-Err-before_image.fault (Bad f s) is) (still_tells v mid reads.told t) _ entry
