use Rattle.std.proofs.Common.{List, ℕ, sym, subst}
use Rattle.rdb_types.specs.declared.keys.Line.{Line}
use Rattle.rdb_page.specs.Lines.{IsAllowedLine}
use Rattle.line_moves.proofs.KeyPlaces.{area_is, place_content}
use Rattle.line_moves.proofs.Runs.{on_ok}
use Rattle.guarded_lines.specs.Laying.{HasRoom, Lays}
use Rattle.guarded_lines.proofs.Laid.{space_there}
use Rattle.rmu_restore.specs.Laying.{line_of}
use Rattle.rmu_restore.proofs.laying.lay_copy.Goals as goal

pub lay_line-requires : goal.lay_line-requires
lay_line-requires g c = record { place = c.requires.place; class = c.requires.allowed.class }

pub returns-clause-bad : goal.returns-clause-bad
returns-clause-bad g c = λ file slot is t pages was room.
    let copy = c.args.copy in let place = c.args.place in let names = c.requires.place in let allowed = c.requires.allowed in
    let old = (g.D.Disk.view c.args.disk.now).content in
    let fits : IsAllowedLine copy.class (line_of copy) = record { tsn = allowed.tsn; image = allowed.image; agrees = tt } in
    c.lay_line.ensures.bad file slot is t (space_there pages old copy.key place names was) (was.page place.file place.page (area_is copy.key place names) names.is_data)
    (subst (λ (b : List ℕ). HasRoom copy.key copy.class b) (sym (place_content old copy.key place names)) room) (subst (λ (l : Line). IsAllowedLine copy.class l) (sym c.line_of-line.ensures) fits)

pub returns-clause-laid : goal.returns-clause-laid
returns-clause-laid g c = let v = g.D.Disk.view in let copy = c.args.copy in
    on_ok _ _ c.lay_line.result (λ laid t pages was within room.
    subst (λ (l : Line). Lays pages copy.key copy.class l (v c.args.disk.now).content (v c.lay_line.new.disk).content) c.line_of-line.ensures (laid t pages was within room)) c.lay_line.ensures.laid
