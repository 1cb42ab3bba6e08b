use Rattle.std.proofs.Common.{◌≡◌, ◌-◌, ⊎_elim, Some}
use Rattle.rdb_outside.specs.Disk.{Pending}
use Rattle.rdb_outside.specs.Moments.{each_slot}
use Rattle.line_view.specs.Knowledge.{Lines}
use Rattle.stable_lines.specs.Slots.{area_file}
use Rattle.stable_lines.specs.Progress.{lines_with}
use Rattle.stable_lines.proofs.Stands.{stands}
use Rattle.disk_seats.specs.Ledgers.{Commit, progress_of}
use Rattle.member_steps.specs.Standing.{HasLines}
use Rattle.member_steps.proofs.Left.{by_case}
use Rattle.store_shows.proofs.Standing.{may_stand}
use Rattle.store_shows.specs.Shows.{OpensTo}
use Rattle.opened_store.proofs.laws.a_crash_leaves_what_opens.Goals as goal

pub returns : goal.returns
returns g c = λ h shown image left.
    let v = g.D.Disk.view c.args.disk.now in
    let now = shown.ledger in
    let pending = each_slot v image left in
    let opens = λ (lines : Lines) (has : HasLines image lines). let to : OpensTo image lines = record {
      has = has;
      by_area = shown.tables.classes;
      lie = λ file number is page. shown.tables.lie file number (image (area_file file) (number - 1)) is page (pending (area_file file) (number - 1));
    } in to in
    let with = λ (lines : Lines) (has : HasLines image lines). may_stand v now h shown.facts shown.lines image lines pending has in
    ⊎_elim
    (λ (has : HasLines image now.base.lines). (now.base.lines, opens now.base.lines has, with now.base.lines has))
    (λ (up : (c : Commit) × (now.commit ≡ Some c) × HasLines image (lines_with now.base c.flight)). (lines_with now.base up.0.flight, opens (lines_with now.base up.0.flight) up.2, with (lines_with now.base up.0.flight) up.2))
    (by_case v now shown.facts image (stands (Pending v) (progress_of now) shown.facts.facts image pending))
