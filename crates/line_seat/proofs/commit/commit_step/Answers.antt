use Rattle.std.proofs.Common.{◌≡◌, ◌<◌, ◌+◌, ◌∙◌, inl, inr, refl, length, sym, subst}
use Rattle.std.specs.Prelude.{◌^◌}
use Rattle.rdb_types.specs.declared.keys.Tsn.{Tsn}
use Rattle.rdb_outside.specs.Disk.{Pending}
use Rattle.rdb_outside.specs.Runs.{no_calls}
use Rattle.rdb_types.specs.declared.file.FileKind.TheVariants.{Area, Aij}
use Rattle.line_moves.specs.new_database.Maker.{aij_file}
use Rattle.line_moves.specs.stable_lines.Slots.{area_file}
use Rattle.line_moves.proofs.Runs.{writes_none}
use Rattle.line_moves.proofs.PageClasses.{owners_stay, owners_beside, classes_read, classes_beside}
use Rattle.line_moves.proofs.OnlyPut.{keeps_lines, lines_beside}
use Rattle.line_moves.specs.stable_lines.Progress.{flying}
use Rattle.line_moves.specs.stable_lines.Facts.{Facts}
use Rattle.line_seat.specs.declared.commit.CommitStage.{CommitStage}
use Rattle.line_seat.specs.Stages.{CommitFacts, progress_at}
use Rattle.line_seat.proofs.CommitSteps.{if_ok, takes_off_with, commit_of_it}
use Rattle.line_moves.proofs.Commits.{lands_with}
use Rattle.line_seat.proofs.commit.commit_step.Goals as goal

pub returns-in-Changing-clause-goes_on : goal.returns-in-Changing-clause-goes_on
returns-in-Changing-clause-goes_on g c = let old = g.D.Disk.view c.args.disk.now in
    if_ok _ _ c.change_page.result (λ next on t now member o f is classes stands. on t now c.args.group f (subst (λ (s : CommitStage). CommitFacts s old now c.args.group c.args.lines.now f) c.in-Changing.is stands)) c.change_page.ensures.goes_on

pub returns-in-Changing-clause-keeps : goal.returns-in-Changing-clause-keeps
returns-in-Changing-clause-keeps g c = let v = g.D.Disk.view in λ t now member o f is stands.
    let old = v c.args.disk.now in let new = v c.change_page.new.disk in
    subst (λ (s : CommitStage). Facts (Pending new) (progress_at s now f)) (sym c.in-Changing.is)
    (c.change_page.ensures.keeps t now c.args.group f (subst (λ (s : CommitStage). CommitFacts s old now c.args.group c.args.lines.now f) c.in-Changing.is stands))

pub returns-in-Imaging-clause-goes_on : goal.returns-in-Imaging-clause-goes_on
returns-in-Imaging-clause-goes_on g c = let old = g.D.Disk.view c.args.disk.now in
    if_ok _ _ c.journal_image.result (λ next on t now member o f is classes stands. on t now member o f is (subst (λ (s : CommitStage). CommitFacts s old now c.args.group c.args.lines.now f) c.in-Imaging.is stands)) c.journal_image.ensures.goes_on

pub returns-in-Imaging-clause-keeps : goal.returns-in-Imaging-clause-keeps
returns-in-Imaging-clause-keeps g c = let v = g.D.Disk.view in λ t now member o f is stands.
    let old = v c.args.disk.now in let new = v c.journal_image.new.disk in
    subst (λ (s : CommitStage). Facts (Pending new) (progress_at s now f)) (sym c.in-Imaging.is)
    (c.journal_image.ensures.keeps t now member o f is (subst (λ (s : CommitStage). CommitFacts s old now c.args.group c.args.lines.now f) c.in-Imaging.is stands))

pub returns-in_err-write_commit-in-Sealing-clause-keeps :
    goal.returns-in_err-write_commit-in-Sealing-clause-keeps
returns-in_err-write_commit-in-Sealing-clause-keeps g c = let v = g.D.Disk.view in λ t now member o f is stands.
    let s = subst (λ (x : CommitStage). CommitFacts x (v c.args.disk.now) now c.args.group c.args.lines.now f) c.in-Sealing.is stands in
    subst (λ (x : CommitStage). Facts (Pending (v c.write_commit.new.disk)) (progress_at x now f)) (sym c.in-Sealing.is)
    (c.write_commit.ensures.keeps t (flying f now) f s.facts (commit_of_it now member o c.args.group c.args.lines.now c.args.classes.now f c.requires.classes is))

pub returns-in_ok-write_commit-in-Sealing-clause-keeps :
    goal.returns-in_ok-write_commit-in-Sealing-clause-keeps
returns-in_ok-write_commit-in-Sealing-clause-keeps g c = let v = g.D.Disk.view in λ t now member o f is stands.
    let s = subst (λ (x : CommitStage). CommitFacts x (v c.args.disk.now) now c.args.group c.args.lines.now f) c.in-Sealing.is stands in
    subst (λ (x : CommitStage). Facts (Pending (v c.write_commit.new.disk)) (progress_at x now f)) (sym c.in-Sealing.is)
    (c.write_commit.ensures.keeps t (flying f now) f s.facts (commit_of_it now member o c.args.group c.args.lines.now c.args.classes.now f c.requires.classes is))

pub returns-in_ok-write_commit-in-Sealing-clause-goes_on :
    goal.returns-in_ok-write_commit-in-Sealing-clause-goes_on
returns-in_ok-write_commit-in-Sealing-clause-goes_on g c = let v = g.D.Disk.view in λ t now member o f is classes stands.
    let s = subst (λ (x : CommitStage). CommitFacts x (v c.args.disk.now) now c.args.group c.args.lines.now f) c.in-Sealing.is stands in
    let it = commit_of_it now member o c.args.group c.args.lines.now c.args.classes.now f c.requires.classes is in
    record { facts = c.write_commit.ensures.keeps t (flying f now) f s.facts it; done = c.in_ok-write_commit-in-Sealing.ensures.stands t (flying f now) f it }

pub returns-in_ok-make_stable-in-Gathering-clause-goes_on :
    goal.returns-in_ok-make_stable-in-Gathering-clause-goes_on
returns-in_ok-make_stable-in-Gathering-clause-goes_on g c = let v = g.D.Disk.view in λ t now member o f is classes stands.
    let old = v c.args.disk.now in let new = v c.make_stable.new.disk in
    let s = subst (λ (x : CommitStage). CommitFacts x old now c.args.group c.args.lines.now f) c.in-Gathering.is stands in
    let keeps = c.make_stable.ensures.reads.keeps t in
    record {
      facts = takes_off_with (Pending new) old.content (λ k i x p. c.in_ok-make_stable-in-Gathering.ensures.stable t k i x p ∙ keeps.content k i) now member o c.args.group c.args.lines.now c.args.classes.now f c.requires.classes
          (c.make_stable.ensures.keeps t now s.facts) is s.done.0 s.done.1 (classes c.in-Gathering.is);
      done = tt;
    }

pub returns-in_ok-make_stable-in-Landing-clause-goes_on :
    goal.returns-in_ok-make_stable-in-Landing-clause-goes_on
returns-in_ok-make_stable-in-Landing-clause-goes_on g c = let v = g.D.Disk.view in λ t now member o f is classes stands.
    let old = v c.args.disk.now in let new = v c.make_stable-in-Landing.new.disk in
    let s = subst (λ (x : CommitStage). CommitFacts x old now c.args.group c.args.lines.now f) c.in-Landing.is stands in
    let keeps = c.make_stable-in-Landing.ensures.reads.keeps t in
    record {
      facts = lands_with (Pending new) old.content (λ k i x p. c.in_ok-make_stable-in-Landing.ensures.stable t k i x p ∙ keeps.content k i) (flying f now) f c.args.group.slot c.args.group.number (length c.args.lines.now) c.args.group.tsn
          (c.make_stable-in-Landing.ensures.keeps t (flying f now) s.facts) (commit_of_it now member o c.args.group c.args.lines.now c.args.classes.now f c.requires.classes is) s.done;
      done = tt;
    }

pub returns-in-Changing-clause-writes : goal.returns-in-Changing-clause-writes
returns-in-Changing-clause-writes g c = let w = c.change_page.ensures.writes in (area_file w.0, w.1, inl (w.0, refl, w.2), w.3)

pub returns-in-Changing-clause-changes : goal.returns-in-Changing-clause-changes
returns-in-Changing-clause-changes g c = λ t now was. c.change_page.ensures.changes t now was

pub returns-in-Imaging-clause-writes : goal.returns-in-Imaging-clause-writes
returns-in-Imaging-clause-writes g c = let w = c.journal_image.ensures.writes in (aij_file, w.0, inr refl, w.1)

pub returns-in-Imaging-clause-changes : goal.returns-in-Imaging-clause-changes
returns-in-Imaging-clause-changes g c = let v = g.D.Disk.view in let w = c.journal_image.ensures.writes in
    λ t now was key. inl (lines_beside (v c.args.disk.now) (v c.journal_image.new.disk) aij_file w.0 t (λ a. let bad : Aij ≡ Area = a in cc) w.1 key)

pub returns-in_err-write_commit-in-Sealing-clause-writes : goal.returns-in_err-write_commit-in-Sealing-clause-writes
returns-in_err-write_commit-in-Sealing-clause-writes g c = (aij_file, c.args.group.slot + length c.args.lines.now, inr refl, c.write_commit.ensures.writes)

pub returns-in_err-write_commit-in-Sealing-clause-changes : goal.returns-in_err-write_commit-in-Sealing-clause-changes
returns-in_err-write_commit-in-Sealing-clause-changes g c = let v = g.D.Disk.view in
    λ t now was key. inl (lines_beside (v c.args.disk.now) (v c.write_commit.new.disk) aij_file (c.args.group.slot + length c.args.lines.now) t (λ a. let bad : Aij ≡ Area = a in cc) c.write_commit.ensures.writes key)

pub returns-in_ok-write_commit-in-Sealing-clause-writes : goal.returns-in_ok-write_commit-in-Sealing-clause-writes
returns-in_ok-write_commit-in-Sealing-clause-writes g c = (aij_file, c.args.group.slot + length c.args.lines.now, inr refl, c.write_commit.ensures.writes)

pub returns-in_ok-write_commit-in-Sealing-clause-changes : goal.returns-in_ok-write_commit-in-Sealing-clause-changes
returns-in_ok-write_commit-in-Sealing-clause-changes g c = let v = g.D.Disk.view in
    λ t now was key. inl (lines_beside (v c.args.disk.now) (v c.write_commit.new.disk) aij_file (c.args.group.slot + length c.args.lines.now) t (λ a. let bad : Aij ≡ Area = a in cc) c.write_commit.ensures.writes key)

pub returns-in_err-make_stable-in-Gathering-clause-writes : goal.returns-in_err-make_stable-in-Gathering-clause-writes
returns-in_err-make_stable-in-Gathering-clause-writes g c = let v = g.D.Disk.view in (aij_file, 0, inr refl, writes_none aij_file 0 (v c.args.disk.now) (v c.make_stable.new.disk) c.make_stable.ensures.reads)

pub returns-in_err-make_stable-in-Gathering-clause-changes : goal.returns-in_err-make_stable-in-Gathering-clause-changes
returns-in_err-make_stable-in-Gathering-clause-changes g c = let v = g.D.Disk.view in
    λ t now was key. inl (keeps_lines (v c.args.disk.now).content (v c.make_stable.new.disk).content (c.make_stable.ensures.reads.keeps t).content key)

pub returns-in_ok-make_stable-in-Gathering-clause-writes : goal.returns-in_ok-make_stable-in-Gathering-clause-writes
returns-in_ok-make_stable-in-Gathering-clause-writes g c = let v = g.D.Disk.view in (aij_file, 0, inr refl, writes_none aij_file 0 (v c.args.disk.now) (v c.make_stable.new.disk) c.make_stable.ensures.reads)

pub returns-in_ok-make_stable-in-Gathering-clause-changes : goal.returns-in_ok-make_stable-in-Gathering-clause-changes
returns-in_ok-make_stable-in-Gathering-clause-changes g c = let v = g.D.Disk.view in
    λ t now was key. inl (keeps_lines (v c.args.disk.now).content (v c.make_stable.new.disk).content (c.make_stable.ensures.reads.keeps t).content key)

pub returns-in_err-make_stable-in-Landing-clause-writes : goal.returns-in_err-make_stable-in-Landing-clause-writes
returns-in_err-make_stable-in-Landing-clause-writes g c = let v = g.D.Disk.view in (aij_file, 0, inr refl, writes_none aij_file 0 (v c.args.disk.now) (v c.make_stable-in-Landing.new.disk) c.make_stable-in-Landing.ensures.reads)

pub returns-in_err-make_stable-in-Landing-clause-changes : goal.returns-in_err-make_stable-in-Landing-clause-changes
returns-in_err-make_stable-in-Landing-clause-changes g c = let v = g.D.Disk.view in
    λ t now was key. inl (keeps_lines (v c.args.disk.now).content (v c.make_stable-in-Landing.new.disk).content (c.make_stable-in-Landing.ensures.reads.keeps t).content key)

pub returns-in_ok-make_stable-in-Landing-clause-writes : goal.returns-in_ok-make_stable-in-Landing-clause-writes
returns-in_ok-make_stable-in-Landing-clause-writes g c = let v = g.D.Disk.view in (aij_file, 0, inr refl, writes_none aij_file 0 (v c.args.disk.now) (v c.make_stable-in-Landing.new.disk) c.make_stable-in-Landing.ensures.reads)

pub returns-in_ok-make_stable-in-Landing-clause-changes : goal.returns-in_ok-make_stable-in-Landing-clause-changes
returns-in_ok-make_stable-in-Landing-clause-changes g c = let v = g.D.Disk.view in
    λ t now was key. inl (keeps_lines (v c.args.disk.now).content (v c.make_stable-in-Landing.new.disk).content (c.make_stable-in-Landing.ensures.reads.keeps t).content key)

pub returns-in-Committed-clause-writes : goal.returns-in-Committed-clause-writes
returns-in-Committed-clause-writes g c = let old = g.D.Disk.view c.args.disk.now in (aij_file, 0, inr refl, writes_none aij_file 0 old old (no_calls old))

pub returns-in-Changing-clause-classes : goal.returns-in-Changing-clause-classes
returns-in-Changing-clause-classes g c = λ t now was by_area its had. c.change_page.ensures.classes t now was by_area its had

pub returns-in-Imaging-clause-classes : goal.returns-in-Imaging-clause-classes
returns-in-Imaging-clause-classes g c = let v = g.D.Disk.view in let w = c.journal_image.ensures.writes in
    λ t now was by_area its had. classes_beside by_area (v c.args.disk.now) (v c.journal_image.new.disk) aij_file w.0 t (λ a. let bad : Aij ≡ Area = a in cc) w.1 had

pub returns-in_err-write_commit-in-Sealing-clause-classes : goal.returns-in_err-write_commit-in-Sealing-clause-classes
returns-in_err-write_commit-in-Sealing-clause-classes g c = let v = g.D.Disk.view in
    λ t now was by_area its had. classes_beside by_area (v c.args.disk.now) (v c.write_commit.new.disk) aij_file (c.args.group.slot + length c.args.lines.now) t (λ a. let bad : Aij ≡ Area = a in cc) c.write_commit.ensures.writes had

pub returns-in_ok-write_commit-in-Sealing-clause-classes : goal.returns-in_ok-write_commit-in-Sealing-clause-classes
returns-in_ok-write_commit-in-Sealing-clause-classes g c = let v = g.D.Disk.view in
    λ t now was by_area its had. classes_beside by_area (v c.args.disk.now) (v c.write_commit.new.disk) aij_file (c.args.group.slot + length c.args.lines.now) t (λ a. let bad : Aij ≡ Area = a in cc) c.write_commit.ensures.writes had

pub returns-in_err-make_stable-in-Gathering-clause-classes : goal.returns-in_err-make_stable-in-Gathering-clause-classes
returns-in_err-make_stable-in-Gathering-clause-classes g c = let v = g.D.Disk.view in
    λ t now was by_area its had. classes_read by_area (v c.args.disk.now) (v c.make_stable.new.disk) c.make_stable.ensures.reads t had

pub returns-in_ok-make_stable-in-Gathering-clause-classes : goal.returns-in_ok-make_stable-in-Gathering-clause-classes
returns-in_ok-make_stable-in-Gathering-clause-classes g c = let v = g.D.Disk.view in
    λ t now was by_area its had. classes_read by_area (v c.args.disk.now) (v c.make_stable.new.disk) c.make_stable.ensures.reads t had

pub returns-in_err-make_stable-in-Landing-clause-classes : goal.returns-in_err-make_stable-in-Landing-clause-classes
returns-in_err-make_stable-in-Landing-clause-classes g c = let v = g.D.Disk.view in
    λ t now was by_area its had. classes_read by_area (v c.args.disk.now) (v c.make_stable-in-Landing.new.disk) c.make_stable-in-Landing.ensures.reads t had

pub returns-in_ok-make_stable-in-Landing-clause-classes : goal.returns-in_ok-make_stable-in-Landing-clause-classes
returns-in_ok-make_stable-in-Landing-clause-classes g c = let v = g.D.Disk.view in
    λ t now was by_area its had. classes_read by_area (v c.args.disk.now) (v c.make_stable-in-Landing.new.disk) c.make_stable-in-Landing.ensures.reads t had

pub returns-in-Changing-clause-owners : goal.returns-in-Changing-clause-owners
returns-in-Changing-clause-owners g c = λ t now was there area is_file is_data lies. c.change_page.ensures.owners t now was there area is_file is_data lies

pub returns-in-Imaging-clause-owners : goal.returns-in-Imaging-clause-owners
returns-in-Imaging-clause-owners g c = let v = g.D.Disk.view in let w = c.journal_image.ensures.writes in
    λ t now was there area is_file is_data lies. owners_beside (v c.args.disk.now) (v c.journal_image.new.disk) aij_file w.0 t (λ a. let bad : Aij ≡ Area = a in cc) w.1 there area

pub returns-in_err-write_commit-in-Sealing-clause-owners : goal.returns-in_err-write_commit-in-Sealing-clause-owners
returns-in_err-write_commit-in-Sealing-clause-owners g c = let v = g.D.Disk.view in
    λ t now was there area is_file is_data lies. owners_beside (v c.args.disk.now) (v c.write_commit.new.disk) aij_file (c.args.group.slot + length c.args.lines.now) t (λ a. let bad : Aij ≡ Area = a in cc) c.write_commit.ensures.writes there area

pub returns-in_ok-write_commit-in-Sealing-clause-owners : goal.returns-in_ok-write_commit-in-Sealing-clause-owners
returns-in_ok-write_commit-in-Sealing-clause-owners g c = let v = g.D.Disk.view in
    λ t now was there area is_file is_data lies. owners_beside (v c.args.disk.now) (v c.write_commit.new.disk) aij_file (c.args.group.slot + length c.args.lines.now) t (λ a. let bad : Aij ≡ Area = a in cc) c.write_commit.ensures.writes there area

pub returns-in_err-make_stable-in-Gathering-clause-owners : goal.returns-in_err-make_stable-in-Gathering-clause-owners
returns-in_err-make_stable-in-Gathering-clause-owners g c = let v = g.D.Disk.view in
    λ t now was there area is_file is_data lies. owners_stay (v c.args.disk.now) (v c.make_stable.new.disk) (c.make_stable.ensures.reads.keeps t).pending there area

pub returns-in_ok-make_stable-in-Gathering-clause-owners : goal.returns-in_ok-make_stable-in-Gathering-clause-owners
returns-in_ok-make_stable-in-Gathering-clause-owners g c = let v = g.D.Disk.view in
    λ t now was there area is_file is_data lies. owners_stay (v c.args.disk.now) (v c.make_stable.new.disk) (c.make_stable.ensures.reads.keeps t).pending there area

pub returns-in_err-make_stable-in-Landing-clause-owners : goal.returns-in_err-make_stable-in-Landing-clause-owners
returns-in_err-make_stable-in-Landing-clause-owners g c = let v = g.D.Disk.view in
    λ t now was there area is_file is_data lies. owners_stay (v c.args.disk.now) (v c.make_stable-in-Landing.new.disk) (c.make_stable-in-Landing.ensures.reads.keeps t).pending there area

pub returns-in_ok-make_stable-in-Landing-clause-owners : goal.returns-in_ok-make_stable-in-Landing-clause-owners
returns-in_ok-make_stable-in-Landing-clause-owners g c = let v = g.D.Disk.view in
    λ t now was there area is_file is_data lies. owners_stay (v c.args.disk.now) (v c.make_stable-in-Landing.new.disk) (c.make_stable-in-Landing.ensures.reads.keeps t).pending there area

pub returns-in-Changing-clause-bad : goal.returns-in-Changing-clause-bad
returns-in-Changing-clause-bad g c = λ file slot is t now member o flight by_area commits stands room.
    c.change_page.ensures.bad file slot is t now o c.args.group flight by_area (subst (λ (s : CommitStage). CommitFacts s (g.D.Disk.view c.args.disk.now) now c.args.group c.args.lines.now flight) c.in-Changing.is stands)
    commits.bears (subst (λ (n : Tsn). n.number < 2 ^ 62) commits.tsn c.requires.tsn) room

pub returns-in-Imaging-clause-bad : goal.returns-in-Imaging-clause-bad
returns-in-Imaging-clause-bad g c = λ file slot is t now member o flight by_area commits stands room. c.journal_image.ensures.bad file slot is
