use Rattle.std.proofs.Common.{rules, ◌≡◌, ◌≢◌, ◌≤◌, ◌<◌, ◌∙◌, ℕ, List, refl, sym, subst, arith}
use Rattle.rdb_outside.specs.Disk.{LeavesOnly}
use Rattle.backup_making.specs.Making.{file_of}
use Rattle.rdb_page.specs.Lines.{IsLine}
use Rattle.rdb_page.specs.Page.{StandsAs, lines_of}
use Rattle.line_moves.proofs.Reading.{class_is}
use Rattle.line_moves.proofs.Runs.{still_tells}
use Rattle.line_moves.proofs.Spots.{no_line}
use Rattle.line_opening.proofs.Standing.{leaves_on}
use Rattle.database_opening.proofs.Others.{file_unused, file_on}
use Rattle.copied_lines.specs.Holding.{from_line}
use Rattle.copied_lines.specs.Copying.{page_named, IsLineAt, Copying, IsStopped}
use Rattle.copied_lines.proofs.Growing.{grown_none, grown_on, same_number}
use Rattle.copied_lines.proofs.Passing.{page_passes}
use Rattle.copied_lines.proofs.Runs.{stopped_still}
use Rattle.copied_lines.proofs.copying.copy_lines.Goals as goal

pub loop-line-init : goal.loop-line-init
loop-line-init g c = let old = g.D.Disk.view c.args.disk.now in
    record {
      told = refl;
      no_fewer = omega arith;
      grown = grown_none c.args.backup.now 0;
      copied = λ t former image now left there behind was. was;
      stopped = λ t former image now left there behind was. stopped_still former image now (from_line left (page_named c.args.head) 0) old c.args.backup.now c.requires.is_open was;
      others = λ t file apart. file_unused old t file;
    }

pub returns-in_default-clause-bad : goal.returns-in_default-clause-bad
returns-in_default-clause-bad g c =
    let less : c.loop-line.line < lines_of c.args.head.class = subst (λ (n : ℕ). c.loop-line.line < n) c.lines_of-line-end.ensures c.loop-line-test.true in
    λ f slot is page. no_line c.args.page.now c.args.file c.args.head.page c.args.head c.loop-line.line c.requires.stands less (λ value read. c.in_default.ensures.none value read) page

pub returns-in_err-copy_line-clause-stopped : goal.returns-in_err-copy_line-clause-stopped
returns-in_err-copy_line-clause-stopped g c = let v = g.D.Disk.view in let old = v c.args.disk.now in let mid = v c.loop-line.disk in let new = v c.copy_line.new.disk in let so_far = c.loop-line.invariant in
    λ t former image now left there behind was.
    let same = same_number c.args.backup.now c.loop-line.backup c.loop-line.line so_far.grown in
    let more : LeavesOnly mid new (IsStopped now c.args.backup.now.number) = subst (λ (n : ℕ). LeavesOnly mid new (IsStopped now n)) same
    (c.copy_line.ensures.stopped (still_tells old mid so_far.told t) former image now (from_line left (page_named c.args.head) c.loop-line.line) (so_far.copied t former image now left there behind was)) in
    leaves_on old mid new (IsStopped now c.args.backup.now.number) (so_far.stopped t former image now left there behind was) more

pub loop-line-preserved : goal.loop-line-preserved
loop-line-preserved g c = let v = g.D.Disk.view in let old = v c.args.disk.now in let mid = v c.loop-line.disk in let new = v c.copy_line.new.disk in let so_far = c.loop-line.invariant in let page = c.args.page.now in let head = c.args.head in
    let less : c.loop-line.line < lines_of head.class = subst (λ (n : ℕ). c.loop-line.line < n) c.lines_of-line-end.ensures c.loop-line-test.true in
    let line : IsLine page head.class c.loop-line.line c.in-Ok.stood = subst (λ (k : ℕ). IsLine page k c.loop-line.line c.in-Ok.stood) (class_is page head c.requires.stands.head) c.in-Ok.ensures.found in
    record {
      told = c.copy_line.ensures.told ∙ so_far.told;
      no_fewer = let first = so_far.no_fewer in let more = c.copy_line.ensures.no_fewer in omega (arith, first, more);
      grown = grown_on c.args.backup.now c.loop-line.backup c.copy_line.new.backup c.loop-line.line 1 so_far.grown c.in_ok-copy_line.ensures.grown;
      copied = λ t former image now left there behind was.
          let at : IsLineAt image c.args.file head c.loop-line.line c.in-Ok.stood = record {
            stands = subst (λ (bytes : List ℕ). StandsAs bytes c.args.file head.page head) there c.requires.stands;
            is_data = c.requires.data;
            within = less;
            is = subst (λ (bytes : List ℕ). IsLine bytes head.class c.loop-line.line c.in-Ok.stood) there line;
          } in
          c.in_ok-copy_line.ensures.copied (still_tells old mid so_far.told t) former image now left c.args.file at behind (so_far.copied t former image now left there behind was);
      stopped = λ t former image now left there behind was.
          let same = same_number c.args.backup.now c.loop-line.backup c.loop-line.line so_far.grown in
          let more : LeavesOnly mid new (IsStopped now c.args.backup.now.number) = subst (λ (n : ℕ). LeavesOnly mid new (IsStopped now n)) same
          (c.copy_line.ensures.stopped (still_tells old mid so_far.told t) former image now (from_line left (page_named head) c.loop-line.line) (so_far.copied t former image now left there behind was)) in
          leaves_on old mid new (IsStopped now c.args.backup.now.number) (so_far.stopped t former image now left there behind was) more;
      others = λ t file apart. file_on old mid new file (so_far.others t file apart)
          (c.copy_line.ensures.others (still_tells old mid so_far.told t) file (subst (λ (n : ℕ). file ≢ file_of n) (sym (same_number c.args.backup.now c.loop-line.backup c.loop-line.line so_far.grown)) apart));
    }

pub returns-clause-copied : goal.returns-clause-copied
returns-clause-copied g c = let new = g.D.Disk.view c.loop-line.disk in let head = c.args.head in
    let last : c.loop-line.line ≤ c.lines_of-line-end.result = search rules in
    let past : c.lines_of-line-end.result ≤ c.loop-line.line = search rules in
    let at : c.loop-line.line ≡ c.lines_of-line-end.result = omega (arith, last, past) in
    λ t former image now left there behind was.
    page_passes former image now left (page_named head) c.args.file c.requires.stands.owner new c.loop-line.backup head (subst (λ (bytes : List ℕ). StandsAs bytes c.args.file head.page head) there c.requires.stands).head
    (subst (λ (n : ℕ). Copying former image now (from_line left (page_named head) n) new c.loop-line.backup) (at ∙ c.lines_of-line-end.ensures) (c.loop-line.invariant.copied t former image now left there behind was))

pub returns-in_err-copy_line-clause-others : goal.returns-in_err-copy_line-clause-others
returns-in_err-copy_line-clause-others g c = let v = g.D.Disk.view in let old = v c.args.disk.now in let mid = v c.loop-line.disk in let so_far = c.loop-line.invariant in
    λ t file apart. file_on old mid (v c.copy_line.new.disk) file (so_far.others t file apart)
    (c.copy_line.ensures.others (still_tells old mid so_far.told t) file (subst (λ (n : ℕ). file ≢ file_of n) (sym (same_number c.args.backup.now c.loop-line.backup c.loop-line.line so_far.grown)) apart))
