use Rattle.std.proofs.Common.{rules, ◌≡◌, ◌++◌, ℕ, true, false, List, map, Err, Result, refl, sym, subst}
use Rattle.std.proofs.lemmas.Iterator.Consumers.{YieldsList-end, YieldsList-from_rest}
use Rattle.std.proofs.lemmas.Result.{err_from_is_err_and}
use Rattle.rdb_outside.specs.Runs.{then_reads}
use Rattle.line_opening.specs.declared.fault.OpeningFault.{OpeningFault}
use Rattle.line_view.specs.Knowledge.{Lines, lines_in, keys_of}
use Rattle.verified_lines.specs.Relations.{is_stray}
use Rattle.page_faults.specs.Checks.{page_at}
use Rattle.areas_at_rest.specs.lines_at_rest.declared.reading.FaultyPages.{FaultyPages}
use Rattle.areas_at_rest.specs.lines_at_rest.Left.{LeavesOut, IsReadAs}
use Rattle.areas_at_rest.specs.Runs.{IsQuiet}
use Rattle.std.proofs.lemmas.List.{append-nil}
use Rattle.areas_at_rest.proofs.Quiet.{then as behind_reads, stopped, at_rest}
use Rattle.rmu_verify.specs.Owners.{HasOwners}
use Rattle.rmu_verify.proofs.Covering.{covers}
use Rattle.rmu_verify.proofs.Owning.{owner_in_file}
use Rattle.rmu_verify.proofs.StrayLines.{StraysOf, strays_step, mapped_more}
use Rattle.rmu_verify.proofs.strays.verify_strays.Goals as goal

pub loop-area-preserved-in-Continue-branch-2 : goal.loop-area-preserved-in-Continue-branch-2
loop-area-preserved-in-Continue-branch-2 g c =
    let v = g.D.Disk.view in
    let before = v c.args.disk.now in
    let mid = v c.loop-area.disk in
    let was = c.loop-area.invariant in
    let area = c.in-Some.area.now in
    let tables = c.args.tables.now in
    let stray : is_stray tables area ≡ true = first_of (cc, search rules) in
    record {
      reads = then_reads before mid (v c.add_area.new.disk) was.reads c.add_area.ensures.quiet.reads;
      found = λ t left so groups lines lays stands.
          subst (λ (l : List ℕ). StraysOf lines tables l c.args.keys.now c.add_area.new.keys) (sym (mapped_more (λ r. r.now) c.loop-area.yielded c.in-Some.area))
          (strays_step lines tables (map (λ r. r.now) c.loop-area.yielded) area c.args.keys.now c.loop-area.keys c.add_area.new.keys (was.found t left so groups lines lays stands)
          (λ is owner. at_rest before mid c.args.held.now (λ (all : Lines). c.add_area.new.keys ≡ c.loop-area.keys ++ keys_of (lines_in area all)) was.reads (c.in_ok-add_area.ensures.found 2 owner) t left so groups lines lays stands)
          (λ no. let bad : ⊥ = cc in absurd bad));
    }

pub loop-area-preserved : goal.loop-area-preserved
loop-area-preserved g c =
    let was = c.loop-area.invariant in
    let area = c.in-Some.area.now in
    let tables = c.args.tables.now in
    let stray : is_stray tables area ≡ false = first_of (cc, search rules) in
    record {
      reads = was.reads;
      found = λ t left so groups lines lays stands.
          subst (λ (l : List ℕ). StraysOf lines tables l c.args.keys.now c.loop-area.keys) (sym (mapped_more (λ r. r.now) c.loop-area.yielded c.in-Some.area))
          (strays_step lines tables (map (λ r. r.now) c.loop-area.yielded) area c.args.keys.now c.loop-area.keys c.loop-area.keys (was.found t left so groups lines lays stands)
          (λ is owner. let bad : ⊥ = cc in absurd bad) (λ no. refl));
    }

pub returns-in_err-add_area-clause-quiet : goal.returns-in_err-add_area-clause-quiet
returns-in_err-add_area-clause-quiet g c =
    let v = g.D.Disk.view in
    let p = err_from_is_err_and c.from_residual-in_err-add_area.result c.from_residual-in_err-add_area.ensures.1 in
    rw (p.1, p.2) (behind_reads (v c.args.disk.now) (v c.loop-area.disk) (v c.add_area.new.disk) (Err c.in_err-add_area.field-0.0) c.loop-area.invariant.reads
    (subst (λ (r : Result Unit OpeningFault). IsQuiet c.args.held.now.faulty (v c.loop-area.disk) (v c.add_area.new.disk) r) c.in_err-add_area.was c.add_area.ensures.quiet))

pub returns-clause-found : goal.returns-clause-found
returns-clause-found g c = λ t left so groups lines lays stands.
    let all : map (λ r. r.now) c.loop-area.yielded ≡ c.in_ok-owners.owners.keys =
    (YieldsList-end (YieldsList-from_rest {shows = λ r. r.now} c.in_ok-owners.owners.keys c.into_iter-area-iterator.ensures.into_iter_gives.0) c.loop-area.yielded _ c.loop-area.yielded_by _ _ c.in-None.is c.next.ensures.steps).0 in
    let before = g.D.Disk.view c.args.disk.now in
    let owners = c.in_ok-owners.owners.keys in
    let has : HasOwners before.content 2 65536 owners = c.in_ok-owners.ensures.owners t in
    let leaves : LeavesOut before.content left = subst (λ (f : FaultyPages). IsReadAs f before.content left) c.requires so in
    let added = subst (λ (l : List ℕ). StraysOf lines c.args.tables.now l c.args.keys.now c.loop-area.keys) all (c.loop-area.invariant.found t left so groups lines lays stands) in
    (owners, covers before.content left groups lines leaves stands owners has, added (λ area there. let from = has.only area there in owner_in_file 2 from.page (page_at before.content 2 from.page) area from.on))

pub returns-in_err-owners-clause-quiet : goal.returns-in_err-owners-clause-quiet
returns-in_err-owners-clause-quiet g c =
    let v = g.D.Disk.view in
    let p = err_from_is_err_and c.from_residual.result c.from_residual.ensures.1 in
    rw (p.1, p.2) (stopped (v c.args.disk.now) (v c.owners_of.new.disk) c.in_err-owners.field-0.0 (c.in_err-owners.ensures.quiet c.args.held.now.faulty))

pub loop-area-init : goal.loop-area-init
loop-area-init g c = record { reads = (c.owners_of.ensures.quiet c.args.held.now.faulty).reads; found = λ t left so groups lines lays stands owners. sym (append-nil c.args.keys.now) }
