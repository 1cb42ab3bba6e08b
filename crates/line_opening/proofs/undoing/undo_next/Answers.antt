use Rattle.std.proofs.Common.{rules, ◌≡◌, ◌+◌, ◌-◌, ◌≤◌, ◌<◌, ◌∙◌, ℕ, inl, inr, ⊎_elim, refl, subst, arith}
use Rattle.rdb_outside.specs.Disk.{Pending}
use Rattle.rdb_outside.specs.Runs.{no_calls, then_reads}
use Rattle.line_moves.specs.stable_lines.Slots.{area_file}
use Rattle.line_moves.proofs.Runs.{facts_read, still_tells, writes_none, reads_then_writes}
use Rattle.line_moves.proofs.PageClasses.{owners_stay, classes_read}
use Rattle.line_moves.proofs.OnlyPut.{keeps_lines, some_page}
use Rattle.line_moves.proofs.FilledPages.{some_there}
use Rattle.line_moves.specs.stable_lines.Facts.{StandsAs}
use Rattle.line_opening.specs.Undoing.{AreUndone}
use Rattle.line_opening.proofs.Backwards.{one_of_it, one_more_undone}
use Rattle.line_opening.proofs.Standing.{stands_now, written_stands, leaves_on, ended_on}
use Rattle.line_opening.proofs.undoing.undo_next.Goals as goal

pub loop-back-init : goal.loop-back-init
loop-back-init g c = record { size = c.requires; reads = no_calls (g.D.Disk.view c.args.disk.now); told = refl; no_fewer = omega arith; facts = λ t p o may same. may.facts; undone = λ t p o may same was. let all : c.args.entries ≡ c.args.entries - 0 = omega arith in subst (λ (n : ℕ). AreUndone (g.D.Disk.view c.args.disk.now).content o n) all was; ended = λ t p o key may same. inl refl; leaves = λ t p o may same. stands_now (g.D.Disk.view c.args.disk.now) p may.facts }

pub returns-in_err-undo_line-clause-keeps : goal.returns-in_err-undo_line-clause-keeps
returns-in_err-undo_line-clause-keeps g c = let v = g.D.Disk.view in let before = v c.args.disk.now in let mid = v c.loop-back.disk in let new = v c.undo_line.new.disk in
    let so_far = c.loop-back.invariant in let back = c.loop-back.back in let index = c.args.entries - back in
    let less : back < c.args.entries = search rules in
    λ t p o may same.
    c.undo_line.ensures.keeps (still_tells before mid so_far.told t) p o (one_of_it (Pending before) (Pending mid) p c.args.member o c.args.entries c.args.pages index may (so_far.facts t p o may same) (omega (arith, less)) (omega arith)) same

pub returns-in-Written-clause-keeps : goal.returns-in-Written-clause-keeps
returns-in-Written-clause-keeps g c = let v = g.D.Disk.view in let before = v c.args.disk.now in let mid = v c.loop-back.disk in let new = v c.undo_line.new.disk in
    let so_far = c.loop-back.invariant in let back = c.loop-back.back in let index = c.args.entries - back in
    let less : back < c.args.entries = search rules in
    λ t p o may same.
    c.undo_line.ensures.keeps (still_tells before mid so_far.told t) p o (one_of_it (Pending before) (Pending mid) p c.args.member o c.args.entries c.args.pages index may (so_far.facts t p o may same) (omega (arith, less)) (omega arith)) same

pub returns-in-Written-clause-undone : goal.returns-in-Written-clause-undone
returns-in-Written-clause-undone g c = let v = g.D.Disk.view in let before = v c.args.disk.now in let mid = v c.loop-back.disk in let new = v c.undo_line.new.disk in
    let so_far = c.loop-back.invariant in let back = c.loop-back.back in let index = c.args.entries - back in
    let less : back < c.args.entries = search rules in
    λ t p o may same was.
    let it = one_of_it (Pending before) (Pending mid) p c.args.member o c.args.entries c.args.pages index may (so_far.facts t p o may same) (omega (arith, less)) (omega arith) in
    let within = may.within in
    let u = some_there o.entries (index - 1) (omega (arith, less, within)) in
    let told = still_tells before mid so_far.told t in
    one_more_undone mid.content new.content o index u.0 (omega (arith, less)) u.1 (c.in_ok-undo_line.ensures.undone told p o u.0 it same u.1) (λ key off. c.in_ok-undo_line.ensures.others told p o u.0 key it same u.1 off) (so_far.undone t p o may same was)

pub loop-back-preserved : goal.loop-back-preserved
loop-back-preserved g c = let v = g.D.Disk.view in let before = v c.args.disk.now in let mid = v c.loop-back.disk in let new = v c.undo_line.new.disk in
    let so_far = c.loop-back.invariant in let back = c.loop-back.back in let index = c.args.entries - back in
    let less : back < c.args.entries = search rules in
    record {
      size = c.undo_line.ensures.size;
      reads = then_reads before mid new so_far.reads (c.undo_line.ensures.nothing (search rules));
      told = c.undo_line.ensures.writes.3.told ∙ so_far.told;
      no_fewer = let first = so_far.no_fewer in let then_no_fewer = c.undo_line.ensures.writes.3.no_fewer in omega (arith, first, then_no_fewer);
      facts = λ t p o may same.
          c.undo_line.ensures.keeps (still_tells before mid so_far.told t) p o (one_of_it (Pending before) (Pending mid) p c.args.member o c.args.entries c.args.pages index may (so_far.facts t p o may same) (omega (arith, less)) (omega arith)) same;
      undone = λ t p o may same was.
          let it = one_of_it (Pending before) (Pending mid) p c.args.member o c.args.entries c.args.pages index may (so_far.facts t p o may same) (omega (arith, less)) (omega arith) in
          let within = may.within in
          let u = some_there o.entries (index - 1) (omega (arith, less, within)) in
          let told = still_tells before mid so_far.told t in
          let next : index - 1 ≡ c.args.entries - (back + 1) = omega arith in
          subst (λ (n : ℕ). AreUndone new.content o n) next
          (one_more_undone mid.content new.content o index u.0 (omega (arith, less)) u.1 (c.in_ok-undo_line.ensures.undone told p o u.0 it same u.1) (λ key off. c.in_ok-undo_line.ensures.others told p o u.0 key it same u.1 off) (so_far.undone t p o may same was));
      ended = λ t p o key may same.
          let it = one_of_it (Pending before) (Pending mid) p c.args.member o c.args.entries c.args.pages index may (so_far.facts t p o may same) (omega (arith, less)) (omega arith) in
          ended_on p before.content mid.content new.content key (so_far.ended t p o key may same) (c.in_ok-undo_line.ensures.ended (still_tells before mid so_far.told t) p o key it same);
      leaves = λ t p o may same.
          let it = one_of_it (Pending before) (Pending mid) p c.args.member o c.args.entries c.args.pages index may (so_far.facts t p o may same) (omega (arith, less)) (omega arith) in
          let told = still_tells before mid so_far.told t in
          leaves_on before mid new (StandsAs p) (so_far.leaves t p o may same)
          (written_stands mid new (area_file c.undo_line.ensures.writes.0) c.undo_line.ensures.writes.1 p c.undo_line.ensures.writes.3 told (so_far.facts t p o may same) (c.undo_line.ensures.keeps told p o it same));
    }

pub returns-clause-keeps : goal.returns-clause-keeps
returns-clause-keeps g c = λ t p o may same. c.loop-back.invariant.facts t p o may same

pub returns-clause-undone : goal.returns-clause-undone
returns-clause-undone g c = let v = g.D.Disk.view in λ t p o may same was.
    let past : c.args.entries ≤ c.loop-back.back = search rules in
    let none : c.args.entries - c.loop-back.back ≡ 0 = omega (arith, past) in
    subst (λ (n : ℕ). AreUndone (v c.loop-back.disk).content o n) none (c.loop-back.invariant.undone t p o may same was)

pub returns-in_err-undo_line-clause-stands : goal.returns-in_err-undo_line-clause-stands
returns-in_err-undo_line-clause-stands g c = let v = g.D.Disk.view in let before = v c.args.disk.now in let mid = v c.loop-back.disk in let new = v c.undo_line.new.disk in
    let so_far = c.loop-back.invariant in let back = c.loop-back.back in let index = c.args.entries - back in
    let less : back < c.args.entries = search rules in
    λ t p o may same.
    let it = one_of_it (Pending before) (Pending mid) p c.args.member o c.args.entries c.args.pages index may (so_far.facts t p o may same) (omega (arith, less)) (omega arith) in
    let told = still_tells before mid so_far.told t in
    leaves_on before mid new (StandsAs p) (so_far.leaves t p o may same)
    (written_stands mid new (area_file c.undo_line.ensures.writes.0) c.undo_line.ensures.writes.1 p c.undo_line.ensures.writes.3 told (so_far.facts t p o may same) (c.undo_line.ensures.keeps told p o it same))

pub returns-in-Written-clause-stands : goal.returns-in-Written-clause-stands
returns-in-Written-clause-stands g c = let v = g.D.Disk.view in let before = v c.args.disk.now in let mid = v c.loop-back.disk in let new = v c.undo_line.new.disk in
    let so_far = c.loop-back.invariant in let back = c.loop-back.back in let index = c.args.entries - back in
    let less : back < c.args.entries = search rules in
    λ t p o may same.
    let it = one_of_it (Pending before) (Pending mid) p c.args.member o c.args.entries c.args.pages index may (so_far.facts t p o may same) (omega (arith, less)) (omega arith) in
    let told = still_tells before mid so_far.told t in
    leaves_on before mid new (StandsAs p) (so_far.leaves t p o may same)
    (written_stands mid new (area_file c.undo_line.ensures.writes.0) c.undo_line.ensures.writes.1 p c.undo_line.ensures.writes.3 told (so_far.facts t p o may same) (c.undo_line.ensures.keeps told p o it same))

pub returns-in_err-undo_line-clause-bad : goal.returns-in_err-undo_line-clause-bad
returns-in_err-undo_line-clause-bad g c = let v = g.D.Disk.view in let before = v c.args.disk.now in let mid = v c.loop-back.disk in let new = v c.undo_line.new.disk in
    let so_far = c.loop-back.invariant in let back = c.loop-back.back in let index = c.args.entries - back in
    let less : back < c.args.entries = search rules in
    λ file slot is t p o may same.
    let it = one_of_it (Pending before) (Pending mid) p c.args.member o c.args.entries c.args.pages index may (so_far.facts t p o may same) (omega (arith, less)) (omega arith) in
    let told = still_tells before mid so_far.told t in
    c.undo_line.ensures.bad file slot (search rules) told p o it same

pub returns-in-Written-clause-ended : goal.returns-in-Written-clause-ended
returns-in-Written-clause-ended g c = let v = g.D.Disk.view in let before = v c.args.disk.now in let mid = v c.loop-back.disk in let new = v c.undo_line.new.disk in
    let so_far = c.loop-back.invariant in let back = c.loop-back.back in let index = c.args.entries - back in
    let less : back < c.args.entries = search rules in
    λ t p o key may same.
    let it = one_of_it (Pending before) (Pending mid) p c.args.member o c.args.entries c.args.pages index may (so_far.facts t p o may same) (omega (arith, less)) (omega arith) in
    let told = still_tells before mid so_far.told t in
    ended_on p before.content mid.content new.content key (so_far.ended t p o key may same) (c.in_ok-undo_line.ensures.ended told p o key it same)

pub returns-clause-stands : goal.returns-clause-stands
returns-clause-stands g c = λ t p o may same. c.loop-back.invariant.leaves t p o may same

pub returns-clause-ended : goal.returns-clause-ended
returns-clause-ended g c = λ t p o key may same. c.loop-back.invariant.ended t p o key may same

pub returns-in_err-undo_line-clause-told : goal.returns-in_err-undo_line-clause-told
returns-in_err-undo_line-clause-told g c = c.undo_line.ensures.writes.3.told ∙ c.loop-back.invariant.told

pub returns-in_err-undo_line-clause-no_fewer : goal.returns-in_err-undo_line-clause-no_fewer
returns-in_err-undo_line-clause-no_fewer g c = let first = c.loop-back.invariant.no_fewer in let then_no_fewer = c.undo_line.ensures.writes.3.no_fewer in omega (arith, first, then_no_fewer)

pub returns-in-Written-clause-told : goal.returns-in-Written-clause-told
returns-in-Written-clause-told g c = c.undo_line.ensures.writes.3.told ∙ c.loop-back.invariant.told

pub returns-in-Written-clause-no_fewer : goal.returns-in-Written-clause-no_fewer
returns-in-Written-clause-no_fewer g c = let first = c.loop-back.invariant.no_fewer in let then_no_fewer = c.undo_line.ensures.writes.3.no_fewer in omega (arith, first, then_no_fewer)

pub returns-in_err-undo_line-clause-writes : goal.returns-in_err-undo_line-clause-writes
returns-in_err-undo_line-clause-writes g c = let v = g.D.Disk.view in let w = c.undo_line.ensures.writes in
    (w.0, w.1, w.2, reads_then_writes (v c.args.disk.now) (v c.loop-back.disk) (v c.undo_line.new.disk) (area_file w.0) w.1 c.loop-back.invariant.reads w.3)

pub returns-in_err-undo_line-clause-restores : goal.returns-in_err-undo_line-clause-restores
returns-in_err-undo_line-clause-restores g c = let v = g.D.Disk.view in let before = v c.args.disk.now in let mid = v c.loop-back.disk in let new = v c.undo_line.new.disk in
    let so_far = c.loop-back.invariant in let back = c.loop-back.back in let index = c.args.entries - back in
    let less : back < c.args.entries = search rules in
    λ t p o may same key.
    let it = one_of_it (Pending before) (Pending mid) p c.args.member o c.args.entries c.args.pages index may (so_far.facts t p o may same) (omega (arith, less)) (omega arith) in
    let within = may.within in
    let u = some_there o.entries (index - 1) (omega (arith, less, within)) in
    ⊎_elim (λ as_was. inl (as_was ∙ keeps_lines before.content mid.content (so_far.reads.keeps t).content key))
    (λ here. inr (record { index = index - 1; undo = u.0; is = u.1; key_is = here.0; line_is = here.1 }))
    (c.undo_line.ensures.restores (still_tells before mid so_far.told t) p o u.0 it same u.1 key)

pub returns-in-Written-clause-writes : goal.returns-in-Written-clause-writes
returns-in-Written-clause-writes g c = let v = g.D.Disk.view in let w = c.undo_line.ensures.writes in
    (w.0, w.1, w.2, reads_then_writes (v c.args.disk.now) (v c.loop-back.disk) (v c.undo_line.new.disk) (area_file w.0) w.1 c.loop-back.invariant.reads w.3)

pub returns-in-Written-clause-restores : goal.returns-in-Written-clause-restores
returns-in-Written-clause-restores g c = let v = g.D.Disk.view in let before = v c.args.disk.now in let mid = v c.loop-back.disk in let new = v c.undo_line.new.disk in
    let so_far = c.loop-back.invariant in let back = c.loop-back.back in let index = c.args.entries - back in
    let less : back < c.args.entries = search rules in
    λ t p o may same key.
    let it = one_of_it (Pending before) (Pending mid) p c.args.member o c.args.entries c.args.pages index may (so_far.facts t p o may same) (omega (arith, less)) (omega arith) in
    let within = may.within in
    let u = some_there o.entries (index - 1) (omega (arith, less, within)) in
    ⊎_elim (λ as_was. inl (as_was ∙ keeps_lines before.content mid.content (so_far.reads.keeps t).content key))
    (λ here. inr (record { index = index - 1; undo = u.0; is = u.1; key_is = here.0; line_is = here.1 }))
    (c.undo_line.ensures.restores (still_tells before mid so_far.told t) p o u.0 it same u.1 key)

pub returns-clause-writes : goal.returns-clause-writes
returns-clause-writes g c = let v = g.D.Disk.view in (1, 1, some_page, writes_none (area_file 1) 1 (v c.args.disk.now) (v c.loop-back.disk) c.loop-back.invariant.reads)

pub returns-clause-restores : goal.returns-clause-restores
returns-clause-restores g c = let v = g.D.Disk.view in
    λ t p o may same key. inl (keeps_lines (v c.args.disk.now).content (v c.loop-back.disk).content (c.loop-back.invariant.reads.keeps t).content key)

pub returns-in_err-undo_line-clause-classes : goal.returns-in_err-undo_line-clause-classes
returns-in_err-undo_line-clause-classes g c = let v = g.D.Disk.view in let before = v c.args.disk.now in let mid = v c.loop-back.disk in
    let so_far = c.loop-back.invariant in
    λ t now was classes had. c.undo_line.ensures.classes (still_tells before mid so_far.told t) now (facts_read before mid so_far.reads t now was) classes (classes_read classes before mid so_far.reads t had)

pub returns-in-Written-clause-classes : goal.returns-in-Written-clause-classes
returns-in-Written-clause-classes g c = let v = g.D.Disk.view in let before = v c.args.disk.now in let mid = v c.loop-back.disk in
    let so_far = c.loop-back.invariant in
    λ t now was classes had. c.undo_line.ensures.classes (still_tells before mid so_far.told t) now (facts_read before mid so_far.reads t now was) classes (classes_read classes before mid so_far.reads t had)

pub returns-clause-classes : goal.returns-clause-classes
returns-clause-classes g c = let v = g.D.Disk.view in
    λ t now was classes had. classes_read classes (v c.args.disk.now) (v c.loop-back.disk) c.loop-back.invariant.reads t had

pub returns-in_err-undo_line-clause-owners : goal.returns-in_err-undo_line-clause-owners
returns-in_err-undo_line-clause-owners g c = let v = g.D.Disk.view in let before = v c.args.disk.now in let mid = v c.loop-back.disk in
    let so_far = c.loop-back.invariant in
    λ t now was there area is_file is_data may. c.undo_line.ensures.owners (still_tells before mid so_far.told t) now (facts_read before mid so_far.reads t now was) there area is_file is_data (owners_stay before mid (so_far.reads.keeps t).pending there area may)

pub returns-in-Written-clause-owners : goal.returns-in-Written-clause-owners
returns-in-Written-clause-owners g c = let v = g.D.Disk.view in let before = v c.args.disk.now in let mid = v c.loop-back.disk in
    let so_far = c.loop-back.invariant in
    λ t now was there area is_file is_data may. c.undo_line.ensures.owners (still_tells before mid so_far.told t) now (facts_read before mid so_far.reads t now was) there area is_file is_data (owners_stay before mid (so_far.reads.keeps t).pending there area may)

pub returns-clause-owners : goal.returns-clause-owners
returns-clause-owners g c = let v = g.D.Disk.view in
    λ t now was there area is_file is_data. owners_stay (v c.args.disk.now) (v c.loop-back.disk) (c.loop-back.invariant.reads.keeps t).pending there area
