use Rattle.std.specs.Prelude.{is_ok}
use Rattle.std.proofs.Common.{◌≡◌, ◌≢◌, ◌≤◌, ◌<◌, ◌+◌, ◌^◌, ◌∙◌, ℕ, [], None, sym, ap, subst, arith}
use Rattle.backup_making.specs.declared.making.Backup.{Backup}
use Rattle.backup_making.specs.declared.making.Stage.TheVariants.{Begun, Blanked, Ended}
use Rattle.backup_making.specs.Making.{file_of, advanced}
use Rattle.line_moves.proofs.Runs.{still_tells}
use Rattle.line_opening.proofs.Standing.{leaves_on}
use Rattle.database_opening.proofs.Others.{file_on}
use Rattle.copied_lines.proofs.Others.{file_step}
use Rattle.copied_lines.proofs.Runs.{facts_step, same_step}
use Rattle.whole_backup.specs.Making.{IsBeginning}
use Rattle.whole_backup.proofs.Advances.{IsAdvance, begun_number, begins_at, first_begins, blanked_number, second_begins}
use Rattle.whole_backup.proofs.steps.begin_backup.Goals as goal

pub advance-requires : goal.advance-requires
advance-requires g c = let fresh = c.start-backup.ensures in
    record {
      goes_on = subst (λ (b : Backup). b.stage ≢ Ended) (sym fresh) (λ (bad : Begun ≡ Ended). cc);
      last_group = subst (λ (b : Backup). b.last_group ≤ 2 ^ 62) (sym fresh) c.requires;
      room = subst (λ (b : Backup). b.lines + 1 < 2 ^ 32) (sym fresh) (omega arith);
    }

pub advance-requires-2 : goal.advance-requires-2
advance-requires-2 g c =
    let next : Backup → Backup = λ b. advanced b None in
    let is = c.in_ok-advance.ensures.moved ∙ ap next c.start-backup.ensures in
    record {
      goes_on = subst (λ (b : Backup). b.stage ≢ Ended) (sym is) (λ (bad : Blanked ≡ Ended). cc);
      last_group = subst (λ (b : Backup). b.last_group ≤ 2 ^ 62) (sym is) c.requires;
      room = subst (λ (b : Backup). b.lines + 1 < 2 ^ 32) (sym is) (omega arith);
    }

pub returns-clause-opened : goal.returns-clause-opened
returns-clause-opened g c =
    let next : Backup → Backup = λ b. advanced b None in
    c.in_ok-advance-2.ensures.moved ∙ ap next c.in_ok-advance.ensures.moved ∙ ap (λ (b : Backup). next (next b)) c.start-backup.ensures

pub returns-clause-begun : goal.returns-clause-begun
returns-clause-begun g c = let v = g.D.Disk.view in let old = v c.args.disk.now in let mid = v c.advance.new.disk in let first = c.start-backup.result in
    λ t former might.
    let begins = begins_at c.args.number c.args.limits c.args.last_group first c.start-backup.ensures former old might in
    c.in_ok-advance-2.ensures.done (still_tells old mid c.advance.ensures.steps.told t) former [] (c.in_ok-advance.ensures.done t former [] begins)

pub returns-in_err-advance-clause-told : goal.returns-in_err-advance-clause-told
returns-in_err-advance-clause-told g c = c.advance.ensures.steps.told

pub returns-in_err-advance-clause-no_fewer : goal.returns-in_err-advance-clause-no_fewer
returns-in_err-advance-clause-no_fewer g c = c.advance.ensures.steps.no_fewer

pub returns-in_err-advance-clause-keeps : goal.returns-in_err-advance-clause-keeps
returns-in_err-advance-clause-keeps g c = let v = g.D.Disk.view in let old = v c.args.disk.now in let mid = v c.advance.new.disk in let first = c.start-backup.result in
    λ t now facts. facts_step first.number old mid (is_ok c.advance.result) c.advance.ensures.steps t now facts

pub returns-in_err-advance-clause-same : goal.returns-in_err-advance-clause-same
returns-in_err-advance-clause-same g c = let v = g.D.Disk.view in let old = v c.args.disk.now in let mid = v c.advance.new.disk in let first = c.start-backup.result in
    λ t image same. same_step first.number old mid (is_ok c.advance.result) c.advance.ensures.steps t image same

pub returns-in_err-advance-clause-beginning : goal.returns-in_err-advance-clause-beginning
returns-in_err-advance-clause-beginning g c = let v = g.D.Disk.view in let old = v c.args.disk.now in let mid = v c.advance.new.disk in let first = c.start-backup.result in
    λ t now former facts might.
    let moves : IsAdvance old mid first c.advance.new.backup c.advance.result = record { steps = c.advance.ensures.steps; moved = c.advance.ensures.moved; done = c.advance.ensures.done; not_done = c.advance.ensures.not_done } in
    first_begins c.args.number c.args.limits c.args.last_group first c.start-backup.ensures former now old mid c.advance.new.backup c.advance.result moves t facts might

pub returns-in_err-advance-clause-others : goal.returns-in_err-advance-clause-others
returns-in_err-advance-clause-others g c = let v = g.D.Disk.view in let old = v c.args.disk.now in let mid = v c.advance.new.disk in let first = c.start-backup.result in
    λ t file apart. file_step first.number old mid (is_ok c.advance.result) c.advance.ensures.steps t file
    (subst (λ (n : ℕ). file ≢ file_of n) (sym (begun_number c.args.number c.args.limits c.args.last_group first c.start-backup.ensures)) apart)

pub returns-in_err-advance-2-clause-told : goal.returns-in_err-advance-2-clause-told
returns-in_err-advance-2-clause-told g c = c.advance-2.ensures.steps.told ∙ c.advance.ensures.steps.told

pub returns-in_err-advance-2-clause-no_fewer : goal.returns-in_err-advance-2-clause-no_fewer
returns-in_err-advance-2-clause-no_fewer g c = let more = c.advance.ensures.steps.no_fewer in let then_more = c.advance-2.ensures.steps.no_fewer in omega (arith, more, then_more)

pub returns-in_err-advance-2-clause-keeps : goal.returns-in_err-advance-2-clause-keeps
returns-in_err-advance-2-clause-keeps g c = let v = g.D.Disk.view in let old = v c.args.disk.now in let mid = v c.advance.new.disk in let first = c.start-backup.result in let second = c.advance.new.backup in let new = v c.advance-2.new.disk in
    λ t now facts. facts_step second.number mid new (is_ok c.advance-2.result) c.advance-2.ensures.steps (still_tells old mid c.advance.ensures.steps.told t) now
    (facts_step first.number old mid (is_ok c.advance.result) c.advance.ensures.steps t now facts)

pub returns-in_err-advance-2-clause-same : goal.returns-in_err-advance-2-clause-same
returns-in_err-advance-2-clause-same g c = let v = g.D.Disk.view in let old = v c.args.disk.now in let mid = v c.advance.new.disk in let first = c.start-backup.result in let second = c.advance.new.backup in let new = v c.advance-2.new.disk in
    λ t image same. same_step second.number mid new (is_ok c.advance-2.result) c.advance-2.ensures.steps (still_tells old mid c.advance.ensures.steps.told t) image
    (same_step first.number old mid (is_ok c.advance.result) c.advance.ensures.steps t image same)

pub returns-in_err-advance-2-clause-beginning : goal.returns-in_err-advance-2-clause-beginning
returns-in_err-advance-2-clause-beginning g c = let v = g.D.Disk.view in let old = v c.args.disk.now in let mid = v c.advance.new.disk in let first = c.start-backup.result in let second = c.advance.new.backup in let new = v c.advance-2.new.disk in
    λ t now former facts might.
    let number = c.args.number in let limits = c.args.limits in let last = c.args.last_group in
    let told = still_tells old mid c.advance.ensures.steps.told t in
    let moves : IsAdvance old mid first second c.advance.result = record { steps = c.advance.ensures.steps; moved = c.advance.ensures.moved; done = c.advance.ensures.done; not_done = c.advance.ensures.not_done } in
    let moves_on : IsAdvance mid new second c.advance-2.new.backup c.advance-2.result = record { steps = c.advance-2.ensures.steps; moved = c.advance-2.ensures.moved; done = c.advance-2.ensures.done; not_done = c.advance-2.ensures.not_done } in
    leaves_on old mid new (IsBeginning now former number)
    (first_begins number limits last first c.start-backup.ensures former now old mid second c.advance.result moves t facts might)
    (second_begins number limits last first c.start-backup.ensures second c.in_ok-advance.ensures.moved former now mid new c.advance-2.new.backup c.advance-2.result moves_on told
    (facts_step first.number old mid (is_ok c.advance.result) c.advance.ensures.steps t now facts)
    (c.in_ok-advance.ensures.done t former [] (begins_at number limits last first c.start-backup.ensures former old might)))

pub returns-in_err-advance-2-clause-others : goal.returns-in_err-advance-2-clause-others
returns-in_err-advance-2-clause-others g c = let v = g.D.Disk.view in let old = v c.args.disk.now in let mid = v c.advance.new.disk in let first = c.start-backup.result in let second = c.advance.new.backup in let new = v c.advance-2.new.disk in
    λ t file apart.
    let number = c.args.number in let limits = c.args.limits in let last = c.args.last_group in
    file_on old mid new file
    (file_step first.number old mid (is_ok c.advance.result) c.advance.ensures.steps t file (subst (λ (n : ℕ). file ≢ file_of n) (sym (begun_number number limits last first c.start-backup.ensures)) apart))
    (file_step second.number mid new (is_ok c.advance-2.result) c.advance-2.ensures.steps (still_tells old mid c.advance.ensures.steps.told t) file
    (subst (λ (n : ℕ). file ≢ file_of n) (sym (blanked_number number limits last first c.start-backup.ensures second c.in_ok-advance.ensures.moved)) apart))

pub returns-clause-told : goal.returns-clause-told
returns-clause-told g c = c.advance-2.ensures.steps.told ∙ c.advance.ensures.steps.told

pub returns-clause-no_fewer : goal.returns-clause-no_fewer
returns-clause-no_fewer g c = let more = c.advance.ensures.steps.no_fewer in let then_more = c.advance-2.ensures.steps.no_fewer in omega (arith, more, then_more)

pub returns-clause-keeps : goal.returns-clause-keeps
returns-clause-keeps g c = let v = g.D.Disk.view in let old = v c.args.disk.now in let mid = v c.advance.new.disk in let first = c.start-backup.result in let second = c.advance.new.backup in let new = v c.advance-2.new.disk in
    λ t now facts. facts_step second.number mid new (is_ok c.advance-2.result) c.advance-2.ensures.steps (still_tells old mid c.advance.ensures.steps.told t) now
    (facts_step first.number old mid (is_ok c.advance.result) c.advance.ensures.steps t now facts)

pub returns-clause-same : goal.returns-clause-same
returns-clause-same g c = let v = g.D.Disk.view in let old = v c.args.disk.now in let mid = v c.advance.new.disk in let first = c.start-backup.result in let second = c.advance.new.backup in let new = v c.advance-2.new.disk in
    λ t image same. same_step second.number mid new (is_ok c.advance-2.result) c.advance-2.ensures.steps (still_tells old mid c.advance.ensures.steps.told t) image
    (same_step first.number old mid (is_ok c.advance.result) c.advance.ensures.steps t image same)

pub returns-clause-beginning : goal.returns-clause-beginning
returns-clause-beginning g c = let v = g.D.Disk.view in let old = v c.args.disk.now in let mid = v c.advance.new.disk in let first = c.start-backup.result in let second = c.advance.new.backup in let new = v c.advance-2.new.disk in
    λ t now former facts might.
    let number = c.args.number in let limits = c.args.limits in let last = c.args.last_group in
    let told = still_tells old mid c.advance.ensures.steps.told t in
    let moves : IsAdvance old mid first second c.advance.result = record { steps = c.advance.ensures.steps; moved = c.advance.ensures.moved; done = c.advance.ensures.done; not_done = c.advance.ensures.not_done } in
    let moves_on : IsAdvance mid new second c.advance-2.new.backup c.advance-2.result = record { steps = c.advance-2.ensures.steps; moved = c.advance-2.ensures.moved; done = c.advance-2.ensures.done; not_done = c.advance-2.ensures.not_done } in
    leaves_on old mid new (IsBeginning now former number)
    (first_begins number limits last first c.start-backup.ensures former now old mid second c.advance.result moves t facts might)
    (second_begins number limits last first c.start-backup.ensures second c.in_ok-advance.ensures.moved former now mid new c.advance-2.new.backup c.advance-2.result moves_on told
    (facts_step first.number old mid (is_ok c.advance.result) c.advance.ensures.steps t now facts)
    (c.in_ok-advance.ensures.done t former [] (begins_at number limits last first c.start-backup.ensures former old might)))

pub returns-clause-others : goal.returns-clause-others
returns-clause-others g c = let v = g.D.Disk.view in let old = v c.args.disk.now in let mid = v c.advance.new.disk in let first = c.start-backup.result in let second = c.advance.new.backup in let new = v c.advance-2.new.disk in
    λ t file apart.
    let number = c.args.number in let limits = c.args.limits in let last = c.args.last_group in
    file_on old mid new file
    (file_step first.number old mid (is_ok c.advance.result) c.advance.ensures.steps t file (subst (λ (n : ℕ). file ≢ file_of n) (sym (begun_number number limits last first c.start-backup.ensures)) apart))
    (file_step second.number mid new (is_ok c.advance-2.result) c.advance-2.ensures.steps (still_tells old mid c.advance.ensures.steps.told t) file
    (subst (λ (n : ℕ). file ≢ file_of n) (sym (blanked_number number limits last first c.start-backup.ensures second c.in_ok-advance.ensures.moved)) apart))
