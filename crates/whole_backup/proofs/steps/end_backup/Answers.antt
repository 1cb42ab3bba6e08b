use Rattle.std.specs.Prelude.{is_ok}
use Rattle.std.proofs.Common.{◌≡◌, ◌≢◌, ◌≤◌, ◌<◌, ◌+◌, ◌^◌, ◌∙◌, ℕ, inl, inr, refl, sym, subst, arith}
use Rattle.backup_making.specs.declared.making.Backup.{Backup}
use Rattle.backup_making.specs.declared.making.Stage.{Stage}
use Rattle.backup_making.specs.declared.making.Stage.TheVariants.{Open, Closed, Headed, Ended}
use Rattle.backup_making.specs.Making.{file_of, head_of}
use Rattle.line_moves.proofs.Runs.{still_tells}
use Rattle.line_opening.proofs.Standing.{leaves_on}
use Rattle.database_opening.proofs.Others.{file_on}
use Rattle.copied_lines.proofs.Others.{file_step}
use Rattle.copied_lines.proofs.Runs.{facts_step}
use Rattle.whole_backup.specs.Making.{IsEnding}
use Rattle.whole_backup.proofs.Advances.{IsAdvance, number_on, late_step, ending_before, closed_stage, headed_stage, ended_at, both_done}
use Rattle.whole_backup.proofs.steps.end_backup.Goals as goal

pub advance-requires : goal.advance-requires
advance-requires g c =
    record {
      goes_on = subst (λ (s : Stage). s ≢ Ended) (sym c.requires.is_open) (λ (bad : Open ≡ Ended). cc);
      last_group = c.requires.last_group;
      room = c.requires.room;
    }

pub advance-requires-2 : goal.advance-requires-2
advance-requires-2 g c = let moved = c.in_ok-advance.ensures.moved in
    record {
      goes_on = subst (λ (s : Stage). s ≢ Ended) (sym (closed_stage c.args.backup.now c.advance.new.backup c.requires.is_open moved)) (λ (bad : Closed ≡ Ended). cc);
      last_group = subst (λ (b : Backup). b.last_group ≤ 2 ^ 62) (sym moved) c.requires.last_group;
      room = subst (λ (b : Backup). b.lines + 1 < 2 ^ 32) (sym moved) c.requires.room;
    }

pub advance-requires-3 : goal.advance-requires-3
advance-requires-3 g c = let moved = c.in_ok-advance.ensures.moved in let more = c.in_ok-advance-2.ensures.moved in
    record {
      goes_on = subst (λ (s : Stage). s ≢ Ended) (sym (headed_stage c.args.backup.now c.advance.new.backup c.requires.is_open moved c.advance-2.new.backup more)) (λ (bad : Headed ≡ Ended). cc);
      last_group = subst (λ (b : Backup). b.last_group ≤ 2 ^ 62) (sym more) (subst (λ (b : Backup). b.last_group ≤ 2 ^ 62) (sym moved) c.requires.last_group);
      room = subst (λ (b : Backup). b.lines + 1 < 2 ^ 32) (sym more) (subst (λ (b : Backup). b.lines + 1 < 2 ^ 32) (sym moved) c.requires.room);
    }

pub returns-in_err-advance-clause-told : goal.returns-in_err-advance-clause-told
returns-in_err-advance-clause-told g c = c.advance.ensures.steps.told

pub returns-in_err-advance-clause-no_fewer : goal.returns-in_err-advance-clause-no_fewer
returns-in_err-advance-clause-no_fewer g c = c.advance.ensures.steps.no_fewer

pub returns-in_err-advance-clause-keeps : goal.returns-in_err-advance-clause-keeps
returns-in_err-advance-clause-keeps g c = let v = g.D.Disk.view in let old = v c.args.disk.now in let mid = v c.advance.new.disk in let b = c.args.backup.now in
    λ t now facts.
    facts_step b.number old mid (is_ok c.advance.result) c.advance.ensures.steps t now facts

pub returns-in_err-advance-clause-ending : goal.returns-in_err-advance-clause-ending
returns-in_err-advance-clause-ending g c = let v = g.D.Disk.view in let old = v c.args.disk.now in let mid = v c.advance.new.disk in let b = c.args.backup.now in
    λ t now former copies facts at.
    let moves : IsAdvance old mid b c.advance.new.backup c.advance.result = record { steps = c.advance.ensures.steps; moved = c.advance.ensures.moved; done = c.advance.ensures.done; not_done = c.advance.ensures.not_done } in
    late_step former now old mid b c.advance.new.backup c.advance.result moves t Open c.requires.is_open facts (inl refl) (inr refl) copies at

pub returns-in_err-advance-clause-others : goal.returns-in_err-advance-clause-others
returns-in_err-advance-clause-others g c = let v = g.D.Disk.view in let old = v c.args.disk.now in let mid = v c.advance.new.disk in let b = c.args.backup.now in
    λ t file apart.
    file_step b.number old mid (is_ok c.advance.result) c.advance.ensures.steps t file apart

pub returns-in_err-advance-2-clause-told : goal.returns-in_err-advance-2-clause-told
returns-in_err-advance-2-clause-told g c = c.advance-2.ensures.steps.told ∙ c.advance.ensures.steps.told

pub returns-in_err-advance-2-clause-no_fewer : goal.returns-in_err-advance-2-clause-no_fewer
returns-in_err-advance-2-clause-no_fewer g c = let one = c.advance.ensures.steps.no_fewer in let two = c.advance-2.ensures.steps.no_fewer in omega (arith, one, two)

pub returns-in_err-advance-2-clause-keeps : goal.returns-in_err-advance-2-clause-keeps
returns-in_err-advance-2-clause-keeps g c = let v = g.D.Disk.view in let old = v c.args.disk.now in let mid = v c.advance.new.disk in let b = c.args.backup.now in let after = v c.advance-2.new.disk in let second = c.advance.new.backup in
    λ t now facts.
    let told = still_tells old mid c.advance.ensures.steps.told t in
    facts_step second.number mid after (is_ok c.advance-2.result) c.advance-2.ensures.steps told now
    (facts_step b.number old mid (is_ok c.advance.result) c.advance.ensures.steps t now facts)

pub returns-in_err-advance-2-clause-ending : goal.returns-in_err-advance-2-clause-ending
returns-in_err-advance-2-clause-ending g c = let v = g.D.Disk.view in let old = v c.args.disk.now in let mid = v c.advance.new.disk in let b = c.args.backup.now in let after = v c.advance-2.new.disk in let second = c.advance.new.backup in
    λ t now former copies facts at.
    let told = still_tells old mid c.advance.ensures.steps.told t in
    let moves : IsAdvance old mid b c.advance.new.backup c.advance.result = record { steps = c.advance.ensures.steps; moved = c.advance.ensures.moved; done = c.advance.ensures.done; not_done = c.advance.ensures.not_done } in
    let moves_on : IsAdvance mid after second c.advance-2.new.backup c.advance-2.result = record { steps = c.advance-2.ensures.steps; moved = c.advance-2.ensures.moved; done = c.advance-2.ensures.done; not_done = c.advance-2.ensures.not_done } in
    let then_facts = facts_step b.number old mid (is_ok c.advance.result) c.advance.ensures.steps t now facts in
    let then_at = c.in_ok-advance.ensures.done t former copies at in
    leaves_on old mid after (IsEnding now (head_of b copies) copies b.number)
    (late_step former now old mid b c.advance.new.backup c.advance.result moves t Open c.requires.is_open facts (inl refl) (inr refl) copies at)
    (ending_before now mid after copies b second c.in_ok-advance.ensures.moved
    (late_step former now mid after second c.advance-2.new.backup c.advance-2.result moves_on told Closed (closed_stage b second c.requires.is_open c.in_ok-advance.ensures.moved) then_facts (inr refl) (inr refl) copies then_at))

pub returns-in_err-advance-2-clause-others : goal.returns-in_err-advance-2-clause-others
returns-in_err-advance-2-clause-others g c = let v = g.D.Disk.view in let old = v c.args.disk.now in let mid = v c.advance.new.disk in let b = c.args.backup.now in let after = v c.advance-2.new.disk in let second = c.advance.new.backup in
    λ t file apart.
    let told = still_tells old mid c.advance.ensures.steps.told t in
    file_on old mid after file
    (file_step b.number old mid (is_ok c.advance.result) c.advance.ensures.steps t file apart)
    (file_step second.number mid after (is_ok c.advance-2.result) c.advance-2.ensures.steps told file (subst (λ (n : ℕ). file ≢ file_of n) (sym (number_on b second c.in_ok-advance.ensures.moved)) apart))

pub returns-clause-told : goal.returns-clause-told
returns-clause-told g c = c.advance-3.ensures.steps.told ∙ c.advance-2.ensures.steps.told ∙ c.advance.ensures.steps.told

pub returns-clause-no_fewer : goal.returns-clause-no_fewer
returns-clause-no_fewer g c = let one = c.advance.ensures.steps.no_fewer in let two = c.advance-2.ensures.steps.no_fewer in let three = c.advance-3.ensures.steps.no_fewer in omega (arith, one, two, three)

pub returns-clause-keeps : goal.returns-clause-keeps
returns-clause-keeps g c = let v = g.D.Disk.view in let old = v c.args.disk.now in let mid = v c.advance.new.disk in let b = c.args.backup.now in let after = v c.advance-2.new.disk in let second = c.advance.new.backup in let new = v c.advance-3.new.disk in let third = c.advance-2.new.backup in
    λ t now facts.
    let told = still_tells old mid c.advance.ensures.steps.told t in
    let then_told = still_tells mid after c.advance-2.ensures.steps.told told in
    facts_step third.number after new (is_ok c.advance-3.result) c.advance-3.ensures.steps then_told now
    (facts_step second.number mid after (is_ok c.advance-2.result) c.advance-2.ensures.steps told now
    (facts_step b.number old mid (is_ok c.advance.result) c.advance.ensures.steps t now facts))

pub returns-clause-ending : goal.returns-clause-ending
returns-clause-ending g c = let v = g.D.Disk.view in let old = v c.args.disk.now in let mid = v c.advance.new.disk in let b = c.args.backup.now in let after = v c.advance-2.new.disk in let second = c.advance.new.backup in let new = v c.advance-3.new.disk in let third = c.advance-2.new.backup in
    λ t now former copies facts at.
    let told = still_tells old mid c.advance.ensures.steps.told t in
    let then_told = still_tells mid after c.advance-2.ensures.steps.told told in
    let moves : IsAdvance old mid b c.advance.new.backup c.advance.result = record { steps = c.advance.ensures.steps; moved = c.advance.ensures.moved; done = c.advance.ensures.done; not_done = c.advance.ensures.not_done } in
    let moves_on : IsAdvance mid after second c.advance-2.new.backup c.advance-2.result = record { steps = c.advance-2.ensures.steps; moved = c.advance-2.ensures.moved; done = c.advance-2.ensures.done; not_done = c.advance-2.ensures.not_done } in
    let then_facts = facts_step b.number old mid (is_ok c.advance.result) c.advance.ensures.steps t now facts in
    let then_at = c.in_ok-advance.ensures.done t former copies at in
    let moves_last : IsAdvance after new third c.advance-3.new.backup c.advance-3.result = record { steps = c.advance-3.ensures.steps; moved = c.advance-3.ensures.moved; done = c.advance-3.ensures.done; not_done = c.advance-3.ensures.not_done } in
    let last_facts = facts_step second.number mid after (is_ok c.advance-2.result) c.advance-2.ensures.steps told now then_facts in
    let last_at = c.in_ok-advance-2.ensures.done told former copies then_at in
    leaves_on old after new (IsEnding now (head_of b copies) copies b.number)
    (leaves_on old mid after (IsEnding now (head_of b copies) copies b.number)
    (late_step former now old mid b c.advance.new.backup c.advance.result moves t Open c.requires.is_open facts (inl refl) (inr refl) copies at)
    (ending_before now mid after copies b second c.in_ok-advance.ensures.moved
    (late_step former now mid after second c.advance-2.new.backup c.advance-2.result moves_on told Closed (closed_stage b second c.requires.is_open c.in_ok-advance.ensures.moved) then_facts (inr refl) (inr refl) copies then_at)))
    (ending_before now after new copies b second c.in_ok-advance.ensures.moved (ending_before now after new copies second third c.in_ok-advance-2.ensures.moved
    (late_step former now after new third c.advance-3.new.backup c.advance-3.result moves_last then_told Headed (headed_stage b second c.requires.is_open c.in_ok-advance.ensures.moved third c.in_ok-advance-2.ensures.moved) last_facts (inr refl) (inr refl) copies last_at)))

pub returns-clause-others : goal.returns-clause-others
returns-clause-others g c = let v = g.D.Disk.view in let old = v c.args.disk.now in let mid = v c.advance.new.disk in let b = c.args.backup.now in let after = v c.advance-2.new.disk in let second = c.advance.new.backup in let new = v c.advance-3.new.disk in let third = c.advance-2.new.backup in
    λ t file apart.
    let told = still_tells old mid c.advance.ensures.steps.told t in
    let then_told = still_tells mid after c.advance-2.ensures.steps.told told in
    file_on old after new file
    (file_on old mid after file
    (file_step b.number old mid (is_ok c.advance.result) c.advance.ensures.steps t file apart)
    (file_step second.number mid after (is_ok c.advance-2.result) c.advance-2.ensures.steps told file (subst (λ (n : ℕ). file ≢ file_of n) (sym (number_on b second c.in_ok-advance.ensures.moved)) apart)))
    (file_step third.number after new (is_ok c.advance-3.result) c.advance-3.ensures.steps then_told file (subst (λ (n : ℕ). file ≢ file_of n) (sym (number_on second third c.in_ok-advance-2.ensures.moved ∙ number_on b second c.in_ok-advance.ensures.moved)) apart))

pub returns-clause-ended : goal.returns-clause-ended
returns-clause-ended g c = let v = g.D.Disk.view in let old = v c.args.disk.now in let mid = v c.advance.new.disk in let b = c.args.backup.now in let after = v c.advance-2.new.disk in let second = c.advance.new.backup in let new = v c.advance-3.new.disk in let third = c.advance-2.new.backup in
    both_done _ _ _ c.advance-3.result (λ moved done t former copies at.
    let told = still_tells old mid c.advance.ensures.steps.told t in
    let then_told = still_tells mid after c.advance-2.ensures.steps.told told in
    ended_at former new copies b second third c.advance-3.new.backup c.requires.is_open c.in_ok-advance.ensures.moved c.in_ok-advance-2.ensures.moved moved
    (done then_told former copies (c.in_ok-advance-2.ensures.done told former copies (c.in_ok-advance.ensures.done t former copies at))))
    c.advance-3.ensures.moved c.advance-3.ensures.done
