use Rattle.std.proofs.Common.{◌≡◌, inl, inr, ℕ, true, List, refl, sym, subst, ◌∙◌, arith}
use Rattle.rdb_outside.specs.Runs.{no_calls}
use Rattle.rdb_outside.specs.Moments.{started, each_slot}
use Rattle.database_opening.proofs.Others.{file_unused}
use Rattle.rmu_recover.specs.Recovering.{as_before}
use Rattle.command_words.specs.Copies.{copies_in}
use Rattle.rmu_keeping.specs.Rolling.{MayBeRecovered, LacksGroup, HasUnfit, Rolls, RollsWithin, TellsGroups}
use Rattle.rdb_top.proofs.recovering.run_recover.Goals as goal

-- ---- over the copies that the words name

pub returns-in-Ok-clause-rolled : goal.returns-in-Ok-clause-rolled
returns-in-Ok-clause-rolled g c has t =
    let v = g.D.Disk.view in
    subst (λ (ns : List ℕ). Rolls (v c.args.disk.now) (v c.recover_command.new.disk) ns) (c.as_slice.ensures ∙ c.in-Ok.ensures.value) (c.recover_command.ensures.rolled has t)

pub returns-in-Ok-clause-tells : goal.returns-in-Ok-clause-tells
returns-in-Ok-clause-tells g c =
    let v = g.D.Disk.view in
    subst (λ (ns : List ℕ). TellsGroups (v c.args.disk.now) ns c.recover_command.result (g.K.Sink.tells c.args.out.now ≡ true) (g.K.Sink.taken c.args.out.now) (g.K.Sink.taken c.recover_command.new.out)) (c.as_slice.ensures ∙ c.in-Ok.ensures.value) c.recover_command.ensures.tells

pub returns-in-Ok-clause-refused : goal.returns-in-Ok-clause-refused
returns-in-Ok-clause-refused g c four t may =
    let v = g.D.Disk.view in
    c.recover_command.ensures.refused four t (subst (λ (ns : List ℕ). MayBeRecovered (v c.args.disk.now) ns) (sym (c.as_slice.ensures ∙ c.in-Ok.ensures.value)) may)

pub returns-in-Ok-clause-gap : goal.returns-in-Ok-clause-gap
returns-in-Ok-clause-gap g c t lacks =
    let v = g.D.Disk.view in
    c.recover_command.ensures.gap t (subst (λ (ns : List ℕ). LacksGroup (v c.args.disk.now) ns) (sym (c.as_slice.ensures ∙ c.in-Ok.ensures.value)) lacks)

pub returns-in-Ok-clause-unfitting : goal.returns-in-Ok-clause-unfitting
returns-in-Ok-clause-unfitting g c t has =
    let v = g.D.Disk.view in
    c.recover_command.ensures.unfitting t (subst (λ (ns : List ℕ). HasUnfit (v c.args.disk.now) ns) (sym (c.as_slice.ensures ∙ c.in-Ok.ensures.value)) has)

pub returns-in-Ok-clause-within : goal.returns-in-Ok-clause-within
returns-in-Ok-clause-within g c t =
    let v = g.D.Disk.view in
    subst (λ (ns : List ℕ). RollsWithin (v c.args.disk.now) (v c.recover_command.new.disk) ns) (c.as_slice.ensures ∙ c.in-Ok.ensures.value) (c.recover_command.ensures.within t)

-- ---- no memory for their numbers

pub returns-in-Err-clause-tells : goal.returns-in-Err-clause-tells
returns-in-Err-clause-tells g c = record {
  count = 0;
  laid = λ has. absurd (omega (arith, has));
  none = λ has. absurd (omega (arith, has));
  whole = λ tells is. absurd (omega (arith, is));
  front = λ tells is. absurd (omega (arith, is));
  nothing = λ tells gave. refl;
}

pub returns-in-Err-clause-gap : goal.returns-in-Err-clause-gap
returns-in-Err-clause-gap g c t lacks = (λ has. omega (arith, has), no_calls (g.D.Disk.view c.args.disk.now))

pub returns-in-Err-clause-unfitting : goal.returns-in-Err-clause-unfitting
returns-in-Err-clause-unfitting g c t has = (λ rolled. omega (arith, rolled), no_calls (g.D.Disk.view c.args.disk.now))

pub returns-in-Err-clause-in_use : goal.returns-in-Err-clause-in_use
returns-in-Err-clause-in_use g c t used = no_calls (g.D.Disk.view c.args.disk.now)

pub returns-in-Err-clause-within : goal.returns-in-Err-clause-within
returns-in-Err-clause-within g c = λ t former root forward journals groups aij classes to_roll source takes sound.
    let v = g.D.Disk.view c.args.disk.now in
    started v _ (λ image left. as_before (each_slot v image left))

pub returns-in-Err-clause-others : goal.returns-in-Err-clause-others
returns-in-Err-clause-others g c t file other = file_unused (g.D.Disk.view c.args.disk.now) t file
