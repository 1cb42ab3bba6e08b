use Rattle.std.proofs.Common.{◌≡◌, inl, inr, IsErrOf, refl, sym, ◌∙◌, ap, subst, arith}
use Rattle.rmu_recover.specs.declared.fault.RecoverFault.{RecoverFault}
use Rattle.rmu_recover.specs.declared.fault.RecoverFault.TheVariants.{Failed}
use Rattle.rmu_keeping.specs.Rolling.{rolling_status}
use Rattle.rmu_keeping.proofs.Rolled.{gave_up, not_rolled, not_three, not_four, not_gave_up, one_count, one_fault, no_fault, none_given_up, failed, refused, not_both}
use Rattle.rmu_keeping.proofs.recovering.recover_command.Goals as goal

-- ---- carried out

pub returns-in-Ok-clause-rolled : goal.returns-in-Ok-clause-rolled
returns-in-Ok-clause-rolled g c = λ has t former root forward journals groups aij classes to_roll source takes sound image now.
    c.in-Ok.ensures.rolled t former root forward journals groups aij classes to_roll source takes sound image now

pub returns-in-Ok-clause-tells : goal.returns-in-Ok-clause-tells
returns-in-Ok-clause-tells g c = record {
  count = c.in-Ok.count;
  laid = λ has t may. c.in-Ok.ensures.count t may.former may.root may.forward may.journals may.groups may.aij may.to_roll may.source;
  none = λ has t used. elim (c.recover.ensures.idle t used.root used.is used.state) [
    | inl idle ↦ one_count c.in-Ok.count 0 c.recover.result c.in-Ok.is idle
    | inr gave ↦ absurd (no_fault c.in-Ok.count Failed c.recover.result c.in-Ok.is gave)
  ];
  whole = λ tells zero_is. c.write_count.ensures.whole tells zero_is;
  front = λ tells six. c.write_count.ensures.front tells six;
  nothing = λ tells gave. absurd (not_gave_up c.write_count.result c.write_count.ensures.status gave);
}

pub returns-in-Ok-clause-device : goal.returns-in-Ok-clause-device
returns-in-Ok-clause-device g c is = absurd (not_three c.write_count.result c.write_count.ensures.status is)

pub returns-in-Ok-clause-refused : goal.returns-in-Ok-clause-refused
returns-in-Ok-clause-refused g c is t may = not_four c.write_count.result c.write_count.ensures.status is

pub returns-in-Ok-clause-taken : goal.returns-in-Ok-clause-taken
returns-in-Ok-clause-taken g c is t used = not_four c.write_count.result c.write_count.ensures.status is

pub returns-in-Ok-clause-gap : goal.returns-in-Ok-clause-gap
returns-in-Ok-clause-gap g c = λ t lacks.
    let missing = c.recover.ensures.missing t lacks.former lacks.root lacks.forward lacks.journals lacks.number lacks.to_roll lacks.stand lacks.missing in
    absurd (none_given_up c.in-Ok.count c.recover.result c.in-Ok.is missing.0)

pub returns-in-Ok-clause-unfitting : goal.returns-in-Ok-clause-unfitting
returns-in-Ok-clause-unfitting g c = λ t has.
    let unfit = c.recover.ensures.unfitting t has.former has.root has.forward has.journals has.groups has.to_roll has.has has.unfit in
    absurd (none_given_up c.in-Ok.count c.recover.result c.in-Ok.is unfit.0)

-- ---- given up

pub returns-in-Err-clause-rolled : goal.returns-in-Err-clause-rolled
returns-in-Err-clause-rolled g c = λ has. absurd (not_rolled c.status_of_rolling.result (gave_up c.in-Err.fault c.status_of_rolling.result c.status_of_rolling.ensures) has)

pub returns-in-Err-clause-tells : goal.returns-in-Err-clause-tells
returns-in-Err-clause-tells g c =
    let gave = gave_up c.in-Err.fault c.status_of_rolling.result c.status_of_rolling.ensures in
    record {
      count = 0;
      laid = λ has t may. absurd (not_rolled c.status_of_rolling.result gave has);
      none = λ has t used. absurd (not_rolled c.status_of_rolling.result gave has);
      whole = λ tells zero_is. absurd (not_rolled c.status_of_rolling.result gave (inl zero_is));
      front = λ tells six. absurd (not_rolled c.status_of_rolling.result gave (inr six));
      nothing = λ tells of. refl;
    }

pub returns-in-Err-clause-device : goal.returns-in-Err-clause-device
returns-in-Err-clause-device g c is =
    let met = failed c.in-Err.fault c.status_of_rolling.result c.status_of_rolling.ensures is in
    c.recover.ensures.failed (subst (λ (f : RecoverFault). IsErrOf c.recover.result f) met c.in-Err.is)

pub returns-in-Err-clause-refused : goal.returns-in-Err-clause-refused
returns-in-Err-clause-refused g c is t may = elim (refused c.in-Err.fault c.status_of_rolling.result c.status_of_rolling.ensures is) [
  | inl met ↦ not_both may.groups met.0 _ may.source.follows (c.recover.ensures.gap met.0 (subst (λ (f : RecoverFault). IsErrOf c.recover.result f) met.1 c.in-Err.is) t may.former may.root may.forward may.journals may.to_roll may.source.journals_stand)
  | inr (inl met) ↦ c.recover.ensures.unfit met.0 (subst (λ (f : RecoverFault). IsErrOf c.recover.result f) met.1 c.in-Err.is) t may.former may.root may.forward may.journals may.groups may.to_roll (record { journals_stand = may.source.journals_stand; follows = may.source.follows }) may.fits.fit
  | inr (inr met) ↦ c.recover.ensures.bad met.0 met.1 (subst (λ (f : RecoverFault). IsErrOf c.recover.result f) met.2 c.in-Err.is) t may.former may.root may.forward may.journals may.groups may.aij may.to_roll may.source may.fits.first
]

pub returns-in-Err-clause-taken : goal.returns-in-Err-clause-taken
returns-in-Err-clause-taken g c is t used = elim (c.recover.ensures.idle t used.root used.is used.state) [
  | inl idle ↦ no_fault 0 c.in-Err.fault c.recover.result idle c.in-Err.is
  | inr gave ↦
      let three : c.status_of_rolling.result ≡ 3 = c.status_of_rolling.ensures ∙ ap rolling_status (one_fault c.in-Err.fault Failed c.recover.result c.in-Err.is gave) in
      omega (arith, three, is)
]

pub returns-in-Err-clause-gap : goal.returns-in-Err-clause-gap
returns-in-Err-clause-gap g c = λ t lacks.
    let missing = c.recover.ensures.missing t lacks.former lacks.root lacks.forward lacks.journals lacks.number lacks.to_roll lacks.stand lacks.missing in
    (λ has. not_rolled c.status_of_rolling.result (gave_up c.in-Err.fault c.status_of_rolling.result c.status_of_rolling.ensures) has, missing.1)

pub returns-in-Ok-clause-in_use : goal.returns-in-Ok-clause-in_use
returns-in-Ok-clause-in_use g c = λ t used. c.recover.ensures.in_use t used.root used.is used.state

pub returns-in-Err-clause-in_use : goal.returns-in-Err-clause-in_use
returns-in-Err-clause-in_use g c = λ t used. c.recover.ensures.in_use t used.root used.is used.state

pub returns-in-Err-clause-unfitting : goal.returns-in-Err-clause-unfitting
returns-in-Err-clause-unfitting g c = λ t has.
    let unfit = c.recover.ensures.unfitting t has.former has.root has.forward has.journals has.groups has.to_roll has.has has.unfit in
    (λ rolled. not_rolled c.status_of_rolling.result (gave_up c.in-Err.fault c.status_of_rolling.result c.status_of_rolling.ensures) rolled, unfit.1)
