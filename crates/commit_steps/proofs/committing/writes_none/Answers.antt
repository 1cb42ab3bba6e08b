use Rattle.std.proofs.Common.{length, sym, ap, subst, ◌∙◌}
use Rattle.std.proofs.lemmas.Bool.{eqb-true, false≢true}
use Rattle.rdb_types.specs.declared.keys.Dbkey.{Dbkey}
use Rattle.member_steps.specs.declared.committing.CommitTurn.{CommitTurn}
use Rattle.disk_store.specs.Commits.{HasSome}
use Rattle.disk_store.proofs.CommitsKept.{ready-now}
use Rattle.commit_steps.proofs.committing.writes_none.Goals as goal

pub returns-in-Entering-clause-none : goal.returns-in-Entering-clause-none
returns-in-Entering-clause-none c e =
    record {
      member = c.member.result.now;
      is = c.member.ensures;
      none = ap (λ ks. length {A = Dbkey} ks) (sym c.keys.ensures.value) ∙ eqb-true _ 0 (sym c.is_empty.ensures ∙ e);
      at = c.in-Entering.field-0;
      begins = c.in-Entering.is;
    }

pub returns-in-Securing : goal.returns-in-Securing
returns-in-Securing c = record {
  none = λ bad. absurd (false≢true bad);
  some = λ no m is. subst (λ (t : CommitTurn). HasSome t (length m.written.keys)) c.in-Securing.is (ready-now c.args.held.now c.args.s.number m c.args.turn c.keeps_commits.ensures c.requires.commits is).1;
}

pub returns-in-Going : goal.returns-in-Going
returns-in-Going c = record {
  none = λ bad. absurd (false≢true bad);
  some = λ no m is. subst (λ (t : CommitTurn). HasSome t (length m.written.keys)) c.in-Going.is (ready-now c.args.held.now c.args.s.number m c.args.turn c.keeps_commits.ensures c.requires.commits is).1;
}
