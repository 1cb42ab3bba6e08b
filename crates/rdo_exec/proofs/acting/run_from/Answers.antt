use Rattle.std.proofs.Common.{subst}
use Rattle.line_view.specs.Held.{Held, knows}
use Rattle.rdo_exec.specs.Acted.{IsFoundOf}
use Rattle.rdo_bind.specs.Acting.{written_act}
use Rattle.rdo_exec.proofs.RightRecords.{comes_of}
use Rattle.rdo_exec.proofs.Locks.{acted_so}
use Rattle.rdo_bind.specs.Acting.{act_of}
use Rattle.rdo_acts.specs.declared.work.Given.{Given}
use Rattle.rdo_exec.proofs.FirstNeeds.{acted_needs}
use Rattle.rdo_exec.proofs.acting.run_from.Goals as goal

pub act-known-requires-clause-together : goal.act-known-requires-clause-together
act-known-requires-clause-together c = record { tables = c.requires.together.tables; only = c.requires.together.only; indexed = c.requires.together.indexed; present = c.requires.together.present }

pub returns-clause-comes : goal.returns-clause-comes
returns-clause-comes c = λ word standing free is.
    comes_of word standing (written_act c.args.action.now) c.args.schema.now (knows c.args.known) c.args.behind c.requires.catalog is free c.act-known.result.outcome c.found_of-found.result (subst (λ (b : Held). IsFoundOf c.act-known.result.outcome (knows b) c.args.behind c.found_of-found.result) c.act-known.ensures.known c.found_of-found.ensures) c.act-known.ensures.comes

pub returns-clause-stays : goal.returns-clause-stays
returns-clause-stays c =
    acted_so (written_act c.args.action.now) c.args.schema.now (knows c.args.known) c.args.behind c.requires.catalog c.act-known.result.outcome c.found_of-found.result (subst (λ (b : Held). IsFoundOf c.act-known.result.outcome (knows b) c.args.behind c.found_of-found.result) c.act-known.ensures.known c.found_of-found.ensures) c.act-known.ensures.areas

pub returns-clause-needs : goal.returns-clause-needs
returns-clause-needs c =
    let given : Given = record { alloc = c.args.alloc; schema = c.args.schema; sources = c.args.sources } in
    acted_needs given (knows c.args.known) c.args.behind (act_of c.args.action.now) c.requires.catalog c.requires.together c.requires.bound c.act-known.result.outcome c.found_of-found.result (subst (λ (b : Held). IsFoundOf c.act-known.result.outcome (knows b) c.args.behind c.found_of-found.result) c.act-known.ensures.known c.found_of-found.ensures) c.act-known.ensures.lacks c.act-known.ensures.wants c.act-known.ensures.behind
