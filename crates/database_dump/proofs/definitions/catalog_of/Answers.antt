use Rattle.std.proofs.Common.{rules, refl, inl, subst}
use Rattle.lines_at_rest.specs.View.{knows}
use Rattle.catalog.specs.Reading.{StopsCatalog, IsBad}
use Rattle.catalog.proofs.Agreements.{no_catalog}
use Rattle.std.proofs.lemmas.Result.{err_from_is_err_and}
use Rattle.areas_at_rest.proofs.Quiet.{none_refused}
use Rattle.areas_at_rest.proofs.Defined.{no_next}
use Rattle.database_dump.proofs.definitions.catalog_of.Goals as goal

pub returns-in-Ok-clause-catalog : goal.returns-in-Ok-clause-catalog
returns-in-Ok-clause-catalog g c = λ t left so groups lines lays stands.
    c.in-Ok.ensures.catalog lines (c.in_ok-known.ensures.agrees 1 (inl (refl, refl)) t left so groups lines lays stands)

pub unreachable-requires : goal.unreachable-requires
unreachable-requires g c =
    no_next (knows c.in_ok-known.known) c.in-Err-Missing.field-0-0 c.in_ok-known.ensures.known
    (subst (StopsCatalog (knows c.in_ok-known.known)) c.in-Err-Missing.field-0-is c.in-Err-Missing.ensures.stop)

pub returns-in-Err-Bad-clause-refused : goal.returns-in-Err-Bad-clause-refused
returns-in-Err-Bad-clause-refused g c = λ file slot is t pass t2 left so groups lines lays stands cat decodes.
    let bad : IsBad (knows c.in_ok-known.known) c.in-Err-Bad.key = subst (StopsCatalog (knows c.in_ok-known.known)) c.in-Err-Bad.field-0-is c.in-Err-Bad.ensures.stop in
    no_catalog (knows c.in_ok-known.known) lines c.in-Err-Bad.key cat (c.in_ok-known.ensures.agrees 1 (inl (refl, refl)) t2 left so groups lines lays stands) bad decodes

pub returns-in_err-known-clause-refused : goal.returns-in_err-known-clause-refused
returns-in_err-known-clause-refused g c = λ file slot is t pass. absurd
    (let v = g.D.Disk.view in
    let p = err_from_is_err_and c.from_residual.result c.from_residual.ensures.1 in
    none_refused (v c.args.disk.now) (v c.view_of.new.disk) c.view_of.result c.view_of.ensures.quiet t pass file slot (first_of (cc, search rules)))
