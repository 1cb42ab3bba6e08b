use Rattle.std.proofs.Common.{sym, subst, refl, ◌∙◌}
use Rattle.std.proofs.lemmas.Option.{same_Some}
use Rattle.sorted_index_laws.specs.record_format.declared.row.VersionedRow.{VersionedRow}
use Rattle.relation_rows.specs.Stored.{AreValuesIn}
use Rattle.relation_rows.proofs.stored.row_of.Goals as goal

pub returns-then-not-are_values_in-clause-none : goal.returns-then-not-are_values_in-clause-none
returns-then-not-are_values_in-clause-none c = λ row is.
    let same = sym (c.in_ok-found.ensures.again (record { version = is.version; row = is.values }) is.stands) ∙ c.in-Some.is in
    c.if-not-are_values_in.ensures.no refl (subst (λ (f : VersionedRow). AreValuesIn c.args.relation.now f.version f.row) (same_Some _ _ same) is.fit)
