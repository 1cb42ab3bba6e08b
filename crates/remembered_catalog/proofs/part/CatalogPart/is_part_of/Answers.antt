use Rattle.std.proofs.Common.{List, Some, sym, subst, ap, ◌∙◌}
use Rattle.std.specs.Prelude.{option_map}
use Rattle.rdb_types.specs.declared.keys.Dbkey.{Dbkey}
use Rattle.line_view.specs.Knowledge.{Lines}
use Rattle.line_view.specs.Held.{knows}
use Rattle.remembered_catalog.specs.Part.{Part, AreKnown}
use Rattle.remembered_catalog.proofs.Parts.{same_keys}
use Rattle.remembered_catalog.proofs.part.CatalogPart.is_part_of.Goals as goal

pub returns-then-eq : goal.returns-then-eq
returns-then-eq c = λ is.
    let known = knows c.args.known.now in
    let same = same_keys c.in-Some.keys.now.keys c.self.inside.keys.keys (sym c.eq.ensures ∙ c.if-eq.true) in
    record {
      keys = sym c.area.ensures ∙ (ap (option_map (λ keys. keys.now.keys)) c.in-Some.is ∙ (ap (λ (keys : List Dbkey). Some keys) same ∙ ap (λ (p : Part). Some p.keys) c.self.view_is));
      lines = subst (λ (p : Part). AreKnown known p.lines) c.self.view_is (subst (λ (lines : Lines). AreKnown known lines) c.as_slice.ensures.value (c.are_known.ensures is));
    }
