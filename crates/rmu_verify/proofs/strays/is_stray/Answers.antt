use Rattle.std.proofs.Common.{rules, ◌≡◌, ◌∙◌, ◌==◌, ◌&&◌, ◌%◌, Bool, true, sym, ap}
use Rattle.std.specs.Prelude.{is_none}
use Rattle.sound_lines.specs.Sound.{relation_in}
use Rattle.verified_lines.specs.Relations.{entry_in}
use Rattle.rmu_verify.proofs.StrayLines.{none_alike, none_from, none_in}
use Rattle.rmu_verify.proofs.strays.is_stray.Goals as goal

pub returns-then-area-eq0 : goal.returns-then-area-eq0
returns-then-area-eq0 c =
    let es = c.args.tables.now.relations in
    let even : (c.args.area % 2 == 0) ≡ true = first_of (cc, search rules) in
    let same : c.is_none.result ≡ is_none (relation_in c.args.area es) = none_from c.entry_in.result c.is_none.result c.is_none.ensures ∙ none_alike (λ r. r.now) c.entry_in.result (entry_in c.args.area es) c.entry_in.ensures.some c.entry_in.ensures.none ∙ none_in c.args.area es in
    same ∙ sym (ap (λ (b : Bool). b && is_none (relation_in c.args.area es)) even)
