use Rattle.std.proofs.Common.{◌≡◌, ◌++◌, ◌∙◌, rules}
use Rattle.std.specs.Prelude.{codes}
use Rattle.std.specs.List.{flat_map}
use Rattle.rmu_texts.specs.Dump.{root_lines, counted_line, groups_line}
use Rattle.rmu_texts.proofs.Lines.{on_ok, four}
use Rattle.rmu_texts.proofs.dump.dump_text.Goals as goal

pub returns : goal.returns
returns c =
    let d = c.args.dump.now in
    let relations : c.as_slice.result.now ≡ d.relations = search rules in
    let indexes : c.as_slice-2.result.now ≡ d.indexes = search rules in
    on_ok c.groups_line.result
    (λ last. four c.args.out.now (root_lines d.root) (flat_map (counted_line (codes "relation ")) c.as_slice.result.now) (flat_map (counted_line (codes "index ")) c.as_slice-2.result.now) (groups_line d.groups) _ _ _ _
    c.in_ok-root_lines.ensures c.in_ok-counted_lines.ensures c.in_ok-counted_lines-2.ensures last
    ∙ (λ i. c.args.out.now ++ (root_lines d.root ++ flat_map (counted_line (codes "relation ")) (relations i) ++ flat_map (counted_line (codes "index ")) (indexes i) ++ groups_line d.groups))) c.groups_line.ensures
