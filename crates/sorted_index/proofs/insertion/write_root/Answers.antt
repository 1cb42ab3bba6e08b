use Rattle.std.proofs.Common.{◌≡◌, ◌+◌, ◌++◌, ◌∷◌, [], ℕ, List, get_or, Some, sym, refl, ap, subst, ◌∙◌, arith}
use Rattle.index_node.specs.declared.entry.NodeEntry.{NodeEntry}
use Rattle.index_node.specs.Node.{IsNode}
use Rattle.line_view.specs.declared.writes.Write.{Write}
use Rattle.sorted_index_laws.specs.Insertion.{room_at}
use Rattle.sorted_index_laws.proofs.Cutting.{is_halved, top_laid, two_writes, three_writes, wrote_top}
use Rattle.sorted_index.proofs.insertion.write_root.Goals as goal

pub write_node-requires-4 : goal.write_node-requires-4
write_node-requires-4 g c =
    let l = c.in_ok-lower.field-0.lower in
    let u = c.in_ok-lower.field-0.upper in
    let low = c.index-as_slice-0.result in
    let high = c.index-as_slice-0-2.result in
    let e = c.in_ok-lower.ensures in
    let halved = is_halved c.args.grown l u low high e.levels.0 e.levels.1 e.entries e.some.0 e.some.1 (c.index-as_slice-0.is ∙ ap (λ (es : List NodeEntry). get_or es 0 low) c.as_slice.ensures) (c.index-as_slice-0-2.is ∙ ap (λ (es : List NodeEntry). get_or es 0 high) c.as_slice-2.ensures) in
    top_laid (c.args.grown.level + 1) c.args.grown l u low high c.in_ok-lower_at.lower_at c.in_ok-upper_at.upper_at c.in_ok-entries.entries refl c.requires.grown halved (c.in_ok-entries.ensures.ok ∙ (λ i. c.unbound-low.ensures i ∷ c.in_ok-high.ensures.ok i ∷ []))

pub returns : goal.returns
returns g c =
    let known = g.V.View.knows c.args.view.now in
    let l = c.in_ok-lower.field-0.lower in
    let u = c.in_ok-lower.field-0.upper in
    let low = c.index-as_slice-0.result in
    let high = c.index-as_slice-0-2.result in
    let e = c.in_ok-lower.ensures in
    let halved = is_halved c.args.grown l u low high e.levels.0 e.levels.1 e.entries e.some.0 e.some.1 (c.index-as_slice-0.is ∙ ap (λ (es : List NodeEntry). get_or es 0 low) c.as_slice.ensures) (c.index-as_slice-0-2.is ∙ ap (λ (es : List NodeEntry). get_or es 0 high) c.as_slice-2.ensures) in
    let first : Write = record { key = c.in_ok-lower_at.lower_at; image = Some c.in_ok-write_node.ensures.ok.0 } in
    let second : Write = record { key = c.in_ok-upper_at.upper_at; image = Some c.in_ok-write_node-2.ensures.ok.0 } in
    let old = c.in_ok-upper_at.ensures.writes ∙ c.in_ok-lower_at.ensures.writes in
    let many = c.fits.ensures.no c.if-fits.false in
    let both = two_writes c.write_node-3.new.writes c.write_node-2.new.writes c.take_room-2.new.work.writes c.args.work.now.writes first second c.in_ok-write_node-2.ensures.ok.1.1 c.in_ok-write_node.ensures.ok.1.1 old in
    wrote_top known c.args.work.now.area c.args.root c.args.grown c.args.work.now.rooms c.args.work.now.writes c.write_node-4.new.writes
    ((image : List ℕ) × (IsNode image (record { level = c.args.grown.level + 1; entries = c.in_ok-entries.entries }) × (c.write_node-4.new.writes ≡ c.write_node-3.new.writes ++ record { key = c.args.root; image = Some image } ∷ [])))
    c.write_node-4.result c.write_node-4.ensures.ok c.write_node-4.ensures.err
    (λ w. record {
      lower = l;
      upper = u;
      low = low;
      high = high;
      halved = halved;
      lower_at = c.in_ok-lower_at.lower_at;
      upper_at = c.in_ok-upper_at.upper_at;
      is_lower = c.in_ok-lower_at.ensures.ok;
      is_upper = (λ i. known.room (room_at (sym c.in_ok-lower_at.ensures.area i) (sym c.in_ok-lower_at.ensures.counted i))) ∙ c.in_ok-upper_at.ensures.ok;
      lower_image = c.in_ok-write_node.ensures.ok.0;
      upper_image = c.in_ok-write_node-2.ensures.ok.0;
      image = w.0;
      lower_bears = c.in_ok-write_node.ensures.ok.1.0;
      upper_bears = c.in_ok-write_node-2.ensures.ok.1.0;
      bears = subst (λ (es : List NodeEntry). IsNode w.0 (record { level = c.args.grown.level + 1; entries = es })) (c.in_ok-entries.ensures.ok ∙ (λ i. c.unbound-low.ensures i ∷ c.in_ok-high.ensures.ok i ∷ [])) w.1.0;
      long = omega (arith, many);
      writes = three_writes c.write_node-4.new.writes c.write_node-3.new.writes c.args.work.now.writes first second (record { key = c.args.root; image = Some w.0 }) w.1.1 both;
    })
