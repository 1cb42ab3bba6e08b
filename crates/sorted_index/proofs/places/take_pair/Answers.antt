use Rattle.std.proofs.Common.{◌≡◌, ◌<◌, length, get_or, List, subst, ◌∙◌, true}
use Rattle.std.specs.Ordering.{is_eq}
use Rattle.index_node.specs.declared.entry.NodeEntry.{NodeEntry}
use Rattle.index_node.specs.Order.{entry_order}
use Rattle.sorted_index_laws.specs.Changes.{pair_of}
use Rattle.sorted_index_laws.proofs.Ordered.{ascend}
use Rattle.sorted_index_laws.proofs.PlacesIn.{taken_out}
use Rattle.sorted_index.proofs.places.take_pair.Goals as goal

pub returns-in-Some : goal.returns-in-Some
returns-in-Some c =
    let pair = pair_of c.args.key.now c.args.row in
    let same = c.as_slice.ensures in
    c.remove-gone.ensures.rest ∙ taken_out pair c.args.entries c.in-Some.at (ascend c.args.entries c.requires)
    (subst (λ (es : List NodeEntry). c.in-Some.at < length es) same c.in-Some.ensures.some.0)
    (λ d. subst (λ (es : List NodeEntry). is_eq (entry_order (get_or es c.in-Some.at d) pair) ≡ true) same (c.in-Some.ensures.some.1 d))
