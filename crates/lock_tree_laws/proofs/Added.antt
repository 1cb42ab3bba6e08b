-- How the trail grows as a want is asked.
use Rattle.std.proofs.Common.{◌≡◌, ℕ, true, List, [], ◌∷◌, ◌++◌, Some, sym, ap, subst, ◌∙◌, append-nil, append_assoc}
use Rattle.std.specs.List.{AllByRecursion}
use Rattle.std.proofs.lemmas.List.{map-append}
use Rattle.rdb_types.specs.declared.node.Node.{Node}
use Rattle.lock_needs.specs.declared.need.Need.{Need}
use Rattle.lock_needs.specs.declared.party.OpenWant.{OpenWant}
use Rattle.lock_needs.specs.declared.party.Asked.{Asked}
use Rattle.lock_needs.specs.Nodes.{is_on}
use Rattle.lock_needs.specs.Wants.{IsOnWay}
use Rattle.lock_tree_laws.specs.Forest.{State, IsWhole, opened_of}
use Rattle.lock_tree_laws.specs.Parties.{unasked}
use Rattle.lock_tree_laws.specs.Wanted.{AddsAsks, asks_for}

pub adds-none : (owner : ℕ) (need : Need) (old new : List Asked) → new ≡ old → AddsAsks owner need old new
adds-none owner need old new h = record { nodes = []; added = h ∙ sym (append-nil old); way = tt }

pub adds-one : (owner : ℕ) (need : Need) (n : Node) (old new : List Asked) → is_on n need.node ≡ true → new ≡ old ++ (record { owner = owner; node = n }) ∷ [] → AddsAsks owner need old new
adds-one owner need n old new on h = record { nodes = n ∷ []; added = h; way = (on, tt) }

pub way-append : (need : Need) (xs ys : List Node) → AllByRecursion (λ n. is_on n need.node ≡ true) xs → AllByRecursion (λ n. is_on n need.node ≡ true) ys → AllByRecursion (λ n. is_on n need.node ≡ true) (xs ++ ys)
way-append need [] ys a b = b
way-append need (x ∷ xs) ys a b = (a.0, way-append need xs ys a.1 b)

pub adds-then : (owner : ℕ) (need : Need) (a b c : List Asked) → AddsAsks owner need a b → AddsAsks owner need b c → AddsAsks owner need a c
adds-then owner need a b c x y = record {
  nodes = x.nodes ++ y.nodes;
  added = y.added ∙ (ap (λ l. l ++ asks_for owner y.nodes) x.added ∙ (append_assoc a (asks_for owner x.nodes) (asks_for owner y.nodes) ∙ ap (λ l. a ++ l) (sym (map-append (λ n. record { owner = owner; node = n }) x.nodes y.nodes))));
  way = way-append need x.nodes y.nodes x.way y.way;
}

-- an open want has come to a node on its way
pub way-on : (s : State) (owner : ℕ) (w : OpenWant) → IsWhole s → opened_of s owner ≡ Some (unasked w) → is_on w.here w.need.node ≡ true
way-on s owner w whole e = subst IsOnWay e (whole.kept owner).way
