use Rattle.std.proofs.Common.{rules}
use Rattle.std.proofs.lemmas.Fn.{always_returns_same}
use Rattle.ordered_entries.proofs.Place.{searched}
use Rattle.ordered_entries.proofs.entries.Entries.place.Goals as goal

-- the closure answers by a key, and the slice is the map's entries
pub returns : goal.returns
returns g c =
    let facts = c.binary_search_by.ensures in
    let position = facts.position (λ e. g.K.Key.order e.0 c.args.key.now) (always_returns_same _ _ _ (λ a r f called. (search rules, search rules))) in
    let ends = searched g.K.Key.order g.met.K.Key.total c.args.key.now c.deref.result.now (rw c.deref.ensures.value c.self.invariant) _ facts.bound position in
    rw (← c.self.view_is, ← c.deref.ensures.value) (record { found = ends.0; absent = ends.1; ordered = rw c.deref.ensures.value c.self.invariant })
